-- The bytes that are not dropped are kept.
use Rattle.std.proofs.Common.{rules, ◌-◌, ◌≤◌, length, subst, ℤ, FitsSigned}
use Rattle.std.specs.Int.{w64}
use Rattle.fast_dict.specs.meaning.Slots.{slots_dictionary}
use Rattle.fast_items.specs.device.TextsAs.{LeavesRoom}
use Rattle.fast_units.proofs.LastUnits.{again}
use Rattle.fast_items.proofs.BegunTexts.{leaves_room}
use Rattle.fast_items.proofs.joined_parts.kept_room.Goals as goal

pub returns : goal.returns
returns c =
    let base = c.in_ok-base.base.now in
    let dropped = c.dropped_by-dropped.result in
    let within : dropped ≤ length base = c.if-dropped-base.false in
    let fits : FitsSigned w64 c.args.subtraction = search rules in
    subst (λ (k : ℤ). LeavesRoom c.args.kind c.args.entry k c.args.room (c.args.room - (length base - dropped))
    (slots_dictionary c.args.slots.now)) (again w64 c.args.subtraction fits)
    (leaves_room c.args.kind c.args.entry c.args.room (slots_dictionary c.args.slots.now) base dropped c.in_ok-base.ensures.held within _
    c.dropped_by-dropped.ensures.end c.dropped_by-dropped.ensures.front)
