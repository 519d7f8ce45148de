-- The bytes stand behind their size.
use Rattle.std.proofs.Common.{◌≡◌, ◌+◌, ◌-◌, ◌≤◌, ◌∙◌, ap, take, drop, length, subst, ℤ, FitsSigned}
use Rattle.std.specs.Int.{w64}
use Rattle.std.proofs.lemmas.List.{length-take-le, take_rest}
use Rattle.fast_dict.specs.meaning.Slots.{slots_dictionary}
use Rattle.fast_items.specs.device.TextsAs.{IsJoined}
use Rattle.fast_units.proofs.LastUnits.{again}
use Rattle.fast_items.proofs.part_items.vector_part.Goals as goal

pub returns-clause-part : goal.returns-clause-part
returns-clause-part c =
    let rest = c.args.rest.bytes.now in
    let a = c.in_ok-size.len in
    let size = c.in_ok-size-2.field-0 in
    let part = c.in_ok-part.part.now in
    let behind : take (length rest - a) (drop a rest) ≡ drop a rest = take_rest rest a in
    let within : size ≤ length (drop a rest) = rw (← behind) c.in_ok-part.ensures.within in
    let text : part ≡ take size (drop a rest) = c.in_ok-part.ensures.run ∙ ap (take size) behind in
    let len : length part ≡ size = ap length text ∙ length-take-le size (drop a rest) within in
    let fits : FitsSigned w64 c.args.subtraction = c.ranges.subtraction in
    let j : IsJoined c.args.kind c.args.entry c.args.subtraction part c.args.room (slots_dictionary c.args.slots.now) (slots_dictionary c.join_vector.new.slots)
    = subst (λ (k : ℤ). IsJoined c.args.kind c.args.entry k part c.args.room (slots_dictionary c.args.slots.now)
    (slots_dictionary c.join_vector.new.slots)) (again w64 c.args.subtraction fits) c.in_ok-join_vector.ensures.joined in (
      size,
      a,
      ap (λ n. a + n) len,
      within,
      rw c.in_ok-size-2.was at c.in_ok-size.ensures,
      rw (← text) j,
    )
