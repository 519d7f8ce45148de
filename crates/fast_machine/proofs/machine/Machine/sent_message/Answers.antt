-- A map of one byte, and the identifier behind it.
use Rattle.std.proofs.Common.{refl, ◌∙◌, ◌≡◌, ◌≤◌, subst, arith, rules, get_or, length, take, drop}
use Rattle.std.specs.Prelude.{◌-◌, ℕ, Option, false, pos, Some, option_map}
use Rattle.std.proofs.lemmas.List.{length-drop, take_all}
use Rattle.fast_wire.specs.meaning.Integers.{unsigned_up_to}
use Rattle.fast_fronts.specs.device.Fronts.{IsFirstInt}
use Rattle.fast_fronts.specs.declared.fronts.First.TheVariants.{Whole}
use Rattle.fast_dict.specs.meaning.Slots.{slots_dictionary}
use Rattle.fast_machine.specs.declared.machine.Machine.{Machine}
use Rattle.fast_machine.specs.device.Positions.{set_of}
use Rattle.fast_machine.proofs.steps.FieldTurns.{entries_here, supplied_like}
use Rattle.fast_machine.proofs.machines.Ahead.{ahead_sent}
use Rattle.fast_machine.proofs.machines.KnownStarts.{start_in, supplied_latest}
use Rattle.fast_machine.proofs.machine.Machine.sent_message.Goals as goal

pub set_number-requires-clause-there : goal.set_number-requires-clause-there
set_number-requires-clause-there c =
    let size = entries_here (set_of c.args.templates.now) c.args.limits c.args.self.now c.requires.supplied in
    let some = c.requires.supplied.some_entry in
    omega (arith, size, some)

pub returns-clause-ahead : goal.returns-clause-ahead
returns-clause-ahead c =
    let set = set_of c.args.templates.now in
    let l = c.args.limits in
    let rest = c.args.rest.now in
    let id = c.in_ok-id.id in
    let n = c.in_ok-claimed.len in
    let start = c.in_ok-start.ensures.some in
    let len : length (drop 1 rest) ≡ length rest - 1 = length-drop 1 rest in
    let behind : take (length rest - 1) (drop 1 rest) ≡ drop 1 rest = take_all (length rest - 1) (drop 1 rest) (omega (arith, len)) in
    let whole : IsFirstInt (λ (y : ℕ). Some (pos y)) l.strict (unsigned_up_to 4294967295) false (Whole id n) (drop 1 rest) =
    subst (λ w. IsFirstInt (λ (y : ℕ). Some (pos y)) l.strict (unsigned_up_to 4294967295) false (Whole id n) w) (c.new.ensures ∙ behind)
    (subst (λ (r : Option ℕ). IsFirstInt (λ (y : Option ℕ). option_map pos y) l.strict (unsigned_up_to 4294967295) false (Whole r n)
    c.new.result.bytes.now) c.in_ok-id.was c.in_ok-claimed.ensures) in
    let high : 192 ≤ get_or rest 0 0 = search (rules, c.requires.first) in
    let stop : 128 ≤ get_or rest 0 0 = omega (arith, high) in
    ahead_sent set l c.args.self.now rest c.requires.supplied c.requires.some stop id c.in_ok-start.start.now.number
    start.template start.found start.own start.first n (slots_dictionary c.set_number.new.self) whole c.set_number.ensures.entry high
    (c.type_inv.rest 0).fits

pub returns-clause-start : goal.returns-clause-start
returns-clause-start c = start_in (set_of c.args.templates.now) c.in_ok-id.id c.in_ok-start.start.now c.in_ok-start.ensures.some

pub returns-clause-supplied : goal.returns-clause-supplied
returns-clause-supplied c =
    let set = set_of c.args.templates.now in
    let l = c.args.limits in
    let m : Machine = c.args.self.now in
    let known : Machine = record m { latest = Some c.in_ok-start.start } in
    let supplied = supplied_latest set l m (Some c.in_ok-start.start) c.requires.supplied
    (start_in set c.in_ok-id.id c.in_ok-start.start.now c.in_ok-start.ensures.some) in
    supplied_like set l known (record known { slots = c.set_number.new.self }) supplied
    (record { terms = c.set_number.ensures.same; carry = refl; text = refl; identifier = refl; rests = refl; latest = refl }) c.requires.supplied.counted
