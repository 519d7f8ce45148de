-- The exponent, and what is behind it.
use Rattle.std.proofs.Common.{refl, sym, ap, ◌∙◌, subst, rules, FitsSigned, Option, ℤ}
use Rattle.std.specs.Int.{w32}
use Rattle.std.specs.Prelude.{Bool, true, Some, if◌then◌else◌}
use Rattle.fast_wire.specs.meaning.Maps.{first_bit}
use Rattle.fast_tree.specs.meaning.Nodes.{field_data}
use Rattle.fast_cursor.specs.device.Cursors.{bits_left}
use Rattle.fast_cursor.specs.device.Places.{at_place}
use Rattle.fast_items.specs.device.DecimalParts.{IsPart}
use Rattle.fast_units.proofs.LastUnits.{again}
use Rattle.fast_machine.specs.device.Positions.{set_of}
use Rattle.fast_loop.proofs.arms.Parts.{usual_uses, exponent_serves, part_within, absent_led}
use Rattle.fast_loop.proofs.part_arms.usual_parts_arm.Goals as goal

pub usual_exponent-read-requires-clause-within : goal.usual_exponent-read-requires-clause-within
usual_exponent-read-requires-clause-within g c = (exponent_serves
    (set_of c.args.templates.now) c.args.limits c.args.machine.now c.args.spot.now c.args.node c.args.exponent.now c.args.mantissa.now
    c.requires.decimal).within

pub keep_exponent-requires-clause-within : goal.keep_exponent-requires-clause-within
keep_exponent-requires-clause-within g c = (exponent_serves
    (set_of c.args.templates.now) c.args.limits c.args.machine.now c.args.spot.now c.args.node c.args.exponent.now c.args.mantissa.now
    c.requires.decimal).within

pub changed_mantissa_arm-requires-clause-bit : goal.changed_mantissa_arm-requires-clause-bit
changed_mantissa_arm-requires-clause-bit g c =
    let m = c.args.machine.now in
    c.in-Some.ensures.bit m.cursor c.requires.decimal.spot.place
    ∙ ap (λ (b : Bool). if b then first_bit (bits_left (at_place m.cursor c.args.spot.now.place)) else true)
    (sym (usual_uses c.args.exponent.now c.requires.usual))

pub changed_mantissa_arm-requires-clause-part : goal.changed_mantissa_arm-requires-clause-part
changed_mantissa_arm-requires-clause-part g c =
    let fits : FitsSigned w32 c.in-Some-part.number = search rules in
    subst (λ (x : Option ℤ). IsPart c.args.exponent.now c.in-Some.bit c.args.limits.strict c.args.spot.now.rest.bytes.now
    c.args.machine.now.slots x c.in-Some-read.used)
    (c.in-Some-part.is ∙ ap Some (sym (again w32 c.in-Some-part.number fits)))
    (c.in-Some-read.ensures.part c.args.limits.strict)

pub pass_absent-requires-clause-within : goal.pass_absent-requires-clause-within
pass_absent-requires-clause-within g c =
    part_within c.args.exponent.now c.in-Some.bit c.args.limits.strict c.args.spot.now.rest.bytes.now c.args.machine.now.slots
    c.in-Some-read.part c.in-Some-read.used (c.in-Some-read.ensures.part c.args.limits.strict)

pub returns-in-None : goal.returns-in-None
returns-in-None g c =
    let set = set_of c.args.templates.now in
    let l = c.args.limits in
    let m = c.args.machine.now in
    let from = c.args.spot.now in
    let e = c.args.exponent.now in
    let f = c.args.mantissa.now in
    let at = c.requires.decimal in
    let mid = c.keep_exponent.new.slots in
    let uses = sym (usual_uses e c.requires.usual) in
    record {
      went = c.pass_absent.ensures.went set l m (record m { slots = mid }) from c.args.node (field_data e) uses refl refl
          (absent_led set l m from c.args.node e f at mid c.in-Some.bit
          (c.in-Some.ensures.bit m.cursor at.spot.place ∙ ap (λ (b : Bool). if b then first_bit (bits_left (at_place m.cursor from.place)) else true) uses)
          c.keep_exponent.ensures.terms c.in-Some-read.used
          (subst (λ (x : Option ℤ). IsPart e c.in-Some.bit l.strict from.rest.bytes.now m.slots x c.in-Some-read.used) c.in-None.is
          (c.in-Some-read.ensures.part l.strict)) c.keep_exponent.ensures.kept c.keep_exponent.ensures.same);
    }
