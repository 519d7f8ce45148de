-- Both parts, and the turn behind them.
use Rattle.std.proofs.Common.{refl, sym, ap, ◌∙◌, subst, rules, to_z, of_z, FitsSigned}
use Rattle.std.specs.Int.{w32, w64}
use Rattle.std.specs.Prelude.{ℕ, ◌<◌, ◌≤◌, Bool, true, if◌then◌else◌, length, ℤ, Option, Some, List}
use Rattle.fast_wire.specs.meaning.Maps.{first_bit, later_bits}
use Rattle.fast_value.specs.meaning.Kinds.{ScalarData, Dec}
use Rattle.fast_tree.specs.meaning.Nodes.{field_data}
use Rattle.fast_cursor.specs.device.Cursors.{bits_left}
use Rattle.fast_cursor.specs.device.Places.{at_place}
use Rattle.fast_units.proofs.LastUnits.{again}
use Rattle.fast_loop.specs.device.Parts.{IsLedTo}
use Rattle.fast_items.specs.device.DecimalParts.{KeepsPart, IsPart}
use Rattle.fast_machine.specs.device.Positions.{set_of}
use Rattle.fast_loop.proofs.arms.Parts.{serves_as, exponent_serves, mantissa_serves, both_within, decimal_led}
use Rattle.fast_loop.proofs.part_arms.mantissa_arm.Goals as goal

pub mantissa_part-requires-clause-within : goal.mantissa_part-requires-clause-within
mantissa_part-requires-clause-within g c = (mantissa_serves
    (set_of c.args.templates.now) c.args.limits c.args.machine.now c.args.spot.now c.args.node c.args.exponent.now c.args.mantissa.now
    c.requires.decimal).within

pub keep_part-requires-clause-within : goal.keep_part-requires-clause-within
keep_part-requires-clause-within g c = (exponent_serves
    (set_of c.args.templates.now) c.args.limits c.args.machine.now c.args.spot.now c.args.node c.args.exponent.now c.args.mantissa.now
    c.requires.decimal).within

pub keep_part-requires-2-clause-within : goal.keep_part-requires-2-clause-within
keep_part-requires-2-clause-within g c =
    (serves_as (set_of c.args.templates.now) c.args.limits c.args.machine.now c.args.spot.now c.args.node c.args.exponent.now
    c.args.mantissa.now c.requires.decimal c.keep_part.new.slots c.args.mantissa.now c.keep_part.ensures.terms
    c.requires.decimal.mantissa).within

pub both_len-len-requires : goal.both_len-len-requires
both_len-len-requires g c = record {
  within = both_within c.args.exponent.now c.args.mantissa.now c.args.bit c.in-Some.set c.args.limits.strict c.args.spot.now.rest.bytes.now
      c.skip-behind.result.bytes.now c.args.machine.now.slots c.args.number c.in-Some-mantissa_part.value c.args.used c.in-Some-mantissa_part.bytes
      c.skip-behind.ensures c.requires.part c.in-Some-mantissa_part.ensures;
}

pub hand_behind-requires-clause-within : goal.hand_behind-requires-clause-within
hand_behind-requires-clause-within g c =
    subst (λ len. len ≤ length c.args.spot.now.rest.bytes.now) (sym c.both_len-len.ensures)
    (both_within c.args.exponent.now c.args.mantissa.now c.args.bit c.in-Some.set c.args.limits.strict c.args.spot.now.rest.bytes.now
    c.skip-behind.result.bytes.now c.args.machine.now.slots c.args.number c.in-Some-mantissa_part.value c.args.used c.in-Some-mantissa_part.bytes
    c.skip-behind.ensures c.requires.part c.in-Some-mantissa_part.ensures)

pub returns : goal.returns
returns g c =
    let set = set_of c.args.templates.now in
    let l = c.args.limits in
    let m = c.args.machine.now in
    let from = c.args.spot.now in
    let e = c.args.exponent.now in
    let f = c.args.mantissa.now in
    let x = c.args.number in
    let y = c.in-Some-mantissa_part.value in
    let n = c.in-Some-mantissa_part.bytes in
    let x_fits : FitsSigned w32 x = search rules in
    let y_fits : FitsSigned w64 y = search rules in
    let wide : FitsSigned w64 x = search rules in
    let mid = c.keep_part.new.slots in
    let new = c.keep_part-2.new.slots in
    let p = c.behind_bit-place.result in
    let first : 0 < c.args.used → KeepsPart e m.slots mid (Some x) =
    λ some. subst (λ (z : ℤ). KeepsPart e m.slots mid (Some z))
    (ap (λ z. to_z w64 (of_z w64 z)) (c.from.ensures ∙ again w32 x x_fits) ∙ again w64 x wide) (c.keep_part.ensures.kept some) in
    let second : 0 < n → KeepsPart f mid new (Some y) = λ some. subst (λ (z : ℤ). KeepsPart f mid new (Some z)) (again w64 y y_fits)
    (c.keep_part-2.ensures.kept some) in
    record {
      went = c.hand_behind.ensures.went set l m (record m { slots = new }) from (field_data f) c.uses_bit-has_bit.ensures refl refl
          (subst (λ (v : Option ScalarData). IsLedTo set l m (record m { slots = new }) from p c.args.node (field_data f) v
          c.both_len-len.result) (ap (λ z. Some (Dec z y)) (sym (again w32 x x_fits))
          ∙ ap (λ z. Some (Dec (to_z w32 (of_z w32 x)) z)) (sym (again w64 y y_fits)))
          (subst (λ len. IsLedTo set l m (record m { slots = new }) from p c.args.node (field_data f) (Some (Dec x y)) len) (sym c.both_len-len.ensures)
          (decimal_led set l m from c.args.node e f c.requires.decimal mid c.args.bit c.requires.bit c.keep_part.ensures.terms c.args.used
          x y new p c.in-Some.set n
          (c.behind_bit-place.ensures.bits m.cursor c.requires.decimal.spot.place
          ∙ ap (λ (b : Bool). if b then later_bits (bits_left (at_place m.cursor from.place)) else bits_left
          (at_place m.cursor from.place)) c.uses_bit.ensures)
          c.behind_bit-place.ensures.left
          c.requires.within c.requires.part first c.keep_part.ensures.same
          (c.in-Some.ensures.bit m.cursor (c.behind_bit-place.ensures.place m.cursor c.requires.decimal.spot.place)
          ∙ ap (λ (b : Bool). if b then first_bit (bits_left (at_place m.cursor p)) else true) c.uses_bit-has_bit.ensures)
          (c.leaves_mantissa.ensures (search rules))
          (subst (λ (w : List ℕ). IsPart f c.in-Some.set l.strict w m.slots (Some y) n) (c.skip-behind.ensures) c.in-Some-mantissa_part.ensures)
          second c.keep_part-2.ensures.same c.keep_part-2.ensures.terms (c.behind_bit-place.ensures.place m.cursor c.requires.decimal.spot.place))));
    }
