-- Both parts, and the turn behind them.
use Rattle.std.proofs.Common.{refl, sym, ap, ◌∙◌, subst, arith, rules, to_z, of_z, FitsSigned}
use Rattle.std.specs.Int.{w32, w64}
use Rattle.std.specs.Prelude.{ℕ, ◌<◌, ◌≤◌, Bool, true, if◌then◌else◌, length, ℤ, Option, Some, List}
use Rattle.fast_wire.specs.meaning.Maps.{first_bit, later_bits}
use Rattle.fast_value.specs.meaning.Kinds.{ScalarData, Dec}
use Rattle.fast_tree.specs.meaning.Nodes.{field_data}
use Rattle.fast_cursor.specs.device.Cursors.{bits_left}
use Rattle.fast_cursor.specs.device.Places.{at_place}
use Rattle.fast_units.proofs.LastUnits.{again}
use Rattle.fast_loop.specs.device.Parts.{IsLedTo}
use Rattle.fast_items.specs.device.DecimalParts.{KeepsPart, IsPart}
use Rattle.fast_machine.specs.device.Positions.{set_of}
use Rattle.fast_loop.proofs.arms.Parts.{serves_as, exponent_serves, mantissa_serves, both_within, decimal_led, usual_uses, delta_uses, delta_part}
use Rattle.fast_loop.proofs.part_arms.changed_mantissa_arm.Goals as goal

pub changed_part-requires : goal.changed_part-requires
changed_part-requires g c =
    record {
      within = (mantissa_serves (set_of c.args.templates.now) c.args.limits c.args.machine.now c.args.spot.now c.args.node
          c.args.exponent.now c.args.mantissa.now c.requires.decimal).within c.args.entry c.requires.entry;
    }

pub keep_exponent-requires-clause-within : goal.keep_exponent-requires-clause-within
keep_exponent-requires-clause-within g c = (exponent_serves
    (set_of c.args.templates.now) c.args.limits c.args.machine.now c.args.spot.now c.args.node c.args.exponent.now c.args.mantissa.now
    c.requires.decimal).within

pub keep_mantissa-requires : goal.keep_mantissa-requires
keep_mantissa-requires g c =
    record {
      within = (serves_as (set_of c.args.templates.now) c.args.limits c.args.machine.now c.args.spot.now c.args.node
          c.args.exponent.now c.args.mantissa.now c.requires.decimal c.keep_exponent.new.slots c.args.mantissa.now
          c.keep_exponent.ensures.terms c.requires.decimal.mantissa).within c.args.entry c.requires.entry;
    }

pub both_len-len-requires : goal.both_len-len-requires
both_len-len-requires g c =
    let second = delta_part c.args.mantissa.now c.args.limits.strict
    c.skip-behind.result.bytes.now c.args.machine.now.slots
    (Some c.in-Some.value) c.in-Some.bytes c.requires.delta (c.in-Some.ensures c.args.mantissa.now (record {
      kind = c.requires.decimal.mantissa_kind;
      delta = c.requires.delta;
      mandatory = c.requires.mandatory;
      entry = c.requires.entry;
    })) in
    record {
      within = both_within c.args.exponent.now c.args.mantissa.now c.args.bit true c.args.limits.strict c.args.spot.now.rest.bytes.now
          c.skip-behind.result.bytes.now c.args.machine.now.slots c.args.number c.in-Some.value c.args.used c.in-Some.bytes
          c.skip-behind.ensures c.requires.part second;
    }

pub hand_sent-requires-clause-some : goal.hand_sent-requires-clause-some
hand_sent-requires-clause-some g c = omega (
  arith,
  c.both_len-len.ensures,
  (c.in-Some.ensures c.args.mantissa.now (record {
    kind = c.requires.decimal.mantissa_kind;
    delta = c.requires.delta;
    mandatory = c.requires.mandatory;
    entry = c.requires.entry;
  })).0,
)

pub hand_sent-requires-clause-within : goal.hand_sent-requires-clause-within
hand_sent-requires-clause-within g c =
    let second = delta_part c.args.mantissa.now c.args.limits.strict
    c.skip-behind.result.bytes.now c.args.machine.now.slots
    (Some c.in-Some.value) c.in-Some.bytes c.requires.delta (c.in-Some.ensures c.args.mantissa.now (record {
      kind = c.requires.decimal.mantissa_kind;
      delta = c.requires.delta;
      mandatory = c.requires.mandatory;
      entry = c.requires.entry;
    })) in
    subst (λ len. len ≤ length c.args.spot.now.rest.bytes.now) (sym c.both_len-len.ensures)
    (both_within c.args.exponent.now c.args.mantissa.now c.args.bit true c.args.limits.strict c.args.spot.now.rest.bytes.now
    c.skip-behind.result.bytes.now c.args.machine.now.slots c.args.number c.in-Some.value c.args.used c.in-Some.bytes
    c.skip-behind.ensures c.requires.part second)

pub returns : goal.returns
returns g c =
    let set = set_of c.args.templates.now in
    let l = c.args.limits in
    let m = c.args.machine.now in
    let from = c.args.spot.now in
    let e = c.args.exponent.now in
    let f = c.args.mantissa.now in
    let x = c.args.number in
    let y = c.in-Some.value in
    let n = c.in-Some.bytes in
    let x_fits : FitsSigned w32 x = search rules in
    let y_fits : FitsSigned w64 y = search rules in
    let mid = c.keep_exponent.new.slots in
    let new = c.keep_mantissa.new.slots in
    let p = c.use_bit.new.self in
    let first : 0 < c.args.used → KeepsPart e m.slots mid (Some x) =
    λ some. subst (λ (z : ℤ). KeepsPart e m.slots mid (Some z)) (again w32 x x_fits) (c.keep_exponent.ensures.kept some) in
    let second : 0 < n → KeepsPart f mid new (Some y) = λ some. subst (λ (z : ℤ). KeepsPart f mid new (Some z)) (again w64 y y_fits)
    (c.keep_mantissa.ensures.kept f (record {
      kind = c.requires.decimal.mantissa_kind;
      delta = c.requires.delta;
      mandatory = c.requires.mandatory;
      entry = c.requires.entry;
    })) in
    let second_part = delta_part f l.strict c.skip-behind.result.bytes.now m.slots
    (Some y) n c.requires.delta (c.in-Some.ensures c.args.mantissa.now (record {
      kind = c.requires.decimal.mantissa_kind;
      delta = c.requires.delta;
      mandatory = c.requires.mandatory;
      entry = c.requires.entry;
    })) in
    record {
      went = c.hand_sent.ensures.went set l m (record m { slots = new }) from (field_data f) (sym (delta_uses f c.requires.delta)) refl refl
          (subst (λ (v : Option ScalarData). IsLedTo set l m (record m { slots = new }) from p c.args.node (field_data f) v
          c.both_len-len.result) (ap (λ z. Some (Dec z y)) (sym (again w32 x x_fits))
          ∙ ap (λ z. Some (Dec (to_z w32 (of_z w32 x)) z)) (sym (again w64 y y_fits)))
          (subst (λ len. IsLedTo set l m (record m { slots = new }) from p c.args.node (field_data f) (Some (Dec x y)) len) (sym c.both_len-len.ensures)
          (decimal_led set l m from c.args.node e f c.requires.decimal mid c.args.bit c.requires.bit c.keep_exponent.ensures.terms c.args.used x y new p true n
          (c.use_bit.ensures.bits m.cursor c.requires.decimal.spot.place
          ∙ ap (λ (b : Bool). if b then later_bits (bits_left (at_place m.cursor from.place)) else bits_left
          (at_place m.cursor from.place)) (sym (usual_uses e c.requires.usual)))
          c.use_bit.ensures.left
          c.requires.within c.requires.part first c.keep_exponent.ensures.same
          (sym (ap (λ (b : Bool). if b then first_bit (bits_left (at_place m.cursor p)) else true) (delta_uses f c.requires.delta)))
          (c.leaves_mantissa.ensures (search rules))
          (subst (λ (w : List ℕ). IsPart f true l.strict w m.slots (Some y) n) (c.skip-behind.ensures) second_part)
          second (λ none. absurd (omega (
            arith,
            none,
            (c.in-Some.ensures c.args.mantissa.now (record {
              kind = c.requires.decimal.mantissa_kind;
              delta = c.requires.delta;
              mandatory = c.requires.mandatory;
              entry = c.requires.entry;
            })).0,
          ))) c.keep_mantissa.ensures.terms (c.use_bit.ensures.place m.cursor c.requires.decimal.spot.place))));
    }
