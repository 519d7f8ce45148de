-- The text that stands in the stream, or nothing is sent of it.
use Rattle.std.proofs.Common.{refl, sym, ap, ◌∙◌, subst}
use Rattle.std.specs.Prelude.{◌≡◌, ◌⊎◌, Bool, ℕ, true, false, List, take, drop, option_map}
use Rattle.fast_dict.specs.declared.slots.Slots.{Slots}
use Rattle.fast_units.specs.declared.scratch.Scratch.{Scratch}
use Rattle.fast_wire.specs.meaning.Maps.{first_bit}
use Rattle.fast_value.specs.declared.kinds.Kind.TheVariants.{Ascii}
use Rattle.fast_value.specs.meaning.Limits.{bounds}
use Rattle.fast_value.specs.meaning.Values.{scalar_data}
use Rattle.fast_dict.specs.meaning.Slots.{slots_dictionary}
use Rattle.fast_units.specs.device.Settling.{value_at}
use Rattle.fast_cursor.specs.device.Cursors.{bits_left}
use Rattle.fast_cursor.specs.device.Places.{at_place}
use Rattle.fast_machine.specs.device.Positions.{set_of}
use Rattle.fast_loop.proofs.arms.Fields.{op_node, entry_there, as_coded, served, field_of, instruction, shape_is, uses_as}
use Rattle.fast_loop.proofs.arms.Texts.{text_taken}
use Rattle.fast_loop.proofs.text_arms.ascii_arm.Goals as goal

pub ascii_taken-requires-clause-within : goal.ascii_taken-requires-clause-within
ascii_taken-requires-clause-within g c =
    let m = c.args.machine.now in
    let p = c.args.spot.now.place in
    let (x, found) = op_node c.args.templates.now m p c.args.op.now c.requires.op in
    entry_there c.args.templates.now c.args.limits m p c.args.op.now Ascii c.args.operator c.args.optional c.requires.spot c.requires.op
    x found

pub hand_taken-requires-clause-within : goal.hand_taken-requires-clause-within
hand_taken-requires-clause-within g c =
    let t = c.args.templates.now in
    let l = c.args.limits in
    let m = c.args.machine.now in
    let p = c.args.spot.now.place in
    let (x, found) = op_node t m p c.args.op.now c.requires.op in
    (c.in-Some.ensures.unit x (instruction t l m p c.args.op.now Ascii c.args.operator c.args.optional c.requires.spot c.requires.op
    x found) l.strict (bounds l) found
    (shape_is t l m p c.args.op.now Ascii c.args.operator c.args.optional c.requires.spot c.requires.op x found) refl
    (as_coded t l m p c.args.op.now Ascii c.args.operator c.args.optional c.requires.spot c.requires.op x found)
    (served t l m p c.args.op.now Ascii c.args.operator c.args.optional c.requires.spot c.requires.op x found)).1

pub returns-in-Some : goal.returns-in-Some
returns-in-Some g c =
    let t = c.args.templates.now in
    let l = c.args.limits in
    let m = c.args.machine.now in
    let from = c.args.spot.now in
    let op = c.args.op.now in
    let operator = c.args.operator in
    let optional = c.args.optional in
    let slots = c.ascii_taken.new.slots in
    let text = c.ascii_taken.new.scratch in
    let taken = c.in-Some.taken in
    let (x, found) = op_node t m from.place op c.requires.op in
    let f = field_of t l m from.place op Ascii operator optional c.requires.spot c.requires.op x found in
    let same = as_coded t l m from.place op Ascii operator optional c.requires.spot c.requires.op x found in
    record {
      went = c.hand_taken.ensures.went (set_of t) l m (record m { slots = slots; text = text }) f
          (c.uses_bit-has_bit.ensures ∙ sym (uses_as t l m from.place op Ascii operator optional c.requires.spot c.requires.op x found)) refl
          (text_taken t l m from op Ascii operator optional c.requires.spot c.requires.op x found slots text
          taken.source taken.from taken.bytes text.text _ c.requires.no_constant
          (subst (λ (b : Bool). (b ≡ false) ⊎ (first_bit (bits_left (at_place m.cursor from.place)) ≡ true)) c.uses_bit-has_bit.ensures
          (c.in-Sent.ensures.sent refl m.cursor c.requires.spot.place))
          c.in-Some.ensures.terms c.in-Some.ensures.capacity
          (c.in-Some.ensures.unit x (instruction t l m from.place op Ascii operator optional c.requires.spot c.requires.op
          x found) l.strict (bounds l) found
          (shape_is t l m from.place op Ascii operator optional c.requires.spot c.requires.op x found) refl same
          (served t l m from.place op Ascii operator optional c.requires.spot c.requires.op x found))
          (subst (λ (s : List ℕ). option_map scalar_data c.ascii_at-value.result ≡ value_at taken.source f (slots_dictionary slots) s
          (drop taken.from (take taken.bytes from.rest.bytes.now))) c.as_slice-text.ensures
          (c.ascii_at-value.ensures f optional operator (drop taken.from (take taken.bytes from.rest.bytes.now)) same c.in-Some.ensures.source)));
    }

pub returns-in-None : goal.returns-in-None
returns-in-None g c =
    let m = c.args.machine.now in
    let text = c.ascii_taken.new.scratch in
    let none = c.in-None.ensures.none in
    record {
      went = (
        ap (λ (s : Slots). record m { slots = s; text = text }) none.0 ∙ ap (λ (x : Scratch). record m { text = x }) none.1,
        refl,
        refl,
      );
    }
