-- The text that stands in the piece.
use Rattle.std.proofs.Common.{refl, sym, ◌∙◌, ap, inl}
use Rattle.std.specs.Prelude.{[], option_map}
use Rattle.fast_value.specs.meaning.Values.{scalar_data}
use Rattle.fast_tree.specs.declared.operators.Operator.TheVariants.{None}
use Rattle.fast_dict.specs.meaning.Slots.{slots_dictionary}
use Rattle.fast_units.specs.device.Settling.{value_at}
use Rattle.fast_machine.specs.device.Positions.{set_of}
use Rattle.fast_loop.proofs.arms.Fields.{op_node, as_coded, served, field_of, uses_as}
use Rattle.fast_machine.proofs.machines.FieldTakes.{bytes_between}
use Rattle.fast_loop.proofs.arms.Texts.{text_taken}
use Rattle.fast_loop.proofs.vector_arms.vector_arm.Goals as goal

pub returns-in-Some : goal.returns-in-Some
returns-in-Some g c =
    let t = c.args.templates.now in
    let l = c.args.limits in
    let m = c.args.machine.now in
    let from = c.args.spot.now in
    let op = c.args.op.now in
    let kind = c.args.kind in
    let optional = c.args.optional in
    let taken = c.in-Some.taken in
    let (x, found) = op_node t m from.place op c.requires.op in
    let f = field_of t l m from.place op kind None optional c.requires.spot c.requires.op x found in
    let same = as_coded t l m from.place op kind None optional c.requires.spot c.requires.op x found in
    record {
      went = c.hand_taken.ensures.went (set_of t) l m m f
          (sym (uses_as t l m from.place op kind None optional c.requires.spot c.requires.op x found)) refl
          (text_taken t l m from op kind None optional c.requires.spot c.requires.op x found m.slots m.text
          taken.source taken.from taken.bytes [] (option_map scalar_data c.lent_at-value.result) (λ e. cc e)
          (inl refl) refl refl
          (c.in-Some.ensures.unit op.entry m.slots f [] same (served t l m from.place op kind None optional c.requires.spot c.requires.op
          x found))
          (c.lent_at-value.ensures f (slots_dictionary m.slots) [] same.kind
          ∙ ap (value_at taken.source f (slots_dictionary m.slots) [])
          (bytes_between taken.from taken.bytes from.rest.bytes.now c.in-Some.ensures.within.0)));
    }
