-- Deltas are one or two signed integers, or one and a part of a text.
use Rattle.std.proofs.Common.{◌++◌, List, ℕ, refl, ◌∙◌, ap, sym, subst, append_assoc, rules, Bool, true, false}
use Rattle.std.specs.Prelude.{Some}
use mathlib.Core.List.{not-mem-nil}
use Rattle.fast_value.specs.declared.kinds.Kind.{Kind}
use Rattle.fast_wire.specs.meaning.Shortest.{IsShortest}
use Rattle.fast_tree.specs.meaning.Nodes.{field_data}
use Rattle.fast_dict.specs.meaning.Sending.{sent_data}
use Rattle.fast_dict.specs.declared.operators.table.Sent.{Sent}
use Rattle.fast_spelling.specs.device.Places.{field_there}
use Rattle.fast_spelling.specs.device.Drafts.{SpellsItem, SpellsPart, IsSendable, IsSendableValue, IsSendablePart}
use Rattle.fast_spelling.proofs.bytes.Spelling.{on_ok, handed}
use Rattle.fast_value.specs.meaning.Kinds.{signed_range, IsWithin}
use Rattle.fast_value.specs.meaning.Values.{scalar_data}
use Rattle.std.specs.Int.{w128}
use Rattle.std.proofs.lemmas.Int.{to_z-of_z}
use Rattle.fast_spelling.proofs.items.write_item.Goals as goal

pub returns-in_ok-write_delta_as-in-IntegerDelta-clause-ok : goal.returns-in_ok-write_delta_as-in-IntegerDelta-clause-ok
returns-in_ok-write_delta_as-in-IntegerDelta-clause-ok c =
    let h = c.in_ok-write_delta_as-in-IntegerDelta.ensures in (
      h.0,
      h.1,
      subst (λ (x : Sent). SpellsItem (field_data (field_there c.args.at.place)) (sent_data x) h.0) (sym c.in-IntegerDelta.is)
          (subst (λ (b : Bool). IsShortest true b (Some c.in-IntegerDelta.delta) h.0) (sym c.args.at.same_nullable)
          (handed c.args.at.nullable c.in-IntegerDelta.delta h.0 (search rules) h.2)),
    )

pub returns-in_ok-write_delta_as-in-DecimalDelta-2-clause-ok : goal.returns-in_ok-write_delta_as-in-DecimalDelta-2-clause-ok
returns-in_ok-write_delta_as-in-DecimalDelta-2-clause-ok c =
    let h = c.in_ok-write_delta_as-in-DecimalDelta.ensures in
    let k = c.in_ok-write_delta_as-in-DecimalDelta-2.ensures in (
      h.0 ++ k.0,
      k.1 ∙ ap (λ (w : List ℕ). w ++ k.0) h.1 ∙ append_assoc c.args.bytes.now.items h.0 k.0,
      subst (λ (x : Sent). SpellsItem (field_data (field_there c.args.at.place)) (sent_data x) (h.0 ++ k.0)) (sym c.in-DecimalDelta.is) (
        h.0,
        k.0,
        subst (λ (b : Bool). IsShortest true b (Some c.in-DecimalDelta.exponent) h.0) (sym c.args.at.same_nullable)
            (handed c.args.at.nullable c.in-DecimalDelta.exponent h.0 (search rules) h.2),
        handed false c.in-DecimalDelta.mantissa k.0 (search rules) k.2,
        refl,
      ),
    )

pub returns-in_ok-write_delta_as-in-TextDelta-clause-ok : goal.returns-in_ok-write_delta_as-in-TextDelta-clause-ok
returns-in_ok-write_delta_as-in-TextDelta-clause-ok c =
    let h = c.in_ok-write_delta_as-in-TextDelta.ensures in
    on_ok c.write_text.result c.write_text.ensures.ok (λ k. (
      h.0 ++ k.0,
      k.1 ∙ ap (λ (w : List ℕ). w ++ k.0) h.1 ∙ append_assoc c.args.bytes.now.items h.0 k.0,
      subst (λ (x : Sent). SpellsItem (field_data (field_there c.args.at.place)) (sent_data x) (h.0 ++ k.0)) (sym c.in-TextDelta.is) (
        h.0,
        k.0,
        subst (λ (b : Bool). IsShortest true b (Some c.in-TextDelta.taken) h.0) (sym c.args.at.same_nullable)
            (handed c.args.at.nullable c.in-TextDelta.taken h.0 (search rules) h.2),
        subst (λ (q : Kind). SpellsPart q false c.in-TextDelta.part.now k.0) (sym c.args.at.same_kind) k.2,
        refl,
      ),
    ))

pub write_delta_as-requires : goal.write_delta_as-requires
write_delta_as-requires c = subst (IsWithin (signed_range 68)) (sym (to_z-of_z w128 c.in-IntegerDelta.delta (search rules)))
    (subst (λ (x : Sent). IsSendable (field_data (field_there c.args.at.place)) (sent_data x)) c.in-IntegerDelta.is c.requires)

pub write_delta_as-requires-in-DecimalDelta : goal.write_delta_as-requires-in-DecimalDelta
write_delta_as-requires-in-DecimalDelta c = subst (IsWithin (signed_range 68)) (sym (to_z-of_z w128 c.in-DecimalDelta.exponent (search rules)))
    (subst (λ (x : Sent). IsSendable (field_data (field_there c.args.at.place)) (sent_data x)) c.in-DecimalDelta.is c.requires).0

pub write_delta_as-requires-in-DecimalDelta-2 : goal.write_delta_as-requires-in-DecimalDelta-2
write_delta_as-requires-in-DecimalDelta-2 c = subst (IsWithin (signed_range 68))
    (sym (to_z-of_z w128 c.in-DecimalDelta.mantissa (search rules)))
    (subst (λ (x : Sent). IsSendable (field_data (field_there c.args.at.place)) (sent_data x)) c.in-DecimalDelta.is c.requires).1

pub write_value-requires : goal.write_value-requires
write_value-requires c = subst (λ (k : Kind). IsSendableValue k (scalar_data c.in-Value.value)) c.args.at.same_kind
    (subst (λ (x : Sent). IsSendable (field_data (field_there c.args.at.place)) (sent_data x)) c.in-Value.is c.requires)

pub write_text-requires : goal.write_text-requires
write_text-requires c = subst (λ (k : Kind). IsSendablePart k c.in-TextDelta.part.now) c.args.at.same_kind
    (subst (λ (x : Sent). IsSendable (field_data (field_there c.args.at.place)) (sent_data x)) c.in-TextDelta.is c.requires).1

pub from_residual-requires : goal.from_residual-requires
from_residual-requires c κs = (λ a m. absurd (not-mem-nil m), (λ a m. absurd (not-mem-nil m), λ a m. absurd (not-mem-nil m)))
