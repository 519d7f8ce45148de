-- What was written is the field.
use Rattle.std.proofs.Common.{◌≡◌, ◌++◌, ◌∷◌, [], List, ℕ, ap, sym, subst, ◌∙◌, refl}
use Rattle.std.specs.Prelude.{Bool, true, false, if◌then◌else◌, option_map}
use Rattle.std.proofs.lemmas.List.{append-nil}
use mathlib.Core.List.{not-mem-nil}
use Rattle.fast_value.specs.meaning.Values.{scalar_data}
use Rattle.fast_tree.specs.meaning.Tree.{FieldData, uses_bit}
use Rattle.fast_tree.specs.meaning.Nodes.{field_data}
use Rattle.fast_dict.specs.meaning.Dictionary.{previous_at}
use Rattle.fast_dict.specs.meaning.Sending.{sent_data}
use Rattle.fast_spelling.specs.device.Places.{field_there}
use Rattle.fast_spelling.specs.declared.draft.Draft.{Draft}
use Rattle.fast_spelling.specs.device.Fields.{IsSuited}
use Rattle.fast_spelling.proofs.rules.FieldsWritten.{field_done}
use Rattle.fast_spelling.proofs.fields.send.Goals as goal
use Rattle.fast_spelling.proofs.fields.send.Goals.{then-uses_bit+in_ok-push_bit, else-uses_bit}

pub returns-clause-ok : goal.returns-clause-ok
returns-clause-ok c = λ l same.
    let f : FieldData = field_data (field_there c.args.at.place) in
    let v = option_map scalar_data c.args.value in
    let h = c.in_ok-write_item.ensures.ok in
    let suited = subst (λ (m : ℕ). IsSuited m f v) (sym same) c.requires.suited in
    let done = λ (b : List Bool) (e : b ≡ (if uses_bit f then c.args.bit ∷ [] else [])).
    field_done l f c.args.ledger.now.now (previous_at f.entry c.args.ledger.now.now) v c.args.bit (sent_data c.args.item) b h.0 c.keep.new.ledger.now
    refl c.requires.served.usable.tail suited c.requires.ruled c.requires.sendable h.2 e c.in_ok-keep.ensures.now in
    elim c.if-uses_bit.branch [
      | then-uses_bit+in_ok-push_bit w ↦
          let one = c.args.bit ∷ [] in
          let used : uses_bit f ≡ true = sym c.uses_bit.ensures ∙ w.if-uses_bit.true in (
            one,
            h.0,
            ap (λ (d : Draft). d.bits) w.draft-is ∙ w.in_ok-push_bit.ensures.bits,
            h.1
                ∙ ap (λ (d : List ℕ). d ++ h.0) (ap (λ (d : Draft). d.bytes.items) w.draft-is ∙ w.push_bit.ensures.bytes),
            done one (ap (λ (u : Bool). if u then one else []) (sym used)),
          )
      | else-uses_bit w ↦
          let used : uses_bit f ≡ false = sym c.uses_bit.ensures ∙ w.if-uses_bit.false in (
            [],
            h.0,
            ap (λ (d : Draft). d.bits) w.draft-is ∙ sym (append-nil c.args.draft.now.bits),
            h.1
                ∙ ap (λ (d : List ℕ). d ++ h.0) (ap (λ (d : Draft). d.bytes.items) w.draft-is),
            done [] (ap (λ (u : Bool). if u then c.args.bit ∷ [] else []) (sym used)),
          )
    ]

pub branch-push_bit-requires : goal.branch-push_bit-requires
branch-push_bit-requires c κs = (λ a m. absurd (not-mem-nil m), λ a m. absurd (not-mem-nil m))

pub from_residual-requires : goal.from_residual-requires
from_residual-requires c κs = (λ a m. absurd (not-mem-nil m), (λ a m. absurd (not-mem-nil m), λ a m. absurd (not-mem-nil m)))

pub branch-write_item-requires : goal.branch-write_item-requires
branch-write_item-requires c κs = (λ a m. absurd (not-mem-nil m), λ a m. absurd (not-mem-nil m))

pub from_residual-requires-in_err-write_item : goal.from_residual-requires-in_err-write_item
from_residual-requires-in_err-write_item c κs = (λ a m. absurd (not-mem-nil m), (λ a m. absurd (not-mem-nil m), λ a m. absurd (not-mem-nil m)))

pub branch-keep-requires : goal.branch-keep-requires
branch-keep-requires c κs = (λ a m. absurd (not-mem-nil m), λ a m. absurd (not-mem-nil m))

pub from_residual-requires-in_err-keep : goal.from_residual-requires-in_err-keep
from_residual-requires-in_err-keep c κs = (λ a m. absurd (not-mem-nil m), (λ a m. absurd (not-mem-nil m), λ a m. absurd (not-mem-nil m)))
