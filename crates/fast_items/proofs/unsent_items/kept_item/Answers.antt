-- What the entry holds, the number behind it, or absent as before.
use Rattle.std.proofs.Common.{◌≡◌, ◌∙◌, inl, inr, refl, sym, ap, subst}
use Rattle.std.specs.Prelude.{false, List, ℕ, Option, Some, IfSome}
use Rattle.fast_tree.specs.declared.operators.Operator.{Operator}
use Rattle.fast_tree.specs.declared.operators.Operator.TheVariants.{Copy}
use Rattle.fast_tree.specs.meaning.Entries.{keeps_value}
use Rattle.fast_dict.specs.meaning.Entry.{with_text}
use Rattle.fast_dict.specs.meaning.Dictionary.{empty, assigned, previous_at}
use Rattle.fast_dict.specs.meaning.Slots.{slots_dictionary}
use Rattle.fast_units.specs.declared.fields.Number.{Number}
use Rattle.fast_units.specs.device.Deciding.{number_data}
use Rattle.fast_items.specs.device.FieldsAs.{IsUnsentItem}
use Rattle.fast_items.specs.device.IntegerItems.{item_held}
use Rattle.fast_units.proofs.Deciding.{unsent_increased}
use Rattle.fast_items.proofs.IntegerItems.{held_at, left_absent, copied_item, increased_item}
use Rattle.fast_items.proofs.unsent_items.kept_item.Goals as goal

pub returns-in_ok-next-in-Some-clause-decided : goal.returns-in_ok-next-in-Some-clause-decided
returns-in_ok-next-in-Some-clause-decided c =
    let kind = c.args.kind in
    let v = number_data c.in-Some.number in
    let next = c.in_ok-next-in-Some.next in
    let held : previous_at (Some c.args.entry) (slots_dictionary c.args.slots.now) ≡ assigned kind v =
    sym c.held.ensures.1 ∙ c.in_ok-item.ensures.held c.held.ensures.0 ∙ ap (item_held kind) c.in-Some.is in
    subst (λ (o : Operator). IsUnsentItem kind c.args.optional o c.args.entry c.args.slots.now c.keep_changed_at.new.slots (Some next)) (sym c.in-Increment.is)
    (increased_item kind c.args.optional c.args.entry c.args.slots.now c.keep_changed_at.new.slots v next held c.in_ok-next-in-Some.ensures
    c.keep_changed_at.ensures.entry)

pub returns-in-None-clause-decided : goal.returns-in-None-clause-decided
returns-in-None-clause-decided c f so serves =
    let d = slots_dictionary c.args.slots.now in
    let is : (text : List ℕ) → with_text c.held.result text ≡ empty = λ text. c.in_ok-item.ensures.held text ∙ ap (item_held c.args.kind) c.in-None.is in
    left_absent f d (unsent_increased f (previous_at f.entry d) false (so.operator ∙ c.in-Increment.is) refl)
    (so.optional ∙ c.held_item.ensures.absent (c.in_ok-item.was ∙ ap Some c.in-None.is))
    (held_at f d c.held.result c.args.entry empty (so.entry (ap keeps_value c.in-Increment.is)) c.held.ensures is)

pub returns-in_default : goal.returns-in_default
returns-in_default c =
    let slots = c.args.slots.now in
    let item = c.in_ok-item.item in
    let copied = copied_item c.args.kind c.args.optional c.args.entry slots c.held.result c.held_item.result c.held.ensures
    c.held_item.ensures.held c.held_item.ensures.absent in
    let kept = subst (λ (r : Option (Option Number)). IfSome r (IsUnsentItem c.args.kind c.args.optional Copy c.args.entry slots slots))
    c.in_ok-item.was copied in
    let copy : c.args.operator ≡ Copy = elim c.requires.operator [
      | inl e ↦ e
      | inr e ↦ absurd (c.in_default.not-Increment e)
    ] in
    record {
      decided = subst (λ (o : Operator). IsUnsentItem c.args.kind c.args.optional o c.args.entry slots slots item) (sym copy) kept;
      none = tt;
      terms = refl;
    }
