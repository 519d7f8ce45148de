-- A text is encoded as the first message of a set of one field.
use Rattle.std.proofs.Common.{◌≡◌, ◌≢◌, ◌⊎◌, inl, inr, ℕ, zero, suc, ◌<◌, ◌≤◌, ◌^◌, List, [], length, refl, sym, subst, ◌∙◌, arith}
use Rattle.std.specs.Prelude.{true, false, All, if◌then◌else◌, slice_get, Option, Some, None, IfSome}
use Rattle.std.proofs.lemmas.List.Elements.{All-nil, All-cons}
use Rattle.fast_value.specs.meaning.Kinds.{AsciiText}
use Rattle.fast_value.specs.meaning.Messages.{ItemData, one, Slots, no_slots, present}
use Rattle.fast_tree.specs.declared.operators.Operator.TheVariants.{Copy}
use Rattle.fast_tree.specs.meaning.Tree.{FieldData, field, end, step, TemplateData, message_bits, Tree}
use Rattle.fast_dict.specs.meaning.Dictionary.{Dictionary, fresh, reset}
use Rattle.fast_dict.specs.meaning.Operators.{nothing, value}
use Rattle.fast_stream.specs.meaning.Messages.{with_slot}
use Rattle.fast_spelling.specs.declared.faults.EncodeFault.TheVariants.{E3, R9}
use Rattle.fast_spelling.specs.meaning.Again.{GrantsBody}
use Rattle.fast_spelling.specs.meaning.Refused.{ascii_field, set_of, wide}
use Rattle.fast_spelling.specs.meaning.Refusals.{RefusesField, RefusesScalar, RefusesBody, RefusesMessage, IsRefused}
use Rattle.fast_spelling.specs.meaning.Suiting.{IsKnown, SuitsTemplate, FitsLimits}
use Rattle.fast_spelling.proofs.again.MessagesAgain.{sound_fresh}
use Rattle.fast_spelling.proofs.again.NoZeros.{message_none}
use Rattle.fast_spelling.proofs.bytes.Mapped.{message_has_map}
use Rattle.fast_laws.specs.meaning.Settling.{CanEncode, HasEncoding, text_message}
use Rattle.fast_laws.proofs.settling.Messages.{some_encoding}

abbrev copied : FieldData
copied = ascii_field Copy false None

abbrev copied_set : Tree
copied_set = set_of copied

-- its one template
abbrev only : TemplateData
only = record { name = []; id = Some 1; reset = false; body = step (field (record { node = 0; name = [] }) copied) end }

one_template : (i : ℕ) (u : TemplateData) → slice_get copied_set.templates i ≡ Some u → (i ≡ 0) × (only ≡ u)
one_template zero u e = (refl, cc e)
one_template (suc i) u e = absurd (cc e)

can_encode : CanEncode copied_set wide (fresh 2)
can_encode = record {
  granted = All-cons (λ (u : TemplateData). GrantsBody wide u.body) only [] (
    record {
      suited = refl;
      initial = tt;
      constant = λ e. absurd (cc e);
      default = λ e. absurd (cc e);
    },
    tt,
  ) (All-nil (λ (u : TemplateData). GrantsBody wide u.body));
  distinct_ids = λ i j id a b at_i at_j _ _. (one_template i a at_i).0 ∙ sym (one_template j b at_j).0;
  short_ids = All-cons (λ (u : TemplateData). IfSome u.id (λ id. id < 2 ^ 32)) only [] (omega arith)
      (All-nil (λ (u : TemplateData). IfSome u.id (λ id. id < 2 ^ 32)));
  small = omega arith;
  sound = sound_fresh wide 2;
}

module _ (v : List ℕ) (short : length v ≤ 64) (ascii : All (λ c. c < 128) v) (none : All (λ c. c ≢ 0) v) where
  known : IsKnown copied_set (text_message v)
  known = (only, 1, refl, refl)

  suits : SuitsTemplate copied_set (text_message v)
  suits = (only, refl, ((64, (short, ascii)), tt))

  fits : FitsLimits wide (text_message v).slots
  fits = ((short, tt), omega arith)

  -- the rule has an item for each value under a copy
  field_goes : (d : Dictionary) → RefusesField copied d (Some (AsciiText v)) E3 → ⊥
  field_goes d h = h true (value (AsciiText v)) ((λ goes. h false nothing (goes, refl)), refl)

  slot_goes : (d : Dictionary) (x : Option ItemData) (rest : Slots) → present (one (AsciiText v)) no_slots ≡ with_slot x rest → RefusesScalar copied d x E3 → ⊥
  slot_goes d None rest e h = absurd (cc e)
  slot_goes d (Some x) rest e h = let same : one (AsciiText v) ≡ x = cc e in
      field_goes d (subst (λ (z : ItemData). RefusesScalar copied d (Some z) E3) (sym same) h)

  body_goes : (d : Dictionary) → RefusesBody wide only.body d (text_message v).slots E3 → ⊥
  unfolding RefusesBody
  body_goes d (x, rest, e, inl h) = slot_goes d x rest e h
  body_goes d (x, rest, e, inr (b, u, mid, i, h)) = h

  message_goes : RefusesMessage copied_set wide (fresh 2) (text_message v) E3 → ⊥
  message_goes (u, id, b1, x, mid, at, own, i, inl h) =
      let same = (one_template 0 u at).1 in
      body_goes mid (subst (λ (z : TemplateData). RefusesBody wide z.body (if z.reset then reset mid else mid) (text_message v).slots E3) (sym same) h)
  message_goes (u, id, b1, x, mid, at, own, i, inr (b2, w, d', j, unmapped, _)) =
      let same = (one_template 0 u at).1 in
      let few : message_bits u ≤ 1022 = subst (λ (z : TemplateData). message_bits z ≤ 1022) same (omega arith) in
      message_has_map wide u id (fresh 2) mid (if u.reset then reset mid else mid) d' (text_message v).slots b1 b2 x w i j few unmapped

  pub text_is_encoded : HasEncoding copied_set wide (fresh 2) (text_message v)
  text_is_encoded = by (some_encoding copied_set wide (fresh 2) (text_message v) can_encode known suits fits)
    where
      by : HasEncoding copied_set wide (fresh 2) (text_message v)
          ⊎ (IsRefused copied_set wide (fresh 2) (text_message v) E3 ⊎ IsRefused copied_set wide (fresh 2) (text_message v) R9)
          → HasEncoding copied_set wide (fresh 2) (text_message v)
      by (inl h) = h
      by (inr (inl h)) = absurd (message_goes h.3)
      by (inr (inr h)) = absurd (message_none copied_set wide (fresh 2) (text_message v) suits (none, tt) h.3)
