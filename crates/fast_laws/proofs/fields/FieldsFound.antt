-- A field at a state is a field with the dictionary.
use Rattle.std.proofs.Common.{◌≡◌, ℕ, List, [], ◌++◌, refl, ap, sym, subst, ◌∙◌, append-nil}
use Rattle.std.specs.Prelude.{Bool, true, false, if◌then◌else◌, Option}
use Rattle.fast_wire.specs.meaning.Maps.{first_bit, later_bits}
use Rattle.fast_value.specs.declared.settings.Limits.{Limits}
use Rattle.fast_value.specs.meaning.Limits.{bounds}
use Rattle.fast_value.specs.meaning.Kinds.{ScalarData}
use Rattle.fast_tree.specs.meaning.Tree.{FieldData, uses_bit}
use Rattle.fast_dict.specs.meaning.Dictionary.{Dictionary, PreviousData, previous_at, write_at}
use Rattle.fast_dict.specs.meaning.Operators.{Outcome}
use Rattle.fast_stream.specs.meaning.Events.{EventData}
use Rattle.fast_stream.specs.meaning.Fields.{field_term, field_phrase}
use Rattle.fast_stream.specs.meaning.Grammar.{Grammar, give, ◌>>=◌, phrase_of}
use Rattle.fast_stream.specs.meaning.Messages.{Context, State, Found, found, field_in}
use Rattle.fast_stream.specs.meaning.Phrases.{whole, gives}
use Rattle.fast_stream.proofs.readers.Grammars.{joins}
use Rattle.fast_stream.proofs.terms.Quiet.{quiet-field}
use Rattle.fast_spelling.proofs.again.Resent.{Says, InTurn, in_turn, given}
use Rattle.fast_laws.specs.meaning.Items.{SpellsFound}
use Rattle.fast_laws.proofs.terms.Fronts.{quiet_found}
use Rattle.fast_laws.proofs.terms.Turns.{silent_term}

module _ (l : Limits) (f : FieldData) (s : State) where
  abbrev bit : Bool
  bit = if uses_bit f then first_bit s.bits else true

  abbrev term : Grammar Outcome
  term = field_term (bounds l) f (previous_at f.entry s.context.dictionary) bit

  pub found_is_spelled : (w : List ℕ) (es : List EventData) (r : Found) → phrase_of l.strict (field_in (bounds l) f s) w es (whole r)
      → (es ≡ []) × SpellsFound l f s w r
  found_is_spelled w es r h = (
    (silent_term l.strict (field_in (bounds l) f s) (quiet_found (bounds l) f s)).silent w es (whole r) h,
    on (in_turn l.strict term (λ o. give (found f s o)) w r (es, h)),
  )
    where
      on : InTurn l.strict term (λ o. give (found f s o)) w r → SpellsFound l f s w r
      on (u, v, o, (fs, i), j, e) =
          let k = given l.strict (found f s o) v r j in
          let all : w ≡ u = e ∙ ap (λ (z : List ℕ). u ++ z) k.0 ∙ append-nil u in
          let none : fs ≡ [] = (silent_term l.strict term (quiet-field (bounds l) f (previous_at f.entry s.context.dictionary) bit)).silent u fs (whole o) i in
          let spelled : phrase_of l.strict term w [] (whole o) =
          subst (λ (z : List ℕ). phrase_of l.strict term z [] (whole o)) (sym all)
          (subst (λ (z : List EventData). phrase_of l.strict term u z (whole o)) none i) in
          subst (SpellsFound l f s w) (sym k.1) ((o.next, spelled, refl), refl, refl)

  same_state : (v : Option ScalarData) (d d' : Dictionary) (c c' : ℕ) (b b' : List Bool) → d' ≡ d → c' ≡ c → b' ≡ b
      → ◌≡◌ {A = Found} (
        v,
        record {
          context = record { dictionary = d; counted = c };
          bits = b;
        },
      ) (v, record { context = record { dictionary = d'; counted = c' }; bits = b' })
  same_state v d d' c c' b b' e g h = rw (e, g, h) refl

  pub spelled_is_found : (w : List ℕ) (r : Found) → SpellsFound l f s w r → phrase_of l.strict (field_in (bounds l) f s) w [] (whole r)
  unfolding gives
  spelled_is_found w (v, st) ((next, h, e), counted, left) =
      let o : Outcome = record { value = v; next = next } in
      let same : found f s o ≡ (v, st) = same_state v (write_at f.entry next s.context.dictionary) st.context.dictionary s.context.counted
      st.context.counted (if uses_bit f then later_bits s.bits else s.bits) st.bits e counted left in
      subst (λ (z : List ℕ). phrase_of l.strict (field_in (bounds l) f s) z [] (whole (v, st))) (append-nil w)
      (joins l.strict term (λ o. give (found f s o)) w [] [] [] o (whole (v, st)) h (refl, refl, sym same))
