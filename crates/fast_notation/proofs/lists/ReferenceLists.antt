-- The references of instructions, one instruction after the other.
use Rattle.std.proofs.Common.{◌≡◌, ◌≢◌, ℕ, List, [], ◌∷◌, slice_get, refl, ap, sym, ◌∙◌, arith, suc, Option, Some, None, Bool, true, false}
use Rattle.std.proofs.Common.{◌&&◌, string_bytes, rules, String, Global, inl, inr}
use Rattle.std.specs.Prelude.{All, Any, IsSome, is_some}
use Rattle.std.specs.List.{list_all}
use Rattle.std.specs.Option.{option_copied}
use Rattle.std.specs.Borrow.{Bor}
use Rattle.std.specs.Str.{bytes_eq}
use Rattle.std.proofs.lemmas.Bool.{cases_Bool, false≢true, and_parts}
use Rattle.std.proofs.lemmas.List.Elements.{All-nil, All-cons}
use Rattle.fast_notation.specs.declared.codes.StaticCode.TheVariants.{D8}
use Rattle.fast_notation.specs.declared.written.WrittenInstruction.{the_lemmas}
use Rattle.fast_notation.specs.declared.written.WrittenInstruction.TheVariants as V
use Rattle.fast_tree.specs.meaning.AsWritten.{reference, DeclaredTemplate, references, all_references}
use Rattle.fast_notation.specs.meaning.Refused.{StandsAt}
use Rattle.fast_tree.specs.device.Places.{place_of_name}
use Rattle.fast_notation.specs.device.WrittenSets.{instruction_data}
use Rattle.fast_notation.proofs.lists.PlaceLists.{no_place}
use Rattle.fast_notation.proofs.texts.ReadingPieces.{text_same}

-- what passes everywhere holds everywhere
pub all_known : (look : List ℕ → Option ℕ) (ts : List DeclaredTemplate) (names : List (List ℕ))
    → ((q : List ℕ) → look q ≡ place_of_name q ts) → list_all (λ q. is_some (look q)) names ≡ true
    → All (λ name. IsSome (place_of_name name ts)) names
all_known look ts [] index e = All-nil (λ name. IsSome (place_of_name name ts))
all_known look ts (q ∷ qs) index e =
    let (here, rest) = and_parts (is_some (look q)) (list_all (λ r. is_some (look r)) qs) e in
    All-cons (λ name. IsSome (place_of_name name ts)) q qs (ap is_some (sym (index q)) ∙ here) (all_known look ts qs index rest)

-- what fails somewhere is a reference to an unknown name
any_unknown : (look : List ℕ → Option ℕ) (ts : List DeclaredTemplate) (names : List (List ℕ))
    → ((q : List ℕ) → look q ≡ place_of_name q ts) → list_all (λ q. is_some (look q)) names ≡ false
    → Any (λ name. All (λ u. u.name ≢ name) ts) names
any_unknown look ts [] index e = absurd (false≢true (sym e))
any_unknown look ts (q ∷ qs) index e = elim (cases_Bool (is_some (look q))) [
  | inl here ↦
      let r = any_unknown look ts qs index (rw here at e) in
      (suc r.0, r.1, (let i = r.2 in omega (arith, i)), r.3, r.4)
  | inr unknown ↦ (
    0,
    q,
    omega arith,
    refl,
    λ k d inside same.
        false≢true (sym (no_place (λ u. bytes_eq q u.name) 0 ts
        (nothing (place_of_name q ts) (ap is_some (sym (index q)) ∙ unknown)) k d inside) ∙ ap (bytes_eq q) same ∙ text_same q),
  )
]
  where
    nothing : (o : Option ℕ) → is_some o ≡ false → o ≡ None
    nothing None h = refl
    nothing (Some n) h = absurd (false≢true (sym h))

pub unknown_at : (look : List ℕ → Option ℕ) (ts : List DeclaredTemplate) (k : ℕ) (t : DeclaredTemplate)
    → ((q : List ℕ) → look q ≡ place_of_name q ts) → slice_get ts k ≡ Some t
    → list_all (λ q. is_some (look q)) (all_references t.fields) ≡ false → StandsAt ts D8 k
unknown_at look ts k t index found e = (t, found, any_unknown look ts (all_references t.fields) index e)

-- one reference is looked up
pub one_known : (look : List ℕ → Option ℕ) (r : Option (Bor ℕ)) (name : String Global) → option_copied r ≡ look (string_bytes name)
    → is_some r ≡ list_all (λ q. is_some (look q)) (references (instruction_data (V.Reference name)))
one_known look r name found =
    let e : instruction_data (V.Reference name) ≡ reference (string_bytes name) = search (rules, the_lemmas) in
    same_some r ∙ ap is_some found ∙ sym (and_true (is_some (look (string_bytes name)))) ∙ ap (λ i. list_all (λ q. is_some (look q)) (references i)) (sym e)
  where
    same_some : (r : Option (Bor ℕ)) → is_some r ≡ is_some (option_copied r)
    same_some None = refl
    same_some (Some b) = refl

    and_true : (b : Bool) → (b && true) ≡ b
    and_true true = refl
    and_true false = refl
