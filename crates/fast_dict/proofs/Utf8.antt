-- A check of UTF-8 as a test.
use Rattle.std.proofs.Common.{◌≡◌, List, ℕ, refl, sym}
use Rattle.std.specs.Prelude.{Bool, true, false, Result, Ok, Err, is_ok, MatchResult, IsUtf8}
use Rattle.std.specs.Str.{is_utf8}
use Rattle.std.proofs.lemmas.Str.{is_utf8-from_IsUtf8, IsUtf8-from_is_utf8}

-- a test that does not hold is false
not_true : (b : Bool) → (b ≡ true → ⊥) → b ≡ false
not_true true h = absurd (h refl)
not_true false h = refl

-- what a check answers
pub check_is_test : {A E : Type 0} (P : A → Type 0) (r : Result A E) (v : List ℕ) → MatchResult r (λ s. P s × IsUtf8 v) (λ e. ¬ (IsUtf8 v))
    → is_ok r ≡ is_utf8 v
check_is_test P (Ok s) v h = sym (is_utf8-from_IsUtf8 v h.1)
check_is_test P (Err e) v h = sym (not_true (is_utf8 v) (λ t. h (IsUtf8-from_is_utf8 v t)))
