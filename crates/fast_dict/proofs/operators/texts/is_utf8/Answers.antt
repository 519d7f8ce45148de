-- Both checks of the whole text.
use Rattle.std.proofs.Common.{◌≡◌, ◌∙◌, refl, sym, List, ℕ}
use Rattle.std.specs.Prelude.{Bool, true, false, ◌↔◌, IsTrue, Result, Ok, Err, is_ok, MatchResult, IsUtf8}
use Rattle.std.specs.Str.{is_utf8, IsValidUpTo, valid_up_to}
use Rattle.std.proofs.lemmas.Str.{is_utf8-from_IsUtf8, IsUtf8-from_is_utf8}
use Rattle.fast_dict.proofs.Utf8.{check_is_test}
use Rattle.fast_dict.proofs.operators.texts.is_utf8.Goals as goal

-- A check that says where the fault is, as a test.
check : {A E : Type 0} (P : A → Type 0) (Q : E → Type 0) (r : Result A E) (v : List ℕ)
    → MatchResult r (λ s. P s × IsUtf8 v) (λ e. ¬ (IsUtf8 v) × Q e) → is_ok r ≡ is_utf8 v
check {E = E} P Q (Ok s) v h = check_is_test {E = E} P (Ok s) v h
check {E = E} P Q (Err e) v h = check_is_test {E = E} P (Err e) v h.0

-- An answer that is true for UTF-8 alone is the test's.
tested : (r b : Bool) (v : List ℕ) → (IsTrue r ↔ IsUtf8 v) → is_utf8 v ≡ b → r ≡ b
tested true true v h e = refl
tested true false v h e = sym (is_utf8-from_IsUtf8 v (h.0 refl)) ∙ e
tested false true v h e = h.1 (IsUtf8-from_is_utf8 v e)
tested false false v h e = refl

pub returns-then-text-lt24 : goal.returns-then-text-lt24
returns-then-text-lt24 c = c.is_ok.ensures.value ∙ check (λ s. s.now ≡ c.args.text.now)
    (λ e. IsValidUpTo c.args.text.now (valid_up_to e)) c.from_utf8.result c.args.text.now c.from_utf8.ensures.cases

pub returns : goal.returns
returns c = tested c.is_utf8.result (is_utf8 c.args.text.now) c.args.text.now c.is_utf8.ensures refl
