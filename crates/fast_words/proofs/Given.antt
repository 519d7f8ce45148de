-- What a caller reads of the options and flags that were given.
use Rattle.std.proofs.Common.{◌≡◌, ℕ, Bool, true, false, Option, Some, None, Result, Ok, Err, refl, ap, subst, codes, option_map}
use Rattle.std.specs.Option.{unwrap_or}
use Rattle.std.specs.Borrow.{Bor}
use Rattle.std.specs.Str.Parse.{ParsesUnsigned}
use Rattle.clap.specs.Matches.{ReadsOne, one_text}
use Rattle.clap.specs.Walk.{Text, rows_of}
use Rattle.clap.specs.declared.parser.matches.Found.{Found}
use Rattle.clap.proofs.WalkLemmas.{one_text-rows}
use Rattle.fast_words.specs.meaning.Words.{IsFlag, IsFlagAt, IsNumberOr, IsNumberAt, IsNumberIf, IsNumberIfAt}

-- a flag
flag_is : (o : Option Text) (b : Bool) → (o ≡ None → b ≡ false) → (o ≡ Some (codes "true") → b ≡ true) → (o ≡ Some (codes "false") → b ≡ false) → IsFlag o b
flag_is None b none there not_there = none refl
flag_is (Some t) b none there not_there = ((λ e. there (ap Some e)), (λ e. not_there (ap Some e)))

pub flag_read : (f : Found) (name : Text) (b : Bool) → (one_text f name ≡ None → b ≡ false)
    → (one_text f name ≡ Some (codes "true") → b ≡ true) → (one_text f name ≡ Some (codes "false") → b ≡ false)
    → IsFlagAt name (rows_of f) b
flag_read f name b none there not_there = subst (λ o. IsFlag o b) (one_text-rows f name) (flag_is (one_text f name) b none there not_there)

-- a number of 32 bits
number_is : {E : Type 0} (gives : Text → Result ℕ E → Type 0) (o : Option Text) (r : Option ℕ) (otherwise : ℕ) → (o ≡ None → r ≡ None)
    → ((t : Text) → o ≡ Some t → ReadsOne gives t r)
    → ((t : Text) (x : Result ℕ E) → gives t x → ParsesUnsigned 32 10 t x) → IsNumberOr otherwise o (unwrap_or r otherwise)
number_is gives None r otherwise none read parses = ap (λ x. unwrap_or x otherwise) (none refl)
number_is gives (Some t) (Some v) otherwise none read parses =
    let p = parses t (Ok v) (read t refl) in
    ((λ h. p.1), (λ not. absurd (not p.0)))
number_is gives (Some t) None otherwise none read parses =
    let e = read t refl in
    ((λ h. absurd (parses t (Err e.0) e.1 h)), (λ not. refl))

pub number_read : {E : Type 0} {gives : Text → Result ℕ E → Type 0} (f : Found) (name : Text) (r : Option ℕ) (otherwise : ℕ)
    → (one_text f name ≡ None → r ≡ None)
    → ((t : Text) → one_text f name ≡ Some t → ReadsOne gives t r) → ((t : Text) (x : Result ℕ E) → gives t x → ParsesUnsigned 32 10 t x)
    → IsNumberAt name (rows_of f) otherwise (unwrap_or r otherwise)
number_read {E} {gives} f name r otherwise none read parses =
    subst (λ o. IsNumberOr otherwise o (unwrap_or r otherwise)) (one_text-rows f name) (number_is gives (one_text f name) r otherwise none read parses)

-- a number of 32 bits, if there is one
number_if_is : {E : Type 0} (gives : Text → Result ℕ E → Type 0) (o : Option Text) (r : Option ℕ) → (o ≡ None → r ≡ None)
    → ((t : Text) → o ≡ Some t → ReadsOne gives t r)
    → ((t : Text) (x : Result ℕ E) → gives t x → ParsesUnsigned 32 10 t x) → IsNumberIf o r
number_if_is gives None r none read parses = none refl
number_if_is gives (Some t) (Some v) none read parses =
    let p = parses t (Ok v) (read t refl) in
    ((λ h. ap Some p.1), (λ not. absurd (not p.0)))
number_if_is gives (Some t) None none read parses =
    let e = read t refl in
    ((λ h. absurd (parses t (Err e.0) e.1 h)), (λ not. refl))

pub number_if_read : {E : Type 0} {gives : Text → Result ℕ E → Type 0} (f : Found) (name : Text) (r : Option ℕ) → (one_text f name ≡ None → r ≡ None)
    → ((t : Text) → one_text f name ≡ Some t → ReadsOne gives t r)
    → ((t : Text) (x : Result ℕ E) → gives t x → ParsesUnsigned 32 10 t x) → IsNumberIfAt name (rows_of f) r
number_if_read {E} {gives} f name r none read parses =
    subst (λ o. IsNumberIf o r) (one_text-rows f name) (number_if_is gives (one_text f name) r none read parses)

-- a text, or another
pub text_or : (o : Option (Bor Text)) (d : Bor Text) → (unwrap_or o d).now ≡ unwrap_or (option_map (λ s. s.now) o) d.now
text_or None d = refl
text_or (Some s) d = refl
