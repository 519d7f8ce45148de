-- What the first bytes of a text tell of it, and what is told on of what was read behind them.
use Rattle.std.proofs.Common.{Bool, true, false, ◌≡◌, ◌≢◌, ℕ, suc, ◌<◌, ◌≤◌, ◌^◌, ◌-◌, List, [], ◌∷◌, ◌++◌, length, take, drop}
use Rattle.std.proofs.Common.{slice_index_or, get_or, subst, sym, ◌∙◌, ap, ℤ, arith}
use Rattle.std.specs.Prelude.{decimal, Option, Some, None, Result, Ok, Err, IfSome, IfNone, IfOk, All, flat_map}
use Rattle.std.specs.Option.{MatchOption, IsSomeAnd, is_some}
use Rattle.std.specs.Fmt.{signed_decimal}
use Rattle.std.proofs.lemmas.List.{take_all, drop_all, append_cancel_right}
use Rattle.std.proofs.Math.Seq.{split_at}
use Rattle.fast_value.specs.meaning.Kinds.{ScalarData, U, I, Dec, AsciiText, UnicodeText, ByteVector, IsWithin, signed_range}
use Rattle.fast_lines.specs.meaning.Lines.{written, quoted, hex_byte}
use Rattle.fast_lines.specs.meaning.Values.{IsHeld}
use Rattle.fast_lines.proofs.OneValue.{behind_letter, letter, spelled, as_spelled}

-- a text by its first two bytes
pub behind_two : (text : List ℕ) (x y : ℕ) → 2 ≤ length text → slice_index_or text 0 0 ≡ x → slice_index_or text 1 0 ≡ y
    → text ≡ x ∷ y ∷ take (length text - 2) (drop 2 text)
behind_two [] x y long first second = absurd (omega (arith, long))
behind_two (a ∷ []) x y long first second = absurd (omega (arith, long))
behind_two (a ∷ b ∷ text) x y long first second =
    let whole : take (length (a ∷ b ∷ text) - 2) (drop 2 (a ∷ b ∷ text)) ≡ text = take_all (length (a ∷ b ∷ text) - 2) text (omega arith) in
    cc (first, second, whole)

-- what holds of a value that is mapped
pub mapped : {A B : Type 0} (o : Option A) (r : Option B) (f : A → B) (P : A → Type 0) (Q : B → Type 0)
    → MatchOption o (r ≡ None) (λ x. IsSomeAnd r (λ y. y ≡ f x)) → IfSome o P
    → ((x : A) → P x → Q (f x)) → IfSome r Q
mapped None None f P Q m h g = tt
mapped None (Some y) f P Q m h g = cc m
mapped (Some x) None f P Q m h g = tt
mapped (Some x) (Some y) f P Q m h g = subst Q (sym m) (g x h)

pub mapped_none : {A B : Type 0} (o : Option A) (r : Option B) (P Q : Type 0) → is_some r ≡ is_some o → IfNone o P → (P → Q) → IfNone r Q
mapped_none None None P Q e h f = f h
mapped_none None (Some y) P Q e h f = tt
mapped_none (Some x) None P Q e h f = cc e
mapped_none (Some x) (Some y) P Q e h f = tt

-- what holds of a value that was read
pub read_some : {A E : Type 0} (r : Result (Option A) E) (P Q : A → Type 0) → IfOk r (λ o. IfSome o P) → ((x : A) → P x → Q x) → IfOk r (λ o. IfSome o Q)
read_some (Ok (Some x)) P Q h f = f x h
read_some (Ok None) P Q h f = tt
read_some (Err e) P Q h f = tt

pub read_none : {A E : Type 0} (r : Result (Option A) E) (P Q : Type 0) → IfOk r (λ o. IfNone o P) → (P → Q) → IfOk r (λ o. IfNone o Q)
read_none (Ok (Some x)) P Q h f = tt
read_none (Ok None) P Q h f = f h
read_none (Err e) P Q h f = tt

-- A text is no value if what stands behind its letter is none of that letter's.
no_value : (x : ℕ) (text rest : List ℕ) → text ≡ x ∷ 32 ∷ rest → ((v : ScalarData) → IsHeld v → letter v ≡ x → rest ≢ spelled v)
    → (v : ScalarData) → IsHeld v → text ≢ written v
no_value x text rest is none v held h = let p = behind_letter (letter v) x (spelled v) rest (sym (as_spelled v) ∙ sym h ∙ is) in none v held p.0 (sym p.1)

pub no_unsigned : (text rest : List ℕ) → text ≡ 117 ∷ 32 ∷ rest → ((n : ℕ) → n < 2 ^ 64 → rest ≢ decimal n) → (v : ScalarData) → IsHeld v → text ≢ written v
no_unsigned text rest is none = no_value 117 text rest is at
  where
    at : (v : ScalarData) → IsHeld v → letter v ≡ 117 → rest ≢ spelled v
    at (U n) held l e = none n held e
    at v held l e = absurd (omega (arith, l))

pub no_signed : (text rest : List ℕ) → text ≡ 105 ∷ 32 ∷ rest → ((x : ℤ) → IsWithin (signed_range 63) x → rest ≢ signed_decimal x)
    → (v : ScalarData) → IsHeld v → text ≢ written v
no_signed text rest is none = no_value 105 text rest is at
  where
    at : (v : ScalarData) → IsHeld v → letter v ≡ 105 → rest ≢ spelled v
    at (I x) held l e = none x held e
    at v held l e = absurd (omega (arith, l))

pub no_decimal : (text rest : List ℕ) → text ≡ 100 ∷ 32 ∷ rest
    → ((e m : ℤ) → IsWithin (signed_range 31) e → IsWithin (signed_range 63) m → rest ≢ signed_decimal m ++ 0x65 ∷ signed_decimal e)
    → (v : ScalarData) → IsHeld v → text ≢ written v
no_decimal text rest is none = no_value 100 text rest is at
  where
    at : (v : ScalarData) → IsHeld v → letter v ≡ 100 → rest ≢ spelled v
    at (Dec e m) held l h = none e m held.0 held.1 h
    at v held l e = absurd (omega (arith, l))

pub no_ascii : (text rest : List ℕ) → text ≡ 97 ∷ 32 ∷ rest → ((w : List ℕ) → rest ≢ quoted w) → (v : ScalarData) → IsHeld v → text ≢ written v
no_ascii text rest is none = no_value 97 text rest is at
  where
    at : (v : ScalarData) → IsHeld v → letter v ≡ 97 → rest ≢ spelled v
    at (AsciiText w) held l e = none w e
    at v held l e = absurd (omega (arith, l))

pub no_unicode : (text rest : List ℕ) → text ≡ 115 ∷ 32 ∷ rest → ((w : List ℕ) → rest ≢ quoted w) → (v : ScalarData) → IsHeld v → text ≢ written v
no_unicode text rest is none = no_value 115 text rest is at
  where
    at : (v : ScalarData) → IsHeld v → letter v ≡ 115 → rest ≢ spelled v
    at (UnicodeText w) held l e = none w e
    at v held l e = absurd (omega (arith, l))

-- a text by its first byte and its last
pub between_two : (text : List ℕ) (x y : ℕ) → 2 ≤ length text → slice_index_or text 0 0 ≡ x → slice_index_or text (length text - 1) 0 ≡ y
    → text ≡ x ∷ take (length text - 1 - 1) (drop 1 text) ++ y ∷ []
between_two [] x y long first last = absurd (omega (arith, long))
between_two (a ∷ []) x y long first last = absurd (omega (arith, long))
between_two (a ∷ b ∷ text) x y long first last =
    let after : drop (suc (length text)) (b ∷ text) ≡ [] = drop_all (suc (length text)) (b ∷ text) (omega arith) in
    let place : length (a ∷ b ∷ text) - 1 ≡ suc (length text) = omega arith in
    let at : get_or (b ∷ text) (length text) 0 ≡ y = subst (λ (i : ℕ). get_or (a ∷ b ∷ text) i 0 ≡ y) place last in
    let end : get_or (b ∷ text) (length text) 0 ∷ drop (suc (length text)) (b ∷ text) ≡ y ∷ [] = cc (at, after) in
    let rest : b ∷ text ≡ take (length text) (b ∷ text) ++ y ∷ [] = split_at (b ∷ text) (length text) 0 (omega arith)
    ∙ ap (λ (ys : List ℕ). take (length text) (b ∷ text) ++ ys) end in
    let few : length (a ∷ b ∷ text) - 1 - 1 ≡ length text = omega arith in
    subst (λ (n : ℕ). a ∷ b ∷ text ≡ x ∷ take n (b ∷ text) ++ y ∷ []) (sym few) (cc (first, rest))

-- texts between the same two bytes
pub same_between : (s t : List ℕ) (x : ℕ) → x ∷ s ++ x ∷ [] ≡ x ∷ t ++ x ∷ [] → s ≡ t
same_between s t x h = let same : s ++ x ∷ [] ≡ t ++ x ∷ [] = cc h in append_cancel_right s t (x ∷ []) same

pub no_bytes : (text rest : List ℕ) → text ≡ 98 ∷ 32 ∷ rest → ((w : List ℕ) → All (λ c. c < 256) w → rest ≢ flat_map hex_byte w)
    → (v : ScalarData) → IsHeld v → text ≢ written v
no_bytes text rest is none = no_value 98 text rest is at
  where
    at : (v : ScalarData) → IsHeld v → letter v ≡ 98 → rest ≢ spelled v
    at (ByteVector w) held l e = none w held e
    at v held l e = absurd (omega (arith, l))

-- a test that passes doesn't fail
pub not_both : (b : Bool) → b ≡ true → b ≡ false → ⊥
not_both b first second = cc (first, second)

pub not_ok : {A E : Type 0} (r : Result A E) (e : E) (x : A) → r ≡ Err e → r ≡ Ok x → ⊥
not_ok r e x first second = cc (first, second)
