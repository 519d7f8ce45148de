-- Numbers of any size.
use Rattle.std.proofs.Common.{◌≡◌, ◌≢◌, ℕ, List, ◌∷◌, ◌++◌, refl, sym, ◌∙◌, inl, inr, arith}
use Rattle.std.specs.Prelude.{Bool, true, false, IsTrue, ◌&&◌}
use Rattle.std.specs.Char.{IsAsciiDigit}
use Rattle.std.proofs.lemmas.List.Elements.{All-cons, All-weaker}
use Rattle.fast_lines.specs.meaning.Numbers.{IsDigits, IsSignedDigits, IsDecimalDigits, IsNumberOf, IsNumberText}
use Rattle.fast_lines.specs.meaning.Values.{Lacks}
use Rattle.fast_lines.proofs.Splits.{first_split}

-- digits lack an `e`
digits_lack : (ds : List ℕ) → IsDigits ds → Lacks 0x65 ds
digits_lack ds digits = All-weaker IsAsciiDigit (λ c. c ≢ 0x65) (λ c (d : IsAsciiDigit c) (e : c ≡ 0x65). omega (arith, d, e)) ds digits.digits

pub signed_lack : (text : List ℕ) → IsSignedDigits text → Lacks 0x65 text
signed_lack text h = elim h.how [
  | inl digits ↦ digits_lack text digits
  | inr minus ↦ rw minus.1 (All-cons (λ c. c ≢ 0x65) 0x2D minus.0 (λ (e : 0x2D ≡ 0x65). omega (arith, e)) (digits_lack minus.0 minus.2))
]

-- the parts of a decimal
pub decimal_split : (text front back : List ℕ) → Lacks 0x65 front → text ≡ front ++ 0x65 ∷ back → IsDecimalDigits text
    → IsSignedDigits front × IsSignedDigits back
decimal_split text front back lacks split h =
    let parts = first_split 0x65 front h.mantissa back h.exponent lacks (signed_lack h.mantissa h.before) (sym split ∙ h.is) in
    rw (parts.0, parts.1) (h.before, h.behind)

-- both tests
pub both_true : (a b : Bool) → IsTrue (a && b) → IsTrue a × IsTrue b
both_true true b h = (refl, h)
both_true false b h = absurd (true_apart h)
  where
    true_apart : IsTrue false → ⊥
    true_apart e = cc e

pub and_true : (a b : Bool) → IsTrue a → IsTrue b → IsTrue (a && b)
and_true a b p q = rw (p, q) refl

-- a letter, a space and digits
pub is_number_text : (text : List ℕ) (letter : ℕ) (digits : List ℕ) (r : Bool)
    → (IsTrue r → IsNumberOf letter digits) × (IsNumberOf letter digits → IsTrue r) → text ≡ letter ∷ 0x20 ∷ digits
    → (IsTrue r → IsNumberText text) × (IsNumberText text → IsTrue r)
is_number_text text letter digits r both split = (
  λ t. record { letter = letter; digits = digits; is = split; number = both.0 t },
  λ h. both.1 (at h.letter h.digits h.number (sym split ∙ h.is)),
)
  where
    at : (a : ℕ) (ds : List ℕ) → IsNumberOf a ds → letter ∷ 0x20 ∷ digits ≡ a ∷ 0x20 ∷ ds → IsNumberOf letter digits
    at a ds n e = let first : letter ≡ a = cc in let rest : digits ≡ ds = cc in rw (first, rest) n
