-- One byte more of a map in its cells.
use Rattle.std.proofs.Common.{sym, ap, ◌∙◌, subst, arith, append_assoc}
use Rattle.std.specs.Prelude.{◌≡◌, ℕ, ◌+◌, ◌<◌, List, [], ◌∷◌, ◌++◌, length, take}
use Rattle.std.proofs.Common.{get_or}
use Rattle.std.proofs.lemmas.List.{take_more}
use Rattle.std.proofs.lemmas.List.Elements.{All-push}
use Rattle.fast_wire.specs.meaning.Entities.{HaveNoStop}

-- The bytes up to the next one of a list.
pub next_byte : (front rest : List ℕ) (i : ℕ) → i < length rest → (front ++ take i rest) ++ get_or rest i 0 ∷ [] ≡ front ++ take (i + 1) rest
next_byte front rest i h = append_assoc front (take i rest) (get_or rest i 0 ∷ []) ∙ ap (λ t. front ++ t) (sym (take_more rest i 0 h))

pub more_open : (front rest : List ℕ) (i : ℕ) → i < length rest → HaveNoStop (front ++ take i rest) → get_or rest i 0 < 128
    → HaveNoStop (front ++ take (i + 1) rest)
more_open front rest i h o small = subst HaveNoStop (next_byte front rest i h) (All-push (λ b. b < 128) (front ++ take i rest) (get_or rest i 0) o small)

pub more_bytes : (front rest old new : List ℕ) (len i : ℕ) → i < length rest → take (len + i) old ≡ front ++ take i rest
    → take (len + i + 1) new ≡ take (len + i) old ++ get_or rest i 0 ∷ []
    → take (len + (i + 1)) new ≡ front ++ take (i + 1) rest
more_bytes front rest old new len i h e k =
    let n : len + (i + 1) ≡ len + i + 1 = omega arith in
    ap (λ m. take m new) n ∙ k ∙ ap (λ t. t ++ get_or rest i 0 ∷ []) e ∙ next_byte front rest i h
