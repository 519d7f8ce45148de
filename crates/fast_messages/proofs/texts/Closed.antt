-- A text with an LF behind its last line begins with its first line.
use Rattle.std.proofs.Common.{◌≡◌, ◌≢◌, ℕ, ◌≤◌, List, [], ◌∷◌, ◌++◌, length, refl, ap, arith}
use Rattle.std.proofs.lemmas.Bool.{ne_eqb}
use Rattle.std.proofs.lemmas.List.Elements.{All-head, All-tail}
use Rattle.fast_lines.specs.meaning.Values.{Lacks}
use Rattle.fast_messages.specs.meaning.Reading.{closed}

pub closed_first : (line rest : List ℕ) → closed (line ++ 0x0A ∷ rest) ≡ line ++ 0x0A ∷ closed rest
closed_first [] [] = refl
closed_first [] (d ∷ rest) = refl
closed_first (c ∷ []) rest = ap (λ q. c ∷ q) (closed_first [] rest)
closed_first (c ∷ d ∷ line) rest = ap (λ q. c ∷ q) (closed_first (d ∷ line) rest)

pub closed_last : (line : List ℕ) → 1 ≤ length line → Lacks 0x0A line → closed line ≡ line ++ 0x0A ∷ []
closed_last [] some lacks = absurd (omega (arith, some))
closed_last (c ∷ []) some lacks = rw (ne_eqb c 0x0A (All-head (λ b. b ≢ 0x0A) c [] lacks)) refl
closed_last (c ∷ d ∷ line) some lacks = ap (λ q. c ∷ q) (closed_last (d ∷ line) (omega (arith)) (All-tail (λ b. b ≢ 0x0A) c (d ∷ line) lacks))
