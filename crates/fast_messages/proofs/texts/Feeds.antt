-- How many lines end in a text.
use Rattle.std.proofs.Common.{◌≡◌, ℕ, ◌+◌, ◌≤◌, List, [], ◌∷◌, ◌++◌, arith}
use Rattle.fast_messages.specs.meaning.Reading.{feeds}

pub feeds-append : (xs ys : List ℕ) → feeds (xs ++ ys) ≡ feeds xs + feeds ys
feeds-append [] ys = let none : feeds ys ≡ 0 + feeds ys = omega arith in none
feeds-append (x ∷ xs) ys = let more : feeds (xs ++ ys) ≡ feeds xs + feeds ys = feeds-append xs ys in omega (arith, more)

-- a line and what follows it
pub feeds_line : (line rest : List ℕ) → 1 + feeds rest ≤ feeds (line ++ 0x0A ∷ rest)
feeds_line line rest = let all : feeds (line ++ 0x0A ∷ rest) ≡ feeds line + (1 + feeds rest) = feeds-append line (0x0A ∷ rest) in omega (arith, all)
