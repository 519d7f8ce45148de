-- When lines are colored.
use Rattle.std.specs.Prelude.{◌≡◌, ◌⊎◌, ℕ, Bool, true, false, not, ◌&&◌, List, codes}
use Rattle.fast_terminal.specs.declared.colors.When.{When}
use Rattle.fast_terminal.specs.declared.colors.When.TheVariants.{Auto, Always, Never}

-- the word for it
abbrev pub word_of : When → List ℕ
word_of Auto = codes "auto"
word_of Always = codes "always"
word_of Never = codes "never"

-- one of the words
abbrev pub IsWord : List ℕ → Type 0
IsWord word = (word ≡ word_of Auto) ⊎ (word ≡ word_of Always) ⊎ (word ≡ word_of Never)

-- whether lines are colored
abbrev pub colored : When → (is_terminal says_no : Bool) → Bool
colored Auto is_terminal says_no = is_terminal && not says_no
colored Always is_terminal says_no = true
colored Never is_terminal says_no = false
