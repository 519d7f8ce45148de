-- The index of the first element that passes a test.
use Rattle.std.specs.Prelude.{ℕ, suc, Bool, false, nat_eq, if◌then◌else◌, List, [], ◌∷◌, Option, Some, None}
use Rattle.std.specs.Str.{bytes_eq}
use Rattle.fast_tree.specs.meaning.AsWritten.{DeclaredTemplate}

-- the index of the first element that passes, counted from a number on
abbrev pub place : {A : Type 0} → (A → Bool) → ℕ → List A → Option ℕ
place test n [] = None
place test n (x ∷ xs) = if test x then Some n else place test (suc n) xs

-- the identifier is this one
abbrev pub is_id : ℕ → Option ℕ → Bool
is_id id None = false
is_id id (Some own) = nat_eq id own

-- the first template with a name
abbrev pub place_of_name : List ℕ → List DeclaredTemplate → Option ℕ
place_of_name name ts = place (λ t. bytes_eq name t.name) 0 ts

-- the first template with an identifier
abbrev pub place_of_id : ℕ → List DeclaredTemplate → Option ℕ
place_of_id id ts = place (λ t. is_id id t.id) 0 ts
