-- References between templates by their numbers.
use Rattle.std.specs.Prelude.{◌≡◌, ℕ, zero, suc, ◌<◌, ◌≤◌, Bool, true, nat_lt, List, length, Contains, slice_get, Vec, Option, Some}
use Rattle.std.specs.Global.{Global}
use Rattle.std.specs.List.{filter_map}
use Rattle.fast_tree.specs.meaning.AsWritten.{DeclaredTemplate, all_references}

-- the numbers of the templates to which a template refers
abbrev pub targets_of : (List ℕ → Option ℕ) → DeclaredTemplate → List ℕ
targets_of index t = filter_map index (all_references t.fields)

-- the numbers without their memory
abbrev pub numbers : Vec ℕ Global → List ℕ
numbers v = v.items

-- The first refers to the second.
abbrev pub Refers : List (Vec ℕ Global) → ℕ → ℕ → Type 0
Refers graph a b = (v : Vec ℕ Global) × (slice_get graph a ≡ Some v) × Contains v.items b

-- A number of references lead from the first to the second.
unfoldable pub Leads : List (Vec ℕ Global) → ℕ → ℕ → ℕ → Type 0
Leads graph zero a b = a ≡ b
Leads graph (suc n) a b = (mid : ℕ) × Refers graph a mid × Leads graph n mid b

-- References lead to the second, or it is the first.
pub record IsReached (graph : List (Vec ℕ Global)) (start : ℕ) (k : ℕ) : Type 0 where
  pub inside : k < length graph
  pub count : ℕ
  pub leads : Leads graph count start k

-- References lead back.
pub record IsCyclic (graph : List (Vec ℕ Global)) (k : ℕ) : Type 0 where
  pub more : ℕ
  pub leads : Leads graph (suc more) k k

-- The rank of a template is no greater than this one, or, if strict, less.
abbrev pub LeadsDown : List ℕ → Bool → ℕ → ℕ → Type 0
LeadsDown ranks strict rank k = (next : ℕ) × (slice_get ranks k ≡ Some next) × (next ≤ rank) × (strict ≡ true → next < rank)

-- No reference leads to a greater rank, and those of the templates before one lead to lesser ones.
abbrev pub AreRanked : List (Vec ℕ Global) → List ℕ → ℕ → Type 0
AreRanked graph ranks first = (a b : ℕ) → Refers graph a b → (rank : ℕ) × (slice_get ranks a ≡ Some rank) × LeadsDown ranks (nat_lt a first) rank b

-- All numbers are those of templates.
abbrev pub AreWithin : List (Vec ℕ Global) → Type 0
AreWithin graph = (a b : ℕ) → Refers graph a b → b < length graph
