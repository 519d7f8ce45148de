-- The fault of a written set that is reported, if it has several.
use Rattle.std.specs.Prelude.{◌≡◌, ◌⊎◌, ℕ, ◌<◌, ◌≤◌, List, All, Option, Some, IfSome, sum_by, take}
use Rattle.toml.specs.Data.{table, Items, Members, get_item}
use Rattle.fast_notation.specs.declared.codes.StaticCode.{StaticCode}
use Rattle.fast_notation.specs.declared.codes.StaticCode.TheVariants.{S1, S2, S3, S4, S5, D8, C1, C2, C3, C4, C5, C6, Memory}
use Rattle.fast_tree.specs.meaning.AsWritten.{DeclaredTemplate}
use Rattle.fast_notation.specs.device.Chains.{Fits, nodes_in, depth_in}
use Rattle.fast_notation.specs.meaning.Notation.{WritesTemplate, WritesSet}
use Rattle.fast_notation.specs.meaning.Refused.{StandsAt}
use Rattle.fast_tree.specs.meaning.Sizes.{nesting_limit, node_limit}
use Rattle.fast_notation.specs.meaning.Unwritten.{HasTables}

-- the number of the pass that looks for a code's condition
abbrev pub pass_of : StaticCode → ℕ
pass_of S1 = 0
pass_of C1 = 1
pass_of C2 = 2
pass_of S2 = 3
pass_of S3 = 3
pass_of S4 = 3
pass_of S5 = 3
pass_of D8 = 4
pass_of C3 = 5
pass_of C4 = 6
pass_of C6 = 7
pass_of C5 = 8
pass_of Memory = 9

-- A pass comes before another, or it is the same at an earlier template.
abbrev pub ComesBefore : ℕ → ℕ → ℕ → ℕ → Type 0
ComesBefore p j n k = (p < n) ⊎ (p ≡ n) × (j < k)

-- One fault is reported before another: that of an earlier pass, and of one pass that of the earlier template. Less is said of chains that
-- are too long: they may be reported if a template that is no earlier refers to itself.
abbrev pub IsToldBefore : StaticCode → ℕ → StaticCode → ℕ → Type 0
IsToldBefore c j C4 k = (pass_of c < pass_of C3) ⊎ (pass_of c ≤ pass_of C4) × (j < k)
IsToldBefore c j code k = ComesBefore (pass_of c) j (pass_of code) k

-- The set has no fault that is reported before one of this code at this template.
abbrev pub IsFirst : List DeclaredTemplate → StaticCode → ℕ → Type 0
IsFirst ts code k = (c : StaticCode) (j : ℕ) → IsToldBefore c j code k → ¬ (StandsAt ts c j)

-- The templates that are written before the one at fault are written as they should be.
abbrev pub IsFirstUnwritten : Option Members → ℕ → Type 0
IsFirstUnwritten read k = (document ms : Members) (xs : Items) (j : ℕ) → read ≡ Some document → HasTables document xs → j < k
    → get_item j xs ≡ Some (table ms) → (t : DeclaredTemplate) × WritesTemplate ms t

-- The first fault of a file.
abbrev pub IsFirstFault : Option Members → StaticCode → Option ℕ → Type 0
IsFirstFault read code template =
    ((document : Members) (ts : List DeclaredTemplate) → read ≡ Some document → WritesSet document ts → IfSome template (IsFirst ts code))
    × (code ≡ S1 → IfSome template (IsFirstUnwritten read))

-- No chain that leads from one of the templates is too long, and none of them is too deep.
abbrev pub AreChained : List DeclaredTemplate → List DeclaredTemplate → Type 0
AreChained all ts = All (λ t. Fits all nesting_limit t.fields × (depth_in all nesting_limit t.fields ≤ nesting_limit)) ts

-- The properties that the passes over chains have shown before a fault of this code at this template.
abbrev pub IsFirstInChains : List DeclaredTemplate → StaticCode → ℕ → Type 0
IsFirstInChains ts C3 k = (j : ℕ) → j < k → ¬ (StandsAt ts C3 j)
IsFirstInChains ts C4 k = AreChained ts (take k ts)
IsFirstInChains ts C6 k = AreChained ts ts × (sum_by (λ t. nodes_in ts nesting_limit t.fields) (take k ts) ≤ node_limit)
IsFirstInChains ts code k = ⊥
