-- Chains of references: whether they end, and the number and the depth of the nodes to which they expand.
use Rattle.std.specs.Prelude.{◌≡◌, ℕ, zero, suc, ◌+◌, max, if◌then◌else◌, List, [], ◌∷◌, Contains, slice_get, Some}
use Rattle.std.specs.Str.{bytes_eq}
use Rattle.fast_tree.specs.meaning.AsWritten.{Declared, scalar, by_parts, group, sequence, reference, DeclaredList, no_more, more}
use Rattle.fast_tree.specs.meaning.AsWritten.{DeclaredTemplate, all_references}

-- All references of the instructions can be expanded in a chain of at most the given length.
unfoldable pub Fits : List DeclaredTemplate → ℕ → DeclaredList → Type 0
Fits ts zero ds = all_references ds ≡ []
Fits ts (suc n) ds = (name : List ℕ) (k : ℕ) (t : DeclaredTemplate) → Contains (all_references ds) name → slice_get ts k ≡ Some t
    → t.name ≡ name → Fits ts n t.fields

-- the number of nodes of instructions, by that of the templates to which references lead
abbrev mutual
  pub instruction_nodes : (List ℕ → ℕ) → Declared → ℕ
  instruction_nodes of (scalar name optional kind w) = 1
  instruction_nodes of (by_parts name optional e m) = 1
  instruction_nodes of (group name optional ds) = suc (nodes_by of ds)
  instruction_nodes of (sequence name optional own w ds) = suc (nodes_by of ds)
  instruction_nodes of (reference name) = of name

  pub nodes_by : (List ℕ → ℕ) → DeclaredList → ℕ
  nodes_by of no_more = 0
  nodes_by of (more d ds) = instruction_nodes of d + nodes_by of ds

-- the depth to which groups and sequences nest, by that of the templates to which references lead
abbrev mutual
  pub instruction_depth : (List ℕ → ℕ) → Declared → ℕ
  instruction_depth of (scalar name optional kind w) = 0
  instruction_depth of (by_parts name optional e m) = 0
  instruction_depth of (group name optional ds) = suc (depth_by of ds)
  instruction_depth of (sequence name optional own w ds) = suc (depth_by of ds)
  instruction_depth of (reference name) = of name

  pub depth_by : (List ℕ → ℕ) → DeclaredList → ℕ
  depth_by of no_more = 0
  depth_by of (more d ds) = max (instruction_depth of d) (depth_by of ds)

-- the fields of the first template with a name, none if there is none
unfoldable pub fields_named : List DeclaredTemplate → List ℕ → DeclaredList
fields_named [] name = no_more
fields_named (t ∷ ts) name = if bytes_eq name t.name then t.fields else fields_named ts name

-- the number of nodes of instructions with references expanded, in a chain of at most the given length
unfoldable pub nodes_in : List DeclaredTemplate → ℕ → DeclaredList → ℕ
nodes_in ts zero ds = nodes_by (λ name. 0) ds
nodes_in ts (suc n) ds = nodes_by (λ name. nodes_in ts n (fields_named ts name)) ds

-- the depth to which groups and sequences nest with references expanded, in a chain of at most the given length
unfoldable pub depth_in : List DeclaredTemplate → ℕ → DeclaredList → ℕ
depth_in ts zero ds = depth_by (λ name. 0) ds
depth_in ts (suc n) ds = depth_by (λ name. depth_in ts n (fields_named ts name)) ds
