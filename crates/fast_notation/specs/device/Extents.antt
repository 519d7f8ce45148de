-- The number of nodes of instructions and their nesting depth, counted up to the greatest number that is held.
use Rattle.std.specs.Prelude.{◌≡◌, ◌⊎◌, ℕ, zero, suc, ◌+◌, ◌<◌, ◌≤◌, max, min, List, [], ◌∷◌, length, slice_get, Option, Some, None, option_map}
use Rattle.fast_notation.specs.declared.extents.Extent.{Extent}
use Rattle.fast_tree.specs.meaning.AsWritten.{Declared, scalar, by_parts, group, sequence, reference, DeclaredList, no_more, more, DeclaredTemplate}
use Rattle.fast_tree.specs.meaning.Sizes.{nesting_limit}
use Rattle.fast_notation.specs.meaning.Refused.{Reaches}
use Rattle.fast_notation.specs.device.Chains.{Fits, nodes_in, depth_in}

-- the number, or the greatest that is held
abbrev pub capped : ℕ → ℕ
capped n = min n 4294967295

-- no instruction
abbrev pub nothing : Extent
nothing = record { nodes = 0; depth = 0 }

-- a field
abbrev pub single : Extent
single = record { nodes = 1; depth = 0 }

-- instructions before others
abbrev pub beside : Extent → Extent → Extent
beside a b = record { nodes = capped (a.nodes + b.nodes); depth = max a.depth b.depth }

-- a group or a sequence
abbrev pub around : Extent → Extent
around a = record { nodes = capped (a.nodes + 1); depth = capped (a.depth + 1) }

-- the value, if it is known
abbrev pub if_known : Option (Option Extent) → Option Extent
if_known None = None
if_known (Some e) = e

-- the extent of the template with a number, if it is known
abbrev pub extent_at : List (Option Extent) → Option ℕ → Option Extent
extent_at extents None = None
extent_at extents (Some k) = if_known (slice_get extents k)

-- the extent of a template by its name
abbrev pub named_extent : (List ℕ → Option ℕ) → List (Option Extent) → List ℕ → Option Extent
named_extent index extents name = extent_at extents (index name)

-- the next step on an extent, if it is known
abbrev pub and_then : Option Extent → (Extent → Option Extent) → Option Extent
and_then None next = None
and_then (Some e) next = next e

-- the extent of an instruction, and of instructions one after the other, by those of the templates to which references lead
abbrev mutual
  pub extent_in : (List ℕ → Option Extent) → Declared → Option Extent
  extent_in of (scalar name optional kind w) = Some single
  extent_in of (by_parts name optional e m) = Some single
  extent_in of (group name optional ds) = option_map around (extent_by of ds nothing)
  extent_in of (sequence name optional own w ds) = option_map around (extent_by of ds nothing)
  extent_in of (reference name) = of name

  pub extent_by : (List ℕ → Option Extent) → DeclaredList → Extent → Option Extent
  extent_by of no_more total = Some total
  extent_by of (more d ds) total = and_then (extent_in of d) (λ e. extent_by of ds (beside total e))

-- the first, or else the second
abbrev pub or_extent : Option Extent → Option Extent → Option Extent
or_extent (Some e) other = Some e
or_extent None other = other

-- One round more: each template has the extent that is known, or else the one by those that are known.
abbrev pub next_extents : (List ℕ → Option Extent) → List (Option Extent) → List DeclaredTemplate → List (Option Extent)
next_extents of [] ts = []
next_extents of (e ∷ es) [] = []
next_extents of (e ∷ es) (t ∷ ts) = or_extent e (extent_by of t.fields nothing) ∷ next_extents of es ts

-- the number of nodes, if it is known
abbrev pub known_nodes : Option Extent → ℕ
known_nodes None = 0
known_nodes (Some e) = e.nodes

-- The instructions fit in fewer than n rounds, and have this extent.
unfoldable pub IsExtent : List DeclaredTemplate → ℕ → DeclaredList → Extent → Type 0
IsExtent ts zero ds e = ⊥
IsExtent ts (suc n) ds e = Fits ts n ds × (e.nodes ≡ capped (nodes_in ts n ds)) × (e.depth ≡ capped (depth_in ts n ds))

-- A number of references lead on from the template.
unfoldable pub LeadsOn : List DeclaredTemplate → ℕ → ℕ → Type 0
LeadsOn ts n k = (b : ℕ) × Reaches ts n k b

-- The extents that are known after n rounds.
pub record AreExtents (ts : List DeclaredTemplate) (n : ℕ) (extents : List (Option Extent)) : Type 0 where
  pub long : length extents ≡ length ts
  pub known : (k : ℕ) (t : DeclaredTemplate) (e : Extent) → slice_get ts k ≡ Some t → slice_get extents k ≡ Some (Some e) → IsExtent ts n t.fields e
  pub unknown : (k : ℕ) → slice_get extents k ≡ Some None → LeadsOn ts n k

-- The extent is known and not too deep.
abbrev pub IsShallow : Option Extent → Type 0
IsShallow None = ⊥
IsShallow (Some e) = e.depth ≤ nesting_limit

-- The extent of the template of this number is not known, or it is too deep.
abbrev pub IsDeepAt : List (Option Extent) → ℕ → Type 0
IsDeepAt extents k = (slice_get extents k ≡ Some None) ⊎ ((e : Extent) × (slice_get extents k ≡ Some (Some e)) × (nesting_limit < e.depth))
