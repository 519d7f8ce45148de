-- The tree of a written template set.
use Rattle.std.specs.Prelude.{◌≡◌, ◌≢◌, ℕ, suc, ◌≤◌, List, [], length, All, AllPairs, Some}
use Rattle.toml.specs.Data.{Members}
use Rattle.fast_tree.specs.meaning.Tree.{Instruction, field, parts, group, sequence, Body, end, step, bits_of, message_bits, Tree}
use Rattle.fast_tree.specs.meaning.Sizes.{body_depth, segment_limit, nesting_limit, node_limit}
use Rattle.fast_tree.specs.meaning.AsWritten.{DeclaredTemplate}
use Rattle.fast_notation.specs.meaning.Notation.{WritesSet}
use Rattle.fast_tree.specs.meaning.Entries.{Entry, uses_from, Collects}
use Rattle.fast_notation.specs.meaning.Uses.{IsS2, IsS4, IsS5}
use Rattle.fast_notation.specs.meaning.InPlace.{AreInPlace}

-- No segment has more bits than a map.
abbrev mutual
  pub IsNarrowInside : Instruction → Type 0
  IsNarrowInside (field l f) = Unit {0}
  IsNarrowInside (parts l e m) = Unit {0}
  IsNarrowInside (group l optional body) = (bits_of body ≤ segment_limit) × AreNarrowInside body
  IsNarrowInside (sequence l length body) = (bits_of body ≤ segment_limit) × AreNarrowInside body

  pub AreNarrowInside : Body → Type 0
  AreNarrowInside end = Unit {0}
  AreNarrowInside (step i is) = IsNarrowInside i × AreNarrowInside is

-- The document stands for the tree. There is such a tree exactly if the document has none of the faults that have a code: shape, suits and
-- initial values, names and identifiers, references, depth, bits, nodes.
pub record IsTree (document : Members) (t : Tree) : Type 0 where
  pub written : List DeclaredTemplate
  pub entries : List Entry
  pub nodes : ℕ
  pub shape : WritesSet document written
  pub names : AllPairs (λ a b. a.name ≢ b.name) written
  pub ids : AllPairs (λ a b. (id : ℕ) → a.id ≡ Some id → b.id ≢ Some id) written
  pub suited : All (λ u. ¬ (IsS2 u.1) × ¬ (IsS4 u.1) × ¬ (IsS5 u.1)) (uses_from 0 written)
  pub entries_of : Collects [] (uses_from 0 written) entries
  pub in_place : AreInPlace written entries 0 written 0 t.templates nodes
  pub few_nodes : nodes ≤ node_limit
  pub shallow : All (λ u. body_depth u.body ≤ nesting_limit) t.templates
  pub narrow : All (λ u. (message_bits u ≤ segment_limit) × AreNarrowInside u.body) t.templates
  pub entry_count : t.entries ≡ suc (length entries)
