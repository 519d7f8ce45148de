-- Sets that are read: the nodes that are built for the templates of a file.
use Rattle.std.specs.Prelude.{◌≡◌, ◌≢◌, ℕ, suc, ◌<◌, ◌≤◌, ◌^◌, List, [], All, AllPairs, length, map, sum_by, Option}
use Rattle.fast_notation.specs.declared.building.BuiltSet.{BuiltSet}
use Rattle.fast_tree.specs.meaning.AsWritten.{DeclaredTemplate, all_uses}
use Rattle.fast_notation.specs.device.Built.{AreBuilt}
use Rattle.fast_notation.specs.device.Chains.{Fits, nodes_in}
use Rattle.fast_tree.specs.meaning.Entries.{Entry, Collects, uses_from}
use Rattle.fast_tree.specs.meaning.NodeData.{node_data, outline}
use Rattle.fast_tree.specs.device.Places.{place_of_name}
use Rattle.fast_notation.specs.device.References.{KnowsReferences}
use Rattle.fast_tree.specs.meaning.Sizes.{nesting_limit, node_limit}
use Rattle.fast_notation.specs.device.Sound.{IsSound}

-- The templates of a file, of which an index by name is known, can be built.
pub record IsChecked (look : List ℕ → Option ℕ) (ts : List DeclaredTemplate) : Type 0 where
  pub many : length ts < 2 ^ 32
  pub index : (q : List ℕ) → look q ≡ place_of_name q ts
  pub names : AllPairs (λ a b. a.name ≢ b.name) ts
  pub known : KnowsReferences ts
  pub sound : All (λ t. All IsSound (all_uses t.fields)) ts
  pub fits : All (λ t. Fits ts nesting_limit t.fields) ts
  pub few : sum_by (λ t. nodes_in ts nesting_limit t.fields) ts ≤ node_limit

-- These are built, with the entries of all operators.
pub record IsSetBuilt (ts : List DeclaredTemplate) (built : BuiltSet) : Type 0 where
  pub entries : List Entry
  pub collected : Collects [] (uses_from 0 ts) entries
  pub are_built : AreBuilt ts entries ts (map node_data built.nodes.items) (map outline built.templates.items)
  pub count : built.entries ≡ suc (length entries)
