-- The nodes of instructions, and the conditions under which they are built.
use Rattle.std.specs.Prelude.{◌≡◌, ◌≢◌, ℕ, ◌+◌, ◌*◌, ◌≤◌, zero, suc, List, [], ◌∷◌, ◌++◌, All, AllPairs, IsSome, length, map, flat_map, Option, Vec}
use Rattle.std.specs.Global.{Global}
use Rattle.fast_tree.specs.declared.instructions.Node.{Node}
use Rattle.fast_tree.specs.meaning.AsWritten.{DeclaredList, DeclaredTemplate, Use, all_uses, all_references}
use Rattle.fast_notation.specs.device.Chains.{Fits, nodes_in}
use Rattle.fast_tree.specs.meaning.Entries.{Entry, Scope, Collects, uses_from}
use Rattle.fast_notation.specs.device.EntryKeys.{HasEntry}
use Rattle.fast_notation.specs.meaning.InPlace.{InPlace, AreInPlace}
use Rattle.fast_tree.specs.meaning.NodeData.{ShapeData, a_field, a_decimal, a_group, a_sequence, NodeData, node_data, TemplateOutline}
use Rattle.fast_tree.specs.device.Places.{place_of_name}
use Rattle.fast_notation.specs.device.References.{KnowsReferences}
use Rattle.fast_tree.specs.meaning.Sizes.{node_limit}
use Rattle.fast_notation.specs.device.Sound.{IsSound}
use Rattle.fast_tree.specs.meaning.Tree.{Instruction, field, parts, group, sequence, Body, end, step, TemplateData}

-- the number of an instruction's node
abbrev pub own_number : Instruction → ℕ
own_number (field l f) = l.node
own_number (parts l e m) = l.node
own_number (group l optional body) = l.node
own_number (sequence l length body) = l.node

-- the numbers of the nodes of a body, without those inside them
abbrev pub top_numbers : Body → List ℕ
top_numbers end = []
top_numbers (step i is) = own_number i ∷ top_numbers is

-- the nodes of an instruction and of all that it contains, and those of a body, in preorder
abbrev mutual
  pub spread : Instruction → List NodeData
  spread (field l f) = record { name = l.name; shape = a_field f } ∷ []
  spread (parts l e m) = record { name = l.name; shape = a_decimal e m } ∷ []
  spread (group l optional body) = record { name = l.name; shape = a_group optional (top_numbers body) } ∷ spread_all body
  spread (sequence l length body) = record { name = l.name; shape = a_sequence length (top_numbers body) } ∷ spread_all body

  pub spread_all : Body → List NodeData
  spread_all end = []
  spread_all (step i is) = spread i ++ spread_all is

-- the nodes with another shape for the one of this number
abbrev pub with_shape : List NodeData → ℕ → ShapeData → List NodeData
with_shape [] n s = []
with_shape (x ∷ xs) zero s = record { name = x.name; shape = s } ∷ xs
with_shape (x ∷ xs) (suc n) s = x ∷ with_shape xs n s

-- the data of nodes
abbrev pub data_of : Vec Node Global → List NodeData
data_of v = map node_data v.items

-- The use of an operator in a scope can be built: it has its entry, and no fault.
pub record IsReady (entries : List Entry) (s : Scope) (u : Use) : Type 0 where
  pub entry : HasEntry entries s u
  pub sound : IsSound u

-- The templates and their entries, of which an index by name is known.
pub record IsIndexed (look : List ℕ → Option ℕ) (ts : List DeclaredTemplate) (entries : List Entry) : Type 0 where
  pub index : (q : List ℕ) → look q ≡ place_of_name q ts
  pub names : AllPairs (λ a b. a.name ≢ b.name) ts
  pub known : KnowsReferences ts
  pub sound : All (λ t. All IsSound (all_uses t.fields)) ts
  pub collected : Collects [] (uses_from 0 ts) entries
  pub few : length entries ≤ 2 * node_limit

-- The instructions can be built after n nodes, with references expanded in a chain of at most the given length.
pub record CanBuild (ts : List DeclaredTemplate) (entries : List Entry) (chain : ℕ) (s : Scope) (ds : DeclaredList) (n : ℕ) : Type 0 where
  pub ready : All (IsReady entries s) (all_uses ds)
  pub known : All (λ name. IsSome (place_of_name name ts)) (all_references ds)
  pub fits : Fits ts chain ds
  pub few : n + nodes_in ts chain ds ≤ node_limit

-- The instructions with references expanded are a body, whose nodes follow the old ones, and whose numbers follow those that were there.
pub record IsBuilt (ts : List DeclaredTemplate) (entries : List Entry) (chain : ℕ) (s : Scope) (ds : DeclaredList)
    (old new : List NodeData) (before after : List ℕ) : Type 0 where
  pub body : Body
  pub in_place : InPlace ts entries chain s ds (length old) body (length new)
  pub nodes : new ≡ old ++ spread_all body
  pub numbers : after ≡ before ++ top_numbers body

-- a template by the numbers of its nodes
abbrev pub outline_of : TemplateData → TemplateOutline
outline_of u = record { name = u.name; id = u.id; reset = u.reset; body = top_numbers u.body }

-- The first templates of a set with references expanded, their nodes, and how they name these.
pub record AreBuilt (all : List DeclaredTemplate) (entries : List Entry) (ts : List DeclaredTemplate) (nodes : List NodeData)
    (outlines : List TemplateOutline) : Type 0 where
  pub templates : List TemplateData
  pub in_place : AreInPlace all entries 0 ts 0 templates (length nodes)
  pub spread_into : nodes ≡ flat_map (λ u. spread_all u.body) templates
  pub named_by : outlines ≡ map outline_of templates
