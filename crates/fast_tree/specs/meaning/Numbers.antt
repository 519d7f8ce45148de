-- The numbers by which templates and nodes name nodes.
use Rattle.std.specs.Prelude.{◌≡◌, ℕ, ◌<◌, List, [], EachIndex, length, slice_get, slice_index, Some}
use Rattle.fast_tree.specs.declared.instructions.Shape.{Shape}
use Rattle.fast_tree.specs.declared.instructions.Shape.TheVariants.{Field, Decimal, Group, Sequence}
use Rattle.fast_tree.specs.declared.instructions.Node.{Node}
use Rattle.fast_tree.specs.declared.instructions.Template.{Template}

-- the nodes that a shape names
abbrev pub numbers_of : Shape → List ℕ
numbers_of (Field f) = []
numbers_of (Decimal e m) = []
numbers_of (Group optional body) = body.items
numbers_of (Sequence length body) = body.items

-- Each number is below the limit.
abbrev pub AreBelow : ℕ → List ℕ → Type 0
AreBelow limit ns = EachIndex ns (λ k. slice_index ns k < limit)

-- Each number is above the first and below the limit.
abbrev pub AreBetween : ℕ → ℕ → List ℕ → Type 0
AreBetween own limit ns = EachIndex ns (λ k. (own < slice_index ns k) × (slice_index ns k < limit))

-- Each template names nodes of the set.
abbrev pub NameNodes : ℕ → List Template → Type 0
NameNodes limit ts = (i : ℕ) (t : Template) → slice_get ts i ≡ Some t → AreBelow limit t.body.items

-- Each node names later nodes of the set.
abbrev pub NameLaterNodes : List Node → Type 0
NameLaterNodes ns = (n : ℕ) (v : Node) → slice_get ns n ≡ Some v → AreBetween n (length ns) (numbers_of v.shape)
