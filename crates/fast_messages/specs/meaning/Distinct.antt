-- Bodies whose instructions have different numbers.
use Rattle.std.specs.Prelude.{◌≡◌, ◌≢◌, ℕ, slice_get, Some}
use Rattle.fast_tree.specs.meaning.Tree.{Instruction, field, parts, group, sequence, Body, end, step, TemplateData, Tree}

-- the number of the instruction's node
abbrev pub number : Instruction → ℕ
number (field l f) = l.node
number (parts l e m) = l.node
number (group l optional body) = l.node
number (sequence l length body) = l.node

-- No instruction of the body has the number. Those within groups and sequences may.
abbrev pub HasNone : ℕ → Body → Type 0
HasNone n end = Unit {0}
HasNone n (step i is) = (number i ≢ n) × HasNone n is

-- In each body, no two instructions have one number.
abbrev mutual
  pub IsDistinct : Instruction → Type 0
  IsDistinct (field l f) = Unit {0}
  IsDistinct (parts l e m) = Unit {0}
  IsDistinct (group l optional body) = AreDistinct body
  IsDistinct (sequence l length body) = AreDistinct body

  pub AreDistinct : Body → Type 0
  AreDistinct end = Unit {0}
  AreDistinct (step i is) = IsDistinct i × HasNone (number i) is × AreDistinct is

-- so in all templates
abbrev pub HasDistinctBodies : Tree → Type 0
HasDistinctBodies t = (k : ℕ) (u : TemplateData) → slice_get t.templates k ≡ Some u → AreDistinct u.body
