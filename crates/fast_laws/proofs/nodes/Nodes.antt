-- The instructions of a set's tree are its nodes, by their numbers.
use Rattle.std.proofs.Common.{◌≡◌, ℕ, zero, suc, ◌+◌, ◌-◌, ◌<◌, ◌≤◌, List, [], ◌∷◌, length, refl, ap, sym, subst, ◌∙◌, arith}
use Rattle.std.specs.Prelude.{map, slice_get, slice_index, slice_index_or, Some}
use Rattle.fast_tree.specs.declared.instructions.Node.{Node}
use Rattle.fast_tree.specs.declared.instructions.Shape.{Shape}
use Rattle.fast_tree.specs.declared.instructions.Shape.TheVariants.{Field, Decimal, Group, Sequence}
use Rattle.fast_tree.specs.declared.instructions.Template.{Template}
use Rattle.fast_tree.specs.meaning.NodeData.{ShapeData, a_field, a_decimal, a_group, a_sequence, shape_data}
use Rattle.fast_tree.specs.meaning.Nodes.{label_of, no_instruction, body_of, instruction_of, instructions_from, template_data}
use Rattle.fast_tree.specs.meaning.Numbers.{numbers_of, AreBetween, NameNodes, NameLaterNodes}
use Rattle.fast_tree.specs.meaning.Tree.{Instruction, field, parts, group, sequence, Body, end, step, TemplateData}

-- a node has the number, and holds this
abbrev pub IsAt : List Node → ℕ → (ShapeData → Type 0) → Type 0
IsAt ns n P = (v : Node) × (slice_get ns n ≡ Some v) × P (shape_data v.shape)

-- The instruction, and all within it, are nodes of the set.
abbrev mutual
  pub IsOfNodes : List Node → Instruction → Type 0
  IsOfNodes ns (field at f) = IsAt ns at.node (λ s. s ≡ a_field f)
  IsOfNodes ns (parts at e m) = IsAt ns at.node (λ s. s ≡ a_decimal e m)
  IsOfNodes ns (group at optional body) = IsAt ns at.node (λ s. (is : List ℕ) × (s ≡ a_group optional is)) × AreOfNodes ns body
  IsOfNodes ns (sequence at length body) = IsAt ns at.node (λ s. (is : List ℕ) × (s ≡ a_sequence length is)) × AreOfNodes ns body

  pub AreOfNodes : List Node → Body → Type 0
  AreOfNodes ns end = Unit {0}
  AreOfNodes ns (step i is) = IsOfNodes ns i × AreOfNodes ns is

module _ (all : List Node) where
  -- a body of numbers, by the instructions from a number on
  body_is : (first : ℕ) (is : List Instruction) (count : ℕ) → ((k : ℕ) → k < count → IsOfNodes all (slice_index_or is k no_instruction))
      → (ns : List ℕ) → ((k : ℕ) → k < length ns → (first ≤ slice_index ns k) × (slice_index ns k < first + count)) → AreOfNodes all (body_of first is ns)
  body_is first is count h [] b = tt
  body_is first is count h (n ∷ ns) b =
      let r = b 0 (omega arith) in
      (h (n - first) (omega (arith, r)), body_is first is count h ns (λ k i. b (suc k) (omega (arith, i))))

  shape_is : (own : ℕ) (v : Node) (is : List Instruction) (count : ℕ) → slice_get all own ≡ Some v
      → AreBetween own (length all) (numbers_of v.shape) → length all ≡ suc own + count
      → ((k : ℕ) → k < count → IsOfNodes all (slice_index_or is k no_instruction)) → IsOfNodes all (instruction_of (label_of own v) (suc own) is v.shape)
  shape_is own v is count found between long h = by v.shape refl
    where
      by : (s : Shape) → v.shape ≡ s → IsOfNodes all (instruction_of (label_of own v) (suc own) is s)
      by (Field f) e = (v, found, ap shape_data e)
      by (Decimal e m) q = (v, found, ap shape_data q)
      by (Group optional body) e =
          let within : AreBetween own (length all) body.items = subst (λ (s : Shape). AreBetween own (length all) (numbers_of s)) e between in (
            (v, found, (body.items, ap shape_data e)),
            body_is (suc own) is count h body.items
                (λ k i. let r = within k i in (omega (arith, r), omega (arith, r, long))),
          )
      by (Sequence length' body) e =
          let within : AreBetween own (length all) body.items = subst (λ (s : Shape). AreBetween own (length all) (numbers_of s)) e between in (
            (v, found, (body.items, ap shape_data e)),
            body_is (suc own) is count h body.items
                (λ k i. let r = within k i in (omega (arith, r), omega (arith, r, long))),
          )

  instructions_are : NameLaterNodes all → (own : ℕ) (ns : List Node) → length all ≡ own + length ns → ((k : ℕ) → slice_get ns k ≡ slice_get all (own + k))
      → (k : ℕ) → k < length ns → IsOfNodes all (slice_index_or (instructions_from own ns) k no_instruction)
  instructions_are later own [] long at k i = absurd (omega (arith, i))
  instructions_are later own (v ∷ ns) long at k i =
      let here : own + 0 ≡ own = omega arith in
      let found : slice_get all own ≡ Some v = ap (slice_get all) (sym here) ∙ sym (at 0) in
      let others = instructions_are later (suc own) ns (omega (arith, long))
      (λ k. let more : own + suc k ≡ suc own + k = omega arith in at (suc k) ∙ ap (slice_get all) more) in
      by k i found others
    where
      by : (k : ℕ) → k < length (v ∷ ns) → slice_get all own ≡ Some v
          → ((k : ℕ) → k < length ns → IsOfNodes all (slice_index_or (instructions_from (suc own) ns) k no_instruction))
          → IsOfNodes all (slice_index_or (instructions_from own (v ∷ ns)) k no_instruction)
      by zero i found others = shape_is own v (instructions_from (suc own) ns) (length ns) found (later own v found) (omega (arith, long)) others
      by (suc k) i found others = others k (omega (arith, i))

  -- the body of a template
  template_is : NameLaterNodes all → (ns : List ℕ) → ((k : ℕ) → k < length ns → slice_index ns k < length all)
      → AreOfNodes all (body_of 0 (instructions_from 0 all) ns)
  template_is later ns b =
      body_is 0 (instructions_from 0 all) (length all) (instructions_are later 0 all (omega arith)
      (λ k. let none : k ≡ 0 + k = omega arith in ap (slice_get all) none)) ns
      (λ k i. (omega arith, omega (arith, b k i)))

  -- The template with a number in the tree is the set's, and all its instructions are nodes.
  pub template_at : NameLaterNodes all → (ts : List Template) → NameNodes (length all) ts → (n : ℕ) (u : TemplateData)
      → slice_get (map (template_data (instructions_from 0 all)) ts) n ≡ Some u
      → (v : Template) × (slice_get ts n ≡ Some v) × (v.id ≡ u.id) × AreOfNodes all u.body
  template_at later [] names n u e = absurd (cc e)
  template_at later (v ∷ ts) names zero u e =
      let k : template_data (instructions_from 0 all) v ≡ u = cc e in
      (v, refl, ap (λ (z : TemplateData). z.id) k, subst (λ (z : TemplateData). AreOfNodes all z.body) k (template_is later v.body.items (names 0 v refl)))
  template_at later (v ∷ ts) names (suc n) u e = template_at later ts (λ i. names (suc i)) n u e
