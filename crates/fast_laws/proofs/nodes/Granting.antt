-- A set that was read, of which no initial text is too long, grants what the laws of its streams ask.
use Rattle.std.proofs.Common.{◌≡◌, inl, inr, ℕ, ◌<◌, ◌≤◌, List, length, get_or, sym, subst, arith}
use Rattle.std.specs.Prelude.{All, slice_get, Option, Some, None, IfSome}
use Rattle.std.proofs.lemmas.Option.{slice_get-get_or}
use Rattle.toml.specs.Data.{Members}
use Rattle.fast_value.specs.declared.settings.Limits.{Limits}
use Rattle.fast_value.specs.meaning.Kinds.{ScalarData, text_of}
use Rattle.fast_tree.specs.declared.instructions.Node.{Node}
use Rattle.fast_tree.specs.meaning.NodeData.{ShapeData, a_field, a_decimal, a_sequence}
use Rattle.fast_tree.specs.meaning.Tree.{FieldData, Instruction, field, parts, group, sequence, Body, end, step, TemplateData}
use Rattle.fast_template.specs.declared.sets.Templates.{Templates}
use Rattle.fast_template.specs.meaning.Flat.{nodes_of, templates_of, tree_of}
use Rattle.fast_notation.specs.meaning.Checked.{IsTree}
use Rattle.fast_dict.specs.meaning.EntryTexts.{AnyField, IsLongText, HasLongInitial}
use Rattle.fast_spelling.specs.meaning.Again.{IsGrantedTree, HasShortInitial, HaveShortInitials, HaveShortInitialsIn, IsShortTree}
use Rattle.fast_spelling.proofs.again.GrantedSets.{read_is_granted}
use Rattle.fast_laws.proofs.nodes.Nodes.{IsAt, IsOfNodes, AreOfNodes, template_at}

not_long : (m : ℕ) (i : Option ScalarData) → ¬ (IsLongText m i) → IfSome i (λ v. length (text_of v) ≤ m)
not_long m None h = tt
not_long m (Some v) h = by (m < length (text_of v)) h
  where
    by : (P : Type 0) → (m < length (text_of v) → ⊥) → length (text_of v) ≤ m
    by P h = omega (arith, h)

module _ (l : Limits) (ns : List Node) (short : ¬ (HasLongInitial l.max_text ns)) where
  abbrev IsLong : FieldData → Type 0
  IsLong f = IsLongText l.max_text f.initial

  none_long : (n : ℕ) (s : ShapeData) (f : FieldData) → IsAt ns n (λ z. z ≡ s) → (IsLong f → AnyField IsLong s) → HasShortInitial l f
  none_long n s f (v, found, e) h = not_long l.max_text f.initial (λ i. short (n, v, found, subst (AnyField IsLong) (sym e) (h i)))

  mutual
    short_in : (i : Instruction) → IsOfNodes ns i → HaveShortInitials l i
    short_in (field at f) h = none_long at.node (a_field f) f h (λ i. i)
    short_in (parts at e m) h = (none_long at.node (a_decimal e m) e h inl, none_long at.node (a_decimal e m) m h inr)
    short_in (group at optional body) h = all_short body h.1
    short_in (sequence at f body) ((v, found, (is, e)), inner) = (none_long at.node (a_sequence f is) f (v, found, e) (λ i. i), all_short body inner)

    all_short : (body : Body) → AreOfNodes ns body → HaveShortInitialsIn l body
    all_short end h = tt
    all_short (step i is) h = (short_in i h.0, all_short is h.1)

-- what holds of each of a list
all_by : (P : TemplateData → Type 0) (us : List TemplateData) → ((n : ℕ) (u : TemplateData) → slice_get us n ≡ Some u → P u) → All P us
all_by P us f = λ k d i. f k (get_or us k d) (slice_get-get_or us k d i)

pub set_is_short : (t : Templates) (l : Limits) → ¬ (HasLongInitial l.max_text (nodes_of t)) → IsShortTree l (tree_of t)
set_is_short t l short =
    all_by (λ u. HaveShortInitialsIn l u.body) (tree_of t).templates
    (λ n u e. all_short l (nodes_of t) short u.body (template_at (nodes_of t) t.nodes_name_later_nodes (templates_of t) t.templates_name_nodes n u e).3)

pub set_is_granted : (document : Members) (t : Templates) (l : Limits) → IsTree document (tree_of t)
    → ¬ (HasLongInitial l.max_text (nodes_of t)) → IsGrantedTree l (tree_of t)
set_is_granted document t l tree short = read_is_granted document (tree_of t) l tree (set_is_short t l short)
