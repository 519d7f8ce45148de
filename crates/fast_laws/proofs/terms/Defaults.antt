-- An item for each instruction, without an element: the initial value of a field, or its zero.
use Rattle.std.proofs.Common.{◌≡◌, ℕ, zero, suc, refl, ap, arith}
use Rattle.std.specs.Prelude.{pos, Some}
use Rattle.std.proofs.lemmas.Int.{ints}
use Rattle.fast_value.specs.declared.settings.Limits.{Limits}
use Rattle.fast_value.specs.meaning.Kinds.{Dec, IsOfKind}
use Rattle.fast_value.specs.meaning.Messages.{ItemData, one, group as group_item, sequence as sequence_item, Slots, no_slots, present}
use Rattle.fast_value.specs.meaning.Messages.{Elements, no_elements, element, count, item_total, total, rows_total}
use Rattle.fast_tree.specs.meaning.Tree.{FieldData, Instruction, field, parts, group, sequence, Body, end, step}
use Rattle.fast_dict.specs.meaning.Dictionary.{undefined}
use Rattle.fast_dict.specs.meaning.Operators.{start_value}
use Rattle.fast_spelling.specs.meaning.Again.{IsGranted, Grants, GrantsBody}
use Rattle.fast_spelling.specs.meaning.Suiting.{AreRight, Suits, SuitsBody, IsWithinLimits, AreWithinLimits, RowsWithinLimits}
use Rattle.fast_spelling.proofs.again.Sound.{right_of, short_of, delta_base_right}

abbrev mutual
  pub default_item : Instruction → ItemData
  default_item (field at f) = one (start_value f)
  default_item (parts at e m) = one (Dec (pos 0) (pos 0))
  default_item (group at optional body) = group_item (default_slots body)
  default_item (sequence at length body) = sequence_item no_elements

  pub default_slots : Body → Slots
  default_slots end = no_slots
  default_slots (step i is) = present (default_item i) (default_slots is)

-- so many elements of such slots
abbrev pub default_rows : Body → ℕ → Elements
default_rows body zero = no_elements
default_rows body (suc n) = element (default_slots body) (default_rows body n)

mutual
  pub no_total : (i : Instruction) → item_total (default_item i) ≡ 0
  no_total (field at f) = refl
  no_total (parts at e m) = refl
  no_total (group at optional body) = no_totals body
  no_total (sequence at length body) = refl

  pub no_totals : (body : Body) → total (default_slots body) ≡ 0
  no_totals end = refl
  no_totals (step i is) = omega (arith, no_total i, no_totals is)

pub rows_count : (body : Body) (n : ℕ) → count (default_rows body n) ≡ n
rows_count body zero = refl
rows_count body (suc n) = ap suc (rows_count body n)

pub no_rows_total : (body : Body) (n : ℕ) → rows_total (default_rows body n) ≡ 0
no_rows_total body zero = refl
no_rows_total body (suc n) = omega (arith, no_totals body, no_rows_total body n)

module _ (l : Limits) where
  start_right : (f : FieldData) → IsGranted l f → IsOfKind l f.kind (start_value f)
  start_right f granted = delta_base_right l f undefined (start_value f) tt granted.initial refl

  mutual
    pub default_suits : (i : Instruction) → Grants l i → Suits i (Some (default_item i))
    default_suits (field at f) g = right_of l f.kind (start_value f) (start_right f g)
    default_suits (parts at e m) g = ((omega (arith, ints), omega (arith, ints)), (omega (arith, ints), omega (arith, ints)))
    default_suits (group at optional body) g = defaults_suit body g
    default_suits (sequence at length body) g = (tt, omega arith)

    pub defaults_suit : (body : Body) → GrantsBody l body → SuitsBody body (default_slots body)
    defaults_suit end g = tt
    defaults_suit (step i is) g = (default_suits i g.0, defaults_suit is g.1)

  mutual
    pub default_fits : (i : Instruction) → Grants l i → IsWithinLimits l (default_item i)
    default_fits (field at f) g = short_of l f.kind (start_value f) (start_right f g)
    default_fits (parts at e m) g = omega arith
    default_fits (group at optional body) g = defaults_fit body g
    default_fits (sequence at length body) g = (omega arith, tt)

    pub defaults_fit : (body : Body) → GrantsBody l body → AreWithinLimits l (default_slots body)
    defaults_fit end g = tt
    defaults_fit (step i is) g = (default_fits i g.0, defaults_fit is g.1)

  pub rows_suit : (body : Body) (n : ℕ) → GrantsBody l body → AreRight (SuitsBody body) (default_rows body n)
  rows_suit body zero g = tt
  rows_suit body (suc n) g = (defaults_suit body g, rows_suit body n g)

  pub rows_fit : (body : Body) (n : ℕ) → GrantsBody l body → RowsWithinLimits l (default_rows body n)
  rows_fit body zero g = tt
  rows_fit body (suc n) g = (defaults_fit body g, rows_fit body n g)
