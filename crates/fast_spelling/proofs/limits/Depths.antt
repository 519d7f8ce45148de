-- How deep groups and sequences nest in an item.
use Rattle.std.proofs.Common.{◌≡◌, ℕ, suc, ◌<◌, ◌≤◌, List, [], ◌∷◌, length, get_or, arith, sym, subst}
use Rattle.std.specs.Prelude.{zero, max, Option, Some, None, option_map}
use Rattle.std.specs.declared.vec.Vec.{Vec}
use Rattle.std.specs.declared.alloc.Global.{Global}
use Rattle.std.proofs.Math.Nat.{le_trans, le-max_left, le-max_right}
use Rattle.fast_value.specs.declared.messages.Item.{Item}
use Rattle.fast_value.specs.meaning.Messages.{ItemData, one, group, sequence, Slots, no_slots, absent, present, Elements, no_elements, element}
use Rattle.fast_value.specs.meaning.Views.{item_data, slots_data, elements_data}

abbrev mutual
  pub item_depth : ItemData → ℕ
  item_depth (one v) = 0
  item_depth (group vs) = suc (slots_depth vs)
  item_depth (sequence rows) = suc (rows_depth rows)

  pub slots_depth : Slots → ℕ
  slots_depth no_slots = 0
  slots_depth (absent vs) = slots_depth vs
  slots_depth (present x vs) = max (item_depth x) (slots_depth vs)

  pub rows_depth : Elements → ℕ
  rows_depth no_elements = 0
  rows_depth (element vs rows) = max (slots_depth vs) (rows_depth rows)

-- of an item, if it is there
abbrev pub option_depth : Option ItemData → ℕ
option_depth None = 0
option_depth (Some x) = item_depth x

-- what stands in slots, and in elements, is no deeper than they are
pub slot_depth : (xs : List (Option Item)) (i : ℕ) (x : Item) → i < length xs → Some x ≡ get_or xs i (Some x)
    → item_depth (item_data x) ≤ slots_depth (slots_data xs)
slot_depth [] i x h e = absurd (omega (arith, h))
slot_depth (None ∷ xs) zero x h e = absurd (cc e)
slot_depth (Some y ∷ xs) zero x h e =
    let k : x ≡ y = cc in
    subst (λ (z : Item). item_depth (item_data z) ≤ max (item_depth (item_data y)) (slots_depth (slots_data xs))) (sym k)
    (le-max_left (item_depth (item_data y)) (slots_depth (slots_data xs)))
slot_depth (None ∷ xs) (suc i) x h e = slot_depth xs i x (omega (arith, h)) e
slot_depth (Some y ∷ xs) (suc i) x h e = le_trans (slot_depth xs i x (omega (arith, h)) e)
    (le-max_right (item_depth (item_data y)) (slots_depth (slots_data xs)))

pub option_depth_at : (xs : List (Option Item)) (i : ℕ) (x : Option Item) → i < length xs → x ≡ get_or xs i x
    → option_depth (option_map item_data x) ≤ slots_depth (slots_data xs)
option_depth_at xs i None h e = omega arith
option_depth_at xs i (Some x) h e = slot_depth xs i x h e

pub row_depth : (rs : List (Vec (Option Item) Global)) (i : ℕ) (r : Vec (Option Item) Global) → i < length rs → r ≡ get_or rs i r
    → slots_depth (slots_data r.items) ≤ rows_depth (elements_data rs)
row_depth [] i r h e = absurd (omega (arith, h))
row_depth (q ∷ rs) zero r h e = subst (λ (z : Vec (Option Item) Global). slots_depth (slots_data z.items) ≤ max
    (slots_depth (slots_data q.items)) (rows_depth (elements_data rs))) (sym e)
    (le-max_left (slots_depth (slots_data q.items)) (rows_depth (elements_data rs)))
row_depth (q ∷ rs) (suc i) r h e = le_trans (row_depth rs i r (omega (arith, h)) e)
    (le-max_right (slots_depth (slots_data q.items)) (rows_depth (elements_data rs)))
