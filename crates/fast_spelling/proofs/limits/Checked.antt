-- What is accepted: of one slot more, of one element more, and by another name.
use Rattle.std.proofs.Common.{◌≡◌, ℕ, ◌+◌, ◌<◌, ◌≤◌, List, length, drop, get_or, refl, ap, sym, subst, arith}
use Rattle.std.specs.Prelude.{Option, Some, None, option_map, Result, Ok, Err, OnOk}
use Rattle.std.specs.declared.vec.Vec.{Vec}
use Rattle.std.specs.declared.alloc.Global.{Global}
use Rattle.std.proofs.lemmas.List.{drop_all}
use Rattle.fast_value.specs.declared.settings.Limits.{Limits}
use Rattle.fast_value.specs.declared.messages.Item.{Item}
use Rattle.fast_value.specs.meaning.Messages.{ItemData, Slots, total, rows_total}
use Rattle.fast_value.specs.meaning.Views.{item_data, slots_data, elements_data}
use Rattle.fast_tree.specs.meaning.Tree.{Instruction}
use Rattle.fast_stream.specs.meaning.Messages.{with_slot}
use Rattle.fast_spelling.specs.device.Checked.{Leaves, IsAccepted}
use Rattle.fast_spelling.specs.meaning.Suiting.{AreRight, AreWithinLimits, RowsWithinLimits}
use Rattle.fast_spelling.proofs.encodings.Progress.{slots_next, rows_next}

pub accepted_as : (l : Limits) (i j : Instruction) (x y : Option ItemData) (room left : ℕ) → i ≡ j → x ≡ y → IsAccepted l j y room left
    → IsAccepted l i x room left
accepted_as l i j x y room left e f h = subst (λ (z : Option ItemData). IsAccepted l i z room left) (sym f)
    (subst (λ (z : Instruction). IsAccepted l z y room left) (sym e) h)

leaves_within : (l : Limits) (x : Option ItemData) (vs : Slots) (room left : ℕ) → Leaves l x room left → AreWithinLimits l vs
    → AreWithinLimits l (with_slot x vs)
leaves_within l None vs room left h k = k
leaves_within l (Some x) vs room left h k = (h.0, k)

leaves_total : (l : Limits) (x : Option ItemData) (vs : Slots) (room left : ℕ) → Leaves l x room left → left + total (with_slot x vs) ≡ room + total vs
leaves_total l None vs room left h = ap (λ (z : ℕ). z + total vs) h
leaves_total l (Some x) vs room left h = let k = h.1 in omega (arith, k)

-- slots from a place on
module _ (l : Limits) (slots : List (Option Item)) (i : ℕ) (x : Option Item) (inside : i < length slots) (is : x ≡ get_or slots i x)
    (room left : ℕ) (leaves : Leaves l (option_map item_data x) room left) where
  pub one_fits : AreWithinLimits l (slots_data (drop (i + 1) slots)) → AreWithinLimits l (slots_data (drop i slots))
  one_fits h = rw (slots_next slots i x inside is) (leaves_within l (option_map item_data x) (slots_data (drop (i + 1) slots)) room left leaves h)

  pub one_total : left + total (slots_data (drop i slots)) ≡ room + total (slots_data (drop (i + 1) slots))
  one_total = rw (slots_next slots i x inside is) (leaves_total l (option_map item_data x) (slots_data (drop (i + 1) slots)) room left leaves)

-- elements from a place on
module _ (l : Limits) (right : Slots → Type 0) (rs : List (Vec (Option Item) Global)) (i : ℕ) (r : Vec (Option Item) Global)
    (inside : i < length rs) (is : r ≡ get_or rs i r) where
  pub one_row_right : right (slots_data r.items) → AreRight right (elements_data (drop (i + 1) rs)) → AreRight right (elements_data (drop i rs))
  one_row_right h k = rw (rows_next rs i r inside is) (h, k)

  pub one_row_fits : AreWithinLimits l (slots_data r.items) → RowsWithinLimits l (elements_data (drop (i + 1) rs))
      → RowsWithinLimits l (elements_data (drop i rs))
  one_row_fits h k = rw (rows_next rs i r inside is) (h, k)

  pub one_row_total : rows_total (elements_data (drop i rs)) ≡ total (slots_data r.items) + rows_total (elements_data (drop (i + 1) rs))
  one_row_total = ap rows_total (rows_next rs i r inside is)

-- none is left
pub no_row_fits : (l : Limits) (rs : List (Vec (Option Item) Global)) (i : ℕ) → length rs ≤ i → RowsWithinLimits l (elements_data (drop i rs))
no_row_fits l rs i past = rw (drop_all i rs past) tt

pub no_row_total : (rs : List (Vec (Option Item) Global)) (i : ℕ) → length rs ≤ i → rows_total (elements_data (drop i rs)) ≡ 0
no_row_total rs i past = rw (drop_all i rs past) refl

-- what is so anyway is so where a call answers Ok
pub on_any : {R E : Type 0} {A : Type 0} (r : Result R E) → A → OnOk r A
on_any (Ok x) h = h
on_any (Err e) h = tt
