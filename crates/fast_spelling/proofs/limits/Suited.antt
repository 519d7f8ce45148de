-- What suits, one slot, one element and one shape at a time.
use Rattle.std.proofs.Common.{◌≡◌, ℕ, suc, ◌+◌, ◌<◌, ◌≤◌, List, [], ◌∷◌, length, drop, get_or, refl, ap, sym}
use Rattle.std.specs.Prelude.{◌↔◌, Bool, false, IsTrue, Option, Some, None, option_map, slice_index, slice_get}
use Rattle.std.specs.declared.vec.Vec.{Vec}
use Rattle.std.specs.declared.alloc.Global.{Global}
use Rattle.std.proofs.lemmas.List.{drop_all}
use Rattle.fast_value.specs.declared.messages.Item.{Item}
use Rattle.fast_value.specs.declared.kinds.Kind.TheVariants.{Decimal}
use Rattle.fast_value.specs.meaning.Kinds.{ScalarData, U, I, Dec, AsciiText, UnicodeText, ByteVector}
use Rattle.fast_value.specs.meaning.Messages.{ItemData, one, Slots}
use Rattle.fast_value.specs.meaning.Views.{item_data, slots_data, elements_data}
use Rattle.fast_tree.specs.declared.instructions.Node.{Node}
use Rattle.fast_tree.specs.declared.instructions.Shape.{Shape}
use Rattle.fast_tree.specs.meaning.Tree.{FieldData, Instruction, Body, step}
use Rattle.fast_tree.specs.meaning.Nodes.{label_of, body_among}
use Rattle.fast_tree.specs.meaning.Numbers.{numbers_of, AreBetween}
use Rattle.fast_tree.specs.device.Bodies.{instruction_among}
use Rattle.fast_stream.specs.meaning.Messages.{with_slot}
use Rattle.fast_spelling.specs.device.Nodes.{instruction_in}
use Rattle.fast_spelling.specs.meaning.Suiting.{IsRight, IsRightDecimal, AreRight, Suits, SuitsBody}
use Rattle.fast_spelling.proofs.encodings.Instructions.{at_shape, suits_as}
use Rattle.fast_spelling.proofs.encodings.Progress.{body_next, slots_next, rows_next, body_last, slots_last, suits_next}

-- there are as many slots as instructions
pub suits_length : (nodes : List Node) (body : List ℕ) (slots : List (Option Item)) → SuitsBody (body_among nodes body) (slots_data slots)
    → length body ≡ length slots
suits_length nodes [] [] h = refl
suits_length nodes [] (None ∷ xs) h = absurd h
suits_length nodes [] (Some x ∷ xs) h = absurd h
suits_length nodes (n ∷ ns) [] h = absurd h
suits_length nodes (n ∷ ns) (None ∷ xs) h = ap suc (suits_length nodes ns xs h.1)
suits_length nodes (n ∷ ns) (Some x ∷ xs) h = ap suc (suits_length nodes ns xs h.1)

suits_step : (i : Instruction) (is : Body) (x : Option ItemData) (vs : Slots) → Suits i x → SuitsBody is vs → SuitsBody (step i is) (with_slot x vs)
suits_step i is None vs h k = (h, k)
suits_step i is (Some x) vs h k = (h, k)

-- Slots suit from a place on if the one there suits, and those behind it do. Whether they do decides for all.
module _ (nodes : List Node) (body : List ℕ) (slots : List (Option Item)) (i : ℕ) (x : Option Item) (in_body : i < length body)
    (in_slots : i < length slots) (is : x ≡ get_or slots i x) where
  pub one_suits : Suits (instruction_in nodes (slice_index body i)) (option_map item_data x)
      → SuitsBody (body_among nodes (drop (i + 1) body)) (slots_data (drop (i + 1) slots))
      → SuitsBody (body_among nodes (drop i body)) (slots_data (drop i slots))
  one_suits h k = rw (body_next nodes body i in_body, slots_next slots i x in_slots is)
      (suits_step (instruction_in nodes (slice_index body i)) (body_among nodes (drop (i + 1) body)) (option_map item_data x)
      (slots_data (drop (i + 1) slots)) h k)

  both_suit : SuitsBody (body_among nodes (drop i body)) (slots_data (drop i slots))
      → Suits (instruction_in nodes (slice_index body i)) (option_map item_data x)
      × SuitsBody (body_among nodes (drop (i + 1) body)) (slots_data (drop (i + 1) slots))
  both_suit h = suits_next (instruction_in nodes (slice_index body i)) (body_among nodes (drop (i + 1) body)) (option_map item_data x)
      (slots_data (drop (i + 1) slots)) (rw (body_next nodes body i in_body, slots_next slots i x in_slots is) at h)

  pub slot_suits : (P : Type 0) → (SuitsBody (body_among nodes (drop i body)) (slots_data (drop i slots)) ↔ P)
      → Suits (instruction_in nodes (slice_index body i)) (option_map item_data x)
      → SuitsBody (body_among nodes (drop (i + 1) body)) (slots_data (drop (i + 1) slots)) ↔ P
  slot_suits P h k = (λ rest. h.0 (one_suits k rest), λ whole. (both_suit (h.1 whole)).1)

  pub slot_fails : (P : Type 0) → (SuitsBody (body_among nodes (drop i body)) (slots_data (drop i slots)) ↔ P)
      → ¬ (Suits (instruction_in nodes (slice_index body i)) (option_map item_data x)) → ¬ P
  slot_fails P h never = λ whole. never (both_suit (h.1 whole)).0

-- none is left
pub no_slot_suits : (nodes : List Node) (body : List ℕ) (slots : List (Option Item)) (i : ℕ) → length body ≤ i → length slots ≤ i
    → SuitsBody (body_among nodes (drop i body)) (slots_data (drop i slots))
no_slot_suits nodes body slots i past_body past_slots = rw (body_last nodes body i past_body, slots_last slots i past_slots) tt

-- The same of the elements of a sequence.
module _ (right : Slots → Type 0) (rs : List (Vec (Option Item) Global)) (i : ℕ) (r : Vec (Option Item) Global) (inside : i < length rs)
    (is : r ≡ get_or rs i r) where
  both_right : AreRight right (elements_data (drop i rs)) → right (slots_data r.items) × AreRight right (elements_data (drop (i + 1) rs))
  both_right h = rw (rows_next rs i r inside is) at h

  pub row_suits : (P : Type 0) → (AreRight right (elements_data (drop i rs)) ↔ P) → right (slots_data r.items)
      → AreRight right (elements_data (drop (i + 1) rs)) ↔ P
  row_suits P h k = (λ rest. h.0 (rw (rows_next rs i r inside is) (k, rest)), λ whole. (both_right (h.1 whole)).1)

  pub row_fails : (P : Type 0) → (AreRight right (elements_data (drop i rs)) ↔ P) → ¬ (right (slots_data r.items)) → ¬ P
  row_fails P h never = λ whole. never (both_right (h.1 whole)).0

pub no_row_suits : (right : Slots → Type 0) (rs : List (Vec (Option Item) Global)) (i : ℕ) → length rs ≤ i → AreRight right (elements_data (drop i rs))
no_row_suits right rs i past = rw (drop_all i rs past) tt

-- A test of what suits, by the shape of the node and the variant of the item.
module _ (nodes : List Node) (n : ℕ) (v : Node) (s : Shape) (found : slice_get nodes n ≡ Some v)
    (between : AreBetween n (length nodes) (numbers_of v.shape)) (is : v.shape ≡ s) where
  pub suits_at : (b : Bool) (x y : Option ItemData) → x ≡ y → (IsTrue b ↔ Suits (instruction_among nodes (label_of n v) s) y)
      → IsTrue b ↔ Suits (instruction_in nodes n) x
  suits_at b x y e h =
      let here : instruction_in nodes n ≡ instruction_among nodes (label_of n v) s = at_shape nodes n v s found between is in (
        λ k. suits_as (instruction_among nodes (label_of n v) s) (instruction_in nodes n) y x (sym here) (sym e) (h.0 k),
        λ k. h.1 (suits_as (instruction_in nodes n) (instruction_among nodes (label_of n v) s) x y here e k),
      )

-- what fails
pub fails : (P : Type 0) → ¬ P → IsTrue false ↔ P
fails P never = (λ h. absurd (cc h), λ h. absurd (never h))

-- a decimal by parts is one of the kind
pub decimal_right : (e : FieldData) (v : ScalarData) → IsRight Decimal v ↔ IsRightDecimal e (Some (one v))
decimal_right e (U n) = (λ h. h.1, λ h. absurd h)
decimal_right e (I x) = (λ h. h.1, λ h. absurd h)
decimal_right e (Dec x y) = (λ h. h.1, λ h. (0, h))
decimal_right e (AsciiText t) = (λ h. h.1, λ h. absurd h)
decimal_right e (UnicodeText t) = (λ h. h.1, λ h. absurd h)
decimal_right e (ByteVector t) = (λ h. h.1, λ h. absurd h)
