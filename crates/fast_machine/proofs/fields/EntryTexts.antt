-- What marks of entries and short initial values make of a dictionary.
use Rattle.std.proofs.Common.{◌≡◌, ◌⊎◌, ◌↔◌, ℕ, ◌+◌, ◌<◌, ◌≤◌, List, length, sym, ap, ◌∙◌, subst, arith, inl, inr, Some, Ok, Err}
use Rattle.std.proofs.lemmas.List.{take_all, drop_all, append-nil}
use Rattle.std.specs.Prelude.{◌++◌, take, drop, Bool, false, IsTrue, IfOk, Option, None, Result, slice_get, slice_index_or, true}
use Rattle.std.proofs.lemmas.Bool.{cases_lt}
use Rattle.std.proofs.lemmas.Option.{slice_get_within}
use Rattle.fast_value.specs.meaning.Kinds.{ScalarData, U, I, Dec, AsciiText, UnicodeText, ByteVector}
use Rattle.fast_tree.specs.declared.instructions.Node.{Node}
use Rattle.fast_tree.specs.meaning.Tree.{FieldData}
use Rattle.fast_tree.specs.meaning.NodeData.{ShapeData, a_field, a_decimal, a_group, a_sequence, shape_data}
use Rattle.fast_tree.specs.device.Usable.{AreUsable}
use Rattle.fast_tree.specs.meaning.Usable.{IsUsable, IsUsableShape}
use Rattle.fast_template.proofs.UsableFields.{usable_shape}
use Rattle.fast_dict.specs.meaning.Stores.{Terms, HasRoom}
use Rattle.fast_dict.specs.meaning.Slots.{slots_terms}
use Rattle.fast_dict.specs.declared.slots.Slots.{Slots}
use Rattle.fast_dict.specs.meaning.EntryTexts.{AnyField, SomeField, IsLongText, HasLongInitial, IsInitialText, HoldsTextAt, NeedsText}
use Rattle.fast_units.specs.device.Settling.{HasRoomFor, Serves}
use Rattle.fast_machine.specs.device.Serving.{ServesShape, ServesNodes}

-- one of the fields of the nodes before a number is so
abbrev pub FieldBefore : (FieldData → Type 0) → List Node → ℕ → Type 0
FieldBefore P ns n = (k : ℕ) × (v : Node) × (k < n) × (slice_get ns k ≡ Some v) × AnyField P (shape_data v.shape)

same_node : (ns : List Node) (n k : ℕ) (v w : Node) → slice_get ns n ≡ Some v → slice_get ns k ≡ Some w → n ≡ k → w ≡ v
same_node ns n k v w found at same = let e : Some w ≡ Some v = sym at ∙ ap (slice_get ns) (sym same) ∙ found in cc e

-- The next node is one more.
pub field_more : (P : FieldData → Type 0) (ns : List Node) (n : ℕ) (v : Node) → slice_get ns n ≡ Some v
    → FieldBefore P ns (n + 1) ↔ (FieldBefore P ns n ⊎ AnyField P (shape_data v.shape))
field_more P ns n v found = (
  λ some. let (k, w, below, at, any) = some in elim (cases_lt k n) [
    | inl less ↦ inl (k, w, less, at, any)
    | inr past ↦ inr (subst (λ (u : Node). AnyField P (shape_data u.shape)) (same_node ns n k v w found at (omega arith)) any)
  ],
  λ either. elim either [
    | inl some ↦ let (k, w, below, at, any) = some in (k, w, omega arith, at, any)
    | inr any ↦ (n, v, omega arith, found, any)
  ],
)

-- Behind the last node these are all.
pub field_of_all : (P : FieldData → Type 0) (ns : List Node) (n : ℕ) → length ns ≤ n → FieldBefore P ns n ↔ SomeField P ns
field_of_all P ns n end = (
  λ some. let (k, w, below, at, any) = some in (k, w, at, any),
  λ some. let (k, w, at, any) = some in (k, w, (let inside = slice_get_within ns k w at in omega arith), at, any),
)

-- Tests that say the same of other facts.
pub marked_more : {P Q R : Type 0} (old new : Bool) → (IsTrue old ↔ P) → (IsTrue new ↔ (IsTrue old ⊎ Q)) → (R ↔ (P ⊎ Q)) → (IsTrue new ↔ R)
marked_more old new before here more = (
  λ yes. elim (here.0 yes) [ inl was ↦ more.1 (inl (before.0 was)) | inr now ↦ more.1 (inr now) ],
  λ r. elim (more.0 r) [ inl was ↦ here.1 (inl (before.1 was)) | inr now ↦ here.1 (inr now) ],
)

-- What stands in a vector whose elements were all written.
pub written_back : (n : ℕ) (xs ys : List Bool) → n ≡ length ys → length xs ≡ length ys → take n (xs ++ drop (length xs) ys) ≡ xs
written_back n xs ys all same =
    ap (λ zs. take n (xs ++ zs)) (drop_all (length xs) ys (omega arith)) ∙ ap (take n) (append-nil xs) ∙ take_all n xs (omega arith)

-- what a dictionary is made for: which entries take a text, and how long it may be
pub record Suits (terms : Terms) (max_text : ℕ) (ns : List Node) : Type 0 where
  pub limit : terms.max_text ≡ max_text
  pub takes : (e : ℕ) → NeedsText ns e → terms.takes_text e ≡ true
  pub short : ¬ (HasLongInitial max_text ns)

-- a field of these nodes
abbrev IsAmong : List Node → FieldData → Type 1
IsAmong ns f = (P : FieldData → Type 0) → P f → SomeField P ns

has_room : (terms : Terms) (max_text e : ℕ) (w : List ℕ) → terms.max_text ≡ max_text → ¬ (max_text < length w) → terms.takes_text e ≡ true → HasRoom terms e w
has_room terms max_text e w limit short takes = elim (cases_lt max_text (length w)) [ inl long ↦ absurd (short long) | inr less ↦ (omega arith, takes) ]

-- There is room for an initial value that is not too long, if it is no text or the entry takes one.
room_for : (terms : Terms) (max_text e : ℕ) (o : Option ScalarData) → terms.max_text ≡ max_text → ¬ (IsLongText max_text o)
    → (IsInitialText o → terms.takes_text e ≡ true) → HasRoomFor terms e o
room_for terms max_text e None limit short takes = tt
room_for terms max_text e (Some (U n)) limit short takes = tt
room_for terms max_text e (Some (I n)) limit short takes = tt
room_for terms max_text e (Some (Dec x m)) limit short takes = tt
room_for terms max_text e (Some (AsciiText w)) limit short takes = has_room terms max_text e w limit short (takes tt)
room_for terms max_text e (Some (UnicodeText w)) limit short takes = has_room terms max_text e w limit short (takes tt)
room_for terms max_text e (Some (ByteVector w)) limit short takes = has_room terms max_text e w limit short (takes tt)

field_served : (entries : ℕ) (terms : Terms) (max_text : ℕ) (ns : List Node) (f : FieldData) → Suits terms max_text ns → IsAmong ns f
    → IsUsable entries f → Serves entries terms f
field_served entries terms max_text ns f suits among usable = record {
  kept = usable.kept;
  within = usable.within;
  tail = usable.tail;
  texts_fit = λ e at is_text. suits.takes e (among (HoldsTextAt e) (at, inl is_text));
  initial_fits = λ e at. room_for terms max_text e f.initial suits.limit
      (λ long. suits.short (among (λ (g : FieldData). IsLongText max_text g.initial) long))
      (λ text. suits.takes e (among (HoldsTextAt e) (at, inr text)));
}

shape_served : (entries : ℕ) (terms : Terms) (max_text : ℕ) (ns : List Node) (s : ShapeData) → Suits terms max_text ns
    → ((P : FieldData → Type 0) → AnyField P s → SomeField P ns)
    → IsUsableShape entries s → ServesShape entries terms s
shape_served entries terms max_text ns (a_field f) suits among usable = field_served entries terms max_text ns f suits among usable
shape_served entries terms max_text ns (a_decimal e m) suits among usable =
    let (exponent, mantissa, e_kind, m_kind) = usable in (
      field_served entries terms max_text ns e suits (λ P here. among P (inl here)) exponent,
      field_served entries terms max_text ns m suits (λ P here. among P (inr here)) mantissa,
      e_kind,
      m_kind,
    )
shape_served entries terms max_text ns (a_group optional body) suits among usable = tt
shape_served entries terms max_text ns (a_sequence length body) suits among usable =
    (field_served entries terms max_text ns length suits among usable.0, usable.1)

-- It serves all nodes.
pub nodes_served : (entries : ℕ) (terms : Terms) (max_text : ℕ) (ns : List Node) → Suits terms max_text ns → AreUsable entries ns → ServesNodes entries terms ns
nodes_served entries terms max_text ns suits usable n v found =
    shape_served entries terms max_text ns (shape_data v.shape) suits (λ P any. (n, v, found, any))
    (usable_shape entries (shape_data v.shape) (usable n v found))

-- So does the dictionary that is made with the marks of a set.
pub slots_serve : {E : Type 0} (made : Result Slots E) (entries max_text : ℕ) (marks : List Bool) (ns : List Node)
    → IfOk made (λ s. (e : ℕ) → (slots_terms s).takes_text e ≡ slice_index_or marks e false) → IfOk made (λ s. (slots_terms s).max_text ≡ max_text)
    → ((e : ℕ) → IsTrue (slice_index_or marks e false) ↔ NeedsText ns e) → ¬ (HasLongInitial max_text ns) → AreUsable entries ns
    → IfOk made (λ s. ServesNodes entries (slots_terms s) ns)
slots_serve (Err e) entries max_text marks ns takes limit marked short usable = tt
slots_serve (Ok s) entries max_text marks ns takes limit marked short usable =
    nodes_served entries (slots_terms s) max_text ns (record { limit = limit; takes = λ e needs. takes e ∙ (marked e).1 needs; short = short }) usable
