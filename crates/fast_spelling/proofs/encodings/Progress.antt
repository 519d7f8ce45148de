-- One slot more, one element more, and a segment that is closed.
use Rattle.std.proofs.Common.{◌≡◌, inl, inr, ℕ, suc, ◌+◌, ◌<◌, ◌≤◌, List, [], ◌∷◌, ◌++◌, length, take, drop, get_or, refl, ap, sym, subst, ◌∙◌, arith}
use Rattle.std.specs.Prelude.{zero, Bool, true, nat_lt, Option, Some, None, option_map, slice_index, Result, Ok, Err, OnOk, IsErrAnd}
use Rattle.std.specs.declared.vec.Vec.{Vec}
use Rattle.std.specs.declared.alloc.Global.{Global}
use Rattle.std.proofs.lemmas.List.{append_assoc, append-nil, length-append, drop_all}
use Rattle.std.proofs.Math.Seq.{drop-append_seam, take-append_seam}
use Rattle.fast_value.specs.declared.settings.Limits.{Limits}
use Rattle.fast_value.specs.declared.messages.Item.{Item}
use Rattle.fast_value.specs.meaning.Messages.{ItemData, Slots, no_slots, Elements, element}
use Rattle.fast_value.specs.meaning.Views.{item_data, slots_data, elements_data}
use Rattle.fast_tree.specs.declared.instructions.Node.{Node}
use Rattle.fast_tree.specs.declared.instructions.Shape.{Shape}
use Rattle.fast_tree.specs.meaning.Numbers.{numbers_of}
use Rattle.fast_tree.specs.meaning.Tree.{Instruction, Body, end, step, bits_of, has_map}
use Rattle.fast_tree.specs.meaning.Nodes.{instructions_from, body_among}
use Rattle.fast_notation.proofs.nodes.Bodies.{next_instruction}
use Rattle.fast_dict.specs.meaning.Dictionary.{Dictionary}
use Rattle.fast_stream.specs.meaning.Messages.{with_slot}
use Rattle.fast_spelling.specs.declared.draft.Draft.{Draft}
use Rattle.fast_spelling.specs.declared.faults.EncodeFault.{EncodeFault}
use Rattle.fast_spelling.specs.declared.faults.EncodeFault.TheVariants.{E3}
use Rattle.fast_spelling.specs.device.Drafts.{Closes}
use Rattle.fast_spelling.specs.meaning.Encoding.{ShortestMap, Encodes, EncodesBody, EncodesSegment, EncodesElements}
use Rattle.fast_spelling.specs.device.Fields.{Wrote}
use Rattle.fast_template.specs.declared.sets.Templates.{Templates}
use Rattle.fast_spelling.specs.meaning.Ledgers.{LedgerData}
use Rattle.fast_spelling.specs.device.Nodes.{instruction_in, IsReady, Keeps}
use Rattle.fast_spelling.proofs.encodings.Instructions.{IsWithinOption}
use Rattle.fast_spelling.specs.device.Progress.{IsWritten, AreWritten}
use Rattle.fast_spelling.specs.meaning.Refusals.{HaveNoMap, Refuses, RefusesBody, RefusesSegment, RefusesElements}
use Rattle.fast_spelling.specs.meaning.Suiting.{Suits, SuitsBody, AreRight, AreWithinLimits, RowsWithinLimits}

-- lists from a place on
drop_here : {X : Type 0} (xs : List X) (i : ℕ) (x : X) → i < length xs → x ≡ get_or xs i x → drop i xs ≡ x ∷ drop (suc i) xs
drop_here [] i x h e = absurd (omega (arith, h))
drop_here (y ∷ xs) zero x h e = ap (λ z. z ∷ xs) (sym e)
drop_here (y ∷ xs) (suc i) x h e = drop_here xs i x (omega (arith, h)) e

drop_more : {X : Type 0} (xs : List X) (i : ℕ) (x : X) → i < length xs → x ≡ get_or xs i x → drop i xs ≡ x ∷ drop (i + 1) xs
drop_more xs i x h e = let k : suc i ≡ i + 1 = omega arith in drop_here xs i x h e ∙ ap (λ (n : ℕ). x ∷ drop n xs) k

slots_with : (x : Option Item) (xs : List (Option Item)) → slots_data (x ∷ xs) ≡ with_slot (option_map item_data x) (slots_data xs)
slots_with None xs = refl
slots_with (Some x) xs = refl

pub slots_next : (xs : List (Option Item)) (i : ℕ) (x : Option Item) → i < length xs → x ≡ get_or xs i x
    → slots_data (drop i xs) ≡ with_slot (option_map item_data x) (slots_data (drop (i + 1) xs))
slots_next xs i x h e = ap slots_data (drop_more xs i x h e) ∙ slots_with x (drop (i + 1) xs)

pub rows_next : (rs : List (Vec (Option Item) Global)) (i : ℕ) (r : Vec (Option Item) Global) → i < length rs → r ≡ get_or rs i r
    → elements_data (drop i rs) ≡ element (slots_data r.items) (elements_data (drop (i + 1) rs))
rows_next rs i r h e = ap elements_data (drop_more rs i r h e)

pub body_next : (nodes : List Node) (body : List ℕ) (i : ℕ) → i < length body
    → body_among nodes (drop i body) ≡ step (instruction_in nodes (slice_index body i)) (body_among nodes (drop (i + 1) body))
body_next nodes body i h = next_instruction (instructions_from 0 nodes) body i h

pub body_last : (nodes : List Node) (body : List ℕ) (i : ℕ) → length body ≤ i → body_among nodes (drop i body) ≡ end
body_last nodes body i h = ap (body_among nodes) (drop_all i body h)

pub slots_last : (xs : List (Option Item)) (i : ℕ) → length xs ≤ i → slots_data (drop i xs) ≡ no_slots
slots_last xs i h = ap slots_data (drop_all i xs h)

-- a body suits as many slots as it has instructions
pub suits_next : (i : Instruction) (is : Body) (x : Option ItemData) (vs : Slots) → SuitsBody (step i is) (with_slot x vs) → Suits i x × SuitsBody is vs
suits_next i is None vs h = h
suits_next i is (Some x) vs h = h

pub rest_is_end : (body : Body) → SuitsBody body no_slots → body ≡ end
rest_is_end end h = refl
rest_is_end (step i is) h = absurd h

pub within_next : (l : Limits) (x : Option ItemData) (vs : Slots) → AreWithinLimits l (with_slot x vs) → AreWithinLimits l vs
within_next l None vs h = h
within_next l (Some x) vs h = h.1

within_here : (l : Limits) (x : Option ItemData) (vs : Slots) → AreWithinLimits l (with_slot x vs) → IsWithinOption l x
within_here l None vs h = tt
within_here l (Some x) vs h = h.0

-- slots
pub written_start : (l : Limits) (body : Body) (vs : Slots) (d : Dictionary) (a : Draft) → IsWritten l body vs d a body vs d a
written_start l body vs d a = record {
  bits = [];
  bytes = [];
  bits_are = sym (append-nil a.bits);
  bytes_are = sym (append-nil a.bytes.items);
  goes = λ b w d' h. h;
  refuses = λ c h. h;
}

pub written_next : (l : Limits) (whole : Body) (vs : Slots) (d : Dictionary) (a : Draft) (i : Instruction) (is : Body)
    (x : Option ItemData) (left : Slots) (now mid : Dictionary) (b c : Draft)
    → IsWritten l whole vs d a (step i is) (with_slot x left) now b → Wrote (Encodes l i now x) b c mid → IsWritten l whole vs d a is left mid c
unfolding EncodesBody RefusesBody
written_next l whole vs d a i is x left now mid b c h (bits, bytes, p, q, e) = record {
  bits = h.bits ++ bits;
  bytes = h.bytes ++ bytes;
  bits_are = p ∙ ap (λ (z : List Bool). z ++ bits) h.bits_are ∙ append_assoc a.bits h.bits bits;
  bytes_are = q ∙ ap (λ (z : List ℕ). z ++ bytes) h.bytes_are ∙ append_assoc a.bytes.items h.bytes bytes;
  goes = λ r s d' k. rw (append_assoc h.bits bits r, append_assoc h.bytes bytes s)
      (h.goes (bits ++ r) (bytes ++ s) d' (x, left, bits, r, bytes, s, mid, e, k, refl, refl, refl));
  refuses = λ f k. h.refuses f (x, left, refl, inr (bits, bytes, mid, e, k));
}

pub written_refused : (l : Limits) (whole : Body) (vs : Slots) (d : Dictionary) (a : Draft) (i : Instruction) (is : Body)
    (x : Option ItemData) (left : Slots) (now : Dictionary) (b : Draft) (f : EncodeFault)
    → IsWritten l whole vs d a (step i is) (with_slot x left) now b → Refuses l i now x f → RefusesBody l whole d vs f
unfolding RefusesBody
written_refused l whole vs d a i is x left now b f h e = h.refuses f (x, left, refl, inl e)

pub written_done : (l : Limits) (whole : Body) (vs : Slots) (d : Dictionary) (a : Draft) (now : Dictionary) (b : Draft)
    → IsWritten l whole vs d a end no_slots now b → Wrote (EncodesBody l whole d vs) a b now
unfolding EncodesBody
written_done l whole vs d a now b h = (
  h.bits,
  h.bytes,
  h.bits_are,
  h.bytes_are,
  rw (append-nil h.bits, append-nil h.bytes) at (h.goes [] [] now (refl, refl, refl, refl)),
)

-- elements
pub rows_start : (l : Limits) (body : Body) (rows : Elements) (d : Dictionary) (a : Draft) → AreWritten l body rows d a rows d a
rows_start l body rows d a = record { bytes = []; bits_are = refl; bytes_are = sym (append-nil a.bytes.items); goes = λ w d' h. h; refuses = λ c h. h }

pub rows_more : (l : Limits) (body : Body) (rows : Elements) (d : Dictionary) (a : Draft) (vs : Slots) (left : Elements)
    (now mid : Dictionary) (b c : Draft) (w : List ℕ)
    → AreWritten l body rows d a (element vs left) now b → c.bits ≡ b.bits → c.bytes.items ≡ b.bytes.items ++ w
    → EncodesSegment body (EncodesBody l body) now vs w mid → AreWritten l body rows d a left mid c
rows_more l body rows d a vs left now mid b c w h p q e = record {
  bytes = h.bytes ++ w;
  bits_are = p ∙ h.bits_are;
  bytes_are = q ∙ ap (λ (z : List ℕ). z ++ w) h.bytes_are ∙ append_assoc a.bytes.items h.bytes w;
  goes = λ s d' k. rw (append_assoc h.bytes w s) (h.goes (w ++ s) d' (w, s, mid, e, k, refl));
  refuses = λ f k. h.refuses f (inr (w, mid, e, k));
}

-- Where the slots up to a place are written, one more is written, or it is refused.
module _ (l : Limits) (nodes : List Node) (body : List ℕ) (slots : List (Option Item)) (i : ℕ) (x : Option Item)
    (in_body : i < length body) (in_slots : i < length slots) (is : x ≡ get_or slots i x) where
  abbrev here : Instruction
  here = instruction_in nodes (slice_index body i)

  opened : (d : Dictionary) (a : Draft) (now : Dictionary) (b : Draft)
      → IsWritten l (body_among nodes body) (slots_data slots) d a (body_among nodes (drop i body)) (slots_data (drop i slots)) now b
      → IsWritten l (body_among nodes body) (slots_data slots) d a (step here (body_among nodes (drop (i + 1) body)))
      (with_slot (option_map item_data x) (slots_data (drop (i + 1) slots))) now b
  opened d a now b h =
      subst (λ (z : Body). IsWritten l (body_among nodes body) (slots_data slots) d a z
      (with_slot (option_map item_data x) (slots_data (drop (i + 1) slots))) now b) (body_next nodes body i in_body)
      (subst (λ (z : Slots). IsWritten l (body_among nodes body) (slots_data slots) d a (body_among nodes (drop i body)) z now b)
      (slots_next slots i x in_slots is) h)

  pub more_at : (d : Dictionary) (a : Draft) (now mid : Dictionary) (b c : Draft)
      → IsWritten l (body_among nodes body) (slots_data slots) d a (body_among nodes (drop i body)) (slots_data (drop i slots)) now b
      → Wrote (Encodes l here now (option_map item_data x)) b c mid
      → IsWritten l (body_among nodes body) (slots_data slots) d a (body_among nodes (drop (i + 1) body))
      (slots_data (drop (i + 1) slots)) mid c
  more_at d a now mid b c h w = written_next l (body_among nodes body) (slots_data slots) d a here (body_among nodes (drop (i + 1) body))
      (option_map item_data x) (slots_data (drop (i + 1) slots)) now mid b c (opened d a now b h) w

  pub refused_at : (d : Dictionary) (a : Draft) (now : Dictionary) (b : Draft) (f : EncodeFault)
      → IsWritten l (body_among nodes body) (slots_data slots) d a (body_among nodes (drop i body)) (slots_data (drop i slots)) now b
      → Refuses l here now (option_map item_data x) f → RefusesBody l (body_among nodes body) d (slots_data slots) f
  refused_at d a now b f h r = written_refused l (body_among nodes body) (slots_data slots) d a here (body_among nodes (drop (i + 1) body))
      (option_map item_data x) (slots_data (drop (i + 1) slots)) now b f (opened d a now b h) r

  pub suits_more : SuitsBody (body_among nodes (drop i body)) (slots_data (drop i slots))
      → SuitsBody (body_among nodes (drop (i + 1) body)) (slots_data (drop (i + 1) slots))
  suits_more h = (suits_next here (body_among nodes (drop (i + 1) body)) (option_map item_data x) (slots_data (drop (i + 1) slots))
      (subst (λ (z : Body). SuitsBody z (with_slot (option_map item_data x) (slots_data (drop (i + 1) slots)))) (body_next nodes body i in_body)
      (subst (λ (z : Slots). SuitsBody (body_among nodes (drop i body)) z) (slots_next slots i x in_slots is) h))).1

  pub suits_here : SuitsBody (body_among nodes (drop i body)) (slots_data (drop i slots)) → Suits here (option_map item_data x)
  suits_here h = (suits_next here (body_among nodes (drop (i + 1) body)) (option_map item_data x) (slots_data (drop (i + 1) slots))
      (subst (λ (z : Body). SuitsBody z (with_slot (option_map item_data x) (slots_data (drop (i + 1) slots)))) (body_next nodes body i in_body)
      (subst (λ (z : Slots). SuitsBody (body_among nodes (drop i body)) z) (slots_next slots i x in_slots is) h))).0

  pub fits_here : AreWithinLimits l (slots_data (drop i slots)) → IsWithinOption l (option_map item_data x)
  fits_here h = within_here l (option_map item_data x) (slots_data (drop (i + 1) slots)) (subst (AreWithinLimits l) (slots_next slots i x in_slots is) h)

  pub fits_more : AreWithinLimits l (slots_data (drop i slots)) → AreWithinLimits l (slots_data (drop (i + 1) slots))
  fits_more h = within_next l (option_map item_data x) (slots_data (drop (i + 1) slots)) (subst (AreWithinLimits l) (slots_next slots i x in_slots is) h)

-- all slots are written
pub all_written : (l : Limits) (nodes : List Node) (body : List ℕ) (slots : List (Option Item)) (i : ℕ) (d : Dictionary) (a : Draft)
    (now : Dictionary) (b : Draft) → length slots ≤ i
    → SuitsBody (body_among nodes (drop i body)) (slots_data (drop i slots))
    → IsWritten l (body_among nodes body) (slots_data slots) d a (body_among nodes (drop i body)) (slots_data (drop i slots)) now b
    → Wrote (EncodesBody l (body_among nodes body) d (slots_data slots)) a b now
all_written l nodes body slots i d a now b past suits h =
    let none = slots_last slots i past in
    let done = rest_is_end (body_among nodes (drop i body)) (subst (λ (z : Slots). SuitsBody (body_among nodes (drop i body)) z) none suits) in
    written_done l (body_among nodes body) (slots_data slots) d a now b
    (subst (λ (z : Body). IsWritten l (body_among nodes body) (slots_data slots) d a z no_slots now b) done
    (subst (λ (z : Slots). IsWritten l (body_among nodes body) (slots_data slots) d a (body_among nodes (drop i body)) z now b) none h))

pub ready_kept : (t : Templates) (l : Limits) (a b : LedgerData) → IsReady t l a → Keeps a b → IsReady t l b
ready_kept t l a b r k = record { entries = k.count ∙ r.entries; room = r.room ∙ sym k.room; small = r.small; initial = r.initial }

pub keeps_on : (a b c : LedgerData) → Keeps a b → Keeps b c → Keeps a c
keeps_on a b c h k = record { before = k.before ∙ h.before; room = k.room ∙ h.room; count = k.count ∙ h.count }

pub keeps_all : (a : LedgerData) → Keeps a a
keeps_all a = record { before = refl; room = refl; count = refl }

-- of what a `?` hands on, nothing is said of Ok
pub on_handed_on : {R E : Type 0} (P : Type 0) (Q : E → Type 0) (r : Result R E) → IsErrAnd r Q → OnOk r P
on_handed_on P Q (Ok x) h = absurd h
on_handed_on P Q (Err e) h = tt

-- what is so where a call answers Ok, of two clauses
pub on_both : {R E : Type 0} {A B C : Type 0} (r : Result R E) → OnOk r A → OnOk r B → (A → B → C) → OnOk r C
on_both (Ok x) h k f = f h k
on_both (Err e) h k f = tt

-- A segment that was closed behind its mark.
pub record IsClosed (l : Limits) (body : Body) (vs : Slots) (d mid : Dictionary) (a c : Draft) : Type 0 where
  pub bytes : List ℕ
  pub bits_are : c.bits ≡ a.bits
  pub bytes_are : c.bytes.items ≡ a.bytes.items ++ bytes
  pub says : EncodesSegment body (EncodesBody l body) d vs bytes mid

-- the bits behind a mark
pub own_bits : (a b : List Bool) (all : List Bool) (k : ℕ) → all ≡ a ++ b → k ≡ length a → drop k all ≡ b
own_bits a b all k p i = ap (λ (z : ℕ). drop z all) i ∙ ap (drop (length a)) p ∙ drop-append_seam a b

-- and those before it
pub bits_around : (a b : List Bool) (all : List Bool) (k : ℕ) → all ≡ a ++ b → k ≡ length a → take k all ≡ a
bits_around a b all k p i = ap (λ (z : ℕ). take z all) i ∙ ap (take (length a)) p ∙ take-append_seam a b

pub mark_inside : (a b : List Bool) (all : List Bool) (k : ℕ) → all ≡ a ++ b → k ≡ length a → k ≤ length all
mark_inside a b all k p i = let long = ap length p ∙ length-append a b in omega (arith, long, i)

pub closed : (l : Limits) (body : Body) (vs : Slots) (d mid : Dictionary) (a b c : Draft) (has : Bool) (m k : ℕ)
    → Wrote (EncodesBody l body d vs) a b mid → has ≡ has_map body → m ≡ length a.bytes.items → k ≡ length a.bits
    → Closes has (take m b.bytes.items) (drop m b.bytes.items) (drop k b.bits) c.bytes.items → c.bits ≡ take k b.bits
    → IsClosed l body vs d mid a c
closed l body vs d mid a b c has m k (bits, bytes, p, q, e) h i n (map, short, r) s =
    let before = a.bytes.items in
    let front : take m b.bytes.items ≡ before = ap (λ (z : ℕ). take z b.bytes.items) i ∙ ap (take (length before)) q ∙ take-append_seam before bytes in
    let back : drop m b.bytes.items ≡ bytes = ap (λ (z : ℕ). drop z b.bytes.items) i ∙ ap (drop (length before)) q ∙ drop-append_seam before bytes in
    let own : drop k b.bits ≡ bits = own_bits a.bits bits b.bits k p n in
    record {
      bytes = map ++ bytes;
      bits_are = s ∙ bits_around a.bits bits b.bits k p n;
      bytes_are = r ∙ ap (λ (z : List ℕ). z ++ (map ++ drop m b.bytes.items)) front ∙ ap (λ (z : List ℕ). before ++ (map ++ z)) back;
      says = (bits, map, bytes, e, subst (λ (z : Bool). ShortestMap z bits map) h (subst (λ (z : List Bool). ShortestMap has z map) own short), refl);
    }

pub unclosed : (l : Limits) (body : Body) (vs : Slots) (d mid : Dictionary) (a b : Draft) (has : Bool) (k : ℕ) (f : EncodeFault)
    → k ≡ length a.bits → Wrote (EncodesBody l body d vs) a b mid → has ≡ has_map body
    → (f ≡ E3) × (has ≡ true) × HaveNoMap (drop k b.bits) → RefusesSegment body (EncodesBody l body) (RefusesBody l body) d vs f
unclosed l body vs d mid a b has k f n (bits, bytes, p, q, e) h (is, set, none) =
    inr (bits, bytes, mid, e, sym h ∙ set, subst HaveNoMap (own_bits a.bits bits b.bits k p n) none, is)

-- elements from a place on
module _ (l : Limits) (body : Body) (rs : List (Vec (Option Item) Global)) (i : ℕ) (r : Vec (Option Item) Global) (inside : i < length rs)
    (is : r ≡ get_or rs i r) where
  pub row_more : (d : Dictionary) (a : Draft) (now mid : Dictionary) (b c : Draft)
      → AreWritten l body (elements_data rs) d a (elements_data (drop i rs)) now b → IsClosed l body (slots_data r.items) now mid b c
      → AreWritten l body (elements_data rs) d a (elements_data (drop (i + 1) rs)) mid c
  row_more d a now mid b c h k = rows_more l body (elements_data rs) d a (slots_data r.items) (elements_data (drop (i + 1) rs)) now mid b c k.bytes
      (subst (λ (z : Elements). AreWritten l body (elements_data rs) d a z now b) (rows_next rs i r inside is) h) k.bits_are k.bytes_are k.says

  pub row_refused : (d : Dictionary) (a : Draft) (now : Dictionary) (b : Draft) (f : EncodeFault)
      → AreWritten l body (elements_data rs) d a (elements_data (drop i rs)) now b
      → RefusesSegment body (EncodesBody l body) (RefusesBody l body) now (slots_data r.items) f
      → RefusesElements (EncodesSegment body (EncodesBody l body)) (RefusesSegment body (EncodesBody l body) (RefusesBody l body)) d (elements_data rs) f
  row_refused d a now b f h k = (subst (λ (z : Elements). AreWritten l body (elements_data rs) d a z now b) (rows_next rs i r inside is) h).refuses f (inl k)

  pub row_right : AreRight (SuitsBody body) (elements_data (drop i rs))
      → SuitsBody body (slots_data r.items) × AreRight (SuitsBody body) (elements_data (drop (i + 1) rs))
  row_right h = subst (AreRight (SuitsBody body)) (rows_next rs i r inside is) h

  pub row_fits : RowsWithinLimits l (elements_data (drop i rs)) → AreWithinLimits l (slots_data r.items) × RowsWithinLimits l (elements_data (drop (i + 1) rs))
  row_fits h = subst (RowsWithinLimits l) (rows_next rs i r inside is) h

pub rows_done : (l : Limits) (body : Body) (rs : List (Vec (Option Item) Global)) (i : ℕ) (d : Dictionary) (a : Draft) (now : Dictionary)
    (b : Draft) → length rs ≤ i → AreWritten l body (elements_data rs) d a (elements_data (drop i rs)) now b
    → (w : List ℕ) × (b.bits ≡ a.bits) × (b.bytes.items ≡ a.bytes.items ++ w)
    × EncodesElements (EncodesSegment body (EncodesBody l body)) d (elements_data rs) w now
rows_done l body rs i d a now b past h =
    let k = subst (λ (z : Elements). AreWritten l body (elements_data rs) d a z now b) (ap elements_data (drop_all i rs past)) h in
    (k.bytes, k.bits_are, k.bytes_are, rw (append-nil k.bytes) at (k.goes [] now (refl, refl)))

-- the bits of a node's own segment tell whether it has a map
pub has_bits : (nodes : List Node) (bits : ℕ) (v : Node) (s : Shape) → bits ≡ bits_of (body_among nodes (numbers_of v.shape)) → v.shape ≡ s
    → nat_lt 0 bits ≡ has_map (body_among nodes (numbers_of s))
has_bits nodes bits v s e is = ap (nat_lt 0) (e ∙ ap (λ (z : Shape). bits_of (body_among nodes (numbers_of z))) is)
