-- Messages and streams under limits with more room.
use Rattle.std.proofs.Common.{◌≡◌, ◌⊎◌, inl, inr, ℕ, zero, suc, ◌+◌, ◌<◌, ◌≤◌, List, [], ◌∷◌, ◌++◌, length, refl, ap, sym, subst, ◌∙◌}
use Rattle.std.proofs.Common.{arith, append_assoc, append-nil}
use Rattle.std.specs.Prelude.{All, Bool, true, false, nat_le, if◌then◌else◌, take, Result, Ok, Err}
use Rattle.std.proofs.Math.Seq.{take-append_seam}
use Rattle.std.proofs.lemmas.List.Elements.{All-nil}
use Rattle.fast_wire.specs.meaning.Integers.{Range}
use Rattle.fast_wire.specs.meaning.Maps.{bytes_for}
use Rattle.fast_value.specs.declared.codes.Code.{Code}
use Rattle.fast_value.specs.declared.codes.Code.TheVariants.{D2, L1, L2, L3, L5, R6, R7, R8, R9}
use Rattle.fast_value.specs.declared.settings.Limits.{Limits}
use Rattle.fast_value.specs.meaning.Limits.{bounds}
use Rattle.fast_value.specs.meaning.Messages.{MessageData}
use Rattle.fast_tree.specs.meaning.Tree.{Tree}
use Rattle.fast_dict.specs.meaning.Dictionary.{Dictionary, fresh}
use Rattle.fast_stream.specs.meaning.Events.{EventData, SequenceStart, events}
use Rattle.fast_stream.specs.meaning.Phrases.{Reached, whole, cut, wrong, Phrase, gives, hands, settles, ◌followed_by◌}
use Rattle.fast_stream.specs.meaning.Units
use Rattle.fast_stream.specs.meaning.Grammar.{Grammar, give, fault, hand, integer, ascii_text, raw, presence_map, narrow, phrase_of}
use Rattle.fast_stream.specs.meaning.Messages.{message_term, message, SpellsMessage}
use Rattle.fast_stream.specs.meaning.Streams.{End, between, inside, faulted, SpellsAll, Chain, Stream}
use Rattle.fast_stream.proofs.readers.Binds.{goes}
use Rattle.fast_stream.proofs.terms.MessageEvents.{message-events}
use Rattle.fast_stream.proofs.terms.Quiet.{Silent, silent-settles, silent-integer, silent-map, silent-raw, silent-ascii}
use Rattle.fast_stream.proofs.streams.Reading.{reads-first, chain_more, one_answer}
use Rattle.fast_notation.proofs.nodes.BuildingNeeds.{all_right, all_first}
use Rattle.fast_spelling.specs.meaning.Again.{IsGrantedTree}
use Rattle.fast_laws.specs.meaning.Counting.{counted_with, counted_from, counted, HasFew}
use Rattle.fast_laws.specs.meaning.Proper.{AreOfMessages}
use Rattle.fast_laws.specs.meaning.Raising.{is_count_code, IsOtherEnd, with_room, Passes, IsPassed}
use Rattle.fast_laws.proofs.messages.Counting.{two_parts, few, each_few}
use Rattle.fast_laws.proofs.messages.Streams.{of_messages}
use Rattle.fast_laws.proofs.terms.Raising.{Room, wide, Passed, Raises, Any, message_raises}

-- Codes of the limits on elements are no others.
clash : (c d : Code) → c ≡ d → is_count_code d ≡ false → is_count_code c ≡ true → ⊥
clash c d e f g = let k : true ≡ false = sym g ∙ ap is_count_code e ∙ f in cc k

passes_count : (l : Limits) (k n : ℕ) (c : Code) → Passes l k n c → is_count_code c ≡ true
passes_count l k n L2 h = refl
passes_count l k n L5 h = refl
passes_count l k n c h = absurd h

-- A unit is at fault for other reasons.
abbrev IsOtherUnit : {X : Type 0} → Phrase X → Type 0
IsOtherUnit p = (w : List ℕ) (es : List EventData) (c : Code) → p w es (wrong c) → is_count_code c ≡ true → ⊥

other_integer : (s : Bool) (range : Range) (nullable : Bool) (outside : Code) → is_count_code outside ≡ false
    → IsOtherUnit (Units.integer s range nullable outside)
other_integer s range nullable outside o w es c (inl (h, long, e), none) g = clash c D2 e refl g
other_integer s range nullable outside o w es c (inr (inl (h, long, strict, over, e)), none) g = clash c R6 e refl g
other_integer s range nullable outside o w es c (inr (inr (x, h, means, out, e)), none) g = clash c outside e o g

other_ascii : (nullable : Bool) (room : ℕ) → IsOtherUnit (Units.ascii_text nullable room)
other_ascii nullable room w es c (inl (h, e), none) g = clash c R9 e refl g
other_ascii nullable room w es c (inr (h, e), none) g = clash c L1 e refl g

other_map : (s : Bool) → IsOtherUnit (Units.presence_map s)
other_map s w es c (inl (h, long, e), none) g = clash c L3 e refl g
other_map s w es c (inr (h, long, strict, spare, e), none) g = clash c R7 e refl g

other_width : (s : Bool) (n : ℕ) (m : List ℕ) → IsOtherUnit (settles (Units.width_checked s n m))
unfolding settles gives
other_width false n m w es c h g = h
other_width true n m w es c h g = by (nat_le (length m) (bytes_for n)) h
  where
    by : (b : Bool) → settles {A = Unit {0}} (if b then Ok tt else Err R8) w es (wrong c) → ⊥
    by true h = h
    by false h = clash c R8 h.2 refl g

other_hand : (e : EventData) → IsOtherUnit (hands e)
unfolding hands
other_hand e w es c h g = h

-- what a term comes to without a byte
abbrev Outcome : {A : Type 0} → Bool → Grammar A → Type 0
Outcome {A} s g = (es : List EventData) × (r : Reached A) × phrase_of s g [] es r

some_outcome : {A : Type 0} (s : Bool) (g : Grammar A) → Outcome s g
unfolding ◌followed_by◌ gives hands settles
some_outcome s (give a) = ([], whole a, (refl, refl, refl))
some_outcome s (fault c) = ([], wrong c, (refl, refl, refl))
some_outcome s (hand e g) = let (es, r, h) = some_outcome s g in
    (e ∷ es, r, goes (hands e) (λ _. phrase_of s g) [] (e ∷ es) r ([], [], e ∷ [], es, tt, (refl, refl), h, refl, refl))
some_outcome s (integer range nullable c g) = ([], cut, inl (All-nil (λ b. b < 128), omega arith, refl))
some_outcome s (ascii_text nullable room g) = ([], cut, inl (inl (All-nil (λ b. b < 128), omega arith, λ (rest, e). absurd (cc e)), refl))
some_outcome s (raw zero g) = let (es, r, h) = some_outcome s (g []) in
    (es, r, goes (Units.raw zero) (λ x. phrase_of s (g x)) [] es r ([], [], [], es, [], (refl, refl, refl), h, refl, refl))
some_outcome s (raw (suc n) g) = ([], cut, inl (omega arith, refl))
some_outcome s (presence_map g) = ([], cut, inl (All-nil (λ b. b < 128), omega arith, refl))
some_outcome {A} s (narrow n m g) = by (Units.width_checked s n m) (some_outcome s g)
  where
    by : (x : Result (Unit {0}) Code) → Outcome s g → (es : List EventData) × (r : Reached A) × ◌followed_by◌ (settles x) (λ _. phrase_of s g) [] es r
    by (Ok u) (es, r, h) = (es, r, goes (settles (Ok u)) (λ _. phrase_of s g) [] es r ([], [], [], es, u, (refl, refl, refl), h, refl, refl))
    by (Err c) o = ([], wrong c, inl (refl, refl, refl))

-- a sequence's start, and then
announced : {A : Type 0} (s : Bool) (node n : ℕ) (rest : Grammar A) (more : List EventData) (r : Reached A) → phrase_of s rest [] more r
    → phrase_of s (hand (SequenceStart node n) rest) [] (SequenceStart node n ∷ more) r
unfolding hands
announced s node n rest more r z = goes (hands (SequenceStart node n)) (λ _. phrase_of s rest) [] (SequenceStart node n ∷ more) r
    ([], [], SequenceStart node n ∷ [], more, tt, (refl, refl), z, refl, refl)

-- an end for another reason
abbrev IsOther : {A : Type 0} → Reached A → Type 0
IsOther (whole a) = Unit {0}
IsOther cut = Unit {0}
IsOther (wrong c) = is_count_code c ≡ false

unit_keeps : {X A : Type 0} (p : Phrase X) (q q' : X → Phrase A) (r : Reached A) (w : List ℕ) (es : List EventData)
    → ((x : X) (v : List ℕ) (gs : List EventData) → q x v gs r → q' x v gs r) → ◌followed_by◌ p q w es r → ◌followed_by◌ p q' w es r
unfolding ◌followed_by◌
unit_keeps p q q' (whole a) w es f (u, v, fs, gs, x, i, j, d, e) = (u, v, fs, gs, x, i, f x v gs j, d, e)
unit_keeps p q q' cut w es f (inl h) = inl h
unit_keeps p q q' cut w es f (inr (u, v, fs, gs, x, i, j, d, e)) = inr (u, v, fs, gs, x, i, f x v gs j, d, e)
unit_keeps p q q' (wrong c) w es f (inl h) = inl h
unit_keeps p q q' (wrong c) w es f (inr (u, v, fs, gs, x, i, j, d, e)) = inr (u, v, fs, gs, x, i, f x v gs j, d, e)

module _ (l : Limits) (s : Bool) where
  -- What ends for another reason does so with more room.
  fault_keeps : {A : Type 0} (c : Code) (k : ℕ) (h : Room l → Grammar A) (w : List ℕ) (es : List EventData) (r : Reached A)
      → Passed l k c h → IsOther r → phrase_of {A = A} s (fault c) w es r → ⊥
  unfolding settles
  fault_keeps c k h w es (whole a) p o x = x
  fault_keeps c k h w es cut p o x = x
  fault_keeps c k h w es (wrong d) (node, n, p, f) o x = clash c d (sym x.2) o (passes_count l k n c p)

  keeps : {A : Type 0} (i : Room l) (g : Grammar A) (h : Room l → Grammar A) (after : A → ℕ → Type 0) (k : ℕ) (w : List ℕ)
      (es : List EventData) (r : Reached A) → Raises l after k g h → IsOther r → phrase_of s g w es r → phrase_of s (h i) w es r
  keeps i (give a) h after k w es r (p, e) o x = subst (λ z. phrase_of s z w es r) (sym (e i)) x
  keeps i (fault c) h after k w es r (inl (p, e)) o x = subst (λ z. phrase_of s z w es r) (sym (e i)) x
  keeps i (fault c) h after k w es r (inr p) o x = absurd (fault_keeps c k h w es r p o x)
  keeps i (hand e g) h after k w es r (h', d, q) o x =
      subst (λ z. phrase_of s z w es r) (sym (d i)) (unit_keeps (hands e) (λ _. phrase_of s g) (λ _. phrase_of s (h' i)) r w es
      (λ _ v gs. keeps i g h' after (counted_with e k) v gs r q o) x)
  keeps i (integer range nullable c g) h after k w es r (out, h', d, q) o x =
      subst (λ z. phrase_of s z w es r) (sym (d i)) (unit_keeps (Units.integer s range nullable c) (λ x. phrase_of s (g x))
      (λ x. phrase_of s (h' i x)) r w es (λ x v gs. keeps i (g x) (λ i. h' i x) after k v gs r (q x) o) x)
  keeps i (ascii_text nullable room g) h after k w es r (h', d, q) o x =
      subst (λ z. phrase_of s z w es r) (sym (d i)) (unit_keeps (Units.ascii_text nullable room) (λ x. phrase_of s (g x))
      (λ x. phrase_of s (h' i x)) r w es (λ x v gs. keeps i (g x) (λ i. h' i x) after k v gs r (q x) o) x)
  keeps i (raw n g) h after k w es r (h', d, q) o x =
      subst (λ z. phrase_of s z w es r) (sym (d i)) (unit_keeps (Units.raw n) (λ x. phrase_of s (g x)) (λ x. phrase_of s (h' i x)) r w es
      (λ x v gs. keeps i (g x) (λ i. h' i x) after k v gs r (q x) o) x)
  keeps i (presence_map g) h after k w es r (h', d, q) o x =
      subst (λ z. phrase_of s z w es r) (sym (d i)) (unit_keeps (Units.presence_map s) (λ x. phrase_of s (g x))
      (λ x. phrase_of s (h' i x)) r w es (λ x v gs. keeps i (g x) (λ i. h' i x) after k v gs r (q x) o) x)
  keeps i (narrow n m g) h after k w es r (h', d, q) o x =
      subst (λ z. phrase_of s z w es r) (sym (d i)) (unit_keeps (settles (Units.width_checked s n m)) (λ _. phrase_of s g)
      (λ _. phrase_of s (h' i)) r w es (λ _ v gs. keeps i g h' after k v gs r q o) x)

  -- What ends at a limit on elements announces the sequence, with room for it.
  abbrev Announces : {A : Type 0} → (Room l → Phrase A) → ℕ → List ℕ → List EventData → Code → Type 0
  Announces {A} q k w es c = (node n : ℕ) × Passes l (counted_from k es) n c
      × ((i : Room l) → n ≤ i.elements → counted_from k es + n ≤ i.total
      → (more : List EventData) × (r : Reached A) × q i w (es ++ SequenceStart node n ∷ more) r)

  unit_passes : {X A : Type 0} (p : Phrase X) (q : X → Phrase A) (q' : Room l → X → Phrase A) (k j : ℕ) (w : List ℕ) (es : List EventData)
      (c : Code) → is_count_code c ≡ true → IsOtherUnit p
      → ((u : List ℕ) (fs : List EventData) (x : X) → p u fs (whole x) → (gs : List EventData) → counted_from k (fs ++ gs) ≡ counted_from j gs)
      → ((x : X) (v : List ℕ) (gs : List EventData) → q x v gs (wrong c) → Announces (λ i. q' i x) j v gs c)
      → ◌followed_by◌ p q w es (wrong c) → Announces (λ i. ◌followed_by◌ p (q' i)) k w es c
  unfolding ◌followed_by◌
  unit_passes p q q' k j w es c count other same f (inl h) = absurd (other w es c h count)
  unit_passes p q q' k j w es c count other same f (inr (u, v, fs, gs, x, a, b, d, e)) =
      let (node, n, pass, go) = f x v gs b in
      let number : counted_from k es ≡ counted_from j gs = ap (counted_from k) e ∙ same u fs x a gs in (
        node,
        n,
        subst (λ (z : ℕ). Passes l z n c) (sym number) pass,
        λ i few fits. let (more, r, z) = go i few (subst (λ (y : ℕ). y + n ≤ i.total) number fits) in (
          more,
          r,
          goes p (q' i) w (es ++ SequenceStart node n ∷ more) r (
            u,
            v,
            fs,
            gs ++ SequenceStart node n ∷ more,
            x,
            a,
            z,
            d,
            ap (λ (y : List EventData). y ++ SequenceStart node n ∷ more) e
                ∙ append_assoc fs gs (SequenceStart node n ∷ more),
          ),
        ),
      )

  silent_same : {X : Type 0} (p : Phrase X) → Silent p → (k : ℕ) (u : List ℕ) (fs : List EventData) (x : X) → p u fs (whole x)
      → (gs : List EventData) → counted_from k (fs ++ gs) ≡ counted_from k gs
  silent_same p h k u fs x a gs = ap (λ (z : List EventData). counted_from k (z ++ gs)) (h.silent u fs (whole x) a)

  hand_same : (e : EventData) (k : ℕ) (u : List ℕ) (fs : List EventData) (x : Unit {0}) → hands e u fs (whole x) → (gs : List EventData)
      → counted_from k (fs ++ gs) ≡ counted_from (counted_with e k) gs
  unfolding hands
  hand_same e k u fs x a gs = ap (λ (z : List EventData). counted_from k (z ++ gs)) a.1

  -- by an equal term
  told_same : {A : Type 0} (h : Room l → Grammar A) (q : Room l → Phrase A) (k : ℕ) (w : List ℕ) (es : List EventData) (c : Code)
      → ((i : Room l) (fs : List EventData) (r : Reached A) → q i w fs r → phrase_of s (h i) w fs r)
      → Announces q k w es c → Announces (λ i. phrase_of s (h i)) k w es c
  told_same h q k w es c f (node, n, pass, go) = (
    node,
    n,
    pass,
    λ i few fits. let (more, r, z) = go i few fits in
        (more, r, f i (es ++ SequenceStart node n ∷ more) r z),
  )

  fault_passes : {A : Type 0} (c d : Code) (k : ℕ) (h : Room l → Grammar A) (w : List ℕ) (es : List EventData) → Passed l k c h
      → phrase_of {A = A} s (fault c) w es (wrong d) → Announces (λ i. phrase_of s (h i)) k w es d
  unfolding settles
  fault_passes c d k h w es (node, n, pass, f) (none, no_event, same_code) = rw (none, no_event, same_code) (
    node,
    n,
    pass,
    λ i few fits. let (rest, e) = f i few fits in
        let (more, r, z) = some_outcome s rest in
        (more, r, subst (λ y. phrase_of s y [] (SequenceStart node n ∷ more) r) (sym e) (announced s node n rest more r z)),
  )

  passes : {A : Type 0} (g : Grammar A) (h : Room l → Grammar A) (after : A → ℕ → Type 0) (k : ℕ) (w : List ℕ) (es : List EventData)
      (c : Code) → Raises l after k g h → is_count_code c ≡ true → phrase_of s g w es (wrong c)
      → Announces (λ i. phrase_of s (h i)) k w es c
  unfolding gives settles
  passes (give a) h after k w es c q count x = absurd x
  passes (fault d) h after k w es c (inl (o, e)) count x = absurd (clash c d x.2 o count)
  passes (fault d) h after k w es c (inr p) count x = fault_passes d c k h w es p x
  passes (hand e g) h after k w es c (h', d, q) count x =
      told_same h (λ i. ◌followed_by◌ (hands e) (λ _. phrase_of s (h' i))) k w es c (λ i fs r. subst (λ z. phrase_of s z w fs r) (sym (d i)))
      (unit_passes (hands e) (λ _. phrase_of s g) (λ i _. phrase_of s (h' i)) k (counted_with e k) w es c count (other_hand e)
      (hand_same e k) (λ _ v gs. passes g h' after (counted_with e k) v gs c q count) x)
  passes (integer range nullable out g) h after k w es c (o, h', d, q) count x =
      told_same h (λ i. ◌followed_by◌ (Units.integer s range nullable out) (λ x. phrase_of s (h' i x))) k w es c
      (λ i fs r. subst (λ z. phrase_of s z w fs r) (sym (d i)))
      (unit_passes (Units.integer s range nullable out) (λ x. phrase_of s (g x)) (λ i x. phrase_of s (h' i x)) k k w es c count
      (other_integer s range nullable out o) (silent_same (Units.integer s range nullable out) (silent-integer s range nullable out) k)
      (λ x v gs. passes (g x) (λ i. h' i x) after k v gs c (q x) count) x)
  passes (ascii_text nullable room g) h after k w es c (h', d, q) count x =
      told_same h (λ i. ◌followed_by◌ (Units.ascii_text nullable room) (λ x. phrase_of s (h' i x))) k w es c
      (λ i fs r. subst (λ z. phrase_of s z w fs r) (sym (d i)))
      (unit_passes (Units.ascii_text nullable room) (λ x. phrase_of s (g x)) (λ i x. phrase_of s (h' i x)) k k w es c count
      (other_ascii nullable room) (silent_same (Units.ascii_text nullable room) (silent-ascii nullable room) k)
      (λ x v gs. passes (g x) (λ i. h' i x) after k v gs c (q x) count) x)
  passes (raw n g) h after k w es c (h', d, q) count x =
      told_same h (λ i. ◌followed_by◌ (Units.raw n) (λ x. phrase_of s (h' i x))) k w es c (λ i fs r. subst (λ z. phrase_of s z w fs r) (sym (d i)))
      (unit_passes (Units.raw n) (λ x. phrase_of s (g x)) (λ i x. phrase_of s (h' i x)) k k w es c count (λ w es c h g. h)
      (silent_same (Units.raw n) (silent-raw n) k)
      (λ x v gs. passes (g x) (λ i. h' i x) after k v gs c (q x) count) x)
  passes (presence_map g) h after k w es c (h', d, q) count x =
      told_same h (λ i. ◌followed_by◌ (Units.presence_map s) (λ x. phrase_of s (h' i x))) k w es c (λ i fs r. subst (λ z. phrase_of s z w fs r) (sym (d i)))
      (unit_passes (Units.presence_map s) (λ x. phrase_of s (g x)) (λ i x. phrase_of s (h' i x)) k k w es c count (other_map s)
      (silent_same (Units.presence_map s) (silent-map s) k)
      (λ x v gs. passes (g x) (λ i. h' i x) after k v gs c (q x) count) x)
  passes (narrow n m g) h after k w es c (h', d, q) count x =
      told_same h (λ i. ◌followed_by◌ (settles (Units.width_checked s n m)) (λ _. phrase_of s (h' i))) k w es c
      (λ i fs r. subst (λ z. phrase_of s z w fs r) (sym (d i)))
      (unit_passes (settles (Units.width_checked s n m)) (λ _. phrase_of s g) (λ i _. phrase_of s (h' i)) k k w es c count
      (other_width s n m) (silent_same (settles (Units.width_checked s n m)) (silent-settles (Units.width_checked s n m)) k)
      (λ _ v gs. passes g h' after k v gs c q count) x)

module _ (t : Tree) (l : Limits) (i : Room l) where
  abbrev roomy : Limits
  roomy = with_room i.elements i.total l

  message_kept : (d : Dictionary) (w : List ℕ) (es : List EventData) (r : Reached (MessageData × Dictionary)) → IsOther r
      → message t l d w es r → message t roomy d w es r
  message_kept d w es r o h = keeps l l.strict i (message_term t (bounds l) d) (λ i. message_term t (wide l i) d) (Any l) 0 w es r (message_raises l 0 t d) o h

  all_kept : (ms : List MessageData) (d d' : Dictionary) (w : List ℕ) → SpellsAll t l d ms w d' → SpellsAll t roomy d ms w d'
  unfolding SpellsMessage
  all_kept [] d d' w h = h
  all_kept (m ∷ ms) d d' w (u, v, mid, h, j, e) = (u, v, mid, message_kept d u (events t m) (whole (m, mid)) tt h, all_kept ms mid d' v j, e)

  chain_kept : (w : List ℕ) (es : List EventData) (d : Dictionary) → Chain t l w es d → Chain t roomy w es d
  chain_kept w es d (ms, h, e) = (ms, all_kept ms (fresh t.entries) d w h, e)

  stream_kept : (w : List ℕ) (es : List EventData) (e : End) → IsOtherEnd e → Stream t l w es e → Stream t roomy w es e
  unfolding Stream
  stream_kept w es between o (d, h) = (d, chain_kept w es d h)
  stream_kept w es inside o (u, v, fs, gs, d, h, j, some, split, parted) =
      (u, v, fs, gs, d, chain_kept u fs d h, message_kept d v gs cut tt j, some, split, parted)
  stream_kept w es (faulted c place) o (u, v, rest, fs, gs, d, h, j, at, split, parted) =
      (u, v, rest, fs, gs, d, chain_kept u fs d h, message_kept d v gs (wrong c) o j, at, split, parted)

  -- a message that goes on behind a chain
  behind_chain : (u v : List ℕ) (fs gs : List EventData) (d : Dictionary) (r : Reached (MessageData × Dictionary)) → Chain t l u fs d
      → 0 < length v → message t roomy d v gs r → (e : End) × Stream t roomy (u ++ v) (fs ++ gs) e
  unfolding Stream SpellsMessage
  behind_chain u v fs gs d (whole (m, d')) h some j =
      let same = message-events t roomy d v gs (m, d') j in
      let spelled = subst (λ (z : List EventData). message t roomy d v z (whole (m, d'))) same j in (
        between,
        (
          d',
          subst (λ (z : List EventData). Chain t roomy (u ++ v) (fs ++ z) d') (sym same)
              (chain_more t roomy u v fs d d' m (chain_kept u fs d h) spelled),
        ),
      )
  behind_chain u v fs gs d cut h some j = (inside, (u, v, fs, gs, d, chain_kept u fs d h, j, some, refl, refl))
  behind_chain u v fs gs d (wrong c) h some j = (
    faulted c (length (u ++ v)),
    (u, v, [], fs, gs, d, chain_kept u fs d h, j, refl, sym (append-nil (u ++ v)), refl),
  )

pub with_more_room : (t : Tree) (l : Limits) (m n : ℕ) (w : List ℕ) (es : List EventData) (e : End) → l.max_elements ≤ m → l.max_total ≤ n
    → IsOtherEnd e → Stream t l w es e → Stream t (with_room m n l) w es e
with_more_room t l m n w es e few fit o h = stream_kept t l (record { elements = m; total = n; more_elements = few; more_total = fit }) w es e o h

some_byte : (t : Tree) (l : Limits) (d : Dictionary) (v : List ℕ) (gs : List EventData) (c : Code) → message t l d v gs (wrong c) → 0 < length v
some_byte t l d [] gs c h = absurd ((reads-first t l d).takes [] gs (wrong c) h)
some_byte t l d (b ∷ v) gs c h = omega arith

pub limit_passed : (t : Tree) (l : Limits) (w : List ℕ) (es : List EventData) (c : Code) (place : ℕ) → is_count_code c ≡ true
    → Stream t l w es (faulted c place) → IsPassed t l w es c place
unfolding Stream
limit_passed t l w es c place count (u, v, rest, fs, gs, d, h, j, at, split, parted) =
    let (node, n, pass, go) = passes l l.strict (message_term t (bounds l) d) (λ i. message_term t (wide l i) d) (Any l)
    (counted fs) v gs c (message_raises l (counted fs) t d) count j in
    let number : counted es ≡ counted_from (counted fs) gs = ap (counted_from 0) parted ∙ two_parts 0 fs gs in
    let front : take place w ≡ u ++ v = ap (λ (z : ℕ). take z w) at ∙ ap (take (length (u ++ v))) split ∙ take-append_seam (u ++ v) rest in
    record {
      node = node;
      elements = n;
      passes = subst (λ (z : ℕ). Passes l z n c) (sym number) pass;
      announced = λ a b few fit wide_enough long_enough.
          let i : Room l = record { elements = a; total = b; more_elements = few; more_total = fit } in
          let (more, r, z) = go i wide_enough (subst (λ (y : ℕ). y + n ≤ b) number long_enough) in
          let (e, stream) = behind_chain t l i u v fs (gs ++ SequenceStart node n ∷ more) d r h (some_byte t l d v gs c j) z in (
            more,
            e,
            subst (λ (y : List ℕ). Stream t (with_room a b l) y (es ++ SequenceStart node n ∷ more) e) (sym front)
                (subst (λ (y : List EventData). Stream t (with_room a b l) (u ++ v) y e)
                (sym (append_assoc fs gs (SequenceStart node n ∷ more))
                ∙ ap (λ (y : List EventData). y ++ SequenceStart node n ∷ more) (sym parted)) stream),
          );
    }

-- Where a sequence passes a limit with more room, the stream ends at a limit.
pub passing_ends : (t : Tree) (l : Limits) (m n : ℕ) (w : List ℕ) (es fs gs : List EventData) (node k : ℕ) (e e' : End) → IsGrantedTree l t
    → l.max_elements ≤ m → l.max_total ≤ n → Stream t l w es e
    → Stream t (with_room m n l) w (fs ++ SequenceStart node k ∷ gs) e' → (l.max_elements < k) ⊎ (l.max_total < counted fs + k) → IsOtherEnd e → ⊥
passing_ends t l m n w es fs gs node k e e' granted more_elements more_total h j past o = by past
  where
    same : es ≡ fs ++ SequenceStart node k ∷ gs
    same = (one_answer t (with_room m n l) w es (fs ++ SequenceStart node k ∷ gs) e e' (with_more_room t l m n w es e more_elements more_total o h) j).0

    all : AreOfMessages t l es e
    all = of_messages t l w es e granted h

    by : (l.max_elements < k) ⊎ (l.max_total < counted fs + k) → ⊥
    by (inl past) =
        let here : k ≤ l.max_elements = all_first (HasFew l) (SequenceStart node k) gs
        (all_right (HasFew l) fs (SequenceStart node k ∷ gs) (subst (All (HasFew l)) same (each_few t l es e all))) in
        absurd (omega (arith, here, past))
    by (inr past) =
        let here : counted (fs ++ SequenceStart node k ∷ []) ≤ l.max_total =
        few t l es e all (fs ++ SequenceStart node k ∷ []) gs (same ∙ sym (append_assoc fs (SequenceStart node k ∷ []) gs)) in
        let number : counted (fs ++ SequenceStart node k ∷ []) ≡ counted fs + k = two_parts 0 fs (SequenceStart node k ∷ []) in
        absurd (omega (arith, here, number, past))
