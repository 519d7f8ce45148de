-- Laws of readers: one after the other.
use Rattle.std.proofs.Common.{refl, sym, ap, ◌∙◌, inl, inr, append_assoc, append-nil}
use Rattle.std.specs.Prelude.{◌≡◌, ℕ, ◌<◌, List, [], ◌∷◌, ◌++◌, All}
use Rattle.std.proofs.lemmas.List.Elements.{All-cons, All-nil, All-head, All-tail}
use Rattle.fast_value.specs.declared.codes.Code.{Code}
use Rattle.fast_stream.specs.meaning.Events.{EventData}
use Rattle.fast_stream.specs.meaning.Phrases.{Reached, whole, cut, wrong, Phrase, ◌followed_by◌, GoesOn}
use Rattle.fast_stream.specs.device.Readers.{Reader, Done, Emit, Stop, Byte, bind, Runs, Reads}
use Rattle.fast_stream.specs.meaning.Streams.{AreBytes}

-- Two phrases in a row, whatever the second comes to.
pub goes : {A B : Type 0} (p : Phrase A) (k : A → Phrase B) (w : List ℕ) (es : List EventData) (x : Reached B) → GoesOn p k w es x → ◌followed_by◌ p k w es x
unfolding ◌followed_by◌
goes p k w es (whole b) h = h
goes p k w es cut h = inr h
goes p k w es (wrong c) h = inr h

-- More bytes and events in front.
shift : {A B : Type 0} (p q : Phrase A) (k : A → Phrase B) (front : List ℕ) (fronts : List EventData)
    → ((u : List ℕ) (fs : List EventData) (y : Reached A) → p u fs y → q (front ++ u) (fronts ++ fs) y)
    → (w : List ℕ) (es : List EventData) (x : Reached B) → ◌followed_by◌ p k w es x → ◌followed_by◌ q k (front ++ w) (fronts ++ es) x
unfolding ◌followed_by◌
shift {A} {B} p q k front fronts f w es x h = by x h
  where
    on : (x : Reached B) → GoesOn p k w es x → GoesOn q k (front ++ w) (fronts ++ es) x
    on x (u, v, fs, gs, a, i, j, d, e) = (
      front ++ u,
      v,
      fronts ++ fs,
      gs,
      a,
      f u fs (whole a) i,
      j,
      ap (λ r. front ++ r) d ∙ sym (append_assoc front u v),
      ap (λ r. fronts ++ r) e ∙ sym (append_assoc fronts fs gs),
    )

    by : (x : Reached B) → ◌followed_by◌ p k w es x → ◌followed_by◌ q k (front ++ w) (fronts ++ es) x
    by (whole b) h = on (whole b) h
    by cut (inl i) = inl (f w es cut i)
    by cut (inr i) = inr (on cut i)
    by (wrong c) (inl i) = inl (f w es (wrong c) i)
    by (wrong c) (inr i) = inr (on (wrong c) i)

-- What a reader followed by another one does, the first does, or both in a row.
pub bind-splits : {A B : Type 0} (r : Reader A) (k : A → Reader B) (w : List ℕ) (es : List EventData) (x : Reached B)
    → Runs (bind r k) w es x → ◌followed_by◌ (Runs r) (λ a. Runs (k a)) w es x
unfolding ◌followed_by◌
bind-splits (Done a) k w es x h = goes (Runs (Done a)) (λ b. Runs (k b)) w es x ([], w, [], es, a, (refl, refl, refl), h, refl, refl)
bind-splits (Emit e r) k w es x (gs, d, h) = rw d (shift (Runs r) (Runs (Emit e r)) (λ b. Runs (k b)) [] (e ∷ [])
    (λ u fs y i. (fs, refl, i)) w gs x (bind-splits r k w gs x h))
bind-splits (Stop c) k w es (whole b) h = absurd h
bind-splits (Stop c) k w es cut h = absurd h
bind-splits (Stop c) k w es (wrong d) h = inl h
bind-splits (Byte f) k [] es (whole b) h = absurd h
bind-splits (Byte f) k [] es cut h = inl h
bind-splits (Byte f) k [] es (wrong c) h = absurd h
bind-splits (Byte f) k (b ∷ w) es x h = shift (Runs (f b)) (Runs (Byte f)) (λ b. Runs (k b)) (b ∷ []) [] (λ u fs y i. i) w es x (bind-splits (f b) k w es x h)

pub bind-cut : {A B : Type 0} (r : Reader A) (k : A → Reader B) (w : List ℕ) (es : List EventData) → Runs r w es cut → Runs (bind r k) w es cut
bind-cut (Done a) k w es h = absurd h
bind-cut (Emit e r) k w es (gs, d, h) = (gs, d, bind-cut r k w gs h)
bind-cut (Stop c) k w es h = absurd h
bind-cut (Byte f) k [] es h = h
bind-cut (Byte f) k (b ∷ w) es h = bind-cut (f b) k w es h

pub bind-wrong : {A B : Type 0} (r : Reader A) (k : A → Reader B) (w : List ℕ) (es : List EventData) (c : Code) → Runs r w es (wrong c)
    → Runs (bind r k) w es (wrong c)
bind-wrong (Done a) k w es c h = absurd h
bind-wrong (Emit e r) k w es c (gs, d, h) = (gs, d, bind-wrong r k w gs c h)
bind-wrong (Stop d) k w es c h = h
bind-wrong (Byte f) k [] es c h = absurd h
bind-wrong (Byte f) k (b ∷ w) es c h = bind-wrong (f b) k w es c h

pub bind-whole : {A B : Type 0} (r : Reader A) (k : A → Reader B) (u v : List ℕ) (fs gs : List EventData) (a : A) (x : Reached B)
    → Runs r u fs (whole a) → Runs (k a) v gs x → Runs (bind r k) (u ++ v) (fs ++ gs) x
bind-whole (Done a) k u v fs gs b x (d, e, f) j = rw (d, e, ← f) j
bind-whole (Emit e r) k u v fs gs a x (gs', d, h) j = (gs' ++ gs, rw d refl, bind-whole r k u v gs' gs a x h j)
bind-whole (Stop c) k u v fs gs a x h j = absurd h
bind-whole (Byte f) k [] v fs gs a x h j = absurd h
bind-whole (Byte f) k (b ∷ u) v fs gs a x h j = bind-whole (f b) k u v fs gs a x h j

pub bind-joins : {A B : Type 0} (r : Reader A) (k : A → Reader B) (w : List ℕ) (es : List EventData) (x : Reached B)
    → ◌followed_by◌ (Runs r) (λ a. Runs (k a)) w es x → Runs (bind r k) w es x
unfolding ◌followed_by◌
bind-joins {A} {B} r k w es x h = by x h
  where
    on : (x : Reached B) → GoesOn (Runs r) (λ a. Runs (k a)) w es x → Runs (bind r k) w es x
    on x (u, v, fs, gs, a, i, j, d, e) = rw (d, e) (bind-whole r k u v fs gs a x i j)

    by : (x : Reached B) → ◌followed_by◌ (Runs r) (λ a. Runs (k a)) w es x → Runs (bind r k) w es x
    by (whole b) h = on (whole b) h
    by cut (inl i) = bind-cut r k w es i
    by cut (inr i) = on cut i
    by (wrong c) (inl i) = bind-wrong r k w es c i
    by (wrong c) (inr i) = on (wrong c) i

-- Phrases in a row follow from phrases in a row.
pub both : {A B : Type 0} (p q : Phrase A) (k l : A → Phrase B) (w : List ℕ) (es : List EventData)
    → ((u v : List ℕ) → w ≡ u ++ v → ((fs : List EventData) (y : Reached A) → p u fs y → q u fs y)
    × ((a : A) (gs : List EventData) (x : Reached B) → k a v gs x → l a v gs x))
    → (x : Reached B) → ◌followed_by◌ p k w es x → ◌followed_by◌ q l w es x
unfolding ◌followed_by◌
both {A} {B} p q k l w es f x h = by x h
  where
    on : (x : Reached B) → GoesOn p k w es x → GoesOn q l w es x
    on x (u, v, fs, gs, a, i, j, d, e) = (u, v, fs, gs, a, (f u v d).0 fs (whole a) i, (f u v d).1 a gs x j, d, e)

    by : (x : Reached B) → ◌followed_by◌ p k w es x → ◌followed_by◌ q l w es x
    by (whole b) h = on (whole b) h
    by cut (inl i) = inl ((f w [] (sym (append-nil w))).0 es cut i)
    by cut (inr i) = inr (on cut i)
    by (wrong c) (inl i) = inl ((f w [] (sym (append-nil w))).0 es (wrong c) i)
    by (wrong c) (inr i) = inr (on (wrong c) i)

pub All-front : {X : Type 0} (P : X → Type 0) (u v : List X) → All P (u ++ v) → All P u × All P v
All-front P [] v h = (All-nil P, h)
All-front P (b ∷ u) v h = (
  All-cons P b u (All-head P b (u ++ v) h) (All-front P u v (All-tail P b (u ++ v) h)).0,
  (All-front P u v (All-tail P b (u ++ v) h)).1,
)

bytes-split : (u v : List ℕ) → AreBytes (u ++ v) → AreBytes u × AreBytes v
bytes-split u v h = All-front (λ b. b < 256) u v h

-- The law by which all readers are read.
pub reads-bind : {A B : Type 0} {r : Reader A} {p : Phrase A} {k : A → Reader B} {q : A → Phrase B}
    → Reads r p → ((a : A) → Reads (k a) (q a)) → Reads (bind r k) (p followed_by q)
reads-bind {A} {B} {r} {p} {k} {q} h j = record {
  takes = λ w es x i. bind-joins r k w es x (both p (Runs r) q (λ a. Runs (k a)) w es
      (λ u v d. (λ fs y m. h.takes u fs y m, λ a gs y m. (j a).takes v gs y m)) x i);
  says = λ w es x b i. both (Runs r) p (λ a. Runs (k a)) q w es
      (λ u v d. (
        λ fs y m. h.says u fs y (bytes-split u v (rw d at b)).0 m,
        λ a gs y m. (j a).says v gs y (bytes-split u v (rw d at b)).1 m,
      )) x (bind-splits r k w es x i);
}
