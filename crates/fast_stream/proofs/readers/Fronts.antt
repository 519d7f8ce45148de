-- One front of the bytes is answered, and one alone.
use Rattle.std.proofs.Common.{refl, ap, ◌∙◌}
use Rattle.std.specs.Prelude.{◌≡◌, ℕ, List, [], ◌∷◌, ◌++◌}
use Rattle.fast_value.specs.declared.codes.Code.{Code}
use Rattle.fast_stream.specs.meaning.Events.{EventData}
use Rattle.fast_stream.specs.meaning.Phrases.{Reached, whole, cut, wrong}
use Rattle.fast_stream.specs.device.Readers.{Reader, Done, Emit, Stop, Byte, Runs}

-- Only what is cut reaches to the end of the bytes of itself.
abbrev pub Leaves : {A : Type 0} → Reached A → List ℕ → Type 0
Leaves (whole a) v = Unit {0}
Leaves cut v = v ≡ []
Leaves (wrong c) v = Unit {0}

-- The front u of u ++ v is what the reader answers for u ++ v.
abbrev pub Front : {A : Type 0} → Reader A → List ℕ → List ℕ → List EventData → Reached A → Type 0
Front r u v es x = Runs r u es x × Leaves x v

pub front : {A : Type 0} (r : Reader A) (w : List ℕ) → (u v : List ℕ) × (es : List EventData) × (x : Reached A) × Front r u v es x × (w ≡ u ++ v)
front (Done a) w = ([], w, [], whole a, ((refl, refl, refl), tt), refl)
front {A = A} (Emit e r) w = more (front r w)
  where
    more : ((u v : List ℕ) × (es : List EventData) × (x : Reached A) × Front r u v es x × (w ≡ u ++ v))
        → (u v : List ℕ) × (es : List EventData) × (x : Reached A) × Front (Emit e r) u v es x × (w ≡ u ++ v)
    more (u, v, es, x, h, d) = (u, v, e ∷ es, x, ((es, refl, h.0), h.1), d)
front (Stop c) w = ([], w, [], wrong c, ((refl, refl, refl), tt), refl)
front (Byte f) [] = ([], [], [], cut, (refl, refl), refl)
front {A = A} (Byte f) (b ∷ w) = more (front (f b) w)
  where
    more : ((u v : List ℕ) × (es : List EventData) × (x : Reached A) × Front (f b) u v es x × (w ≡ u ++ v))
        → (u v : List ℕ) × (es : List EventData) × (x : Reached A) × Front (Byte f) u v es x × (b ∷ w ≡ u ++ v)
    more (u, v, es, x, h, d) = (b ∷ u, v, es, x, h, ap (λ r. b ∷ r) d)

-- Two fronts of the same bytes are one.
abbrev pub Same : {A : Type 0} → List ℕ → List ℕ → List ℕ → List ℕ → List EventData → List EventData → Reached A → Reached A → Type 0
Same u u' v v' es es' x x' = (u ≡ u') × (v ≡ v') × (es ≡ es') × (x ≡ x')

abbrev pub head_of : List ℕ → ℕ
head_of [] = 0
head_of (b ∷ w) = b

abbrev pub rest_of : List ℕ → List ℕ
rest_of [] = []
rest_of (b ∷ w) = w

snoc-nil : (u v : List ℕ) (b : ℕ) → u ++ b ∷ v ≡ [] → ⊥
snoc-nil [] v b d = cc d
snoc-nil (a ∷ u) v b d = cc d

at_done : {A : Type 0} (a : A) (u : List ℕ) (es : List EventData) (x : Reached A) → Runs (Done a) u es x → (u ≡ []) × (es ≡ []) × (x ≡ whole a)
at_done a u es (whole b) h = (h.0, h.1, ap whole h.2)
at_done a u es cut h = absurd h
at_done a u es (wrong c) h = absurd h

at_stop : {A : Type 0} (c : Code) (u : List ℕ) (es : List EventData) (x : Reached A) → Runs {A = A} (Stop c) u es x → (u ≡ []) × (es ≡ []) × (x ≡ wrong c)
at_stop c u es (whole b) h = absurd h
at_stop c u es cut h = absurd h
at_stop c u es (wrong d) h = (h.0, h.1, ap wrong h.2)

-- Before its last byte what is read is cut, with a front of the events.
pub earlier : {A : Type 0} (r : Reader A) (u v : List ℕ) (b : ℕ) (es : List EventData) (x : Reached A) → Runs r (u ++ b ∷ v) es x
    → (fs gs : List EventData) × Runs r u fs cut × (es ≡ fs ++ gs)
earlier (Done a) u v b es x h = absurd (snoc-nil u v b (at_done a (u ++ b ∷ v) es x h).0)
earlier (Emit e r) u v b es x (gs, d, h) = let k = earlier r u v b gs x h in (e ∷ k.0, k.1, (k.0, refl, k.2), d ∙ ap (λ q. e ∷ q) k.3)
earlier {A = A} (Stop c) u v b es x h = absurd (snoc-nil u v b (at_stop {A = A} c (u ++ b ∷ v) es x h).0)
earlier (Byte f) [] v b es x h = ([], es, refl, refl)
earlier (Byte f) (a ∷ u) v b es x h = earlier (f a) u v b es x h
