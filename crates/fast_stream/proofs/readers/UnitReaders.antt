-- The readers of the units answer as their phrases.
use Rattle.std.proofs.Common.{refl, sym, ap, ◌∙◌, ap₂, arith, inl, inr, append_assoc, append-nil}
use Rattle.std.specs.Prelude.{◌≡◌, ◌⊎◌, ℕ, zero, suc, ◌<◌, ◌≤◌, true, false, nat_le, if◌then◌else◌, List, [], ◌∷◌, ◌++◌, length, Result, Ok, Err}
use Rattle.std.proofs.lemmas.List.Elements.{All-cons, All-nil, All-head, All-tail}
use Rattle.std.proofs.lemmas.Bool.Decides.{leb_tells}
use Rattle.fast_wire.specs.meaning.Entities.{HaveNoStop, IsEntity}
use Rattle.fast_value.specs.declared.codes.Code.{Code}
use Rattle.fast_stream.specs.meaning.Events.{EventData}
use Rattle.fast_stream.specs.meaning.Phrases.{Reached, whole, cut, wrong, Phrase, gives, hands, settles, ◌followed_by◌}
use Rattle.fast_stream.specs.device.Readers.{Reader, Done, bind, Ends, Runs, Reads}
use Rattle.fast_stream.specs.meaning.Streams.{AreBytes}
use Rattle.fast_stream.specs.device.GrammarReaders.{hands_reader, settles_reader, entity_reader, entity_phrase}
use Rattle.fast_stream.proofs.readers.Binds.{reads-bind}
use Rattle.fast_stream.proofs.readers.Fronts.{head_of, rest_of}

pub reads-gives : {A : Type 0} (a : A) → Reads (Done a) (gives a)
unfolding gives
reads-gives a = record { takes = λ w es x h. h; says = λ w es x b h. h }

pub reads-hands : (e : EventData) → Reads (hands_reader e) (hands e)
unfolding hands
reads-hands e = record { takes = takes; says = λ w es x b h. says w es x h }
  where
    takes : (w : List ℕ) (es : List EventData) (x : Reached (Unit {0})) → hands e w es x → Runs (hands_reader e) w es x
    takes w es (whole b) h = ([], h.1, (h.0, refl, refl))
    takes w es cut h = absurd h
    takes w es (wrong c) h = absurd h

    says : (w : List ℕ) (es : List EventData) (x : Reached (Unit {0})) → Runs (hands_reader e) w es x → hands e w es x
    says w es (whole b) (gs, d, h) = (h.0, d ∙ ap (λ r. e ∷ r) h.1)
    says w es cut (gs, d, h) = absurd h
    says w es (wrong c) (gs, d, h) = absurd h

pub reads-settles : {A : Type 0} (r : Result A Code) → Reads (settles_reader r) (settles r)
unfolding settles gives
reads-settles (Ok a) = record { takes = λ w es x h. h; says = λ w es x b h. h }
reads-settles (Err c) = record { takes = λ w es x h. h; says = λ w es x b h. h }

-- A phrase that says the same.
pub reads-like : {A : Type 0} {r : Reader A} {p q : Phrase A} → Reads r p → ((w : List ℕ) (es : List EventData) (x : Reached A) → q w es x → p w es x)
    → ((w : List ℕ) (es : List EventData) (x : Reached A) → AreBytes w → p w es x → q w es x) → Reads r q
reads-like h f g = record { takes = λ w es x i. h.takes w es x (f w es x i); says = λ w es x b i. g w es x b (h.says w es x b i) }

-- Entities.
pub entity-nil : IsEntity [] → ⊥
entity-nil ([], last, d, h, l) = grind arith
entity-nil (c ∷ front, last, d, h, l) = grind arith

pub entity-one : (b : ℕ) → 128 ≤ b → IsEntity (b ∷ [])
entity-one b h = ([], b, refl, All-nil (λ c. c < 128), h)

pub entity-cons : (b : ℕ) (w : List ℕ) → b < 128 → IsEntity w → IsEntity (b ∷ w)
entity-cons b w h (front, last, d, i, l) = (b ∷ front, last, ap (λ r. b ∷ r) d, All-cons (λ c. c < 128) b front h i, l)

pub entity-rest : (b : ℕ) (w : List ℕ) → b < 128 → IsEntity (b ∷ w) → IsEntity w
entity-rest b w h ([], last, d, i, l) = let e : b ≡ last = ap head_of d in absurd (omega arith)
entity-rest b w h (c ∷ front, last, d, i, l) = (front, last, ap rest_of d, All-tail (λ c. c < 128) c front i, l)

pub entity-stops : (b : ℕ) (w : List ℕ) → 128 ≤ b → IsEntity (b ∷ w) → w ≡ []
entity-stops b w h ([], last, d, i, l) = ap rest_of d
entity-stops b w h (c ∷ front, last, d, i, l) = let e : b ≡ c = ap head_of d in let k : c < 128 = All-head (λ c. c < 128) c front i in absurd (omega arith)

pub below-head : (b : ℕ) (w : List ℕ) → HaveNoStop (b ∷ w) → b < 128
below-head b w h = All-head (λ c. c < 128) b w h

pub below-rest : (b : ℕ) (w : List ℕ) → HaveNoStop (b ∷ w) → HaveNoStop w
below-rest b w h = All-tail (λ c. c < 128) b w h

pub below-cons : (b : ℕ) (w : List ℕ) → b < 128 → HaveNoStop w → HaveNoStop (b ∷ w)
below-cons b w h i = All-cons (λ c. c < 128) b w h i

pub below-nil : HaveNoStop []
below-nil = All-nil (λ c. c < 128)

pub empty-length : (w : List ℕ) → length w ≡ 0 → w ≡ []
empty-length [] h = refl
empty-length (b ∷ w) h = absurd (omega arith)

entity-none : (c : Code) (front : List ℕ) → Reads (entity_reader c zero front) (entity_phrase c zero front)
entity-none c front = record { takes = takes; says = λ w es x b h. says w es x h }
  where
    takes : (w : List ℕ) (es : List EventData) (x : Reached (List ℕ)) → entity_phrase c zero front w es x → Runs (entity_reader c zero front) w es x
    takes [] es (whole m) h = absurd (entity-nil h.0)
    takes (b ∷ w) es (whole m) h = absurd (omega (arith, h.1))
    takes w es cut h = absurd (omega (arith, h.1))
    takes w es (wrong d) h = (empty-length w h.1, h.3, h.2)

    says : (w : List ℕ) (es : List EventData) (x : Reached (List ℕ)) → Runs (entity_reader c zero front) w es x → entity_phrase c zero front w es x
    says w es (whole m) h = absurd h
    says w es cut h = absurd h
    says w es (wrong d) h = (rw h.0 below-nil, rw h.0 refl, h.2, h.1)

entity-step : (c : Code) (n : ℕ) (front : List ℕ) → ((b : ℕ)
    → Reads (entity_reader c n (front ++ b ∷ [])) (entity_phrase c n (front ++ b ∷ [])))
    → Reads (entity_reader c (suc n) front) (entity_phrase c (suc n) front)
entity-step c n front ih = record { takes = takes; says = says }
  where
    Test : ℕ → Type 0
    Test b = ((nat_le 128 b ≡ true) × (128 ≤ b)) ⊎ ((nat_le 128 b ≡ false) × (b < 128))

    after : ℕ → Reader (List ℕ)
    after b = if nat_le 128 b then Done (front ++ b ∷ []) else entity_reader c n (front ++ b ∷ [])

    taken : (b : ℕ) (w : List ℕ) (es : List EventData) (x : Reached (List ℕ)) → entity_phrase c (suc n) front (b ∷ w) es x → Test b → Runs (after b) w es x
    taken b w es (whole m) h (inl i) = let e : w ≡ [] = entity-stops b w i.1 h.0 in rw i.0 (e, h.3, h.2 ∙ ap (λ r. front ++ b ∷ r) e)
    taken b w es (whole m) h (inr i) = rw i.0 ((ih b).takes w es (whole m)
        (entity-rest b w i.1 h.0, omega (arith, h.1), h.2 ∙ sym (append_assoc front (b ∷ []) w), h.3))
    taken b w es cut h (inl i) = absurd (omega (arith, i.1, below-head b w h.0))
    taken b w es cut h (inr i) = rw i.0 ((ih b).takes w es cut (below-rest b w h.0, omega (arith, h.1), h.2))
    taken b w es (wrong d) h (inl i) = absurd (omega (arith, i.1, below-head b w h.0))
    taken b w es (wrong d) h (inr i) = rw i.0 ((ih b).takes w es (wrong d) (below-rest b w h.0, omega (arith, h.1), h.2, h.3))

    takes : (w : List ℕ) (es : List EventData) (x : Reached (List ℕ)) → entity_phrase c (suc n) front w es x → Runs (entity_reader c (suc n) front) w es x
    takes [] es (whole m) h = absurd (entity-nil h.0)
    takes [] es cut h = h.2
    takes [] es (wrong d) h = absurd (omega (arith, h.1))
    takes (b ∷ w) es x h = taken b w es x h (leb_tells 128 b)

    stopped : (b : ℕ) (w : List ℕ) (es : List EventData) (x : Reached (List ℕ)) → 128 ≤ b → Ends (front ++ b ∷ []) w es x
        → entity_phrase c (suc n) front (b ∷ w) es x
    stopped b w es (whole m) l h = rw h.0 (entity-one b l, omega arith, h.2, h.1)
    stopped b w es cut l h = absurd h
    stopped b w es (wrong d) l h = absurd h

    longer : (b : ℕ) (w : List ℕ) (es : List EventData) (x : Reached (List ℕ)) → b < 128 → entity_phrase c n (front ++ b ∷ []) w es x
        → entity_phrase c (suc n) front (b ∷ w) es x
    longer b w es (whole m) l h = (entity-cons b w l h.0, omega (arith, h.1), h.2 ∙ append_assoc front (b ∷ []) w, h.3)
    longer b w es cut l h = (below-cons b w l h.0, omega (arith, h.1), h.2)
    longer b w es (wrong d) l h = (below-cons b w l h.0, omega (arith, h.1), h.2, h.3)

    said : (b : ℕ) (w : List ℕ) (es : List EventData) (x : Reached (List ℕ)) → AreBytes w → Test b → Runs (after b) w es x
        → entity_phrase c (suc n) front (b ∷ w) es x
    said b w es x bs (inl i) h = stopped b w es x i.1 (rw i.0 at h)
    said b w es x bs (inr i) h = longer b w es x i.1 ((ih b).says w es x bs (rw i.0 at h))

    says : (w : List ℕ) (es : List EventData) (x : Reached (List ℕ)) → AreBytes w → Runs (entity_reader c (suc n) front) w es x
        → entity_phrase c (suc n) front w es x
    says [] es (whole m) bs h = absurd h
    says [] es cut bs h = (below-nil, omega arith, h)
    says [] es (wrong d) bs h = absurd h
    says (b ∷ w) es x bs h = said b w es x (All-tail (λ c. c < 256) b w bs) (leb_tells 128 b) h

pub reads-entity : (c : Code) (n : ℕ) (front : List ℕ) → Reads (entity_reader c n front) (entity_phrase c n front)
reads-entity c zero front = entity-none c front
reads-entity c (suc n) front = entity-step c n front (λ b. reads-entity c n (front ++ b ∷ []))

-- What a settled result is.
pub settled-whole : {A : Type 0} (r : Result A Code) (w : List ℕ) (es : List EventData) (a : A) → settles r w es (whole a) → (w ≡ []) × (es ≡ []) × (r ≡ Ok a)
unfolding settles gives
settled-whole (Ok b) w es a h = (h.0, h.1, ap Ok (sym h.2))
settled-whole (Err c) w es a h = absurd h

pub settled-wrong : {A : Type 0} (r : Result A Code) (w : List ℕ) (es : List EventData) (c : Code) → settles r w es (wrong c)
    → (w ≡ []) × (es ≡ []) × (r ≡ Err c)
unfolding settles gives
settled-wrong (Ok b) w es c h = absurd h
settled-wrong (Err d) w es c h = (h.0, h.1, ap Err (sym h.2))

pub settled-cut : {A : Type 0} (r : Result A Code) (w : List ℕ) (es : List EventData) → settles r w es cut → ⊥
unfolding settles gives
settled-cut (Ok b) w es h = absurd h
settled-cut (Err d) w es h = absurd h

-- An entity that is judged at its end.
abbrev pub closed : {A : Type 0} → Code → ℕ → (List ℕ → Result A Code) → List ℕ → List EventData → Reached A → Type 0
closed c n judge w es (whole a) = IsEntity w × (length w ≤ n) × (judge w ≡ Ok a) × (es ≡ [])
closed c n judge w es cut = HaveNoStop w × (length w < n) × (es ≡ [])
closed c n judge w es (wrong d) = (HaveNoStop w × (length w ≡ n) × (d ≡ c) ⊎ IsEntity w × (length w ≤ n) × (judge w ≡ Err d)) × (es ≡ [])

module _ {A : Type 0} (c : Code) (n : ℕ) (judge : List ℕ → Result A Code) where
  split : List ℕ → List EventData → Reached A → Type 0
  split w es x = ◌followed_by◌ (entity_phrase c n []) (λ m. settles (judge m)) w es x

  close : (w : List ℕ) (es : List EventData) (x : Reached A) → closed c n judge w es x → split w es x
  unfolding ◌followed_by◌ split settles gives
  close w es (whole a) h = (w, [], [], [], w, (h.0, h.1, refl, refl), rw h.2 (refl, refl, refl), sym (append-nil w), h.3)
  close w es cut h = inl h
  close w es (wrong d) (inl h, e) = inl (h.0, h.1, h.2, e)
  close w es (wrong d) (inr h, e) = inr (w, [], [], [], w, (h.0, h.1, refl, refl), rw h.2 (refl, refl, refl), sym (append-nil w), e)

  unclose : (w : List ℕ) (es : List EventData) (x : Reached A) → split w es x → closed c n judge w es x
  unfolding ◌followed_by◌ split
  unclose w es (whole a) (u, v, fs, gs, m, h, j, d, e) =
      let k = settled-whole (judge m) v gs a j in
      let f : w ≡ u = d ∙ ap (λ r. u ++ r) k.0 ∙ append-nil u in
      rw f (h.0, h.1, ap judge (sym h.2) ∙ k.2, e ∙ ap₂ (λ r s. r ++ s) h.3 k.1)
  unclose w es cut (inl h) = h
  unclose w es cut (inr (u, v, fs, gs, m, h, j, d, e)) = absurd (settled-cut (judge m) v gs j)
  unclose w es (wrong c') (inl h) = (inl (h.0, h.1, h.2), h.3)
  unclose w es (wrong c') (inr (u, v, fs, gs, m, h, j, d, e)) =
      let k = settled-wrong (judge m) v gs c' j in
      let f : w ≡ u = d ∙ ap (λ r. u ++ r) k.0 ∙ append-nil u in
      rw f (inr (h.0, h.1, ap judge (sym h.2) ∙ k.2), e ∙ ap₂ (λ r s. r ++ s) h.3 k.1)

  pub reads-closed : Reads (bind (entity_reader c n []) (λ w. settles_reader (judge w))) (closed c n judge)
  unfolding split
  reads-closed = reads-like (reads-bind (reads-entity c n []) (λ w. reads-settles (judge w))) close (λ w es x b h. unclose w es x h)
