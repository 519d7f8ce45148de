-- Terms in a row, by the events that they hand over: whole, or left before their end.
use Rattle.std.proofs.Common.{◌≡◌, ◌⊎◌, inl, inr, ℕ, List, [], ◌∷◌, ◌++◌, refl, ap, ◌∙◌, sym, subst, append_assoc}
use Rattle.std.specs.Prelude.{Bool, Result, Ok, Err}
use Rattle.fast_value.specs.declared.codes.Code.{Code}
use Rattle.fast_stream.specs.meaning.Events.{EventData}
use Rattle.fast_stream.specs.meaning.Phrases.{Reached, whole, cut, wrong, Phrase, gives, hands, settles, ◌followed_by◌}
use Rattle.fast_stream.specs.meaning.Units
use Rattle.fast_stream.specs.meaning.Grammar.{Grammar, give, fault, hand, integer, ascii_text, raw, presence_map, narrow, ◌>>=◌, of_result, phrase_of}
use Rattle.fast_stream.proofs.terms.Quiet.{Silent, silent-gives, silent-settles, silent-integer, silent-map, silent-raw, silent-ascii, IsQuiet}
use Rattle.fast_spelling.proofs.again.Resent.{Says}

-- Some bytes are the phrase up to its end, or to where it is left: more bytes must come, or a fault is decided.
abbrev pub Ended : {A : Type 0} → Phrase A → List EventData → A → Type 0
Ended p es a = (w : List ℕ) × p w es (whole a)

abbrev pub Broken : {A : Type 0} → Phrase A → List EventData → Type 0
Broken p es = (w : List ℕ) × (p w es cut ⊎ ((c : Code) × p w es (wrong c)))

-- the same of a term
abbrev pub Whole : {A : Type 0} → Bool → Grammar A → List EventData → A → Type 0
Whole s g es a = Ended (phrase_of s g) es a

abbrev pub Left : {A : Type 0} → Bool → Grammar A → List EventData → Type 0
Left s g es = Broken (phrase_of s g) es

-- Two in a row are whole.
abbrev pub WholeTurn : {A B : Type 0} → Bool → Phrase A → (A → Grammar B) → List EventData → B → Type 0
WholeTurn {A} s p k es b = (fs gs : List EventData) × (a : A) × Ended p fs a × Whole s (k a) gs b × (es ≡ fs ++ gs)

-- Two in a row are left, in the first one or in the second.
abbrev pub LeftTurn : {A B : Type 0} → Bool → Phrase A → (A → Grammar B) → List EventData → Type 0
LeftTurn {A} s p k es = Broken p es ⊎ ((fs gs : List EventData) × (a : A) × Ended p fs a × Left s (k a) gs × (es ≡ fs ++ gs))

-- behind a unit
unit_whole : {X A B : Type 0} (s : Bool) (p : Phrase X) (q : X → Grammar A) (m : X → Grammar B) (k : A → Grammar B) (b : B)
    → ((x : X) (gs : List EventData) → Whole s (m x) gs b → WholeTurn s (phrase_of s (q x)) k gs b)
    → (es : List EventData) → Ended (p followed_by (λ x. phrase_of s (m x))) es b → WholeTurn s (p followed_by (λ x. phrase_of s (q x))) k es b
unfolding ◌followed_by◌
unit_whole s p q m k b f es (w, (u, v, fs, gs, x, i, j, d, e)) =
    let (fs', gs', a, (u', h), n, r) = f x gs (v, j) in
    (fs ++ fs', gs', a, (u ++ u', (u, u', fs, fs', x, i, h, refl, refl)), n, e ∙ ap (λ (z : List EventData). fs ++ z) r ∙ sym (append_assoc fs fs' gs'))

unit_left : {X A B : Type 0} (s : Bool) (p : Phrase X) (q : X → Grammar A) (m : X → Grammar B) (k : A → Grammar B)
    → ((x : X) (gs : List EventData) → Left s (m x) gs → LeftTurn s (phrase_of s (q x)) k gs)
    → (es : List EventData) → Broken (p followed_by (λ x. phrase_of s (m x))) es → LeftTurn s (p followed_by (λ x. phrase_of s (q x))) k es
unfolding ◌followed_by◌
unit_left {X} {A} s p q m k f es h = by h
  where
    on : (u : List ℕ) (fs gs : List EventData) (x : X) → p u fs (whole x) → es ≡ fs ++ gs → LeftTurn s (phrase_of s (q x)) k gs
        → LeftTurn s (p followed_by (λ x. phrase_of s (q x))) k es
    on u fs gs x i e (inl (v, inl j)) = inl (u ++ v, inl (inr (u, v, fs, gs, x, i, j, refl, e)))
    on u fs gs x i e (inl (v, inr (c, j))) = inl (u ++ v, inr (c, inr (u, v, fs, gs, x, i, j, refl, e)))
    on u fs gs x i e (inr (fs', gs', a, (u', h), n, r)) =
        inr (fs ++ fs', gs', a, (u ++ u', (u, u', fs, fs', x, i, h, refl, refl)), n, e ∙ ap (λ (z : List EventData). fs ++ z) r ∙ sym (append_assoc fs fs' gs'))

    by : Broken (p followed_by (λ x. phrase_of s (m x))) es → LeftTurn s (p followed_by (λ x. phrase_of s (q x))) k es
    by (w, inl (inl i)) = inl (w, inl (inl i))
    by (w, inl (inr (u, v, fs, gs, x, i, j, d, e))) = on u fs gs x i e (f x gs (v, inl j))
    by (w, inr (c, inl i)) = inl (w, inr (c, inl i))
    by (w, inr (c, inr (u, v, fs, gs, x, i, j, d, e))) = on u fs gs x i e (f x gs (v, inr (c, j)))

pub whole_turn : {A B : Type 0} (s : Bool) (g : Grammar A) (k : A → Grammar B) (es : List EventData) (b : B) → Whole s (g >>= k) es b
    → WholeTurn s (phrase_of s g) k es b
unfolding gives settles
whole_turn s (give a) k es b h = ([], es, a, ([], (refl, refl, refl)), h, refl)
whole_turn s (fault c) k es b (w, h) = absurd h
whole_turn s (hand e g) k es b h = unit_whole s (hands e) (λ _. g) (λ _. g >>= k) k b (λ _ gs. whole_turn s g k gs b) es h
whole_turn s (integer range nullable c g) k es b h = unit_whole s (Units.integer s range nullable c) g (λ x. g x >>= k) k b
    (λ x gs. whole_turn s (g x) k gs b) es h
whole_turn s (ascii_text nullable room g) k es b h = unit_whole s (Units.ascii_text nullable room) g (λ x. g x >>= k) k b
    (λ x gs. whole_turn s (g x) k gs b) es h
whole_turn s (raw n g) k es b h = unit_whole s (Units.raw n) g (λ x. g x >>= k) k b (λ x gs. whole_turn s (g x) k gs b) es h
whole_turn s (presence_map g) k es b h = unit_whole s (Units.presence_map s) g (λ x. g x >>= k) k b (λ x gs. whole_turn s (g x) k gs b) es h
whole_turn s (narrow n m g) k es b h = unit_whole s (settles (Units.width_checked s n m)) (λ _. g) (λ _. g >>= k) k b (λ _ gs. whole_turn s g k gs b) es h

pub left_turn : {A B : Type 0} (s : Bool) (g : Grammar A) (k : A → Grammar B) (es : List EventData) → Left s (g >>= k) es → LeftTurn s (phrase_of s g) k es
unfolding gives settles
left_turn s (give a) k es h = inr ([], es, a, ([], (refl, refl, refl)), h, refl)
left_turn s (fault c) k es (w, inl h) = absurd h
left_turn s (fault c) k es (w, inr (d, h)) = inl (w, inr (d, h))
left_turn s (hand e g) k es h = unit_left s (hands e) (λ _. g) (λ _. g >>= k) k (λ _ gs. left_turn s g k gs) es h
left_turn s (integer range nullable c g) k es h = unit_left s (Units.integer s range nullable c) g (λ x. g x >>= k) k (λ x gs. left_turn s (g x) k gs) es h
left_turn s (ascii_text nullable room g) k es h = unit_left s (Units.ascii_text nullable room) g (λ x. g x >>= k) k (λ x gs. left_turn s (g x) k gs) es h
left_turn s (raw n g) k es h = unit_left s (Units.raw n) g (λ x. g x >>= k) k (λ x gs. left_turn s (g x) k gs) es h
left_turn s (presence_map g) k es h = unit_left s (Units.presence_map s) g (λ x. g x >>= k) k (λ x gs. left_turn s (g x) k gs) es h
left_turn s (narrow n m g) k es h = unit_left s (settles (Units.width_checked s n m)) (λ _. g) (λ _. g >>= k) k (λ _ gs. left_turn s g k gs) es h

-- results
pub whole_give : {A : Type 0} (s : Bool) (a : A) (es : List EventData) (b : A) → Whole s (give a) es b → (es ≡ []) × (b ≡ a)
unfolding gives
whole_give s a es b (w, h) = (h.1, h.2)

pub left_give : {A : Type 0} (s : Bool) (a : A) (es : List EventData) → Left s (give a) es → ⊥
unfolding gives
left_give s a es (w, inl h) = h
left_give s a es (w, inr (c, h)) = h

pub whole_result : {A B : Type 0} (s : Bool) (r : Result A Code) (k : A → Grammar B) (es : List EventData) (b : B)
    → Whole s (of_result r >>= k) es b → (a : A) × (r ≡ Ok a) × Whole s (k a) es b
unfolding settles
whole_result s (Ok a) k es b h = (a, refl, h)
whole_result s (Err c) k es b (w, h) = absurd h

pub left_result : {A B : Type 0} (s : Bool) (r : Result A Code) (k : A → Grammar B) (es : List EventData) → Left s (of_result r >>= k) es
    → (es ≡ []) ⊎ ((a : A) × (r ≡ Ok a) × Left s (k a) es)
unfolding settles
left_result s (Ok a) k es h = inr (a, refl, h)
left_result s (Err c) k es (w, inl h) = absurd h
left_result s (Err c) k es (w, inr (d, h)) = inl h.1

-- events
pub whole_hand : {A : Type 0} (s : Bool) (e : EventData) (g : Grammar A) (es : List EventData) (a : A) → Whole s (hand e g) es a
    → (gs : List EventData) × (es ≡ e ∷ gs) × Whole s g gs a
unfolding ◌followed_by◌ hands
whole_hand s e g es a (w, (u, v, fs, gs, x, i, j, d, q)) = (gs, q ∙ ap (λ (z : List EventData). z ++ gs) i.1, (v, j))

pub left_hand : {A : Type 0} (s : Bool) (e : EventData) (g : Grammar A) (es : List EventData) → Left s (hand e g) es
    → (gs : List EventData) × (es ≡ e ∷ gs) × Left s g gs
unfolding ◌followed_by◌ hands
left_hand s e g es (w, inl (inl i)) = absurd i
left_hand s e g es (w, inl (inr (u, v, fs, gs, x, i, j, d, q))) = (gs, q ∙ ap (λ (z : List EventData). z ++ gs) i.1, (v, inl j))
left_hand s e g es (w, inr (c, inl i)) = absurd i
left_hand s e g es (w, inr (c, inr (u, v, fs, gs, x, i, j, d, q))) = (gs, q ∙ ap (λ (z : List EventData). z ++ gs) i.1, (v, inr (c, j)))

-- Terms without events hand none over.
silent_turn : {X A : Type 0} (p : Phrase X) (q : X → Phrase A) → Silent p → ((x : X) → Silent (q x)) → Silent (p followed_by q)
unfolding ◌followed_by◌
silent_turn {X} {A} p q h j = record { silent = by }
  where
    on : (es fs gs : List EventData) → es ≡ fs ++ gs → fs ≡ [] → gs ≡ [] → es ≡ []
    on es fs gs e f g = e ∙ ap (λ (z : List EventData). z ++ gs) f ∙ g

    by : (w : List ℕ) (es : List EventData) (r : Reached A) → ◌followed_by◌ p q w es r → es ≡ []
    by w es (whole a) (u, v, fs, gs, x, i, k, d, e) = on es fs gs e (h.silent u fs (whole x) i) ((j x).silent v gs (whole a) k)
    by w es cut (inl i) = h.silent w es cut i
    by w es cut (inr (u, v, fs, gs, x, i, k, d, e)) = on es fs gs e (h.silent u fs (whole x) i) ((j x).silent v gs cut k)
    by w es (wrong c) (inl i) = h.silent w es (wrong c) i
    by w es (wrong c) (inr (u, v, fs, gs, x, i, k, d, e)) = on es fs gs e (h.silent u fs (whole x) i) ((j x).silent v gs (wrong c) k)

pub silent_term : {A : Type 0} (s : Bool) (g : Grammar A) → IsQuiet g → Silent (phrase_of s g)
silent_term s (give a) h = silent-gives a
silent_term {A} s (fault c) h = silent-settles {A = A} (Err c)
silent_term s (hand e g) h = absurd h
silent_term s (integer range nullable c g) h = silent_turn (Units.integer s range nullable c) (λ x. phrase_of s (g x))
    (silent-integer s range nullable c) (λ x. silent_term s (g x) (h x))
silent_term s (ascii_text nullable room g) h = silent_turn (Units.ascii_text nullable room) (λ x. phrase_of s (g x))
    (silent-ascii nullable room) (λ x. silent_term s (g x) (h x))
silent_term s (raw n g) h = silent_turn (Units.raw n) (λ x. phrase_of s (g x)) (silent-raw n) (λ x. silent_term s (g x) (h x))
silent_term s (presence_map g) h = silent_turn (Units.presence_map s) (λ x. phrase_of s (g x)) (silent-map s) (λ x. silent_term s (g x) (h x))
silent_term s (narrow n m g) h = silent_turn (settles (Units.width_checked s n m)) (λ _. phrase_of s g)
    (silent-settles (Units.width_checked s n m)) (λ _. silent_term s g h)

none_in_front : (es fs gs : List EventData) → es ≡ fs ++ gs → fs ≡ [] → gs ≡ es
none_in_front es fs gs e f = sym (e ∙ ap (λ (z : List EventData). z ++ gs) f)

-- Behind a term without events all events are the second one's.
pub whole_quiet : {A B : Type 0} (s : Bool) (g : Grammar A) (k : A → Grammar B) (es : List EventData) (b : B) → IsQuiet g
    → Whole s (g >>= k) es b → (w : List ℕ) × (a : A) × Says s g w a × Whole s (k a) es b
whole_quiet s g k es b quiet h =
    let (fs, gs, a, (u, i), j, e) = whole_turn s g k es b h in
    (u, a, (fs, i), subst (λ (z : List EventData). Whole s (k a) z b) (none_in_front es fs gs e ((silent_term s g quiet).silent u fs (whole a) i)) j)

pub left_quiet : {A B : Type 0} (s : Bool) (g : Grammar A) (k : A → Grammar B) (es : List EventData) → IsQuiet g → Left s (g >>= k) es
    → (es ≡ []) ⊎ ((w : List ℕ) × (a : A) × Says s g w a × Left s (k a) es)
left_quiet {A = A} s g k es quiet h = by (left_turn s g k es h)
  where
    by : LeftTurn s (phrase_of s g) k es → (es ≡ []) ⊎ ((w : List ℕ) × (a : A) × Says s g w a × Left s (k a) es)
    by (inl (w, inl i)) = inl ((silent_term s g quiet).silent w es cut i)
    by (inl (w, inr (c, i))) = inl ((silent_term s g quiet).silent w es (wrong c) i)
    by (inr (fs, gs, a, (u, i), j, e)) = inr (
      u,
      a,
      (fs, i),
      subst (λ (z : List EventData). Left s (k a) z) (none_in_front es fs gs e ((silent_term s g quiet).silent u fs (whole a) i)) j,
    )
