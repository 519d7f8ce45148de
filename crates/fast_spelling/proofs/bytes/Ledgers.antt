-- Entries of a ledger that are changed one at a time.
use Rattle.std.proofs.Common.{◌≡◌, ◌⊎◌, inl, inr, ℕ, suc, ◌+◌, ◌-◌, ◌<◌, ◌≤◌, List, [], ◌∷◌, ◌++◌, length, map, get_or, set, take, drop}
use Rattle.std.proofs.Common.{refl, ap, sym, subst, ◌∙◌, arith}
use Rattle.std.specs.Prelude.{zero, replicate, All, Bool, if◌then◌else◌}
use Rattle.std.proofs.lemmas.List.{map-set, map-append, set-get_or, get_or-set_other}
use Rattle.std.proofs.lemmas.Grind.{get_or-set_at}
use Rattle.std.proofs.lemmas.Bool.{cases_lt, ne_eqb}
use Rattle.fast_dict.proofs.Clearing.{cleared_more}
use Rattle.fast_dict.specs.meaning.Dictionary.{Dictionary, PreviousData, undefined}
use Rattle.fast_spelling.specs.declared.entry.Entry.{Entry}
use Rattle.fast_spelling.specs.meaning.Entries.{held_data, entry_now, entry_before, IsShort}
use Rattle.fast_spelling.specs.meaning.Ledgers.{all_now, all_before, AreKept}

-- What does not change of one entry does not change of all.
pub same_at : {B : Type 0} (f : Entry → B) (es : List Entry) (i : ℕ) (old new : Entry) → old ≡ get_or es i old → f new ≡ f old → map f (set es i new) ≡ map f es
same_at f es i old new is same = map-set f es i new ∙ ap (set (map f es) i) same ∙ sym (map-set f es i old)
    ∙ ap (map f) (ap (set es i) is ∙ set-get_or es i old)

-- One entry more is that of the other list.
pub front_more : {X : Type 0} (bs ns : List X) (i : ℕ) (x : X) → length bs ≡ length ns → i < length ns → x ≡ get_or bs i x
    → set (take i bs ++ drop i ns) i x ≡ take (i + 1) bs ++ drop (i + 1) ns
front_more [] [] i x e h is = absurd (omega (arith, h))
front_more [] (n ∷ ns) i x e h is = absurd (omega (arith, e))
front_more (b ∷ bs) [] i x e h is = absurd (omega (arith, h))
front_more (b ∷ bs) (n ∷ ns) zero x e h is = ap (λ (y : _). y ∷ ns) is
front_more (b ∷ bs) (n ∷ ns) (suc i) x e h is =
    let more : suc i + 1 ≡ suc (i + 1) = omega arith in
    rw more (ap (λ ys. b ∷ ys) (front_more bs ns i x (omega (arith, e)) (omega (arith, h)) is))

-- One entry more behind the first ones is so.
pub behind_more : {X : Type 0} (u : X) (f : ℕ) (ns : List X) (i : ℕ) → f ≤ i → i < length ns
    → set (take f ns ++ replicate (i - f) u ++ drop i ns) i u ≡ take f ns ++ replicate (i + 1 - f) u ++ drop (i + 1) ns
behind_more u f [] i h g = absurd (omega (arith, g))
behind_more {X} u zero (n ∷ ns) i h g =
    let a : i ≡ i - 0 = omega arith in
    let b : suc i ≡ i + 1 - 0 = omega arith in
    let c : suc i ≡ i + 1 = omega arith in
    subst (λ (k : ℕ). set (replicate k u ++ drop i (n ∷ ns)) i u ≡ replicate (i + 1 - 0) u ++ drop (i + 1) (n ∷ ns)) a
    (subst (λ (k : ℕ). set (replicate i u ++ drop i (n ∷ ns)) i u ≡ replicate k u ++ drop (i + 1) (n ∷ ns)) b
    (subst (λ (k : ℕ). set (replicate i u ++ drop i (n ∷ ns)) i u ≡ replicate (suc i) u ++ drop k (n ∷ ns)) c (cleared_more u (n ∷ ns) i g)))
behind_more u (suc f) (n ∷ ns) zero h g = absurd (omega (arith, h))
behind_more u (suc f) (n ∷ ns) (suc i) h g =
    let a : i - f ≡ suc i - suc f = omega arith in
    let b : i + 1 - f ≡ suc i + 1 - suc f = omega arith in
    let c : suc (i + 1) ≡ suc i + 1 = omega arith in
    subst (λ (k : ℕ). set (take (suc f) (n ∷ ns) ++ replicate k u ++ drop (suc i) (n ∷ ns)) (suc i) u ≡ take (suc f) (n ∷ ns)
    ++ replicate (suc i + 1 - suc f) u ++ drop (suc i + 1) (n ∷ ns)) a
    (subst (λ (k : ℕ). set (take (suc f) (n ∷ ns) ++ replicate (i - f) u ++ drop (suc i) (n ∷ ns)) (suc i) u ≡ take (suc f) (n ∷ ns)
    ++ replicate k u ++ drop (suc i + 1) (n ∷ ns)) b
    (subst (λ (k : ℕ). set (take (suc f) (n ∷ ns) ++ replicate (i - f) u ++ drop (suc i) (n ∷ ns)) (suc i) u ≡ take (suc f) (n ∷ ns)
    ++ replicate (i + 1 - f) u ++ drop k (n ∷ ns)) c
    (ap (λ ys. n ∷ ys) (behind_more u f ns i (omega (arith, h)) (omega (arith, g))))))

-- what a function makes of the element at a place
pub at_map : {B : Type 0} (f : Entry → B) (es : List Entry) (i : ℕ) (old : Entry) (x : B) → i < length es → old ≡ get_or es i old
    → f old ≡ get_or (map f es) i x
at_map f [] i old x h is = absurd (omega (arith, h))
at_map f (e ∷ es) zero old x h is = ap f is
at_map f (e ∷ es) (suc i) old x h is = at_map f es i old x (omega (arith, h)) is

-- An entry that was not changed in a message holds what it held before.
pub unchanged : (epoch : ℕ) (e : Entry) → (e.epoch ≡ epoch → ⊥) → entry_before epoch e ≡ entry_now e
unchanged epoch e h = ap (λ (b : Bool). if b then held_data e.old_held e.old_text.items else entry_now e) (ne_eqb e.epoch epoch h)

pub all_unchanged : (epoch : ℕ) (es : List Entry) → All (λ (e : Entry). e.epoch < epoch) es → all_before epoch es ≡ all_now es
all_unchanged epoch [] h = refl
all_unchanged epoch (e ∷ es) h =
    let here = h zero e (omega arith) in
    ap (λ p. p ∷ all_before epoch es) (unchanged epoch e (λ same. omega (arith, here, same)))
    ∙ ap (λ ps. entry_now e ∷ ps) (all_unchanged epoch es (λ k d g. h (suc k) d (omega (arith, g))))

-- The entries so far are of no message.
pub settled_more : (es : List Entry) (i : ℕ) (new : Entry) → i < length es → new.epoch ≡ 0
    → ((k : ℕ) (d : Entry) → k < i → (get_or es k d).epoch ≡ 0) → (k : ℕ) (d : Entry) → k < i + 1 → (get_or (set es i new) k d).epoch ≡ 0
settled_more es i new h is so k d g = by (cases_lt k i)
  where
    by : (k < i) ⊎ (i ≤ k) → (get_or (set es i new) k d).epoch ≡ 0
    by (inl l) = ap (λ (e : Entry). e.epoch) (get_or-set_other es i k new d (λ same. omega (arith, l, same))) ∙ so k d l
    by (inr l) = ap (λ (e : Entry). e.epoch) (get_or-set_at es i k new d (omega (arith, l, g)) h) ∙ is

-- one entry more at the end
pub all_more : {X : Type 0} (P : X → Type 0) (xs : List X) (y : X) → All P xs → P y → All P (xs ++ y ∷ [])
all_more P [] y h p zero d g = p
all_more P [] y h p (suc k) d g = absurd (omega (arith, g))
all_more P (x ∷ xs) y h p zero d g = h zero d (omega arith)
all_more P (x ∷ xs) y h p (suc k) d g = all_more P xs y (λ j e l. h (suc j) e (omega (arith, l))) p k d (omega (arith, g))

pub one_more_fresh : (es : List Entry) (n : ℕ) (e : Entry) → all_now es ≡ replicate n undefined → entry_now e ≡ undefined
    → all_now (es ++ e ∷ []) ≡ replicate (n + 1) undefined
one_more_fresh es n e all one = map-append entry_now es (e ∷ []) ∙ ap (λ (ps : Dictionary). ps ++ entry_now e ∷ []) all
    ∙ ap (λ (p : PreviousData). replicate n undefined ++ p ∷ []) one ∙ sym (replicate-last n)
  where
    replicate-last : (k : ℕ) → replicate (k + 1) undefined ≡ replicate k undefined ++ undefined ∷ []
    replicate-last zero = refl
    replicate-last (suc k) =
        let more : suc (k + 1) ≡ suc k + 1 = omega arith in
        subst (λ (j : ℕ). replicate j undefined ≡ replicate (suc k) undefined ++ undefined ∷ []) more
        (ap (λ (ps : Dictionary). undefined ∷ ps) (replicate-last k))

-- Entries of no message are of none that is later.
pub settled_kept : (m epoch : ℕ) (es : List Entry) → All (IsShort m) es → All (λ (e : Entry). e.epoch ≡ 0) es → AreKept epoch m es
settled_kept m epoch es short settled k d h = (short k d h, let none = settled k d h in omega (arith, none))

pub kept_before : (m epoch : ℕ) (es : List Entry) → AreKept epoch m es → All (λ (e : Entry). e.epoch < epoch + 1) es
kept_before m epoch es kept k d h = let past = (kept k d h).1 in omega (arith, past)

pub settled_before : (epoch : ℕ) (es : List Entry) → 1 ≤ epoch → All (λ (e : Entry). e.epoch ≡ 0) es → All (λ (e : Entry). e.epoch < epoch) es
settled_before epoch es begun settled k d h = let none = settled k d h in omega (arith, begun, none)
