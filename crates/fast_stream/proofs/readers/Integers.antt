-- The readers of integers and of maps answer as their phrases.
use Rattle.std.proofs.Common.{refl, sym, ap, ◌∙◌, subst, arith, inl, inr, T}
use Rattle.std.specs.Prelude.{◌≡◌, ◌⊎◌, ℕ, zero, suc, ◌≤◌, ◌≤ℤ◌, ◌%◌, Bool, true, false, ◌&&◌, IsTrue, int_le, if◌then◌else◌, ℤ, pos}
use Rattle.std.specs.Prelude.{negsuc, List, [], ◌∷◌, ◌++◌, length, Option, Some, None, IfSome, Result, Ok, Err, Decides}
use Rattle.std.proofs.lemmas.Bool.{cases_Bool}
use Rattle.std.proofs.lemmas.Bool.Decides.{Decides-int_eq, Decides-eqb, Decides-and, not_from_Decides}
use Rattle.fast_wire.specs.meaning.Entities.{IsEntity, IsOverlong}
use Rattle.fast_wire.specs.meaning.Integers.{Range, IsWithin, value, Means}
use Rattle.fast_wire.specs.meaning.Maps.{map_limit, HasSpareByte}
use Rattle.fast_value.specs.declared.codes.Code.{Code}
use Rattle.fast_value.specs.declared.codes.Code.TheVariants.{D2, L3, R6, R7}
use Rattle.fast_stream.specs.meaning.Events.{EventData}
use Rattle.fast_stream.specs.meaning.Phrases.{Reached, whole, cut, wrong}
use Rattle.fast_stream.specs.meaning.Units.{integer, presence_map, WrongInt}
use Rattle.fast_stream.specs.device.Readers.{Reads}
use Rattle.fast_stream.specs.device.GrammarReaders.{overlong, lowered, within, fitting, judged, integer_reader, spare, judged_map, presence_map_reader}
use Rattle.fast_stream.proofs.readers.UnitReaders.{closed, reads-closed, reads-like}
use Rattle.fast_stream.proofs.readers.Fronts.{rest_of}

T-true : (b : Bool) → T b → b ≡ true
T-true true t = refl
T-true false t = absurd t

true-T : (b : Bool) → b ≡ true → T b
true-T true t = tt
true-T false t = absurd (grind arith)

decides-le : (x y : ℤ) → Decides (int_le x y) (x ≤ℤ y)
decides-le x y = (λ e. record { le = true-T (int_le x y) e }, λ h. T-true (int_le x y) h.le)

pub decides-within : (range : Range) (x : ℤ) → Decides (within range x) (IsWithin range x)
decides-within range x = Decides-and (int_le range.low x) (int_le x range.high) (decides-le range.low x) (decides-le x range.high)

decides-overlong : (v : List ℕ → ℤ) (w : List ℕ) → Decides (overlong v w) (IsOverlong v w)
decides-overlong v [] = (λ e. absurd (grind arith), λ (a, b, r, d, e). absurd (grind arith))
decides-overlong v (x ∷ []) = (λ e. absurd (grind arith), λ (a, b, r, d, e). let k : [] ≡ b ∷ r = ap rest_of d in absurd (cc k))
decides-overlong v (x ∷ y ∷ w) = (
  λ e. (x, y, w, refl, (Decides-int_eq (v (y ∷ w)) (v (x ∷ y ∷ w))).0 e),
  λ (a, b, r, d, e). (Decides-int_eq (v (y ∷ w)) (v (x ∷ y ∷ w))).1 (ap (λ q. v q) (ap rest_of d) ∙ e),
)

decides-strict : (strict : Bool) (t : Bool) (P : Type 0) → Decides t P → Decides (strict && t) (IsTrue strict × P)
decides-strict strict t P d = Decides-and strict t (λ e. e, λ e. e) d

means-lowered : (nullable : Bool) (n : ℤ) → Means nullable n (lowered nullable n)
means-lowered false n = refl
means-lowered true (pos zero) = refl
means-lowered true (pos (suc n)) = refl
means-lowered true (negsuc n) = refl

lowered-means : (nullable : Bool) (n : ℤ) (x : Option ℤ) → Means nullable n x → lowered nullable n ≡ x
lowered-means false n None h = absurd h
lowered-means false n (Some x) h = ap Some h
lowered-means true n None h = rw h refl
lowered-means true n (Some (pos k)) h = rw h refl
lowered-means true n (Some (negsuc k)) h = rw h refl

module _ (strict : Bool) (range : Range) (nullable : Bool) (outside : Code) (w : List ℕ) where
  abbrev Short : Type 0
  Short = IsTrue strict → ¬ (IsOverlong (value range) w)

  fit-by : (x : ℤ) (o : Option ℤ) (b : Bool) → within range x ≡ b → (if b then Ok (Some x) else Err outside) ≡ Ok o → (Some x ≡ o) × IfSome o (IsWithin range)
  fit-by x o true i e = let k : Some x ≡ o = cc e in (k, subst (λ r. IfSome r (IsWithin range)) k ((decides-within range x).0 i))
  fit-by x o false i e = absurd (cc e)

  fit-ok : (x o : Option ℤ) → fitting range outside x ≡ Ok o → (x ≡ o) × IfSome o (IsWithin range)
  fit-ok None o e = let k : None ≡ o = cc e in (k, subst (λ r. IfSome r (IsWithin range)) k tt)
  fit-ok (Some x) o e = fit-by x o (within range x) refl e

  unfit-by : (x : ℤ) (c : Code) (b : Bool) → within range x ≡ b → (if b then Ok (Some x) else Err outside) ≡ Err c → ¬ (IsWithin range x) × (c ≡ outside)
  unfit-by x c true i e = absurd (cc e)
  unfit-by x c false i e = (not_from_Decides (within range x) (decides-within range x) i, cc e)

  unfit : (x : Option ℤ) (c : Code) → fitting range outside x ≡ Err c → (y : ℤ) × (x ≡ Some y) × ¬ (IsWithin range y) × (c ≡ outside)
  unfit None c e = absurd (cc e)
  unfit (Some x) c e = let k = unfit-by x c (within range x) refl e in (x, refl, k.0, k.1)

  tests : Decides (strict && overlong (value range) w) (IsTrue strict × IsOverlong (value range) w)
  tests = decides-strict strict (overlong (value range) w) (IsOverlong (value range) w) (decides-overlong (value range) w)

  short-by : (strict && overlong (value range) w) ≡ false → Short
  short-by i t o = not_from_Decides (strict && overlong (value range) w) tests i (t, o)

  by-short : Short → (strict && overlong (value range) w) ≡ false
  by-short s = by (cases_Bool (strict && overlong (value range) w))
    where
      by : ((strict && overlong (value range) w) ≡ true) ⊎ ((strict && overlong (value range) w) ≡ false) → (strict && overlong (value range) w) ≡ false
      by (inl i) = let k = tests.0 i in absurd (s k.0 k.1)
      by (inr i) = i

  sent : Option ℤ
  sent = lowered nullable (value range w)

  meant : (o : Option ℤ) → sent ≡ o → Means nullable (value range w) o
  unfolding sent
  meant o e = subst (λ r. Means nullable (value range w) r) e (means-lowered nullable (value range w))

  judged-ok-by : (o : Option ℤ) (b : Bool) → (strict && overlong (value range) w) ≡ b → (if b then Err R6 else fitting range outside sent) ≡ Ok o
      → Short × Means nullable (value range w) o × IfSome o (IsWithin range)
  judged-ok-by o true i e = absurd (cc e)
  judged-ok-by o false i e = let k = fit-ok sent o e in (short-by i, meant o k.0, k.1)

  pub judged-ok : (o : Option ℤ) → judged strict range nullable outside w ≡ Ok o → Short × Means nullable (value range w) o × IfSome o (IsWithin range)
  unfolding judged sent
  judged-ok o e = judged-ok-by o (strict && overlong (value range) w) refl e

  Wrong : Code → Type 0
  Wrong c = IsTrue strict × IsOverlong (value range) w × (c ≡ R6)
      ⊎ ((y : ℤ) × Short × Means nullable (value range w) (Some y) × ¬ (IsWithin range y) × (c ≡ outside))

  judged-err-by : (c : Code) (b : Bool) → (strict && overlong (value range) w) ≡ b → (if b then Err R6 else fitting range outside sent) ≡ Err c → Wrong c
  unfolding Wrong
  judged-err-by c true i e = let k = tests.0 i in inl (k.0, k.1, cc e)
  judged-err-by c false i e = let k = unfit sent c e in inr (k.0, short-by i, meant (Some k.0) k.1, k.2, k.3)

  judged-err : (c : Code) → judged strict range nullable outside w ≡ Err c → Wrong c
  unfolding judged sent
  judged-err c e = judged-err-by c (strict && overlong (value range) w) refl e

  fits-ok : (x : Option ℤ) → IfSome x (IsWithin range) → fitting range outside x ≡ Ok x
  fits-ok None h = refl
  fits-ok (Some x) h = rw ((decides-within range x).1 h) refl

  no-true : (b : Bool) → (b ≡ true → ⊥) → b ≡ false
  no-true true h = absurd (h refl)
  no-true false h = refl

  pub ok-judged : (o : Option ℤ) → Short → Means nullable (value range w) o → IfSome o (IsWithin range) → judged strict range nullable outside w ≡ Ok o
  unfolding judged
  ok-judged o s m f = rw (by-short s, lowered-means nullable (value range w) o m) (fits-ok o f)

  pub overlong-judged : IsTrue strict → IsOverlong (value range) w → judged strict range nullable outside w ≡ Err R6
  unfolding judged
  overlong-judged s o = rw (tests.1 (s, o)) refl

  pub outside-judged : (x : ℤ) → Short → Means nullable (value range w) (Some x) → ¬ (IsWithin range x) → judged strict range nullable outside w ≡ Err outside
  unfolding judged
  outside-judged x s m f = rw (
    by-short s,
    lowered-means nullable (value range w) (Some x) m,
    no-true (within range x) (λ e. f ((decides-within range x).0 e)),
  ) refl

module _ (strict : Bool) (range : Range) (nullable : Bool) (outside : Code) where
  abbrev judge : List ℕ → Result (Option ℤ) Code
  judge w = judged strict range nullable outside w

  integer-closes : (w : List ℕ) (es : List EventData) (x : Reached (Option ℤ)) → integer strict range nullable outside w es x → closed D2 10 judge w es x
  integer-closes w es (whole o) (h, e) = (h.form.entity, h.form.short, ok-judged strict range nullable outside w o h.form.shortest h.meaning h.fits, e)
  integer-closes w es cut h = h
  integer-closes w es (wrong c) (inl h, e) = (inl h, e)
  integer-closes w es (wrong c) (inr (inl h), e) = (inr (h.0, h.1, overlong-judged strict range nullable outside w h.2 h.3 ∙ ap Err (sym h.4)), e)
  integer-closes w es (wrong c) (inr (inr h), e) = (
    inr (
      h.1.entity,
      h.1.short,
      outside-judged strict range nullable outside w h.0 h.1.shortest h.2 h.3 ∙ ap Err (sym h.4),
    ),
    e,
  )

  wrong-int : (w : List ℕ) (c : Code) → IsEntity w → length w ≤ 10 → Wrong strict range nullable outside w c → WrongInt strict range nullable outside w c
  unfolding Wrong
  wrong-int w c i l (inl h) = inr (inl (i, l, h.0, h.1, h.2))
  wrong-int w c i l (inr h) = inr (inr (h.0, record { entity = i; short = l; shortest = h.1 }, h.2, h.3, h.4))

  closes-integer : (w : List ℕ) (es : List EventData) (x : Reached (Option ℤ)) → closed D2 10 judge w es x → integer strict range nullable outside w es x
  closes-integer w es (whole o) h =
      let k = judged-ok strict range nullable outside w o h.2 in
      (record { form = record { entity = h.0; short = h.1; shortest = k.0 }; meaning = k.1; fits = k.2 }, h.3)
  closes-integer w es cut h = h
  closes-integer w es (wrong c) (inl h, e) = (inl h, e)
  closes-integer w es (wrong c) (inr h, e) = (wrong-int w c h.0 h.1 (judged-err strict range nullable outside w c h.2), e)

  pub reads-integer : Reads (integer_reader strict range nullable outside) (integer strict range nullable outside)
  unfolding integer_reader
  reads-integer = reads-like (reads-closed D2 10 judge) integer-closes (λ w es x b h. closes-integer w es x h)

-- maps
spare-from : (front : List ℕ) (a b : ℕ) → b % 128 ≡ 0 → spare (front ++ a ∷ b ∷ []) ≡ true
spare-from [] a b h = (Decides-eqb (b % 128) 0).1 h
spare-from (x ∷ []) a b h = (Decides-eqb (b % 128) 0).1 h
spare-from (x ∷ y ∷ front) a b h = longer front (spare-from (y ∷ front) a b h)
  where
    longer : (front : List ℕ) → spare (y ∷ front ++ a ∷ b ∷ []) ≡ true → spare (x ∷ y ∷ front ++ a ∷ b ∷ []) ≡ true
    longer [] h = h
    longer (z ∷ front) h = h

from-spare : (w : List ℕ) → spare w ≡ true → HasSpareByte w
from-spare [] h = absurd (grind arith)
from-spare (a ∷ []) h = absurd (grind arith)
from-spare (a ∷ b ∷ []) h = ([], a, b, refl, (Decides-eqb (b % 128) 0).0 h)
from-spare (a ∷ b ∷ c ∷ w) h = longer (from-spare (b ∷ c ∷ w) h)
  where
    longer : HasSpareByte (b ∷ c ∷ w) → HasSpareByte (a ∷ b ∷ c ∷ w)
    longer (front, x, y, d, e) = (a ∷ front, x, y, ap (λ r. a ∷ r) d, e)

pub decides-spare : (w : List ℕ) → Decides (spare w) (HasSpareByte w)
decides-spare w = (from-spare w, λ (front, x, y, d, e). rw d (spare-from front x y e))

module _ (strict : Bool) where
  map-tests : (w : List ℕ) → Decides (strict && spare w) (IsTrue strict × HasSpareByte w)
  map-tests w = decides-strict strict (spare w) (HasSpareByte w) (decides-spare w)

  map-closes : (w : List ℕ) (es : List EventData) (x : Reached (List ℕ)) → presence_map strict w es x → closed L3 map_limit (judged_map strict) w es x
  unfolding judged_map
  map-closes w es (whole m) h = (h.0.entity, h.0.short, rw (not-spare (λ e. let k = (map-tests w).0 e in h.0.shortest k.0 k.1), h.1) refl, h.2)
    where
      not-spare : ((strict && spare w) ≡ true → ⊥) → (strict && spare w) ≡ false
      not-spare f = by (cases_Bool (strict && spare w))
        where
          by : ((strict && spare w) ≡ true) ⊎ ((strict && spare w) ≡ false) → (strict && spare w) ≡ false
          by (inl i) = absurd (f i)
          by (inr i) = i
  map-closes w es cut h = h
  map-closes w es (wrong c) (inl h, e) = (inl h, e)
  map-closes w es (wrong c) (inr h, e) = (inr (h.0, h.1, rw ((map-tests w).1 (h.2, h.3), h.4) refl), e)

  ok-map-by : (w m : List ℕ) (b : Bool) → (strict && spare w) ≡ b → (if b then Err R7 else Ok w) ≡ Ok m → (IsTrue strict → ¬ (HasSpareByte w)) × (m ≡ w)
  ok-map-by w m true i e = absurd (cc e)
  ok-map-by w m false i e = (λ s o. not_from_Decides (strict && spare w) (map-tests w) i (s, o), cc e)

  err-map-by : (w : List ℕ) (c : Code) (b : Bool) → (strict && spare w) ≡ b → (if b then Err R7 else Ok w) ≡ Err c → IsTrue strict × HasSpareByte w × (c ≡ R7)
  err-map-by w c true i e = let k = (map-tests w).0 i in (k.0, k.1, cc e)
  err-map-by w c false i e = absurd (cc e)

  closes-map : (w : List ℕ) (es : List EventData) (x : Reached (List ℕ)) → closed L3 map_limit (judged_map strict) w es x → presence_map strict w es x
  unfolding judged_map
  closes-map w es (whole m) h = let k = ok-map-by w m (strict && spare w) refl h.2 in (record { entity = h.0; short = h.1; shortest = k.0 }, k.1, h.3)
  closes-map w es cut h = h
  closes-map w es (wrong c) (inl h, e) = (inl h, e)
  closes-map w es (wrong c) (inr h, e) = let k = err-map-by w c (strict && spare w) refl h.2 in (inr (h.0, h.1, k.0, k.1, k.2), e)

  pub reads-map : Reads (presence_map_reader strict) (presence_map strict)
  unfolding presence_map_reader
  reads-map = reads-like (reads-closed L3 map_limit (judged_map strict)) map-closes (λ w es x b h. closes-map w es x h)
