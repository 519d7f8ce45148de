-- Integers that are spelled have a spelling in strict mode, and smaller ones a spelling that is no longer.
use Rattle.std.proofs.Common.{◌≡◌, ◌⊎◌, inl, inr, ℕ, zero, suc, ◌+◌, ◌*◌, ◌-◌, ◌/◌, ◌%◌, ◌^◌, ◌<◌, ◌≤◌, List, [], ◌∷◌, length, refl, ap}
use Rattle.std.proofs.Common.{sym, subst, ◌∙◌, arith, lit<}
use Rattle.std.specs.Prelude.{Bool, true, false, if◌then◌else◌, ◌≤ℤ◌, ℤ, pos, negsuc, Option, Some}
use Rattle.std.proofs.Math.Nat.{pow-suc, one-le-pow, div-add-mod, mod-lt, mod-eq_of_lt, div-lt_iff_lt-mul}
use Rattle.std.proofs.lemmas.Bool.{cases_Bool}
use Rattle.std.proofs.lemmas.Int.{ints}
use lib.Signed.{mag}
use Rattle.fast_wire.specs.meaning.Entities.{IsEntity, number, has_sign, signed, IsOverlong}
use Rattle.fast_wire.specs.meaning.Integers.{Range, IsWithin, value, raised, Means, SpellsInt}
use Rattle.fast_wire.proofs.stop_bits.FirstStop.{entity_is_long}
use Rattle.fast_wire.proofs.numbers.Numbers.{number-lt}
use Rattle.fast_wire.proofs.numbers.Overlong.{overlong_by_zero, overlong_by_sign}
use Rattle.fast_wire.proofs.numbers.Judging.{power_of_128}
use Rattle.fast_wire.proofs.numbers.Writing.{reach, signed_natural, signed_negative}
use Rattle.fast_stream.proofs.readers.UnitReaders.{entity-nil, entity-one, entity-cons, entity-rest, below-head}

-- an entity of one byte isn't overlong
one_byte : (value : List ℕ → ℤ) (a : ℕ) → IsOverlong value (a ∷ []) → ⊥
one_byte value a (x, y, r, e, _) = absurd (let n : 1 ≡ suc (suc (length r)) = ap length e in omega (arith, n))

is_overlong : (s : Bool) (w : List ℕ) → IsEntity w → 1 < length w
    → IsOverlong (λ u. if s then signed u else pos (number u)) w ⊎ (IsOverlong (λ u. if s then signed u else pos (number u)) w → ⊥)
is_overlong false w entity long = by (cases_Bool _) (overlong_by_zero w entity long)
  where
    by : {b : Bool} {P : Type 0} → (b ≡ true) ⊎ (b ≡ false) → ((b ≡ true → P) × (P → b ≡ true)) → P ⊎ (P → ⊥)
    by (inl e) d = inl (d.0 e)
    by (inr e) d = inr (λ p. absurd (cc (e, d.1 p)))
is_overlong true w entity long = by (cases_Bool _) (overlong_by_sign w _ entity long refl)
  where
    by : {b : Bool} {P : Type 0} → (b ≡ true) ⊎ (b ≡ false) → ((b ≡ true → P) × (P → b ≡ true)) → P ⊎ (P → ⊥)
    by (inl e) d = inl (d.0 e)
    by (inr e) d = inr (λ p. absurd (cc (e, d.1 p)))

-- the first byte of two or more has no stop
tail_entity : (a b : ℕ) (r : List ℕ) → IsEntity (a ∷ b ∷ r) → IsEntity (b ∷ r)
tail_entity a b r ([], last, e, none, h) = absurd (omega (arith, ap length e))
tail_entity a b r (x ∷ front, last, e, none, h) =
    let k : a ≡ x = cc e in
    entity-rest a (b ∷ r) (rw k (below-head x front none)) (x ∷ front, last, e, none, h)

-- The bytes that are too many can be left out.
pub shortest : (range : Range) (nullable : Bool) (x : Option ℤ) (w : List ℕ) → SpellsInt false range nullable x w
    → (v : List ℕ) × SpellsInt true range nullable x v × (length v ≤ length w)
shortest range nullable x [] p = absurd (entity-nil p.form.entity)
shortest range nullable x (a ∷ []) p = (
  a ∷ [],
  record { form = record { entity = p.form.entity; short = p.form.short; shortest = λ _. one_byte (value range) a }; meaning = p.meaning; fits = p.fits },
  omega arith,
)
shortest range nullable x (a ∷ b ∷ r) p = by (is_overlong range.is_signed (a ∷ b ∷ r) p.form.entity (omega arith)) (shortest range nullable x (b ∷ r))
  where
    by : IsOverlong (value range) (a ∷ b ∷ r) ⊎ (IsOverlong (value range) (a ∷ b ∷ r) → ⊥)
        → (SpellsInt false range nullable x (b ∷ r) → (v : List ℕ) × SpellsInt true range nullable x v × (length v ≤ length (b ∷ r)))
        → (v : List ℕ) × SpellsInt true range nullable x v × (length v ≤ length (a ∷ b ∷ r))
    by (inr n) next = (
      a ∷ b ∷ r,
      record { form = record { entity = p.form.entity; short = p.form.short; shortest = λ _. n }; meaning = p.meaning; fits = p.fits },
      omega arith,
    )
    by (inl (c, d, s, e, same)) next =
        let k : b ∷ r ≡ d ∷ s = cc e in
        let one : value range (b ∷ r) ≡ value range (a ∷ b ∷ r) = ap (value range) k ∙ same in
        let short : length (a ∷ b ∷ r) ≤ 10 = p.form.short in
        let (v, h, i) = next (record {
          form = record { entity = tail_entity a b r p.form.entity; short = omega (arith, short); shortest = λ t. absurd (cc t) };
          meaning = subst (λ n. Means nullable n x) (sym one) p.meaning;
          fits = p.fits;
        }) in
        (v, h, omega (arith, i))

-- the same from either mode
pub respelled : (strict : Bool) (range : Range) (nullable : Bool) (x : Option ℤ) (w : List ℕ) → SpellsInt strict range nullable x w
    → (v : List ℕ) × SpellsInt true range nullable x v × (length v ≤ length w)
respelled strict range nullable x w p = shortest range nullable x w (record {
  form = record { entity = p.form.entity; short = p.form.short; shortest = λ t. absurd (cc t) };
  meaning = p.meaning;
  fits = p.fits;
})

-- A number as an entity of k bytes and one more.
abbrev digits : ℕ → ℕ → List ℕ
digits zero n = (n + 128) ∷ []
digits (suc k) n = (n / 128 ^ suc k) ∷ digits k (n % 128 ^ suc k)

positive : (k : ℕ) → 0 < 128 ^ k
positive k = one-le-pow k 128 (lit< tt)

digits_length : (k n : ℕ) → length (digits k n) ≡ suc k
digits_length zero n = refl
digits_length (suc k) n = ap suc (digits_length k (n % 128 ^ suc k))

first_small : (k n : ℕ) → n < 128 ^ suc (suc k) → n / 128 ^ suc k < 128
first_small k n h = (div-lt_iff_lt-mul {k = 128 ^ suc k} {x = n} {y = 128} (positive (suc k))).1 (omega (arith, h, pow-suc 128 (suc k)))

digits_entity : (k n : ℕ) → n < 128 ^ suc k → IsEntity (digits k n)
digits_entity zero n h = entity-one (n + 128) (omega arith)
digits_entity (suc k) n h = entity-cons (n / 128 ^ suc k) (digits k (n % 128 ^ suc k)) (first_small k n h)
    (digits_entity k (n % 128 ^ suc k) (mod-lt n (positive (suc k))))

digits_number : (k n : ℕ) → n < 128 ^ suc k → number (digits k n) ≡ n
digits_number zero n h = let small : n < 128 = h in omega (arith, small)
digits_number (suc k) n h =
    let p = 128 ^ suc k in
    let long : 128 ^ length (digits k (n % p)) ≡ p = ap (λ (m : ℕ). 128 ^ m) (digits_length k (n % p)) in
    let first : n / p % 128 ≡ n / p = mod-eq_of_lt (first_small k n h) in
    let split : p * (n / p) + n % p ≡ n = div-add-mod n p in
    rw (long, first, digits_number k (n % p) (mod-lt n (positive (suc k)))) (omega (arith, split))

-- what is sent for an integer that is not NULL
abbrev pub sent_for : Bool → ℤ → ℤ
sent_for false x = x
sent_for true x = raised x

meant : (nullable : Bool) (n x : ℤ) → n ≡ sent_for nullable x → Means nullable n (Some x)
meant false n x e = e
meant true n x e = e

pub sent_is : (nullable : Bool) (n x : ℤ) → Means nullable n (Some x) → n ≡ sent_for nullable x
sent_is false n x e = e
sent_is true n x e = e

-- an entity of a given length
record IsLong (strict : Bool) (range : Range) (nullable : Bool) (x : ℤ) (k : ℕ) : Type 0 where
  pub bytes : List ℕ
  pub spelled : SpellsInt strict range nullable (Some x) bytes
  pub long : length bytes ≡ suc k

-- half of what so many bytes hold
half : (k : ℕ) → 2 * (64 * 128 ^ k) ≡ 128 ^ suc k
half k = omega (arith, pow-suc 128 k)

-- the digits of an integer in two's complement
abbrev twos : ℕ → ℤ → List ℕ
twos k (pos n) = digits k n
twos k (negsuc c) = digits k (128 ^ suc k - 1 - c)

twos_is : (k : ℕ) (x : ℤ) → mag x < 64 * 128 ^ k → IsEntity (twos k x) × (length (twos k x) ≡ suc k) × (signed (twos k x) ≡ x)
twos_is k (pos n) h =
    let small : n < 128 ^ suc k = omega (arith, half k, h) in
    let long = digits_length k n in
    let is = digits_number k n small in (
      digits_entity k n small,
      long,
      signed_natural (digits k n) (omega (arith, long))
          (rw (long, is, ← power_of_128 (suc k)) (omega (arith, half k, h))) ∙ ap pos is,
    )
twos_is k (negsuc c) h =
    let n = 128 ^ suc k - 1 - c in
    let small : n < 128 ^ suc k = omega (arith, positive (suc k)) in
    let long = digits_length k n in
    let is = digits_number k n small in (
      digits_entity k n small,
      long,
      signed_negative (digits k n) c (omega (arith, long)) (rw (long, ← power_of_128 (suc k)) (omega (arith, half k, h)))
          (rw (long, ← power_of_128 (suc k)) is),
    )

-- A signed integer that so many bytes hold, and a number.
long_signed : (k : ℕ) (low high : ℤ) (nullable : Bool) (x : ℤ) → k < 10 → IsWithin (record {
  is_signed = true;
  low = low;
  high = high;
}) x → mag (sent_for nullable x) < 64 * 128 ^ k
    → IsLong false (record { is_signed = true; low = low; high = high }) nullable x k
long_signed k low high nullable x few fits h =
    let (entity, long, is) = twos_is k (sent_for nullable x) h in
    record {
      bytes = twos k (sent_for nullable x);
      spelled = record {
        form = record { entity = entity; short = omega (arith, long, few); shortest = λ t. absurd (cc t) };
        meaning = meant nullable (signed (twos k (sent_for nullable x))) x is;
        fits = fits;
      };
      long = long;
    }

-- A signed integer whose sent form is no greater than that of one that is spelled.
pub shorter_signed : (strict : Bool) (low high : ℤ) (nullable : Bool) (x y : ℤ) (w : List ℕ) → SpellsInt strict (record {
  is_signed = true;
  low = low;
  high = high;
}) nullable (Some y) w → IsWithin (record { is_signed = true; low = low; high = high }) x
    → mag (sent_for nullable x) ≤ mag (sent_for nullable y) → (v : List ℕ) × SpellsInt true (record {
      is_signed = true;
      low = low;
      high = high;
    }) nullable (Some x) v × (length v ≤ length w)
shorter_signed strict low high nullable x y w p fits h =
    let k = length w - 1 in
    let some = entity_is_long w p.form.entity in
    let long : length w ≡ suc k = omega (arith, some) in
    let reached = reach w k (has_sign w) long refl in
    let same : mag (signed w) ≡ mag (sent_for nullable y) = ap mag (sent_is nullable (signed w) y p.meaning) in
    let made = long_signed k low high nullable x (omega (arith, p.form.short, long)) fits (omega (arith, reached, same, h)) in
    let (v, i, j) = respelled false (record { is_signed = true; low = low; high = high }) nullable (Some x) made.bytes made.spelled in
    (v, i, omega (arith, j, made.long, long))

-- in strict mode no more bytes
pub some_signed : (k : ℕ) (low high : ℤ) (nullable : Bool) (x : ℤ) → k < 10 → IsWithin (record {
  is_signed = true;
  low = low;
  high = high;
}) x → mag (sent_for nullable x) < 64 * 128 ^ k
    → (v : List ℕ) × SpellsInt true (record { is_signed = true; low = low; high = high }) nullable (Some x) v
some_signed k low high nullable x few fits h =
    let made = long_signed k low high nullable x few fits h in
    let (v, i, j) = respelled false (record { is_signed = true; low = low; high = high }) nullable (Some x) made.bytes made.spelled in
    (v, i)

-- the same of numbers
abbrev pub raised_by : Bool → ℕ → ℕ
raised_by false n = n
raised_by true n = suc n

raised_is : (b : Bool) (n : ℕ) → pos (raised_by b n) ≡ sent_for b (pos n)
raised_is false n = refl
raised_is true n = refl

natural_is : (b : Bool) (a n : ℕ) → pos a ≡ sent_for b (pos n) → a ≡ raised_by b n
natural_is false a n e = cc e
natural_is true a n e = cc e

raised_less : (b : Bool) (i j : ℕ) → i ≤ j → raised_by b i ≤ raised_by b j
raised_less false i j h = h
raised_less true i j h = omega (arith, h)

long_unsigned : (k : ℕ) (top : ℤ) (nullable : Bool) (n : ℕ) → k < 10 → pos n ≤ℤ top → raised_by nullable n < 128 ^ suc k → IsLong false (record {
  is_signed = false;
  low = pos 0;
  high = top;
}) nullable (pos n) k
long_unsigned k top nullable n few below small =
    let sent = raised_by nullable n in
    let is = digits_number k sent small in
    let long = digits_length k sent in
    record {
      bytes = digits k sent;
      spelled = record {
        form = record { entity = digits_entity k sent small; short = omega (arith, long, few); shortest = λ t. absurd (cc t) };
        meaning = meant nullable (pos (number (digits k sent))) (pos n) (ap pos is ∙ raised_is nullable n);
        fits = (omega (arith, ints), below);
      };
      long = long;
    }

pub some_unsigned : (k : ℕ) (top : ℤ) (nullable : Bool) (n : ℕ) → k < 10 → pos n ≤ℤ top → raised_by nullable n < 128 ^ suc k
    → (v : List ℕ) × SpellsInt true (record {
      is_signed = false;
      low = pos 0;
      high = top;
    }) nullable (Some (pos n)) v
some_unsigned k top nullable n few below small =
    let made = long_unsigned k top nullable n few below small in
    let (v, i, j) = respelled false (record { is_signed = false; low = pos 0; high = top }) nullable (Some (pos n)) made.bytes made.spelled in
    (v, i)

-- A number that is no greater than one that is spelled.
pub shorter_unsigned : (strict : Bool) (top : ℤ) (nullable : Bool) (n m : ℕ) (w : List ℕ) → SpellsInt strict (record {
  is_signed = false;
  low = pos 0;
  high = top;
}) nullable (Some (pos m)) w → n ≤ m
    → (v : List ℕ) × SpellsInt true (record { is_signed = false; low = pos 0; high = top }) nullable (Some (pos n)) v × (length v ≤ length w)
shorter_unsigned strict top nullable n m w p h =
    let k = length w - 1 in
    let some = entity_is_long w p.form.entity in
    let long : length w ≡ suc k = omega (arith, some) in
    let bound : number w < 128 ^ suc k = subst (λ (z : ℕ). number w < 128 ^ z) long (number-lt w) in
    let sent = raised_by nullable in
    let same : number w ≡ sent m = natural_is nullable (number w) m (sent_is nullable (pos (number w)) (pos m) p.meaning) in
    let less : sent n ≤ sent m = raised_less nullable n m h in
    let small : sent n < 128 ^ suc k = omega (arith, bound, same, less) in
    let made = long_unsigned k top nullable n (omega (arith, long, p.form.short)) (upper p.fits.1) small in
    let (v, i, j) = respelled false (record { is_signed = false; low = pos 0; high = top }) nullable (Some (pos n)) made.bytes made.spelled in
    (v, i, omega (arith, j, made.long, long))
  where
    upper : pos m ≤ℤ top → pos n ≤ℤ top
    upper u = omega (arith, ints, u, h)
