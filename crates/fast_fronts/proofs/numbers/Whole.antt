-- Short entities as integers, and those that are in any range.
use Rattle.std.proofs.Common.{◌≡◌, ℕ, suc, ◌*◌, ◌-◌, ◌^◌, ◌<◌, ◌≤◌, Bool, true, false, List, refl, subst, length, take, arith, lit<}
use Rattle.std.specs.Prelude.{ℤ, pos, negsuc, neg_ℤ, ◌≤ℤ◌, Option, Some, None, option_map, IfSome, IsTrue}
use Rattle.std.proofs.Math.Nat.{pow-le-pow_right}
use Rattle.std.proofs.lemmas.Int.{ints, to_z-of_z}
use mir.Syntax.{w64}
use mir.Val.{SFits, to_z, of_z}
use Rattle.std.proofs.lemmas.List.{length-take-le}
use lib.Signed.{mag}
use Rattle.fast_wire.specs.meaning.Entities.{number, has_sign, signed, IsOverlong}
use Rattle.fast_wire.specs.meaning.Integers.{Range, value, Means, IsWithin, unsigned_up_to, signed_between}
use Rattle.fast_wire.specs.device.Words.{IsShortEntity}
use Rattle.fast_wire.specs.meaning.Faulty.{NoneIsOverlong}
use Rattle.fast_fronts.specs.device.Fronts.{IsFirstInt}
use Rattle.fast_fronts.specs.declared.fronts.First.TheVariants.{Whole}
use Rattle.fast_wire.proofs.numbers.Numbers.{number-short}
use Rattle.fast_wire.proofs.numbers.Writing.{reach}
use Rattle.fast_wire.proofs.stop_bits.FirstStop.{entity_is_long}

-- a short entity that isn't overlong where that counts, and the integer within its range
pub whole_is : {T : Type 0} (meant : T → Option ℤ) (strict nullable : Bool) (range : Range) (x : T) (sum len : ℕ) (bytes : List ℕ) → IsShortEntity sum len bytes
    → (IsTrue strict → IsOverlong (value range) (take len bytes) → ⊥) → Means nullable (value range (take len bytes)) (meant x)
    → IfSome (meant x) (IsWithin range)
    → IsFirstInt meant strict range nullable (Whole x len) bytes
whole_is meant strict nullable range x sum len bytes e shortest meaning fits =
    let l : length (take len bytes) ≡ len = length-take-le len bytes e.whole in
    (e.whole, record { form = record { entity = e.entity; short = omega (arith, e.short); shortest = shortest }; meaning = meaning; fits = fits })

pub unsigned_is : (strict nullable : Bool) (top : ℕ) (x : Option ℕ) (sum len : ℕ) (bytes : List ℕ) → IsShortEntity sum len bytes
    → (IsTrue strict → NoneIsOverlong (λ v. pos (number v)) bytes) → Means nullable (pos sum) (option_map pos x)
    → IfSome (option_map pos x) (IsWithin (unsigned_up_to top))
    → IsFirstInt (λ y. option_map pos y) strict (unsigned_up_to top) nullable (Whole x len) bytes
unsigned_is strict nullable top x sum len bytes e shortest meaning fits =
    whole_is (λ y. option_map pos y) strict nullable (unsigned_up_to top) x sum len bytes e (λ t. shortest t len e.entity)
    (subst (λ n. Means nullable (pos n) (option_map pos x)) e.value meaning) fits

-- what the entity's bytes mean as a signed integer
abbrev pub MeansSigned : Bool → ℕ → ℕ → Option ℤ → Type 0
MeansSigned nullable sum len x = (w : List ℕ) → length w ≡ len → sum ≡ number w → Means nullable (signed w) x

pub signed_is : (strict nullable : Bool) (low top : ℤ) (x : Option ℤ) (sum len : ℕ) (bytes : List ℕ) → IsShortEntity sum len bytes
    → (IsTrue strict → NoneIsOverlong signed bytes) → MeansSigned nullable sum len x → IfSome x (IsWithin (signed_between low top))
    → IsFirstInt (λ y. y) strict (signed_between low top) nullable (Whole x len) bytes
signed_is strict nullable low top x sum len bytes e shortest meaning fits =
    whole_is (λ y. y) strict nullable (signed_between low top) x sum len bytes e (λ t. shortest t len e.entity)
    (meaning (take len bytes) (length-take-le len bytes e.whole) e.value) fits

-- how great the number of a few bytes is
pub few_unsigned : (sum len : ℕ) (bytes : List ℕ) → IsShortEntity sum len bytes → len ≤ 4 → sum ≤ 268435455
few_unsigned sum len bytes e few =
    let l : length (take len bytes) ≡ len = length-take-le len bytes e.whole in
    let n : number (take len bytes) < 128 ^ 4 = number-short (take len bytes) 4 (omega arith) in
    omega (arith, e.value)

reach_of_few : (sum len : ℕ) (bytes : List ℕ) → IsShortEntity sum len bytes → len ≤ 4 → mag (signed (take len bytes)) < 134217728
reach_of_few sum len bytes e few =
    let w = take len bytes in
    let l : length w ≡ len = length-take-le len bytes e.whole in
    let s : length w ≡ suc (length w - 1) = omega (arith, entity_is_long w e.entity) in
    let m : mag (signed w) < 64 * 128 ^ (length w - 1) = reach w (length w - 1) (has_sign w) s refl in
    let p : 128 ^ (length w - 1) ≤ 128 ^ 3 = pow-le-pow_right {n = 128} (lit< tt) {i = length w - 1} {j = 3} (omega arith) in
    omega arith

-- what is sent as a small number is within the range
pub small_unsigned : (nullable : Bool) (x : Option ℕ) (sum top : ℕ) → Means nullable (pos sum) (option_map pos x) → sum ≤ 268435455 → 268435455 ≤ top
    → IfSome (option_map pos x) (IsWithin (unsigned_up_to top))
small_unsigned nullable None sum top m small wide = tt
small_unsigned false (Some x) sum top m small wide = let e : sum ≡ x = cc in (omega (arith, ints), omega (arith, ints))
small_unsigned true (Some x) sum top m small wide = let e : sum ≡ suc x = cc in (omega (arith, ints), omega (arith, ints))

small_signed : (nullable : Bool) (x : Option ℤ) (n low top : ℤ) → Means nullable n x → mag n < 134217728 → low ≤ℤ neg_ℤ (pos 134217728) → pos 134217727 ≤ℤ top
    → IfSome x (IsWithin (signed_between low top))
small_signed nullable None n low top m small deep wide = tt
small_signed false (Some x) n low top m small deep wide = subst (IsWithin (signed_between low top)) m (by n small)
  where
    by : (z : ℤ) → mag z < 134217728 → IsWithin (signed_between low top) z
    by (pos z) h = (omega (arith, ints), omega (arith, ints))
    by (negsuc z) h = (omega (arith, ints), omega (arith, ints))
small_signed true (Some (pos x)) n low top m small deep wide =
    let s : suc x < 134217728 = subst (λ z. mag z < 134217728) m small in
    (omega (arith, ints), omega (arith, ints))
small_signed true (Some (negsuc x)) n low top m small deep wide =
    let s : x < 134217728 = subst (λ z. mag z < 134217728) m small in
    (omega (arith, ints), omega (arith, ints))

-- an integer that was tested
pub tested_unsigned : (x : Option ℕ) (top : ℕ) → IfSome x (λ n. n ≤ top) → IfSome (option_map pos x) (IsWithin (unsigned_up_to top))
tested_unsigned None top h = tt
tested_unsigned (Some x) top h = (omega (arith, ints), omega (arith, ints))

pub tested_signed : (x : Option ℤ) (low top : ℤ) → SFits w64 low → SFits w64 top
    → IfSome x (IsWithin (signed_between (to_z w64 (of_z w64 low)) (to_z w64 (of_z w64 top))))
    → IfSome x (IsWithin (signed_between low top))
tested_signed x low top f g h =
    subst (λ l. IfSome x (IsWithin (signed_between l top))) (to_z-of_z w64 low f)
    (subst (λ t. IfSome x (IsWithin (signed_between (to_z w64 (of_z w64 low)) t))) (to_z-of_z w64 top g) h)

-- the same of an integer that is told itself
pub integer_is : (strict nullable : Bool) (low top : ℤ) (x : Option ℤ) (len : ℕ) (bytes : List ℕ) → IsShortEntity (number (take len bytes)) len bytes
    → (IsTrue strict → NoneIsOverlong signed bytes) → Means nullable (signed (take len bytes)) x → IfSome x (IsWithin (signed_between low top))
    → IsFirstInt (λ y. y) strict (signed_between low top) nullable (Whole x len) bytes
integer_is strict nullable low top x len bytes e shortest meaning fits =
    whole_is (λ y. y) strict nullable (signed_between low top) x (number (take len bytes)) len bytes e (λ t. shortest t len e.entity) meaning fits

pub few_integer : (nullable : Bool) (x : Option ℤ) (len : ℕ) (low top : ℤ) (bytes : List ℕ)
    → IsShortEntity (number (take len bytes)) len bytes → len ≤ 4 → Means nullable (signed (take len bytes)) x
    → low ≤ℤ neg_ℤ (pos 134217728) → pos 134217727 ≤ℤ top → IfSome x (IsWithin (signed_between low top))
few_integer nullable x len low top bytes e few meaning deep wide =
    small_signed nullable x (signed (take len bytes)) low top meaning (reach_of_few (number (take len bytes)) len bytes e few) deep wide

-- as the call has its argument, in 64 bits
pub means_of_few : (nullable : Bool) (x : Option ℤ) (n : ℤ) (len : ℕ) (bytes : List ℕ) → IsShortEntity (number (take len bytes)) len bytes
    → len ≤ 4 → n ≡ signed (take len bytes)
    → Means nullable (to_z w64 (of_z w64 n)) x → Means nullable (signed (take len bytes)) x
means_of_few nullable x n len bytes e few is means =
    let small : mag (signed (take len bytes)) < 134217728 = reach_of_few (number (take len bytes)) len bytes e few in
    subst (λ m. Means nullable m x) (to_z-of_z w64 (signed (take len bytes)) (record { sfits = omega arith }))
    (subst (λ m. Means nullable (to_z w64 (of_z w64 m)) x) is means)
