-- Entities of a few bytes.
use Rattle.std.proofs.Common.{◌≡◌, ℕ, zero, suc, ◌+◌, ◌*◌, ◌-◌, ◌/◌, ◌%◌, ◌^◌, ◌<◌, ◌≤◌, List, [], ◌∷◌, ◌++◌, refl, ap, ◌∙◌, arith}
use Rattle.std.specs.Prelude.{Bool, true, false, if◌then◌else◌, ℤ, pos, negsuc, Some, Result, Ok, Err, OnOk, is_ok}
use Rattle.std.proofs.lemmas.List.{append_assoc}
use Rattle.fast_wire.specs.meaning.Entities.{HaveNoStop, number, signed, IsOverlong}
use Rattle.fast_wire.specs.meaning.Integers.{Means}
use Rattle.fast_wire.specs.meaning.Shortest.{IsShortest}
use Rattle.fast_wire.proofs.numbers.Writing.{full_unsigned, full_at, natural_at, signed_negative}
use Rattle.fast_spelling.specs.device.Drafts.{Adds}
use Rattle.fast_spelling.specs.device.Groups.{IsGroups, IsLeast}

none_stop : HaveNoStop []
none_stop k d h = absurd (omega (arith, h))

more_stop : (b : ℕ) (w : List ℕ) → b < 128 → HaveNoStop w → HaveNoStop (b ∷ w)
more_stop b w h rest zero d g = h
more_stop b w h rest (suc k) d g = rest k d (omega (arith, g))

pub one : (n : ℕ) → n < 2 ^ 7 → IsGroups n 1 ((n % 128 + 128) ∷ [])
one n h = record { entity = ([], n % 128 + 128, refl, none_stop, omega arith); count = refl; value = omega (arith, h) }

pub two : (n : ℕ) → n < 2 ^ 14 → IsGroups n 2 (n / 128 % 128 ∷ (n % 128 + 128) ∷ [])
two n h = record {
  entity = (n / 128 % 128 ∷ [], n % 128 + 128, refl, more_stop (n / 128 % 128) [] (omega arith) none_stop, omega arith);
  count = refl;
  value = omega (arith, h);
}

pub three : (n : ℕ) → n < 2 ^ 21 → IsGroups n 3 (n / 16384 % 128 ∷ n / 128 % 128 ∷ (n % 128 + 128) ∷ [])
three n h = record {
  entity = (
    n / 16384 % 128 ∷ n / 128 % 128 ∷ [],
    n % 128 + 128,
    refl,
    more_stop (n / 16384 % 128) (n / 128 % 128 ∷ []) (omega arith) (more_stop (n / 128 % 128) [] (omega arith) none_stop),
    omega arith,
  );
  count = refl;
  value = omega (arith, h);
}

pub four : (n : ℕ) → n < 2 ^ 28 → IsGroups n 4 (n / 2097152 % 128 ∷ n / 16384 % 128 ∷ n / 128 % 128 ∷ (n % 128 + 128) ∷ [])
four n h = record {
  entity = (
    n / 2097152 % 128 ∷ n / 16384 % 128 ∷ n / 128 % 128 ∷ [],
    n % 128 + 128,
    refl,
    more_stop (n / 2097152 % 128) (n / 16384 % 128 ∷ n / 128 % 128 ∷ []) (omega arith)
        (more_stop (n / 16384 % 128) (n / 128 % 128 ∷ []) (omega arith) (more_stop (n / 128 % 128) [] (omega arith) none_stop)),
    omega arith,
  );
  count = refl;
  value = omega (arith, h);
}

pub five : (n : ℕ) → n < 2 ^ 35 → IsGroups n 5 (n / 268435456 % 128 ∷ n / 2097152 % 128 ∷ n / 16384 % 128 ∷ n / 128 % 128 ∷ (n % 128 + 128) ∷ [])
five n h = record {
  entity = (
    n / 268435456 % 128 ∷ n / 2097152 % 128 ∷ n / 16384 % 128 ∷ n / 128 % 128 ∷ [],
    n % 128 + 128,
    refl,
    more_stop (n / 268435456 % 128) (n / 2097152 % 128 ∷ n / 16384 % 128 ∷ n / 128 % 128 ∷ []) (omega arith)
        (more_stop (n / 2097152 % 128) (n / 16384 % 128 ∷ n / 128 % 128 ∷ []) (omega arith)
        (more_stop (n / 16384 % 128) (n / 128 % 128 ∷ []) (omega arith) (more_stop (n / 128 % 128) [] (omega arith) none_stop))),
    omega arith,
  );
  count = refl;
  value = omega (arith, h);
}

pub six : (n : ℕ) → n < 2 ^ 42 → IsGroups n 6 (n / 34359738368 % 128 ∷ n / 268435456 % 128 ∷ n / 2097152 % 128 ∷ n / 16384 % 128
    ∷ n / 128 % 128 ∷ (n % 128 + 128) ∷ [])
six n h = record {
  entity = (
    n / 34359738368 % 128 ∷ n / 268435456 % 128 ∷ n / 2097152 % 128 ∷ n / 16384 % 128 ∷ n / 128 % 128 ∷ [],
    n % 128 + 128,
    refl,
    more_stop (n / 34359738368 % 128) (n / 268435456 % 128 ∷ n / 2097152 % 128 ∷ n / 16384 % 128 ∷ n / 128 % 128 ∷ []) (omega arith)
        (more_stop (n / 268435456 % 128) (n / 2097152 % 128 ∷ n / 16384 % 128 ∷ n / 128 % 128 ∷ []) (omega arith)
        (more_stop (n / 2097152 % 128) (n / 16384 % 128 ∷ n / 128 % 128 ∷ []) (omega arith)
        (more_stop (n / 16384 % 128) (n / 128 % 128 ∷ []) (omega arith) (more_stop (n / 128 % 128) [] (omega arith) none_stop)))),
    omega arith,
  );
  count = refl;
  value = omega (arith, h);
}

pub seven : (n : ℕ) → n < 2 ^ 49 → IsGroups n 7 (n / 4398046511104 % 128 ∷ n / 34359738368 % 128 ∷ n / 268435456 % 128 ∷ n / 2097152 % 128
    ∷ n / 16384 % 128 ∷ n / 128 % 128 ∷ (n % 128 + 128) ∷ [])
seven n h = record {
  entity = (
    n / 4398046511104 % 128 ∷ n / 34359738368 % 128 ∷ n / 268435456 % 128 ∷ n / 2097152 % 128 ∷ n / 16384 % 128 ∷ n / 128 % 128 ∷ [],
    n % 128 + 128,
    refl,
    more_stop (n / 4398046511104 % 128) (n / 34359738368 % 128 ∷ n / 268435456 % 128 ∷ n / 2097152 % 128 ∷ n / 16384 % 128 ∷ n / 128 % 128
        ∷ []) (omega arith) (more_stop (n / 34359738368 % 128)
        (n / 268435456 % 128 ∷ n / 2097152 % 128 ∷ n / 16384 % 128 ∷ n / 128 % 128 ∷ []) (omega arith)
        (more_stop (n / 268435456 % 128) (n / 2097152 % 128 ∷ n / 16384 % 128 ∷ n / 128 % 128 ∷ []) (omega arith)
        (more_stop (n / 2097152 % 128) (n / 16384 % 128 ∷ n / 128 % 128 ∷ []) (omega arith)
        (more_stop (n / 16384 % 128) (n / 128 % 128 ∷ []) (omega arith) (more_stop (n / 128 % 128) [] (omega arith) none_stop))))),
    omega arith,
  );
  count = refl;
  value = omega (arith, h);
}

pub eight : (n : ℕ) → n < 2 ^ 56 → IsGroups n 8 (n / 562949953421312 % 128 ∷ n / 4398046511104 % 128 ∷ n / 34359738368 % 128
    ∷ n / 268435456 % 128 ∷ n / 2097152 % 128 ∷ n / 16384 % 128 ∷ n / 128 % 128 ∷ (n % 128 + 128) ∷ [])
eight n h = record {
  entity = (
    n / 562949953421312 % 128 ∷ n / 4398046511104 % 128 ∷ n / 34359738368 % 128 ∷ n / 268435456 % 128 ∷ n / 2097152 % 128 ∷ n / 16384 % 128
        ∷ n / 128 % 128 ∷ [],
    n % 128 + 128,
    refl,
    more_stop (n / 562949953421312 % 128) (n / 4398046511104 % 128 ∷ n / 34359738368 % 128 ∷ n / 268435456 % 128 ∷ n / 2097152 % 128
        ∷ n / 16384 % 128 ∷ n / 128 % 128 ∷ []) (omega arith)
        (more_stop (n / 4398046511104 % 128) (n / 34359738368 % 128 ∷ n / 268435456 % 128 ∷ n / 2097152 % 128 ∷ n / 16384 % 128
        ∷ n / 128 % 128 ∷ []) (omega arith) (more_stop (n / 34359738368 % 128)
        (n / 268435456 % 128 ∷ n / 2097152 % 128 ∷ n / 16384 % 128 ∷ n / 128 % 128 ∷ []) (omega arith)
        (more_stop (n / 268435456 % 128) (n / 2097152 % 128 ∷ n / 16384 % 128 ∷ n / 128 % 128 ∷ []) (omega arith)
        (more_stop (n / 2097152 % 128) (n / 16384 % 128 ∷ n / 128 % 128 ∷ []) (omega arith)
        (more_stop (n / 16384 % 128) (n / 128 % 128 ∷ []) (omega arith) (more_stop (n / 128 % 128) [] (omega arith) none_stop)))))),
    omega arith,
  );
  count = refl;
  value = omega (arith, h);
}

-- An unsigned integer in as many groups as it takes.
pub unsigned_means : (nullable : Bool) (n sent len : ℕ) (w : List ℕ) → IsGroups sent len w → len ≤ 8
    → (1 < len → 2 ^ (7 * (len - 1)) ≤ sent) → Means nullable (pos sent) (Some (pos n)) → IsShortest false nullable (Some (pos n)) w
unsigned_means nullable n sent len w h few full means range is fits =
    let no : IsOverlong (λ v. pos (number v)) w → ⊥ = full_unsigned w (λ g. rw (h.count, h.value) (full (rw h.count at g))) in
    record {
      form = record { entity = h.entity; short = omega (arith, h.count, few); shortest = λ _. rw is no };
      meaning = rw (is, h.value) means;
      fits = fits;
    }

-- so of a natural integer, and of a negative one, in two's complement
pub natural_least : (sum len : ℕ) (w : List ℕ) → IsGroups sum len w → 1 ≤ len → len ≤ 5 → sum * 2 < 2 ^ (7 * len)
    → (1 < len → 2 ^ (7 * (len - 1)) ≤ sum * 2) → IsLeast (pos sum) w
natural_least sum len w h some few enough full =
    let is : signed w ≡ pos sum = natural_at w len sum h.count h.value some enough in
    record { entity = h.entity; short = omega (arith, h.count, few); value = is; shortest = full_at w len (pos sum) h.count is full }

pub negative_least : (c len : ℕ) (w : List ℕ) → IsGroups (2 ^ (7 * len) - 1 - c) len w → 1 ≤ len → len ≤ 5 → c * 2 < 2 ^ (7 * len)
    → (1 < len → 2 ^ (7 * (len - 1)) ≤ c * 2) → IsLeast (negsuc c) w
negative_least c len w h some few enough full =
    let is : signed w ≡ negsuc c = signed_negative w c (omega (arith, h.count, some)) (rw h.count enough) (rw h.count h.value) in
    record {
      entity = h.entity;
      short = omega (arith, h.count, few);
      value = is;
      shortest = full_at w len (negsuc c) h.count is (λ g. let k = full g in omega (arith, k));
    }

pub signed_means : (nullable : Bool) (x n : ℤ) (w : List ℕ) → IsLeast n w → Means nullable n (Some x) → IsShortest true nullable (Some x) w
signed_means nullable x n w h means range is fits =
    record {
      form = record { entity = h.entity; short = h.short; shortest = λ _. rw is h.shortest };
      meaning = rw (is, h.value) means;
      fits = fits;
    }

-- a negative integer is sent as it is
pub negative_means : (nullable : Bool) (c : ℕ) → Means nullable (negsuc c) (Some (negsuc c))
negative_means true c = refl
negative_means false c = refl

-- what was appended at Ok
pub added : {R E : Type 0} (P : List ℕ → Type 0) (old new w : List ℕ) (r : Result R E) → new ≡ (if is_ok r then old ++ w else old) → P w
    → OnOk r (Adds P old new)
added P old new w (Ok x) e p = (w, e, p)
added P old new w (Err x) e p = tt

-- a byte more
pub then_one : (old w now new : List ℕ) (a : ℕ) → now ≡ old ++ w → new ≡ now ++ a ∷ [] → new ≡ old ++ (w ++ a ∷ [])
then_one old w now new a so_far next = next ∙ ap (λ (l : List ℕ). l ++ a ∷ []) so_far ∙ append_assoc old w (a ∷ [])
