-- Bits set in the cells of a map.
use Rattle.std.proofs.Common.{◌≡◌, ◌≢◌, ℕ, zero, suc, ◌+◌, ◌*◌, ◌-◌, ◌%◌, ◌/◌, ◌^◌, ◌<◌, ◌⊎◌, inl, inr, max, Bool, true, List, [], ◌∷◌}
use Rattle.std.proofs.Common.{◌++◌, refl, ap, sym, subst, ◌∙◌, length, get_or, set, replicate, arith, lit<}
use Rattle.std.specs.Prelude.{nat_eq, bit_or}
use Rattle.std.proofs.lemmas.Bool.{cases_eq}
use Rattle.std.proofs.lemmas.List.{get_or-set_same, get_or-set_other, length-set}
use Rattle.std.proofs.lemmas.List.Elements.{All-set, All-replicate}
use Rattle.std.specs.Int.Bits.{or_zero_l}
use Rattle.std.proofs.lemmas.Nat.{or_comm, or_shr, or_mod, or_lt, le_or_r}
use Rattle.fast_wire.specs.meaning.Maps.{map_limit, seven_bits, bits, IsBuilt}
use Rattle.fast_wire.proofs.map_bits.Bits.{bit_of}

-- one bit of x | m, by the same bit of m
same_bits : (x m k : ℕ) → bit_or x m / 2 ^ k % 2 ≡ bit_or (x / 2 ^ k % 2) (m / 2 ^ k % 2)
same_bits x m k = ap (λ (n : ℕ). n % 2) (or_shr x m k) ∙ or_mod (x / 2 ^ k) (m / 2 ^ k) 1

or_none : (x : ℕ) → bit_or x 0 ≡ x
or_none x = or_comm x 0 ∙ or_zero_l x

or_one : (x : ℕ) → x < 2 → bit_or x 1 ≡ 1
or_one zero h = refl
or_one (suc zero) h = refl
or_one (suc (suc x)) h = absurd (omega arith)

pub bit_kept : (x m k : ℕ) → m / 2 ^ k % 2 ≡ 0 → bit_of (bit_or x m) k ≡ bit_of x k
bit_kept x m k e = ap (λ (n : ℕ). nat_eq n 1) (same_bits x m k ∙ ap (λ (n : ℕ). bit_or (x / 2 ^ k % 2) n) e ∙ or_none (x / 2 ^ k % 2))

pub bit_made : (x m k : ℕ) → m / 2 ^ k % 2 ≡ 1 → bit_of (bit_or x m) k ≡ true
bit_made x m k e = ap (λ (n : ℕ). nat_eq n 1) (same_bits x m k ∙ ap (λ (n : ℕ). bit_or (x / 2 ^ k % 2) n) e ∙ or_one (x / 2 ^ k % 2) (omega arith))

-- seven bits and what is behind them
row : {a b c d e f g a' b' c' d' e' f' g' : Bool} (w : List Bool) → a ≡ a' → b ≡ b' → c ≡ c' → d ≡ d' → e ≡ e' → f ≡ f' → g ≡ g'
    → a ∷ b ∷ c ∷ d ∷ e ∷ f ∷ g ∷ w ≡ a' ∷ b' ∷ c' ∷ d' ∷ e' ∷ f' ∷ g' ∷ w
row w p q r s t u v = cc

-- the bit at place r of the first cell
first_cell : (x : ℕ) (cells : List ℕ) (r : ℕ) → r < 7 → bits (bit_or x (64 / 2 ^ r) ∷ cells) ≡ set (bits (x ∷ cells)) r true
first_cell x cells zero h = row (bits cells) (bit_made x 64 6 refl) (bit_kept x 64 5 refl) (bit_kept x 64 4 refl) (bit_kept x 64 3 refl)
    (bit_kept x 64 2 refl) (bit_kept x 64 1 refl) (bit_kept x 64 0 refl)
first_cell x cells (suc zero) h = row (bits cells) (bit_kept x 32 6 refl) (bit_made x 32 5 refl) (bit_kept x 32 4 refl)
    (bit_kept x 32 3 refl) (bit_kept x 32 2 refl) (bit_kept x 32 1 refl) (bit_kept x 32 0 refl)
first_cell x cells (suc (suc zero)) h = row (bits cells) (bit_kept x 16 6 refl) (bit_kept x 16 5 refl) (bit_made x 16 4 refl)
    (bit_kept x 16 3 refl) (bit_kept x 16 2 refl) (bit_kept x 16 1 refl) (bit_kept x 16 0 refl)
first_cell x cells (suc (suc (suc zero))) h = row (bits cells) (bit_kept x 8 6 refl) (bit_kept x 8 5 refl) (bit_kept x 8 4 refl)
    (bit_made x 8 3 refl) (bit_kept x 8 2 refl) (bit_kept x 8 1 refl) (bit_kept x 8 0 refl)
first_cell x cells (suc (suc (suc (suc zero)))) h = row (bits cells) (bit_kept x 4 6 refl) (bit_kept x 4 5 refl) (bit_kept x 4 4 refl)
    (bit_kept x 4 3 refl) (bit_made x 4 2 refl) (bit_kept x 4 1 refl) (bit_kept x 4 0 refl)
first_cell x cells (suc (suc (suc (suc (suc zero))))) h =
    row (bits cells) (bit_kept x 2 6 refl) (bit_kept x 2 5 refl) (bit_kept x 2 4 refl) (bit_kept x 2 3 refl) (bit_kept x 2 2 refl)
    (bit_made x 2 1 refl) (bit_kept x 2 0 refl)
first_cell x cells (suc (suc (suc (suc (suc (suc zero)))))) h =
    row (bits cells) (bit_kept x 1 6 refl) (bit_kept x 1 5 refl) (bit_kept x 1 4 refl) (bit_kept x 1 3 refl) (bit_kept x 1 2 refl)
    (bit_kept x 1 1 refl) (bit_made x 1 0 refl)
first_cell x cells (suc (suc (suc (suc (suc (suc (suc r))))))) h = absurd (omega arith)

-- the bit at place r of the cell q
cell_set : (cells : List ℕ) (q r : ℕ) → r < 7 → q < length cells
    → bits (set cells q (bit_or (get_or cells q 0) (64 / 2 ^ r))) ≡ set (bits cells) (7 * q + r) true
cell_set [] q r h l = absurd (omega arith)
cell_set (x ∷ cells) zero r h l =
    let e : r ≡ 0 + r = omega arith in
    first_cell x cells r h ∙ ap (λ (n : ℕ). set (bits (x ∷ cells)) n true) e
cell_set (x ∷ cells) (suc q) r h l =
    let seven : 7 * suc q + r ≡ suc (suc (suc (suc (suc (suc (suc (7 * q + r))))))) = omega arith in
    ap (λ w. seven_bits x ++ w) (cell_set cells q r h (omega arith)) ∙ ap (λ (n : ℕ). set (bits (x ∷ cells)) n true) (sym seven)

pub bit_set : (cells : List ℕ) (i : ℕ) → i / 7 < length cells
    → bits (set cells (i / 7) (bit_or (get_or cells (i / 7) 0) (64 / 2 ^ (i % 7)))) ≡ set (bits cells) i true
bit_set cells i l =
    let e : 7 * (i / 7) + i % 7 ≡ i = omega arith in
    cell_set cells (i / 7) (i % 7) (omega arith) l ∙ ap (λ (n : ℕ). set (bits cells) n true) e

blank_at : (n k : ℕ) → get_or (replicate {A = ℕ} n 0) k 0 ≡ 0
blank_at zero k = refl
blank_at (suc n) zero = refl
blank_at (suc n) (suc k) = blank_at n k

pub built_blank : IsBuilt (replicate 146 0) 1
built_blank = record {
  count = refl;
  some = omega arith;
  few = omega arith;
  unstopped = All-replicate (λ byte. byte < 128) 146 0 (lit< tt);
  blank = λ k h. blank_at 146 k;
  needed = λ h. absurd (omega arith);
}

-- a bit of one cell
pub some_bit : (r : ℕ) → r < 7 → (0 < 64 / 2 ^ r) × (64 / 2 ^ r < 128)
some_bit zero h = (lit< tt, lit< tt)
some_bit (suc zero) h = (lit< tt, lit< tt)
some_bit (suc (suc zero)) h = (lit< tt, lit< tt)
some_bit (suc (suc (suc zero))) h = (lit< tt, lit< tt)
some_bit (suc (suc (suc (suc zero)))) h = (lit< tt, lit< tt)
some_bit (suc (suc (suc (suc (suc zero))))) h = (lit< tt, lit< tt)
some_bit (suc (suc (suc (suc (suc (suc zero)))))) h = (lit< tt, lit< tt)
some_bit (suc (suc (suc (suc (suc (suc (suc r))))))) h = absurd (omega arith)

module _ (cells : List ℕ) (len q m : ℕ) (b : IsBuilt cells len) (h : q < map_limit) (some : 0 < m) where
  abbrev made : ℕ
  made = bit_or (get_or cells q 0) m

  needed_by : (max len (q + 1) - 1 ≡ q) ⊎ (max len (q + 1) - 1 ≡ q → ⊥) → 1 < max len (q + 1) → get_or (set cells q made) (max len (q + 1) - 1) 0 ≢ 0
  needed_by (inl e) many z =
      let v : get_or (set cells q made) q 0 ≡ made = get_or-set_same cells q made 0 (omega (arith, b.count)) in
      let w : get_or (set cells q made) q 0 ≡ 0 = subst (λ n. get_or (set cells q made) n 0 ≡ 0) e z in
      absurd (omega (arith, le_or_r (get_or cells q 0) m))
  needed_by (inr n) many z =
      let e : max len (q + 1) ≡ len = omega arith in
      let o : get_or (set cells q made) (max len (q + 1) - 1) 0 ≡ get_or cells (max len (q + 1) - 1) 0 =
      get_or-set_other cells q (max len (q + 1) - 1) made 0 n in
      b.needed (omega arith) (subst (λ n. get_or cells (n - 1) 0 ≡ 0) e (sym o ∙ z))

  pub built_more : m < 128 → IsBuilt (set cells q made) (max len (q + 1))
  built_more small =
      let old : get_or cells q 0 < 128 = b.unstopped q 0 (omega (arith, b.count)) in
      record {
        count = length-set cells q made ∙ b.count;
        some = omega (arith, b.some);
        few = omega (arith, b.few);
        unstopped = All-set (λ byte. byte < 128) cells q made (or_lt 7 (get_or cells q 0) m old small) b.unstopped;
        blank = λ k f. let n : k ≢ q = omega arith in get_or-set_other cells q k made 0 n ∙ b.blank k (omega arith);
        needed = needed_by (cases_eq (max len (q + 1) - 1) q);
      }
