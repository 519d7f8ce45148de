-- Bits have a map, or there is a set one behind the last that a map can have.
use Rattle.std.proofs.Common.{◌≡◌, ◌⊎◌, inl, inr, ℕ, zero, suc, ◌<◌, ◌≤◌, List, [], ◌∷◌, refl, arith}
use Rattle.std.specs.Prelude.{Bool, true, false, slice_index_or}
use Rattle.std.proofs.lemmas.List.{get_or_past}
use Rattle.fast_wire.specs.meaning.Maps.{bits}
use Rattle.fast_spelling.specs.meaning.Encoding.{ShortestMap}
use Rattle.fast_spelling.specs.meaning.Refusals.{HaveNoMap}
use Rattle.fast_spelling.proofs.bytes.Bits.{length_bits}
use Rattle.fast_spelling.proofs.again.MapsAgain.{mapped}

-- A bit is set from this one on, or none is.
late : (n : ℕ) (b : List Bool) → ((i : ℕ) × (n ≤ i) × (slice_index_or b i false ≡ true)) ⊎ ((i : ℕ) → slice_index_or b i false ≡ true → i < n)
late n [] = inr (λ i e. absurd (cc e))
late zero (true ∷ b) = inl (0, omega arith, refl)
late zero (false ∷ b) = by (late zero b)
  where
    before : ((i : ℕ) → slice_index_or b i false ≡ true → i < 0) → (i : ℕ) → slice_index_or (false ∷ b) i false ≡ true → i < 0
    before f zero e = absurd (cc e)
    before f (suc i) e = absurd (let h : i < 0 = f i e in omega (arith, h))

    by : ((i : ℕ) × (0 ≤ i) × (slice_index_or b i false ≡ true)) ⊎ ((i : ℕ) → slice_index_or b i false ≡ true → i < 0)
        → ((i : ℕ) × (0 ≤ i) × (slice_index_or (false ∷ b) i false ≡ true)) ⊎ ((i : ℕ) → slice_index_or (false ∷ b) i false ≡ true → i < 0)
    by (inl (i, h, e)) = inl (suc i, omega arith, e)
    by (inr f) = inr (before f)
late (suc n) (x ∷ b) = by (late n b)
  where
    before : ((i : ℕ) → slice_index_or b i false ≡ true → i < n) → (i : ℕ) → slice_index_or (x ∷ b) i false ≡ true → i < suc n
    before f zero e = omega arith
    before f (suc i) e = let h : i < n = f i e in omega (arith, h)

    by : ((i : ℕ) × (n ≤ i) × (slice_index_or b i false ≡ true)) ⊎ ((i : ℕ) → slice_index_or b i false ≡ true → i < n)
        → ((i : ℕ) × (suc n ≤ i) × (slice_index_or (x ∷ b) i false ≡ true)) ⊎ ((i : ℕ) → slice_index_or (x ∷ b) i false ≡ true → i < suc n)
    by (inl (i, h, e)) = inl (suc i, omega (arith, h), e)
    by (inr f) = inr (before f)

pub some_map : (b : List Bool) → ((m : List ℕ) × ShortestMap true b m) ⊎ HaveNoMap b
some_map b = by (late 1022 b)
  where
    none : (i : ℕ) → 1022 ≤ i → slice_index_or b i false ≡ true → HaveNoMap b
    none i h e m form same =
        let past : slice_index_or (bits m) i false ≡ false = get_or_past (bits m) i false (omega (arith, length_bits m, form.short, h)) in
        absurd (cc (past, same i, e))

    by : ((i : ℕ) × (1022 ≤ i) × (slice_index_or b i false ≡ true)) ⊎ ((i : ℕ) → slice_index_or b i false ≡ true → i < 1022)
        → ((m : List ℕ) × ShortestMap true b m) ⊎ HaveNoMap b
    by (inl (i, h, e)) = inr (none i h e)
    by (inr few) = let (m, form, same) = mapped b few in inl (m, (form, same))
