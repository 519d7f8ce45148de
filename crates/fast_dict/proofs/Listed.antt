-- What the entries of a dictionary that grows hold.
use Rattle.std.proofs.Common.{◌≡◌, ℕ, ◌-◌, ◌≤◌, List, [], ◌∷◌, ◌++◌, length, map, take, refl, ap, sym, ◌∙◌, arith}
use Rattle.std.specs.Prelude.{zero, suc, replicate, slice_index_or, slice_set}
use Rattle.std.proofs.lemmas.List.{length-map}
use Rattle.std.proofs.Math.ListN.{get_or-map}
use Rattle.std.proofs.Math.Numerals.{sub-one}
use Rattle.fast_dict.specs.meaning.Dictionary.{undefined, fresh, reset}
use Rattle.fast_dict.specs.meaning.Held.{held_data, text_size}
use Rattle.fast_dict.specs.declared.held.Held.{Held}
use Rattle.fast_dict.specs.declared.held.Held.TheVariants.{Undefined}

-- entries without a value are undefined
pub fresh-held : (n : ℕ) → map held_data (replicate n Undefined) ≡ fresh n
fresh-held zero = refl
fresh-held (suc n) = ap (λ ps. undefined ∷ ps) (fresh-held n)

-- and have no text
fresh_fits : (n size i : ℕ) → text_size (held_data (slice_index_or (replicate n Undefined) i Undefined)) ≤ size
fresh_fits zero size i = omega arith
fresh_fits (suc n) size zero = omega arith
fresh_fits (suc n) size (suc i) = fresh_fits n size i

-- all entries but the first
pub reset-held : (xs : List Held) → map held_data (take 1 xs ++ replicate (length xs - 1) Undefined) ≡ reset (map held_data xs)
reset-held [] = refl
reset-held (x ∷ xs) = rw sub-one (ap (λ ps. held_data x ∷ ps) (fresh-held (length xs) ∙ ap fresh (sym (length-map xs held_data))))

-- a reset of the others keeps what fits
pub others_fit : (xs : List Held) (n size : ℕ) → ((i : ℕ) → text_size (held_data (slice_index_or xs i Undefined)) ≤ size) → (i : ℕ)
    → text_size (held_data (slice_index_or (take 1 xs ++ replicate n Undefined) i Undefined)) ≤ size
others_fit [] n size all i = fresh_fits n size i
others_fit (x ∷ xs) n size all zero = all zero
others_fit (x ∷ xs) n size all (suc i) = fresh_fits n size i

-- entries that hold the same fit as well
pub same_fit : (xs ys : List Held) (size : ℕ) → map held_data ys ≡ map held_data xs
    → ((i : ℕ) → text_size (held_data (slice_index_or xs i Undefined)) ≤ size) → (i : ℕ)
    → text_size (held_data (slice_index_or ys i Undefined)) ≤ size
same_fit xs ys size e all i =
    let same : held_data (slice_index_or ys i Undefined) ≡ held_data (slice_index_or xs i Undefined) =
    sym (get_or-map held_data ys i Undefined) ∙ ap (λ ps. slice_index_or ps i undefined) e ∙ get_or-map held_data xs i Undefined in
    rw same (all i)

-- One entry more that fits.
pub set_fits : (xs : List Held) (i : ℕ) (x : Held) (size : ℕ) → ((j : ℕ) → text_size (held_data (slice_index_or xs j Undefined)) ≤ size)
    → text_size (held_data x) ≤ size → (j : ℕ) → text_size (held_data (slice_index_or (slice_set xs i x) j Undefined)) ≤ size
set_fits [] i x size all h j = all j
set_fits (y ∷ xs) zero x size all h zero = h
set_fits (y ∷ xs) zero x size all h (suc j) = all (suc j)
set_fits (y ∷ xs) (suc i) x size all h zero = all zero
set_fits (y ∷ xs) (suc i) x size all h (suc j) = set_fits xs i x size (λ k. all (suc k)) h j
