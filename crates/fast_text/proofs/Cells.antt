-- The digits of a value in cells that were LF, with what stands before them.
use Rattle.std.proofs.Common.{◌≡◌, ◌≤◌, ◌<◌, ◌+◌, ◌-◌, ℕ, suc, List, [], ◌∷◌, ◌++◌, length, take, drop, slice_set, ap, ◌∙◌, arith}
use Rattle.std.proofs.lemmas.List.{take-take, drop-set, drop-set-add, drop_more}
use Rattle.std.proofs.Math.Seq.{take-append-add}

-- two cells that are written
two_set : (buf : List ℕ) (at a b : ℕ) → at + 1 < length buf → drop at (slice_set (slice_set buf at a) (at + 1) b) ≡ a ∷ b ∷ drop (at + 1 + 1) buf
two_set buf at a b room =
    let first : at < length buf = omega (arith, room) in
    drop-set-add at (slice_set buf at a) 1 b
    ∙ ap (λ (xs : List ℕ). slice_set xs 1 b) (drop-set buf at a first)
    ∙ ap (λ (xs : List ℕ). a ∷ slice_set xs 0 b) (drop_more buf (at + 1) 0 room)

-- the front of them, up to the LF
pub value_cells : (buf digits more : List ℕ) (at a b c count room : ℕ) → at + 1 < length buf → drop (at + 1 + 1) buf ≡ digits ++ c ∷ more
    → count ≡ suc (suc (length digits + 1)) → count ≤ room
    → take count (take room (drop at (slice_set (slice_set buf at a) (at + 1) b))) ≡ a ∷ b ∷ (digits ++ c ∷ [])
value_cells buf digits more at a b c count room long written is few =
    take-take count room _ few
    ∙ ap (take count) (two_set buf at a b long ∙ ap (λ (xs : List ℕ). a ∷ b ∷ xs) written)
    ∙ ap (λ (n : ℕ). take n (a ∷ b ∷ (digits ++ c ∷ more))) is
    ∙ ap (λ (xs : List ℕ). a ∷ b ∷ xs) (take-append-add digits (c ∷ more) 1)
