-- The bits before the index are shifted out.
use Rattle.std.proofs.Common.{◌≡◌, ◌≤◌, ◌+◌, ◌-◌, ◌*◌, ◌%◌, ◌^◌, ℕ, List, ap, sym, ◌∙◌, arith}
use Rattle.std.specs.Prelude.{Bool, false, slice_index_or}
use Rattle.std.specs.Int.Count.{count_leading_zeros}
use Rattle.fast_spelling.specs.device.Presence.{low_bits}
use Rattle.fast_spelling.proofs.bytes.Presence.{few_zeros, later_bits, length_low, top_bits}
use Rattle.fast_spelling.proofs.bits.top_of.Goals as goal
use Rattle.fast_spelling.proofs.bits.top_of.Goals.{Start}

within : (c : Start) → count_leading_zeros 64 c.args.word + c.args.from ≤ 63
within c =
    let fits = c.ranges.word.fits in
    let zeros = few_zeros c.args.word c.requires.some (omega (arith, fits)) in
    let size = length_low (63 - count_leading_zeros 64 c.args.word) c.args.word in
    let few = c.requires.few in
    omega (arith, zeros, size, few)

pub overflow_add-result : goal.overflow_add-result
overflow_add-result c = let few = within c in omega (arith, few)

pub overflow_shl-result : goal.overflow_shl-result
overflow_shl-result c = let few = within c in omega (arith, few)

pub returns : goal.returns
returns c =
    let w = c.args.word in
    let s : ℕ = count_leading_zeros 64 w + c.args.from in
    let few = within c in
    let fits = c.ranges.word.fits in
    let back : 63 - (63 - s) ≡ s = omega (arith, few) in
    λ i. ap (λ (k : ℕ). slice_index_or (low_bits 64 (w * 2 ^ k % 2 ^ 64 * 2 % 2 ^ 64)) i false) (sym back)
    ∙ top_bits w (63 - s) (omega (arith, fits)) (omega arith) i
    ∙ ap (λ (l : List Bool). slice_index_or l i false) (sym (later_bits w c.args.from (omega (arith, few))))
