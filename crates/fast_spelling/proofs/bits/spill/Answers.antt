-- The bits go from the most significant one to the least.
use Rattle.std.proofs.Common.{◌++◌, ◌∷◌, [], ◌-◌, ◌/◌, ◌%◌, ◌^◌, ℕ, List, ap, sym, ◌∙◌, arith}
use Rattle.std.specs.Prelude.{Bool, nat_eq}
use Rattle.std.specs.Int.Count.{count_leading_zeros}
use Rattle.std.proofs.lemmas.List.{append-nil, append_assoc}
use Rattle.fast_spelling.specs.device.Presence.{low_bits}
use Rattle.fast_spelling.proofs.bytes.Presence.{all_bits, next_bit, no_bits}
use Rattle.fast_spelling.proofs.bits.spill.Goals as goal

pub loop-i-init : goal.loop-i-init
loop-i-init c =
    let more = c.args.more.now.items in
    sym (append-nil more) ∙ ap (λ (l : List Bool). more ++ l) (sym (no_bits (c.args.word / 2 ^ (63 - count_leading_zeros 64 c.args.word - 0))))

pub loop-i-preserved : goal.loop-i-preserved
loop-i-preserved c =
    let more = c.args.more.now.items in
    let n : ℕ = 63 - count_leading_zeros 64 c.args.word in
    let i = c.loop-i.i in
    let bit : Bool = nat_eq ((c.args.word / 2 ^ (n - 1 - i)) % 2) 1 in
    c.in_ok-push.ensures.items ∙ ap (λ (l : List Bool). l ++ bit ∷ []) c.loop-i.invariant
    ∙ append_assoc more (low_bits i (c.args.word / 2 ^ (n - i))) (bit ∷ [])
    ∙ ap (λ (l : List Bool). more ++ l) (next_bit c.args.word n i c.loop-i-test.true)

pub returns : goal.returns
returns c =
    let low = c.loop-i-test.false in
    let high = c.loop-i.auto.i-end in
    c.loop-i.invariant ∙ ap (λ (l : List Bool). c.args.more.now.items ++ l) (all_bits c.args.word c.loop-i.i (omega (arith, low, high)))
