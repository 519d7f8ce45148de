use Rattle.std.proofs.Common.{◌≡◌, leb, not, sym, ap, ◌∙◌, arith}
use Rattle.std.specs.List.{prefix_len}
use lib.Count.{count_trailing_zeros}
use lib.Lanes.{chunk}
use Rattle.std.proofs.lemmas.Simd.{length-chunk, leading_from_mask_l, trailing_mask_l}
use Rattle.fast_wire.proofs.stop_bits.Blocks.{mask_is, before_stop, at_stop, small_prefix}
use Rattle.fast_wire.proofs.stops.stop_in_block.Goals as goal

pub returns-then-hits-eq0 : goal.returns-then-hits-eq0
returns-then-hits-eq0 c =
    let s = c.args.s.now in
    let at = c.args.at in
    let long = length-chunk at 16 s c.requires in
    let e : 16 ≡ prefix_len (λ x. not (leb 128 x)) (chunk at 16 s) =
    sym (leading_from_mask_l (leb 128) (chunk at 16 s) (sym (mask_is (chunk at 16 s) long) ∙ c.if-hits-eq0.true) ∙ long) in
    record {
      within = omega arith;
      before = λ k. before_stop s at _ k e (omega arith);
      stop = at_stop s at _ c.requires e;
      exact = e;
    }

pub returns-else-hits-eq0 : goal.returns-else-hits-eq0
returns-else-hits-eq0 c =
    let s = c.args.s.now in
    let at = c.args.at in
    let long = length-chunk at 16 s c.requires in
    let hits = mask_is (chunk at 16 s) long in
    let e = ap (count_trailing_zeros 64) hits ∙ trailing_mask_l (leb 128) 64 (chunk at 16 s) (omega arith) (omega arith) in
    record {
      within = small_prefix s at _ c.requires e;
      before = λ k. before_stop s at _ k e (small_prefix s at _ c.requires e);
      stop = at_stop s at _ c.requires e;
      exact = e;
    }
