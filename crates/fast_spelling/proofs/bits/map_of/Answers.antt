-- No map is longer, and at first no bit is set.
use Rattle.std.proofs.Common.{List, length, ap, ◌∙◌}
use Rattle.std.specs.Prelude.{Bool, false, slice_index_or}
use Rattle.std.proofs.lemmas.List.{take_all}
use Rattle.fast_spelling.proofs.bytes.Bits.{blank, blank_length, wide}
use Rattle.fast_spelling.proofs.bits.map_of.Goals as goal

pub loop-i-init : goal.loop-i-init
loop-i-init c = record {
  same = λ k. ap (λ (b : List Bool). slice_index_or b k false) c.new-map.ensures ∙ blank 1022 k;
  long = ap (λ (b : List Bool). length b) c.new-map.ensures ∙ blank_length 1022;
}

pub returns-then-i-ge-MOST_BITS-clause-none : goal.returns-then-i-ge-MOST_BITS-clause-none
returns-then-i-ge-MOST_BITS-clause-none c = wide c.args.presence.now c.loop-i.i c.if-bit.true c.if-i-ge-MOST_BITS.true

pub bounds-presence-i : goal.bounds-presence-i
bounds-presence-i c = c.loop-i-test.true

pub returns-clause-map : goal.returns-clause-map
returns-clause-map c = c.finish.ensures.map

pub returns-clause-bits : goal.returns-clause-bits
returns-clause-bits c = λ i. c.finish.ensures.bits i ∙ c.loop-i.invariant.same i
    ∙ ap (λ (b : List Bool). slice_index_or b i false) (take_all c.loop-i.i c.args.presence.now c.loop-i-test.false)
