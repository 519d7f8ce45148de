-- What is kept and the tail have room together.
use Rattle.std.proofs.Common.{arith, sym, length-append, List, ℕ}
use Rattle.fast_items.specs.device.TextItems.{with_last}
use Rattle.fast_items.proofs.TextItems.{tail_fits}
use Rattle.fast_items.proofs.long_ascii.tail_long.Goals as goal

pub append-requires : goal.append-requires
append-requires c =
    let part : List ℕ = with_last c.args.front.now c.args.last in
    let h = tail_fits c.args.slots.now c.args.entry c.kept_ascii-base.result.now c.tail_keeps.result.now part c.kept_ascii-base.ensures
    (c.tail_keeps.ensures part (sym c.size_of.ensures)) c.requires.fits in
    let r = c.requires.room in
    rw (c.clear.ensures.text, c.clear.ensures.capacity) (omega (arith, h, r))

pub append_text-requires : goal.append_text-requires
append_text-requires c =
    let part : List ℕ = with_last c.args.front.now c.args.last in
    let h = tail_fits c.args.slots.now c.args.entry c.kept_ascii-base.result.now c.tail_keeps.result.now part c.kept_ascii-base.ensures
    (c.tail_keeps.ensures part (sym c.size_of.ensures)) c.requires.fits in
    let r = c.requires.room in
    rw (c.append.ensures.text, c.append.ensures.capacity, c.clear.ensures.text, c.clear.ensures.capacity) (omega (arith, h, r))

pub set_ascii-requires-clause-fits : goal.set_ascii-requires-clause-fits
set_ascii-requires-clause-fits c =
    let part : List ℕ = with_last c.args.front.now c.args.last in
    let h = tail_fits c.args.slots.now c.args.entry c.kept_ascii-base.result.now c.tail_keeps.result.now part c.kept_ascii-base.ensures
    (c.tail_keeps.ensures part (sym c.size_of.ensures)) c.requires.fits in
    rw (c.as_slice.ensures, c.append_text.ensures.text, c.append.ensures.text, c.clear.ensures.text, length-append c.tail_keeps.result.now part) h
