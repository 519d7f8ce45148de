use Rattle.std.proofs.Common.{◌∙◌, ap}
use Rattle.std.specs.Int.{w64, from_le_bytes}
use Rattle.fast_fronts.proofs.stop_bits.ShortEntities.{are_bytes}
use Rattle.fast_fronts.proofs.stop_bits.Tails.{raised, lowered}
use Rattle.fast_fronts.proofs.rest.tail_of.Goals as goal

pub returns-in-Some : goal.returns-in-Some
returns-in-Some c =
    let last = c.in-Some.ensures.cases in
    lowered c.from_le_bytes.result c.args.piece.now (are_bytes c.args.piece.now c.type_inv.piece) last.0
    (c.from_le_bytes.ensures ∙ ap (from_le_bytes w64) last.1.same)

pub returns-in-None : goal.returns-in-None
returns-in-None c = raised c.last_word.result c.args.piece.now (are_bytes c.args.piece.now c.type_inv.piece) c.in-None.ensures.cases c.last_word.ensures
