-- The part stands behind what is kept.
use Rattle.std.proofs.Common.{◌≡◌, ◌-◌, ◌≤◌, arith, length, take}
use Rattle.std.proofs.lemmas.List.{length-take-le}
use Rattle.fast_dict.specs.meaning.Operators.{append_to}
use Rattle.fast_items.proofs.JoinedTexts.{keeps_front}
use Rattle.fast_items.proofs.joined_parts.append_part.Goals as goal

pub returns-clause-joined : goal.returns-clause-joined
returns-clause-joined c =
    let base = c.in_ok-base.base.now in
    let keep = length base - c.args.dropped in
    let within : c.args.dropped ≤ length base = c.if-dropped-base.false in
    let len : length (take keep base) ≡ keep = length-take-le keep base (omega arith) in
    record {
      base = base;
      held = c.in_ok-base.ensures.held;
      kept = append_to (take keep base);
      keeps = keeps_front base c.args.dropped within;
      fits = rw len c.if-part-room.false;
      checked = c.are_texts_of.ensures c.if-not-are_texts_of.false;
      becomes = c.extend_text.ensures.entry base c.in_ok-base.ensures.held (omega arith);
    }
