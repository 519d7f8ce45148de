use Rattle.std.proofs.Common.{refl, ap, ◌∙◌}
use Rattle.std.specs.Int.{from_bool}
use Rattle.fast_records.specs.meaning.Status.{status_number, ended}
use Rattle.fast_c.proofs.decoding.feed.Goals as goal

pub returns : goal.returns
returns c =
    let fed = c.feed_records-fed in
    record {
      whole = λ e w es led. record {
        delivers = fed.ensures.delivers w es led;
        room = fed.ensures.room w es led;
        status = c.number-status.ensures ∙ ap status_number (c.from.ensures ∙ ap ended (fed.ensures.outcome w es led));
      };
      cut = λ e. absurd (cc (e, c.if-decoding.false));
      stays = refl;
      taken = fed.ensures.taken;
      consumed = c.consumed-2.ensures;
      between = λ e. c.from-2.ensures ∙ ap from_bool c.between.ensures;
    }
