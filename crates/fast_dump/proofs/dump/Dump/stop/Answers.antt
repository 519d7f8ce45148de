use Rattle.std.proofs.Common.{refl, inl, inr}
use Rattle.fast_lines.specs.meaning.Lines.{lines}
use Rattle.fast_dump.proofs.Closing.{page_whole, torn_rows}
use Rattle.fast_dump.proofs.dump.Dump.stop.Goals as goal

pub returns-in-Ok : goal.returns-in-Ok
returns-in-Ok g c first t l b es p =
    inl (
      refl,
      page_whole _ _ first.held first.had_failed t _ b (lines t es)
          (c.in-Ok.ensures.rows first.held first.had_failed t b (lines t es) p.page) c.in-Ok.ensures.empty,
    )

pub returns-in-Err : goal.returns-in-Err
returns-in-Err g c first t l b es p =
    let torn = c.in-Err.ensures.rows first.held first.had_failed t b (lines t es) p.page in
    inr (refl, (torn.why, torn_rows _ _ first.held first.had_failed t _ b (lines t es) torn))
