use Rattle.std.proofs.Common.{refl, sym, ap, ◌∙◌}
use Rattle.fast_dict.specs.meaning.Dictionary.{fresh}
use Rattle.fast_dict.specs.meaning.Slots.{slots_sized}
use Rattle.fast_cursor.specs.device.Cursors.{resting}
use Rattle.fast_machine.proofs.machine.Machine.reset.Goals as goal

pub returns-clause-fresh : goal.returns-clause-fresh
returns-clause-fresh c set l h = record {
  waiting = refl;
  cursor = c.reset.ensures ∙ ap resting (sym c.reset.ensures);
  dictionary = c.reset_all.ensures.entries ∙ ap fresh (slots_sized c.args.self.now.slots ∙ h.entries);
  turns = c.none-self.ensures;
}
