use Rattle.std.proofs.Common.{refl}
use Rattle.std.proofs.lemmas.List.Elements.{All-nil}
use Rattle.fast_lines.specs.meaning.Values.{HoldsBytes}
use Rattle.fast_command.proofs.Progressing.{no_fault_yet}
use Rattle.fast_command.proofs.show.Show.of.Goals as goal

pub returns-in-Ok-clause-made : goal.returns-in-Ok-clause-made
returns-in-Ok-clause-made c = record {
  names = rw c.in-Ok.is at c.requires.set;
  set = refl;
  limits = refl;
  so = c.requires.new;
  holds = All-nil HoldsBytes;
  good = no_fault_yet _ c.requires.new;
  hex_is = refl;
  taken = c.requires.taken;
}
