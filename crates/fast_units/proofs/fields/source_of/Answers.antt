use Rattle.std.proofs.Common.{sym, ap, ◌∙◌}
use Rattle.fast_units.specs.device.Deciding.{source_of}
use Rattle.fast_units.proofs.Deciding.{source_at}
use Rattle.fast_units.proofs.fields.source_of.Goals as goal

pub returns-in-Some : goal.returns-in-Some
returns-in-Some c = source_at c.in-Some.number c.source.result c.source.ensures ∙ ap source_of (sym c.in-Some.is)
