-- A turn at a field moves past it.
use Rattle.fast_machine.proofs.machine.Machine.turn_at_field.Goals as goal

pub returns-clause-past : goal.returns-clause-past
returns-clause-past g c e = let (at, is, some, next) = c.requires.next in (some, c.begin_field.ensures.past e)
