use Rattle.std.proofs.Common.{refl}
use Rattle.std.proofs.lemmas.Bool.{false≢true}
use Rattle.fast_text.proofs.Writing.{put_kept}
use Rattle.fast_text.proofs.line_writer.LineWriter.put_behind.Goals as goal

pub keep-requires-clause-room : goal.keep-requires-clause-room
keep-requires-clause-room g c = c.has_room.ensures.0 c.if-has_room.true

pub keep-requires-clause-front : goal.keep-requires-clause-front
keep-requires-clause-front g c = c.requires

pub invariant_of-self : goal.invariant_of-self
invariant_of-self g c = record { free = λ h. absurd (false≢true h) }

pub invariant_of-self-else-has_room : goal.invariant_of-self-else-has_room
invariant_of-self-else-has_room g c = record { free = λ h. absurd (false≢true h) }

pub returns-then-has_room : goal.returns-then-has_room
returns-then-has_room g c = put_kept g.T.Target.written g.T.Target.has_failed c.args.self.now _ _ refl refl c.keep.ensures refl refl

pub returns-else-has_room : goal.returns-else-has_room
returns-else-has_room g c = let e = c.put_past.ensures in record { same_target = e.same_target; same_room = e.same_room; puts = e.puts }
