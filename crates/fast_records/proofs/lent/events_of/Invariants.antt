-- The records so far are those of the events so far.
use Rattle.std.proofs.Common.{map, take}
use Rattle.fast_stream.specs.meaning.Handed.{event_data}
use Rattle.fast_records.specs.meaning.Lent.{AreTold}
use Rattle.fast_records.proofs.lent.events_of.Given as goal

abbrev pub invariant-loop-i : goal.invariant-loop-i
invariant-loop-i l = AreTold l.texts (take l.i l.records) (map event_data l.events.items)
