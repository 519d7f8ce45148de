-- The messages that are read so far.
use Rattle.std.proofs.Common.{length, map}
use Rattle.fast_value.specs.meaning.Views.{message_data}
use Rattle.fast_template.specs.meaning.Flat.{tree_of}
use Rattle.fast_messages.specs.device.Cursors.{ahead}
use Rattle.fast_messages.specs.device.Progress.{AreMessagesRead}
use Rattle.fast_reading.proofs.messages.read_lines.Given as goal

abbrev pub invariant-loop-alloc : goal.invariant-loop-alloc
invariant-loop-alloc l = AreMessagesRead (tree_of l.templates) l.text (map message_data l.messages.items) l.at

abbrev pub decreases-loop-alloc : goal.decreases-loop-alloc
decreases-loop-alloc l = length (ahead l.at)
