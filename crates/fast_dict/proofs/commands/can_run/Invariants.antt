-- The commands so far meet their conditions.
use Rattle.std.proofs.Common.{ℕ, ◌<◌, map, length}
use Rattle.std.specs.Prelude.{slice_index_or}
use Rattle.fast_dict.specs.meaning.Commands.{CommandData, command_data, IsRunnable}
use Rattle.fast_dict.proofs.commands.can_run.Given as goal

abbrev pub invariant-loop-command : goal.invariant-loop-command
invariant-loop-command g l = (k : ℕ) (d : CommandData) → k < l.command-index
    → IsRunnable (g.D.Store.terms l.store) (length (g.D.Store.dictionary l.store)) (slice_index_or (map command_data l.commands) k d)
