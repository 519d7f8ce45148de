-- The entries so far are undefined.
use Rattle.std.proofs.Common.{◌≡◌, ◌++◌, drop}
use Rattle.std.specs.Prelude.{replicate}
use Rattle.fast_dict.specs.declared.held.Held.TheVariants.{Undefined}
use Rattle.fast_dict.proofs.lists.clear.Given as goal

abbrev pub invariant-loop-held : goal.invariant-loop-held
invariant-loop-held l = l.entries ≡ replicate l.held-index Undefined ++ drop l.held-index l.initial.entries
