-- So many commands have been carried out, and the store takes what it took.
use Rattle.std.proofs.Common.{◌≡◌, take, map, length}
use Rattle.fast_dict.specs.meaning.Commands.{command_data, after_all}
use Rattle.fast_dict.proofs.commands.run.Given as goal

abbrev pub invariant-loop-count : goal.invariant-loop-count
invariant-loop-count g l = record {
  done : g.D.Store.dictionary l.store ≡ after_all (take l.count (map command_data l.commands)) (g.D.Store.dictionary l.fn.store);
  size : length (g.D.Store.dictionary l.store) ≡ length (g.D.Store.dictionary l.fn.store);
  same : g.D.Store.terms l.store ≡ g.D.Store.terms l.fn.store;
}
