use Rattle.std.proofs.Common.{◌≡◌, ℕ, ◌+◌, ◌*◌, ◌≤◌, List, ◌++◌, take}
use Rattle.fast_command.specs.meaning.Unhexing.{Unhexes, pending}
use Rattle.fast_command.proofs.unhexer.Unhexer.take.Given as goal

abbrev pub invariant-loop-character : goal.invariant-loop-character
invariant-loop-character l = record {
  unhexes : (t v : List ℕ) → Unhexes l.fn.self t v → Unhexes l.self (t ++ take l.character-index l.piece) (v ++ take l.count l.bytes);
  len : l.self.len ≡ l.fn.self.len + l.character-index;
  pairs : 2 * l.count + pending l.self ≤ l.character-index + pending l.fn.self;
}
