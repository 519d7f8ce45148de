use Rattle.std.proofs.Common.{◌≡◌, map}
use Rattle.std.specs.BTreeMap.{keys}
use Rattle.fast_notation.proofs.texts.TableKeys.{only_strings}
use Rattle.fast_notation.proofs.keys.has_only.Given as goal

abbrev pub invariant-loop-key : goal.invariant-loop-key
invariant-loop-key l = record {
  left : only_strings (map (λ k. k.now) l.keys) l.key-iterator ≡ only_strings (map (λ k. k.now) l.keys) (keys l.table);
}
