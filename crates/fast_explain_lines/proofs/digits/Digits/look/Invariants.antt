use Rattle.std.proofs.Common.{◌≡◌}
use Rattle.fast_explain_lines.specs.meaning.Reading.{inner_of}
use Rattle.fast_explain_lines.proofs.digits.Digits.look.Given as goal

abbrev pub invariant-loop-byte : goal.invariant-loop-byte
invariant-loop-byte g l = inner_of l.self ≡ inner_of l.fn.self
