use Rattle.std.proofs.Common.{arith, rules}
use Rattle.fast_cursor.proofs.MapMarks.{place-none}
use Rattle.fast_cursor.proofs.cursor.Cursor.new.Goals as goal

pub invariant_of-result : goal.invariant_of-result
invariant_of-result c = record {
  within = omega arith;
  cells = search rules;
  starts = omega arith;
  place = place-none;
  around = tt;
  rest = c.requires.rest;
  numbered = c.requires.numbered;
  run = c.requires.rest.run;
  behind = tt;
}
