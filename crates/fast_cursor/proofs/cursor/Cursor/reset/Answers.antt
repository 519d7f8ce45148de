use Rattle.std.proofs.Common.{arith}
use Rattle.fast_cursor.proofs.MapMarks.{place-none}
use Rattle.fast_cursor.proofs.cursor.Cursor.reset.Goals as goal

pub invariant_of-self : goal.invariant_of-self
invariant_of-self c = record {
  within = omega arith;
  cells = c.self.invariant.cells;
  starts = omega arith;
  place = place-none;
  around = tt;
  rest = c.self.invariant.rest;
  numbered = c.self.invariant.numbered;
  run = c.self.invariant.rest.run;
  behind = tt;
}
