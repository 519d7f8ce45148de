use Rattle.fast_cursor.proofs.MapMarks.{place-none}
use Rattle.fast_cursor.proofs.cursor.Cursor.clear_map.Goals as goal

pub invariant_of-self : goal.invariant_of-self
invariant_of-self c = record {
  within = c.self.invariant.within;
  cells = c.self.invariant.cells;
  starts = c.self.invariant.starts;
  place = place-none;
  around = c.self.invariant.around;
  rest = c.self.invariant.rest;
  numbered = c.self.invariant.numbered;
  run = c.self.invariant.run;
  behind = c.self.invariant.behind;
}
