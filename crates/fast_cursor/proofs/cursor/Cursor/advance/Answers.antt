use Rattle.std.proofs.Common.{ap, sym, subst, ◌∙◌, ◌≡◌, ◌<◌, ℕ, List, length, drop}
use Rattle.fast_cursor.specs.device.Runs.{run_at}
use Rattle.fast_cursor.specs.device.Cursors.{CursorData}
use Rattle.fast_cursor.specs.device.Segments.{cursor_data}
use Rattle.fast_cursor.proofs.Runs.{run-next, run-goes_on}
use Rattle.fast_cursor.proofs.cursor.Cursor.advance.Goals as goal

pub invariant_of-self : goal.invariant_of-self
invariant_of-self c =
    let left : c.args.self.now.left ≡ run_at c.self.inside.ops.now c.self.inside.ip = ap (λ (d : CursorData). d.left) (sym c.self.view_is) in
    let some : 0 < length (run_at c.self.inside.ops.now c.self.inside.ip) = subst (λ (ns : List ℕ). 0 < length ns) left c.requires in
    record {
      within = c.self.invariant.within;
      cells = c.self.invariant.cells;
      starts = c.self.invariant.starts;
      place = c.self.invariant.place;
      around = c.self.invariant.around;
      rest = c.self.invariant.rest;
      numbered = c.self.invariant.numbered;
      run = run-goes_on c.self.inside.ops.now c.self.inside.ip some c.self.invariant.run;
      behind = c.self.invariant.behind;
    }

pub returns : goal.returns
returns c =
    let left : c.args.self.now.left ≡ run_at c.self.inside.ops.now c.self.inside.ip = ap (λ (d : CursorData). d.left) (sym c.self.view_is) in
    let some : 0 < length (run_at c.self.inside.ops.now c.self.inside.ip) = subst (λ (ns : List ℕ). 0 < length ns) left c.requires in
    ap (λ (ns : List ℕ). record (cursor_data c.self.inside) { left = ns }) (run-next c.self.inside.ops.now c.self.inside.ip some)
    ∙ ap (λ (d : CursorData). record d { left = drop 1 d.left }) c.self.view_is
