use Rattle.std.proofs.Common.{sym, ap, ◌∙◌, slice_get}
use Rattle.std.proofs.lemmas.Option.{slice_get-get_or}
use Rattle.fast_cursor.specs.device.Cursors.{CursorData}
use Rattle.fast_cursor.proofs.Runs.{run-within}
use Rattle.fast_cursor.proofs.cursor.Cursor.op.Goals as goal

pub returns-clause-within : goal.returns-clause-within
returns-clause-within c = (
  c.self.inside.ip,
  ap (λ (d : CursorData). slice_get d.ops c.self.inside.ip) (sym c.self.view_is)
      ∙ slice_get-get_or c.self.inside.ops.now c.self.inside.ip _ (run-within c.self.inside.ops.now c.self.inside.ip c.self.invariant.run),
)
