use Rattle.std.proofs.Common.{sym, ap, ◌∙◌, ◌≡◌, arith, length, eq-eqb}
use Rattle.std.proofs.lemmas.Bool.Decides.{nat_tests}
use Rattle.std.proofs.lemmas.List.{nil_from_length}
use Rattle.fast_cursor.specs.device.Cursors.{CursorData}
use Rattle.fast_cursor.proofs.Segments.{length-open}
use Rattle.fast_cursor.proofs.cursor.Cursor.is_outermost.Goals as goal

pub returns : goal.returns
returns c =
    let e : length c.args.self.now.frames ≡ c.self.inside.level
    = ap (λ (d : CursorData). length d.frames) (sym c.self.view_is) ∙ length-open c.self.inside c.self.invariant in (
      λ h. let none : c.self.inside.level ≡ 0 = grind (arith, nat_tests, h) in
          nil_from_length c.args.self.now.frames (e ∙ none),
      λ h. eq-eqb c.self.inside.level 0 (sym e ∙ ap length h),
    )
