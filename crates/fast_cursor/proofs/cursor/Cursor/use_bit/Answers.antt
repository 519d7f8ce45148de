use Rattle.std.proofs.Common.{sym, ap, subst, ◌∙◌}
use Rattle.fast_wire.specs.meaning.Maps.{later_bits}
use Rattle.fast_cursor.specs.device.Cursors.{CursorData, bits_left}
use Rattle.fast_cursor.proofs.NextBits.{IsReady, ready-here, ready-behind, behind-cursor, behind-bits}
use Rattle.fast_cursor.proofs.cursor.Cursor.use_bit.Goals as goal
use Rattle.fast_cursor.proofs.cursor.Cursor.use_bit.Goals.{then-self, else-self}

pub invariant_of-self : goal.invariant_of-self
invariant_of-self c =
    let i = c.self.inside in
    let ready : IsReady i c.if-self.self-inside = elim c.if-self.branch [
      | then-self w ↦ subst (IsReady i) (sym w.self-inside-is)
          (ready-behind i w.refill.new.self c.self.invariant w.refill.ensures.place w.refill.ensures.left w.refill.ensures.len
          w.refill.ensures.bits)
      | else-self w ↦ subst (IsReady i) (sym w.self-inside-is) (ready-here i c.self.invariant w.if-self.false)
    ] in
    behind-cursor i c.if-self.self-inside ready

pub returns-clause-bits : goal.returns-clause-bits
returns-clause-bits c =
    let i = c.self.inside in
    let ready : IsReady i c.if-self.self-inside = elim c.if-self.branch [
      | then-self w ↦ subst (IsReady i) (sym w.self-inside-is)
          (ready-behind i w.refill.new.self c.self.invariant w.refill.ensures.place w.refill.ensures.left w.refill.ensures.len
          w.refill.ensures.bits)
      | else-self w ↦ subst (IsReady i) (sym w.self-inside-is) (ready-here i c.self.invariant w.if-self.false)
    ] in
    behind-bits i c.if-self.self-inside ready ∙ ap (λ (d : CursorData). later_bits (bits_left d)) c.self.view_is
