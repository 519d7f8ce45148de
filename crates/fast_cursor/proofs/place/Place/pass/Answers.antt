-- The bit is used first, if there is one.
use Rattle.std.proofs.Common.{sym, ap, ◌∙◌}
use Rattle.std.specs.Prelude.{ℕ, drop, List, if◌then◌else◌}
use Rattle.fast_wire.specs.meaning.Maps.{later_bits}
use Rattle.fast_cursor.specs.device.Cursors.{CursorData, bits_left}
use Rattle.fast_cursor.specs.device.Places.{place_left, at_place}
use Rattle.fast_cursor.proofs.place.Place.pass.Goals as goal

pub returns-then-has_bit-clause-past : goal.returns-then-has_bit-clause-past
returns-then-has_bit-clause-past c d =
    let used = c.use_bit.new.self in
    let gone = c.advance.ensures.left d in
    gone
    ∙ ap (λ (ns : List ℕ). record d { left = drop 1 ns; used = (at_place d used).used }) c.use_bit.ensures.left
    ∙ ap (λ (n : ℕ). record d { left = drop 1 (place_left c.args.self.now); used = n }) (sym (ap (λ (x : CursorData). x.used) gone))

pub returns-then-has_bit-clause-bits : goal.returns-then-has_bit-clause-bits
returns-then-has_bit-clause-bits c d h =
    ap bits_left (c.advance.ensures.left d)
    ∙ c.use_bit.ensures.bits d h
    ∙ sym (ap (λ b. if b then later_bits (bits_left (at_place d c.args.self.now)) else bits_left (at_place d c.args.self.now)) c.if-has_bit.true)

pub returns-clause-past : goal.returns-clause-past
returns-clause-past c d =
    let gone = c.advance-2.ensures.left d in
    gone
    ∙ ap (λ (n : ℕ). record d { left = drop 1 (place_left c.args.self.now); used = n }) (sym (ap (λ (x : CursorData). x.used) gone))

pub returns-clause-bits : goal.returns-clause-bits
returns-clause-bits c d h =
    ap bits_left (c.advance-2.ensures.left d)
    ∙ sym (ap (λ b. if b then later_bits (bits_left (at_place d c.args.self.now)) else bits_left (at_place d c.args.self.now)) c.if-has_bit.false)
