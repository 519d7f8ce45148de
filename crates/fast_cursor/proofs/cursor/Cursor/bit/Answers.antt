use Rattle.std.proofs.Common.{ap, ◌∙◌}
use Rattle.fast_wire.specs.meaning.Maps.{first_bit}
use Rattle.fast_cursor.specs.device.Cursors.{CursorData, bits_left}
use Rattle.fast_cursor.specs.device.Segments.{map_at}
use Rattle.fast_cursor.proofs.MapMarks.{word-top}
use Rattle.fast_cursor.proofs.cursor.Cursor.bit.Goals as goal

pub returns : goal.returns
returns c =
    let i = c.self.inside in
    word-top (map_at i.maps.items i.start i.map.len) i.map.end i.map.word c.self.invariant.place.is c.if-self.false
    ∙ ap (λ (d : CursorData). first_bit (bits_left d)) c.self.view_is
