-- Past the next instruction, a field.
use Rattle.std.proofs.Common.{ap, ◌∙◌}
use Rattle.std.specs.Prelude.{◌≡◌, ℕ, Bool, drop, if◌then◌else◌, List}
use Rattle.fast_wire.specs.meaning.Maps.{later_bits}
use Rattle.fast_value.specs.meaning.Limits.{Bounds}
use Rattle.fast_tree.specs.meaning.Tree.{FieldData, uses_bit}
use Rattle.fast_dict.specs.meaning.Dictionary.{Dictionary}
use Rattle.fast_stream.specs.device.Frames.{resume}
use Rattle.fast_cursor.specs.device.Cursors.{CursorData, bits_left}
use Rattle.fast_machine.specs.device.Passing.{state_past}
use Rattle.fast_machine.specs.device.Positions.{Set, body_in, frames_in, going_on}

-- What is to be read from there on.
pub passed_on : (set : Set) (l : Bounds) (d : Dictionary) (counted : ℕ) (c c' : CursorData) (f : FieldData) (b : Bool) → c' ≡ record c {
  left = drop 1 c.left;
  used = c'.used;
  ends = c'.ends;
}
    → bits_left c' ≡ (if b then later_bits (bits_left c) else bits_left c) → b ≡ uses_bit f
    → going_on set l d counted c' ≡ resume l (frames_in set c.frames) (body_in set (drop 1 c.left)) (state_past f d counted c)
passed_on set l d counted c c' f b past bits e =
    ap (λ (x : CursorData). resume l (frames_in set x.frames) (body_in set x.left) (record {
      context = record { dictionary = d; counted = counted };
      bits = bits_left c';
    })) past
    ∙ ap (λ (w : List Bool). resume l (frames_in set c.frames) (body_in set (drop 1 c.left)) (record {
      context = record { dictionary = d; counted = counted };
      bits = w;
    }))
    (bits ∙ ap (λ (u : Bool). if u then later_bits (bits_left c) else bits_left c) e)
