-- A slice that is written to.
use Rattle.std.specs.Prelude.{ℕ, ◌-◌, length}
use Rattle.fast_text.specs.declared.streams.ToBytes.{ToBytes}

-- how many bytes there is room for
abbrev pub room_of : ToBytes → ℕ
room_of s = length s.cells.now - s.len
