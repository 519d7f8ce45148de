-- The position of a cursor in the innermost segment, apart from the cursor.
use Rattle.std.specs.Prelude.{◌≡◌, ◌≤◌, ℕ, List, drop, length}
use Rattle.fast_program.specs.declared.ops.Op.{Op}
use Rattle.fast_program.specs.device.Runs.{run_nodes, HasEnd}
use Rattle.fast_cursor.specs.device.Cursors.{CursorData}
use Rattle.fast_cursor.specs.device.MapPlaces.{used_at, IsWord}
use Rattle.fast_cursor.specs.declared.place.Place.{Place}

-- the nodes that are left at a position
abbrev pub place_left : Place → List ℕ
place_left p = run_nodes p.ahead.now

-- The cursor, at the position.
abbrev pub at_place : CursorData → Place → CursorData
at_place c p = record c { left = place_left p; used = used_at c.map c.ends p.word }

-- At least one bit is in the position's word.
abbrev pub HasBits : Place → Type 0
HasBits p = p.word ≡ 9223372036854775808 → ⊥

-- The ops ahead are the end of a program, where a run begins.
pub record IsAhead (ops ahead : List Op) : Type 0 where
  pub run : HasEnd ahead
  pub end : (n : ℕ) × (n ≤ length ops) × (ahead ≡ drop n ops)

-- The position is one in the cursor's program, and in its map as far as that has been read.
pub record IsPlaceOf (c : CursorData) (p : Place) : Type 0 where
  pub ahead : IsAhead c.ops p.ahead.now
  pub word : IsWord c.map c.ends p.word
