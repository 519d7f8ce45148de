-- The position of a decoder in a message: the open segments, the instructions that are left, and the bits that are left.
use Rattle.std.specs.Prelude.{ℕ, Bool, List, [], ◌∷◌, drop, Option}
use Rattle.fast_wire.specs.meaning.Maps.{bits}
use Rattle.fast_program.specs.declared.ops.Op.{Op}

-- The elements of a sequence that follow an open one: their number, the nodes of each, and the bits that each uses.
pub record ElementsData : Type 0 where
  pub more : ℕ
  pub body : List ℕ
  pub width : ℕ

-- The segment around an open group or element: the nodes after the group or sequence, the map, the number of its bits that are used, the
-- end of those of its bytes whose bits are loaded, and of an element the elements of its sequence that follow.
pub record FrameData : Type 0 where
  pub after : List ℕ
  pub map : List ℕ
  pub used : ℕ
  pub ends : ℕ
  pub elements : Option ElementsData

-- The program; the frames of the open segments, the innermost first; the nodes that are left of the innermost segment; the bytes of its map
-- that have been read, the number of its bits that are used, and the end of those of its bytes whose bits are loaded; and the most frames
-- that there can be.
pub record CursorData : Type 0 where
  pub ops : List Op
  pub frames : List FrameData
  pub left : List ℕ
  pub map : List ℕ
  pub used : ℕ
  pub ends : ℕ
  pub depth : ℕ

-- the bits that are left of a map
abbrev pub bits_behind : List ℕ → ℕ → List Bool
bits_behind map used = drop used (bits map)

-- the bits that are left in the innermost segment
abbrev pub bits_left : CursorData → List Bool
bits_left c = bits_behind c.map c.used

-- a cursor before a message
abbrev pub at_rest : List Op → ℕ → CursorData
at_rest ops depth = record { ops = ops; frames = []; left = []; map = []; used = 0; ends = 8; depth = depth }

-- the cursor, as it was before the message
abbrev pub resting : CursorData → CursorData
resting c = at_rest c.ops c.depth

-- the frame of a segment around the one that begins
abbrev pub frame_here : CursorData → Option ElementsData → FrameData
frame_here c elements = record { after = c.left; map = c.map; used = c.used; ends = c.ends; elements = elements }

-- a segment begins, of whose map nothing has been read
abbrev pub entered : CursorData → Option ElementsData → List ℕ → CursorData
entered c elements body = record { ops = c.ops; frames = frame_here c elements ∷ c.frames; left = body; map = []; used = 0; ends = 8; depth = c.depth }

-- the innermost segment ends, and the one around it goes on
abbrev pub left_to : CursorData → FrameData → List FrameData → CursorData
left_to c f fs = record { ops = c.ops; frames = fs; left = f.after; map = f.map; used = f.used; ends = f.ends; depth = c.depth }
