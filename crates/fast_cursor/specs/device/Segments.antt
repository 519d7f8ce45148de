-- The meaning of the fields of a cursor.
use Rattle.std.specs.Prelude.{◌≡◌, ℕ, zero, suc, ◌+◌, ◌*◌, ◌≤◌, List, [], ◌∷◌, take, drop, length, Option, Some, None, option_map}
use Rattle.fast_wire.specs.meaning.Maps.{map_limit}
use Rattle.fast_program.specs.declared.ops.Op.{Op}
use Rattle.fast_program.specs.device.Runs.{AreNumbered, Begins}
use Rattle.fast_cursor.specs.device.Runs.{run_at, IsRun}
use Rattle.fast_cursor.specs.device.Cursors.{ElementsData, FrameData, CursorData}
use Rattle.fast_cursor.specs.device.MapPlaces.{used_at, IsPlace}
use Rattle.fast_cursor.specs.declared.frames.Elements.{Elements}
use Rattle.fast_cursor.specs.declared.frames.Frame.{Frame}
use Rattle.fast_cursor.specs.declared.cursor.Cursor.TheInside.{Inside}

-- the elements of a sequence that follow
abbrev pub elements_data : List Op → Elements → ElementsData
elements_data ops e = record { more = e.more; body = run_at ops e.start; width = e.width }

-- the elements that follow one, if a frame's mark is not zero
abbrev pub marked : ℕ → Elements → Option Elements
marked zero e = None
marked (suc n) e = Some e

-- the elements of a sequence in a frame, if the segment that it is around is an element
abbrev pub frame_elements : Frame → Option Elements
frame_elements f = marked f.is_element (record { more = f.more; start = f.start; width = f.width })

-- the first node, if one is left
abbrev pub first_node : List ℕ → Option ℕ
first_node [] = None
first_node (node ∷ nodes) = Some node

-- The first bytes of the cells that begin at an index.
abbrev pub map_at : List ℕ → ℕ → ℕ → List ℕ
map_at cells start len = take len (drop start cells)

-- a frame, whose map's cells begin at an index
abbrev pub frame_data : List Op → List ℕ → ℕ → Frame → FrameData
frame_data ops cells start f = record {
  after = run_at ops f.after;
  map = map_at cells start f.map.len;
  used = used_at (map_at cells start f.map.len) f.map.end f.map.word;
  ends = f.map.end;
  elements = option_map (elements_data ops) (frame_elements f);
}

-- Frames, the outermost first, on those around them: the cells of the first one's map begin at the index.
abbrev pub frames_on : List Op → List ℕ → ℕ → List Frame → List FrameData → List FrameData
frames_on ops cells start [] outer = outer
frames_on ops cells start (f ∷ fs) outer = frames_on ops cells (start + map_limit) fs (frame_data ops cells start f ∷ outer)

-- The frames' positions, the outermost first: the cells of the first one's map begin at the index.
abbrev pub ArePlaces : List ℕ → ℕ → List Frame → Type 0
ArePlaces cells start [] = Unit {0}
ArePlaces cells start (f ∷ fs) = IsPlace (map_at cells start f.map.len) f.map × ArePlaces cells (start + map_limit) fs

-- The run of the elements that follow, if any do.
abbrev pub IsRunOf : List Op → Option Elements → Type 0
IsRunOf ops None = Unit {0}
IsRunOf ops (Some e) = IsRun ops e.start

-- The run that goes on after a frame, and that of the elements that follow.
pub record IsRunning (ops : List Op) (f : Frame) : Type 0 where
  pub after : IsRun ops f.after
  pub elements : IsRunOf ops (frame_elements f)

abbrev pub AreRunning : List Op → List Frame → Type 0
AreRunning ops [] = Unit {0}
AreRunning ops (f ∷ fs) = IsRunning ops f × AreRunning ops fs

-- the cursor
abbrev pub cursor_data : Inside → CursorData
cursor_data c = record {
  ops = c.ops.now;
  frames = frames_on c.ops.now c.maps.items 0 (take c.level c.frames.items) [];
  left = run_at c.ops.now c.ip;
  map = map_at c.maps.items c.start c.map.len;
  used = used_at (map_at c.maps.items c.start c.map.len) c.map.end c.map.word;
  ends = c.map.end;
  depth = length c.frames.items;
}

-- The cells are those of one map for each level, and the innermost segment's begin after those around it. Nothing is left at the program's
-- first op, and each op holds its own index.
pub record IsCursor (c : Inside) : Type 0 where
  pub within : c.level ≤ length c.frames.items
  pub cells : length c.maps.items ≡ map_limit * (length c.frames.items + 1)
  pub starts : c.start ≡ map_limit * c.level
  pub place : IsPlace (map_at c.maps.items c.start c.map.len) c.map
  pub around : ArePlaces c.maps.items 0 (take c.level c.frames.items)
  pub rest : Begins c.ops.now 0 []
  pub numbered : AreNumbered c.ops.now
  pub run : IsRun c.ops.now c.ip
  pub behind : AreRunning c.ops.now (take c.level c.frames.items)
