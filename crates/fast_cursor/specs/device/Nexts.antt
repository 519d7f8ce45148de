-- The next element of a sequence after an element.
use Rattle.std.specs.Prelude.{ℕ, zero, suc, List, Option, Some, None}
use Rattle.fast_cursor.specs.device.Cursors.{ElementsData, FrameData, CursorData, entered, left_to}

-- the elements that follow the next one, if this many follow
abbrev pub next_by : ℕ → ElementsData → Option ElementsData
next_by zero e = None
next_by (suc n) e = Some (record e { more = n })

-- the elements that follow the next one, if there is one
abbrev pub next_of : Option ElementsData → Option ElementsData
next_of None = None
next_of (Some e) = next_by e.more e

-- The next element begins where the one before it ends. Without one nothing changes.
abbrev pub gone_on : CursorData → FrameData → List FrameData → Option ElementsData → CursorData
gone_on c f fs None = c
gone_on c f fs (Some e) = entered (left_to c f fs) (Some e) e.body
