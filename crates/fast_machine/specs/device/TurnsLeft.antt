-- The number of turns that a machine can still make in a message, and its bounds.
use Rattle.std.specs.Prelude.{ℕ, ◌+◌, ◌*◌, ◌-◌, ◌≤◌, List, [], ◌∷◌, Option, Some, None, Result, Ok, Err}
use Rattle.fast_value.specs.declared.settings.Limits.{Limits}
use Rattle.fast_tree.specs.meaning.Tree.{Body, Tree}
use Rattle.fast_tree.specs.meaning.Sizes.{turn_weights, body_size, body_outer, body_widest, product_cap, sum_cap}
use Rattle.fast_stream.specs.declared.faults.FaultCode.{FaultCode}
use Rattle.fast_machine.specs.declared.machine.Machine.{Machine}
use Rattle.fast_machine.specs.declared.machine.Turn.{Turn}
use Rattle.fast_machine.specs.declared.machine.Turn.TheVariants.{Silent, Handed, Waits}
use Rattle.fast_machine.specs.declared.machine.Waiting.{Waiting}
use Rattle.fast_machine.specs.declared.machine.Waiting.TheVariants.{Map, Identifier, SegmentMap, Field, Mantissa}
use Rattle.fast_cursor.specs.device.Cursors.{ElementsData, FrameData, CursorData, entered}
use Rattle.fast_machine.specs.device.Positions.{Set, tree_in, body_in}

-- The bound on the elements of a message: the limit on each sequence, or the limit on all of them together.
pub data Way : Type 0 where
  by_sequence : Way
  by_message : Way

-- the most turns of a message, beside those of its units
abbrev pub most_by : Way → Tree → Limits → ℕ
most_by by_sequence t l = product_cap turn_weights t l
most_by by_message t l = sum_cap turn_weights t l

-- The turns of a body: with the elements of its sequences, or without.
abbrev pub body_turns : Way → Limits → Body → ℕ
body_turns by_sequence l body = body_size turn_weights l body
body_turns by_message l body = body_outer turn_weights body

-- Elements that are paid for one by one, as they are counted, have no more than w turns each.
abbrev pub AreWithin : Way → ℕ → Body → Type 0
AreWithin by_sequence w body = Unit {0}
AreWithin by_message w body = body_widest turn_weights body ≤ w

-- the turns of the elements of a sequence that follow
abbrev pub elements_turns : Way → Set → Limits → Option ElementsData → ℕ
elements_turns way set l None = 0
elements_turns way set l (Some e) = e.more * (2 + body_turns way l (body_in set e.body))

abbrev pub AreElementsWithin : Way → Set → ℕ → Option ElementsData → Type 0
AreElementsWithin way set w None = Unit {0}
AreElementsWithin way set w (Some e) = AreWithin way w (body_in set e.body)

-- the turns of the open segments from the end of the innermost one on
abbrev pub frames_turns : Way → Set → Limits → List FrameData → ℕ
frames_turns way set l [] = 1
frames_turns way set l (f ∷ fs) = 1 + body_turns way l (body_in set f.after) + elements_turns way set l f.elements + frames_turns way set l fs

abbrev pub AreFramesWithin : Way → Set → ℕ → List FrameData → Type 0
AreFramesWithin way set w [] = Unit {0}
AreFramesWithin way set w (f ∷ fs) = AreWithin way w (body_in set f.after) × AreElementsWithin way set w f.elements × AreFramesWithin way set w fs

-- the turns from a cursor on to the end of the message, with this number of elements counted
abbrev pub turns_left : Way → Set → Limits → ℕ → ℕ → CursorData → ℕ
turns_left way set l w counted c = body_turns way l (body_in set c.left) + frames_turns way set l c.frames + (l.max_total - counted) * w

-- The turns made, except for k, and those that are left of the message are within n, and those that are left within the most of a message.
pub record IsWithinTurns (way : Way) (set : Set) (l : Limits) (k n turns counted : ℕ) (c : CursorData) : Type 0 where
  pub each : ℕ
  pub body : AreWithin way each (body_in set c.left)
  pub frames : AreFramesWithin way set each c.frames
  pub most : turns_left way set l each counted c ≤ most_by way (tree_in set) l + k
  pub all : turns + turns_left way set l each counted c ≤ n + k

-- the turns of a machine between two units are within n
abbrev pub HasTurns : Way → Set → Limits → ℕ → ℕ → Machine → Type 0
HasTurns way set l k n m = IsWithinTurns way set l k n m.turns.count m.counted m.cursor

-- the turns of a machine that still begins this number of elements of a sequence are within n
abbrev pub HasTurnsFrom : Way → Set → Limits → ℕ → ℕ → List ℕ → Machine → Type 0
HasTurnsFrom way set l n count body m =
    IsWithinTurns way set l 1 n m.turns.count m.counted (entered m.cursor (Some (record { more = count; body = body; width = 0 })) [])

-- A message whose map has not begun has no turns yet.
abbrev pub HasTurnsInMap : List ℕ → Way → Set → Limits → ℕ → ℕ → Type 0
HasTurnsInMap [] way set l n turns = turns ≤ n
HasTurnsInMap (b ∷ w) way set l n turns = turns + most_by way (tree_in set) l ≤ n

-- The turns made, and those that are left of the message, are within n. Of a partial instruction one turn is made already.
abbrev pub HasTurnsAt : Waiting → Way → Set → Limits → ℕ → Machine → Type 0
HasTurnsAt Map way set l n m = HasTurnsInMap m.cursor.map way set l n m.turns.count
HasTurnsAt Identifier way set l n m = m.turns.count + most_by way (tree_in set) l ≤ n
HasTurnsAt (SegmentMap width) way set l n m = HasTurns way set l 0 n m
HasTurnsAt Field way set l n m = HasTurns way set l 1 n m
HasTurnsAt (Mantissa x) way set l n m = HasTurns way set l 1 n m

-- the turns are within n, by the unit that the machine waits for
abbrev pub HasTurnsWaiting : Way → Set → Limits → ℕ → Machine → Type 0
HasTurnsWaiting way set l n m = HasTurnsAt m.waiting way set l n m

-- the turns are within n after a turn, and after all steps that need no byte: after a fault none is left
abbrev pub HasTurnsBehind : Result Turn FaultCode → Way → Set → Limits → ℕ → Machine → Type 0
HasTurnsBehind (Ok Silent) way set l n m = HasTurns way set l 0 n m
HasTurnsBehind (Ok Handed) way set l n m = HasTurns way set l 0 n m
HasTurnsBehind (Ok Waits) way set l n m = HasTurnsWaiting way set l n m
HasTurnsBehind (Err c) way set l n m = m.turns.count ≤ n

abbrev pub HasTurnsAfter : Result Unit FaultCode → Way → Set → Limits → ℕ → Machine → Type 0
HasTurnsAfter (Ok u) way set l n m = HasTurnsWaiting way set l n m
HasTurnsAfter (Err c) way set l n m = m.turns.count ≤ n

-- the turns of a message that a machine has not begun
abbrev pub turns_begun : List ℕ → Way → Tree → Limits → ℕ
turns_begun [] way t l = most_by way t l
turns_begun (b ∷ w) way t l = 0

abbrev pub turns_begun_at : Waiting → List ℕ → Way → Tree → Limits → ℕ
turns_begun_at Map map way t l = turns_begun map way t l
turns_begun_at Identifier map way t l = 0
turns_begun_at (SegmentMap width) map way t l = 0
turns_begun_at Field map way t l = 0
turns_begun_at (Mantissa x) map way t l = 0

-- For each bound on the elements, the rest of a message that has begun is within its most turns.
abbrev pub IsWithinMessage : Set → Limits → Machine → Type 0
IsWithinMessage set l m = (way : Way) → (n : ℕ) × HasTurnsWaiting way set l n m
