use Rattle.std.proofs.Common.{◌≡◌, ◌≤◌, length, slice_get, Some}
use Rattle.fast_program.specs.declared.ops.Op.{Op}
use Rattle.fast_cursor.specs.device.Places.{place_left, IsPlaceOf}
use Rattle.fast_machine.specs.declared.machine.Waiting.TheVariants.{Field}
use Rattle.fast_machine.specs.device.Positions.{placed, set_of, turning}
use Rattle.fast_machine.specs.device.Moving.{events_due}
use Rattle.fast_machine.proofs.streams.Running.{IsSoFar}
use Rattle.fast_loop.proofs.walking.walk.Given as goal

-- The steps so far.
abbrev pub invariant-units : goal.invariant-units
invariant-units g l = record {
  far : IsSoFar g.S.Sink.takes g.S.Sink.stops (set_of l.templates) l.limits l.fn.machine l.piece.bytes.now l.fn.sink l.spot.rest.bytes.now l.sink
      (placed l.machine l.spot.place);
  waits : l.machine.waiting ≡ Field;
  place : IsPlaceOf l.machine.cursor l.spot.place;
}

abbrev pub decreases-units : goal.decreases-units
decreases-units g l = length l.spot.rest.bytes.now

-- No byte is taken between two events.
abbrev pub invariant-events : goal.invariant-events
invariant-events g l = record {
  far : IsSoFar g.S.Sink.takes g.S.Sink.stops (set_of l.templates) l.limits l.fn.machine l.piece.bytes.now l.fn.sink l.spot.rest.bytes.now l.sink
      (placed l.machine l.spot.place);
  waits : l.machine.waiting ≡ Field;
  place : IsPlaceOf l.machine.cursor l.spot.place;
  left : length l.spot.rest.bytes.now ≤ length l.initial.spot.rest.bytes.now;
}

abbrev pub decreases-events : goal.decreases-events
decreases-events g l = events_due (turning (set_of l.templates) l.limits (placed l.machine l.spot.place))

-- Turns that hand nothing over leave what is to be read. The code at hand is that of the op at the place.
abbrev pub invariant-silent : goal.invariant-silent
invariant-silent g l = record {
  far : IsSoFar g.S.Sink.takes g.S.Sink.stops (set_of l.templates) l.limits l.fn.machine l.piece.bytes.now l.fn.sink l.spot.rest.bytes.now l.sink
      (placed l.machine l.spot.place);
  waits : l.machine.waiting ≡ Field;
  place : IsPlaceOf l.machine.cursor l.spot.place;
  left : length l.spot.rest.bytes.now ≤ length l.initial.spot.rest.bytes.now;
  code : (op : Op) → slice_get l.spot.place.ahead.now 0 ≡ Some op → l.code ≡ op.code;
  same : turning (set_of l.templates) l.limits (placed l.machine l.spot.place) ≡ turning (set_of l.templates) l.limits
      (placed l.initial.machine l.initial.spot.place);
}

abbrev pub decreases-silent : goal.decreases-silent
decreases-silent g l = length (place_left l.spot.place)
