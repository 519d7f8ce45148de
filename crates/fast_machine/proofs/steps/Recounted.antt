-- A machine whose turns are counted anew: it has the same still to read, and is made with the same.
use Rattle.std.proofs.Common.{refl}
use Rattle.std.specs.Prelude.{◌≡◌}
use Rattle.fast_value.specs.declared.settings.Limits.{Limits}
use Rattle.fast_machine.specs.declared.machine.Machine.{Machine}
use Rattle.fast_machine.specs.declared.machine.Waiting.{Waiting}
use Rattle.fast_machine.specs.declared.machine.Waiting.TheVariants.{Map, Identifier, SegmentMap, Field, Mantissa}
use Rattle.fast_machine.specs.declared.turns.Turns.{Turns}
use Rattle.fast_machine.specs.device.Positions.{Set, meaning_at, IsSupplied, CanTurn, CanTake}

-- The turns that were counted don't change what is still to be read.
pub meaning-turns : (w : Waiting) (set : Set) (l : Limits) (m : Machine) (n : Turns) → meaning_at w set l (record m { turns = n }) ≡ meaning_at w set l m
meaning-turns Map set l m n = refl
meaning-turns Identifier set l m n = refl
meaning-turns (SegmentMap width) set l m n = refl
meaning-turns Field set l m n = refl
meaning-turns (Mantissa x) set l m n = refl

-- They don't change what it can take.
pub takes-turns : (w : Waiting) (set : Set) (l : Limits) (m : Machine) (n : Turns) → CanTake w set l m → CanTake w set l (record m { turns = n })
takes-turns Map set l m n h = h
takes-turns Identifier set l m n h = h
takes-turns (SegmentMap width) set l m n h = h
takes-turns Field set l m n h = h
takes-turns (Mantissa x) set l m n h = h

-- They don't change what a machine is made with.
pub supplied-turns : (set : Set) (l : Limits) (m : Machine) (n : Turns) → IsSupplied set l m → IsSupplied set l (record m { turns = n })
supplied-turns set l m n h = record {
  entries = h.entries;
  serves = h.serves;
  some_entry = h.some_entry;
  max_text = h.max_text;
  least_text = h.least_text;
  carry_room = h.carry_room;
  text_room = h.text_room;
  depth = h.depth;
  program = h.program;
  identifier = h.identifier;
  counted = h.counted;
  latest = h.latest;
}

-- It goes on as before.
pub can_turn-turns : (set : Set) (l : Limits) (m : Machine) (n : Turns) → CanTurn set l m → CanTurn set l (record m { turns = n })
can_turn-turns set l m n h = record { supplied = supplied-turns set l m n h.supplied; placed = h.placed; mapped = h.mapped }
