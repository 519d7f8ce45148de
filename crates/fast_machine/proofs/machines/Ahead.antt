-- What the bytes of a piece begin a message with, where the machine stands at the end of the one before.
use Rattle.std.proofs.Common.{refl, arith, get_or}
use Rattle.std.specs.Prelude.{◌≡◌, ◌≢◌, ℕ, ◌+◌, ◌-◌, ◌<◌, ◌≤◌, false, pos, List, [], ◌∷◌, length, take, drop, slice_get, Some}
use Rattle.std.proofs.lemmas.List.{length-drop}
use Rattle.fast_wire.specs.meaning.Entities.{IsEntity}
use Rattle.fast_wire.specs.meaning.Integers.{unsigned_up_to}
use Rattle.fast_fronts.specs.device.Fronts.{IsFirstInt}
use Rattle.fast_fronts.specs.declared.fronts.First.TheVariants as First
use Rattle.fast_value.specs.meaning.Kinds.{U}
use Rattle.fast_value.specs.declared.kinds.Kind.TheVariants.{UInt32}
use Rattle.fast_value.specs.declared.settings.Limits.{Limits}
use Rattle.fast_tree.specs.declared.instructions.Template.{Template}
use Rattle.fast_dict.specs.meaning.Dictionary.{Dictionary, assigned, previous_at, write_at}
use Rattle.fast_dict.specs.meaning.Slots.{slots_dictionary}
use Rattle.fast_cursor.specs.device.Cursors.{CursorData, resting}
use Rattle.fast_cursor.specs.device.MapTaking.{IsMapTaken}
use Rattle.fast_cursor.specs.declared.pending.MapFront.TheVariants.{Whole}
use Rattle.fast_machine.specs.declared.machine.Machine.{Machine}
use Rattle.fast_machine.specs.declared.machine.Waiting.TheVariants.{Map}
use Rattle.fast_machine.specs.device.Positions.{Set, IsReady, IsSupplied, IsBehindMap}
use Rattle.fast_machine.specs.device.Starts.{IsMessageAhead, mapped_by}
use Rattle.fast_machine.proofs.machines.ShortMaps.{length_one}
use Rattle.fast_machine.proofs.machines.StartMaps.{first_clear, first_set, message_short, message_identified}
use Rattle.fast_machine.proofs.steps.FieldTurns.{supplied_like}
use Rattle.fast_stream.proofs.readers.UnitReaders.{below-nil}

-- A byte with the stop bit is an entity.
pub one_entity : (w : List ℕ) → 0 < length w → 128 ≤ get_or w 0 0 → IsEntity (take 1 w)
one_entity [] some stop = absurd (omega (arith, some))
one_entity (b ∷ w) some stop = ([], b, refl, λ k d h. absurd (omega (arith, h)), stop)

-- it is the first one
pub first_byte : (w : List ℕ) → 0 < length w → take 1 w ≡ get_or w 0 0 ∷ []
first_byte [] some = absurd (omega (arith, some))
first_byte (b ∷ w) some = refl

-- the machine, as if it waited for the message
abbrev waiting : Machine → Machine
waiting m = record m { waiting = Map; cursor = resting m.cursor }

-- Its map is whole then.
pub behind_map : (set : Set) (l : Limits) (m : Machine) (rest : List ℕ) → IsSupplied set l m → IsEntity (take 1 rest)
    → IsBehindMap set l (mapped_by m rest)
behind_map set l m rest h map = record {
  supplied = supplied_like set l m (mapped_by m rest) h (record {
    terms = refl;
    carry = refl;
    text = refl;
    identifier = refl;
    rests = refl;
    latest = refl;
  }) h.counted;
  map = map;
  outermost = refl;
}

module _ (set : Set) (l : Limits) (m : Machine) (rest : List ℕ) (h : IsSupplied set l m)
    (some : 0 < length rest) (stop : 128 ≤ get_or rest 0 0)
    (id i : ℕ) (t : Template) (found : slice_get set.templates i ≡ Some t) (own : t.id ≡ Some id)
    (first : (j : ℕ) (u : Template) → j < i → slice_get set.templates j ≡ Some u → u.id ≢ Some id) where
  ready : IsReady set l (waiting m)
  ready = record {
    supplied = supplied_like set l m (waiting m) h (record {
      terms = refl;
      carry = refl;
      text = refl;
      identifier = refl;
      rests = refl;
      latest = refl;
    }) h.counted;
    takes = (below-nil, omega arith, refl);
  }

  abbrev behind : CursorData
  behind = record (resting m.cursor) { map = take 1 rest }

  taken : IsMapTaken [] rest (take 1 rest) (Whole 1)
  taken = let one = length_one rest in (omega arith, omega (arith, some), omega (arith, one), one_entity rest some stop, refl)

  -- The identifier is the one that its entry holds.
  pub ahead_again : previous_at (Some 0) (slots_dictionary m.slots) ≡ assigned UInt32 (U id) → get_or rest 0 0 < 192
      → IsMessageAhead set l (slots_dictionary m.slots) (slots_dictionary m.slots) rest i 1
  ahead_again held low = record {
    template = t;
    found = found;
    some = omega arith;
    within = omega (arith, some);
    map = one_entity rest some stop;
    turns = message_short set l (waiting m) behind rest refl ready refl taken refl id i t found own first held (first_clear rest stop low);
  }

  -- It stands behind the map.
  pub ahead_sent : (n : ℕ) (d : Dictionary) → IsFirstInt (λ y. Some (pos y)) l.strict (unsigned_up_to 4294967295) false (First.Whole id n)
      (drop 1 rest) → d ≡ write_at (Some 0) (assigned UInt32 (U id)) (slots_dictionary m.slots)
      → 192 ≤ get_or rest 0 0 → get_or rest 0 0 < 256 → IsMessageAhead set l (slots_dictionary m.slots) d rest i (1 + n)
  ahead_sent n d whole kept high byte =
      let len : length (drop 1 rest) ≡ length rest - 1 = length-drop 1 rest in
      let there = whole.0 in
      record {
        template = t;
        found = found;
        some = omega arith;
        within = omega (arith, there, some, len);
        map = one_entity rest some stop;
        turns = message_identified set l (waiting m) behind rest refl ready refl taken refl id i t found own first n d whole kept (first_set rest high byte);
      }
