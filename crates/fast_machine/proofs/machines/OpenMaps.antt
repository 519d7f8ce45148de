-- The presence map of a segment that begins, whole in the piece.
use Rattle.std.proofs.Common.{refl, sym, ap, ◌∙◌, subst, inr}
use Rattle.std.specs.Prelude.{◌≡◌, ℕ, ◌+◌, List, [], ◌++◌, take}
use Rattle.fast_wire.specs.meaning.Maps.{map_limit}
use Rattle.fast_value.specs.meaning.Limits.{bounds}
use Rattle.fast_value.specs.declared.settings.Limits.{Limits}
use Rattle.fast_value.specs.declared.codes.Code.TheVariants.{L3}
use Rattle.fast_dict.specs.meaning.Dictionary.{Dictionary}
use Rattle.fast_dict.specs.meaning.Slots.{slots_dictionary}
use Rattle.fast_cursor.specs.device.Cursors.{resting, CursorData}
use Rattle.fast_stream.specs.meaning.Grammar.{Grammar, narrow}
use Rattle.fast_stream.specs.device.GrammarReaders.{reader_of}
use Rattle.fast_cursor.specs.device.MapTaking.{IsMapTaken}
use Rattle.fast_units.specs.device.Taking.{Turns}
use Rattle.fast_machine.specs.device.Positions.{Set, going_on, segment_behind, CanTake, CanTurn, IsPlaced, IsReady, turning}
use Rattle.fast_machine.specs.device.FitMaps.{IsFitMap}
use Rattle.fast_machine.specs.device.TurnsLeft.{Way, HasTurns, IsWithinTurns}
use Rattle.fast_machine.specs.declared.machine.Machine.{Machine}
use Rattle.fast_machine.specs.declared.machine.Waiting.{Waiting}
use Rattle.fast_machine.specs.declared.machine.Waiting.TheVariants.{SegmentMap}
use Rattle.fast_cursor.specs.declared.pending.MapFront.TheVariants.{Whole}
use Rattle.fast_machine.specs.declared.turns.Turns.{Turns as TurnCount}
use Rattle.fast_machine.proofs.steps.FieldTurns.{supplied_like}
use Rattle.fast_machine.proofs.fields.Identifiers.{map_judged, narrow-fits}
use Rattle.fast_machine.proofs.units.InHand.{entity_then, open_in_entity, whole_gives, takes_quietly}
use Rattle.fast_machine.proofs.units.SegmentMaps.{segment_judged, segment-reader, segment_same}
use Rattle.fast_machine.proofs.steps.TurnCounts.{one_unit}
use Rattle.fast_units.proofs.Turning.{turns_as}

module _ (set : Set) (l : Limits) (m : Machine) (width : ℕ) (c : CursorData) (turns : TurnCount) (rest : List ℕ) (n : ℕ)
    (waits : m.waiting ≡ SegmentMap width) (ready : IsReady set l m) (taken : IsMapTaken m.cursor.map rest c.map (Whole n))
    (fit : IsFitMap l.strict width c.map) (same : c ≡ record m.cursor { map = c.map }) where
  can : CanTake (SegmentMap width) set l m
  can = subst (λ (w : Waiting). CanTake w set l m) waits ready.takes

  -- The map of a segment is whole, and the segment goes on.
  pub map_read : Turns (reader_of l.strict (segment_behind set (bounds l) (slots_dictionary m.slots) m.counted m.cursor width))
      (m.cursor.map ++ take n rest) (turning set l (record m {
        cursor = c;
        turns = turns;
      }))
  map_read =
      let d = slots_dictionary m.slots in
      let w : List ℕ = m.cursor.map ++ take n rest in
      let k = segment_judged set l d m.counted m.cursor width in
      let inside : List ℕ → Grammar Dictionary = λ v. going_on set (bounds l) d m.counted (record c { map = v }) in
      let whole : Turns (entity_then L3 map_limit k) w (k w) = record {
        quiet = takes_quietly L3 map_limit k [] w (open_in_entity [] w taken.3) taken.2;
        becomes = whole_gives L3 map_limit k w taken.3 taken.2;
      } in
      turns_as (segment-reader set l d m.counted m.cursor width)
      (sym (segment_same set l d m.counted m.cursor width (record m { cursor = c; turns = turns }) w same can.2 taken.4 refl refl
      ∙ map_judged l.strict c.map (λ v. reader_of l.strict (narrow width v (inside v))) fit.spared
      ∙ narrow-fits l.strict width c.map (inside c.map) fit.fits))
      whole

  pub map_turns : CanTurn set l (record m { cursor = c; turns = turns })
  map_turns = record {
    supplied = supplied_like set l m (record m { cursor = c; turns = turns }) ready.supplied
        (record { terms = refl; carry = refl; text = refl; identifier = refl; rests = ap resting same; latest = refl }) ready.supplied.counted;
    placed = let p : IsPlaced set m.cursor = can.3 in subst (IsPlaced set) (sym same) (record { below = p.below; nested = p.nested; frames = p.frames });
    mapped = inr (rw taken.4 taken.3);
  }

  pub map_counted : (way : Way) (j : ℕ) → turns.count ≡ m.turns.count + 1 → HasTurns way set l 0 j m → HasTurns way set l 0 (1 + j) (record m {
    cursor = c;
    turns = turns;
  })
  map_counted way j more h =
      let one = one_unit way set l 0 j m.turns.count turns.count m.counted m.cursor more h in
      subst (λ (x : CursorData). IsWithinTurns way set l 0 (1 + j) turns.count m.counted x) (sym same) (record {
        each = one.each;
        body = one.body;
        frames = one.frames;
        most = one.most;
        all = one.all;
      })
