-- The presence map of a message that is one byte, and the identifier behind it, if there is one.
use Rattle.std.proofs.Common.{refl, sym, ap, ◌∙◌, subst, arith, get_or}
use Rattle.std.proofs.Math.Seq.{take-add}
use Rattle.std.specs.Prelude.{◌≡◌, ◌≢◌, ℕ, ◌+◌, ◌/◌, ◌%◌, ◌^◌, ◌<◌, ◌≤◌, Bool, true, false, nat_eq, pos, List, [], ◌∷◌, ◌++◌, length, take}
use Rattle.std.specs.Prelude.{drop, slice_get, Some, Ok}
use Rattle.fast_wire.specs.meaning.Maps.{map_limit, bits, first_bit}
use Rattle.fast_wire.specs.meaning.Integers.{unsigned_up_to}
use Rattle.fast_fronts.specs.device.Fronts.{IsFirstInt}
use Rattle.fast_fronts.specs.declared.fronts.First.TheVariants as First
use Rattle.fast_value.specs.meaning.Kinds.{U}
use Rattle.fast_value.specs.meaning.Limits.{Bounds, bounds}
use Rattle.fast_value.specs.declared.settings.Limits.{Limits}
use Rattle.fast_value.specs.declared.codes.Code.TheVariants.{L3}
use Rattle.fast_value.specs.declared.kinds.Kind.{Kind}
use Rattle.fast_value.specs.declared.kinds.Kind.TheVariants.{UInt32}
use Rattle.fast_value.specs.meaning.Kinds.{ScalarData}
use Rattle.fast_tree.specs.meaning.Tree.{identifier, message_bits}
use Rattle.fast_tree.specs.declared.instructions.Template.{Template}
use Rattle.fast_tree.specs.meaning.Nodes.{template_data, instructions_from}
use Rattle.fast_dict.specs.meaning.Dictionary.{Dictionary, PreviousData, assigned, previous_at, write_at}
use Rattle.fast_dict.specs.meaning.Operators.{Outcome, decide, nothing, value}
use Rattle.fast_dict.specs.meaning.Slots.{slots_dictionary}
use Rattle.fast_cursor.specs.device.Cursors.{CursorData, resting}
use Rattle.fast_stream.specs.device.GrammarReaders.{reader_of}
use Rattle.fast_cursor.specs.device.MapTaking.{IsMapTaken}
use Rattle.fast_stream.specs.meaning.Messages.{State, begin}
use Rattle.fast_stream.specs.device.Continuations.{message_then, message_behind_then, message_of_then}
use Rattle.fast_machine.specs.device.Passing.{state_past, identified_then}
use Rattle.fast_stream.specs.meaning.Fields.{field_term}
use Rattle.fast_units.specs.device.Settling.{IsLastUnit}
use Rattle.fast_units.specs.device.Taking.{Turns}
use Rattle.fast_units.specs.declared.progress.Progress.TheVariants as Progress
use Rattle.fast_units.specs.declared.source.ValueSource.TheVariants as From
use Rattle.fast_machine.specs.device.Positions.{Set, tree_in, behind_map, mapped_reader, CanTake, IsReady}
use Rattle.fast_machine.specs.declared.machine.Machine.{Machine}
use Rattle.fast_machine.specs.declared.machine.Waiting.{Waiting}
use Rattle.fast_machine.specs.declared.machine.Waiting.TheVariants.{Map}
use Rattle.fast_cursor.specs.declared.pending.MapFront.TheVariants.{Whole}
use Rattle.fast_machine.proofs.fields.Identifiers.{map_judged, narrow-fits, named_first, behind_known, identifier_unsent, decided_unsent}
use Rattle.fast_machine.proofs.fields.Identifiers.{identified_by, sent_turns}
use Rattle.fast_machine.proofs.units.InHand.{entity_then, open_in_entity, whole_gives, takes_quietly}
use Rattle.fast_machine.proofs.fields.SentFields.{field_unsent}
use Rattle.fast_machine.proofs.machines.ShortMaps.{judged_short, fits_short, length_one}
use Rattle.fast_machine.proofs.units.Takings.{map-reader}
use Rattle.fast_units.proofs.ShortIntegers.{item_unit}
use Rattle.fast_units.proofs.Turning.{turns_as, turns_run}

-- The first bit of a byte that has the stop bit alone of its upper two.
pub first_clear : (w : List ℕ) → 128 ≤ get_or w 0 0 → get_or w 0 0 < 192 → first_bit (bits (take 1 w)) ≡ false
first_clear [] low high = refl
first_clear (b ∷ w) low high = let even : (b / 2 ^ 6) % 2 ≡ 0 = omega (arith, low, high) in ap (λ n. nat_eq n 1) even

-- The first bit of a byte that has both.
pub first_set : (w : List ℕ) → 192 ≤ get_or w 0 0 → get_or w 0 0 < 256 → first_bit (bits (take 1 w)) ≡ true
first_set [] low high = absurd (omega (arith, low))
first_set (b ∷ w) low high = let odd : (b / 2 ^ 6) % 2 ≡ 1 = omega (arith, low, high) in ap (λ n. nat_eq n 1) odd

-- An identifier that stands whole in the piece, and is kept at its entry.
identifier_unit : (strict : Bool) (l : Bounds) (rest : List ℕ) (d d' : Dictionary) (id n : ℕ)
    → IsFirstInt (λ y. Some (pos y)) strict (unsigned_up_to 4294967295) false (First.Whole id n) rest
    → d' ≡ write_at (Some 0) (assigned UInt32 (U id)) d → IsLastUnit
    (reader_of strict (field_term l identifier (previous_at identifier.entry d) true)) identifier rest d d' []
    (Progress.Whole (From.Unsigned id) n)
identifier_unit strict l rest d d' id n first kept =
    item_unit UInt32 false strict l identifier rest d d' [] (Some (pos id)) n (value (U id)) (From.Unsigned id) refl refl refl
    (λ e. absurd (cc e)) (λ e. absurd (cc e)) first refl
    (record { value = Some (U id); next = assigned UInt32 (U id) }, refl, λ scratch piece. record { value = refl; dictionary = kept })

-- What an entry holds, written again, leaves the dictionary.
written_again : (d : Dictionary) (k : Kind) (v : ScalarData) → previous_at (Some 0) d ≡ assigned k v → d ≡ write_at (Some 0) (assigned k v) d
written_again [] k v h = absurd (cc h)
written_again (p ∷ d) k v h = ap (λ q. q ∷ d) h

module _ (set : Set) (l : Limits) (m : Machine) (c : CursorData) (rest : List ℕ)
    (waits : m.waiting ≡ Map) (ready : IsReady set l m) (none : m.cursor.map ≡ []) (taken : IsMapTaken m.cursor.map rest c.map (Whole 1))
    (same : c ≡ record m.cursor { map = c.map }) where
  can : CanTake Map set l m
  can = subst (λ (w : Waiting). CanTake w set l m) waits ready.takes

  outermost : c ≡ record (resting c) { map = c.map }
  outermost = same ∙ ap (λ (x : CursorData). record x { map = c.map }) can.2 ∙ ap (λ (x : CursorData). record x { map = c.map }) (sym (ap resting same))

  bytes : c.map ≡ take 1 rest
  bytes = taken.4 ∙ ap (λ f. f ++ take 1 rest) none

  count : length c.map ≤ 1
  count = rw bytes (length_one rest)

  -- The map is whole, and the identifier's field comes next.
  pub map_short : Turns (reader_of l.strict (message_then (tree_in set) (bounds l) (slots_dictionary m.slots))) (take 1 rest)
      (reader_of l.strict (behind_map set (bounds l) (slots_dictionary m.slots) c.map))
  map_short =
      let d : Dictionary = slots_dictionary m.slots in
      let w : List ℕ = take 1 rest in
      let here : IsMapTaken [] rest c.map (Whole 1) = subst (λ f. IsMapTaken f rest c.map (Whole 1)) none taken in
      let whole : Turns (entity_then L3 map_limit (mapped_reader set l d)) w (mapped_reader set l d w) = record {
        quiet = takes_quietly L3 map_limit (mapped_reader set l d) [] w (open_in_entity [] w here.3) here.2;
        becomes = whole_gives L3 map_limit (mapped_reader set l d) w here.3 here.2;
      } in
      turns_as (map-reader set l d)
      (sym (ap (mapped_reader set l d) (sym bytes) ∙ map_judged l.strict c.map (λ x. reader_of l.strict (behind_map set (bounds l) d x))
      (judged_short l.strict c.map count)))
      whole

  module _ (id i : ℕ) (t : Template) (found : slice_get set.templates i ≡ Some t) (own : t.id ≡ Some id)
      (first : (j : ℕ) (u : Template) → j < i → slice_get set.templates j ≡ Some u → u.id ≢ Some id) where
    -- Behind the identifier, and what was kept of it, the message is of its template.
    named_short : (d : Dictionary) → reader_of l.strict (identified_then set (bounds l) (Some (U id)) d c)
        ≡ reader_of l.strict (message_of_then (bounds l) i (template_data (instructions_from 0 set.nodes) t) (state_past identifier d 0 c))
    named_short d =
        let named = template_data (instructions_from 0 set.nodes) t in
        let st : State = state_past identifier d 0 c in
        behind_known set l.strict (bounds l) c.map (Some (U id)) st i t (named_first set (Some (U id)) id i t refl found own first)
        ∙ narrow-fits l.strict (message_bits named) c.map (message_of_then (bounds l) i named st) (fits_short l.strict (message_bits named) c.map count)

    -- The identifier is the one that its entry holds.
    pub message_short : previous_at (Some 0) (slots_dictionary m.slots) ≡ assigned UInt32 (U id) → first_bit (bits (take 1 rest)) ≡ false
        → Turns (reader_of l.strict (message_then (tree_in set) (bounds l) (slots_dictionary m.slots))) (take 1 rest)
        (reader_of l.strict (message_of_then (bounds l) i (template_data (instructions_from 0 set.nodes) t)
        (state_past identifier (slots_dictionary m.slots) 0 c)))
    message_short held bit =
        let d : Dictionary = slots_dictionary m.slots in
        let b = bounds l in
        let o : Outcome = record { value = Some (U id); next = assigned UInt32 (U id) } in
        let st : State = begin d (bits c.map) in
        let p : PreviousData = previous_at identifier.entry d in
        let clear : first_bit (bits c.map) ≡ false = ap (λ x. first_bit (bits x)) bytes ∙ bit in
        let decided : decide identifier p false nothing ≡ Ok o = ap (λ q. decide identifier q false nothing) held in
        turns_as refl
        (sym (field_unsent l.strict b identifier st (message_behind_then (tree_in set) b c.map) o (identifier_unsent b p st clear)
        (decided_unsent p st (Ok o) clear decided)
        ∙ identified_by set l.strict b d d c o (Some (U id)) outermost refl (written_again d UInt32 (U id) held)
        ∙ named_short d))
        map_short

    -- The identifier stands behind the map, whole, and its entry holds it from then on.
    pub message_identified : (n : ℕ) (d : Dictionary) → IsFirstInt (λ y. Some (pos y)) l.strict (unsigned_up_to 4294967295) false
        (First.Whole id n) (drop 1 rest) → d ≡ write_at (Some 0) (assigned UInt32 (U id)) (slots_dictionary m.slots)
        → first_bit (bits (take 1 rest)) ≡ true
        → Turns (reader_of l.strict (message_then (tree_in set) (bounds l) (slots_dictionary m.slots))) (take (1 + n) rest)
        (reader_of l.strict (message_of_then (bounds l) i (template_data (instructions_from 0 set.nodes) t) (state_past identifier d 0 c)))
    message_identified n d whole kept bit =
        let old : Dictionary = slots_dictionary m.slots in
        let b = bounds l in
        let set_bit : first_bit (bits c.map) ≡ true = ap (λ x. first_bit (bits x)) bytes ∙ bit in
        let (some, within, gives) = identifier_unit l.strict b (drop 1 rest) old d id n whole kept in
        subst (λ w. Turns (reader_of l.strict (message_then (tree_in set) b old)) w
        (reader_of l.strict (message_of_then b i (template_data (instructions_from 0 set.nodes) t) (state_past identifier d 0 c))))
        (sym (take-add 1 n rest))
        (turns_run map_short
        (turns_as refl (sym (identified_by set l.strict b old d c gives.outcome
        (Some (U id)) outermost gives.settled.value gives.settled.dictionary ∙ named_short d))
        (sent_turns set l.strict b old c.map set_bit (take n (drop 1 rest)) gives.outcome gives.turns)))
