-- The length of a sequence, and what follows.
use Rattle.std.proofs.Common.{refl, sym, ap, ◌∙◌, subst, inl}
use Rattle.std.specs.Prelude.{◌≡◌, ◌≢◌, ℕ, ◌+◌, ◌≤◌, Bool, true, false, List, [], take, drop, slice_get, pos, Option, Some, None}
use Rattle.std.specs.Prelude.{option_map, Result, Ok, Err, if◌then◌else◌, Vec}
use Rattle.std.specs.Global.{Global}
use Rattle.fast_fronts.specs.declared.fronts.First.TheVariants as First
use Rattle.fast_fronts.specs.device.Fronts.{IsFirstInt}
use Rattle.fast_wire.specs.meaning.Integers.{unsigned_up_to}
use Rattle.fast_wire.specs.meaning.Maps.{later_bits}
use Rattle.fast_value.specs.declared.kinds.Kind.TheVariants.{UInt32}
use Rattle.fast_value.specs.declared.settings.Limits.{Limits}
use Rattle.fast_value.specs.meaning.Kinds.{ScalarData, U, integer_of}
use Rattle.fast_value.specs.meaning.Limits.{bounds}
use Rattle.fast_tree.specs.declared.operators.Operator.TheVariants.{None as no_operator, Constant}
use Rattle.fast_tree.specs.declared.instructions.FieldInstruction.{FieldInstruction}
use Rattle.fast_tree.specs.declared.instructions.Node.{Node}
use Rattle.fast_tree.specs.declared.instructions.Shape.TheVariants.{Sequence}
use Rattle.fast_tree.specs.meaning.Nodes.{field_data}
use Rattle.fast_tree.specs.meaning.Entries.{keeps_value}
use Rattle.fast_tree.specs.meaning.Tree.{FieldData, sequence, uses_bit, operator_uses_bit}
use Rattle.fast_program.specs.declared.ops.Op.{Op}
use Rattle.fast_program.specs.device.Codes.{sequence_of}
use Rattle.fast_template.specs.declared.sets.Templates.{Templates}
use Rattle.fast_dict.specs.meaning.Dictionary.{Dictionary, previous_at, write_at}
use Rattle.fast_dict.specs.meaning.Slots.{slots_dictionary, slots_terms}
use Rattle.fast_stream.specs.declared.faults.FaultCode.{FaultCode}
use Rattle.fast_stream.specs.declared.faults.FaultCode.TheVariants.{SinkStopped}
use Rattle.fast_stream.specs.device.Continuations.{sequence_from_then, segment_then, body_then}
use Rattle.fast_stream.specs.device.GrammarReaders.{reader_of}
use Rattle.fast_stream.specs.device.Readers.{Emit}
use Rattle.fast_stream.specs.meaning.Events.{EventData, SequenceStart}
use Rattle.fast_stream.specs.meaning.Fields.{field_term, sent_integer}
use Rattle.fast_stream.specs.meaning.Grammar.{Grammar}
use Rattle.fast_stream.specs.meaning.Messages.{Found, found, within_limits}
use Rattle.fast_units.specs.declared.fields.Number.{Number}
use Rattle.fast_units.specs.device.Deciding.{source_of, sent_number}
use Rattle.fast_items.specs.device.FieldsAs.{IsFieldAs}
use Rattle.fast_items.specs.device.IntegerItems.{KeepsItem, item_held}
use Rattle.fast_units.specs.device.Settling.{Serves, IsLastUnit, value_at}
use Rattle.fast_units.specs.declared.progress.Progress.TheVariants.{Whole}
use Rattle.fast_units.specs.device.UnitFronts.{IsSent}
use Rattle.fast_units.specs.device.Taking.{Turns as TurnsTo}
use Rattle.fast_units.proofs.Deciding.{no_entry}
use Rattle.fast_items.proofs.IntegerItems.{sent_item}
use Rattle.fast_units.proofs.Turning.{turns_as, turns_done}
use Rattle.fast_cursor.specs.device.Cursors.{CursorData, bits_left}
use Rattle.fast_cursor.specs.device.Places.{at_place}
use Rattle.fast_machine.specs.declared.machine.Machine.{Machine}
use Rattle.fast_machine.specs.declared.machine.Turn.{Turn}
use Rattle.fast_machine.specs.declared.machine.Turn.TheVariants.{Silent}
use Rattle.fast_loop.specs.declared.spot.Spot.{Spot}
use Rattle.fast_machine.specs.declared.turns.Turns.{Turns}
use Rattle.fast_machine.specs.device.Positions.{placed, Set, set_of, body_in, bit_of, IsAtSequence, CanTurn, IsTurn, turning}
use Rattle.fast_loop.specs.device.Arms.{IsArmOp, IsAtSpot, IsLengthTaken}
use Rattle.fast_machine.specs.device.Opening.{opened_result, opened_by}
use Rattle.fast_machine.specs.device.Passing.{state_past}
use Rattle.fast_machine.specs.device.Steps.{IsStep}
use Rattle.fast_machine.specs.device.TurnsLeft.{Way, IsWithinTurns, HasTurns, HasTurnsFrom, HasTurnsBehind}
use Rattle.fast_loop.proofs.arms.Taken.{bytes_step}
use Rattle.fast_machine.proofs.fields.Heads.{sequence_head}
use Rattle.fast_machine.proofs.fields.QuickFields.{sent_by_bit}
use Rattle.fast_machine.proofs.fields.FieldNodes.{served_node}
use Rattle.fast_machine.proofs.fields.SentFields.{field_sent}
use Rattle.fast_machine.proofs.steps.FieldTurns.{state_of, behind, serves_here, supplied_like, turn_silent}
use Rattle.fast_machine.proofs.steps.Opened.{opened_not_silent}
use Rattle.fast_machine.proofs.steps.SegmentTurns.{IsBehind, can_turn_behind, length_from, length_absent, length_within, elements_of}
use Rattle.fast_machine.proofs.steps.SegmentTurns.{sequence_next, turn_halt, turn_more}
use Rattle.fast_machine.proofs.steps.TurnCounts.{claim_within, length_passed, one_turn, passed, turns_taken}

-- a length as an item
abbrev pub length_item : Option ℕ → Option Number
length_item None = None
length_item (Some n) = Some (Number.Unsigned n)

-- what is read behind the field of a length
abbrev pub behind_length : Set → Limits → Machine → ℕ → List ℕ → Found → Grammar Dictionary
behind_length set l m node body = sequence_from_then (bounds l) node
    (segment_then (body_in set body) (body_then (bounds l) (body_in set body))) (behind set l m)

-- The length stands at a source that no text changes: its bytes.
length_turns : (set : Set) (l : Limits) (m : Machine) (node : ℕ) (f : FieldData) (body rest : List ℕ) (x : Option ℕ) (n : ℕ)
    → IsAtSequence set m.cursor node f body → IsSent f (bit_of f (state_of m))
    → IsLastUnit (reader_of l.strict (field_term (bounds l) f (previous_at f.entry (slots_dictionary m.slots)) true)) f rest
    (slots_dictionary m.slots) (slots_dictionary m.slots) [] (Whole (source_of (length_item x)) n)
    → TurnsTo (turning set l m) (take n rest) (length_from set l m node (option_map U x) f body)
length_turns set l m node f body rest x n next sent (some, within, gives) =
    let k = behind_length set l m node body in
    let st = state_of m in
    let o = gives.outcome in
    turns_as (sequence_next set l m node f body next ∙ field_sent l.strict (bounds l) f st k sent)
    (sym (ap (λ (r : Found). reader_of l.strict (k r)) (λ i. (
      (gives.settled.value ∙ stands x) i,
      record {
        context = record { dictionary = sym gives.settled.dictionary i; counted = m.counted };
        bits = (state_past f (slots_dictionary m.slots) m.counted m.cursor).bits;
      },
    ))))
    (turns_done (λ y. reader_of l.strict (k (found f st y))) gives.turns)
  where
    stands : (x : Option ℕ) → value_at (source_of (length_item x)) f (slots_dictionary m.slots) [] (take n rest) ≡ option_map U x
    stands None = refl
    stands (Some y) = refl

-- A length without an operator that is whole in the piece.
pub length_taken : (set : Set) (l : Limits) (m : Machine) (from : Spot) (node : ℕ) (f : FieldData) (body : List ℕ) (optional : Bool)
    (x : Option ℕ) (n : ℕ) → IsAtSpot set l m from.place
    → IsAtSequence set (at_place m.cursor from.place) node f body → IsFieldAs f UInt32 optional no_operator 0 → Serves set.entries (slots_terms m.slots) f
    → IsFirstInt (λ y. option_map pos y) l.strict (unsigned_up_to 4294967295) optional (First.Whole x n) from.rest.bytes.now
    → IsLengthTaken set l m from node f body (option_map U x) n
length_taken set l m from node f body optional x n spot next so serves first =
    let before = placed m from.place in
    let no_bit : uses_bit f ≡ false = ap (λ o. operator_uses_bit o f.optional) so.operator in
    let varies : f.operator ≢ Constant = subst (λ o. o ≢ Constant) (sym so.operator) (λ e. cc e) in
    let here = serves_here set l before f spot.can.supplied serves in
    let keeps : KeepsItem UInt32 no_operator 0 m.slots m.slots (length_item x) =
    λ g may be served. ap (λ e. write_at e (item_held UInt32 (length_item x)) (slots_dictionary m.slots))
    (sym (no_entry g served (ap keeps_value be.operator))) in
    let unit = sent_item UInt32 optional no_operator 0 l.strict from.rest.bytes.now m.slots m.slots (option_map pos x) (record {
      item = length_item x;
      bytes = n;
    }) refl (λ e. cc e) (λ e. cc e) first (same x) keeps f (bounds l) [] so here in
    record {
      spot = spot;
      at = next;
      no_bit = no_bit;
      some = unit.0;
      within = unit.1;
      turns = length_turns set l before node f body from.rest.bytes.now x n next (sent_by_bit f (state_of before) false varies no_bit (inl refl)) unit;
    }
  where
    same : (x : Option ℕ) → sent_number (length_item x) ≡ sent_integer UInt32 (option_map pos x)
    same None = refl
    same (Some y) = refl

-- The same of the next instruction's node.
pub sequence_taken : (t : Templates) (l : Limits) (m : Machine) (from : Spot) (op : Op) (node : ℕ) (v : Node) (length : FieldInstruction)
    (body : Vec ℕ Global) (ns : List ℕ) (optional : Bool) (x : Option ℕ) (n : ℕ)
    → IsAtSpot (set_of t) l m from.place → IsArmOp (set_of t) from.place op (sequence_of optional)
    → node ≡ op.node → slice_get t.nodes.items node ≡ Some v → v.shape ≡ Sequence length body → ns ≡ body.items
    → IsFirstInt (λ y. option_map pos y) l.strict (unsigned_up_to 4294967295) optional (First.Whole x n) from.rest.bytes.now
    → IsLengthTaken (set_of t) l m from node (field_data length) ns (option_map U x) n
sequence_taken t l m from op node v x body ns optional y n spot at same there shape items first =
    let set = set_of t in
    let (own, inside, is, operator, absent) = at.is v (subst (λ i. slice_get t.nodes.items i ≡ Some v) same there) in
    let both : Sequence own inside ≡ Sequence x body = sym is ∙ shape in
    let here : own ≡ x = cc both in
    let served = served_node set l (placed m from.place) node v (Sequence x body) spot.can.supplied there shape in
    length_taken set l m from node (field_data x) ns optional y n spot
    (sequence_head t (at_place m.cursor from.place) node v (at.first ∙ ap Some (sym same)) there x body ns shape items)
    (record {
      kind = served.1;
      optional = ap (λ (f : FieldInstruction). f.optional) (sym here) ∙ absent;
      operator = ap (λ (f : FieldInstruction). f.operator) (sym here) ∙ operator;
      entry = λ e. absurd (cc e);
    })
    served.0 first

module _ {S : Type 0} (takes stops : S → EventData → S → Type 0) (set : Set) (l : Limits) (m : Machine) (from : Spot) (node : ℕ)
    (f : FieldData) (body : List ℕ) (value : Option ScalarData) (n : ℕ) (h : IsLengthTaken set l m from node f body value n)
    (t : Turns) (counts : t.count ≡ m.turns.count + 1) where
  -- the machine before the sequence, and with the turn counted
  abbrev before : Machine
  before = placed m from.place

  abbrev counting : Machine
  counting = record before { turns = t }

  can : CanTurn set l counting
  can = record {
    supplied = supplied_like set l before counting h.spot.can.supplied (record {
      terms = refl;
      carry = refl;
      text = refl;
      identifier = refl;
      rests = refl;
      latest = refl;
    }) h.spot.can.supplied.counted;
    placed = h.spot.can.placed;
    mapped = h.spot.can.mapped;
  }

  counted_turn : (way : Way) (k : ℕ) → HasTurns way set l 0 k before → IsWithinTurns way set l 1 k t.count m.counted before.cursor
  counted_turn way k c = one_turn way set l k m.turns.count t.count m.counted before.cursor counts c

  -- The length's bytes, and a turn behind them.
  length_step : (s : S) (result : Result Turn FaultCode) (s' : S) (m' : Machine)
      → IsTurn takes stops set l (length_from set l before node value f body) s result s' m'
      → ((way : Way) (k : ℕ) → IsWithinTurns way set l 1 k t.count m.counted before.cursor → HasTurnsBehind result way set l k m')
      → IsStep takes stops set l before from.rest.bytes.now s (record { bytes = n; turn = result }) s' m'
  length_step s result s' m' turn turns =
      bytes_step takes stops set l before m' from.rest.bytes.now s n
      (length_from set l before node value f body) result s' h.some h.within h.turns turn
      (λ way k c. turns way k (counted_turn way k c))

  -- the bits that are left
  same_bits : bits_left before.cursor ≡ (state_past f (slots_dictionary m.slots) m.counted before.cursor).bits
  same_bits = sym (ap (λ b. if b then later_bits (bits_left before.cursor) else bits_left before.cursor) h.no_bit)

  module _ (c : CursorData) (is : c ≡ record before.cursor { left = drop 1 before.cursor.left }) where
    -- Without a length there is no sequence.
    pub absent_step : value ≡ None → (s : S) → IsStep takes stops set l before from.rest.bytes.now s (record {
      bytes = n;
      turn = Ok Silent;
    }) s (record counting { cursor = c })
    absent_step none s =
        length_step s (Ok Silent) s (record counting { cursor = c })
        (turn_silent takes stops set l s counting counting c f (length_from set l before node value f body) can same_bits refl is
        (length_absent set l before node value f body (sym (ap (option_map integer_of) none))))
        (λ way k w. passed way set l k t.count t.count m.counted m.counted before.cursor c
        (sequence h.at.0 f (body_in set body)) h.at.3 refl refl (ap (λ (x : CursorData). x.left) is)
        (ap (λ (x : CursorData). x.frames) is) w)

    module _ (claimed count : ℕ) (sent : value ≡ Some (U claimed)) (fits : within_limits (bounds l) m.counted claimed ≡ Ok count)
        (few : m.counted + count ≤ l.max_total) where
      -- the machine at the sequence's elements
      abbrev behind_it : Machine
      behind_it = record counting { cursor = c; counted = m.counted + count }

      is_behind : IsBehind f counting behind_it (m.counted + count)
      is_behind = record {
        used = before.cursor.used;
        ends = before.cursor.ends;
        same = ap (λ (x : CursorData). record counting { cursor = x; counted = m.counted + count }) is;
        bits = same_bits;
      }

      pub can_behind : CanTurn set l behind_it
      can_behind = can_turn_behind set l f counting behind_it (m.counted + count) can is_behind few

      begins : length_from set l before node value f body ≡ Emit (SequenceStart node count) (elements_of set l behind_it count body)
      begins = length_within set l counting behind_it node value f body (pos claimed) count (sym (ap (option_map integer_of) sent)) (sym fits) is_behind

      -- The sink stops at its beginning,
      pub stopped_step : (s : S) (code : FaultCode) (s' : S) → (code ≡ SinkStopped) × stops s (SequenceStart node count) s'
          → IsStep takes stops set l before from.rest.bytes.now s (record {
            bytes = n;
            turn = Err code;
          }) s' behind_it
      stopped_step s code s' stopped =
          length_step s (Err code) s' behind_it (turn_halt takes stops set l (length_from set l before node value f body)
          (elements_of set l behind_it count body) (SequenceStart node count) s code s' behind_it begins stopped can_behind.supplied)
          (λ way k w. turns_taken way set l k t.count m.counted before.cursor w)

      -- or its elements follow.
      pub elements_step : (s mid : S) (begun : Result ℕ FaultCode) (s' : S) (m' : Machine) → takes s (SequenceStart node count) mid
          → IsTurn takes stops set l (elements_of set l behind_it count body) mid (opened_result begun) s' (opened_by begun m')
          → ((way : Way) (k : ℕ) → HasTurnsFrom way set l k count body behind_it → HasTurnsBehind (opened_result begun) way set l k (opened_by begun m'))
          → IsStep takes stops set l before from.rest.bytes.now s (record { bytes = n; turn = opened_result begun }) s' (opened_by begun m')
      elements_step s mid begun s' m' taken turn turns =
          length_step s (opened_result begun) s' (opened_by begun m')
          (turn_more takes stops set l (length_from set l before node value f body) (elements_of set l behind_it count body)
          (SequenceStart node count) s mid (opened_result begun) s' (opened_by begun m') begins taken turn (opened_not_silent begun))
          (λ way k w. turns way k
          (length_passed way set l k t.count t.count m.counted (m.counted + count) before.cursor c h.at.0 f body count h.at.3 refl refl few
          (claim_within l m.counted claimed count fits)
          (ap (λ (x : CursorData). x.left) is) (ap (λ (x : CursorData). x.frames) is) w))
