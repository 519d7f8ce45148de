-- What holds of a machine behind a turn at which a segment begins or ends.
use Rattle.std.proofs.Common.{refl, sym, ap, ◌∙◌, subst, inl, inr, arith}
use Rattle.std.proofs.Math.Nat.{le-max_left}
use Rattle.std.specs.Prelude.{◌≡◌, ◌≢◌, ℕ, zero, suc, ◌+◌, ◌-◌, ◌<◌, ◌≤◌, Bool, true, false, nat_lt, List, [], ◌∷◌, drop, length, slice_get}
use Rattle.std.specs.Prelude.{ℤ, nat_abs, Option, Some, None, option_map, Result, Ok, Err}
use Rattle.std.proofs.lemmas.Bool.{lt-ltb}
use Rattle.std.proofs.lemmas.Option.{slice_get_cases}
use Rattle.fast_wire.specs.meaning.Maps.{bits, first_bit, later_bits}
use Rattle.fast_value.specs.declared.settings.Limits.{Limits}
use Rattle.fast_value.specs.declared.codes.Code.{Code}
use Rattle.fast_value.specs.meaning.Kinds.{ScalarData, integer_of}
use Rattle.fast_value.specs.meaning.Limits.{Bounds, bounds}
use Rattle.fast_tree.specs.declared.instructions.Node.{Node}
use Rattle.fast_tree.specs.meaning.Numbers.{AreBelow, numbers_of}
use Rattle.fast_tree.specs.meaning.Sizes.{depth, body_depth}
use Rattle.fast_tree.specs.meaning.Tree.{FieldData, Instruction, group, Body, step, bits_of}
use Rattle.fast_dict.specs.meaning.Dictionary.{Dictionary, previous_at}
use Rattle.fast_dict.specs.meaning.Operators.{nothing, decide}
use Rattle.fast_dict.specs.meaning.Slots.{slots_dictionary, slots_terms}
use Rattle.fast_dict.specs.declared.slots.Slots.{Slots}
use Rattle.fast_stream.specs.declared.faults.FaultCode.{FaultCode}
use Rattle.fast_stream.specs.declared.faults.FaultCode.TheVariants as Why
use Rattle.fast_machine.specs.declared.machine.Machine.{Machine}
use Rattle.fast_machine.specs.declared.machine.Turn.{Turn}
use Rattle.fast_machine.specs.declared.machine.Turn.TheVariants.{Silent, Handed, Waits as TurnWaits}
use Rattle.fast_machine.specs.declared.machine.Waiting.TheVariants.{Map, SegmentMap, Field}
use Rattle.fast_units.specs.declared.source.ValueSource.{ValueSource}
use Rattle.fast_stream.specs.meaning.Events.{EventData, GroupStart, GroupEnd, SequenceStart, ElementStart, ElementEnd, MessageEnd}
use Rattle.fast_stream.specs.device.Readers.{Reader, Done, Emit}
use Rattle.fast_stream.specs.meaning.Grammar.{Grammar, hand, presence_map, narrow, ◌>>=◌, of_result}
use Rattle.fast_stream.specs.device.GrammarReaders.{presence_map_reader, reader_of}
use Rattle.fast_stream.specs.meaning.Messages.{Context, State, field_in, map_bits, within_limits, length_in}
use Rattle.fast_stream.specs.device.Continuations.{sequence_from_then, segment_then, instruction_then, body_then}
use Rattle.fast_units.specs.device.Taking.{Waits}
use Rattle.fast_units.specs.device.Settling.{value_at}
use Rattle.fast_units.specs.device.UnitFronts.{IsSent}
use Rattle.fast_units.specs.device.Deciding.{IsDecided}
use Rattle.fast_stream.specs.meaning.Fields.{field_term}
use Rattle.fast_stream.specs.device.Frames.{Frame, open_group, open_element, unwind, resume, opened, elements_turn}
use Rattle.fast_machine.specs.device.Passing.{state_past, length_then, group_from, elements_from}
use Rattle.fast_program.specs.declared.ops.Op.{Op}
use Rattle.fast_cursor.specs.declared.frames.Elements.{Elements}
use Rattle.fast_cursor.specs.device.Segments.{elements_data}
use Rattle.fast_cursor.specs.device.Cursors.{ElementsData, FrameData, CursorData, bits_behind, bits_left, resting, frame_here, entered, left_to}
use Rattle.fast_machine.specs.device.Positions.{Set, run_in, body_in, IsBodyOf, frame_by, frames_in, state_in, IsMapWhole, AreElementsFit}
use Rattle.fast_machine.specs.device.Positions.{AreFramesFit, IsPlaced, IsSupplied, CanTurn, IsTurn, IsAtGroup, IsAtSequence}
use Rattle.fast_machine.specs.device.Positions.{BeginsWithField, bit_of, turning, meaning}
use Rattle.fast_stream.proofs.streams.Frames.{sequence-same, counting, at_end, at_group, group_turn, at_optional_group, close_group}
use Rattle.fast_stream.proofs.streams.Frames.{close_element, close_message}
use Rattle.fast_units.proofs.Turning.{result_done}
use Rattle.fast_machine.proofs.units.Hanging.{hands_waits, hands_more, hands_last}
use Rattle.fast_machine.proofs.steps.Moves.{moves_one, moves_halt, moves_more, moves_as}
use Rattle.fast_stream.proofs.readers.UnitReaders.{below-nil}
use Rattle.fast_machine.proofs.fields.SentFields.{field_sent_waits}
use Rattle.fast_units.specs.device.TextDecisions.{first_reader}
use Rattle.fast_fields.specs.device.Carries.{IsCarried}
use Rattle.fast_machine.proofs.steps.FieldTurns.{IsLike, supplied_like, can_turn_past, state_of, behind, field_known, field_wrong}
use Rattle.fast_machine.proofs.steps.FieldTurns.{can_turn_slots, turn_fault, field_begins, used_by}

-- A presence map waits for a byte.
pub map_waits : {A : Type 0} (s : Bool) (g : List ℕ → Grammar A) → Waits (reader_of s (presence_map g))
unfolding presence_map_reader
map_waits s g = (_, refl)

-- the machine with another cursor is like it, if there are as many frames
pub like_at : (m : Machine) (c : CursorData) → resting c ≡ resting m.cursor → IsLike m (record m { cursor = c })
like_at m c e = record { terms = refl; carry = refl; text = refl; identifier = refl; rests = e; latest = refl }

-- The cursor stands in a segment that begins.
pub placed_in : (set : Set) (c : CursorData) (elements : Option ElementsData) (body : List ℕ) → IsPlaced set c → IsMapWhole c.map
    → AreBelow (length set.nodes) body
    → suc (length c.frames) + body_depth (body_in set body) ≤ c.depth → AreElementsFit set c.depth (length c.frames) elements
    → IsPlaced set (entered c elements body)
placed_in set c elements body h mapped below nested fit = record {
  below = below;
  nested = nested;
  frames = (record { below = h.below; nested = h.nested; mapped = mapped; elements = fit }, h.frames);
}

-- The frames around it fit.
pub fit_out : (set : Set) (c : CursorData) (f : FrameData) (fs : List FrameData) → IsPlaced set c → c.frames ≡ f ∷ fs → AreFramesFit set c.depth (f ∷ fs)
fit_out set c f fs h e = subst (AreFramesFit set c.depth) e h.frames

-- The cursor stands behind a segment that is whole.
pub placed_out : (set : Set) (c : CursorData) (f : FrameData) (fs : List FrameData) → IsPlaced set c → c.frames ≡ f ∷ fs → IsPlaced set (left_to c f fs)
placed_out set c f fs h e =
    let fit = fit_out set c f fs h e in
    record { below = fit.0.below; nested = fit.0.nested; frames = fit.1 }

-- a frame in front
pub some_frame : (fs : List FrameData) → ¬ (fs ≡ []) → (f : FrameData) × (rest : List FrameData) × (fs ≡ f ∷ rest)
some_frame [] h = absurd (h refl)
some_frame (f ∷ fs) h = (f, fs, refl)

-- A segment by the bits that it uses.
abbrev pub opened_by : ℕ → (List Bool → Grammar Dictionary) → Grammar Dictionary
opened_by n k = map_bits n (nat_lt 0 n) >>= k

-- one that uses some begins with its map
pub opened_mapped : (n : ℕ) (k : List Bool → Grammar Dictionary) → 0 < n → opened_by n k ≡ presence_map (λ w. narrow n w (k (bits w)))
opened_mapped n k h = ap (λ b. map_bits n b >>= k) (lt-ltb 0 n h)

-- the next element of so many
pub element_turn : (l : Bounds) (fs : List Frame) (n : ℕ) (body is : Body) (s : State) → 0 < n
    → elements_turn l fs n body is s ≡ hand ElementStart (opened l (open_element (n - 1) body is s.bits ∷ fs) body s.context)
element_turn l fs zero body is s h = absurd (omega (arith, h))
element_turn l fs (suc n) body is s h =
    let less : suc n - 1 ≡ n = omega arith in
    ap (λ k. hand ElementStart (opened l (open_element k body is s.bits ∷ fs) body s.context)) (sym less)

module _ {S : Type 0} (takes stops : S → EventData → S → Type 0) (set : Set) (l : Limits) where
  -- A segment begins, with its map if its instructions use any bits.
  pub turn_in : (m m' : Machine) (c : CursorData) (t : Turn) (width : ℕ) (elements : Option ElementsData) (body : List ℕ)
      (r : Reader Dictionary) (e : EventData) (s s' : S)
      → (0 < width → (t ≡ TurnWaits) × (m' ≡ record m { waiting = SegmentMap width; cursor = c })) → (width ≡ 0 → (t ≡ Handed) × (m' ≡ record m { cursor = c }))
      → c ≡ entered m.cursor elements body → CanTurn set l m → width ≡ bits_of (body_in set body) → AreBelow (length set.nodes) body
      → suc (length m.cursor.frames) + body_depth (body_in set body) ≤ m.cursor.depth → AreElementsFit set m.cursor.depth (length m.cursor.frames) elements
      → r ≡ Emit e (reader_of l.strict (opened (bounds l) (frame_by set
      (frame_here m.cursor elements) elements ∷ frames_in set m.cursor.frames) (body_in set body) (record {
        dictionary = slots_dictionary m.slots;
        counted = m.counted;
      })))
      → takes s e s' → IsTurn takes stops set l r s (Ok t) s' m'
  turn_in m m' c t zero elements body r e s s' waits goes is h wide below nested fit same taken =
      let (turn, machine) = goes refl in
      let k : List Bool → Grammar Dictionary = λ b. resume (bounds l)
      (frame_by set (frame_here m.cursor elements) elements ∷ frames_in set m.cursor.frames) (body_in set body) (record {
        context = record { dictionary = slots_dictionary m.slots; counted = m.counted };
        bits = b;
      }) in
      let supplied = supplied_like set l m (record m { cursor = entered m.cursor elements body }) h.supplied
      (like_at m (entered m.cursor elements body) refl) h.supplied.counted in
      rw (turn, machine, is) (record {
        moves = moves_one takes stops (turning set l m) s s' (same ∙ ap (λ n. Emit e (reader_of l.strict (opened_by n k))) (sym wide)) taken;
        supplied = supplied;
        goes_on = record {
          supplied = supplied;
          placed = placed_in set m.cursor elements body h.placed h.mapped below nested fit;
          mapped = inl refl;
        };
      })
  turn_in m m' c t (suc n) elements body r e s s' waits goes is h wide below nested fit same taken =
      let (turn, machine) = waits (omega arith) in
      let k : List Bool → Grammar Dictionary = λ b. resume (bounds l)
      (frame_by set (frame_here m.cursor elements) elements ∷ frames_in set m.cursor.frames) (body_in set body) (record {
        context = record { dictionary = slots_dictionary m.slots; counted = m.counted };
        bits = b;
      }) in
      let g : List ℕ → Grammar Dictionary = λ w. narrow (suc n) w (k (bits w)) in
      let supplied = supplied_like set l m (record m {
        waiting = SegmentMap (suc n);
        cursor = entered m.cursor elements body;
      }) h.supplied (record { terms = refl; carry = refl; text = refl; identifier = refl; rests = refl; latest = refl }) h.supplied.counted in
      rw (
        turn,
        machine,
        is,
        same ∙ ap (λ j. Emit e (reader_of l.strict (opened_by j k))) (sym wide)
            ∙ ap (λ q. Emit e (reader_of l.strict q)) (opened_mapped (suc n) k (omega arith)),
      ) (record {
        moves = hands_more takes stops e (reader_of l.strict (presence_map g)) s s' (Ok tt) s' (reader_of l.strict (presence_map g)) taken
            (hands_waits takes stops (reader_of l.strict (presence_map g)) s' (map_waits l.strict g));
        supplied = supplied;
        goes_on = record {
          supplied = supplied;
          takes = (below-nil, omega arith, refl, placed_in set m.cursor elements body h.placed h.mapped below nested fit, wide);
        };
      })

  -- The sink stopped at the event in front.
  pub turn_halt : (r p : Reader Dictionary) (e : EventData) (s : S) (c : FaultCode) (s' : S) (m' : Machine) → r ≡ Emit e p
      → (c ≡ Why.SinkStopped) × stops s e s' → IsSupplied set l m' → IsTurn takes stops set l r s (Err c) s' m'
  turn_halt r p e s c s' m' same h supplied = record {
    moves = moves_halt takes stops (turning set l m') (meaning set l m') s c s' same h;
    supplied = supplied;
    goes_on = tt;
  }

  -- An event in front was taken, and the machine goes on behind it.
  pub turn_one : (r : Reader Dictionary) (e : EventData) (s s' : S) (m' : Machine) → r ≡ Emit e (turning set l m') → takes s e s'
      → CanTurn set l m' → IsTurn takes stops set l r s (Ok Handed) s' m'
  turn_one r e s s' m' same taken h = record {
    moves = moves_one takes stops (meaning set l m') s s' same taken;
    supplied = h.supplied;
    goes_on = h;
  }

  -- An event in front was taken, and another turn followed.
  pub turn_more : (r p : Reader Dictionary) (e : EventData) (s mid : S) (result : Result Turn FaultCode) (s' : S) (m' : Machine) → r ≡ Emit e p → takes s e mid
      → IsTurn takes stops set l p mid result s' m' → result ≢ Ok Silent → IsTurn takes stops set l r s result s' m'
  turn_more r p e s mid result s' m' same taken h on = record {
    moves = moves_as takes stops (turning set l m') (meaning set l m') s result s' same
        (moves_more takes stops e p (turning set l m') (meaning set l m') s mid result s' taken h.moves on);
    supplied = h.supplied;
    goes_on = h.goes_on;
  }

  -- The message is whole, and no other is begun.
  pub turn_end : (r : Reader Dictionary) (s s' : S) (m : Machine) (c : CursorData) → CanTurn set l m → m.cursor.left ≡ []
      → m.cursor.frames ≡ [] → c ≡ record m.cursor {
        map = [];
        used = 0;
        ends = 8;
      }
      → r ≡ Emit MessageEnd (Done (slots_dictionary m.slots)) → takes s MessageEnd s' → IsTurn takes stops set l r s (Ok TurnWaits) s' (record m {
        waiting = Map;
        cursor = c;
      })
  turn_end r s s' m c h end outermost is same taken =
      let m' = record m { waiting = Map; cursor = c } in
      let rest : c ≡ resting m.cursor = is ∙ ap (λ f. record m.cursor {
        frames = f;
        map = [];
        used = 0;
        ends = 8;
      }) outermost ∙ ap (λ ns. record (resting m.cursor) { left = ns }) end in
      let supplied = supplied_like set l m (record m {
        waiting = Map;
        cursor = resting m.cursor;
      }) h.supplied (record { terms = refl; carry = refl; text = refl; identifier = refl; rests = refl; latest = refl }) h.supplied.counted in
      rw (rest, same) (record {
        moves = hands_last takes stops MessageEnd (slots_dictionary m.slots) s s' (Ok tt) taken;
        supplied = supplied;
        goes_on = record {
          supplied = supplied;
          takes = (below-nil, omega arith, refl);
        };
      })

-- The machine at the end of a segment, by the frames around it.
pub ending : (set : Set) (l : Limits) (m : Machine) (fs : List FrameData) → m.cursor.left ≡ [] → m.cursor.frames ≡ fs
    → turning set l m ≡ reader_of l.strict (unwind (bounds l) (frames_in set fs) (record { dictionary = slots_dictionary m.slots; counted = m.counted }))
ending set l m fs end frames =
    let s : State = state_in (slots_dictionary m.slots) m.counted m.cursor in
    ap (reader_of l.strict)
    (ap (λ f. resume (bounds l) (frames_in set f) (body_in set m.cursor.left) s) frames
    ∙ ap (λ ns. resume (bounds l) (frames_in set fs) (body_in set ns) s) end
    ∙ at_end (bounds l) (frames_in set fs) s)

-- The message ends.
pub message_end : (set : Set) (l : Limits) (m : Machine) → m.cursor.left ≡ [] → m.cursor.frames ≡ []
    → turning set l m ≡ Emit MessageEnd (Done (slots_dictionary m.slots))
message_end set l m end outermost = ending set l m [] end outermost ∙ ap (reader_of l.strict) (close_message (bounds l) (record {
  dictionary = slots_dictionary m.slots;
  counted = m.counted;
}))

-- A group or an element ends, behind which the machine has another cursor.
pub record IsClosed (set : Set) (l : Limits) (m : Machine) (c : CursorData) (elements : Option ElementsData) : Type 0 where
  pub can : CanTurn set l (record m { cursor = c })
  pub elements_fit : (e : ElementsData) → elements ≡ Some e → AreElementsFit set c.depth (length c.frames) (Some e)
  pub group : elements ≡ None → turning set l m ≡ Emit GroupEnd (turning set l (record m { cursor = c }))
  pub element : (e : ElementsData) → elements ≡ Some e → turning set l m ≡ Emit ElementEnd
      (reader_of l.strict (elements_from set (bounds l) e.more e.body (slots_dictionary m.slots) m.counted c))

pub closed : (set : Set) (l : Limits) (m : Machine) (c : CursorData) (elements : Option ElementsData) → CanTurn set l m
    → m.cursor.left ≡ [] → ¬ (m.cursor.frames ≡ [])
    → ((f : FrameData) (fs : List FrameData) → m.cursor.frames ≡ f ∷ fs → (c ≡ left_to m.cursor f fs) × (elements ≡ f.elements)) → IsClosed set l m c elements
closed set l m c elements h end inner left =
    let (f, fs, frames) = some_frame m.cursor.frames inner in
    let (is, same) = left f fs frames in
    let fit = fit_out set m.cursor f fs h.placed frames in
    let context : Context = record { dictionary = slots_dictionary m.slots; counted = m.counted } in
    let supplied = supplied_like set l m (record m { cursor = left_to m.cursor f fs }) h.supplied (like_at m (left_to m.cursor f fs) refl) h.supplied.counted in
    rw (is, same) (record {
      can = record { supplied = supplied; placed = placed_out set m.cursor f fs h.placed frames; mapped = fit.0.mapped };
      elements_fit = λ e some. subst (AreElementsFit set m.cursor.depth (length fs)) some fit.0.elements;
      group = λ none. ending set l m (f ∷ fs) end frames
          ∙ ap (λ x. reader_of l.strict (unwind (bounds l) (frame_by set f x ∷ frames_in set fs) context)) none
          ∙ ap (reader_of l.strict) (close_group (bounds l) (frames_in set fs) (body_in set f.after) (bits_behind f.map f.used) context);
      element = λ e some. ending set l m (f ∷ fs) end frames
          ∙ ap (λ x. reader_of l.strict (unwind (bounds l) (frame_by set f x ∷ frames_in set fs) context)) some
          ∙ ap (reader_of l.strict) (close_element (bounds l) (frames_in set fs) e.more (body_in set e.body) (body_in set f.after)
          (bits_behind f.map f.used) context);
    })

-- What is still to come of a sequence, by the set's own program.
pub closed_in : (set : Set) (l : Limits) (m : Machine) (c : CursorData) (elements : Option Elements) → IsSupplied set l m
    → ((f : FrameData) (fs : List FrameData) → m.cursor.frames ≡ f ∷ fs
    → (c ≡ left_to m.cursor f fs) × (option_map (elements_data m.cursor.ops) elements ≡ f.elements))
    → (f : FrameData) (fs : List FrameData) → m.cursor.frames ≡ f ∷ fs
    → (c ≡ left_to m.cursor f fs) × (option_map (elements_data set.program) elements ≡ f.elements)
closed_in set l m c elements h left f fs frames =
    let (is, same) = left f fs frames in
    (is, ap (λ (ops : List Op). option_map (elements_data ops) elements) (sym h.program) ∙ same)

-- a group that begins, of which the bit is used
abbrev pub group_start : Set → Limits → Machine → ℕ → List ℕ → ℕ → Reader Dictionary
group_start set l m node body used =
    Emit (GroupStart node) (reader_of l.strict (opened (bounds l)
    (open_group (body_in set (drop 1 m.cursor.left)) (bits_behind m.cursor.map used) ∷ frames_in set m.cursor.frames) (body_in set body)
    (record { dictionary = slots_dictionary m.slots; counted = m.counted })))

-- The next instruction is a group that is there, and its bit is used, if it has one.
pub record IsGroupBegun (set : Set) (l : Limits) (m m' : Machine) (node : ℕ) (body : List ℕ) : Type 0 where
  pub used : ℕ
  pub ends : ℕ
  pub same : m' ≡ record m { cursor = record m.cursor { used = used; ends = ends } }
  pub begins : turning set l m ≡ group_start set l m node body used

-- what is to be read then
pub begun_from : (set : Set) (l : Limits) (m m' : Machine) (node : ℕ) (body : List ℕ) → IsGroupBegun set l m m' node body
    → turning set l m ≡ reader_of l.strict (group_from set (bounds l) node body (slots_dictionary m'.slots) m'.counted m'.cursor)
begun_from set l m m' node body h =
    h.begins ∙ ap (λ (x : Machine). reader_of l.strict (group_from set (bounds l) node body (slots_dictionary x.slots) x.counted x.cursor)) (sym h.same)

-- the bits behind one that is used
used_behind : (old new : CursorData) → new ≡ record old {
  used = new.used;
  ends = new.ends;
} → bits_left new ≡ later_bits (bits_left old) → bits_behind old.map new.used ≡ later_bits (bits_left old)
used_behind old new same later = ap (λ w. bits_behind w new.used) (sym (ap (λ (c : CursorData). c.map) same)) ∙ later

-- A group that is never absent.
pub group_there : (set : Set) (l : Limits) (m m' : Machine) (node : ℕ) (body : List ℕ) → IsAtGroup set m.cursor node false body → m' ≡ m
    → IsGroupBegun set l m m' node body
group_there set l m m' node body (at, number, some, is) same = record {
  used = m.cursor.used;
  ends = m.cursor.ends;
  same = same;
  begins =
      let s : State = state_in (slots_dictionary m.slots) m.counted m.cursor in
      ap (reader_of l.strict)
      (ap (λ b. resume (bounds l) (frames_in set m.cursor.frames) b s) is
      ∙ at_group (bounds l) (frames_in set m.cursor.frames) at (body_in set body) (body_in set (drop 1 m.cursor.left)) s)
      ∙ ap (λ n. group_start set l m n body m.cursor.used) number;
}

-- A group that may be absent, by its bit.
group_by : (set : Set) (l : Limits) (m : Machine) (node : ℕ) (body : List ℕ) (bit : Bool) (used : ℕ)
    → IsAtGroup set m.cursor node true body → first_bit (bits_left m.cursor) ≡ bit
    → bits_behind m.cursor.map used ≡ later_bits (bits_left m.cursor)
    → turning set l m ≡ reader_of l.strict (group_turn bit (bounds l) (frames_in set m.cursor.frames) node (body_in set body)
    (body_in set (drop 1 m.cursor.left))
    (state_in (slots_dictionary m.slots) m.counted (record m.cursor { used = used })))
group_by set l m node body bit used (at, number, some, is) first later =
    let s : State = state_in (slots_dictionary m.slots) m.counted m.cursor in
    let fs = frames_in set m.cursor.frames in
    let rest = body_in set (drop 1 m.cursor.left) in
    ap (reader_of l.strict)
    (ap (λ b. resume (bounds l) fs b s) is
    ∙ at_optional_group (bounds l) fs at (body_in set body) rest s
    ∙ ap (λ n. group_turn (first_bit (bits_left m.cursor)) (bounds l) fs n (body_in set body) rest (record s { bits = later_bits (bits_left m.cursor) })) number
    ∙ ap (λ b. group_turn b (bounds l) fs node (body_in set body) rest (record s { bits = later_bits (bits_left m.cursor) })) first
    ∙ ap (λ b. group_turn bit (bounds l) fs node (body_in set body) rest (record s { bits = b })) (sym later))

pub group_present : (set : Set) (l : Limits) (m m' : Machine) (c : CursorData) (node : ℕ) (body : List ℕ)
    → IsAtGroup set m.cursor node true body → first_bit (bits_left m.cursor) ≡ true
    → c ≡ record m.cursor {
      used = c.used;
      ends = c.ends;
    } → bits_left c ≡ later_bits (bits_left m.cursor) → m' ≡ record m { cursor = c } → IsGroupBegun set l m m' node body
group_present set l m m' c node body at first same later is = record {
  used = c.used;
  ends = c.ends;
  same = is ∙ ap (λ x. record m { cursor = x }) same;
  begins = group_by set l m node body true c.used at first (used_behind m.cursor c same later);
}

-- A body that is next nests no deeper than there is place for.
pub nests : (set : Set) (c : CursorData) (i : Instruction) (rest : Body) (k : ℕ) → IsPlaced set c → body_in set c.left ≡ step i rest
    → depth i ≡ suc k → suc (length c.frames) + k ≤ c.depth
nests set c i rest k placed next deep =
    up (length c.frames) k (depth i) (body_depth (body_in set c.left)) c.depth deep
    (subst (λ b. depth i ≤ body_depth b) (sym next) (le-max_left (depth i) (body_depth rest))) placed.nested
  where
    up : (f k d b n : ℕ) → d ≡ suc k → d ≤ b → f + b ≤ n → suc f + k ≤ n
    up f k d b n e h fits = omega (arith, e, h, fits)

-- A machine at whose group the bit is used turns as before, and the group fits.
module _ (set : Set) (l : Limits) (m m' : Machine) (node : ℕ) (optional : Bool) (body : List ℕ) (can : CanTurn set l m)
    (at : IsAtGroup set m.cursor node optional body) (begun : IsGroupBegun set l m m' node body) where
  pub group_can : CanTurn set l m'
  group_can = subst (CanTurn set l) (sym begun.same) (used_by set l m begun.used begun.ends can)

  pub group_some : 0 < length m'.cursor.left
  group_some = subst (λ (x : Machine). 0 < length x.cursor.left) (sym begun.same) at.2

  pub group_nests : suc (length m'.cursor.frames) + body_depth (body_in set body) ≤ m'.cursor.depth
  group_nests = subst (λ (x : Machine). suc (length x.cursor.frames) + body_depth (body_in set body) ≤ x.cursor.depth) (sym begun.same)
      (nests set m.cursor (group at.0 optional (body_in set body)) (body_in set (drop 1 m.cursor.left)) (body_depth (body_in set body)) can.placed at.3 refl)

-- past an instruction, and behind one more bit or not
past_used : (old mid new : CursorData) → mid ≡ record old {
  used = mid.used;
  ends = mid.ends;
} → new ≡ record mid { left = drop 1 mid.left } → new ≡ record old { left = drop 1 old.left; used = mid.used; ends = mid.ends }
past_used old mid new same is = is ∙ ap (λ (c : CursorData). record c { left = drop 1 c.left }) same

module _ {S : Type 0} (takes stops : S → EventData → S → Type 0) (set : Set) (l : Limits) where
  -- An absent group.
  pub group_absent : (m : Machine) (mid c : CursorData) (node : ℕ) (body : List ℕ) (s : S) → CanTurn set l m
      → IsAtGroup set m.cursor node true body → first_bit (bits_left m.cursor) ≡ false
      → mid ≡ record m.cursor { used = mid.used; ends = mid.ends } → bits_left mid ≡ later_bits (bits_left m.cursor) → c ≡ record mid { left = drop 1 mid.left }
      → IsTurn takes stops set l (turning set l m) s (Ok Silent) s (record m { cursor = c })
  group_absent m mid c node body s h at first same later is =
      let past = past_used m.cursor mid c same is in
      let can = can_turn_past set l m (record m {
        cursor = record m.cursor { left = drop 1 m.cursor.left; used = mid.used; ends = mid.ends };
      }) h (like_at m (record m.cursor {
        left = drop 1 m.cursor.left;
        used = mid.used;
        ends = mid.ends;
      }) refl) h.supplied.counted (record { same = refl }) in
      rw past (record {
        moves = (group_by set l m node body false mid.used at first (used_behind m.cursor mid same later), refl);
        supplied = can.supplied;
        goes_on = can;
      })

-- The bits that the body of a node uses, by where it begins in the program.
pub width_from : (set : Set) (node start width : ℕ) → node < length set.nodes → IsBodyOf set node start
    → ((x : Node) → slice_get set.nodes node ≡ Some x → width ≡ bits_of (body_in set (numbers_of x.shape)))
    → width ≡ bits_of (body_in set (run_in set start))
width_from set node start width within body bits = elim (slice_get_cases set.nodes node).1 [
  | inl there ↦ bits there.0 there.2 ∙ ap (λ ns. bits_of (body_in set ns)) (sym (body there.0 there.2))
  | inr past ↦ absurd (let beyond = past.0 in omega (arith, within, beyond))
]

-- A machine behind a field that gives no event of its own: past the next instruction, and behind the field's bit.
pub record IsBehind (f : FieldData) (m m' : Machine) (counted : ℕ) : Type 0 where
  pub used : ℕ
  pub ends : ℕ
  pub same : m' ≡ record m { cursor = record m.cursor { left = drop 1 m.cursor.left; used = used; ends = ends }; counted = counted }
  pub bits : bits_behind m.cursor.map used ≡ (state_past f (slots_dictionary m.slots) m.counted m.cursor).bits

pub behind_field : (f : FieldData) (m mid : Machine) (c : CursorData) (n counted : ℕ) → mid ≡ record m {
  cursor = record m.cursor { used = mid.cursor.used; ends = mid.cursor.ends };
}
    → bits_left mid.cursor ≡ (state_past f (slots_dictionary m.slots) m.counted m.cursor).bits
    → c ≡ record mid.cursor { left = drop 1 mid.cursor.left } → n ≡ counted
    → IsBehind f m (record mid { cursor = c; counted = n }) counted
behind_field f m mid c n counted same later is count = record {
  used = mid.cursor.used;
  ends = mid.cursor.ends;
  same = ap (λ k. record mid { cursor = c; counted = k }) count ∙ ap (λ x. record mid { cursor = x; counted = counted }) is
      ∙ ap (λ (x : Machine). record x { cursor = record x.cursor { left = drop 1 x.cursor.left }; counted = counted }) same;
  bits = ap (λ w. bits_behind w mid.cursor.used) (sym (ap (λ (x : Machine). x.cursor.map) same)) ∙ later;
}

pub can_turn_behind : (set : Set) (l : Limits) (f : FieldData) (m m' : Machine) (counted : ℕ) → CanTurn set l m → IsBehind f m m' counted
    → counted ≤ l.max_total → CanTurn set l m'
can_turn_behind set l f m m' counted h behind few =
    let past : CursorData = record m.cursor { left = drop 1 m.cursor.left; used = behind.used; ends = behind.ends } in
    subst (CanTurn set l) (sym behind.same)
    (can_turn_past set l m (record m {
      cursor = past;
      counted = counted;
    }) h (record { terms = refl; carry = refl; text = refl; identifier = refl; rests = refl; latest = refl }) few (record { same = refl }))

-- what is to be read of the next instruction, a sequence, once its length is known
abbrev pub length_from : Set → Limits → Machine → ℕ → Option ScalarData → FieldData → List ℕ → Reader Dictionary
length_from set l m node v f body = reader_of l.strict (length_then set (bounds l) node v f body (slots_dictionary m.slots) m.counted m.cursor)

-- Without a length there is no sequence.
pub length_absent : (set : Set) (l : Limits) (m : Machine) (node : ℕ) (v : Option ScalarData) (f : FieldData) (body : List ℕ) → None ≡ option_map integer_of v
    → length_from set l m node v f body ≡ reader_of l.strict (behind set l m (state_past f (slots_dictionary m.slots) m.counted m.cursor))
length_absent set l m node None f body none = refl
length_absent set l m node (Some x) f body none = absurd (cc none)

-- what is to be read of a sequence from its elements on
abbrev pub elements_of : Set → Limits → Machine → ℕ → List ℕ → Reader Dictionary
elements_of set l m count body = reader_of l.strict (elements_from set (bounds l) count body (slots_dictionary m.slots) m.counted m.cursor)

-- A length within the limits: so many elements.
pub length_within : (set : Set) (l : Limits) (m m' : Machine) (node : ℕ) (v : Option ScalarData) (f : FieldData) (body : List ℕ)
    (claimed : ℤ) (count : ℕ) → Some claimed ≡ option_map integer_of v
    → Ok count ≡ within_limits (bounds l) m.counted (nat_abs claimed) → IsBehind f m m' (m.counted + count)
    → length_from set l m node v f body ≡ Emit (SequenceStart node count) (elements_of set l m' count body)
length_within set l m m' node None f body claimed count some within behind = absurd (cc some)
length_within set l m m' node (Some x) f body claimed count some within behind =
    let fs = frames_in set m.cursor.frames in
    let is = body_in set (drop 1 m.cursor.left) in
    let s : State = state_past f (slots_dictionary m.slots) m.counted m.cursor in
    let same : integer_of x ≡ claimed = cc some in
    let fits : length_in (bounds l) s.context x ≡ Ok count = ap (λ z. within_limits (bounds l) m.counted (nat_abs z)) same ∙ sym within in
    ap (reader_of l.strict) (sequence-same (bounds l) fs node (body_in set body) is (Some x, s))
    ∙ result_done l.strict (length_in (bounds l) s.context x)
    (λ n. hand (SequenceStart node n) (elements_turn (bounds l) fs n (body_in set body) is (counting n s))) fits
    ∙ ap (λ b. Emit (SequenceStart node count) (reader_of l.strict (elements_turn (bounds l) fs count (body_in set body) is
    (record { context = record { dictionary = slots_dictionary m.slots; counted = m.counted + count }; bits = b })))) (sym behind.bits)
    ∙ ap (λ (x : Machine). Emit (SequenceStart node count) (elements_of set l x count body)) (sym behind.same)

-- The next instruction is a sequence: what is to be read.
pub sequence_next : (set : Set) (l : Limits) (m : Machine) (n : ℕ) (f : FieldData) (body : List ℕ) → IsAtSequence set m.cursor n f body
    → turning set l m ≡ reader_of l.strict (field_in (bounds l) f (state_of m) >>= sequence_from_then (bounds l) n
    (segment_then (body_in set body) (body_then (bounds l) (body_in set body))) (behind set l m))
unfolding resume body_then instruction_then
sequence_next set l m n f body (at, number, some, i) =
    ap (λ b. reader_of l.strict (resume (bounds l) (frames_in set m.cursor.frames) b (state_of m))) i
    ∙ ap (λ k. reader_of l.strict (field_in (bounds l) f (state_of m) >>= sequence_from_then (bounds l) k
    (segment_then (body_in set body) (body_then (bounds l) (body_in set body))) (behind set l m))) number

module _ {S : Type 0} (takes stops : S → EventData → S → Type 0) (set : Set) (l : Limits) where
  -- A sequence is next, whose length stands in the stream: the machine waits for it.
  pub length_waits : (s : S) (m m' : Machine) (n : ℕ) (f : FieldData) (body : List ℕ) → CanTurn set l m → IsAtSequence set m.cursor n f body
      → IsSent f (bit_of f (state_of m)) → m' ≡ record m { waiting = Field; carry = m'.carry }
      → m'.carry.bytes.capacity ≡ m.carry.bytes.capacity → m'.carry.bytes.text ≡ []
      → IsCarried l (first_reader l f (slots_dictionary m.slots)) m'.carry → IsTurn takes stops set l (turning set l m) s (Ok TurnWaits) s m'
  length_waits s m m' n f body h next sent same room none carried =
      field_begins takes stops set l s m m' h same room none
      (subst (λ (b : Body). BeginsWithField l b (state_of m) m'.carry) (sym next.3) (sent, carried))
      (subst Waits (sym (sequence_next set l m n f body next))
      (field_sent_waits l.strict (bounds l) f (state_of m) (sequence_from_then (bounds l) n
      (segment_then (body_in set body) (body_then (bounds l) (body_in set body))) (behind set l m)) sent))

  -- Nothing is sent of the length, and a fault is decided.
  pub length_fault : (s : S) (m : Machine) (slots : Slots) (n : ℕ) (f : FieldData) (body : List ℕ) (bit : Bool) (c : Code)
      → CanTurn set l m → IsAtSequence set m.cursor n f body → bit ≡ bit_of f (state_of m)
      → field_term (bounds l) f (previous_at f.entry (slots_dictionary m.slots)) bit ≡ of_result
      (decide f (previous_at f.entry (slots_dictionary m.slots)) bit nothing)
      → decide f (previous_at f.entry (slots_dictionary m.slots)) bit nothing ≡ Err c → slots_terms slots ≡ slots_terms m.slots
      → IsTurn takes stops set l (turning set l m) s (Err (Why.Stream c)) s (record m { slots = slots })
  length_fault s m slots n f body bit c h next same unsent wrong terms =
      turn_fault takes stops set l (turning set l m) s c (record m { slots = slots })
      (sequence_next set l m n f body next
      ∙ field_wrong l.strict (bounds l) f bit (state_of m) (sequence_from_then (bounds l) n
      (segment_then (body_in set body) (body_then (bounds l) (body_in set body))) (behind set l m)) c same unsent wrong)
      (can_turn_slots set l m slots h terms).supplied

-- Nothing is sent of the length, and its value stands at a source.
pub length_unsent : (set : Set) (l : Limits) (m : Machine) (slots : Slots) (n : ℕ) (f : FieldData) (body : List ℕ) (bit : Bool)
    (source : ValueSource) → IsAtSequence set m.cursor n f body → bit ≡ bit_of f (state_of m)
    → field_term (bounds l) f (previous_at f.entry (slots_dictionary m.slots)) bit ≡ of_result
    (decide f (previous_at f.entry (slots_dictionary m.slots)) bit nothing)
    → IsDecided (decide f (previous_at f.entry (slots_dictionary m.slots)) bit nothing) f (slots_dictionary m.slots) (slots_dictionary slots) (Ok source)
    → turning set l m ≡ length_from set l (record m { slots = slots }) n (value_at source f (slots_dictionary slots) m.text.text []) f body
length_unsent set l m slots n f body bit source next same unsent decided =
    sequence_next set l m n f body next
    ∙ field_known l.strict (bounds l) f bit (slots_dictionary m.slots) (slots_dictionary slots) m.counted m.cursor
    (sequence_from_then (bounds l) n (segment_then (body_in set body) (body_then (bounds l) (body_in set body))) (behind set l m)) source
    m.text.text [] same unsent decided
