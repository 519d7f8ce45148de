-- An element ends, and the next one of its sequence begins.
use Rattle.std.proofs.Common.{refl, sym, ap, ◌∙◌, subst, arith}
use Rattle.std.specs.Prelude.{◌≡◌, ℕ, zero, suc, ◌+◌, ◌-◌, List, [], ◌∷◌, length, Option, Some, None, option_map, Ok, Err}
use Rattle.fast_value.specs.declared.settings.Limits.{Limits}
use Rattle.fast_value.specs.meaning.Limits.{bounds}
use Rattle.fast_dict.specs.meaning.Slots.{slots_dictionary}
use Rattle.fast_dict.specs.meaning.Dictionary.{Dictionary}
use Rattle.fast_stream.specs.declared.faults.FaultCode.{FaultCode}
use Rattle.fast_stream.specs.declared.faults.FaultCode.TheVariants.{SinkStopped}
use Rattle.fast_stream.specs.meaning.Events.{EventData, ElementStart, ElementEnd}
use Rattle.fast_stream.specs.device.Frames.{opened}
use Rattle.fast_stream.specs.device.GrammarReaders.{reader_of}
use Rattle.fast_stream.specs.device.Readers.{Reader, Emit}
use Rattle.fast_cursor.specs.device.Cursors.{ElementsData, FrameData, CursorData, frame_here, entered, left_to}
use Rattle.fast_cursor.specs.device.Nexts.{next_by, next_of, gone_on}
use Rattle.fast_cursor.specs.declared.place.Place.{Place}
use Rattle.fast_machine.specs.declared.machine.Machine.{Machine}
use Rattle.fast_machine.specs.declared.turns.Turns.{Turns}
use Rattle.fast_machine.specs.device.Positions.{placed, Set, body_in, frame_by, frames_in, AreElementsFit, IsSupplied, CanTurn, IsTurn, turning}
use Rattle.fast_machine.specs.device.Opening.{opened_turn, awaiting}
use Rattle.fast_machine.specs.device.Passing.{elements_from}
use Rattle.fast_machine.specs.device.TurnsLeft.{Way, HasTurns, HasTurnsBehind}
use Rattle.fast_machine.proofs.steps.FieldTurns.{supplied_like}
use Rattle.fast_machine.proofs.steps.Recounted.{can_turn-turns}
use Rattle.fast_machine.proofs.steps.Opened.{opened_waits, opened_goes, opened_not_silent, awaiting_turns}
use Rattle.fast_machine.proofs.steps.SegmentTurns.{IsClosed, closed, some_frame, like_at, turn_in, turn_halt, turn_more}
use Rattle.fast_machine.proofs.steps.TurnCounts.{element_left, element_opened}

-- The cursor is in the next element, which uses so many bits.
pub record IsNextBegun (m : Machine) (c : CursorData) (width : ℕ) : Type 0 where
  pub f : FrameData
  pub fs : List FrameData
  pub e : ElementsData
  pub frames : m.cursor.frames ≡ f ∷ fs
  pub elements : f.elements ≡ Some (record e { more = suc e.more })
  pub cursor : c ≡ entered (left_to m.cursor f fs) (Some e) e.body
  pub bits : width ≡ e.width

begun_by : (m : Machine) (p : Place) (c : CursorData) (width : ℕ) (f : FrameData) (fs : List FrameData) (e : ElementsData) (n : ℕ)
    → m.cursor.frames ≡ f ∷ fs → f.elements ≡ Some e → e.more ≡ n
    → c ≡ gone_on m.cursor f fs (next_by n e) → Some width ≡ option_map (λ (x : ElementsData). x.width) (next_by n e) → IsNextBegun (placed m p) c width
begun_by m p c width f fs e zero frames some count is bits = absurd (cc bits)
begun_by m p c width f fs e (suc n) frames some count is bits = record {
  f = f;
  fs = fs;
  e = record e { more = n };
  frames = frames;
  elements = some ∙ ap (λ k. Some (record e { more = k })) count;
  cursor = is;
  bits = cc bits;
}

begun_of : (m : Machine) (p : Place) (c : CursorData) (width : ℕ) (f : FrameData) (fs : List FrameData) (x : Option ElementsData)
    → m.cursor.frames ≡ f ∷ fs → f.elements ≡ x
    → c ≡ gone_on m.cursor f fs (next_of x) → Some width ≡ option_map (λ (x : ElementsData). x.width) (next_of x) → IsNextBegun (placed m p) c width
begun_of m p c width f fs None frames some is bits = absurd (cc bits)
begun_of m p c width f fs (Some e) frames some is bits = begun_by m p c width f fs e e.more frames some refl is bits

pub next_begun : (m : Machine) (p : Place) (c : CursorData) (r : Option ℕ) (width : ℕ) → r ≡ Some width → ¬ (m.cursor.frames ≡ [])
    → ((f : FrameData) (fs : List FrameData) → m.cursor.frames ≡ f ∷ fs → c ≡ gone_on m.cursor f fs (next_of f.elements))
    → ((f : FrameData) (fs : List FrameData) → m.cursor.frames ≡ f ∷ fs
    → r ≡ option_map (λ (e : ElementsData). e.width) (next_of f.elements)) → IsNextBegun (placed m p) c width
next_begun m p c r width some inner next bits =
    let (f, fs, frames) = some_frame m.cursor.frames inner in
    begun_of m p c width f fs f.elements frames refl (next f fs frames) (sym some ∙ bits f fs frames)

module _ (set : Set) (l : Limits) (m : Machine) (c : CursorData) (width : ℕ) (b : IsNextBegun m c width) (end : m.cursor.left ≡ []) where
  -- the cursor between the two
  abbrev between : CursorData
  between = left_to m.cursor b.f b.fs

  abbrev whole : ElementsData
  whole = record b.e { more = suc b.e.more }

  inside : ¬ (m.cursor.frames ≡ [])
  inside none = absurd (cc (sym b.frames ∙ none))

  left : (f : FrameData) (fs : List FrameData) → m.cursor.frames ≡ f ∷ fs → (between ≡ left_to m.cursor f fs) × (Some whole ≡ f.elements)
  left f fs front =
      let same : b.f ∷ b.fs ≡ f ∷ fs = sym b.frames ∙ front in
      let first : b.f ≡ f = cc in
      let rest : b.fs ≡ fs = cc in
      (ap (λ (x : FrameData). left_to m.cursor x b.fs) first ∙ ap (left_to m.cursor f) rest, sym b.elements ∙ ap (λ (x : FrameData). x.elements) first)

  -- The turns that are left, with one for the next element.
  pub next_counts : (t : Turns) → t.count ≡ m.turns.count + 1 → (way : Way) (n : ℕ) → HasTurns way set l 1 n m
      → HasTurnsBehind (Ok (opened_turn width)) way set l n (awaiting width (record m { cursor = c; turns = t }))
  next_counts t counts way n h =
      let less : b.e.more ≡ suc b.e.more - 1 = omega arith in
      let is : c ≡ entered between (Some (record { more = suc b.e.more - 1; body = b.e.body; width = width })) b.e.body
      = b.cursor ∙ ap (λ k. entered between (Some (record { more = k; body = b.e.body; width = b.e.width })) b.e.body) less
      ∙ ap (λ k. entered between (Some (record { more = suc b.e.more - 1; body = b.e.body; width = k })) b.e.body) (sym b.bits) in
      awaiting_turns way set l n (record m { cursor = c; turns = t }) width
      (element_opened way set l n m.turns.count t.count m.counted m.counted between c b.e.body (suc b.e.more) width (omega arith) counts refl is
      (element_left way set l n m.turns.count m.counted m.cursor between (Some whole) whole end inside left refl h))

  module _ {S : Type 0} (takes stops : S → EventData → S → Type 0) (can : CanTurn set l m) where
    ends : IsClosed set l m between (Some whole)
    ends = closed set l m between (Some whole) can end inside left

    -- what is to be read behind the element
    abbrev behind : Reader Dictionary
    behind = reader_of l.strict (elements_from set (bounds l) (suc b.e.more) b.e.body (slots_dictionary m.slots) m.counted between)

    abbrev then : Reader Dictionary
    then = reader_of l.strict (opened (bounds l) (frame_by set (frame_here between (Some b.e)) (Some b.e) ∷ frames_in set between.frames) (body_in set b.e.body)
        (record { dictionary = slots_dictionary m.slots; counted = m.counted }))

    first : turning set l m ≡ Emit ElementEnd behind
    first = ends.element whole refl

    second : behind ≡ Emit ElementStart then
    second = refl

    supplied : IsSupplied set l (record m { cursor = c })
    supplied = subst (λ (x : CursorData). IsSupplied set l (record m { cursor = x })) (sym b.cursor)
        (supplied_like set l m (record m { cursor = entered between (Some b.e) b.e.body }) can.supplied
        (like_at m (entered between (Some b.e) b.e.body) refl) can.supplied.counted)

    -- The sink stops at the end of the element,
    pub next_stops : (s s' : S) (code : FaultCode) → code ≡ SinkStopped → stops s ElementEnd s'
        → IsTurn takes stops set l (turning set l m) s (Err code) s' (record m { cursor = c })
    next_stops s s' code is stopped = turn_halt takes stops set l (turning set l m) behind ElementEnd s code s'
        (record m { cursor = c }) first (is, stopped) supplied

    -- or where the next one begins,
    pub next_halts : (s mid s' : S) (code : FaultCode) → code ≡ SinkStopped → takes s ElementEnd mid → stops mid ElementStart s'
        → IsTurn takes stops set l (turning set l m) s (Err code) s' (record m { cursor = c })
    next_halts s mid s' code is taken stopped =
        turn_more takes stops set l (turning set l m) behind ElementEnd s mid (Err code) s' (record m { cursor = c }) first taken
        (turn_halt takes stops set l behind then ElementStart mid code s' (record m { cursor = c }) second (is, stopped) supplied) (λ e. cc e)

    -- or takes both.
    pub next_begins : (t : Turns) (s mid s' : S) → takes s ElementEnd mid → takes mid ElementStart s'
        → IsTurn takes stops set l (turning set l m) s (Ok (opened_turn width)) s' (awaiting width (record m { cursor = c; turns = t }))
    next_begins t s mid s' taken started =
        let n : Machine = record m { cursor = between; turns = t } in
        let begun : Machine = record m { cursor = c; turns = t } in
        let fit : AreElementsFit set between.depth (length between.frames) (Some whole) = ends.elements_fit whole refl in
        turn_more takes stops set l (turning set l m) behind ElementEnd s mid (Ok (opened_turn width)) s' (awaiting width begun) first taken
        (turn_in takes stops set l n (awaiting width begun) c (opened_turn width) width (Some b.e) b.e.body behind ElementStart mid s'
        (opened_waits width begun) (opened_goes width begun) b.cursor (can_turn-turns set l (record m { cursor = between }) t ends.can)
        (b.bits ∙ fit.2) fit.0 fit.1 fit second started)
        (opened_not_silent (Ok width))
