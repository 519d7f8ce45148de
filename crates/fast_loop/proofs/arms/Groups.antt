-- A group, absent or there.
use Rattle.std.proofs.Common.{refl, sym, ap, ◌∙◌, subst}
use Rattle.std.specs.Prelude.{◌≡◌, ◌≢◌, ℕ, ◌+◌, Bool, true, false, List, drop, slice_get, Some, Result, Ok, Vec}
use Rattle.std.specs.Global.{Global}
use Rattle.fast_wire.specs.meaning.Maps.{first_bit, later_bits}
use Rattle.fast_value.specs.declared.settings.Limits.{Limits}
use Rattle.fast_tree.specs.declared.instructions.Node.{Node}
use Rattle.fast_tree.specs.declared.instructions.Shape.TheVariants.{Group}
use Rattle.fast_tree.specs.meaning.Tree.{group}
use Rattle.fast_program.specs.declared.ops.Op.{Op}
use Rattle.fast_program.specs.device.Codes.{group_of}
use Rattle.fast_template.specs.declared.sets.Templates.{Templates}
use Rattle.fast_value.specs.meaning.Limits.{bounds}
use Rattle.fast_dict.specs.meaning.Slots.{slots_dictionary}
use Rattle.fast_stream.specs.declared.faults.FaultCode.{FaultCode}
use Rattle.fast_stream.specs.device.GrammarReaders.{reader_of}
use Rattle.fast_machine.specs.device.Passing.{group_from}
use Rattle.fast_stream.specs.meaning.Events.{EventData}
use Rattle.fast_cursor.specs.declared.place.Place.{Place}
use Rattle.fast_cursor.specs.device.Cursors.{CursorData, bits_left}
use Rattle.fast_cursor.specs.device.Places.{place_left, at_place}
use Rattle.fast_machine.specs.declared.machine.Machine.{Machine}
use Rattle.fast_machine.specs.declared.machine.Turn.{Turn}
use Rattle.fast_machine.specs.declared.machine.Turn.TheVariants.{Silent}
use Rattle.fast_loop.specs.declared.spot.Spot.{Spot}
use Rattle.fast_machine.specs.declared.turns.Turns.{Turns}
use Rattle.fast_machine.specs.device.Positions.{placed, Set, set_of, body_in, IsAtGroup, CanTurn, IsTurn, turning}
use Rattle.fast_loop.specs.device.Arms.{IsArmOp, IsGroupHere}
use Rattle.fast_machine.specs.device.Steps.{IsStep}
use Rattle.fast_machine.specs.device.TurnsLeft.{Way, IsWithinTurns, HasTurnsBehind}
use Rattle.fast_machine.proofs.fields.Heads.{group_head}
use Rattle.fast_machine.proofs.steps.FieldTurns.{supplied_like, turn_as}
use Rattle.fast_machine.proofs.steps.SegmentTurns.{group_absent, group_present, group_there, begun_from}
use Rattle.fast_machine.proofs.steps.TurnCounts.{one_turn, passed}
use Rattle.fast_machine.proofs.streams.Running.{turn_step}

-- The next instruction is a group, by its op.
pub group_here : (t : Templates) (c : CursorData) (p : Place) (op : Op) (node : ℕ) (v : Node) (may : Bool) (body : Vec ℕ Global) (ns : List ℕ) (optional : Bool)
    → IsArmOp (set_of t) p op (group_of optional)
    → node ≡ op.node → slice_get t.nodes.items node ≡ Some v → v.shape ≡ Group may body → ns ≡ body.items → IsAtGroup (set_of t) (at_place c p) node optional ns
group_here t c p op node v may body ns optional at same there shape items =
    let (inside, is) = at.is v (subst (λ i. slice_get t.nodes.items i ≡ Some v) same there) in
    let both : Group optional inside ≡ Group may body = sym is ∙ shape in
    let here : may ≡ optional = sym (cc both) in
    subst (λ b. IsAtGroup (set_of t) (at_place c p) node b ns) here
    (group_head t (at_place c p) node v (at.first ∙ ap Some (sym same)) there may body ns shape items)

-- A group that has no bit is there.
pub group_always : (set : Set) (l : Limits) (m : Machine) (from : Spot) (node : ℕ) (body : List ℕ)
    → IsAtGroup set (at_place m.cursor from.place) node false body → IsGroupHere set l m from from node body
group_always set l m from node body next = record {
  rest = refl;
  left = refl;
  begins = begun_from set l (placed m from.place) (placed m from.place) node body
      (group_there set l (placed m from.place) (placed m from.place) node body next refl);
}

-- A group whose bit is set is there.
pub group_by_bit : (set : Set) (l : Limits) (m : Machine) (from to : Spot) (node : ℕ) (body : List ℕ) → to.rest.bytes.now ≡ from.rest.bytes.now
    → place_left to.place ≡ place_left from.place
    → bits_left (at_place m.cursor to.place) ≡ later_bits (bits_left (at_place m.cursor from.place))
    → at_place m.cursor to.place ≡ record (at_place m.cursor from.place) { used = (at_place m.cursor to.place).used }
    → IsAtGroup set (at_place m.cursor from.place) node true body → first_bit (bits_left (at_place m.cursor from.place)) ≡ true
    → IsGroupHere set l m from to node body
group_by_bit set l m from to node body rest left later same next first = record {
  rest = rest;
  left = left;
  begins = begun_from set l (placed m from.place) (placed m to.place) node body
      (group_present set l (placed m from.place) (placed m to.place) (at_place m.cursor to.place) node body next first same later refl);
}

module _ {S : Type 0} (takes stops : S → EventData → S → Type 0) (set : Set) (l : Limits) (m : Machine) (from : Spot) (t : Turns)
    (counts : t.count ≡ m.turns.count + 1) (node : ℕ) (body : List ℕ) where
  -- A group that is there: a turn with its event is a step.
  pub entered_step : (to : Spot) (h : IsGroupHere set l m from to node body) (c : CursorData) → c ≡ at_place m.cursor to.place
      → (optional : Bool) → IsAtGroup set (at_place m.cursor to.place) node optional body
      → (s : S) (result : Result Turn FaultCode) (s' : S) (m' : Machine) → result ≢ Ok Silent
      → IsTurn takes stops set l (reader_of l.strict (group_from set (bounds l) node body (slots_dictionary m.slots) m.counted c)) s result s' m'
      → ((way : Way) (k : ℕ) (may : Bool) → IsAtGroup set c node may body → IsWithinTurns way set l 1 k t.count m.counted c
      → HasTurnsBehind result way set l k m')
      → IsStep takes stops set l (placed m from.place) from.rest.bytes.now s (record { bytes = 0; turn = result }) s' m'
  entered_step to h c is optional next s result s' m' on turn turns =
      turn_step takes stops set l (placed m from.place) from.rest.bytes.now s result s' m'
      (turn_as takes stops set l (turning set l (placed m from.place)) _ s result s' m'
      (h.begins ∙ ap (λ (x : CursorData). reader_of l.strict (group_from set (bounds l) node body (slots_dictionary m.slots) m.counted x)) (sym is)) turn)
      (λ e. absurd (on e))
      (λ way k w.
      let one = one_turn way set l k m.turns.count t.count m.counted (at_place m.cursor from.place) counts w in
      let here : IsWithinTurns way set l 1 k t.count m.counted (at_place m.cursor to.place) =
      subst (λ (ns : List ℕ). IsWithinTurns way set l 1 k t.count m.counted (record m.cursor {
        left = ns;
        used = (at_place m.cursor to.place).used;
      })) (sym h.left)
      (record { each = one.each; body = one.body; frames = one.frames; most = one.most; all = one.all }) in
      turns way k optional (subst (λ (x : CursorData). IsAtGroup set x node optional body) (sym is) next)
      (subst (IsWithinTurns way set l 1 k t.count m.counted) (sym is) here))

  -- An absent group: a turn past it is a step.
  pub absent_group : (p : Place) → CanTurn set l (placed m from.place) → IsAtGroup set (at_place m.cursor from.place) node true body
      → first_bit (bits_left (at_place m.cursor from.place)) ≡ false
      → at_place m.cursor p ≡ record (at_place m.cursor from.place) { left = drop 1 (at_place m.cursor from.place).left; used = (at_place m.cursor p).used }
      → bits_left (at_place m.cursor p) ≡ later_bits (bits_left (at_place m.cursor from.place)) → (s : S)
      → IsStep takes stops set l (placed m from.place) from.rest.bytes.now s (record { bytes = 0; turn = Ok Silent }) s (placed (record m { turns = t }) p)
  absent_group p can next first past later s =
      let before = placed m from.place in
      let counting : Machine = record before { turns = t } in
      let mid : CursorData = record before.cursor { used = (at_place m.cursor p).used } in
      let ready : CanTurn set l counting = record {
        supplied = supplied_like set l before counting can.supplied (record {
          terms = refl;
          carry = refl;
          text = refl;
          identifier = refl;
          rests = refl;
          latest = refl;
        }) can.supplied.counted;
        placed = can.placed;
        mapped = can.mapped;
      } in
      turn_step takes stops set l before from.rest.bytes.now s (Ok Silent) s (placed (record m { turns = t }) p)
      (group_absent takes stops set l counting mid (at_place m.cursor p) node body s ready next first refl later past)
      (λ e. (next.2, ap (λ (x : CursorData). x.left) past))
      (λ way k w. passed way set l k t.count t.count m.counted m.counted before.cursor (at_place m.cursor p)
      (group next.0 true (body_in set body)) next.3 refl refl
      (ap (λ (x : CursorData). x.left) past) (ap (λ (x : CursorData). x.frames) past)
      (one_turn way set l k m.turns.count t.count m.counted before.cursor counts w))
