use Rattle.std.proofs.Common.{ℕ, ap, ◌∙◌, sym, subst, refl, length, take}
use Rattle.std.specs.Prelude.{◌≡◌, List, [], ◌++◌, drop, Some}
use Rattle.fast_value.specs.meaning.Limits.{Bounds}
use Rattle.fast_tree.specs.meaning.Tree.{identifier}
use Rattle.fast_cursor.specs.device.Cursors.{CursorData}
use Rattle.fast_units.specs.device.Settling.{value_at}
use Rattle.fast_units.specs.declared.source.ValueSource.{ValueSource}
use Rattle.fast_machine.specs.device.Passing.{identified_then}
use Rattle.fast_value.specs.meaning.Limits.{bounds}
use Rattle.fast_tree.specs.meaning.Tree.{FieldData}
use Rattle.fast_dict.specs.meaning.Dictionary.{Dictionary}
use Rattle.fast_dict.specs.meaning.Slots.{slots_dictionary}
use Rattle.fast_stream.specs.device.GrammarReaders.{reader_of}
use Rattle.fast_stream.specs.device.Machine.{after_bytes}
use Rattle.fast_stream.specs.device.Readers.{Reader, Stop}
use Rattle.fast_units.specs.device.Taking.{Turns, Stays}
use Rattle.fast_machine.specs.device.UnitTaken.{IsTakenTo}
use Rattle.fast_stream.specs.declared.faults.FaultCode.TheVariants as Why
use Rattle.fast_machine.specs.declared.machine.Waiting.{Waiting}
use Rattle.fast_machine.specs.declared.machine.Machine.{Machine}
use Rattle.fast_machine.specs.device.Positions.{Set, set_of, tree_in, behind_map, meaning, meaning_at, CanTake, IsReady}
use Rattle.fast_machine.proofs.steps.FieldTurns.{turn_as}
use Rattle.fast_fields.specs.device.Carries.{IsCarried, IsCarriedUnit}
use Rattle.fast_units.specs.device.TextDecisions.{first_reader}
use Rattle.fast_units.specs.declared.progress.Progress.TheVariants.{Whole}
use Rattle.fast_machine.proofs.machines.FieldTakes.{still_supplied, by_source, by_kind}
use Rattle.fast_machine.proofs.machines.UnitTaken.{taken_to, cut_to, wrong_to}
use Rattle.fast_machine.proofs.units.Takes.{taken_fault, taken_stays}
use Rattle.fast_machine.proofs.units.Takings.{taken_as}
use Rattle.fast_machine.proofs.fields.Identifiers.{identifier_served, identified_by, sent_turns, sent_stops, sent_stays}
use Rattle.fast_machine.proofs.machine.Machine.take_identifier.Goals as goal

-- What follows the identifier sees its number alone.
identified_sees : (set : Set) (l : Bounds) (d : Dictionary) (c : CursorData) (source : ValueSource) (scratch piece : List ℕ)
    → identified_then set l (value_at source identifier d scratch piece) d c ≡ identified_then set l (value_at source identifier d scratch []) d c
identified_sees set l d c source scratch piece = by_source (λ v. identified_then set l v d c)
    (by_kind (λ v. identified_then set l (Some v) d c) (λ w. refl) (λ w. refl) (λ w. refl)) source identifier d scratch piece

pub read-requires-clause-serves : goal.read-requires-clause-serves
read-requires-clause-serves g c = identifier_served (set_of c.args.templates.now) c.args.limits.now c.args.self.now c.requires.ready.supplied

pub returns-in-Cut-clause-taken : goal.returns-in-Cut-clause-taken
returns-in-Cut-clause-taken g c =
    let m : Machine = c.args.self.now in
    let set = set_of c.args.templates.now in
    let l = c.args.limits.now in
    let d : Dictionary = slots_dictionary m.slots in
    let rest : List ℕ = c.args.rest.now in
    let front : List ℕ = m.carry.bytes.text in
    let new : Machine = record m { slots = c.read.new.slots; carry = c.read.new.self; text = c.read.new.text } in
    let (map, bit, place, carried) = subst (λ (w : Waiting). CanTake w set l m) c.requires.waits c.requires.ready.takes in
    let (stays, dictionary) = c.in-Cut.ensures.unit in
    let (held, more) = c.in-Cut.ensures.cut refl in
    let r : Reader Dictionary = reader_of l.strict (behind_map set (bounds l) d m.cursor.map) in
    let ready : IsReady set l new = record {
      supplied = still_supplied set l m c.read.new.slots c.read.new.self c.read.new.text c.read.ensures.terms c.read.ensures.capacity.0
          c.read.ensures.capacity.1 c.requires.ready.supplied;
      takes = subst (λ (w : Waiting). CanTake w set l new) (sym c.requires.waits) (
        map,
        bit,
        place,
        subst (λ (e : Dictionary). IsCarried l (first_reader l identifier e) c.read.new.self) (sym dictionary)
            (subst (λ (f : FieldData). IsCarried l (first_reader l f d) c.read.new.self) c.requires.ready.supplied.identifier more),
      );
    } in
    cut_to g.S.Sink.takes g.S.Sink.stops set l (meaning set l m) rest c.args.sink.now new c.cut.ensures.bytes c.cut.ensures.turn ready
    (taken_as g.S.Sink.takes g.S.Sink.stops (tree_in set) l rest c.args.sink.now (length rest) _ c.args.sink.now
    (ap (λ (w : Waiting). meaning_at w set l m) c.requires.waits)
    (ap (λ (w : Waiting). meaning_at w set l new) c.requires.waits
    ∙ ap (λ (e : Dictionary). after_bytes (reader_of l.strict (behind_map set (bounds l) e m.cursor.map)) new.carry.bytes.text) dictionary
    ∙ ap (after_bytes r) held)
    (taken_stays g.S.Sink.takes g.S.Sink.stops (tree_in set) l r front rest c.args.sink.now c.requires.some
    (sent_stays set l.strict (bounds l) d m.cursor.map bit (front ++ rest)
    (subst (λ (f : FieldData). Stays (first_reader l f d) (front ++ rest)) c.requires.ready.supplied.identifier stays))))

pub returns-in-Wrong-clause-taken : goal.returns-in-Wrong-clause-taken
returns-in-Wrong-clause-taken g c =
    let m : Machine = c.args.self.now in
    let set = set_of c.args.templates.now in
    let l = c.args.limits.now in
    let d : Dictionary = slots_dictionary m.slots in
    let rest : List ℕ = c.args.rest.now in
    let n : ℕ = c.in-Wrong.bytes in
    let w : List ℕ = m.carry.bytes.text ++ take n rest in
    let (map, bit, place, carried) = subst (λ (w : Waiting). CanTake w set l m) c.requires.waits c.requires.ready.takes in
    let (some, within, turns) = c.in-Wrong.ensures.unit in
    let r : Reader Dictionary = reader_of l.strict (behind_map set (bounds l) d m.cursor.map) in
    wrong_to g.S.Sink.takes g.S.Sink.stops set l (meaning set l m) rest c.args.sink.now (record m {
      slots = c.read.new.slots;
      carry = c.read.new.self;
      text = c.read.new.text;
    }) (Why.Stream c.in-Wrong.code) c.wrong.ensures.bytes c.wrong.ensures.turn
    (still_supplied set l m c.read.new.slots c.read.new.self c.read.new.text c.read.ensures.terms c.read.ensures.capacity.0
    c.read.ensures.capacity.1 c.requires.ready.supplied)
    (λ q. taken_as g.S.Sink.takes g.S.Sink.stops (tree_in set) l rest c.args.sink.now n _ c.args.sink.now
    (ap (λ (u : Waiting). meaning_at u set l m) c.requires.waits) refl
    (taken_fault g.S.Sink.takes g.S.Sink.stops (tree_in set) l r m.carry.bytes.text rest n c.in-Wrong.code c.args.sink.now q some within
    (sent_stops set l.strict (bounds l) d m.cursor.map bit w c.in-Wrong.code
    (subst (λ (f : FieldData). Turns (first_reader l f d) w (Stop c.in-Wrong.code)) c.requires.ready.supplied.identifier turns))))

pub returns-in-Whole-clause-taken : goal.returns-in-Whole-clause-taken
returns-in-Whole-clause-taken g c =
    let m : Machine = c.args.self.now in
    let set = set_of c.args.templates.now in
    let l = c.args.limits.now in
    let d : Dictionary = slots_dictionary m.slots in
    let new : Dictionary = slots_dictionary c.read.new.slots in
    let rest : List ℕ = c.args.rest.now in
    let n : ℕ = c.in-Whole.bytes in
    let found = c.in-Whole.found in
    let text = c.read.new.text.text in
    let w : List ℕ = m.carry.bytes.text ++ take n rest in
    let (map, bit, place, carried) = subst (λ (u : Waiting). CanTake u set l m) c.requires.waits c.requires.ready.takes in
    let (some, within, inside, size, gives) = subst (λ (f : FieldData). IsCarriedUnit (first_reader l f d) f m.carry.bytes.text rest d new text
    (Whole found n)) c.requires.ready.supplied.identifier c.in-Whole.ensures.unit in
    let r : Reader Dictionary = reader_of l.strict (behind_map set (bounds l) d m.cursor.map) in
    let b : Machine = c.identified-turn.new.self in
    let same = identified_sees set (bounds l) new m.cursor found.source text (drop found.from w) in
    subst (λ (p : Reader Dictionary). IsTakenTo g.S.Sink.takes g.S.Sink.stops set l p rest c.args.sink.now n c.identified-turn.result
    c.identified-turn.new.sink b) (sym (ap (λ (u : Waiting). meaning_at u set l m) c.requires.waits))
    (taken_to g.S.Sink.takes g.S.Sink.stops set l r m.carry.bytes.text rest n _ c.args.sink.now c.identified-turn.result c.identified-turn.new.sink b some
    within
    (sent_turns set l.strict (bounds l) d m.cursor.map bit w gives.outcome gives.turns)
    (turn_as g.S.Sink.takes g.S.Sink.stops set l _ _ c.args.sink.now c.identified-turn.result c.identified-turn.new.sink b
    (identified_by set l.strict (bounds l) d new m.cursor gives.outcome _ place gives.settled.value gives.settled.dictionary
    ∙ ap (reader_of l.strict) same)
    c.identified-turn.ensures.turn))
