-- The field is whole, wrong or cut, and where it is whole, a turn follows it.
use Rattle.std.proofs.Common.{refl, sym, ap, ◌∙◌, arith, length-append}
use Rattle.std.proofs.lemmas.List.{length-take, length-take-le}
use Rattle.std.specs.Prelude.{◌≡◌, ◌+◌, ◌≤◌, ℕ, List, ◌++◌, length, take, drop}
use Rattle.fast_value.specs.meaning.Limits.{bounds}
use Rattle.fast_tree.specs.meaning.Nodes.{field_data}
use Rattle.fast_dict.specs.meaning.Slots.{slots_dictionary}
use Rattle.fast_stream.specs.device.Continuations.{handed_then}
use Rattle.fast_stream.specs.device.GrammarReaders.{reader_of}
use Rattle.fast_stream.specs.device.Readers.{Reader}
use Rattle.fast_dict.specs.meaning.Dictionary.{Dictionary}
use Rattle.fast_stream.specs.meaning.Grammar.{Grammar}
use Rattle.fast_stream.specs.meaning.Messages.{Found}
use Rattle.fast_stream.specs.declared.faults.FaultCode.TheVariants as Why
use Rattle.fast_units.specs.device.Settling.{value_at}
use Rattle.fast_fields.specs.device.Carries.{at_hand}
use Rattle.fast_machine.specs.device.Passing.{value_then}
use Rattle.fast_machine.specs.device.Positions.{set_of, turning, meaning}
use Rattle.fast_machine.proofs.machines.FieldTakes.{field_whole, field_wrong, field_cut, field_begun, field_on}
use Rattle.fast_machine.proofs.machines.FieldTakes.{meaning_first, first_cut, first_ready, first_turn, field_supplied}
use Rattle.fast_machine.proofs.machines.UnitTaken.{cut_to, wrong_to}
use Rattle.fast_machine.proofs.steps.FieldTurns.{serves_here, behind, field_next, serves_known, entry_here, turn_moved}
use Rattle.fast_machine.proofs.machine.Machine.take_field.Goals as goal

-- All bytes of a field that is complete are at hand.
hand_within : (front rest text : List ℕ) (bytes n : ℕ) → take bytes text ≡ front ++ take n rest → bytes ≡ length front + n → n ≤ length rest
    → bytes ≤ length text
hand_within front rest text bytes n is size within =
    let both : length (take bytes text) ≡ length front + length (take n rest) = ap length is ∙ length-append front (take n rest) in
    let len : length (take n rest) ≡ n = length-take-le n rest within in
    let least = length-take bytes text in
    omega (arith, both, len, least, size)

pub read-requires-clause-serves : goal.read-requires-clause-serves
read-requires-clause-serves g c = serves_here (set_of c.args.templates.now) c.args.limits.now c.args.self.now
    (field_data c.args.field.now) c.requires.ready.supplied c.requires.serves

pub finish_read-requires-clause-entry : goal.finish_read-requires-clause-entry
finish_read-requires-clause-entry g c =
    let set = set_of c.args.templates.now in
    let l = c.args.limits.now in
    let m = c.args.self.now in
    let f = field_data c.args.field.now in
    let slots = c.read.new.slots in
    let a = record m { slots = slots; carry = c.read.new.self; text = c.read.new.text } in
    entry_here set l a f (field_supplied set l m slots c.read.new.self c.read.new.text c.requires.ready c.read.ensures.terms c.read.ensures.capacity.0
    c.read.ensures.capacity.1) (serves_known set m slots f c.read.ensures.terms c.requires.serves)

pub finish_read-requires-clause-within : goal.finish_read-requires-clause-within
finish_read-requires-clause-within g c =
    let (some, within, inside, size, gives) = c.in-Whole.ensures.unit in
    hand_within c.args.self.now.carry.bytes.text c.args.rest.now (at_hand c.read.new.self.bytes.text c.args.rest.now) c.in-Whole.found.bytes
    c.in-Whole.bytes (c.in-Whole.ensures.held _ _ refl) size within

pub returns-in-Cut-clause-taken : goal.returns-in-Cut-clause-taken
returns-in-Cut-clause-taken g c =
    let takes = g.S.Sink.takes in
    let stops = g.S.Sink.stops in
    let set = set_of c.args.templates.now in
    let l = c.args.limits.now in
    let m = c.args.self.now in
    let f = field_data c.args.field.now in
    let n = c.args.node in
    let k : Found → Grammar Dictionary = λ r. handed_then n (behind set l m) r.0 r.1 in
    let (sent, begun) = field_begun set l m n c.requires.ready f c.requires.waits c.requires.next in
    let next = field_next set l m n f c.requires.next in
    let is = meaning_first set l m c.requires.waits in
    let a = record m { slots = c.read.new.slots; carry = c.read.new.self; text = c.read.new.text } in
    let (stays, same) = c.in-Cut.ensures.unit in
    let (held, more) = c.in-Cut.ensures.cut refl in
    cut_to takes stops set l (meaning set l m) c.args.rest.now c.args.sink.now a c.cut.ensures.bytes c.cut.ensures.turn
    (first_ready set l m c.read.new.slots c.read.new.self c.read.new.text c.requires.ready c.read.ensures.terms c.read.ensures.capacity.0
    c.read.ensures.capacity.1
    c.requires.waits same (field_on set l m n c.requires.ready f c.read.new.self c.requires.next sent more))
    (field_cut takes stops set l m f k (turning set l m) (meaning set l m) m.carry.bytes.text c.args.rest.now sent next is a c.read.new.self
    (first_cut set l m c.read.new.slots c.read.new.self c.read.new.text c.requires.waits same) held c.requires.some stays c.args.sink.now)

pub returns-in-Wrong-clause-taken : goal.returns-in-Wrong-clause-taken
returns-in-Wrong-clause-taken g c =
    let takes = g.S.Sink.takes in
    let stops = g.S.Sink.stops in
    let set = set_of c.args.templates.now in
    let l = c.args.limits.now in
    let m = c.args.self.now in
    let f = field_data c.args.field.now in
    let n = c.args.node in
    let k : Found → Grammar Dictionary = λ r. handed_then n (behind set l m) r.0 r.1 in
    let (sent, begun) = field_begun set l m n c.requires.ready f c.requires.waits c.requires.next in
    let next = field_next set l m n f c.requires.next in
    let is = meaning_first set l m c.requires.waits in
    let a = record m { slots = c.read.new.slots; carry = c.read.new.self; text = c.read.new.text } in
    wrong_to takes stops set l (meaning set l m) c.args.rest.now c.args.sink.now a (Why.Stream c.in-Wrong.code) c.wrong.ensures.bytes c.wrong.ensures.turn
    (field_supplied set l m c.read.new.slots c.read.new.self c.read.new.text c.requires.ready c.read.ensures.terms c.read.ensures.capacity.0
    c.read.ensures.capacity.1)
    (field_wrong takes stops set l m f k (turning set l m) (meaning set l m) m.carry.bytes.text c.args.rest.now sent next is
    (slots_dictionary c.read.new.slots) c.read.new.text.text c.in-Wrong.code c.in-Wrong.bytes c.in-Wrong.ensures.unit c.args.sink.now)

pub returns-in-Whole-clause-taken : goal.returns-in-Whole-clause-taken
returns-in-Whole-clause-taken g c =
    let takes = g.S.Sink.takes in
    let stops = g.S.Sink.stops in
    let set = set_of c.args.templates.now in
    let l = c.args.limits.now in
    let m = c.args.self.now in
    let f = field_data c.args.field.now in
    let n = c.args.node in
    let k : Found → Grammar Dictionary = λ r. handed_then n (behind set l m) r.0 r.1 in
    let (sent, begun) = field_begun set l m n c.requires.ready f c.requires.waits c.requires.next in
    let next = field_next set l m n f c.requires.next in
    let is = meaning_first set l m c.requires.waits in
    let slots = c.read.new.slots in
    let text = c.read.new.text.text in
    let a = record m { slots = slots; carry = c.read.new.self; text = c.read.new.text } in
    let can = first_turn set l m slots c.read.new.self c.read.new.text c.requires.ready c.read.ensures.terms c.read.ensures.capacity.0
    c.read.ensures.capacity.1 c.requires.waits in
    let front = m.carry.bytes.text in
    let rest = c.args.rest.now in
    let found = c.in-Whole.found in
    let bytes = c.in-Whole.bytes in
    let read : List ℕ → Reader Dictionary = λ w. reader_of l.strict
    (value_then set (bounds l) n (value_at found.source f (slots_dictionary slots) text (drop found.from w)) f
    (slots_dictionary slots) m.counted m.cursor) in
    let held = c.in-Whole.ensures.held _ _ refl in
    let ends = c.finish_read.ensures in
    let b = c.finish_read.new.self in
    let turn = c.finish_read.result in
    field_whole takes stops set l m f k (turning set l m) (meaning set l m) front rest sent next is slots text found bytes
    c.in-Whole.ensures.unit c.args.sink.now turn c.finish_read.new.sink b
    (turn_moved takes stops set l (read (front ++ take bytes rest)) (read (take found.bytes (at_hand c.read.new.self.bytes.text rest))) c.args.sink.now turn
    c.finish_read.new.sink a b (ap read (sym held)) (ends.moves set (bounds l) l.strict (meaning set l b)) can ends.same ends.rests
    ends.past ends.on)
