use Rattle.std.proofs.Common.{refl, sym, [], ◌∙◌, subst, ℤ}
use mir.Syntax.{w32}
use mir.Val.{to_z, of_z}
use Rattle.std.proofs.lemmas.Int.{to_z-of_z}
use Rattle.fast_value.specs.meaning.Limits.{bounds}
use Rattle.fast_tree.specs.meaning.Nodes.{field_data}
use Rattle.fast_tree.specs.declared.instructions.Shape.TheVariants.{Decimal}
use Rattle.fast_dict.specs.meaning.Slots.{slots_dictionary}
use Rattle.fast_stream.specs.device.Continuations.{handed_then}
use Rattle.fast_dict.specs.meaning.Dictionary.{Dictionary}
use Rattle.fast_stream.specs.meaning.Grammar.{Grammar}
use Rattle.fast_stream.specs.device.GrammarReaders.{reader_of}
use Rattle.fast_stream.specs.device.Readers.{Reader}
use Rattle.fast_stream.specs.declared.faults.FaultCode.TheVariants as Why
use Rattle.fast_units.specs.device.Settling.{value_at}
use Rattle.fast_units.specs.device.TextDecisions.{first_reader}
use Rattle.fast_units.specs.device.UnitFronts.{IsSent}
use Rattle.fast_fields.specs.device.Carries.{IsCarried}
use Rattle.fast_machine.specs.device.Passing.{decimal_then}
use Rattle.fast_stream.specs.meaning.Messages.{Found, decimal_with}
use Rattle.fast_machine.specs.device.Positions.{set_of, meaning, bit_of, CanTake, IsTurn}
use Rattle.fast_machine.specs.declared.machine.Waiting.{Waiting}
use Rattle.fast_machine.proofs.machines.UnitTaken.{cut_to, wrong_to}
use Rattle.fast_machine.proofs.steps.FieldTurns.{state_of, serves_here, behind, mantissa_from, mantissa_next, serves_known, entry_here, turn_moved}
use Rattle.fast_machine.proofs.fields.FieldNodes.{at_parts_node, mantissa_parts, not_decimal, served_node, first_below}
use Rattle.fast_machine.proofs.machines.FieldTakes.{integer_whole, field_wrong, field_cut, mantissa_sees, mantissa_begun, mantissa_on, meaning_second}
use Rattle.fast_machine.proofs.machines.FieldTakes.{second_cut, second_ready, second_turn, field_supplied}
use Rattle.fast_machine.proofs.machine.Machine.take_mantissa.Given.{Over}
use Rattle.fast_machine.proofs.machine.Machine.take_mantissa.Goals as goal

pub returns-in_default-shape : goal.returns-in_default-shape
returns-in_default-shape g c =
    let set = set_of c.args.templates.now in
    let m = c.args.self.now in
    let can = subst (λ (w : Waiting). CanTake w set c.args.limits.now m) c.requires.waits c.requires.ready.takes in
    let is_decimal = mantissa_parts set c.args.limits.now m c.in-Some.number c.node.result.now c.args.templates.now.nodes_name_later_nodes
    (sym c.next.ensures ∙ c.in-Some.is) c.node.ensures.found can.2 in
    absurd (not_decimal c.node.result.now.shape is_decimal c.in_default-shape.not-Decimal)

pub read_integer-requires-clause-serves : goal.read_integer-requires-clause-serves
read_integer-requires-clause-serves g c =
    let set = set_of c.args.templates.now in
    let l = c.args.limits.now in
    let m = c.args.self.now in
    let f = field_data c.in-Decimal.mantissa in
    let n = c.in-Some.number in
    let served = served_node set l m n c.node.result.now (Decimal c.in-Decimal.exponent c.in-Decimal.mantissa) c.requires.ready.supplied
    c.node.ensures.found c.in-Decimal.is in
    serves_here set l m f c.requires.ready.supplied served.1

-- The mantissa stands in the stream, and these bytes of it are carried.
sent : (g : Over) (c : goal.After-read_integer-arg-3-1 g) → let m = c.args.self.now in let f = field_data c.in-Decimal.mantissa in
    IsSent f (bit_of f (state_of m)) × IsCarried c.args.limits.now (first_reader c.args.limits.now f (slots_dictionary m.slots)) m.carry
sent g c =
    let set = set_of c.args.templates.now in
    let m = c.args.self.now in
    let n = c.in-Some.number in
    let at = at_parts_node set m.cursor n c.node.result.now c.args.templates.now.nodes_name_later_nodes
    (sym c.next.ensures ∙ c.in-Some.is) c.node.ensures.found c.in-Decimal.exponent c.in-Decimal.mantissa c.in-Decimal.is in
    mantissa_begun set c.args.limits.now m n c.requires.ready (field_data c.in-Decimal.exponent) (field_data c.in-Decimal.mantissa) c.args.exponent
    c.requires.waits at

pub read_integer-requires-clause-varies : goal.read_integer-requires-clause-varies
read_integer-requires-clause-varies g c = (sent g c).0.varies

pub read_integer-requires-clause-carried : goal.read_integer-requires-clause-carried
read_integer-requires-clause-carried g c = (sent g c).1

pub finish_decimal-turn-requires-clause-entry : goal.finish_decimal-turn-requires-clause-entry
finish_decimal-turn-requires-clause-entry g c =
    let set = set_of c.args.templates.now in
    let l = c.args.limits.now in
    let new = c.read_integer.new in
    let kept = c.read_integer.ensures in
    let m = c.args.self.now in
    let f = field_data c.in-Decimal.mantissa in
    let n = c.in-Some.number in
    let served = served_node set l m n c.node.result.now (Decimal c.in-Decimal.exponent c.in-Decimal.mantissa) c.requires.ready.supplied
    c.node.ensures.found c.in-Decimal.is in
    let slots = new.slots in
    let a = record m { slots = slots; carry = new.self; text = new.text } in
    entry_here set l a f (field_supplied set l m slots new.self new.text c.requires.ready kept.terms kept.capacity.0 kept.capacity.1)
    (serves_known set m slots f kept.terms served.1)

pub returns-in-Cut-clause-taken : goal.returns-in-Cut-clause-taken
returns-in-Cut-clause-taken g c =
    let takes = g.S.Sink.takes in
    let stops = g.S.Sink.stops in
    let set = set_of c.args.templates.now in
    let l = c.args.limits.now in
    let new = c.read_integer.new in
    let kept = c.read_integer.ensures in
    let m = c.args.self.now in
    let f = field_data c.in-Decimal.mantissa in
    let n = c.in-Some.number in
    let at = at_parts_node set m.cursor n c.node.result.now c.args.templates.now.nodes_name_later_nodes
    (sym c.next.ensures ∙ c.in-Some.is) c.node.ensures.found c.in-Decimal.exponent c.in-Decimal.mantissa c.in-Decimal.is in
    let x = c.args.exponent in
    let (sent, begun) = mantissa_begun set l m n c.requires.ready (field_data c.in-Decimal.exponent) f x c.requires.waits at in
    let k : Found → Grammar Dictionary = λ r. handed_then n (behind set l m) (decimal_with x r.0) r.1 in
    let next = mantissa_next set l m n (field_data c.in-Decimal.exponent) f x at in
    let is = meaning_second set l m x c.requires.waits in
    let a = record m { slots = new.slots; carry = new.self; text = new.text } in
    let (stays, same) = c.in-Cut.ensures.unit in
    let (held, more) = c.in-Cut.ensures.cut refl in
    cut_to takes stops set l (meaning set l m) c.args.rest.now c.args.sink.now a c.cut-in-Cut.ensures.bytes c.cut-in-Cut.ensures.turn
    (second_ready set l m new.slots new.self new.text c.requires.ready kept.terms kept.capacity.0 kept.capacity.1 x
    c.requires.waits same (mantissa_on set l m n c.requires.ready (field_data c.in-Decimal.exponent) f new.self at sent more))
    (field_cut takes stops set l m f k (mantissa_from set l m x) (meaning set l m) m.carry.bytes.text c.args.rest.now sent next is a new.self
    (second_cut set l m new.slots new.self new.text x c.requires.waits same) held c.requires.some stays c.args.sink.now)

pub returns-in-Wrong-clause-taken : goal.returns-in-Wrong-clause-taken
returns-in-Wrong-clause-taken g c =
    let takes = g.S.Sink.takes in
    let stops = g.S.Sink.stops in
    let set = set_of c.args.templates.now in
    let l = c.args.limits.now in
    let new = c.read_integer.new in
    let kept = c.read_integer.ensures in
    let m = c.args.self.now in
    let f = field_data c.in-Decimal.mantissa in
    let n = c.in-Some.number in
    let at = at_parts_node set m.cursor n c.node.result.now c.args.templates.now.nodes_name_later_nodes
    (sym c.next.ensures ∙ c.in-Some.is) c.node.ensures.found c.in-Decimal.exponent c.in-Decimal.mantissa c.in-Decimal.is in
    let x = c.args.exponent in
    let (sent, begun) = mantissa_begun set l m n c.requires.ready (field_data c.in-Decimal.exponent) f x c.requires.waits at in
    let k : Found → Grammar Dictionary = λ r. handed_then n (behind set l m) (decimal_with x r.0) r.1 in
    let next = mantissa_next set l m n (field_data c.in-Decimal.exponent) f x at in
    let is = meaning_second set l m x c.requires.waits in
    let a = record m { slots = new.slots; carry = new.self; text = new.text } in
    wrong_to takes stops set l (meaning set l m) c.args.rest.now c.args.sink.now a (Why.Stream c.in-Wrong.code) c.wrong.ensures.bytes c.wrong.ensures.turn
    (field_supplied set l m new.slots new.self new.text c.requires.ready kept.terms kept.capacity.0 kept.capacity.1)
    (field_wrong takes stops set l m f k (mantissa_from set l m x) (meaning set l m) m.carry.bytes.text c.args.rest.now sent next is
    (slots_dictionary new.slots) new.text.text c.in-Wrong.code c.in-Wrong.bytes c.in-Wrong.ensures.unit c.args.sink.now)

pub returns-in-Whole-clause-taken : goal.returns-in-Whole-clause-taken
returns-in-Whole-clause-taken g c =
    let takes = g.S.Sink.takes in
    let stops = g.S.Sink.stops in
    let set = set_of c.args.templates.now in
    let l = c.args.limits.now in
    let new = c.read_integer.new in
    let kept = c.read_integer.ensures in
    let m = c.args.self.now in
    let f = field_data c.in-Decimal.mantissa in
    let n = c.in-Some.number in
    let at = at_parts_node set m.cursor n c.node.result.now c.args.templates.now.nodes_name_later_nodes
    (sym c.next.ensures ∙ c.in-Some.is) c.node.ensures.found c.in-Decimal.exponent c.in-Decimal.mantissa c.in-Decimal.is in
    let x = c.args.exponent in
    let (sent, begun) = mantissa_begun set l m n c.requires.ready (field_data c.in-Decimal.exponent) f x c.requires.waits at in
    let k : Found → Grammar Dictionary = λ r. handed_then n (behind set l m) (decimal_with x r.0) r.1 in
    let next = mantissa_next set l m n (field_data c.in-Decimal.exponent) f x at in
    let is = meaning_second set l m x c.requires.waits in
    let slots = new.slots in
    let a = record m { slots = slots; carry = new.self; text = new.text } in
    let text = new.text.text in
    let can = second_turn set l m slots new.self new.text c.requires.ready kept.terms kept.capacity.0 kept.capacity.1 x c.requires.waits in
    let b = c.finish_decimal-turn.new.self in
    let turn = c.finish_decimal-turn.result in
    let ends = c.finish_decimal-turn.ensures in
    let read : ℤ → Reader Dictionary = λ y. reader_of l.strict
    (decimal_then set (bounds l) n y (value_at c.in-Whole.found.source f (slots_dictionary slots) text []) f
    (slots_dictionary slots) m.counted m.cursor) in
    integer_whole takes stops set l m f k (mantissa_from set l m x) (meaning set l m) m.carry.bytes.text c.args.rest.now sent next is
    (mantissa_sees n x (behind set l m)) slots text c.in-Whole.found c.in-Whole.bytes c.in-Whole.ensures.unit
    c.args.sink.now turn c.finish_decimal-turn.new.sink b
    (subst (λ (y : ℤ). IsTurn takes stops set l (read y) c.args.sink.now turn c.finish_decimal-turn.new.sink b)
    (to_z-of_z w32 x c.ranges.exponent)
    (turn_moved takes stops set l (read (to_z w32 (of_z w32 x)))
    (read (to_z w32 (of_z w32 x))) c.args.sink.now turn c.finish_decimal-turn.new.sink a b refl
    (ends.moves set (bounds l) l.strict (meaning set l b)) can ends.same ends.rests ends.past ends.on))

pub node-requires : goal.node-requires
node-requires g c =
    let m = c.args.self.now in
    let can = subst (λ (w : Waiting). CanTake w (set_of c.args.templates.now) c.args.limits.now m) c.requires.waits c.requires.ready.takes in
    first_below _ m.cursor.left c.in-Some.number can.0.below (sym c.next.ensures ∙ c.in-Some.is)
