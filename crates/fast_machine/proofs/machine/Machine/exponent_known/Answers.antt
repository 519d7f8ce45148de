-- With an exponent the mantissa is next; without one the instruction behind the decimal.
use Rattle.std.proofs.Common.{rules, sym, ap, ◌∙◌}
use Rattle.std.specs.Int.{w32, w128}
use Rattle.std.specs.Prelude.{[]}
use Rattle.fast_value.specs.declared.codes.Code.TheVariants.{R1}
use Rattle.fast_value.specs.meaning.Kinds.{exponent_range}
use Rattle.fast_tree.specs.meaning.Nodes.{field_data}
use Rattle.fast_dict.specs.meaning.Operators.{ranged}
use Rattle.fast_dict.specs.meaning.Slots.{slots_dictionary}
use Rattle.fast_units.specs.device.Settling.{value_at}
use Rattle.fast_machine.specs.device.Positions.{set_of}
use Rattle.fast_machine.proofs.steps.FieldTurns.{entry_here, can_turn_used, parts_used, mantissa_from, exponent_there, exponent_absent}
use Rattle.fast_machine.proofs.steps.FieldTurns.{turn_as, turn_silent}
use Rattle.fast_units.proofs.LastUnits.{again}
use Rattle.fast_machine.proofs.machine.Machine.exponent_known.Goals as goal

pub integer_at-value-requires : goal.integer_at-value-requires
integer_at-value-requires g c = record {
  entry = entry_here (set_of c.args.templates.now) c.args.limits c.args.self.now
      (field_data c.args.exponent.now) c.requires.turn.supplied c.requires.exponent;
}

pub begin_mantissa-requires-clause-turn : goal.begin_mantissa-requires-clause-turn
begin_mantissa-requires-clause-turn g c = can_turn_used
    (set_of c.args.templates.now) c.args.limits c.args.self.now c.use_bit_of.new.self c.requires.turn c.use_bit_of.ensures.same

pub begin_mantissa-requires-clause-next : goal.begin_mantissa-requires-clause-next
begin_mantissa-requires-clause-next g c =
    let e = field_data c.args.exponent.now in (
      e,
      parts_used (set_of c.args.templates.now) c.args.self.now c.use_bit_of.new.self c.args.node e
          (field_data c.args.mantissa.now) c.requires.next c.use_bit_of.ensures.same,
    )

pub returns-in-None-clause-turn : goal.returns-in-None-clause-turn
returns-in-None-clause-turn g c =
    let set = set_of c.args.templates.now in
    let m = c.args.self.now in
    let e = field_data c.args.exponent.now in
    turn_silent g.S.Sink.takes g.S.Sink.stops set c.args.limits c.args.sink.now m c.use_bit_of.new.self c.advance.new.self e _
    c.requires.turn c.use_bit_of.ensures.bits c.use_bit_of.ensures.same c.advance.ensures
    (exponent_absent set c.args.limits m c.args.node e (field_data c.args.mantissa.now)
    (value_at c.args.source e (slots_dictionary m.slots) m.text.text []) (sym c.in-None.ensures))

pub returns-in-Ok-clause-turn : goal.returns-in-Ok-clause-turn
returns-in-Ok-clause-turn g c =
    let set = set_of c.args.templates.now in
    let l = c.args.limits in
    let m = c.args.self.now in
    let m' = c.use_bit_of.new.self in
    let e = field_data c.args.exponent.now in
    let f = field_data c.args.mantissa.now in
    let x = c.in-Some.value in
    turn_as g.S.Sink.takes g.S.Sink.stops set l _ _ c.args.sink.now c.begin_mantissa.result c.begin_mantissa.new.sink c.begin_mantissa.new.self
    (exponent_there set l m m' c.args.node e f (value_at c.args.source e (slots_dictionary m.slots) m.text.text []) x c.in-Ok.value
    c.use_bit_of.ensures.bits c.use_bit_of.ensures.same
    c.requires.next (sym c.in-Some.ensures) (sym (c.in-Ok.ensures ∙ ap (ranged exponent_range R1) (again w128 x (search rules))))
    ∙ ap (mantissa_from set l m') (sym (again w32 c.in-Ok.value (search rules))))
    c.begin_mantissa.ensures.turn
