-- Both by the operator.
use Rattle.std.proofs.Common.{ap}
use Rattle.std.specs.Prelude.{true, Ok}
use Rattle.fast_units.specs.declared.source.ValueSource.TheVariants as From
use Rattle.fast_tree.specs.meaning.Nodes.{field_data}
use Rattle.fast_dict.specs.meaning.Dictionary.{previous_at}
use Rattle.fast_dict.specs.meaning.Operators.{decide}
use Rattle.fast_dict.specs.meaning.Slots.{slots_dictionary}
use Rattle.fast_units.specs.device.Deciding.{number_data, sent_number}
use Rattle.fast_units.proofs.Deciding.{decided_as, value_decided, null_decided}
use Rattle.fast_units.proofs.numbers.received.Goals as goal

pub returns-in-Some-clause-decided : goal.returns-in-Some-clause-decided
returns-in-Some-clause-decided c =
    let f = field_data c.args.field.now in
    let old = slots_dictionary c.args.slots.now in
    decided_as f old (slots_dictionary c.keep.new.slots) (Ok c.keep.result) (ap (λ x. decide f (previous_at f.entry old) true (sent_number x)) c.in-Some.is)
    (value_decided f c.requires.serves c.requires.numbers old (slots_dictionary c.keep.new.slots)
    (number_data c.in-Some.number) c.keep.result c.requires.no_delta c.requires.no_constant c.keep.ensures.entry c.keep.ensures.value)

pub returns-in-None-clause-decided : goal.returns-in-None-clause-decided
returns-in-None-clause-decided c =
    let f = field_data c.args.field.now in
    let old = slots_dictionary c.args.slots.now in
    decided_as f old (slots_dictionary c.assign_empty.new.slots) (Ok From.Absent)
    (ap (λ x. decide f (previous_at f.entry old) true (sent_number x)) c.in-None.is)
    (null_decided f c.requires.serves c.requires.numbers old
    (slots_dictionary c.assign_empty.new.slots) c.requires.no_delta c.requires.no_constant c.assign_empty.ensures.entry)
