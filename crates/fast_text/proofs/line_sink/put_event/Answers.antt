use Rattle.std.proofs.Common.{◌∷◌, [], sym, append_assoc}
use Rattle.fast_value.specs.meaning.Values.{scalar_data}
use Rattle.fast_template.specs.meaning.Flat.{tree_of}
use Rattle.fast_lines.specs.meaning.Lines.{written as value_text}
use Rattle.fast_text.specs.device.Front.{field_front}
use Rattle.fast_text.proofs.Writing.{writes_both, writes_same}
use Rattle.fast_text.proofs.line_sink.put_event.Goals as goal

pub returns-in-MessageStart : goal.returns-in-MessageStart
returns-in-MessageStart g c = rw c.in-MessageStart.is c.put_message.ensures

pub returns-in-Field : goal.returns-in-Field
returns-in-Field g c = rw c.in-Field.is (writes_same (sym
    (append_assoc (field_front (tree_of c.args.templates.now) c.in-Field.node) (value_text (scalar_data c.in-Field.value)) (0x0A ∷ [])))
    (writes_both c.put_field.ensures c.put_value_line.ensures))

pub returns-in-GroupStart : goal.returns-in-GroupStart
returns-in-GroupStart g c = rw c.in-GroupStart.is c.put_group.ensures

pub returns-in-GroupEnd : goal.returns-in-GroupEnd
returns-in-GroupEnd g c = rw c.in-GroupEnd.is c.put.ensures

pub returns-in-SequenceStart : goal.returns-in-SequenceStart
returns-in-SequenceStart g c = rw c.in-SequenceStart.is c.put_sequence.ensures

pub returns-in-ElementEnd : goal.returns-in-ElementEnd
returns-in-ElementEnd g c = rw c.in-ElementEnd.is c.put-in-ElementEnd.ensures

pub returns-in-SequenceEnd : goal.returns-in-SequenceEnd
returns-in-SequenceEnd g c = rw c.in-SequenceEnd.is c.put-in-SequenceEnd.ensures

pub returns-in-MessageEnd : goal.returns-in-MessageEnd
returns-in-MessageEnd g c = rw c.in-MessageEnd.is c.put-in-MessageEnd.ensures
