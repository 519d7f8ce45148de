-- The value is that of the source.
use Rattle.std.proofs.Common.{ap, ◌∙◌, subst}
use Rattle.std.specs.Prelude.{ℕ, ◌-◌, List, drop, take, Option}
use Rattle.fast_value.specs.meaning.Kinds.{ScalarData}
use Rattle.fast_tree.specs.meaning.Nodes.{field_data}
use Rattle.fast_dict.specs.meaning.Slots.{slots_dictionary}
use Rattle.fast_stream.specs.device.GrammarReaders.{reader_of}
use Rattle.fast_units.specs.device.Settling.{value_at}
use Rattle.fast_fields.specs.device.Carries.{at_hand}
use Rattle.fast_machine.specs.device.Moving.{Moves}
use Rattle.fast_machine.specs.device.Passing.{value_then}
use Rattle.fast_machine.specs.device.Positions.{going_on}
use Rattle.fast_machine.proofs.machines.FieldTakes.{bytes_between}
use Rattle.fast_machine.proofs.machine.Machine.finish_read.Goals as goal

pub returns-clause-moves : goal.returns-clause-moves
returns-clause-moves g c set l strict waits =
    let m = c.args.self.now in
    let f = field_data c.args.field.now in
    let d = slots_dictionary m.slots in
    let turn = c.emit_value.ensures.moves set l strict waits f d m.counted c.uses_bit.ensures in
    subst (λ (v : Option ScalarData). Moves g.S.Sink.takes g.S.Sink.stops (reader_of strict (value_then set l c.args.node v f d m.counted m.cursor))
    c.args.sink.now c.emit_value.result c.emit_value.new.sink (reader_of strict (going_on set l d m.counted c.emit_value.new.cursor)) waits)
    (c.value_at-value.ensures
    ∙ ap (λ (w : List ℕ). value_at c.args.found.source f d w (take (c.args.found.bytes - c.args.found.from) (drop c.args.found.from c.at_hand.result.now)))
    c.as_slice-text.ensures
    ∙ ap (λ (w : List ℕ). value_at c.args.found.source f d m.text.text (take (c.args.found.bytes - c.args.found.from) (drop c.args.found.from w)))
    c.at_hand.ensures
    ∙ ap (value_at c.args.found.source f d m.text.text)
    (bytes_between c.args.found.from c.args.found.bytes (at_hand m.carry.bytes.text c.args.rest.now) c.requires.from)) turn
