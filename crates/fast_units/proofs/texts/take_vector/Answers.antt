use Rattle.std.proofs.Common.{refl, take}
use Rattle.std.specs.Prelude.{Some, true}
use Rattle.std.proofs.lemmas.List.{length-take-le}
use Rattle.fast_value.specs.meaning.Limits.{bounds}
use Rattle.fast_tree.specs.meaning.Nodes.{field_data}
use Rattle.fast_dict.specs.meaning.Dictionary.{previous_at}
use Rattle.fast_dict.specs.meaning.Operators.{decide}
use Rattle.fast_dict.specs.meaning.Slots.{slots_dictionary}
use Rattle.fast_stream.specs.meaning.Fields.{sent_text}
use Rattle.fast_units.proofs.LastUnits.{unit_stays}
use Rattle.fast_units.proofs.NextUnits.{run_whole, run_cut}
use Rattle.fast_units.proofs.TextUnits.{vector_field, text_last}
use Rattle.fast_units.proofs.texts.take_vector.Goals as goal

pub returns-then-rest-size-clause-unit : goal.returns-then-rest-size-clause-unit
returns-then-rest-size-clause-unit c =
    let l = c.args.limits in
    let f = field_data c.args.field.now in
    let old = slots_dictionary c.args.slots.now in
    let p = previous_at f.entry old in
    let here = vector_field l.strict (bounds l) f p c.args.size in
    unit_stays here c.args.rest.now _ (run_cut l.strict c.args.size c.args.rest.now c.if-rest-size.true)

pub returns-clause-unit : goal.returns-clause-unit
returns-clause-unit c =
    let l = c.args.limits in
    let f = field_data c.args.field.now in
    let old = slots_dictionary c.args.slots.now in
    let p = previous_at f.entry old in
    let here = vector_field l.strict (bounds l) f p c.args.size in
    let n = c.args.size in
    let x = take n c.args.rest.now in
    let within = c.if-rest-size.false in
    text_last here f c.args.rest.now old (slots_dictionary c.finish_here.new.slots)
    c.finish_here.new.scratch.text n x (c.requires.stage.5, within, run_whole l.strict n x (length-take-le n c.args.rest.now within))
    (decide f p true (sent_text f.kind (Some x))) c.finish_here.result c.answered.result c.answered.ensures refl
    (c.finish_here.ensures.field c.finish_here.new.scratch.text)
