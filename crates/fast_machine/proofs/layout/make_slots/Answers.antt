use Rattle.fast_template.specs.meaning.Flat.{nodes_of}
use Rattle.fast_machine.proofs.fields.EntryTexts.{slots_serve}
use Rattle.fast_machine.proofs.layout.make_slots.Goals as goal

pub returns-clause-serves : goal.returns-clause-serves
returns-clause-serves c =
    let set = c.args.templates.now in
    slots_serve c.new.result set.entries c.args.max_text c.deref.result.now (nodes_of set) c.new.ensures.texts c.new.ensures.max_text
    (rw c.deref.ensures.value c.in_ok-marks.ensures.marked) c.requires set.nodes_usable
