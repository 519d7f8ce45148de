-- The steps of a group's or a sequence's body.
use Rattle.std.proofs.Common.{ap, sym, ◌∙◌}
use Rattle.fast_tree.specs.meaning.Numbers.{numbers_of}
use Rattle.fast_template.specs.meaning.Flat.{nodes_of}
use Rattle.fast_spelling.proofs.rules.FormsTold.{steps_found}
use Rattle.fast_spelling.proofs.forms.node_steps.Goals as goal

pub returns-in-Group : goal.returns-in-Group
returns-in-Group c = steps_found (nodes_of c.args.templates.now) c.args.node c.node.result.now c.deref.result.now c.steps_along.result c.node.ensures.found
    (c.deref.ensures.value ∙ sym (ap numbers_of c.in-Group.is)) c.steps_along.ensures

pub returns-in-Sequence : goal.returns-in-Sequence
returns-in-Sequence c = steps_found (nodes_of c.args.templates.now) c.args.node c.node.result.now c.deref-in-Sequence.result.now
    c.steps_along-in-Sequence.result c.node.ensures.found (c.deref-in-Sequence.ensures.value ∙ sym (ap numbers_of c.in-Sequence.is))
    c.steps_along-in-Sequence.ensures
