-- A template is the one of its number in the tree of its set.
use Rattle.std.proofs.Common.{◌≡◌, sym, ◌∙◌}
use Rattle.std.specs.Prelude.{Some, None}
use Rattle.fast_value.specs.meaning.Views.{message_data}
use Rattle.fast_tree.specs.meaning.Nodes.{instructions_from, template_data}
use Rattle.fast_template.specs.meaning.Flat.{nodes_of}
use Rattle.fast_spelling.proofs.encodings.Whole.{template_there, identified}
use Rattle.fast_encoder.proofs.encoder.known.Goals as goal

pub returns-in-Some-clause-known : goal.returns-in-Some-clause-known
returns-in-Some-clause-known c = (
  template_data (instructions_from 0 (nodes_of c.args.templates.now)) c.template-template.result.now,
  template_there c.args.templates.now c.args.message.now.template c.template-template.result.now c.template-template.ensures.found,
  c.in-Some.is,
)

pub returns-in-None-clause-unknown : goal.returns-in-None-clause-unknown
returns-in-None-clause-unknown c = λ known.
    let (u, id, at, is) = known in
    let both : None ≡ Some id = sym c.in-None.is ∙ identified c.args.templates.now
    (message_data c.args.message.now) id c.template-template.result.now c.template-template.ensures.found (u, at, is) in
    absurd (cc both)
