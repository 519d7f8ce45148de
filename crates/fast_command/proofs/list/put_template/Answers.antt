use Rattle.std.proofs.Common.{◌≡◌, [], ap, sym, ◌∙◌}
use Rattle.fast_template.specs.meaning.Flat.{nodes_of}
use Rattle.fast_text.proofs.Writing.{writes_both, writes_same}
use Rattle.fast_tree.specs.declared.instructions.Template.{Template}
use Rattle.fast_tree.specs.meaning.Nodes.{body_among}
use Rattle.fast_command.specs.meaning.Listing.{body_lines}
use Rattle.fast_command.proofs.Lists.{same_found}
use Rattle.fast_command.proofs.list.put_template.Goals as goal

pub returns : goal.returns
returns g c t found =
    let is : c.template-template.result.now ≡ t = same_found (sym c.template-template.ensures.found ∙ found) in
    let body = c.deref.ensures.value ∙ ap (λ (u : Template). u.body.items) is in
    writes_both (c.put_template_line.ensures t found) (writes_same
    (ap (λ ms. body_lines [] (body_among (nodes_of c.args.templates.now) ms)) body) c.put_body.ensures)
