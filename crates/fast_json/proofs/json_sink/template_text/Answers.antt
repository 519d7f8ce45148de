use Rattle.std.proofs.Common.{◌∙◌, sym}
use Rattle.fast_text.proofs.Names.{template_named}
use Rattle.fast_json.proofs.json_sink.template_text.Goals as goal

pub returns-then-template-count : goal.returns-then-template-count
returns-then-template-count c = c.as_str.ensures.value ∙ sym
    (template_named c.args.templates.now c.args.template c.template.result.now c.template.ensures.found)
