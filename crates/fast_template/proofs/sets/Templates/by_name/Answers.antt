use Rattle.std.proofs.Common.{◌≡◌, ◌∙◌}
use Rattle.fast_tree.specs.device.Numbers.{number_of_name}
use Rattle.fast_notation.proofs.references.Headings.{name_found, name_first, name_none}
use Rattle.fast_template.proofs.sets.Templates.by_name.Goals as goal

pub returns : goal.returns
returns c =
    let ts = c.args.self.now.templates.items in
    let q = c.args.name.now in
    let is : c.copied.result ≡ number_of_name q ts = c.copied.ensures ∙ c.get.ensures.value ∙ c.args.self.now.names_index q in
    record { found = name_found ts q c.copied.result is; first = name_first ts q c.copied.result is; none = name_none ts q c.copied.result is }
