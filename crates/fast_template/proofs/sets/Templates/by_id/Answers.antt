use Rattle.std.proofs.Common.{◌≡◌, ◌∙◌}
use Rattle.fast_tree.specs.device.Numbers.{number_of_id}
use Rattle.fast_notation.proofs.references.Headings.{id_found, id_first, id_none}
use Rattle.fast_template.proofs.SetTrees.{distinct_ids}
use Rattle.fast_template.proofs.sets.Templates.by_id.Goals as goal

pub returns : goal.returns
returns c =
    let ts = c.args.self.now.templates.items in
    let q = c.args.id in
    let is : c.copied.result ≡ number_of_id q ts = c.copied.ensures ∙ c.get.ensures.value ∙ c.args.self.now.ids_index q in
    record {
      found = id_found ts q c.copied.result is;
      first = id_first ts q c.copied.result is;
      none = id_none ts q c.copied.result is;
      distinct = distinct_ids c.args.self.now;
    }
