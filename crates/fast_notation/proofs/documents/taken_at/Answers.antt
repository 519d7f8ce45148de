use Rattle.std.proofs.Common.{ap, ◌∙◌, option_map}
use Rattle.toml.specs.View.{view}
use Rattle.toml.proofs.Views.{view-lookup}
use Rattle.fast_notation.proofs.documents.taken_at.Goals as goal

pub returns : goal.returns
returns c = ap (option_map view) c.remove.ensures.value ∙ view-lookup c.args.key.now c.args.table.now.entries
