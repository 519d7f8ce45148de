use Rattle.std.proofs.Common.{◌≡◌, Some, subst}
use Rattle.fast_template.specs.declared.sets.Templates.{Templates}
use Rattle.fast_template.specs.meaning.Flat.{templates_of}
use Rattle.fast_c.specs.meaning.Queries.{IsFirstWith}
use Rattle.fast_c.proofs.queries.fast_template_by_id.Goals as goal

pub returns : goal.returns
returns c = subst (λ (set : Templates). IsFirstWith (λ t. t.id ≡ Some c.args.id) (templates_of set) c.with_id.result) c.lent.ensures c.with_id.ensures
