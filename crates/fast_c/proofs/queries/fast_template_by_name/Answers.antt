use Rattle.std.proofs.Common.{◌≡◌, string_bytes, subst}
use Rattle.fast_template.specs.declared.sets.Templates.{Templates}
use Rattle.fast_template.specs.meaning.Flat.{templates_of}
use Rattle.fast_c.specs.meaning.Queries.{IsFirstWith}
use Rattle.fast_c.proofs.queries.fast_template_by_name.Goals as goal

pub returns : goal.returns
returns c = subst (λ (set : Templates). IsFirstWith (λ t. string_bytes t.name ≡ c.args.name.now) (templates_of set) c.with_name.result)
    c.lent.ensures c.with_name.ensures
