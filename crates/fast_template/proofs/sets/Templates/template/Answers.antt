-- A goal that a wrong body would leave: a named one says at once what is missing.
use Rattle.std.proofs.Common.{◌<◌, List, refl, sym, subst, length}
use Rattle.std.proofs.lemmas.Option.{slice_get_read}
use Rattle.fast_tree.specs.declared.instructions.Template.{Template}
use Rattle.fast_template.proofs.sets.Templates.template.Goals as goal

pub returns-clause-found : goal.returns-clause-found
returns-clause-found c =
    let ts : List Template = c.args.self.now.templates.items in
    slice_get_read ts (length ts) c.args.i c.index.result.now refl c.requires c.index.ensures

pub index-requires : goal.index-requires
index-requires c = subst (λ k. c.args.i < k) (sym c.args.self.now.templates.ok.0) c.requires

pub returns-clause-body : goal.returns-clause-body
returns-clause-body c =
    let ts : List Template = c.args.self.now.templates.items in
    c.args.self.now.templates_name_nodes c.args.i c.index.result.now (slice_get_read ts (length ts) c.args.i c.index.result.now refl c.requires c.index.ensures)
