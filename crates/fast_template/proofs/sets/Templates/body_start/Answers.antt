use Rattle.std.proofs.Common.{◌≡◌, ◌<◌, ℕ, length, slice_get, Some, refl, sym, subst}
use Rattle.std.proofs.lemmas.Option.{slice_get_read}
use Rattle.fast_program.proofs.KeptPrograms.{body_starts, body_begins}
use Rattle.fast_template.specs.declared.sets.Templates.{Templates}
use Rattle.fast_template.proofs.sets.Templates.body_start.Goals as goal

-- each has a place
within : (t : Templates) (n : ℕ) → n < length t.nodes.items → n < length t.program.body_starts.items
within t n h = subst (λ k. n < k) (sym (body_starts t.program t.templates.items t.nodes.items t.program_of_set)) h

pub index-requires : goal.index-requires
index-requires c =
    let t : Templates = c.args.self.now in
    subst (λ k. c.args.n < k) (sym t.program.body_starts.ok.0) (within t c.args.n c.requires)

pub returns : goal.returns
returns c x found =
    let t : Templates = c.args.self.now in
    let at : ℕ = c.index.result.now in
    let starts = t.program.body_starts.items in
    let here : slice_get starts c.args.n ≡ Some at = slice_get_read starts (length starts) c.args.n at refl (within t c.args.n c.requires) c.index.ensures in
    body_begins t.program t.templates.items t.nodes.items t.program_of_set c.args.n at x here found
