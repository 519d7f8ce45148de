use Rattle.std.proofs.Common.{◌≡◌, ◌<◌, ℕ, zero, suc, List, [], ◌∷◌, length, slice_get, get_or, Some, refl, sym, subst, arith}
use Rattle.std.proofs.lemmas.Option.{slice_get_read}
use Rattle.fast_program.specs.declared.starts.Start.{Start}
use Rattle.fast_program.proofs.KeptPrograms.{template_starts, template_start, start_number}
use Rattle.fast_template.specs.declared.sets.Templates.{Templates}
use Rattle.fast_template.proofs.sets.Templates.start_of.Goals as goal

-- each has a start
within : (t : Templates) (n : ℕ) → n < length t.templates.items → n < length t.program.template_starts.items
within t n h = subst (λ k. n < k) (sym (template_starts t.program t.templates.items t.nodes.items t.program_of_set)) h

pub index-requires : goal.index-requires
index-requires c =
    let t : Templates = c.args.self.now in
    subst (λ k. c.args.i < k) (sym t.program.template_starts.ok.0) (within t c.args.i c.requires)

-- each is there
there : {X : Type 0} (xs : List X) (i : ℕ) → i < length xs → (x : X) × (slice_get xs i ≡ Some x)
there [] i h = absurd (omega (arith, h))
there (x ∷ xs) zero h = (x, refl)
there (x ∷ xs) (suc i) h = there xs i (omega (arith, h))

-- the start handed out stands at its number
start_here : (t : Templates) (i : ℕ) (s : Start) → i < length t.templates.items → s ≡ get_or t.program.template_starts.items i s
    → slice_get t.program.template_starts.items i ≡ Some s
start_here t i s h read = let starts = t.program.template_starts.items in slice_get_read starts (length starts) i s refl (within t i h) read

pub returns-clause-start : goal.returns-clause-start
returns-clause-start c =
    let p : Templates = c.args.self.now in
    let s : Start = c.index.result.now in
    let here = start_here p c.args.i s c.requires c.index.ensures in
    let (t, found) = there p.templates.items c.args.i c.requires in
    (t, found, template_start p.program p.templates.items p.nodes.items p.program_of_set c.args.i s t here found)

pub returns-clause-number : goal.returns-clause-number
returns-clause-number c =
    let p : Templates = c.args.self.now in
    let s : Start = c.index.result.now in
    start_number p.program p.templates.items p.nodes.items p.program_of_set c.args.i s (start_here p c.args.i s c.requires c.index.ensures)
