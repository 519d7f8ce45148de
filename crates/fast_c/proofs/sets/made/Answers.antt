use Rattle.std.proofs.Common.{◌≡◌, ◌≢◌, ℕ, List, Option, Some, sym, subst}
use Rattle.std.proofs.lemmas.Result.{IfOk-weaker}
use Rattle.toml.specs.Data.{Members}
use Rattle.toml.specs.Parse.{parse_document}
use Rattle.fast_notation.specs.declared.codes.StaticCode.TheVariants.{Memory}
use Rattle.fast_notation.specs.meaning.Checked.{IsTree}
use Rattle.fast_notation.specs.meaning.FivePasses.{IsAtFault}
use Rattle.fast_notation.specs.meaning.Firsts.{IsFirstFault}
use Rattle.fast_template.specs.declared.sets.Templates.{Templates}
use Rattle.fast_template.specs.meaning.Flat.{tree_of}
use Rattle.fast_c.specs.meaning.Opening.{IsSetOf, HasNoTree}
use Rattle.fast_c.proofs.sets.made.Goals as goal

pub returns-in-Ok-read-clause-ok : goal.returns-in-Ok-read-clause-ok
returns-in-Ok-read-clause-ok c =
    let text = c.args.text.now in let same = c.in-Ok.ensures.cases in let set = c.in-Ok-read.set in
    let read = subst (λ (t : List ℕ). (document : Members) × (parse_document t ≡ Some document) × IsTree document (tree_of set)) same.0
    c.in-Ok-read.ensures.read in
    let is : IsSetOf text set = (same.1, read.0, read.1, read.2) in
    IfOk-weaker c.boxed.result (λ b. b.value ≡ set) (λ b. IsSetOf text b.value)
    (λ b it. subst (λ (t : Templates). IsSetOf text t) (sym it) is) c.boxed.ensures.ok

pub returns-in-Err-clause-err : goal.returns-in-Err-clause-err
returns-in-Err-clause-err c =
    let same = c.in-Ok.ensures.cases in let f = c.in-Err.fault in let e = c.in-Err.ensures in
    let why = subst (λ (t : List ℕ). (template : Option ℕ) × IsAtFault (parse_document t) f.code template
    × IsFirstFault (parse_document t) f.code template × (f.code ≢ Memory → HasNoTree t)) same.0
    (f.template, e.fault, e.first, e.none) in
    (same.1, why.0, why.1, why.2, why.3)
