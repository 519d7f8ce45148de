-- An operator that keeps nothing leaves the dictionary as it is.
use Rattle.std.proofs.Common.{◌≡◌, ◌∙◌, ap, sym, refl}
use Rattle.std.specs.Prelude.{option_map}
use Rattle.fast_value.specs.meaning.Values.{scalar_data}
use Rattle.fast_tree.specs.declared.operators.Operator.{Operator}
use Rattle.fast_tree.specs.meaning.Nodes.{field_data}
use Rattle.fast_dict.specs.meaning.Dictionary.{PreviousData, previous_at, write_at}
use Rattle.fast_spelling.specs.device.Places.{field_there}
use Rattle.fast_spelling.specs.device.Fields.{next_by}
use Rattle.fast_spelling.proofs.rules.Usual.{write_back}
use Rattle.fast_spelling.proofs.fields.keep.Goals as goal

pub returns-then-not-keeps-clause-now : goal.returns-then-not-keeps-clause-now
returns-then-not-keeps-clause-now c =
    let f = field_data (field_there c.args.at.place) in
    let d = c.args.ledger.now.now in
    let p = previous_at f.entry d in
    let v = option_map scalar_data c.args.value in
    let same : next_by f.operator f.kind p v ≡ p = ap (λ (o : Operator). next_by o f.kind p v) c.requires.operator
    ∙ c.if-not-keeps.ensures.same refl f.kind p v in
    sym (ap (λ (q : PreviousData). write_at f.entry q d) same ∙ write_back f.entry d)
