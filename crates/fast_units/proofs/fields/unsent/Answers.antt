-- One more than the previous value, where that is decided.
use Rattle.std.proofs.Common.{◌≡◌, Ok, sym, ap, ◌∙◌, subst}
use Rattle.fast_tree.specs.meaning.Nodes.{field_data}
use Rattle.fast_dict.specs.declared.operators.unsent.Left.TheVariants.{Increased}
use Rattle.fast_dict.specs.meaning.Answers.{left_data, left_answer}
use Rattle.fast_dict.specs.meaning.Dictionary.{PreviousData}
use Rattle.fast_dict.specs.meaning.Operators.{decide, nothing}
use Rattle.fast_dict.specs.meaning.Previous.{previous_data}
use Rattle.fast_units.specs.device.Words.{previous_of}
use Rattle.fast_units.proofs.fields.unsent.Goals as goal

pub returns-in-Increased-clause-decided : goal.returns-in-Increased-clause-decided
returns-in-Increased-clause-decided c =
    let f = field_data c.args.field.now in
    let is : Ok (left_data Increased f (previous_of c.args.slots.now c.args.field.now)) ≡ decide f
    (previous_of c.args.slots.now c.args.field.now) c.args.bit nothing =
    subst (λ (p : PreviousData). Ok (left_data Increased f p) ≡ decide f p c.args.bit nothing) c.previous.ensures
    (ap (λ x. left_answer (Ok x) f (previous_data c.previous.result)) (sym c.in-Increased.is) ∙ c.in_ok-leave.ensures.nothing) in
    (left_data Increased f (previous_of c.args.slots.now c.args.field.now), sym is, c.increase.ensures.settled)
