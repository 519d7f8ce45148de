use Rattle.std.proofs.Common.{◌∙◌, sym, arith, subst}
use Rattle.std.proofs.lemmas.Grind.{common_steps}
use Rattle.fast_lines.specs.meaning.Forms.{IsWord}
use Rattle.fast_lines.proofs.Arms.{not_both}
use Rattle.fast_lines.proofs.Words.{node_split}
use Rattle.fast_lines.proofs.forms.parse_node.Goals as goal
use Rattle.fast_lines.proofs.forms.parse_node.Goals.{in_default-parse_number-via-in-Some-parse_number+else-is_word}
use Rattle.fast_lines.proofs.forms.parse_node.Goals.{in_default-parse_number-via-in_default-parse_number}

pub returns-in_default-parse_number-clause-none : goal.returns-in_default-parse_number-clause-none
returns-in_default-parse_number-clause-none c n name small word h =
    let words = node_split c.in-Some.number.now c.in-Some.name.now n name c.in-Some.ensures.first small (sym c.in-Some.ensures.parts ∙ h) in
    elim c.in_default-parse_number.branch [
      | in_default-parse_number-via-in-Some-parse_number+else-is_word w ↦ not_both w.is_word.result
          (w.is_word.ensures.1 (subst (λ t. IsWord t) (sym words.1) word)) w.if-is_word.false
      | in_default-parse_number-via-in_default-parse_number w ↦ w.in_default-parse_number.ensures.none n small words.0
    ]

pub returns-in_default-clause-node : goal.returns-in_default-clause-node
returns-in_default-clause-node c = grind (arith, common_steps)

pub returns-in-Some-parse_number-clause-node : goal.returns-in-Some-parse_number-clause-node
returns-in-Some-parse_number-clause-node c = grind (arith, common_steps)

pub returns-in-Some-parse_number-clause-none : goal.returns-in-Some-parse_number-clause-none
returns-in-Some-parse_number-clause-none c = grind (arith, common_steps)

pub returns-in_default-parse_number-clause-node : goal.returns-in_default-parse_number-clause-node
returns-in_default-parse_number-clause-node c = grind (arith, common_steps)
