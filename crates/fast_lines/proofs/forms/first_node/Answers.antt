use Rattle.std.proofs.Common.{◌≡◌, [], ◌∙◌, sym, arith}
use Rattle.std.proofs.lemmas.Grind.{common_steps}
use Rattle.fast_lines.proofs.Splits.{first_split, no_split}
use Rattle.fast_lines.proofs.Words.{more_split}
use Rattle.fast_lines.proofs.forms.first_node.Goals as goal
use Rattle.fast_lines.proofs.forms.first_node.Goals.{in_default-parse_number-via-in-Some-parse_number+else-not-is_empty}
use Rattle.fast_lines.proofs.forms.first_node.Goals.{in_default-parse_number-via-in_default-parse_number}

pub returns-in_default-split_at_byte-clause-none :
    goal.returns-in_default-split_at_byte-clause-none
returns-in_default-split_at_byte-clause-none c n name rest small word h =
    let words = more_split c.in-Some.number.now c.in-Some.others.now n name rest c.in-Some.ensures.first small (sym c.in-Some.ensures.parts ∙ h) in
    no_split 0x20 c.in-Some.others.now name rest c.in_default-split_at_byte.ensures.none words.1

pub returns-in_default-parse_number-clause-none : goal.returns-in_default-parse_number-clause-none
returns-in_default-parse_number-clause-none c n name rest small word h =
    let words = more_split c.in-Some.number.now c.in-Some.others.now n name rest c.in-Some.ensures.first small (sym c.in-Some.ensures.parts ∙ h) in
    let others = first_split 0x20 c.in-Some-split_at_byte.name.now name c.in-Some-split_at_byte.rest.now rest
    c.in-Some-split_at_byte.ensures.first word.whole (sym c.in-Some-split_at_byte.ensures.parts ∙ words.1) in
    elim c.in_default-parse_number.branch [
      | in_default-parse_number-via-in-Some-parse_number+else-not-is_empty w ↦ let empty : c.in-Some-split_at_byte.name.now ≡ [] =
          grind (arith, common_steps, w.is_empty.ensures, w.if-not-is_empty) in word.some (sym others.0 ∙ empty)
      | in_default-parse_number-via-in_default-parse_number w ↦ w.in_default-parse_number.ensures.none n small words.0
    ]

pub returns-in_default-clause-node : goal.returns-in_default-clause-node
returns-in_default-clause-node c = grind (arith, common_steps)

pub returns-in_default-split_at_byte-clause-node :
    goal.returns-in_default-split_at_byte-clause-node
returns-in_default-split_at_byte-clause-node c = grind (arith, common_steps)

pub returns-in-Some-parse_number-clause-node : goal.returns-in-Some-parse_number-clause-node
returns-in-Some-parse_number-clause-node c = grind (arith, common_steps)

pub returns-in-Some-parse_number-clause-none : goal.returns-in-Some-parse_number-clause-none
returns-in-Some-parse_number-clause-none c = grind (arith, common_steps)

pub returns-in_default-parse_number-clause-node : goal.returns-in_default-parse_number-clause-node
returns-in_default-parse_number-clause-node c = grind (arith, common_steps)
