use Rattle.std.proofs.Common.{◌<◌, ◌^◌, ◌∙◌, sym, rules}
use Rattle.fast_lines.proofs.Words.{same_behind}
use Rattle.fast_lines.proofs.forms.sequence_line.Goals as goal

pub returns-in-None-clause-none : goal.returns-in-None-clause-none
returns-in-None-clause-none c n name count small word few h =
    let node = c.in-Some.ensures.node in
    let narrow : c.in-Some.node < 2 ^ 32 = search rules in
    c.in-None.ensures.none count few (same_behind c.in-Some.node n c.in-Some.name.now name _ _ narrow small node.1 word (sym node.0 ∙ h))
