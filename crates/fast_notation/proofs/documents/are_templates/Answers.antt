use Rattle.std.proofs.Common.{sym, ◌∙◌, arith}
use Rattle.fast_notation.proofs.lists.TemplateLists.{templates_are, no_templates, too_many_templates}
use Rattle.fast_notation.proofs.documents.are_templates.Goals as goal

pub returns-then-count-eq0-clause-test : goal.returns-then-count-eq0-clause-test
returns-then-count-eq0-clause-test c = sym (no_templates c.args.items.now (omega arith))

pub returns-then-count-clause-test : goal.returns-then-count-clause-test
returns-then-count-clause-test c = sym (too_many_templates c.args.items.now (omega arith))

pub returns-clause-test : goal.returns-clause-test
returns-clause-test c = c.are_tables.ensures ∙ templates_are c.args.items.now (omega arith) (omega arith)
