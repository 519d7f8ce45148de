use Rattle.std.proofs.Common.{drop}
use Rattle.fast_template.specs.meaning.Flat.{tree_of}
use Rattle.fast_text.specs.declared.line_writer.LineWriter.{LineWriter}
use Rattle.fast_text.specs.meaning.LineWriter.{Writes}
use Rattle.fast_command.specs.meaning.Listing.{lines_from, list_lines}
use Rattle.fast_command.proofs.list.put_templates.Given as goal

-- Who writes the lines that are left writes all.
abbrev pub invariant-loop-number : goal.invariant-loop-number
invariant-loop-number g l = (end : LineWriter g.row.T.Denot)
    → Writes g.T.Target.written g.T.Target.has_failed l.line (lines_from l.number (drop l.number (tree_of l.templates).templates)) end
    → Writes g.T.Target.written g.T.Target.has_failed l.fn.line (list_lines (tree_of l.templates)) end
