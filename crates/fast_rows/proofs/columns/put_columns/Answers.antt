use Rattle.std.proofs.Common.{arith}
use Rattle.std.proofs.lemmas.Grind.{common_steps}
use Rattle.fast_text.proofs.Writing.{writes_both, writes_same}
use Rattle.fast_rows.proofs.Columned.{columns_of_none, columns_of_some}
use Rattle.fast_rows.proofs.columns.put_columns.Goals as goal

pub returns-then-is_empty : goal.returns-then-is_empty
returns-then-is_empty g c = writes_same (columns_of_none c.args.at c.args.bytes.now (grind (arith, common_steps)))
    (writes_both c.put_offset.ensures c.put.ensures)

pub returns-else-is_empty : goal.returns-else-is_empty
returns-else-is_empty g c = writes_same (columns_of_some c.args.at c.args.bytes.now (grind (arith, common_steps)))
    (writes_both c.put_cells.ensures c.put-else-is_empty.ensures)
