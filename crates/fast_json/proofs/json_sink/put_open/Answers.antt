use Rattle.std.proofs.Common.{rules, ◌<◌, length, arith, sym}
use Rattle.std.proofs.lemmas.Grind.{common_steps}
use Rattle.fast_text.proofs.Writing.{writes_both, writes_same}
use Rattle.fast_json.proofs.Pushed.{before_some}
use Rattle.fast_json.proofs.json_sink.put_open.Goals as goal

pub returns-else-is_empty : goal.returns-else-is_empty
returns-else-is_empty g c =
    let some : 0 < length c.args.brackets.now = first_of (search rules, grind (arith, common_steps, c.if-is_empty.false, c.if-is_empty.ensures)) in
    writes_same (sym (before_some c.args.brackets.now some)) (writes_both c.put-else-is_empty.ensures c.put-else-is_empty-2.ensures)
