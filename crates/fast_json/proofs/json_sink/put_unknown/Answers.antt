use Rattle.std.proofs.Common.{rules, ◌<◌, length, arith, sym}
use Rattle.std.proofs.lemmas.Grind.{common_steps}
use Rattle.fast_text.proofs.Writing.{writes_both, writes_same}
use Rattle.fast_json.proofs.Pushed.{incomplete_some}
use Rattle.fast_json.proofs.json_sink.put_unknown.Goals as goal

pub returns-then-not-is_empty : goal.returns-then-not-is_empty
returns-then-not-is_empty g c =
    let some : 0 < length c.args.brackets.now = first_of (search rules, grind (arith, common_steps, c.if-not-is_empty.true, c.if-not-is_empty.ensures)) in
    writes_same (sym (incomplete_some c.args.brackets.now some)) (writes_both c.put.ensures c.put-then-not-is_empty.ensures)
