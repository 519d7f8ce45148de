use Rattle.std.proofs.Common.{ap, decimal}
use Rattle.fast_text.proofs.Writing.{writes_both, writes_same}
use Rattle.fast_json.proofs.Pushed.{mark_more}
use Rattle.fast_json.proofs.keys.put_mark.Goals as goal

pub returns-then-repeat-gt1 : goal.returns-then-repeat-gt1
returns-then-repeat-gt1 g c = writes_same (mark_more c.args.repeat c.if-repeat-gt1.true)
    (writes_both c.put.ensures (writes_same (ap decimal c.from.ensures) c.put_unsigned.ensures))
