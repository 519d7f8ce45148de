use Rattle.std.proofs.Common.{rules, ◌≡◌, length, arith}
use Rattle.fast_json.proofs.Pushed.{popped, none_left}
use Rattle.fast_json.proofs.brackets.Brackets.end.Goals as goal

pub returns-then-self-lt-MOST : goal.returns-then-self-lt-MOST
returns-then-self-lt-MOST c = popped c.args.self.now.is_first c.args.self.now.cells c.args.self.now.start

pub returns-else-self-lt-MOST : goal.returns-else-self-lt-MOST
returns-else-self-lt-MOST c =
    let long : length c.args.self.now.cells ≡ 160 = search rules in
    none_left c.args.self.now.is_first c.args.self.now.cells c.args.self.now.start (omega (arith, long, c.if-self-lt-MOST.false))
