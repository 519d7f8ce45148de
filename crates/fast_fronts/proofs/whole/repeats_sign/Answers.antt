use Rattle.fast_wire.proofs.numbers.Overlong.{clear_repeats, set_repeats}
use Rattle.fast_fronts.proofs.whole.repeats_sign.Goals as goal

pub returns-in-0 : goal.returns-in-0
returns-in-0 c = clear_repeats c.args.first c.args.second c.in-0.is

pub returns-in-127 : goal.returns-in-127
returns-in-127 c = set_repeats c.args.first c.args.second c.in-127.is
