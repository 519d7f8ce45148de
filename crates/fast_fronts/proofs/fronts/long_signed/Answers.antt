use Rattle.std.specs.Prelude.{Some, false}
use Rattle.fast_wire.specs.meaning.Integers.{signed_between}
use Rattle.fast_fronts.proofs.stop_bits.Endless.{no_end}
use Rattle.fast_fronts.proofs.fronts.long_signed.Goals as goal

pub returns-in-None : goal.returns-in-None
returns-in-None c = no_end (λ x. Some x) c.args.strict (signed_between c.args.low c.args.top) false c.args.bytes.now c.endless.result
    c.in-None.ensures.none c.endless.ensures
