use Rattle.std.specs.Prelude.{Some, pos, false}
use Rattle.fast_wire.specs.meaning.Integers.{unsigned_up_to}
use Rattle.fast_fronts.proofs.stop_bits.Endless.{no_end}
use Rattle.fast_fronts.proofs.fronts.long_unsigned.Goals as goal

pub returns-in-None : goal.returns-in-None
returns-in-None c = no_end (λ x. Some (pos x)) c.args.strict
    (unsigned_up_to c.args.top) false c.args.bytes.now c.endless.result c.in-None.ensures.none c.endless.ensures
