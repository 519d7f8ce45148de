use Rattle.std.proofs.Common.{◌∙◌, sym, ap}
use Rattle.std.specs.Prelude.{◌&&◌}
use Rattle.fast_stream.specs.device.GrammarReaders.{spare}
use Rattle.fast_machine.proofs.fields.Identifiers.{same_test}
use Rattle.fast_stream.proofs.readers.Integers.{decides-spare}
use Rattle.fast_machine.proofs.heads.is_overlong.Goals as goal

pub returns-then-strict : goal.returns-then-strict
returns-then-strict c = same_test c.map_overlong.result (spare c.args.map.now) c.map_overlong.ensures (decides-spare c.args.map.now)
    ∙ ap (λ b. b && spare c.args.map.now) (sym c.if-strict.true)
