use Rattle.std.proofs.Common.{string_bytes}
use Rattle.std.proofs.lemmas.Result.{IfErr-weaker}
use Rattle.fast_notation.specs.device.WrittenSets.{operator_data}
use Rattle.fast_notation.proofs.texts.SoundUses.{unsound_length}
use Rattle.fast_notation.proofs.uses.check_length.Goals as goal

pub returns-in-Some-clause-fault : goal.returns-in-Some-clause-fault
returns-in-Some-clause-fault c =
    rw c.in-Some.is (IfErr-weaker c.check_use.result _ _ (λ e h. unsound_length e (string_bytes c.in-Some.field-0) c.args.optional
    (operator_data c.args.written.now) h) c.check_use.ensures.fault)
