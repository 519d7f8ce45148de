-- No byte is there.
use Rattle.std.proofs.Common.{sym, ap, subst, arith}
use Rattle.std.specs.Prelude.{ℕ, List, length, true}
use Rattle.fast_value.specs.meaning.Limits.{bounds}
use Rattle.fast_tree.specs.meaning.Nodes.{field_data}
use Rattle.fast_stream.specs.device.GrammarReaders.{reader_of}
use Rattle.fast_stream.specs.meaning.Fields.{field_term}
use Rattle.fast_fields.specs.device.Readings.{IsUndecided}
use Rattle.fast_fields.proofs.carry.Carry.begin.Goals as goal

pub returns-clause-carried : goal.returns-clause-carried
returns-clause-carried c l p =
    let none = ap length c.clear.ensures.text in
    let most = c.first_missing-self.ensures.most in (
      subst (λ (u : List ℕ). IsUndecided (reader_of l.strict (field_term (bounds l) (field_data c.args.field.now) p true)) u
          (record { bytes = c.first_missing-self.result; stops = true })) (sym c.clear.ensures.text) (c.first_missing-self.ensures.carried l p),
      omega (arith, none, most),
    )
