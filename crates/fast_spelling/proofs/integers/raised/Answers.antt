-- Where NULL may be, 0 stands for it.
use Rattle.std.proofs.Common.{◌+◌, refl, ap, sym, subst, arith}
use Rattle.std.specs.Prelude.{Bool, pos, Some}
use Rattle.fast_wire.specs.meaning.Integers.{Means}
use Rattle.fast_spelling.proofs.integers.raised.Goals as goal

pub returns-then-nullable-clause-meaning : goal.returns-then-nullable-clause-meaning
returns-then-nullable-clause-meaning c = subst (λ (b : Bool). Means b (pos (c.args.number + 1)) (Some (pos c.args.number)))
    (sym c.if-nullable.true) (ap pos (omega arith))

pub returns-clause-meaning : goal.returns-clause-meaning
returns-clause-meaning c = subst (λ (b : Bool). Means b (pos c.args.number) (Some (pos c.args.number))) (sym c.if-nullable.false) refl
