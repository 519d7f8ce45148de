use Rattle.std.proofs.Common.{get_or}
use Rattle.std.proofs.lemmas.Bool.Decides.{Decides-eqb}
use Rattle.fast_wire.proofs.numbers.Overlong.{overlong_by_first}
use Rattle.fast_wire.proofs.reads.is_refused_unsigned.Goals as goal

pub returns-then-w-eq0 : goal.returns-then-w-eq0
returns-then-w-eq0 c = (λ t. (t, (overlong_by_first c.args.w.now c.requires).0 c.if-w-eq0.true), λ o. o.0)

pub returns-else-w-eq0 : goal.returns-else-w-eq0
returns-else-w-eq0 c = (
  λ t. absurd (c.if-w-eq0.false ((Decides-eqb (get_or c.args.w.now 0 0) 0).0 t)),
  λ o. absurd (c.if-w-eq0.false ((overlong_by_first c.args.w.now c.requires).1 o.1)),
)
