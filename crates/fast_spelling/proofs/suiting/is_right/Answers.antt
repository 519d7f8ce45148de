-- Nothing is asked of the lifetimes of the calls.
use mathlib.Core.List.{not-mem-nil}
use Rattle.fast_spelling.proofs.suiting.is_right.Goals as goal

pub deref-requires : goal.deref-requires
deref-requires c κs = (λ a m. absurd (not-mem-nil m), λ a m. absurd (not-mem-nil m))

pub deref-requires-then-matches-2 : goal.deref-requires-then-matches-2
deref-requires-then-matches-2 c κs = (λ a m. absurd (not-mem-nil m), λ a m. absurd (not-mem-nil m))
