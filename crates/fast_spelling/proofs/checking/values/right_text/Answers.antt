-- Nothing is asked of the lifetimes of the calls.
use mathlib.Core.List.{not-mem-nil}
use Rattle.fast_spelling.proofs.checking.values.right_text.Goals as goal

pub deref-requires : goal.deref-requires
deref-requires c κs = (λ a m. absurd (not-mem-nil m), λ a m. absurd (not-mem-nil m))

pub deref-requires-in-Unicode : goal.deref-requires-in-Unicode
deref-requires-in-Unicode c κs = (λ a m. absurd (not-mem-nil m), λ a m. absurd (not-mem-nil m))

pub deref-requires-in-Bytes : goal.deref-requires-in-Bytes
deref-requires-in-Bytes c κs = (λ a m. absurd (not-mem-nil m), λ a m. absurd (not-mem-nil m))
