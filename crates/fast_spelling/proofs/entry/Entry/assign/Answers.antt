-- Nothing is asked of the lifetimes of the calls.
use mathlib.Core.List.{not-mem-nil}
use Rattle.fast_spelling.proofs.entry.Entry.assign.Goals as goal

pub branch-write_over-requires : goal.branch-write_over-requires
branch-write_over-requires c κs = (λ a m. absurd (not-mem-nil m), λ a m. absurd (not-mem-nil m))

pub from_residual-requires : goal.from_residual-requires
from_residual-requires c κs = (λ a m. absurd (not-mem-nil m), (λ a m. absurd (not-mem-nil m), λ a m. absurd (not-mem-nil m)))

pub branch-write_over-requires-in-Unicode : goal.branch-write_over-requires-in-Unicode
branch-write_over-requires-in-Unicode c κs = (λ a m. absurd (not-mem-nil m), λ a m. absurd (not-mem-nil m))

pub from_residual-requires-in_err-write_over-in-Unicode : goal.from_residual-requires-in_err-write_over-in-Unicode
from_residual-requires-in_err-write_over-in-Unicode c κs = (λ a m. absurd (not-mem-nil m), (λ a m. absurd (not-mem-nil m), λ a m. absurd (not-mem-nil m)))

pub branch-write_over-requires-in-Bytes : goal.branch-write_over-requires-in-Bytes
branch-write_over-requires-in-Bytes c κs = (λ a m. absurd (not-mem-nil m), λ a m. absurd (not-mem-nil m))

pub from_residual-requires-in_err-write_over-in-Bytes : goal.from_residual-requires-in_err-write_over-in-Bytes
from_residual-requires-in_err-write_over-in-Bytes c κs = (λ a m. absurd (not-mem-nil m), (λ a m. absurd (not-mem-nil m), λ a m. absurd (not-mem-nil m)))
