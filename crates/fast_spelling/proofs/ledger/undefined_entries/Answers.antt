-- One entry more.
use Rattle.std.proofs.Common.{◌≡◌, ◌++◌, ◌∷◌, [], sym, subst}
use Rattle.std.specs.Prelude.{All}
use mathlib.Core.List.{not-mem-nil}
use Rattle.fast_spelling.specs.declared.entry.Entry.{Entry}
use Rattle.fast_spelling.specs.meaning.Entries.{IsShort}
use Rattle.fast_spelling.proofs.bytes.Ledgers.{all_more, one_more_fresh}
use Rattle.fast_spelling.proofs.ledger.undefined_entries.Goals as goal

pub loop-preserved : goal.loop-preserved
loop-preserved c =
    let i = c.loop.invariant in
    let split : c.push.new.self.items ≡ c.loop.entries.items ++ c.new.result ∷ [] = c.in_ok-push.ensures.items in
    record {
      now = rw split (one_more_fresh c.loop.entries.items c.loop.counter c.new.result i.now c.new.ensures.now);
      settled = subst (All (λ (e : Entry). e.epoch ≡ 0)) (sym split)
          (all_more (λ (e : Entry). e.epoch ≡ 0) c.loop.entries.items c.new.result i.settled c.new.ensures.epoch);
      short = λ m. subst (All (IsShort m)) (sym split) (all_more (IsShort m) c.loop.entries.items c.new.result (i.short m) (c.new.ensures.short m));
    }

pub with_capacity-requires : goal.with_capacity-requires
with_capacity-requires c κs = (λ a m. absurd (not-mem-nil m), λ a m. absurd (not-mem-nil m))

pub branch-entries-requires : goal.branch-entries-requires
branch-entries-requires c κs = (λ a m. absurd (not-mem-nil m), λ a m. absurd (not-mem-nil m))

pub from_residual-requires : goal.from_residual-requires
from_residual-requires c κs = (λ a m. absurd (not-mem-nil m), (λ a m. absurd (not-mem-nil m), λ a m. absurd (not-mem-nil m)))

pub push-requires : goal.push-requires
push-requires c κs = (λ a m. absurd (not-mem-nil m), λ a m. absurd (not-mem-nil m))

pub branch-push-requires : goal.branch-push-requires
branch-push-requires c κs = (λ a m. absurd (not-mem-nil m), λ a m. absurd (not-mem-nil m))

pub from_residual-requires-in_err-push : goal.from_residual-requires-in_err-push
from_residual-requires-in_err-push c κs = (λ a m. absurd (not-mem-nil m), (λ a m. absurd (not-mem-nil m), λ a m. absurd (not-mem-nil m)))

pub drop-entries-requires : goal.drop-entries-requires
drop-entries-requires c κs = (λ a m. absurd (not-mem-nil m), λ a m. absurd (not-mem-nil m))
