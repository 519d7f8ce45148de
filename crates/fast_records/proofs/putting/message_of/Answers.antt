use Rattle.std.proofs.Common.{drop, map}
use Rattle.fast_value.specs.meaning.Views.{message_data}
use Rattle.fast_template.specs.meaning.Flat.{tree_of}
use Rattle.fast_stream.specs.meaning.Handed.{event_data}
use Rattle.fast_records.proofs.Due.{more_behind, some_left}
use mathlib.Core.List.{not-mem-nil}
use Rattle.std.proofs.lemmas.Result.{err_from_is_err_and}
use Rattle.fast_records.proofs.putting.message_of.Goals as goal

pub returns-then-next-given-clause-misplaced : goal.returns-then-next-given-clause-misplaced
returns-then-next-given-clause-misplaced c =
    let given = c.args.given.now in
    let next = c.in_ok-message.next in
    more_behind (tree_of c.args.templates.now) (message_data c.in_ok-message.message) (map event_data given)
    (map event_data (drop next given)) c.in_ok-message.ensures.known c.in_ok-message.ensures.put
    (some_left given next c.if-next-given.true)

pub put_message-requires : goal.put_message-requires
put_message-requires c = tt

pub branch-message-requires : goal.branch-message-requires
branch-message-requires c κs = (λ a m. absurd (not-mem-nil m), λ a m. absurd (not-mem-nil m))

pub from_residual-requires : goal.from_residual-requires
from_residual-requires c κs = (λ a m. absurd (not-mem-nil m), (λ a m. absurd (not-mem-nil m), λ a m. absurd (not-mem-nil m)))

pub returns-in_err-message-clause-ok : goal.returns-in_err-message-clause-ok
returns-in_err-message-clause-ok c = rw ((err_from_is_err_and c.from_residual.result c.from_residual.ensures.1).1) tt

pub returns-in_err-message-clause-known : goal.returns-in_err-message-clause-known
returns-in_err-message-clause-known c = rw ((err_from_is_err_and c.from_residual.result c.from_residual.ensures.1).1) tt

pub drop-message-requires : goal.drop-message-requires
drop-message-requires c κs = (λ a m. absurd (not-mem-nil m), λ a m. absurd (not-mem-nil m))

pub returns-then-next-given-clause-ok : goal.returns-then-next-given-clause-ok
returns-then-next-given-clause-ok c = tt

pub returns-then-next-given-clause-known : goal.returns-then-next-given-clause-known
returns-then-next-given-clause-known c = tt

pub returns-clause-misplaced : goal.returns-clause-misplaced
returns-clause-misplaced c = tt

pub returns-clause-within : goal.returns-clause-within
returns-clause-within c = tt
