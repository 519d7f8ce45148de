use Rattle.std.proofs.Common.{◌≡◌, ◌<◌, ◌^◌, [], refl, subst, rules}
use Rattle.fast_value.specs.declared.settings.Limits.{Limits}
use Rattle.fast_tree.specs.meaning.Tree.{Tree}
use Rattle.fast_decoder.specs.meaning.Decoding.{tree, account}
use Rattle.fast_callers.specs.declared.stopping.Stopped.{Stopped}
use Rattle.fast_callers.specs.meaning.Callers.{HasStopped, told}
use Rattle.fast_callers.proofs.Counted.{left_at}
use Rattle.fast_callers.proofs.stopping.up_to_fault.Goals as goal

pub returns-clause-stopped : goal.returns-clause-stopped
returns-clause-stopped c =
    let d = c.in_ok-decoder.decoder in
    let new = c.feed.new.self in
    let made = c.in_ok-decoder.ensures.made in
    let w = c.args.stream.now in
    let left : Stopped = record { messages = c.feed.new.sink.messages; bytes = c.consumed.result; fault = c.fault.result; is_between = c.between.result } in
    let same : account new ≡ told left = cc (c.between.ensures, c.fault.ensures, c.consumed.ensures) in
    let small : c.consumed.result < 2 ^ 64 = search rules in
    let stopped = left_at (tree d) d.limits w _ c.feed.new.sink new left refl same refl c.feed.ensures.at_place c.feed.result
    c.feed.ensures.answer (rw (← c.consumed.ensures) small) (c.feed.ensures.followed [] [] made.0) in
    subst (λ (t : Tree). HasStopped t c.args.limits w left) made.1 (subst (λ (l : Limits). HasStopped (tree d) l w left) made.2 stopped)
