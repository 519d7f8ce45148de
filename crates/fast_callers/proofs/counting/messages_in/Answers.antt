use Rattle.std.proofs.Common.{refl, subst, ◌<◌, ◌^◌, rules}
use Rattle.std.proofs.lemmas.Result.{err_from_is_err_and}
use Rattle.fast_value.specs.declared.settings.Limits.{Limits}
use Rattle.fast_tree.specs.meaning.Tree.{Tree}
use Rattle.fast_stream.specs.declared.faults.MakeError.TheVariants.{BadLimits, InitialTooLong}
use Rattle.fast_decoder.specs.meaning.Decoding.{tree}
use Rattle.fast_decoder.specs.meaning.Feeding.{all_bytes}
use Rattle.fast_callers.specs.meaning.Callers.{HasMessages, IsStopped}
use Rattle.fast_callers.proofs.Counted.{messages_by, not_counted}
use Rattle.fast_callers.proofs.Made.{made_by, made_none, good_is_none, fault_is_none}
use Rattle.fast_callers.proofs.counting.messages_in.Goals as goal

pub returns-clause-counted : goal.returns-clause-counted
returns-clause-counted c =
    let d = c.in_ok-decoder.decoder in
    let made = c.in_ok-decoder.ensures.made in
    let w = all_bytes c.args.pieces.now in
    let n = c.feed_all.new.sink.messages in
    let counted = messages_by (tree d) d.limits w _ c.feed_all.new.sink c.in_ok-feed_all.field-0 c.feed_all.new.self refl
    c.in_ok-feed_all.ensures.answer (c.in_ok-feed_all.ensures.from_start made.0) in
    subst (λ (t : Tree). HasMessages t c.args.limits w n) made.1 (subst (λ (l : Limits). HasMessages (tree d) l w n) made.2 counted)

pub returns-clause-refused : goal.returns-clause-refused
returns-clause-refused c = tt

pub returns-clause-bad_limits : goal.returns-clause-bad_limits
returns-clause-bad_limits c = made_none c.in_ok-decoder.decoder _ BadLimits (good_is_none _ BadLimits) c.in_ok-decoder.ensures.bad_limits

pub returns-clause-long_value : goal.returns-clause-long_value
returns-clause-long_value c = made_none c.in_ok-decoder.decoder _ InitialTooLong (good_is_none _ InitialTooLong) c.in_ok-decoder.ensures.long_initial

-- no decoder is made
pub returns-in_err-decoder-clause-counted : goal.returns-in_err-decoder-clause-counted
returns-in_err-decoder-clause-counted c = let p = err_from_is_err_and c.from_residual.result c.from_residual.ensures.1 in rw (p.1) tt

pub returns-in_err-decoder-clause-refused : goal.returns-in_err-decoder-clause-refused
returns-in_err-decoder-clause-refused c = let p = err_from_is_err_and c.from_residual.result c.from_residual.ensures.1 in rw (p.1, p.2) tt

pub returns-in_err-decoder-clause-bad_limits : goal.returns-in_err-decoder-clause-bad_limits
returns-in_err-decoder-clause-bad_limits c = let p = err_from_is_err_and c.from_residual.result c.from_residual.ensures.1 in
    made_by _ c.in_err-decoder.field-0.0 BadLimits (rw (← p.2) p.1) c.in_err-decoder.ensures.bad_limits

pub returns-in_err-decoder-clause-long_value : goal.returns-in_err-decoder-clause-long_value
returns-in_err-decoder-clause-long_value c = let p = err_from_is_err_and c.from_residual.result c.from_residual.ensures.1 in
    made_by _ c.in_err-decoder.field-0.0 InitialTooLong (rw (← p.2) p.1) c.in_err-decoder.ensures.long_initial

-- the stream is at fault
pub returns-in_err-feed_all-clause-counted : goal.returns-in_err-feed_all-clause-counted
returns-in_err-feed_all-clause-counted c = let p = err_from_is_err_and c.from_residual-in_err-feed_all.result
    c.from_residual-in_err-feed_all.ensures.1 in rw (p.1) tt

pub returns-in_err-feed_all-clause-refused : goal.returns-in_err-feed_all-clause-refused
returns-in_err-feed_all-clause-refused c =
    let p = err_from_is_err_and c.from_residual-in_err-feed_all.result c.from_residual-in_err-feed_all.ensures.1 in
    let d = c.in_ok-decoder.decoder in
    let f = c.in_err-feed_all.field-0.0 in
    let made = c.in_ok-decoder.ensures.made in
    let w = all_bytes c.args.pieces.now in
    let small : f.place < 2 ^ 64 = search rules in
    let stopped = not_counted (tree d) d.limits w _ c.feed_all.new.sink f c.feed_all.new.self refl small c.in_err-feed_all.ensures.answer
    (c.in_err-feed_all.ensures.from_start made.0) in
    rw (p.1, p.2) (subst (λ (t : Tree). IsStopped t c.args.limits w f.code f.place) made.1
    (subst (λ (l : Limits). IsStopped (tree d) l w f.code f.place) made.2 stopped))

pub returns-in_err-feed_all-clause-bad_limits : goal.returns-in_err-feed_all-clause-bad_limits
returns-in_err-feed_all-clause-bad_limits c =
    let p = err_from_is_err_and c.from_residual-in_err-feed_all.result c.from_residual-in_err-feed_all.ensures.1 in
    made_none c.in_ok-decoder.decoder _ BadLimits (fault_is_none _ c.in_err-feed_all.field-0.0 BadLimits (rw (← p.2) p.1)) c.in_ok-decoder.ensures.bad_limits

pub returns-in_err-feed_all-clause-long_value : goal.returns-in_err-feed_all-clause-long_value
returns-in_err-feed_all-clause-long_value c =
    let p = err_from_is_err_and c.from_residual-in_err-feed_all.result c.from_residual-in_err-feed_all.ensures.1 in
    made_none c.in_ok-decoder.decoder _ InitialTooLong (fault_is_none _ c.in_err-feed_all.field-0.0 InitialTooLong (rw (← p.2) p.1))
    c.in_ok-decoder.ensures.long_initial
