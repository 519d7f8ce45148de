use Rattle.std.proofs.Common.{refl, subst, []}
use Rattle.std.proofs.lemmas.Result.{err_from_is_err_and}
use Rattle.fast_value.specs.declared.settings.Limits.{Limits}
use Rattle.fast_tree.specs.meaning.Tree.{Tree}
use Rattle.fast_stream.specs.declared.faults.MakeError.TheVariants.{BadLimits, InitialTooLong}
use Rattle.fast_decoder.specs.meaning.Decoding.{tree}
use Rattle.fast_callers.specs.meaning.Callers.{HasLastPrice, IsStopped}
use Rattle.fast_callers.proofs.Priced.{price_by, not_read}
use Rattle.fast_callers.proofs.Made.{made_by, made_none, good_is_none, fault_is_none}
use Rattle.fast_callers.proofs.prices.last_price.Goals as goal

pub returns-clause-found : goal.returns-clause-found
returns-clause-found c =
    let d = c.in_ok-decoder.decoder in
    let made = c.in_ok-decoder.ensures.made in
    let w = c.args.stream.now in
    let q = c.args.symbol.now in
    let p = c.feed.new.sink.price in
    let priced = price_by (tree d) d.limits c.args.columns q w _ c.feed.new.sink c.in_ok-feed.field-0 c.feed.new.self refl refl refl refl
    c.in_ok-feed.ensures.answer (c.in_ok-feed.ensures.followed [] [] made.0) in
    subst (λ (t : Tree). HasLastPrice t c.args.limits c.args.columns q w p) made.1
    (subst (λ (l : Limits). HasLastPrice (tree d) l c.args.columns q w p) made.2 priced)

pub returns-clause-refused : goal.returns-clause-refused
returns-clause-refused c = tt

pub returns-clause-bad_limits : goal.returns-clause-bad_limits
returns-clause-bad_limits c = made_none c.in_ok-decoder.decoder _ BadLimits (good_is_none _ BadLimits) c.in_ok-decoder.ensures.bad_limits

pub returns-clause-long_value : goal.returns-clause-long_value
returns-clause-long_value c = made_none c.in_ok-decoder.decoder _ InitialTooLong (good_is_none _ InitialTooLong) c.in_ok-decoder.ensures.long_initial

-- no decoder is made
pub returns-in_err-decoder-clause-found : goal.returns-in_err-decoder-clause-found
returns-in_err-decoder-clause-found c = let p = err_from_is_err_and c.from_residual.result c.from_residual.ensures.1 in rw (p.1) tt

pub returns-in_err-decoder-clause-refused : goal.returns-in_err-decoder-clause-refused
returns-in_err-decoder-clause-refused c = let p = err_from_is_err_and c.from_residual.result c.from_residual.ensures.1 in rw (p.1, p.2) tt

pub returns-in_err-decoder-clause-bad_limits : goal.returns-in_err-decoder-clause-bad_limits
returns-in_err-decoder-clause-bad_limits c = let p = err_from_is_err_and c.from_residual.result c.from_residual.ensures.1 in
    made_by _ c.in_err-decoder.field-0.0 BadLimits (rw (← p.2) p.1) c.in_err-decoder.ensures.bad_limits

pub returns-in_err-decoder-clause-long_value : goal.returns-in_err-decoder-clause-long_value
returns-in_err-decoder-clause-long_value c = let p = err_from_is_err_and c.from_residual.result c.from_residual.ensures.1 in
    made_by _ c.in_err-decoder.field-0.0 InitialTooLong (rw (← p.2) p.1) c.in_err-decoder.ensures.long_initial

-- the stream is at fault
pub returns-in_err-feed-clause-found : goal.returns-in_err-feed-clause-found
returns-in_err-feed-clause-found c = let p = err_from_is_err_and c.from_residual-in_err-feed.result c.from_residual-in_err-feed.ensures.1 in rw (p.1) tt

pub returns-in_err-feed-clause-refused : goal.returns-in_err-feed-clause-refused
returns-in_err-feed-clause-refused c =
    let p = err_from_is_err_and c.from_residual-in_err-feed.result c.from_residual-in_err-feed.ensures.1 in
    let d = c.in_ok-decoder.decoder in
    let f = c.in_err-feed.field-0.0 in
    let made = c.in_ok-decoder.ensures.made in
    let w = c.args.stream.now in
    let stopped = not_read (tree d) d.limits w _ c.feed.new.sink f c.feed.new.self c.in_err-feed.ensures.answer (c.in_err-feed.ensures.followed [] [] made.0) in
    rw (p.1, p.2) (subst (λ (t : Tree). IsStopped t c.args.limits w f.code f.place) made.1
    (subst (λ (l : Limits). IsStopped (tree d) l w f.code f.place) made.2 stopped))

pub returns-in_err-feed-clause-bad_limits : goal.returns-in_err-feed-clause-bad_limits
returns-in_err-feed-clause-bad_limits c =
    let p = err_from_is_err_and c.from_residual-in_err-feed.result c.from_residual-in_err-feed.ensures.1 in
    made_none c.in_ok-decoder.decoder _ BadLimits (fault_is_none _ c.in_err-feed.field-0.0 BadLimits (rw (← p.2) p.1)) c.in_ok-decoder.ensures.bad_limits

pub returns-in_err-feed-clause-long_value : goal.returns-in_err-feed-clause-long_value
returns-in_err-feed-clause-long_value c =
    let p = err_from_is_err_and c.from_residual-in_err-feed.result c.from_residual-in_err-feed.ensures.1 in
    made_none c.in_ok-decoder.decoder _ InitialTooLong (fault_is_none _ c.in_err-feed.field-0.0 InitialTooLong (rw (← p.2) p.1))
    c.in_ok-decoder.ensures.long_initial
