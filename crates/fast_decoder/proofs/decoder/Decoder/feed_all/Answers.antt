use Rattle.std.proofs.Common.{◌≡◌, ℕ, ◌+◌, List, [], get_or, take, drop, refl, ap, subst, arith}
use Rattle.std.proofs.lemmas.List.{take_all}
use Rattle.std.proofs.lemmas.Result.{err_from_is_err_and}
use Rattle.std.specs.Borrow.{Bor}
use Rattle.fast_decoder.specs.meaning.Feeding.{all_bytes}
use Rattle.fast_decoder.proofs.streams.Following.{SoFar, carries_none, consumed_within, so_far_on}
use Rattle.fast_decoder.proofs.streams.Following.{so_far_follows, ended_follows, pieces_more, pieces_split}
use Rattle.fast_decoder.proofs.decoder.Decoder.feed_all.Goals as goal

-- what stands for a piece that is not there
abbrev no_piece : Bor (List ℕ)
no_piece = record { ref_ptr = (0, 0); now = [] }

pub returns-in_err-feed-clause-followed : goal.returns-in_err-feed-clause-followed
returns-in_err-feed-clause-followed g c =
    let r = err_from_is_err_and c.from_residual.result c.from_residual.ensures.1 in
    rw (r.1, r.2) (ended_follows g.S.Sink.takes g.S.Sink.stops c.args.self.now c.args.self.now c.feed.new.self [] []
    (all_bytes c.args.pieces.now) (all_bytes c.args.pieces.now) c.args.sink.now c.args.sink.now c.feed.new.sink c.in_err-feed.field-0.0
    _ refl refl
    c.in_err-feed.ensures.answer refl refl (carries_none g.S.Sink.takes g.S.Sink.stops c.args.self.now c.args.sink.now) c.in_err-feed.ensures.followed)

pub returns-in_err-feed-clause-from_start : goal.returns-in_err-feed-clause-from_start
returns-in_err-feed-clause-from_start g c = returns-in_err-feed-clause-followed g c [] []

pub returns-in_err-feed-2-clause-followed : goal.returns-in_err-feed-2-clause-followed
returns-in_err-feed-2-clause-followed g c =
    let r = err_from_is_err_and c.from_residual-in_err-feed-2.result c.from_residual-in_err-feed-2.ensures.1 in
    let i : ℕ = c.loop-piece.piece-index in
    let so_far = c.loop-piece.invariant in
    rw (r.1, r.2) (ended_follows g.S.Sink.takes g.S.Sink.stops c.args.self.now c.loop-piece.self c.feed-in-loop-piece.new.self
    (all_bytes (take i c.args.pieces.now)) (get_or c.args.pieces.now i no_piece).now (all_bytes (drop (i + 1) c.args.pieces.now))
    (all_bytes c.args.pieces.now)
    c.args.sink.now c.loop-piece.sink c.feed-in-loop-piece.new.sink c.in_err-feed-2.field-0.0 _
    (pieces_split c.args.pieces.now i no_piece c.loop-piece-test.true) refl
    c.in_err-feed-2.ensures.answer so_far.same_tree so_far.same_limits so_far.carried c.in_err-feed-2.ensures.followed)

pub returns-in_err-feed-2-clause-from_start : goal.returns-in_err-feed-2-clause-from_start
returns-in_err-feed-2-clause-from_start g c = returns-in_err-feed-2-clause-followed g c [] []

pub returns-in_err-feed-2-clause-consumed : goal.returns-in_err-feed-2-clause-consumed
returns-in_err-feed-2-clause-consumed g c =
    let i : ℕ = c.loop-piece.piece-index in
    consumed_within c.args.self.now c.loop-piece.self c.feed-in-loop-piece.new.self (all_bytes (take i c.args.pieces.now))
    (get_or c.args.pieces.now i no_piece).now (all_bytes (drop (i + 1) c.args.pieces.now)) (all_bytes c.args.pieces.now)
    (pieces_split c.args.pieces.now i no_piece c.loop-piece-test.true) c.loop-piece.invariant.consumed c.in_err-feed-2.ensures.consumed

pub loop-piece-preserved : goal.loop-piece-preserved
loop-piece-preserved g c =
    let i : ℕ = c.loop-piece.piece-index in
    let on = c.in_ok-feed-2.ensures in
    subst (λ (v : List ℕ). SoFar g.S.Sink.takes c.args.self.now v c.args.sink.now c.feed-in-loop-piece.new.self
    c.feed-in-loop-piece.new.sink) (pieces_more c.args.pieces.now i no_piece c.loop-piece-test.true)
    (so_far_on g.S.Sink.takes g.S.Sink.stops c.args.self.now c.loop-piece.self c.feed-in-loop-piece.new.self
    (all_bytes (take i c.args.pieces.now)) (get_or c.args.pieces.now i no_piece).now c.args.sink.now c.loop-piece.sink
    c.feed-in-loop-piece.new.sink tt c.loop-piece.invariant on.answer on.same_set on.bounded on.consumed on.carried)

pub returns-clause-followed : goal.returns-clause-followed
returns-clause-followed g c =
    let whole : all_bytes (take c.loop-piece.piece-index c.args.pieces.now) ≡ all_bytes c.args.pieces.now =
    ap (λ (ps : List (Bor (List ℕ))). all_bytes ps) (take_all c.loop-piece.piece-index c.args.pieces.now
    (let all = c.loop-piece-test.false in omega arith)) in
    so_far_follows g.S.Sink.takes g.S.Sink.stops c.args.self.now c.loop-piece.self
    (all_bytes (take c.loop-piece.piece-index c.args.pieces.now))
    (all_bytes c.args.pieces.now) c.args.sink.now c.loop-piece.sink c.loop-piece.invariant whole

pub returns-clause-from_start : goal.returns-clause-from_start
returns-clause-from_start g c = returns-clause-followed g c [] []
