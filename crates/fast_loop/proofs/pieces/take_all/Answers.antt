-- All of the piece is kept in hand, or its units are taken.
use Rattle.std.proofs.Common.{sym, ap, ◌∙◌, arith, subst}
use Rattle.std.specs.Prelude.{◌≡◌, ◌≤◌, ◌*◌, ◌+◌, take}
use Rattle.fast_machine.specs.declared.machine.Machine.{Machine}
use Rattle.fast_machine.specs.device.Handing.{Fed, waiting_at}
use Rattle.fast_machine.specs.device.Positions.{set_of, tree_in, meaning}
use Rattle.fast_machine.specs.device.TurnsLeft.{most_by, HasTurnsWaiting}
use Rattle.fast_loop.proofs.steps.Kept.{IsKeptOf, kept_fed, kept_within, kept_ready, kept_turns}
use Rattle.fast_loop.proofs.pieces.take_all.Goals as goal

pub returns-then-kept-gt0 : goal.returns-then-kept-gt0
returns-then-kept-gt0 g c =
    let set = set_of c.args.templates.now in
    let l = c.args.limits.now in
    let m = c.args.machine.now in
    let piece = c.args.piece.now in
    let a = c.gather-kept.new.self in
    let k = c.gather-kept.result in
    let kept : IsKeptOf set l m a piece k = record { kept = c.gather-kept.ensures.kept; none = c.gather-kept.ensures.none } in
    let (size, got) = kept.kept c.if-kept-gt0.true in
    let ready = kept_ready set l m a piece k kept c.requires.ready in
    let same : a.turns.count ≡ m.turns.count = ap (λ (x : Machine). x.turns.count) got.same in
    record {
      within = kept_within set l m a piece k kept;
      all = λ ok. size;
      fed = kept_fed g.S.Sink.takes g.S.Sink.stops set l m a piece k c.args.sink.now kept;
      ready = ready;
      supplied = ready.supplied;
      turns = λ way none h. (
        subst (λ t. t ≤ k * (1 + most_by way (tree_in set) l)) (sym (same ∙ none)) (omega arith),
        (most_by way (tree_in set) l, kept_turns set l m a piece k kept way (most_by way (tree_in set) l) h),
      );
    }

pub returns : goal.returns
returns g c =
    let set = set_of c.args.templates.now in
    let l = c.args.limits.now in
    let b = c.gather-kept.new.self in
    let none = c.if-kept-gt0.false in
    let same : b ≡ c.args.machine.now = c.gather-kept.ensures.none (omega (arith, none)) in
    let units = c.take_units in
    record {
      within = units.ensures.within;
      all = units.ensures.all;
      fed = subst (λ (x : Machine). Fed g.S.Sink.takes g.S.Sink.stops (tree_in set) l (waiting_at (meaning set l x))
          (take units.result.bytes c.args.piece.now) c.args.sink.now units.result.outcome units.new.sink
          (waiting_at (meaning set l units.new.machine))) same
          units.ensures.fed;
      ready = units.ensures.ready;
      supplied = units.ensures.supplied;
      turns = λ way none h. units.ensures.turns way (subst (λ (x : Machine). x.turns.count ≡ 0) (sym same) none)
          (subst (λ (x : Machine). HasTurnsWaiting way set l (most_by way (tree_in set) l) x) (sym same) h);
    }
