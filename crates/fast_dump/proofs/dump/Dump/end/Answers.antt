use Rattle.std.proofs.Common.{sym, ◌∙◌}
use Rattle.fast_dump.proofs.Rounds.{stopped_bad, stopped_between, ends_cut, ends_torn}
use Rattle.fast_dump.proofs.dump.Dump.end.Goals as goal

pub returns-in-Some : goal.returns-in-Some
returns-in-Some g c first t l text b es p taken =
    stopped_bad _ _ first t l _ _ _ c.args.self.now c.stop.new.self.page text b es c.in-Some.place c.stop.result p
    (rw c.in-Some.is at (c.bad_end.ensures text b taken)) (c.stop.ensures first t l b es p)

pub returns-then-between : goal.returns-then-between
returns-then-between g c first t l text b es p taken =
    stopped_between _ _ first t l _ ⊥ c.args.self.now c.stop-then-between.new.self.page text b es c.stop-then-between.result p
    (rw c.in_default.is at (c.bad_end.ensures text b taken)) (sym c.between.ensures ∙ c.if-between.true)
    (c.stop-then-between.ensures first t l b es p)

pub returns-in-Ok : goal.returns-in-Ok
returns-in-Ok g c first t l text b es p taken =
    ends_cut _ _ first t l _ ⊥ c.args.self.now c.truncated.new.self text b es c.consumed-consumed.result p
    (rw c.in_default.is at (c.bad_end.ensures text b taken))
    (sym c.between.ensures ∙ c.if-between.false) c.consumed-consumed.ensures c.in-Ok.ensures

pub returns-in-Err : goal.returns-in-Err
returns-in-Err g c first t l text b es p taken =
    ends_torn _ _ first t l _ ⊥ c.args.self.now c.truncated.new.self text b es c.consumed-consumed.result _ p
    (rw c.in_default.is at (c.bad_end.ensures text b taken))
    (sym c.between.ensures ∙ c.if-between.false) c.consumed-consumed.ensures c.in-Err.ensures
