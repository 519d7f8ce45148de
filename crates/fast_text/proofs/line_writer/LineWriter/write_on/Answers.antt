use Rattle.std.proofs.Common.{rules, [], ap}
use Rattle.std.proofs.lemmas.Bool.{false≢true}
use Rattle.fast_text.proofs.Writing.{written_on, held_back}
use Rattle.fast_text.proofs.line_writer.LineWriter.write_on.Goals as goal
use Rattle.fast_text.proofs.line_writer.LineWriter.write_on.Goals.{then-is_ok, else-is_ok}

pub invariant_of-self : goal.invariant_of-self
invariant_of-self g c = record { free = λ h. absurd (false≢true h) }

pub returns-clause-written : goal.returns-clause-written
returns-clause-written g c = elim c.if-is_ok.branch [
  | then-is_ok w ↦
      written_on g.T.Target.written g.T.Target.has_failed c.args.self.now _ _ _ _ w.bytes.ensures c.clear.ensures
      (ap (λ s. s.1.0.ghost_name) w.self-is) (ap (λ s. s.1.1.0.ghost_name) w.self-is) (search rules) (ap (λ s. s.1.0.now) w.self-is)
      (ap (λ s. s.1.1.1.0) w.self-is) (search rules) (search rules) (search rules) (search rules)
  | else-is_ok w ↦
      held_back g.T.Target.written g.T.Target.has_failed c.args.self.now _ [] (ap (λ s. s.1.0.ghost_name) w.self-is)
      (ap (λ s. s.1.1.0.ghost_name) w.self-is) (search rules) (ap (λ s. s.1.0.now) w.self-is) (ap (λ s. s.1.1.1.0) w.self-is)
]

pub returns-clause-empty : goal.returns-clause-empty
returns-clause-empty g c = c.clear.ensures
