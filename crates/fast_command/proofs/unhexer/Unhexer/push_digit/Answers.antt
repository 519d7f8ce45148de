use Rattle.fast_command.proofs.Unhexing.{bad_more, first_more, second_more}
use Rattle.fast_command.proofs.unhexer.Unhexer.push_digit.Goals as goal

pub returns-in-Between-clause-at : goal.returns-in-Between-clause-at
returns-in-Between-clause-at c t v h = first_more t v c.args.digit c.requires.0 c.requires.1 (rw c.in-Between.is at h)

pub returns-in-InPair-clause-at : goal.returns-in-InPair-clause-at
returns-in-InPair-clause-at c t v h = second_more t v c.in-InPair.high c.args.digit c.requires.0 c.byte_of.result c.requires.1
    (λ m d. c.byte_of.ensures m c.requires.0 d c.requires.1) (rw c.in-InPair.is at h)

pub returns-in-Bad-clause-at : goal.returns-in-Bad-clause-at
returns-in-Bad-clause-at c t v h = rw c.in-Bad.is (bad_more c.in-Bad.field-0 t v c.args.digit (rw c.in-Bad.is at h))
