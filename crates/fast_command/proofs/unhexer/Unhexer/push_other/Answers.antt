use Rattle.fast_command.specs.declared.unhexer.Place.TheVariants.{Between, InPair}
use Rattle.fast_command.proofs.Unhexing.{bad_more, other_more}
use Rattle.fast_command.proofs.unhexer.Unhexer.push_other.Goals as goal

pub returns-in-Between-clause-at : goal.returns-in-Between-clause-at
returns-in-Between-clause-at c t v len h = other_more Between t v c.args.other c.args.self.now.len c.requires len (λ place e. cc) (rw c.in-Between.is at h)

pub returns-in-InPair-clause-at : goal.returns-in-InPair-clause-at
returns-in-InPair-clause-at c t v len h = other_more (InPair c.in-InPair.field-0) t v c.args.other c.args.self.now.len c.requires len
    (λ place e. cc) (rw c.in-InPair.is at h)

pub returns-in-Bad-clause-at : goal.returns-in-Bad-clause-at
returns-in-Bad-clause-at c t v len h = rw c.in-Bad.is (bad_more c.in-Bad.field-0 t v c.args.other (rw c.in-Bad.is at h))
