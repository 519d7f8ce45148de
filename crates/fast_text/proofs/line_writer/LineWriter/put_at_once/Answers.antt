use Rattle.std.proofs.Common.{refl, ap, take}
use Rattle.std.specs.Prelude.{Ok, is_ok}
use Rattle.fast_text.proofs.Writing.{written_directly}
use Rattle.std.proofs.Common.{append-nil, sym, []}
use Rattle.std.proofs.lemmas.Bool.{false≢true}
use Rattle.fast_text.proofs.Writing.{put_kept, writes_none}
use Rattle.fast_text.proofs.line_writer.LineWriter.put_at_once.Goals as goal

pub returns-then-self-clause-put : goal.returns-then-self-clause-put
returns-then-self-clause-put g c = λ t.
    let free = c.args.self.now.free c.if-self.true in
    written_directly g.T.Target.written g.T.Target.has_failed _ _ (take c.args.count c.args.block.now) (Ok tt) free.0 free.0 refl refl
    (ap is_ok free.1) free.1 (c.keep.ensures.kept t) tt tt c.keep.ensures.stays

pub keep-requires : goal.keep-requires
keep-requires g c = c.requires

pub invariant_of-self : goal.invariant_of-self
invariant_of-self g c = record { free = c.args.self.now.free }

pub returns-then-self-clause-not : goal.returns-then-self-clause-not
returns-then-self-clause-not g c = λ e. put_kept g.T.Target.written g.T.Target.has_failed c.args.self.now _ [] refl refl
    (sym (append-nil _)) (c.keep.ensures.unchanged e) refl

pub returns-else-self-clause-put : goal.returns-else-self-clause-put
returns-else-self-clause-put g c = λ h. absurd (false≢true h)

pub returns-else-self-clause-not : goal.returns-else-self-clause-not
returns-else-self-clause-not g c = λ e. writes_none _ _ _
