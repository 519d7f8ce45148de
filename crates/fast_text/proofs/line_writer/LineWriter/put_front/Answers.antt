use Rattle.fast_text.proofs.Writing.{writes_both}
use Rattle.fast_text.proofs.line_writer.LineWriter.put_front.Goals as goal

pub returns : goal.returns
returns g c = writes_both (c.put_at_once.ensures.not c.if-put_at_once.false) c.put_behind.ensures

pub put_at_once-requires : goal.put_at_once-requires
put_at_once-requires g c = c.requires

pub returns-then-put_at_once : goal.returns-then-put_at_once
returns-then-put_at_once g c = c.put_at_once.ensures.put c.if-put_at_once.true

pub put_behind-requires : goal.put_behind-requires
put_behind-requires g c = c.requires
