use Rattle.std.proofs.Common.{◌∙◌, ap}
use Rattle.fast_messages.specs.meaning.Reading.{closed}
use Rattle.fast_messages.proofs.texts.Closed.{closed_first, closed_last}
use Rattle.fast_messages.proofs.texts.Utf8Lines.{utf8_parts}
use Rattle.fast_messages.proofs.cursors.first_line.Goals as goal

pub returns-in-Some-clause-parts : goal.returns-in-Some-clause-parts
returns-in-Some-clause-parts c = ap closed c.in-Some.ensures.parts ∙ closed_first c.in-Some.line.now c.in-Some.rest.now

pub returns-in-None-clause-parts : goal.returns-in-None-clause-parts
returns-in-None-clause-parts c = rw (c.as_slice.ensures) (closed_last c.args.text.now c.requires c.in-None.ensures.none)

pub returns-in-Some-clause-utf8 : goal.returns-in-Some-clause-utf8
returns-in-Some-clause-utf8 c = utf8_parts c.args.text.now c.in-Some.line.now c.in-Some.rest.now c.in-Some.ensures.parts
