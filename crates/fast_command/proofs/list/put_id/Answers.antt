use Rattle.std.proofs.Common.{ap, sym, ◌∙◌}
use Rattle.std.specs.Prelude.{decimal}
use Rattle.fast_text.proofs.Writing.{writes_same}
use Rattle.fast_command.specs.meaning.Listing.{id_words}
use Rattle.fast_command.proofs.list.put_id.Goals as goal

pub returns-in-Some : goal.returns-in-Some
returns-in-Some g c = writes_same (ap decimal c.from.ensures ∙ ap id_words (sym c.in-Some.is)) c.put_unsigned.ensures

pub returns-in-None : goal.returns-in-None
returns-in-None g c = writes_same (ap id_words (sym c.in-None.is)) c.put.ensures
