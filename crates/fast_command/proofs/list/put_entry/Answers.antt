use Rattle.std.proofs.Common.{ap, sym, ◌∙◌}
use Rattle.std.specs.Prelude.{decimal}
use Rattle.fast_text.proofs.Writing.{writes_both, writes_same}
use Rattle.fast_command.specs.meaning.Listing.{entry_words}
use Rattle.fast_command.proofs.list.put_entry.Goals as goal

pub returns-in-Some : goal.returns-in-Some
returns-in-Some g c =
    let number = writes_same (ap decimal c.from.ensures) c.put_unsigned.ensures in
    writes_same (ap entry_words (sym c.in-Some.is)) (writes_both c.put.ensures number)
