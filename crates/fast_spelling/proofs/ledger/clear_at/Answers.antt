-- One entry is changed.
use Rattle.std.proofs.Common.{◌∙◌, ap, sym}
use Rattle.std.proofs.lemmas.List.{map-set}
use Rattle.std.specs.Prelude.{slice_set}
use Rattle.fast_spelling.specs.meaning.Entries.{entry_now, entry_before}
use Rattle.fast_spelling.specs.meaning.Ledgers.{all_now}
use Rattle.fast_spelling.proofs.bytes.Ledgers.{same_at}
use Rattle.fast_spelling.proofs.ledger.clear_at.Goals as goal

pub returns-clause-now : goal.returns-clause-now
returns-clause-now c = map-set entry_now c.args.entries.now.items c.args.entry c.clear.new.self
    ∙ ap (slice_set (all_now c.args.entries.now.items) c.args.entry) c.clear.ensures.now

pub returns-clause-before : goal.returns-clause-before
returns-clause-before c = same_at (entry_before c.args.epoch) c.args.entries.now.items c.args.entry c.index_mut-slot.result.now
    c.clear.new.self c.index_mut-slot.ensures.value
    (c.clear.ensures.before c.args.epoch (sym c.touch.ensures.epoch) ∙ c.touch.ensures.before)
