use Rattle.std.proofs.Common.{◌≡◌, drop}
use Rattle.toml.specs.View.{items_view}
use Rattle.fast_notation.specs.device.Reading.{are_tables}
use Rattle.fast_notation.proofs.documents.are_tables.Given as goal

abbrev pub invariant-loop-item : goal.invariant-loop-item
invariant-loop-item l = are_tables (items_view (drop l.item-index l.items)) ≡ are_tables (items_view l.items)
