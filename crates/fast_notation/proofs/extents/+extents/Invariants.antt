use Rattle.std.proofs.Common.{◌≡◌, drop}
use Rattle.std.specs.HashMap.{get_by_text}
use Rattle.fast_notation.specs.device.Extents.{nothing, named_extent, extent_by}
use Rattle.fast_notation.specs.device.WrittenSets.{fields_data}
use Rattle.fast_notation.proofs.extents.+extents.Given as goal

abbrev pub invariant-extent_of_fields-loop-field : goal.invariant-extent_of_fields-loop-field
invariant-extent_of_fields-loop-field l =
    extent_by (named_extent (get_by_text l.names) l.extents) (fields_data (drop l.field-index l.fields)) l.total ≡ extent_by
    (named_extent (get_by_text l.names) l.extents) (fields_data l.fields) nothing
