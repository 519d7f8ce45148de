-- A string that is cut waits for more characters.
use Rattle.std.proofs.Common.{refl}
use Rattle.fast_value.specs.meaning.Limits.{bounds}
use Rattle.fast_tree.specs.meaning.Nodes.{field_data}
use Rattle.fast_dict.specs.meaning.Dictionary.{previous_at}
use Rattle.fast_dict.specs.meaning.Slots.{slots_dictionary}
use Rattle.std.specs.Prelude.{◌++◌}
use Rattle.fast_units.proofs.OpenUnits.{ascii_field_open}
use Rattle.fast_fields.proofs.reading.read_text.Goals as goal

pub returns-in-Cut-clause-reading : goal.returns-in-Cut-clause-reading
returns-in-Cut-clause-reading c =
    let l = c.args.limits.now in
    let f = field_data c.args.field.now in
    let p = previous_at f.entry (slots_dictionary c.args.slots.now) in (
      (
        c.text_missing.ensures.keeps.0,
        λ v none short. ascii_field_open l.strict (bounds l) f p (c.args.bytes.now ++ v) c.requires.text c.requires.varies
            (c.text_missing.ensures.keeps.1 v (none refl) short),
      ),
      c.in-Cut.ensures.unit.1,
    )
