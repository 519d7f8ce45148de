-- A string or a run of bytes that is cut waits for more.
use Rattle.std.proofs.Common.{subst}
use Rattle.std.specs.Prelude.{◌++◌}
use Rattle.fast_value.specs.meaning.Limits.{bounds}
use Rattle.fast_tree.specs.meaning.Nodes.{field_data}
use Rattle.fast_dict.specs.meaning.Dictionary.{Dictionary, previous_at}
use Rattle.fast_dict.specs.meaning.Slots.{slots_dictionary}
use Rattle.fast_units.specs.device.UnitFronts.{IsBytesStage}
use Rattle.fast_units.proofs.OpenUnits.{bytes_open}
use Rattle.fast_fields.proofs.reading.read_run.Goals as goal

pub returns-in-Cut-clause-reading : goal.returns-in-Cut-clause-reading
returns-in-Cut-clause-reading c =
    let l = c.args.limits.now in
    let f = field_data c.args.field.now in
    let old = slots_dictionary c.args.slots.now in
    let w = c.args.bytes.now in
    let same = c.in-Cut.ensures.unit.1 in (
      (
        c.run_missing.ensures.keeps.0,
        λ v none short. bytes_open l.strict (bounds l) f (previous_at f.entry old) c.args.stage (w ++ v) c.requires.stage
            (subst (λ (d : Dictionary). IsBytesStage (bounds l) f (previous_at f.entry d) c.args.stage (w ++ v)) same
            (c.run_missing.ensures.keeps.1 v none short)),
      ),
      same,
    )
