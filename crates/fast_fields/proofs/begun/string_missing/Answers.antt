-- A string that is known to go on waits for what is missing of its last unit.
use Rattle.std.proofs.Common.{refl, rules, subst}
use Rattle.std.specs.Prelude.{ℕ, List, ◌++◌}
use Rattle.std.proofs.lemmas.List.{take_rest}
use Rattle.fast_value.specs.meaning.Limits.{bounds}
use Rattle.fast_tree.specs.meaning.Nodes.{field_data}
use Rattle.fast_units.specs.device.Words.{previous_of}
use Rattle.fast_units.proofs.OpenUnits.{ascii_field_open}
use Rattle.fast_fields.specs.device.Readings.{KeepsRun}
use Rattle.fast_fields.proofs.Readings.{begun_undecided}
use Rattle.fast_fields.proofs.begun.string_missing.Goals as goal

pub text_missing-requires : goal.text_missing-requires
text_missing-requires c = record { «open» = c.is_text_front.ensures.«open» c.if-not-is_text_front.false c.args.field.now.optional }

pub returns-then-ne-clause-undecided : goal.returns-then-ne-clause-undecided
returns-then-ne-clause-undecided c =
    let p = previous_of c.args.slots.now c.args.field.now in (
      c.text_missing.ensures.keeps.0,
      λ v none short. ascii_field_open c.args.limits.now.strict (bounds c.args.limits.now) (field_data c.args.field.now) p (c.args.rest.now ++ v)
          (search rules) c.requires.varies (c.text_missing.ensures.keeps.1 v (none refl) short),
    )

pub returns-clause-undecided : goal.returns-clause-undecided
returns-clause-undecided c =
    let l = bounds c.args.limits.now in
    let f = field_data c.args.field.now in
    let p = previous_of c.args.slots.now c.args.field.now in
    let w = c.args.rest.now in
    let begun = c.in_ok-begun.begun in
    begun_undecided c.args.limits.now.strict l f p w begun.stage begun.from c.run_missing.result c.in_ok-begun.ensures.begun
    (subst (λ (u : List ℕ). KeepsRun l f p begun.stage u c.run_missing.result) (take_rest w begun.from) c.run_missing.ensures.keeps)
