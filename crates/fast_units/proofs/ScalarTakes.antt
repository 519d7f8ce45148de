-- Units of fields, from the functions that take them to those that choose between them.
use Rattle.std.proofs.Common.{sym, subst}
use Rattle.std.specs.Prelude.{◌≡◌, ℕ, List}
use Rattle.fast_value.specs.declared.settings.Limits.{Limits}
use Rattle.fast_tree.specs.meaning.Tree.{FieldData}
use Rattle.fast_dict.specs.meaning.Dictionary.{Dictionary}
use Rattle.fast_dict.specs.meaning.Operators.{Outcome}
use Rattle.fast_stream.specs.device.Readers.{Reader}
use Rattle.fast_units.specs.device.Settling.{IsLastUnit}
use Rattle.fast_units.specs.device.Stages.{IsFieldUnit}
use Rattle.fast_units.specs.device.UnitFronts.{settled}
use Rattle.fast_units.specs.declared.source.ValueSource.{ValueSource}
use Rattle.fast_units.specs.declared.stages.FieldStep.{FieldStep}
use Rattle.fast_units.specs.declared.progress.Progress.{Progress}
use Rattle.fast_units.specs.declared.progress.Progress.TheVariants.{Whole, Wrong, Cut}

-- A unit that was the last one of its field.
module _ (l : Limits) (r : Reader Outcome) (f : FieldData) (rest : List ℕ) (old new : Dictionary) (scratch : List ℕ) where
  by_last : (p : Progress ValueSource) → IsLastUnit r f rest old new scratch p → IsFieldUnit l r f rest old new scratch (settled p)
  by_last (Whole source n) h = h
  by_last (Wrong c n) h = h
  by_last Cut h = h

  pub unit_settled : (p : Progress ValueSource) (q : Progress FieldStep) → q ≡ settled p → IsLastUnit r f rest old new scratch p
      → IsFieldUnit l r f rest old new scratch q
  unit_settled p q e h = subst (λ x. IsFieldUnit l r f rest old new scratch x) (sym e) (by_last p h)
