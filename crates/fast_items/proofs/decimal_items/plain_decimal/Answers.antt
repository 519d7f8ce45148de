-- It is kept nowhere.
use Rattle.std.proofs.Common.{refl, inl, Option}
use Rattle.std.specs.Prelude.{IfSome, Some, None}
use Rattle.fast_wire.specs.meaning.Integers.{exponent_range}
use Rattle.fast_value.specs.declared.codes.Code.TheVariants.{R1}
use Rattle.fast_value.specs.declared.kinds.Kind.TheVariants.{Decimal}
use Rattle.fast_tree.specs.declared.operators.Operator.TheVariants as Op
use Rattle.fast_dict.specs.meaning.Slots.{slots_dictionary}
use Rattle.fast_stream.specs.meaning.Grammar.{integer}
use Rattle.fast_stream.specs.meaning.Fields.{decimal_from}
use Rattle.fast_stream.specs.device.GrammarReaders.{reader_of}
use Rattle.fast_units.specs.device.Taking.{IsUnit}
use Rattle.fast_units.specs.device.Deciding.{sent_number}
use Rattle.fast_items.specs.device.FieldsAs.{IsSentItem}
use Rattle.fast_units.specs.declared.progress.Progress.TheVariants.{Whole}
use Rattle.fast_items.specs.declared.taken.TakenItem.{TakenItem}
use Rattle.fast_items.proofs.DecimalItems.{plain_unit}
use Rattle.fast_items.proofs.decimal_items.plain_decimal.Goals as goal

pub returns : goal.returns
returns c = by c.whole_decimal.result c.whole_decimal.ensures
  where
    by : (o : Option TakenItem) → IfSome o (λ r. IsUnit (reader_of c.args.strict (integer exponent_range c.args.optional R1 decimal_from))
        sent_number c.args.rest.bytes.now (Whole r.item r.bytes))
        → IfSome o (IsSentItem Decimal c.args.optional Op.None c.args.entry c.args.strict c.args.rest.bytes.now c.args.slots.now c.args.slots.now)
    by None h = tt
    by (Some r) h = λ f l scratch is serves.
        plain_unit c.args.strict c.args.optional Op.None c.args.entry l f c.args.rest.bytes.now
        (slots_dictionary c.args.slots.now) scratch r.item r.bytes is serves (inl refl) h
