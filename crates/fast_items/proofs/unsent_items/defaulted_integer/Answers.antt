-- By the initial value.
use Rattle.std.proofs.Common.{rules, to_z, of_z}
use Rattle.std.specs.Int.{w64}
use Rattle.std.specs.Prelude.{Some, None}
use Rattle.fast_tree.specs.meaning.Nodes.{field_data}
use Rattle.fast_units.specs.declared.fields.Number.TheVariants.{Unsigned, Signed}
use Rattle.fast_items.proofs.IntegerItems.{default_item}
use Rattle.fast_items.proofs.unsent_items.defaulted_integer.Goals as goal

pub returns-in-UInt32-Some-U : goal.returns-in-UInt32-Some-U
returns-in-UInt32-Some-U c = default_item (field_data c.args.field.now) (Some (Unsigned c.in-UInt32-Some-U.number)) (search rules)

pub returns-in-Int32-Some-I : goal.returns-in-Int32-Some-I
returns-in-Int32-Some-I c = default_item (field_data c.args.field.now) (Some (Signed (to_z w64 (of_z w64 c.in-Int32-Some-I.number)))) (search rules)

pub returns-in_default-None : goal.returns-in_default-None
returns-in_default-None c = default_item (field_data c.args.field.now) None (search rules)
