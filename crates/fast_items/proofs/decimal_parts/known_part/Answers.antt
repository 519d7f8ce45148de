-- By the operator.
use Rattle.std.proofs.Common.{sym, ap, ◌∙◌, rules, to_z, of_z, FitsSigned}
use Rattle.std.specs.Int.{w64}
use Rattle.std.specs.Prelude.{ℤ, Option}
use Rattle.fast_dict.specs.meaning.Dictionary.{assigned}
use Rattle.fast_value.specs.meaning.Kinds.{I}
use Rattle.fast_units.specs.device.Deciding.{needs_bytes}
use Rattle.fast_items.specs.device.DecimalParts.{part_item}
use Rattle.fast_items.specs.device.IntegerItems.{item_held}
use Rattle.fast_items.proofs.DecimalParts.{constant_none, constant_there, default_left, copied_number, copied_none}
use Rattle.fast_units.proofs.LastUnits.{again}
use Rattle.fast_items.proofs.decimal_parts.known_part.Goals as goal

pub returns-in-Constant : goal.returns-in-Constant
returns-in-Constant c = constant_none c.args.field.now c.args.bit c.args.slots.now c.in-Constant.is (search rules)

pub returns-in-Constant-2 : goal.returns-in-Constant-2
returns-in-Constant-2 c = constant_there c.args.field.now c.args.bit c.args.slots.now c.in-Constant.is
    (search rules) c.initial_part.result c.initial_part.ensures

pub returns-in-Default : goal.returns-in-Default
returns-in-Default c = default_left c.args.field.now c.args.bit c.args.slots.now c.in-Default.is
    (sym (ap (λ o. needs_bytes o c.args.bit) c.in-Default.is) ∙ c.requires.no_bytes) c.initial_part-in-Default.result
    c.initial_part-in-Default.ensures

pub returns-in-Some : goal.returns-in-Some
returns-in-Some c =
    let fits : FitsSigned w64 c.in-Some.number = search rules in
    copied_number c.args.field.now c.args.bit c.args.slots.now (to_z w64 (of_z w64 c.in-Some.number)) c.in-Copy.is
    (sym (ap (λ o. needs_bytes o c.args.bit) c.in-Copy.is) ∙ c.requires.no_bytes)
    (c.in_ok-number-in-Copy.ensures ∙ ap (λ (x : Option ℤ). item_held c.args.kind (part_item x)) c.in-Some.is
    ∙ ap (λ x. assigned c.args.kind (I x)) (sym (again w64 c.in-Some.number fits))
    ∙ ap (λ k. assigned k (I (to_z w64 (of_z w64 c.in-Some.number)))) (sym c.requires.kind))

pub returns-in-None : goal.returns-in-None
returns-in-None c =
    copied_none c.args.field.now c.args.bit c.args.slots.now c.in-Copy.is
    (sym (ap (λ o. needs_bytes o c.args.bit) c.in-Copy.is) ∙ c.requires.no_bytes) c.if-field.true
    (c.in_ok-number-in-Copy.ensures ∙ ap (λ (x : Option ℤ). item_held c.args.kind (part_item x)) c.in-None.is)
