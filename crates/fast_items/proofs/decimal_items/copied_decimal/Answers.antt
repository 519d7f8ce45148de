-- The decimal is kept, or the entry is empty.
use Rattle.std.proofs.Common.{refl, sym, ap, ◌∙◌, subst, ◌≡◌}
use Rattle.std.specs.Prelude.{◌≢◌, true, Some, Ok}
use Rattle.fast_value.specs.declared.kinds.Kind.TheVariants.{Decimal}
use Rattle.fast_tree.specs.declared.operators.Operator.TheVariants.{Delta, Constant}
use Rattle.fast_dict.specs.meaning.Dictionary.{previous_at, assigned, empty, write_at}
use Rattle.fast_dict.specs.meaning.Operators.{decide}
use Rattle.fast_dict.specs.meaning.Slots.{slots_dictionary}
use Rattle.fast_units.specs.device.Deciding.{source_of, number_data, sent_number, IsDecided}
use Rattle.fast_units.proofs.Deciding.{value_decided, null_decided, item_value}
use Rattle.fast_items.proofs.DecimalItems.{no_texts, decimal_unit}
use Rattle.fast_items.proofs.decimal_items.copied_decimal.Goals as goal

pub returns-in-Some-clause-unit : goal.returns-in-Some-clause-unit
returns-in-Some-clause-unit c = λ f l scratch is serves.
    let old = slots_dictionary c.args.slots.now in
    let new = slots_dictionary c.keep_at.new.slots in
    let n = c.in-Some.number in
    let no_delta : f.operator ≢ Delta = subst (λ o. o ≢ Delta) (sym is.operator) (λ x. absurd (cc x)) in
    let no_constant : f.operator ≢ Constant = subst (λ o. o ≢ Constant) (sym is.operator) (λ x. absurd (cc x)) in
    let kept : new ≡ write_at f.entry (assigned f.kind (number_data n)) old =
    c.keep_at.ensures.entry ∙ ap (λ e. write_at e (assigned Decimal (number_data n)) old) (sym (is.entry refl))
    ∙ ap (λ k. write_at f.entry (assigned k (number_data n)) old) (sym is.kind) in
    decimal_unit c.args.strict c.args.optional l f c.args.rest.bytes.now old new scratch c.in_ok-taken.taken.item c.in_ok-taken.taken.bytes
    is.kind is.optional no_delta no_constant c.in_ok-taken.ensures
    (subst (λ i. IsDecided (decide f (previous_at f.entry old) true (sent_number i)) f old new (Ok (source_of i))) (sym c.in-Some.is)
    (value_decided f serves (no_texts f is.kind) old new (number_data n) (source_of (Some n)) no_delta no_constant kept (item_value (Some n) f)))

pub returns-in-None-clause-unit : goal.returns-in-None-clause-unit
returns-in-None-clause-unit c = λ f l scratch is serves.
    let old = slots_dictionary c.args.slots.now in
    let new = slots_dictionary c.set_empty.new.self in
    let no_delta : f.operator ≢ Delta = subst (λ o. o ≢ Delta) (sym is.operator) (λ x. absurd (cc x)) in
    let no_constant : f.operator ≢ Constant = subst (λ o. o ≢ Constant) (sym is.operator) (λ x. absurd (cc x)) in
    let left : new ≡ write_at f.entry empty old = c.set_empty.ensures.entry ∙ ap (λ e. write_at e empty old) (sym (is.entry refl)) in
    decimal_unit c.args.strict c.args.optional l f c.args.rest.bytes.now old new scratch c.in_ok-taken.taken.item c.in_ok-taken.taken.bytes
    is.kind is.optional no_delta no_constant c.in_ok-taken.ensures
    (subst (λ i. IsDecided (decide f (previous_at f.entry old) true (sent_number i)) f old new (Ok (source_of i))) (sym c.in-None.is)
    (null_decided f serves (no_texts f is.kind) old new no_delta no_constant left))
