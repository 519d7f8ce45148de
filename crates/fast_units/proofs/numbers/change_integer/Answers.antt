-- The sum is kept.
use Rattle.std.proofs.Common.{◌≡◌, ◌∙◌, ◌+ℤ◌, rules, Ok}
use Rattle.fast_value.specs.meaning.Kinds.{value_of_integer}
use Rattle.fast_value.specs.declared.codes.Code.TheVariants.{D2}
use Rattle.fast_tree.specs.meaning.Nodes.{field_data}
use Rattle.fast_dict.specs.meaning.Dictionary.{previous_at}
use Rattle.fast_dict.specs.meaning.Operators.{◌>>=◌, keeps, ranged, range_of, integer_step}
use Rattle.fast_dict.specs.meaning.Slots.{slots_dictionary}
use Rattle.fast_units.specs.device.Deciding.{base_integer, number_data, IsDecided}
use Rattle.fast_units.proofs.Deciding.{decided_as, keep_decided, base_stepped}
use Rattle.fast_units.proofs.numbers.change_integer.Goals as goal

pub returns-in_err-sum-clause-decided : goal.returns-in_err-sum-clause-decided
returns-in_err-sum-clause-decided c =
    let f = field_data c.args.field.now in
    let old = slots_dictionary c.args.slots.now in
    let behind : IsDecided (base_integer f (previous_at f.entry old) >>=
    (λ x. ranged (range_of f.kind) D2 (x +ℤ c.args.delta) >>= (λ y. keeps f.kind (value_of_integer f.kind y)))) f old old
    c.from_residual-in_err-sum.result = search rules in
    decided_as f old old c.from_residual-in_err-sum.result (base_stepped f (previous_at f.entry old) c.args.delta) behind

pub returns-clause-decided : goal.returns-clause-decided
returns-clause-decided c =
    let f = field_data c.args.field.now in
    let old = slots_dictionary c.args.slots.now in
    let behind : (base_integer f (previous_at f.entry old) >>=
    (λ x. ranged (range_of f.kind) D2 (x +ℤ c.args.delta) >>= (λ y. keeps f.kind (value_of_integer f.kind y)))) ≡ keeps f.kind
    (number_data c.of_integer.result) = search rules in
    let step : integer_step f (previous_at f.entry old) c.args.delta ≡ keeps f.kind (number_data c.of_integer.result) =
    base_stepped f (previous_at f.entry old) c.args.delta ∙ behind in
    decided_as f old (slots_dictionary c.keep.new.slots) (Ok c.keep.result) step
    (keep_decided f old (slots_dictionary c.keep.new.slots)
    (number_data c.of_integer.result) c.keep.result c.keep.ensures.entry c.keep.ensures.value)
