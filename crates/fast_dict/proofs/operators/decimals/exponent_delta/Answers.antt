-- The exponent of the base and its delta, within the range of exponents.
use Rattle.std.proofs.Common.{◌≡◌, ◌∙◌, ap, arith, ℤ, pos, negsuc, neg_ℤ, ◌≤ℤ◌, ◌+ℤ◌, to_z, of_z, Result, Ok, Err}
use Rattle.std.specs.Int.{w32, w128}
use Rattle.std.proofs.lemmas.Int.{ints, to_z-of_z}
use Rattle.std.proofs.lemmas.Result.{err_from_is_err_and}
use mir.Val.{SFits}
use Rattle.fast_value.specs.declared.codes.Code.{Code}
use Rattle.fast_value.specs.declared.codes.Code.TheVariants.{R1}
use Rattle.fast_value.specs.meaning.Kinds.{ScalarData, exponent_of, exponent_range}
use Rattle.fast_value.specs.meaning.Values.{scalar_data}
use Rattle.fast_tree.specs.meaning.Tree.{FieldData}
use Rattle.fast_tree.specs.meaning.Nodes.{field_data}
use Rattle.fast_dict.specs.meaning.Dictionary.{PreviousData}
use Rattle.fast_dict.specs.meaning.Operators.{◌>>=◌, delta_base, exponent_step, ranged}
use Rattle.fast_dict.specs.meaning.Previous.{previous_data}
use Rattle.fast_dict.proofs.operators.decimals.exponent_delta.Goals as goal

-- what the step gives for a base that is known
at_base : (f : FieldData) (p : PreviousData) (k x : ℤ) (base : ScalarData) (r : Result ℤ Code) → Ok base ≡ delta_base f p
    → x ≡ exponent_of base → SFits w128 x → SFits w128 k → r ≡ ranged exponent_range R1
    (to_z w128 (of_z w128 x) +ℤ to_z w128 (of_z w128 k)) → r ≡ exponent_step f p k
at_base f p k x base r known value fits_x fits_k sum =
    sum ∙ ap (λ y. ranged exponent_range R1 (y +ℤ to_z w128 (of_z w128 k))) (to_z-of_z w128 x fits_x ∙ value)
    ∙ ap (λ y. ranged exponent_range R1 (exponent_of base +ℤ y)) (to_z-of_z w128 k fits_k)
    ∙ ap (λ b. b >>= (λ v. ranged exponent_range R1 (exponent_of v +ℤ k))) known

-- an exponent is no long number
short : (x : ℤ) → neg_ℤ (pos 63) ≤ℤ x → x ≤ℤ pos 63 → to_z w128 (of_z w128 x) ≡ x
short (pos n) low high = to_z-of_z w128 (pos n) (record { sfits = omega (arith, ints, high) })
short (negsuc n) low high = to_z-of_z w128 (negsuc n) (record { sfits = omega (arith, ints, low) })

pub returns-in_err-base : goal.returns-in_err-base
returns-in_err-base c =
    let e = err_from_is_err_and c.from_residual.result c.from_residual.ensures.1 in
    rw (e.1, e.2) (ap (λ b. b >>= (λ v. ranged exponent_range R1 (exponent_of v +ℤ c.args.delta))) c.in_err-base.ensures)

pub returns-in_err-sum : goal.returns-in_err-sum
returns-in_err-sum c =
    let e = err_from_is_err_and c.from_residual-in_err-sum.result c.from_residual-in_err-sum.ensures.1 in
    rw (e.1, e.2) (at_base (field_data c.args.field.now) (previous_data c.args.previous) c.args.delta c.exponent_of.result
    (scalar_data c.in_ok-base.base) (Err c.in_err-sum.field-0.0) c.in_ok-base.ensures c.exponent_of.ensures.value
    (record { sfits = c.exponent_of.type_inv }) c.ranges.delta c.in_err-sum.ensures.sum)

pub exponent_value-requires-clause-low : goal.exponent_value-requires-clause-low
exponent_value-requires-clause-low c = rw (short c.in_ok-sum.sum c.in_ok-sum.ensures.inside.0 c.in_ok-sum.ensures.inside.1) c.in_ok-sum.ensures.inside.0

pub exponent_value-requires-clause-high : goal.exponent_value-requires-clause-high
exponent_value-requires-clause-high c = rw (short c.in_ok-sum.sum c.in_ok-sum.ensures.inside.0 c.in_ok-sum.ensures.inside.1) c.in_ok-sum.ensures.inside.1

pub returns : goal.returns
returns c =
    ap Ok (to_z-of_z w32 c.exponent_value.result (record { sfits = c.exponent_value.type_inv }) ∙ c.exponent_value.ensures
    ∙ short c.in_ok-sum.sum c.in_ok-sum.ensures.inside.0 c.in_ok-sum.ensures.inside.1)
    ∙ at_base (field_data c.args.field.now) (previous_data c.args.previous) c.args.delta c.exponent_of.result
    (scalar_data c.in_ok-base.base) (Ok c.in_ok-sum.sum) c.in_ok-base.ensures c.exponent_of.ensures.value
    (record { sfits = c.exponent_of.type_inv }) c.ranges.delta c.in_ok-sum.ensures.sum
