-- The integer of the base and its delta, within the range of the kind.
use Rattle.std.proofs.Common.{rules, ◌≡◌, ◌∙◌, refl, ap, ℤ, ◌+ℤ◌, to_z, of_z, true, Result, Ok, Err}
use Rattle.std.specs.Int.{w128}
use Rattle.std.proofs.lemmas.Int.{to_z-of_z}
use Rattle.std.proofs.lemmas.Result.{err_from_is_err_and}
use mir.Val.{SFits}
use Rattle.fast_value.specs.declared.codes.Code.{Code}
use Rattle.fast_value.specs.declared.codes.Code.TheVariants.{D2}
use Rattle.fast_value.specs.declared.kinds.Kind.{Kind}
use Rattle.fast_value.specs.declared.kinds.Kind.TheVariants.{UInt32, Int32, UInt64, Int64, Decimal, Ascii, Unicode, Bytes}
use Rattle.fast_value.specs.meaning.Kinds.{ScalarData, integer_of, value_of_integer}
use Rattle.fast_value.specs.meaning.Values.{scalar_data}
use Rattle.fast_tree.specs.meaning.Tree.{FieldData}
use Rattle.fast_tree.specs.meaning.Nodes.{field_data}
use Rattle.fast_dict.specs.meaning.Dictionary.{PreviousData}
use Rattle.fast_dict.specs.meaning.Operators.{Outcome, ◌>>=◌, delta_base, integer_step, keeps, range_of, ranged}
use Rattle.fast_dict.specs.meaning.Previous.{previous_data}
use Rattle.fast_dict.proofs.operators.integers.integer_delta.Goals as goal

-- what is kept is the sum, as a value of the kind
kept_sum : {kind : Kind} {v : ScalarData} (o : Result Outcome Code) (x : ℤ) (r : Result Outcome Code) → o ≡ keeps kind v
    → v ≡ value_of_integer kind x → keeps kind (value_of_integer kind x) ≡ r → o ≡ r
kept_sum {kind = kind} o x r keep value rest = keep ∙ ap (keeps kind) value ∙ rest

-- The bounds of a kind are no long numbers.
least : (kind : Kind) → to_z w128 (of_z w128 (range_of kind).low) ≡ (range_of kind).low
least UInt32 = refl
least Int32 = refl
least UInt64 = refl
least Int64 = refl
least Decimal = refl
least Ascii = refl
least Unicode = refl
least Bytes = refl

greatest : (kind : Kind) → to_z w128 (of_z w128 (range_of kind).high) ≡ (range_of kind).high
greatest UInt32 = refl
greatest Int32 = refl
greatest UInt64 = refl
greatest Int64 = refl
greatest Decimal = refl
greatest Ascii = refl
greatest Unicode = refl
greatest Bytes = refl

-- what the step gives for a base that is known
at_base : (f : FieldData) (p : PreviousData) (k x low high : ℤ) (base : ScalarData) (r : Result ℤ Code) → Ok base ≡ delta_base f p
    → x ≡ integer_of base → low ≡ (range_of f.kind).low → high ≡ (range_of f.kind).high → SFits w128 x → SFits w128 k
    → r ≡ ranged (record {
      is_signed = true;
      low = to_z w128 (of_z w128 low);
      high = to_z w128 (of_z w128 high);
    }) D2 (to_z w128 (of_z w128 x) +ℤ to_z w128 (of_z w128 k)) → (r >>= (λ s. keeps f.kind (value_of_integer f.kind s))) ≡ integer_step f p k
at_base f p k x low high base r known value is_low is_high fits_x fits_k sum =
    let long : ℤ → ℤ = λ y. to_z w128 (of_z w128 y) in
    let kept : Result ℤ Code → Result Outcome Code = λ a. a >>= (λ s. keeps f.kind (value_of_integer f.kind s)) in
    ap kept sum
    ∙ ap (λ y. kept (ranged (record { is_signed = true; low = y; high = long high }) D2 (long x +ℤ long k))) (ap long is_low ∙ least f.kind)
    ∙ ap (λ y. kept (ranged (record { is_signed = true; low = (range_of f.kind).low; high = y }) D2 (long x +ℤ long k))) (ap long is_high ∙ greatest f.kind)
    ∙ ap (λ y. kept (ranged (range_of f.kind) D2 (y +ℤ long k))) (to_z-of_z w128 x fits_x ∙ value)
    ∙ ap (λ y. kept (ranged (range_of f.kind) D2 (integer_of base +ℤ y))) (to_z-of_z w128 k fits_k)
    ∙ ap (λ b. b >>= (λ v. kept (ranged (range_of f.kind) D2 (integer_of v +ℤ k)))) known

pub returns : goal.returns
returns c = kept_sum _ (to_z w128 (of_z w128 c.in_ok-sum.sum)) _ c.kept.ensures (cc) (search rules)

pub returns-in_err-base : goal.returns-in_err-base
returns-in_err-base c =
    let e = err_from_is_err_and c.from_residual.result c.from_residual.ensures.1 in
    rw (e.1, e.2) (ap (λ b. b >>= (λ v. ranged (range_of c.args.field.now.kind) D2 (integer_of v +ℤ c.args.delta) >>=
    (λ x. keeps c.args.field.now.kind (value_of_integer c.args.field.now.kind x)))) c.in_err-base.ensures)

pub returns-in_err-sum : goal.returns-in_err-sum
returns-in_err-sum c =
    let e = err_from_is_err_and c.from_residual-in_err-sum.result c.from_residual-in_err-sum.ensures.1 in
    rw (e.1, e.2) (at_base (field_data c.args.field.now) (previous_data c.args.previous) c.args.delta c.integer_of.result
    c.range_of-low.result.0 c.range_of-low.result.1 (scalar_data c.in_ok-base.base)
    (Err c.in_err-sum.field-0.0) c.in_ok-base.ensures c.integer_of.ensures.value c.range_of-low.ensures.low c.range_of-low.ensures.high
    (record { sfits = c.integer_of.type_inv }) c.ranges.delta c.in_err-sum.ensures.sum)

pub integer_value-requires-clause-low : goal.integer_value-requires-clause-low
integer_value-requires-clause-low c = search rules

pub integer_value-requires-clause-high : goal.integer_value-requires-clause-high
integer_value-requires-clause-high c = search rules
