use Rattle.std.proofs.Common.{◌≡◌, ◌+◌, ◌*◌, ◌<◌, ◌≤◌, ◌^◌, ℕ, length, take, ap, ◌∙◌, arith, subst, rules, List}
use Rattle.std.specs.Prelude.{All}
use Rattle.std.specs.Char.{IsAsciiDigit}
use Rattle.std.proofs.lemmas.List.{length-take-le, take_all}
use Rattle.std.proofs.lemmas.List.Elements.{All-more}
use Rattle.fast_value.specs.meaning.Initial.{digits_value}
use Rattle.fast_value.proofs.Digits.{digits_value-below, digits_value-more}
use Rattle.fast_value.proofs.initial.parse_digits.Goals as goal

-- what was read so far is small
below : (ds : List ℕ) (i n : ℕ) → i ≤ length ds → length ds ≤ 20 → All IsAsciiDigit (take i ds) → n ≡ digits_value (take i ds) → n < 10 ^ 20
below ds i n inside short digits read =
    let l : length (take i ds) ≡ i = length-take-le i ds inside in
    let s = digits_value-below (take i ds) digits (omega (arith, l, short, inside)) in
    omega (arith, s, read)

pub overflow_mul-number : goal.overflow_mul-number
overflow_mul-number c =
    let b = below c.args.digits.now c.loop-digit.digit-index c.loop-digit.number c.loop-digit.auto.digit-index-end c.if-digits-gt20.false
    c.loop-digit.invariant.all_digits c.loop-digit.invariant.value in
    omega (arith, b)

pub overflow_add-number : goal.overflow_add-number
overflow_add-number c =
    let b = below c.args.digits.now c.loop-digit.digit-index c.loop-digit.number c.loop-digit.auto.digit-index-end c.if-digits-gt20.false
    c.loop-digit.invariant.all_digits c.loop-digit.invariant.value in
    let d = c.type_inv.digits c.loop-digit.digit-index in
    let f = c.from.ensures in
    omega (arith, b, d, f)

pub loop-digit-preserved : goal.loop-digit-preserved
loop-digit-preserved c = record {
  value = ap (λ n. c.loop-digit.number * 10 + n) c.from.ensures
      ∙ digits_value-more c.args.digits.now c.loop-digit.digit-index 0 c.loop-digit.number c.loop-digit-test.true
      c.loop-digit.invariant.value;
  all_digits = All-more IsAsciiDigit c.args.digits.now c.loop-digit.digit-index 0 c.loop-digit-test.true c.loop-digit.invariant.all_digits (search rules);
}

pub returns-clause-small : goal.returns-clause-small
returns-clause-small c =
    let t = take_all c.loop-digit.digit-index c.args.digits.now c.loop-digit-test.false in
    let s = digits_value-below c.args.digits.now (subst (All IsAsciiDigit) t c.loop-digit.invariant.all_digits) c.if-digits-gt20.false in
    let v = c.loop-digit.invariant.value ∙ ap digits_value t in
    omega (arith, s, v)
