-- The goals that a wrong body would leave: `search` proves them of this one, and named ones say at once what is missing.
use Rattle.std.proofs.Common.{rules, arith, ◌≡◌, ◌∙◌, ◌-◌, ◌-ℤ◌, ◌≤◌, ℕ, ℤ, pos, negsuc, nat_abs, int_le, to_z, of_z, true, false, refl, ap}
use Rattle.std.proofs.Common.{subst, List, length, take, drop, Option, Result, Ok, Some, None, SomeIff, ok_or}
use Rattle.std.specs.Int.{w128}
use Rattle.std.proofs.lemmas.Bool.{le-leb}
use Rattle.std.proofs.lemmas.Int.{ints, to_z-of_z}
use Rattle.std.proofs.lemmas.List.{take_all, length-drop}
use mir.Val.{SFits}
use Rattle.fast_value.specs.declared.codes.Code.{Code}
use Rattle.fast_value.specs.declared.codes.Code.TheVariants.{D7}
use Rattle.fast_dict.specs.meaning.Operators.{kept_of, prepend_to}
use Rattle.fast_dict.proofs.operators.texts.kept_of.Goals as goal

pub returns-then-length-ge0 : goal.returns-then-length-ge0
returns-then-length-ge0 c = search rules

pub overflow_cast-length : goal.overflow_cast-length
overflow_cast-length c = search rules

pub returns-in_err-taken : goal.returns-in_err-taken
returns-in_err-taken c = search rules

pub slice_bounds-result-count : goal.slice_bounds-result-count
slice_bounds-result-count c = search rules

pub slice_bounds-result-length : goal.slice_bounds-result-length
slice_bounds-result-length c = search rules

pub overflow_sub-length : goal.overflow_sub-length
overflow_sub-length c = search rules

pub overflow_cast-length-2 : goal.overflow_cast-length-2
overflow_cast-length-2 c = search rules

pub returns-in_err-taken-2 : goal.returns-in_err-taken-2
returns-in_err-taken-2 c = search rules

pub slice_bounds-result-count-2 : goal.slice_bounds-result-count-2
slice_bounds-result-count-2 c = search rules

pub slice_bounds-result-start : goal.slice_bounds-result-start
slice_bounds-result-start c = search rules

pub slice_bounds-result-end : goal.slice_bounds-result-end
slice_bounds-result-end c = search rules

-- the number that is taken, and that there are as many
taken_at : (o : Option ℕ) (n size k : ℕ) (r : Result ℕ Code) → r ≡ ok_or o D7 → r ≡ Ok k → SomeIff o (n ≤ size) n → (k ≡ n) × (k ≤ size)
taken_at (Some x) n size k r e f h = let same : k ≡ x = cc in (same ∙ h.1, rw (same, h.1) h.0)
taken_at None n size k r e f h = absurd (cc)

-- what is kept behind the bytes that are taken from the front
behind : (base : List ℕ) (k : ℕ) (l : ℤ) → SFits w128 l → int_le (pos 0) (to_z w128 (of_z w128 l)) ≡ false
    → k ≡ nat_abs (to_z w128 (of_z w128 (negsuc 0 -ℤ to_z w128 (of_z w128 l)))) → k ≤ length base
    → Ok (prepend_to (take (length base - k) (drop k base))) ≡ kept_of base l
behind base k (pos n) fits below e h = let f : int_le (pos 0) (pos n) ≡ false =
    subst (λ z. int_le (pos 0) z ≡ false) (to_z-of_z w128 (pos n) fits) below in
    let g : int_le (pos 0) (pos n) ≡ true = le-leb 0 n (omega arith) in absurd (cc)
behind base k (negsuc m) fits below e h =
    let turned : negsuc 0 -ℤ negsuc m ≡ pos m = omega (arith, ints) in
    let same : k ≡ m = e ∙ ap (λ z. nat_abs (to_z w128 (of_z w128 (negsuc 0 -ℤ z)))) (to_z-of_z w128 (negsuc m) fits)
    ∙ ap (λ z. nat_abs (to_z w128 (of_z w128 z))) turned ∙ ap nat_abs (to_z-of_z w128 (pos m) (record { sfits = fits.sfits })) in
    let all : take (length base - m) (drop m base) ≡ drop m base =
    take_all (length base - m) (drop m base) (let left = length-drop m base in omega (arith, left)) in
    rw (same, all, le-leb m (length base) (omega (arith, h, same))) refl

pub returns : goal.returns
returns c =
    let t = taken_at c.at_most-2.result _ _ c.in_ok-taken-2.taken c.ok_or-2.result c.ok_or-2.ensures.value c.in_ok-taken-2.was c.at_most-2.ensures in
    behind c.args.base.now c.in_ok-taken-2.taken c.args.length c.ranges.length c.if-length-ge0.false t.0 t.1
