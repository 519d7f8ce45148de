use Rattle.std.proofs.Common.{◌≡◌, ℕ, ◌+◌, ◌*◌, List, [], ◌∷◌, ◌++◌, refl, ap, sym, ◌∙◌, append_assoc, arith, rules}
use Rattle.std.specs.Prelude.{decimal}
use Rattle.fast_lines.proofs.Digits.{first_digit, next_digit}
use Rattle.fast_lines.proofs.numbers.more_digits.Goals as goal

pub loop-rest-init : goal.loop-rest-init
loop-rest-init c =
    let shown : decimal c.from-number.result ≡ c.args.first ∷ [] = ap decimal c.from-number.ensures ∙ first_digit c.args.first (omega arith) (omega arith) in
    (rw shown refl, omega (arith, c.from-number.ensures))

pub loop-rest-preserved : goal.loop-rest-preserved
loop-rest-preserved c =
    let i = c.loop-rest.invariant in
    let whole : c.loop-rest.rest.now ≡ c.in-Some.digit.now ∷ c.in-Some.behind.now = search rules in
    let shown : decimal (10 * c.loop-rest.number + c.from.result) ≡ decimal c.loop-rest.number ++ c.in-Some.digit.now ∷ [] =
    ap (λ (x : ℕ). decimal (10 * c.loop-rest.number + x)) c.from.ensures
    ∙ next_digit c.loop-rest.number c.in-Some.digit.now i.1 (omega arith) (omega arith) (omega arith) in (
      i.0 ∙ ap (λ (xs : List ℕ). decimal c.loop-rest.number ++ xs) whole
          ∙ sym (append_assoc (decimal c.loop-rest.number) (c.in-Some.digit.now ∷ []) c.in-Some.behind.now)
          ∙ ap (λ (xs : List ℕ). xs ++ c.in-Some.behind.now) (sym shown),
      omega (arith, i.1),
    )
