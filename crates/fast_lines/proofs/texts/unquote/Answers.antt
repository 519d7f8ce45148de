use Rattle.std.proofs.lemmas.Grind.{elements}
use Rattle.std.proofs.Common.{arith, rules, ◌≡◌, ◌≢◌, ℕ, ◌-◌, length, take, drop, List, [], ◌∷◌, ◌++◌, flat_map, ap, sym, ◌∙◌}
use Rattle.std.proofs.lemmas.Result.{err_from_is_err_and}
use Rattle.fast_lines.specs.meaning.Lines.{escaped, quoted}
use Rattle.fast_lines.proofs.Arms.{between_two, same_between, read_some, read_none}
use Rattle.fast_lines.proofs.texts.unquote.Goals as goal

pub returns-in_default-clause-value : goal.returns-in_default-clause-value
returns-in_default-clause-value c = tt

pub returns-in_default-clause-none : goal.returns-in_default-clause-none
returns-in_default-clause-none c = grind (arith, elements)

pub returns-in_err-from_slice-clause-value : goal.returns-in_err-from_slice-clause-value
returns-in_err-from_slice-clause-value c = rw ((err_from_is_err_and c.from_residual.result c.from_residual.ensures.1).1) tt

pub returns-in_err-from_slice-clause-none : goal.returns-in_err-from_slice-clause-none
returns-in_err-from_slice-clause-none c = rw ((err_from_is_err_and c.from_residual.result c.from_residual.ensures.1).1) tt

pub returns-in_ok-from_slice-clause-value : goal.returns-in_ok-from_slice-clause-value
returns-in_ok-from_slice-clause-value c =
    let is = between_two c.args.text.now 34 34 c.in-34.len_at_least (search rules) (search rules) in
    let alike = c.stands_alike.ensures c.if-stands_alike.true in
    is ∙ ap (λ (w : List ℕ). 34 ∷ w ++ 34 ∷ []) (sym (ap (flat_map escaped) c.in_ok-from_slice.ensures.items ∙ alike))

pub returns-in_ok-from_slice-clause-none : goal.returns-in_ok-from_slice-clause-none
returns-in_ok-from_slice-clause-none c = tt

pub returns-else-stands_alike-clause-value : goal.returns-else-stands_alike-clause-value
returns-else-stands_alike-clause-value c =
    let is = between_two c.args.text.now 34 34 c.in-34.len_at_least (search rules) (search rules) in
    let inner : List ℕ = take (length c.args.text.now - 1 - 1) (drop 1 c.args.text.now) in
    read_some c.unescape.result (λ v. inner ≡ flat_map escaped v.items) (λ v. c.args.text.now ≡ quoted v.items) c.unescape.ensures.value
    (λ v e. is ∙ ap (λ (w : List ℕ). 34 ∷ w ++ 34 ∷ []) e)

pub returns-else-stands_alike-clause-none : goal.returns-else-stands_alike-clause-none
returns-else-stands_alike-clause-none c =
    let is = between_two c.args.text.now 34 34 c.in-34.len_at_least (search rules) (search rules) in
    let inner : List ℕ = take (length c.args.text.now - 1 - 1) (drop 1 c.args.text.now) in
    read_none c.unescape.result ((v : List ℕ) → inner ≢ flat_map escaped v)
    ((v : List ℕ) → c.args.text.now ≢ quoted v) c.unescape.ensures.none (λ none v h. none v (same_between _ _ 34 (sym is ∙ h)))
