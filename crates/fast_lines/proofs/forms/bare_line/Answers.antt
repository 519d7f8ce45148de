use Rattle.std.proofs.Common.{rules, ◌≡◌, ℕ, ◌-◌, List, ◌++◌, length, codes, drop, take, ap, sym, ◌∙◌, refl}
use Rattle.std.proofs.lemmas.List.{take_rest}
use Rattle.fast_lines.proofs.Words.{given_line, given_form, no_key}
use Rattle.fast_lines.proofs.forms.bare_line.Goals as goal

pub returns-in-101-clause-line : goal.returns-in-101-clause-line
returns-in-101-clause-line c =
    let text = c.args.text.now in
    let begins : text ≡ codes "end " ++ drop 4 text = search rules in
    let is : text ≡ codes "end " ++ take (length text - 4) (drop 4 text) = begins ∙ ap (λ (xs : List ℕ). codes "end " ++ xs) (sym (take_rest text 4)) in
    given_line c.end_line.result (codes "end ") text (take (length text - 4) (drop 4 text)) is c.end_line.ensures.line

pub returns-in-101-clause-form : goal.returns-in-101-clause-form
returns-in-101-clause-form c =
    let text = c.args.text.now in
    given_form c.end_line.result (codes "end ") (take (length text - 4) (drop 4 text)) c.end_line.ensures.line

pub returns-in-101-clause-none : goal.returns-in-101-clause-none
returns-in-101-clause-none c =
    let text = c.args.text.now in
    let begins : text ≡ codes "end " ++ drop 4 text = search rules in
    let is : text ≡ codes "end " ++ take (length text - 4) (drop 4 text) = begins ∙ ap (λ (xs : List ℕ). codes "end " ++ xs) (sym (take_rest text 4)) in
    no_key c.end_line.result (codes "end") text (take (length text - 4) (drop 4 text)) refl is c.end_line.ensures.none

pub returns-in_default-clause-line : goal.returns-in_default-clause-line
returns-in_default-clause-line c = c.opening_line.ensures.line

pub returns-in_default-clause-form : goal.returns-in_default-clause-form
returns-in_default-clause-form c = c.opening_line.ensures.form

pub returns-in_default-clause-none : goal.returns-in_default-clause-none
returns-in_default-clause-none c = c.opening_line.ensures.none
