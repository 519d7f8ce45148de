use Rattle.std.proofs.Common.{rules, ◌≡◌, ℕ, ◌-◌, List, ◌++◌, length, codes, drop, take, ap, sym, ◌∙◌, refl}
use Rattle.std.proofs.lemmas.List.{take_rest}
use Rattle.fast_lines.proofs.Words.{given_line, given_form, no_key}
use Rattle.fast_lines.proofs.forms.parse_line.Goals as goal

pub returns-in-102-clause-line : goal.returns-in-102-clause-line
returns-in-102-clause-line c =
    let text = c.args.text.now in
    let begins : text ≡ codes "field " ++ drop 6 text = search rules in
    let is : text ≡ codes "field " ++ take (length text - 6) (drop 6 text) = begins ∙ ap (λ (xs : List ℕ). codes "field " ++ xs) (sym (take_rest text 6)) in
    given_line c.field_line.result (codes "field ") text (take (length text - 6) (drop 6 text)) is c.field_line.ensures.line

pub returns-in-102-clause-form : goal.returns-in-102-clause-form
returns-in-102-clause-form c =
    let text = c.args.text.now in
    given_form c.field_line.result (codes "field ") (take (length text - 6) (drop 6 text)) c.field_line.ensures.line

pub returns-in-102-clause-none : goal.returns-in-102-clause-none
returns-in-102-clause-none c =
    let text = c.args.text.now in
    let begins : text ≡ codes "field " ++ drop 6 text = search rules in
    let is : text ≡ codes "field " ++ take (length text - 6) (drop 6 text) = begins ∙ ap (λ (xs : List ℕ). codes "field " ++ xs) (sym (take_rest text 6)) in
    no_key c.field_line.result (codes "field") text (take (length text - 6) (drop 6 text)) refl is c.field_line.ensures.none

pub returns-in_default-clause-line : goal.returns-in_default-clause-line
returns-in_default-clause-line c = c.bare_line.ensures.line

pub returns-in_default-clause-form : goal.returns-in_default-clause-form
returns-in_default-clause-form c = c.bare_line.ensures.form

pub returns-in_default-clause-none : goal.returns-in_default-clause-none
returns-in_default-clause-none c = c.bare_line.ensures.none
