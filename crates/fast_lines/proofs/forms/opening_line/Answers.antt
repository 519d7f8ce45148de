use Rattle.std.proofs.Common.{rules, ◌≡◌, ℕ, ◌-◌, List, ◌++◌, length, codes, drop, take, ap, sym, ◌∙◌}
use Rattle.std.proofs.lemmas.List.{take_rest}
use Rattle.fast_lines.proofs.Words.{no_message, given_line, given_form}
use Rattle.fast_lines.proofs.forms.opening_line.Goals as goal

pub returns-in-109-clause-none : goal.returns-in-109-clause-none
returns-in-109-clause-none c =
    let text = c.args.text.now in
    let begins : text ≡ codes "message " ++ drop 8 text = search rules in
    let is : text ≡ codes "message " ++ take (length text - 8) (drop 8 text) = begins ∙ ap (λ (xs : List ℕ). codes "message " ++ xs) (sym (take_rest text 8)) in
    no_message c.message_line.result text (take (length text - 8) (drop 8 text)) is c.message_line.ensures.none

pub returns-in-109-clause-line : goal.returns-in-109-clause-line
returns-in-109-clause-line c =
    let text = c.args.text.now in
    let begins : text ≡ codes "message " ++ drop 8 text = search rules in
    let is : text ≡ codes "message " ++ take (length text - 8) (drop 8 text) = begins ∙ ap (λ (xs : List ℕ). codes "message " ++ xs) (sym (take_rest text 8)) in
    given_line c.message_line.result (codes "message ") text (take (length text - 8) (drop 8 text)) is c.message_line.ensures.line

pub returns-in-109-clause-form : goal.returns-in-109-clause-form
returns-in-109-clause-form c =
    let text = c.args.text.now in
    given_form c.message_line.result (codes "message ") (take (length text - 8) (drop 8 text)) c.message_line.ensures.line

pub returns-in_default-clause-line : goal.returns-in_default-clause-line
returns-in_default-clause-line c = c.any_line.ensures.line

pub returns-in_default-clause-form : goal.returns-in_default-clause-form
returns-in_default-clause-form c = c.any_line.ensures.form

pub returns-in_default-clause-none : goal.returns-in_default-clause-none
returns-in_default-clause-none c = c.any_line.ensures.none
