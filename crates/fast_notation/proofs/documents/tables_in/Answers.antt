use Rattle.std.proofs.Common.{◌≢◌, sym, ap, ◌∙◌}
use Rattle.toml.specs.View.{view, items_view, table_view}
use Rattle.fast_notation.specs.device.Reading.{members_count, are_templates}
use Rattle.fast_notation.proofs.lists.TemplateLists.{members_count-view, tables_found, tables_of_others}
use Rattle.fast_notation.proofs.documents.tables_in.Goals as goal

pub returns-then-len-ne1-clause-tables : goal.returns-then-len-ne1-clause-tables
returns-then-len-ne1-clause-tables c =
    let m = members_count-view c.args.document.entries in
    let other : members_count (table_view c.args.document) ≢ 1 = λ e. c.if-len-ne1.true (c.len.ensures.len ∙ sym m ∙ e) in
    sym (tables_of_others (table_view c.args.document) other)

pub returns-clause-tables : goal.returns-clause-tables
returns-clause-tables c =
    let m = members_count-view c.args.document.entries in
    let one = m ∙ sym c.len.ensures.len ∙ c.if-len-ne1.false in
    let good = sym (ap (λ vs. are_templates (items_view vs)) c.as_slice.ensures.value) ∙ sym c.if-not-are_templates.ensures.test in
    sym (tables_found (table_view c.args.document) (view c.in-Some.value) (items_view c.in-Some-items_of.items.items) one
    (sym c.in-Some.ensures) (sym c.in-Some-items_of.ensures) good)
