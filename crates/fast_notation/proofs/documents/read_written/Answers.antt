use Rattle.std.proofs.Common.{map, sym, ap, ◌∙◌, Some}
use Rattle.std.proofs.lemmas.Result.{IfOk-weaker, IfErr-weaker}
use Rattle.toml.specs.Parse.{parse_document}
use Rattle.toml.specs.View.{items_view, table_view}
use Rattle.fast_notation.specs.device.WrittenSets.{written_data}
use Rattle.fast_notation.proofs.texts.SetLaws.{tables_there, set_written, unwritten_at, written_before, no_tables}
use Rattle.fast_notation.proofs.documents.read_written.Goals as goal

pub returns-in-Some-clause-written : goal.returns-in-Some-clause-written
returns-in-Some-clause-written c =
    let document = table_view c.in-Ok.document in
    let xs = items_view c.deref_mut.result.now in
    let there = tables_there document xs (sym c.in-Some.ensures.tables ∙ ap (λ vs. Some (items_view vs)) (sym c.deref_mut.ensures.value)) in
    IfOk-weaker c.templates_in.result _ _
    (λ v e. (document, c.in-Ok.ensures.ok, set_written document xs (map written_data v.items) there e))
    c.templates_in.ensures.templates

pub returns-in-Some-clause-fault : goal.returns-in-Some-clause-fault
returns-in-Some-clause-fault c =
    let document = table_view c.in-Ok.document in
    let xs = items_view c.deref_mut.result.now in
    let there = tables_there document xs (sym c.in-Some.ensures.tables ∙ ap (λ vs. Some (items_view vs)) (sym c.deref_mut.ensures.value)) in
    IfErr-weaker c.templates_in.result _ _
    (λ e u. unwritten_at (parse_document c.args.text.now) document xs c.in-Ok.ensures.ok there e.code e.template u)
    c.templates_in.ensures.fault

pub returns-in-Some-clause-first : goal.returns-in-Some-clause-first
returns-in-Some-clause-first c =
    let document = table_view c.in-Ok.document in
    let xs = items_view c.deref_mut.result.now in
    let there = tables_there document xs (sym c.in-Some.ensures.tables ∙ ap (λ vs. Some (items_view vs)) (sym c.deref_mut.ensures.value)) in
    IfErr-weaker c.templates_in.result _ _
    (λ e first. written_before (parse_document c.args.text.now) document xs c.in-Ok.ensures.ok there e.code e.template first)
    c.templates_in.ensures.first

pub returns-in-None-clause-fault : goal.returns-in-None-clause-fault
returns-in-None-clause-fault c =
    rw c.no_set-in-None.ensures (no_tables (parse_document c.args.text.now) (table_view c.in-Ok.document) c.in-Ok.ensures.ok (sym c.in-None.ensures.tables))
