use Rattle.std.proofs.Common.{◌<◌, ◌≤◌, ◌^◌, List, length, sym, subst}
use Rattle.std.proofs.lemmas.Result.{err_from_is_err_and}
use Rattle.toml.specs.Parse.{parse_document}
use Rattle.fast_tree.specs.declared.instructions.Node.{Node}
use Rattle.fast_tree.specs.declared.instructions.Template.{Template}
use Rattle.fast_tree.specs.device.Bodies.{AreNodeWidths, AreTemplateWidths}
use Rattle.fast_tree.specs.meaning.Numbers.{NameNodes, NameLaterNodes}
use Rattle.fast_program.specs.declared.programs.Program.{Program}
use Rattle.fast_program.specs.device.Programs.{IsProgramOf}
use Rattle.fast_template.proofs.NoMemory.{memory_fault, memory_first}
use Rattle.fast_template.proofs.sets.Templates.read.Goals as goal

pub invariant_of-result-clause-program_of_set : goal.invariant_of-result-clause-program_of_set
invariant_of-result-clause-program_of_set c =
    let p : Program = c.in-Ok.program in
    let ts : List Template = c.in_ok-set.set.templates.items in
    let xs : List Node = c.deref-2.result.now in
    let of_templates : IsProgramOf p ts xs = subst (λ us. IsProgramOf p us xs) c.deref.ensures.value c.in-Ok.ensures in
    ∣ subst (λ ys. IsProgramOf p ts ys) c.deref-2.ensures.value of_templates ∣₁

pub invariant_of-result-clause-nodes_usable : goal.invariant_of-result-clause-nodes_usable
invariant_of-result-clause-nodes_usable c = c.in_ok-set.set.nodes_usable

pub returns-clause-read : goal.returns-clause-read
returns-clause-read c = c.in_ok-set.ensures.read

pub invariant_of-result-clause-few_templates : goal.invariant_of-result-clause-few_templates
invariant_of-result-clause-few_templates c = c.in_ok-set.set.few_templates

pub invariant_of-result-clause-few_nodes : goal.invariant_of-result-clause-few_nodes
invariant_of-result-clause-few_nodes c = c.in_ok-set.set.few_nodes

pub invariant_of-result-clause-has_identifier : goal.invariant_of-result-clause-has_identifier
invariant_of-result-clause-has_identifier c = c.in_ok-set.set.has_identifier

pub invariant_of-result-clause-templates_name_nodes : goal.invariant_of-result-clause-templates_name_nodes
invariant_of-result-clause-templates_name_nodes c = c.in_ok-set.set.templates_name_nodes

pub invariant_of-result-clause-nodes_name_later_nodes : goal.invariant_of-result-clause-nodes_name_later_nodes
invariant_of-result-clause-nodes_name_later_nodes c = c.in_ok-set.set.nodes_name_later_nodes

pub invariant_of-result-clause-nodes_in_preorder : goal.invariant_of-result-clause-nodes_in_preorder
invariant_of-result-clause-nodes_in_preorder c = c.in_ok-set.set.nodes_in_preorder

pub invariant_of-result-clause-widths_of_nodes : goal.invariant_of-result-clause-widths_of_nodes
invariant_of-result-clause-widths_of_nodes c = subst (λ xs. AreNodeWidths xs c.in-Ok-segment_widths_of.segment_widths.items)
    c.deref-3.ensures.value c.in-Ok-segment_widths_of.ensures

pub invariant_of-result-clause-widths_of_templates : goal.invariant_of-result-clause-widths_of_templates
invariant_of-result-clause-widths_of_templates c =
    let ws = c.in-Ok-message_widths_of.message_widths.items in
    subst (λ xs. AreTemplateWidths xs c.in_ok-set.set.templates.items ws) c.deref-5.ensures.value
    (subst (λ ts. AreTemplateWidths c.deref-5.result.now ts ws) c.deref-4.ensures.value c.in-Ok-message_widths_of.ensures)

pub invariant_of-result-clause-distinct_ids : goal.invariant_of-result-clause-distinct_ids
invariant_of-result-clause-distinct_ids c = c.in_ok-set.set.distinct_ids

pub invariant_of-result-clause-names_index : goal.invariant_of-result-clause-names_index
invariant_of-result-clause-names_index c = c.in_ok-set.set.names_index

pub invariant_of-result-clause-ids_index : goal.invariant_of-result-clause-ids_index
invariant_of-result-clause-ids_index c = c.in_ok-set.set.ids_index

pub returns-in_err-set-clause-read : goal.returns-in_err-set-clause-read
returns-in_err-set-clause-read c = rw ((err_from_is_err_and c.from_residual.result c.from_residual.ensures.1).1) tt

pub returns-in_err-set-clause-fault : goal.returns-in_err-set-clause-fault
returns-in_err-set-clause-fault c =
    let e = err_from_is_err_and c.from_residual.result c.from_residual.ensures.1 in
    rw (e.1, e.2) c.in_err-set.ensures.fault

pub returns-in_err-set-clause-first : goal.returns-in_err-set-clause-first
returns-in_err-set-clause-first c =
    let e = err_from_is_err_and c.from_residual.result c.from_residual.ensures.1 in
    rw (e.1, e.2) c.in_err-set.ensures.first

pub returns-in_err-set-clause-none : goal.returns-in_err-set-clause-none
returns-in_err-set-clause-none c =
    let e = err_from_is_err_and c.from_residual.result c.from_residual.ensures.1 in
    rw (e.1, e.2) c.in_err-set.ensures.none

pub of-requires-clause-few : goal.of-requires-clause-few
of-requires-clause-few c = subst (λ xs. length xs ≤ 65536) (sym c.deref-2.ensures.value) c.in_ok-set.set.few_nodes

pub of-requires-clause-few_templates : goal.of-requires-clause-few_templates
of-requires-clause-few_templates c = subst (λ ts. length ts < 2 ^ 32) (sym c.deref.ensures.value) c.in_ok-set.set.few_templates

pub of-requires-clause-below : goal.of-requires-clause-below
of-requires-clause-below c =
    subst (λ xs. NameNodes (length xs) c.deref.result.now) (sym c.deref-2.ensures.value)
    (subst (λ ts. NameNodes (length c.in_ok-set.set.nodes.items) ts) (sym c.deref.ensures.value) c.in_ok-set.set.templates_name_nodes)

pub of-requires-clause-later : goal.of-requires-clause-later
of-requires-clause-later c = subst (λ xs. NameLaterNodes xs) (sym c.deref-2.ensures.value) c.in_ok-set.set.nodes_name_later_nodes

pub segment_widths_of-requires : goal.segment_widths_of-requires
segment_widths_of-requires c = subst (λ xs. NameLaterNodes xs) (sym c.deref-3.ensures.value) c.in_ok-set.set.nodes_name_later_nodes

pub message_widths_of-requires : goal.message_widths_of-requires
message_widths_of-requires c =
    subst (λ xs. NameNodes (length xs) c.deref-4.result.now) (sym c.deref-5.ensures.value)
    (subst (λ ts. NameNodes (length c.in_ok-set.set.nodes.items) ts) (sym c.deref-4.ensures.value) c.in_ok-set.set.templates_name_nodes)

pub returns-in_default-clause-fault : goal.returns-in_default-clause-fault
returns-in_default-clause-fault c = memory_fault (parse_document c.args.text.now) c.no_memory.result.code c.no_memory.result.template
    c.no_memory.ensures.code c.no_memory.ensures.template

pub returns-in_default-clause-first : goal.returns-in_default-clause-first
returns-in_default-clause-first c = memory_first (parse_document c.args.text.now) c.no_memory.result.code c.no_memory.result.template
    c.no_memory.ensures.template

pub returns-in_default-clause-none : goal.returns-in_default-clause-none
returns-in_default-clause-none c other document t at is = other c.no_memory.ensures.code

pub returns-in_default-segment_widths_of-clause-fault : goal.returns-in_default-segment_widths_of-clause-fault
returns-in_default-segment_widths_of-clause-fault c = memory_fault
    (parse_document c.args.text.now) c.no_memory-in_default-segment_widths_of.result.code
    c.no_memory-in_default-segment_widths_of.result.template c.no_memory-in_default-segment_widths_of.ensures.code
    c.no_memory-in_default-segment_widths_of.ensures.template

pub returns-in_default-segment_widths_of-clause-first : goal.returns-in_default-segment_widths_of-clause-first
returns-in_default-segment_widths_of-clause-first c = memory_first
    (parse_document c.args.text.now) c.no_memory-in_default-segment_widths_of.result.code
    c.no_memory-in_default-segment_widths_of.result.template c.no_memory-in_default-segment_widths_of.ensures.template

pub returns-in_default-segment_widths_of-clause-none : goal.returns-in_default-segment_widths_of-clause-none
returns-in_default-segment_widths_of-clause-none c other document t at is = other c.no_memory-in_default-segment_widths_of.ensures.code

pub returns-in_default-message_widths_of-clause-fault : goal.returns-in_default-message_widths_of-clause-fault
returns-in_default-message_widths_of-clause-fault c = memory_fault
    (parse_document c.args.text.now) c.no_memory-in_default-message_widths_of.result.code
    c.no_memory-in_default-message_widths_of.result.template c.no_memory-in_default-message_widths_of.ensures.code
    c.no_memory-in_default-message_widths_of.ensures.template

pub returns-in_default-message_widths_of-clause-first : goal.returns-in_default-message_widths_of-clause-first
returns-in_default-message_widths_of-clause-first c = memory_first
    (parse_document c.args.text.now) c.no_memory-in_default-message_widths_of.result.code
    c.no_memory-in_default-message_widths_of.result.template c.no_memory-in_default-message_widths_of.ensures.template

pub returns-in_default-message_widths_of-clause-none : goal.returns-in_default-message_widths_of-clause-none
returns-in_default-message_widths_of-clause-none c other document t at is = other c.no_memory-in_default-message_widths_of.ensures.code
