use Rattle.std.proofs.Common.{◌≡◌, ◌++◌, ◌∙◌, sym, ap, string_bytes, append_assoc, append-nil, drop, ◌+◌, Some, None}
use Rattle.std.specs.List.{filter_map}
use Rattle.std.specs.HashMap.{get_by_text}
use Rattle.fast_tree.specs.meaning.AsWritten.{references}
use Rattle.fast_notation.specs.device.References.{references_in}
use Rattle.fast_notation.specs.device.WrittenSets.{instruction_data}
use Rattle.fast_notation.proofs.references.Targets.{targets_left, one_target, no_target}
use Rattle.fast_notation.proofs.cycles.+targets.Goals as goal

pub add_target-returns-in_ok-push-in-Reference : goal.add_target-returns-in_ok-push-in-Reference
add_target-returns-in_ok-push-in-Reference t c =
    let look = get_by_text c.args.names.now in
    let found : Some c.in-Some.number.now ≡ look (string_bytes c.in-Reference.name) = rw c.as_str.ensures.value at c.in-Some.ensures.value in
    c.in_ok-push-in-Reference.ensures.items ∙ ap (λ js. c.args.targets.now.items ++ js)
    (one_target look c.in-Reference.name c.in-Some.number found
    ∙ sym (ap (λ i. filter_map look (references (instruction_data i))) c.in-Reference.is))

pub add_target-returns-in_default : goal.add_target-returns-in_default
add_target-returns-in_default t c =
    let look = get_by_text c.args.names.now in
    let missing : None ≡ look (string_bytes c.in-Reference.name) = rw c.as_str.ensures.value at c.in_default.ensures.value in
    let none = ap (λ i. filter_map look (references (instruction_data i))) c.in-Reference.is ∙ no_target look c.in-Reference.name (sym missing) in
    sym (append-nil c.args.targets.now.items) ∙ ap (λ js. c.args.targets.now.items ++ js) (sym none)

pub add_targets-loop-field-preserved : goal.add_targets-loop-field-preserved
add_targets-loop-field-preserved t c =
    let look = get_by_text c.args.names.now in
    let fs = c.args.fields.now in
    let i = c.loop-field.field-index in
    let before = c.loop-field.targets.items in
    let here = filter_map look (references (instruction_data c.field-item.result)) in
    let rest = filter_map look (references_in (drop (i + 1) fs)) in
    let left = targets_left look fs i c.field-item.result c.loop-field-test.true
    ∙ ap (λ f. filter_map look (references (instruction_data f)) ++ rest) (sym c.field-item.is) in
    ap (λ xs. xs ++ rest) c.in_ok-add_target.ensures ∙ append_assoc before here rest ∙ ap (λ xs. before ++ xs) (sym left) ∙ c.loop-field.invariant
