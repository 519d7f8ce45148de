use Rattle.std.proofs.Common.{◌≡◌, ◌+◌, ◌*◌, [], suc, refl, map, length, ap, sym, ◌∙◌, subst, arith, string_bytes, false, slice_get, Some, length-append}
use Rattle.std.specs.Prelude.{option_map}
use Rattle.std.proofs.lemmas.List.{length-map}
use Rattle.std.proofs.lemmas.Option.{slice_get_within, slice_get_read}
use Rattle.std.proofs.lemmas.Result.{on_ok_weaker}
use Rattle.fast_notation.proofs.lists.Lists.{mapped_get}
use Rattle.fast_tree.specs.meaning.AsWritten.{DeclaredTemplate, reference, no_more, more, length_use}
use Rattle.fast_notation.specs.device.Built.{data_of, CanBuild, IsBuilt}
use Rattle.fast_notation.specs.device.EntryKeys.{scope_data, entries_of}
use Rattle.fast_tree.specs.meaning.NodeData.{a_group as a_group_data, node_data}
use Rattle.fast_tree.specs.meaning.Nodes.{field_data}
use Rattle.fast_notation.specs.meaning.Uses.{IsField}
use Rattle.fast_notation.specs.device.WrittenSets.{operator_data, instruction_data, fields_data, written_data}
use Rattle.fast_notation.proofs.nodes.BuiltLists.{same_items, one_longer, built_none, built_more, built_group, built_sequence, built_reference}
use Rattle.fast_notation.proofs.nodes.BuildingNeeds.{weight, weight_at, measure, next_smaller, can_build_next, can_build_group}
use Rattle.fast_notation.proofs.nodes.BuildingNeeds.{length_ready, can_build_sequence, chain_some, can_build_reference, looked_up, some_is}
use Rattle.fast_notation.proofs.texts.InstructionForms.{scalar_form, parts_form, group_form, sequence_form, reference_form}
use Rattle.fast_notation.proofs.building.Builder.+building.Goals as goal

pub build_fields-loop-field-init : goal.build_fields-loop-field-init
build_fields-loop-field-init t c = built_none (data_of c.args.nodes.now) c.args.body.now.items

pub build_fields-build_instruction-requires : goal.build_fields-build_instruction-requires
build_fields-build_instruction-requires t c =
    let fs = c.args.fields.now in
    let i = c.loop-field.field-index in
    let ts = map written_data c.args.self.now.set.now.templates.items in
    let w = weight_at fs i c.field-item.result c.loop-field-test.true in
    let same = ap (λ d. weight (more (instruction_data d) no_more)) c.field-item.is in
    let d : measure (map written_data c.args.self.now.set.now.templates.items) c.args.at.chain (3 * weight (fields_data fs) + 1) ≡ t = c.decreases in
    let can = can_build_next fs i c.field-item.result (data_of c.args.nodes.now)
    (data_of c.loop-field.nodes) c.args.body.now.items c.loop-field.body.items c.requires.set.names c.loop-field-test.true
    c.loop-field.invariant c.requires.can in (
      omega (arith, w, same, d),
      (
        c.requires.set,
        subst (λ d. CanBuild ts (entries_of c.args.self.now.entries.now) c.args.at.chain (scope_data c.args.at.scope)
            (more (instruction_data d) no_more) (length (data_of c.loop-field.nodes))) (sym c.field-item.is) can,
      ),
    )

pub build_fields-loop-field-preserved : goal.build_fields-loop-field-preserved
build_fields-loop-field-preserved t c =
    let here = rw c.field-item.is at c.in_ok-build_instruction.ensures in
    built_more c.args.fields.now c.loop-field.field-index c.field-item.result (data_of c.args.nodes.now) (data_of c.loop-field.nodes)
    (data_of c.build_instruction.new.nodes) c.args.body.now.items c.loop-field.body.items c.build_instruction.new.body.items
    c.loop-field-test.true c.loop-field.invariant here

pub build_instruction-build_scalar-requires-clause-can : goal.build_instruction-build_scalar-requires-clause-can
build_instruction-build_scalar-requires-clause-can t c =
    let ts = map written_data c.args.self.now.set.now.templates.items in
    let es = entries_of c.args.self.now.entries.now in
    let s = scope_data c.args.at.scope in
    let n = length (data_of c.args.nodes.now) in
    let e = ap instruction_data c.in-Scalar.is ∙ scalar_form c.in-Scalar.name c.in-Scalar.optional c.in-Scalar.kind c.in-Scalar.operator in
    rw c.as_str-name.ensures.value (subst (λ d. CanBuild ts es c.args.at.chain s (more d no_more) n) e c.requires.can)

pub build_instruction-returns-in-Scalar : goal.build_instruction-returns-in-Scalar
build_instruction-returns-in-Scalar t c =
    let e = ap instruction_data c.in-Scalar.is ∙ scalar_form c.in-Scalar.name c.in-Scalar.optional c.in-Scalar.kind c.in-Scalar.operator in
    rw e (rw c.as_str-name.ensures.value at c.build_scalar.ensures)

pub build_instruction-build_parts-requires-clause-can : goal.build_instruction-build_parts-requires-clause-can
build_instruction-build_parts-requires-clause-can t c =
    let ts = map written_data c.args.self.now.set.now.templates.items in
    let es = entries_of c.args.self.now.entries.now in
    let s = scope_data c.args.at.scope in
    let n = length (data_of c.args.nodes.now) in
    let e = ap instruction_data c.in-Parts.is ∙ parts_form c.in-Parts.name c.in-Parts.optional c.in-Parts.exponent c.in-Parts.mantissa in
    rw c.as_str-name-in-Parts.ensures.value (subst (λ d. CanBuild ts es c.args.at.chain s (more d no_more) n) e c.requires.can)

pub build_instruction-returns-in-Parts : goal.build_instruction-returns-in-Parts
build_instruction-returns-in-Parts t c =
    let e = ap instruction_data c.in-Parts.is ∙ parts_form c.in-Parts.name c.in-Parts.optional c.in-Parts.exponent c.in-Parts.mantissa in
    rw e (rw c.as_str-name-in-Parts.ensures.value at c.build_parts.ensures)

pub build_instruction-build_group-requires : goal.build_instruction-build_group-requires
build_instruction-build_group-requires t c =
    let ts = map written_data c.args.self.now.set.now.templates.items in
    let es = entries_of c.args.self.now.entries.now in
    let s = scope_data c.args.at.scope in
    let n = length (data_of c.args.nodes.now) in
    let e = ap instruction_data c.in-Group.is ∙ group_form c.in-Group.name c.in-Group.optional c.in-Group.fields in
    let can = can_build_group (string_bytes c.in-Group.name) c.in-Group.optional (fields_data c.in-Group.fields.items) n
    (subst (λ d. CanBuild ts es c.args.at.chain s (more d no_more) n) e c.requires.can) in
    let d : measure ts c.args.at.chain (3 * weight (more (instruction_data c.args.instruction.now) no_more)) ≡ t = c.decreases in
    let w : weight (more (instruction_data c.args.instruction.now) no_more) ≡ suc (weight (fields_data c.in-Group.fields.items)) + 0 =
    ap (λ i. weight (more i no_more)) e in
    rw c.deref.ensures.value (omega (arith, d, w), (c.requires.set, can))

pub build_instruction-length_of-requires-clause-ready : goal.build_instruction-length_of-requires-clause-ready
build_instruction-length_of-requires-clause-ready t c =
    let ts = map written_data c.args.self.now.set.now.templates.items in
    let es = entries_of c.args.self.now.entries.now in
    let s = scope_data c.args.at.scope in
    let n = length (data_of c.args.nodes.now) in
    let name = string_bytes c.in-Sequence.name in
    let own = option_map string_bytes c.in-Sequence.length_name in
    let w = operator_data c.in-Sequence.length in
    let e = ap instruction_data c.in-Sequence.is ∙ sequence_form c.in-Sequence.name c.in-Sequence.optional c.in-Sequence.length_name
    c.in-Sequence.length c.in-Sequence.fields in
    rw c.as_str-name-in-Sequence.ensures.value (length_ready name c.in-Sequence.optional own w (fields_data c.in-Sequence.fields.items) n
    (subst (λ d. CanBuild ts es c.args.at.chain s (more d no_more) n) e c.requires.can))

pub build_instruction-build_sequence-requires : goal.build_instruction-build_sequence-requires
build_instruction-build_sequence-requires t c =
    let ts = map written_data c.args.self.now.set.now.templates.items in
    let es = entries_of c.args.self.now.entries.now in
    let s = scope_data c.args.at.scope in
    let n = length (data_of c.args.nodes.now) in
    let e = ap instruction_data c.in-Sequence.is ∙ sequence_form c.in-Sequence.name c.in-Sequence.optional c.in-Sequence.length_name
    c.in-Sequence.length c.in-Sequence.fields in
    let can = can_build_sequence (string_bytes c.in-Sequence.name) c.in-Sequence.optional
    (option_map string_bytes c.in-Sequence.length_name) (operator_data c.in-Sequence.length) (fields_data c.in-Sequence.fields.items) n
    (subst (λ d. CanBuild ts es c.args.at.chain s (more d no_more) n) e c.requires.can) in
    let d : measure ts c.args.at.chain (3 * weight (more (instruction_data c.args.instruction.now) no_more)) ≡ t = c.decreases in
    let w : weight (more (instruction_data c.args.instruction.now) no_more) ≡ suc (weight (fields_data c.in-Sequence.fields.items)) + 0 =
    ap (λ i. weight (more i no_more)) e in
    rw c.deref-in-Sequence.ensures.value (omega (arith, d, w), (c.requires.set, can))

pub build_group-returns : goal.build_group-returns
build_group-returns t c =
    let old = data_of c.args.nodes.now in
    let k = c.args.nodes.now.ok in
    let l = length-map c.args.nodes.now.items node_data in
    let n = c.len-number.ensures in
    let number : c.len-number.result ≡ length old = omega (arith, k, l, n) in
    let shaped = rw (c.deref_mut.ensures.value, number) at c.set_shape.ensures in
    let first = rw c.empty_group.ensures at c.in_ok-add_node.ensures.nodes in
    let inner = rw c.new-inner.ensures.items at c.in_ok-build_fields.ensures in
    let same = same_items c.build_fields.new.nodes c.set_shape.new.nodes (length old) _ shaped in
    rw same (built_group c.args.name.now c.args.optional (fields_data c.args.fields.now) (a_group_data false []) old
    (data_of c.add_node.new.nodes) (data_of c.build_fields.new.nodes)
    (map node_data c.set_shape.new.nodes) c.args.body.now.items c.add_node.new.body.items c.build_fields.new.body.items
    first inner shaped c.in_ok-add_node.ensures.body)

pub build_sequence-returns : goal.build_sequence-returns
build_sequence-returns t c optional own w is =
    let old = data_of c.args.nodes.now in
    let k = c.args.nodes.now.ok in
    let l = length-map c.args.nodes.now.items node_data in
    let n = c.len-number.ensures in
    let number : c.len-number.result ≡ length old = omega (arith, k, l, n) in
    let shaped = rw (c.deref_mut.ensures.value, number) at c.set_shape.ensures in
    let first = rw c.empty_group.ensures at c.in_ok-add_node.ensures.nodes in
    let inner = rw c.new-inner.ensures.items at c.in_ok-build_fields.ensures in
    let same = same_items c.build_fields.new.nodes c.set_shape.new.nodes (length old) _ shaped in
    rw same (built_sequence c.args.name.now optional own w (field_data c.args.sent) (fields_data c.args.fields.now)
    (a_group_data false []) old (data_of c.add_node.new.nodes) (data_of c.build_fields.new.nodes)
    (map node_data c.set_shape.new.nodes) c.args.body.now.items c.add_node.new.body.items c.build_fields.new.body.items
    is first inner shaped c.in_ok-add_node.ensures.body)

pub build_reference-behind_reference-at-requires :
    goal.build_reference-behind_reference-at-requires
build_reference-behind_reference-at-requires t c = chain_some
    (map written_data c.args.self.now.set.now.templates.items) c.args.at.chain c.args.name.now no_more c.requires.1.1.1.fits

pub build_reference-index-template-requires : goal.build_reference-index-template-requires
build_reference-index-template-requires t c =
    let templates = c.args.self.now.set.now.templates in
    let ts = map written_data templates.items in
    let found = looked_up c.args.name.now c.in-Some.number c.requires.1.1.0 (sym c.get.ensures.value ∙ sym c.copied.ensures ∙ c.in-Some.is) in
    let inside = slice_get_within ts c.in-Some.number found.0 found.1 in
    let l = length-map templates.items written_data in
    let ok = templates.ok in
    omega (arith, inside, l, ok)

pub build_reference-build_fields-requires : goal.build_reference-build_fields-requires
build_reference-build_fields-requires t c =
    let templates = c.args.self.now.set.now.templates in
    let ts = map written_data templates.items in
    let es = entries_of c.args.self.now.entries.now in
    let k = c.in-Some.number in
    let w = c.index-template.result.now in
    let n = length (data_of c.args.nodes.now) in
    let set = c.requires.1.1.0 in
    let can = c.requires.1.1.1 in
    let found = looked_up c.args.name.now k set (sym c.get.ensures.value ∙ sym c.copied.ensures ∙ c.in-Some.is) in
    let l = length-map templates.items written_data in
    let inside = slice_get_within ts k found.0 found.1 in
    let read = slice_get_read templates.items (length templates.items) k w refl (omega (arith, inside, l)) c.index-template.ensures in
    let here : slice_get ts k ≡ Some (written_data w) = mapped_get written_data templates.items k w read in
    let same = ap (λ (t : DeclaredTemplate). t.name) (some_is (sym here ∙ found.1)) ∙ found.2 in
    let at = c.behind_reference-at in
    let next = can_build_reference at.result.chain k n (scope_data c.args.at.scope) c.args.name.now (written_data w) set here same
    (subst (λ chain. CanBuild ts es chain (scope_data c.args.at.scope) (more (reference c.args.name.now) no_more) n) (sym at.ensures.chain) can) in
    let d : measure ts (suc at.result.chain) 2 ≡ t = rw at.ensures.chain c.requires.1.0 in
    let smaller = next_smaller ts k at.result.chain (written_data w) here in
    rw (at.ensures.scope, c.instructions.ensures) (omega (arith, d, smaller), (set, next))

pub build_reference-returns : goal.build_reference-returns
build_reference-returns t c =
    let templates = c.args.self.now.set.now.templates in
    let ts = map written_data templates.items in
    let es = entries_of c.args.self.now.entries.now in
    let k = c.in-Some.number in
    let w = c.index-template.result.now in
    let set = c.requires.1.1.0 in
    let can = c.requires.1.1.1 in
    let found = looked_up c.args.name.now k set (sym c.get.ensures.value ∙ sym c.copied.ensures ∙ c.in-Some.is) in
    let l = length-map templates.items written_data in
    let inside = slice_get_within ts k found.0 found.1 in
    let read = slice_get_read templates.items (length templates.items) k w refl (omega (arith, inside, l)) c.index-template.ensures in
    let here : slice_get ts k ≡ Some (written_data w) = mapped_get written_data templates.items k w read in
    let same = ap (λ (t : DeclaredTemplate). t.name) (some_is (sym here ∙ found.1)) ∙ found.2 in
    let at = c.behind_reference-at in
    let old = data_of c.args.nodes.now in
    let new = data_of c.build_fields.new.nodes in
    let before = c.args.body.now.items in
    let after = c.build_fields.new.body.items in
    on_ok_weaker c.build_fields.result
    (λ h. subst (λ chain. IsBuilt ts es chain (scope_data c.args.at.scope) (more (reference c.args.name.now) no_more) old new before after) at.ensures.chain
    (built_reference c.args.name.now k (written_data w) old new before after here same (rw (at.ensures.scope, c.instructions.ensures) at h)))
    c.build_fields.ensures

pub build_group-add_node-requires : goal.build_group-add_node-requires
build_group-add_node-requires t c =
    let few = c.requires.1.1.1.few in
    omega (arith, few)

pub build_sequence-add_node-requires : goal.build_sequence-add_node-requires
build_sequence-add_node-requires t c =
    let few = c.requires.1.1.1.few in
    omega (arith, few)

pub build_group-build_fields-requires : goal.build_group-build_fields-requires
build_group-build_fields-requires t c =
    let ts = map written_data c.args.self.now.set.now.templates.items in
    let d : measure ts c.args.at.chain (3 * weight (fields_data c.args.fields.now) + 2) ≡ t = c.requires.1.0 in
    let long : length (data_of c.add_node.new.nodes) ≡ suc (length (data_of c.args.nodes.now)) = ap length c.in_ok-add_node.ensures.nodes
    ∙ one_longer (data_of c.args.nodes.now) _ in (
      omega (arith, d),
      (
        c.requires.1.1.0,
        subst (CanBuild ts (entries_of c.args.self.now.entries.now) c.args.at.chain (scope_data c.args.at.scope)
            (fields_data c.args.fields.now)) (sym long) c.requires.1.1.1,
      ),
    )

pub build_sequence-build_fields-requires : goal.build_sequence-build_fields-requires
build_sequence-build_fields-requires t c =
    let ts = map written_data c.args.self.now.set.now.templates.items in
    let d : measure ts c.args.at.chain (3 * weight (fields_data c.args.fields.now) + 2) ≡ t = c.requires.1.0 in
    let long : length (data_of c.add_node.new.nodes) ≡ suc (length (data_of c.args.nodes.now)) = ap length c.in_ok-add_node.ensures.nodes
    ∙ one_longer (data_of c.args.nodes.now) _ in (
      omega (arith, d),
      (
        c.requires.1.1.0,
        subst (CanBuild ts (entries_of c.args.self.now.entries.now) c.args.at.chain (scope_data c.args.at.scope)
            (fields_data c.args.fields.now)) (sym long) c.requires.1.1.1,
      ),
    )

pub build_instruction-build_scalar-requires-clause-set : goal.build_instruction-build_scalar-requires-clause-set
build_instruction-build_scalar-requires-clause-set t c = c.requires.set

pub build_instruction-build_parts-requires-clause-set : goal.build_instruction-build_parts-requires-clause-set
build_instruction-build_parts-requires-clause-set t c = c.requires.set

pub build_instruction-length_of-requires-clause-few : goal.build_instruction-length_of-requires-clause-few
build_instruction-length_of-requires-clause-few t c = c.requires.set.few

pub build_instruction-build_reference-requires : goal.build_instruction-build_reference-requires
build_instruction-build_reference-requires t c =
    let ts = map written_data c.args.self.now.set.now.templates.items in
    let es = entries_of c.args.self.now.entries.now in
    let s = scope_data c.args.at.scope in
    let n = length (data_of c.args.nodes.now) in
    let e = ap instruction_data c.in-Reference.is ∙ reference_form c.in-Reference.name in
    let can = subst (λ d. CanBuild ts es c.args.at.chain s (more d no_more) n) e c.requires.can in
    let d : measure ts c.args.at.chain (3 * weight (more (instruction_data c.args.instruction.now) no_more)) ≡ t = c.decreases in
    let w : weight (more (instruction_data c.args.instruction.now) no_more) ≡ suc 0 + 0 = ap (λ i. weight (more i no_more)) e in
    rw c.as_str-in-Reference.ensures.value (omega (arith, d, w), (c.requires.set, can))

pub build_instruction-returns-in-Group : goal.build_instruction-returns-in-Group
build_instruction-returns-in-Group t c =
    let e = ap instruction_data c.in-Group.is ∙ group_form c.in-Group.name c.in-Group.optional c.in-Group.fields in
    rw e (rw (c.as_str.ensures.value, c.deref.ensures.value) at c.build_group.ensures)

pub build_instruction-returns-in_ok-length-in-Sequence : goal.build_instruction-returns-in_ok-length-in-Sequence
build_instruction-returns-in_ok-length-in-Sequence t c =
    let es = entries_of c.args.self.now.entries.now in
    let s = scope_data c.args.at.scope in
    let name = string_bytes c.in-Sequence.name in
    let own = option_map string_bytes c.in-Sequence.length_name in
    let w = operator_data c.in-Sequence.length in
    let f = field_data c.in_ok-length-in-Sequence.length in
    let e = ap instruction_data c.in-Sequence.is ∙ sequence_form c.in-Sequence.name c.in-Sequence.optional c.in-Sequence.length_name
    c.in-Sequence.length c.in-Sequence.fields in
    let is : IsField es s (length_use name c.in-Sequence.optional own w) f =
    subst (λ n. IsField es s (length_use n c.in-Sequence.optional own w) f) c.as_str-name-in-Sequence.ensures.value
    c.in_ok-length-in-Sequence.ensures in
    let there = rw (c.as_str-name-in-Sequence.ensures.value, c.deref-in-Sequence.ensures.value) at c.build_sequence.ensures in
    rw e (on_ok_weaker c.build_sequence.result (λ h. h c.in-Sequence.optional own w is) there)

pub build_instruction-returns-in-Reference : goal.build_instruction-returns-in-Reference
build_instruction-returns-in-Reference t c =
    let e = ap instruction_data c.in-Reference.is ∙ reference_form c.in-Reference.name in
    rw e (rw c.as_str-in-Reference.ensures.value at c.build_reference.ensures)

pub build_group-set_shape-requires : goal.build_group-set_shape-requires
build_group-set_shape-requires t c =
    let mid = data_of c.add_node.new.nodes in
    let k = c.args.nodes.now.ok in
    let l = length-map c.args.nodes.now.items node_data in
    let n = c.len-number.ensures in
    let long : length mid ≡ suc (length (data_of c.args.nodes.now)) = ap length c.in_ok-add_node.ensures.nodes ∙ one_longer (data_of c.args.nodes.now) _ in
    let more = ap length c.in_ok-build_fields.ensures.nodes ∙ length-append mid _ in
    let all = length-map c.build_fields.new.nodes.items node_data in
    let here = ap length c.deref_mut.ensures.value in
    omega (arith, k, l, n, long, more, all, here)

pub build_sequence-set_shape-requires : goal.build_sequence-set_shape-requires
build_sequence-set_shape-requires t c =
    let mid = data_of c.add_node.new.nodes in
    let k = c.args.nodes.now.ok in
    let l = length-map c.args.nodes.now.items node_data in
    let n = c.len-number.ensures in
    let long : length mid ≡ suc (length (data_of c.args.nodes.now)) = ap length c.in_ok-add_node.ensures.nodes ∙ one_longer (data_of c.args.nodes.now) _ in
    let more = ap length c.in_ok-build_fields.ensures.nodes ∙ length-append mid _ in
    let all = length-map c.build_fields.new.nodes.items node_data in
    let here = ap length c.deref_mut.ensures.value in
    omega (arith, k, l, n, long, more, all, here)
