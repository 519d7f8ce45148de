use Rattle.std.proofs.Common.{◌≡◌, ◌+◌, ◌≤◌, ◌∷◌, [], ◌++◌, map, take, length, refl, ap, sym, ◌∙◌, subst, arith, slice_get, Some}
use Rattle.std.proofs.lemmas.List.{map_more, take-map, length-map, length-take-le, map-append}
use Rattle.std.proofs.lemmas.List.Elements.{All-get_or}
use Rattle.std.proofs.lemmas.Option.{slice_get_read, slice_get_within, get_or_from_slice_get}
use Rattle.fast_tree.specs.meaning.AsWritten.{DeclaredTemplate}
use Rattle.fast_notation.specs.device.Built.{AreBuilt, IsBuilt, data_of}
use Rattle.fast_notation.specs.device.Chains.{Fits}
use Rattle.fast_tree.specs.meaning.Entries.{scope_of}
use Rattle.fast_notation.specs.device.EntryKeys.{entries_of}
use Rattle.fast_tree.specs.meaning.NodeData.{node_data, outline}
use Rattle.fast_tree.specs.meaning.Sizes.{nesting_limit}
use Rattle.fast_notation.specs.device.WrittenSets.{written_data}
use Rattle.fast_notation.proofs.nodes.BuildingNeeds.{can_build_template}
use Rattle.fast_notation.proofs.nodes.BuiltSets.{are_built_more, room_for_template}
use Rattle.fast_notation.proofs.lists.Lists.{mapped_get}
use Rattle.fast_notation.proofs.building.Builder.build.Goals as goal

pub build_fields-requires-clause-can : goal.build_fields-requires-clause-can
build_fields-requires-clause-can c =
    let templates = c.args.self.now.set.now.templates.items in
    let ts = map written_data templates in
    let es = entries_of c.args.self.now.entries.now in
    let k = c.loop-k.k in
    let w = c.written-item.result in
    let d = c.deref-written-items.ensures.value in
    let inside = rw d at c.loop-k-test.true in
    let is = rw d at c.written-item.is in
    let read = slice_get_read templates (length templates) k w refl inside is in
    let here : slice_get ts k ≡ Some (written_data w) = mapped_get written_data templates k w read in
    let fits : Fits ts nesting_limit (written_data w).fields =
    subst (λ (t : DeclaredTemplate). Fits ts nesting_limit t.fields) (get_or_from_slice_get ts k (written_data w) (written_data w) here)
    (All-get_or (λ t. Fits ts nesting_limit t.fields) ts k (written_data w) (slice_get_within ts k (written_data w) here) c.requires.fits) in
    let so_far = subst (λ us. AreBuilt ts es us (map node_data c.loop-k.nodes.items) (map outline c.loop-k.templates.items))
    (sym (take-map written_data k templates)) c.loop-k.invariant in
    let few = room_for_template ts es k (written_data w) (map node_data c.loop-k.nodes.items)
    (map outline c.loop-k.templates.items) c.requires.set.names here so_far c.requires.few in
    rw (c.as_str.ensures.value, c.deref.ensures.value) (can_build_template nesting_limit k (length (data_of c.loop-k.nodes))
    (written_data w) c.requires.set here fits few)

pub loop-k-preserved : goal.loop-k-preserved
loop-k-preserved c =
    let templates = c.args.self.now.set.now.templates.items in
    let ts = map written_data templates in
    let es = entries_of c.args.self.now.entries.now in
    let k = c.loop-k.k in
    let w = c.written-item.result in
    let d = c.deref-written-items.ensures.value in
    let inside = rw d at c.loop-k-test.true in
    let is = rw d at c.written-item.is in
    let us = map written_data (take k templates) in
    let more : map written_data (take (k + 1) templates) ≡ us ++ written_data w ∷ [] = map_more written_data templates k w inside
    ∙ ap (λ u. us ++ written_data u ∷ []) (sym is) in
    let long : k ≡ length us = sym (length-map (take k templates) written_data
    ∙ length-take-le k templates (let e : k ≤ length templates = omega (arith, inside) in e)) in
    let here : IsBuilt ts es nesting_limit (scope_of k (written_data w)) (written_data w).fields (data_of c.loop-k.nodes)
    (data_of c.build_fields.new.nodes) [] c.build_fields.new.body.items =
    rw (c.as_str.ensures.value, c.deref.ensures.value, c.new-body.ensures.items) at c.in_ok-build_fields.ensures in
    let pushed : c.push.new.self.items ≡ c.loop-k.templates.items ++ c.in_ok-template_of.field-0 ∷ [] = c.in_ok-push.ensures.items in
    let outlines = ap (map outline) pushed ∙ map-append outline c.loop-k.templates.items (c.in_ok-template_of.field-0 ∷ [])
    ∙ ap (λ o. map outline c.loop-k.templates.items ++ o ∷ []) c.in_ok-template_of.ensures in
    rw (more, outlines)
    (are_built_more ts es us (written_data w) k (data_of c.loop-k.nodes) (data_of c.build_fields.new.nodes)
    (map outline c.loop-k.templates.items) c.build_fields.new.body.items long c.loop-k.invariant here)
