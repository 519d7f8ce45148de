use Rattle.std.proofs.Common.{◌≡◌, ◌∷◌, ◌++◌, ap, sym, ◌∙◌, arith, suc, None, drop, map, get_or, append_assoc, add-one}
use Rattle.std.specs.HashMap.{get_by_text}
use Rattle.fast_notation.specs.device.Extents.{named_extent, next_extents, or_extent, extent_by, nothing}
use Rattle.fast_notation.specs.device.WrittenSets.{fields_data, written_data}
use Rattle.fast_notation.specs.declared.written.WrittenTemplate.{WrittenTemplate}
use Rattle.fast_notation.proofs.references.ChainLaws.{next_one}
use Rattle.fast_notation.proofs.chains.next_extents.Goals as goal
use Rattle.fast_notation.proofs.chains.next_extents.Goals.{in-Some, in-None}

pub loop-k-preserved : goal.loop-k-preserved
loop-k-preserved c =
    let es = c.args.extents.now in
    let ts = c.args.templates.now in
    let k = c.loop-k.k in
    let t = c.index-templates-k.result in
    let of = named_extent (get_by_text c.args.names.now) es in
    let size = c.requires in
    let x = c.match-extents-k.extent in
    let there = c.loop-k-test.true in
    let rest = next_extents of (drop (suc k) es) (map written_data (drop (suc k) ts)) in
    let other = extent_by of (written_data (get_or ts k t)).fields nothing in
    let fields = ap (λ (u : WrittenTemplate). extent_by of (fields_data u.fields.items) nothing) c.index-templates-k.is in
    let is : x ≡ or_extent (get_or es k None) other = elim c.match-extents-k.branch [
      | in-Some w ↦ w.extent-is ∙ sym (ap (λ o. or_extent o other) w.in-Some.is)
      | in-None w ↦ w.extent-is ∙ w.extent_of_fields-extent.ensures
          ∙ ap (λ fs. extent_by of (fields_data fs) nothing) w.deref.ensures.value ∙ fields ∙ sym (ap (λ o. or_extent o other) w.in-None.is)
    ] in
    let next = next_one of k es ts None t (omega (arith, size, there)) there in
    rw (c.in_ok-push.ensures.items, append_assoc, add-one)
    (ap (λ e. c.loop-k.next.items ++ e ∷ rest) is ∙ ap (λ n. c.loop-k.next.items ++ n) (sym next) ∙ c.loop-k.invariant)
