use Rattle.std.proofs.Common.{◌≡◌, map, take, length, refl, sym, subst, ap, ◌∙◌, true, false}
use Rattle.std.specs.Prelude.{All, IsSome, is_some}
use Rattle.std.specs.List.{list_all}
use Rattle.std.specs.HashMap.{get_by_text}
use Rattle.std.proofs.lemmas.List.{take-map}
use Rattle.std.proofs.lemmas.List.Elements.{All-more, All-map}
use Rattle.std.proofs.lemmas.Option.{slice_get_read}
use Rattle.fast_tree.specs.meaning.AsWritten.{DeclaredTemplate, all_references}
use Rattle.fast_tree.specs.device.Places.{place_of_name}
use Rattle.fast_notation.specs.device.References.{references_in}
use Rattle.fast_notation.specs.device.WrittenSets.{written_data}
use Rattle.fast_notation.proofs.lists.Lists.{all_taken, mapped_get}
use Rattle.fast_notation.proofs.lists.ReferenceLists.{all_known, unknown_at}
use Rattle.fast_notation.proofs.checks.check_references.Goals as goal

pub loop-k-preserved : goal.loop-k-preserved
loop-k-preserved c =
    let ts = map written_data c.args.templates.now in
    let look = get_by_text c.args.names.now in
    let t = c.index-templates-k.result in
    let passed : list_all (λ q. is_some (look q)) (references_in t.fields.items) ≡ true =
    sym (c.if-not-are_known.ensures ∙ ap (λ fs. list_all (λ q. is_some (look q)) (references_in fs)) c.deref.ensures.value) in
    let here = all_known look ts (references_in t.fields.items) c.requires.index passed in
    All-more (λ u. All (λ name. IsSome (place_of_name name ts)) (all_references (written_data u).fields)) c.args.templates.now c.loop-k.k t
    c.loop-k-test.true c.loop-k.invariant (rw c.index-templates-k.is at here)

pub returns-clause-known : goal.returns-clause-known
returns-clause-known c =
    let ts = map written_data c.args.templates.now in
    All-map (λ (t : DeclaredTemplate). All (λ name. IsSome (place_of_name name ts)) (all_references t.fields)) written_data c.args.templates.now
    (all_taken (λ t. All (λ name. IsSome (place_of_name name ts)) (all_references (written_data t).fields)) c.args.templates.now c.loop-k.k
    c.loop-k-test.false c.loop-k.invariant)

pub returns-then-not-are_known-clause-fault : goal.returns-then-not-are_known-clause-fault
returns-then-not-are_known-clause-fault c =
    let ts = c.args.templates.now in
    let look = get_by_text c.args.names.now in
    let t = c.index-templates-k.result in
    let read = slice_get_read ts (length ts) c.loop-k.k t refl c.loop-k-test.true c.index-templates-k.is in
    let failed : list_all (λ q. is_some (look q)) (references_in t.fields.items) ≡ false =
    sym (c.if-not-are_known.ensures ∙ ap (λ fs. list_all (λ q. is_some (look q)) (references_in fs)) c.deref.ensures.value) in
    rw c.fault_at.ensures (unknown_at look (map written_data ts) c.loop-k.k (written_data t) c.requires.index
    (mapped_get written_data ts c.loop-k.k t read) failed)

pub returns-then-not-are_known-clause-first : goal.returns-then-not-are_known-clause-first
returns-then-not-are_known-clause-first c =
    let us = c.args.templates.now in
    let ts = map written_data us in
    let known = λ (t : DeclaredTemplate). All (λ name. IsSome (place_of_name name ts)) (all_references t.fields) in
    rw c.fault_at.ensures (
      refl,
      subst (All known) (sym (take-map written_data c.loop-k.k us))
          (All-map known written_data (take c.loop-k.k us) c.loop-k.invariant),
    )
