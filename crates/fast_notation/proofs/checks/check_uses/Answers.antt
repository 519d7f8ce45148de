use Rattle.std.proofs.Common.{map, take, length, refl, sym, subst}
use Rattle.std.specs.Prelude.{All}
use Rattle.std.proofs.lemmas.List.{take-map}
use Rattle.std.proofs.lemmas.List.Elements.{All-more, All-map}
use Rattle.std.proofs.lemmas.Option.{slice_get_read}
use Rattle.fast_tree.specs.meaning.AsWritten.{DeclaredTemplate, all_uses}
use Rattle.fast_notation.specs.device.Sound.{IsSound, uses_in, HasFault}
use Rattle.fast_notation.specs.device.WrittenSets.{written_data}
use Rattle.fast_notation.proofs.lists.Lists.{all_taken, mapped_get}
use Rattle.fast_notation.proofs.outcomes.SetFaults.{uses_fault, first_uses_fault}
use Rattle.fast_notation.proofs.checks.check_uses.Goals as goal

pub loop-k-preserved : goal.loop-k-preserved
loop-k-preserved c =
    let sound = subst (λ fs. All IsSound (uses_in fs)) c.deref.ensures.value c.in_default.ensures.sound in
    All-more (λ t. All IsSound (all_uses (written_data t).fields)) c.args.templates.now c.loop-k.k c.index-templates-k.result
    c.loop-k-test.true c.loop-k.invariant (rw c.index-templates-k.is at sound)

pub returns-in-Err-clause-fault : goal.returns-in-Err-clause-fault
returns-in-Err-clause-fault c =
    let ts = c.args.templates.now in
    let t = c.index-templates-k.result in
    let read = slice_get_read ts (length ts) c.loop-k.k t refl c.loop-k-test.true c.index-templates-k.is in
    let fault = subst (λ fs. HasFault c.in-Err.code (uses_in fs)) c.deref.ensures.value c.in-Err.ensures.fault in
    rw c.fault_at.ensures (uses_fault (map written_data ts) c.loop-k.k (written_data t) c.in-Err.code (mapped_get written_data ts c.loop-k.k t read) fault)

pub returns-in-Err-clause-first : goal.returns-in-Err-clause-first
returns-in-Err-clause-first c =
    let ts = c.args.templates.now in
    let fault = subst (λ fs. HasFault c.in-Err.code (uses_in fs)) c.deref.ensures.value c.in-Err.ensures.fault in
    let before = subst (All (λ t. All IsSound (all_uses t.fields))) (sym (take-map written_data c.loop-k.k ts))
    (All-map (λ (t : DeclaredTemplate). All IsSound (all_uses t.fields)) written_data (take c.loop-k.k ts) c.loop-k.invariant) in
    rw c.fault_at.ensures (first_uses_fault (map written_data ts) c.loop-k.k c.in-Err.code (uses_in c.index-templates-k.result.fields.items) fault before)

pub returns-clause-sound : goal.returns-clause-sound
returns-clause-sound c =
    All-map (λ (t : DeclaredTemplate). All IsSound (all_uses t.fields)) written_data c.args.templates.now
    (all_taken (λ t. All IsSound (all_uses (written_data t).fields)) c.args.templates.now c.loop-k.k c.loop-k-test.false c.loop-k.invariant)
