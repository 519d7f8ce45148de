use Rattle.std.proofs.Common.{◌≡◌, ◌≢◌, sym, ◌<◌, ◌≤◌, ℕ, suc, map, length, take, subst, Some}
use Rattle.std.specs.Prelude.{All, AllPairs, IfSome, sum_by}
use Rattle.std.proofs.lemmas.Result.{on_ok_weaker, IfErr-weaker, err_from_is_err_and}
use Rattle.fast_notation.specs.declared.codes.StaticCode.TheVariants.{C3, C4, C6}
use Rattle.fast_notation.specs.device.Extents.{known_nodes, AreExtents, IsShallow, IsDeepAt}
use Rattle.fast_notation.specs.meaning.Faults.{IsFaultAt}
use Rattle.fast_notation.specs.meaning.Firsts.{IsFirstInChains}
use Rattle.fast_notation.specs.meaning.Refused.{StandsAt}
use Rattle.fast_tree.specs.meaning.Sizes.{nesting_limit, node_limit}
use Rattle.fast_notation.specs.device.WrittenSets.{written_data}
use Rattle.fast_notation.proofs.references.ChainFaults.{all_fit, all_shallow, few_nodes, deep_fault, many_fault, cycle_first, deep_first, many_first}
use Rattle.fast_notation.proofs.chains.check_chains.Goals as goal

pub returns-in_err-check_depths-clause-fault : goal.returns-in_err-check_depths-clause-fault
returns-in_err-check_depths-clause-fault c =
    let ts = map written_data c.args.set.now.templates.items in
    let es = c.in-Ok.extents.items in
    let found : AreExtents ts (suc nesting_limit) es = subst
    (λ us. AreExtents (map written_data us) (suc nesting_limit) es) c.deref.ensures.value c.in-Ok.ensures in
    let fault = c.in_err-check_depths.field-0.0 in
    let deep = subst (λ xs. (k : ℕ) × (fault.code ≡ C4) × (fault.template ≡ Some k) × IsDeepAt xs k) c.deref-3.ensures.value
    c.in_err-check_depths.ensures.fault in
    let r = err_from_is_err_and c.from_residual-in_err-check_depths.result c.from_residual-in_err-check_depths.ensures.1 in
    rw (r.1, r.2) (deep_fault ts es c.requires.apart c.requires.known c.requires.sound found fault deep)

pub returns-clause-fits : goal.returns-clause-fits
returns-clause-fits c =
    let ts = map written_data c.args.set.now.templates.items in
    let es = c.in-Ok.extents.items in
    let found : AreExtents ts (suc nesting_limit) es = subst
    (λ us. AreExtents (map written_data us) (suc nesting_limit) es) c.deref.ensures.value c.in-Ok.ensures in
    let shallow : All IsShallow es = subst (All IsShallow) c.deref-3.ensures.value c.in_ok-check_depths.ensures.shallow in
    on_ok_weaker c.check_nodes.result (λ (few : sum_by known_nodes c.deref-4.result.now ≤ node_limit). all_fit ts es found shallow) c.check_nodes.ensures.few

pub returns-clause-shallow : goal.returns-clause-shallow
returns-clause-shallow c =
    let ts = map written_data c.args.set.now.templates.items in
    let es = c.in-Ok.extents.items in
    let found : AreExtents ts (suc nesting_limit) es = subst
    (λ us. AreExtents (map written_data us) (suc nesting_limit) es) c.deref.ensures.value c.in-Ok.ensures in
    let shallow : All IsShallow es = subst (All IsShallow) c.deref-3.ensures.value c.in_ok-check_depths.ensures.shallow in
    on_ok_weaker c.check_nodes.result (λ (few : sum_by known_nodes c.deref-4.result.now ≤ node_limit). all_shallow ts es found shallow)
    c.check_nodes.ensures.few

pub returns-clause-few_nodes : goal.returns-clause-few_nodes
returns-clause-few_nodes c =
    let ts = map written_data c.args.set.now.templates.items in
    let es = c.in-Ok.extents.items in
    let found : AreExtents ts (suc nesting_limit) es = subst
    (λ us. AreExtents (map written_data us) (suc nesting_limit) es) c.deref.ensures.value c.in-Ok.ensures in
    let shallow : All IsShallow es = subst (All IsShallow) c.deref-3.ensures.value c.in_ok-check_depths.ensures.shallow in
    on_ok_weaker c.check_nodes.result
    (λ (few : sum_by known_nodes c.deref-4.result.now ≤ node_limit). few_nodes ts es found shallow
    (subst (λ xs. sum_by known_nodes xs ≤ node_limit) c.deref-4.ensures.value few)) c.check_nodes.ensures.few

pub returns-clause-fault : goal.returns-clause-fault
returns-clause-fault c =
    let ts = map written_data c.args.set.now.templates.items in
    let es = c.in-Ok.extents.items in
    let found : AreExtents ts (suc nesting_limit) es = subst
    (λ us. AreExtents (map written_data us) (suc nesting_limit) es) c.deref.ensures.value c.in-Ok.ensures in
    let shallow : All IsShallow es = subst (All IsShallow) c.deref-3.ensures.value c.in_ok-check_depths.ensures.shallow in
    IfErr-weaker c.check_nodes.result
    (λ fault. (k : ℕ) × (fault.code ≡ C6) × (fault.template ≡ Some k) × (k < length c.deref-4.result.now)
    × (node_limit < sum_by known_nodes (take (suc k) c.deref-4.result.now)))
    (λ fault. IsFaultAt ts fault.code fault.template)
    (λ fault many.
    many_fault ts es c.requires.apart c.requires.known c.requires.sound found shallow fault
    (subst (λ xs. (k : ℕ) × (fault.code ≡ C6) × (fault.template ≡ Some k) × (k < length xs)
    × (node_limit < sum_by known_nodes (take (suc k) xs))) c.deref-4.ensures.value many))
    c.check_nodes.ensures.fault

pub returns-in_err-check_cycles-clause-first : goal.returns-in_err-check_cycles-clause-first
returns-in_err-check_cycles-clause-first c =
    let ts = map written_data c.args.set.now.templates.items in
    let r = err_from_is_err_and c.from_residual.result c.from_residual.ensures.1 in
    let e = c.in_err-check_cycles.field-0.0 in
    let same = c.deref-then-not-are_known.ensures.value in
    let apart = subst (λ us. AllPairs (λ a b. a.name ≢ b.name) (map written_data us)) (sym same) c.requires.apart in
    let first = subst (λ us. IfSome e.template (λ k. (e.code ≡ C3) × ((j : ℕ) → j < k → ¬ (StandsAt (map written_data us) C3 j)))) same
    (c.in_err-check_cycles.ensures.first apart) in
    rw (r.1, r.2) (cycle_first ts e first)

pub returns-in_err-check_depths-clause-first : goal.returns-in_err-check_depths-clause-first
returns-in_err-check_depths-clause-first c =
    let ts = map written_data c.args.set.now.templates.items in
    let es = c.in-Ok.extents.items in
    let found : AreExtents ts (suc nesting_limit) es = subst
    (λ us. AreExtents (map written_data us) (suc nesting_limit) es) c.deref.ensures.value c.in-Ok.ensures in
    let fault = c.in_err-check_depths.field-0.0 in
    let first = subst (λ xs. (k : ℕ) × (fault.code ≡ C4) × (fault.template ≡ Some k) × All IsShallow (take k xs)) c.deref-3.ensures.value
    c.in_err-check_depths.ensures.first in
    let r = err_from_is_err_and c.from_residual-in_err-check_depths.result c.from_residual-in_err-check_depths.ensures.1 in
    rw (r.1, r.2) (deep_first ts es found fault first)

pub returns-clause-first : goal.returns-clause-first
returns-clause-first c =
    let ts = map written_data c.args.set.now.templates.items in
    let es = c.in-Ok.extents.items in
    let found : AreExtents ts (suc nesting_limit) es = subst
    (λ us. AreExtents (map written_data us) (suc nesting_limit) es) c.deref.ensures.value c.in-Ok.ensures in
    let shallow : All IsShallow es = subst (All IsShallow) c.deref-3.ensures.value c.in_ok-check_depths.ensures.shallow in
    IfErr-weaker c.check_nodes.result
    (λ fault. (k : ℕ) × (fault.code ≡ C6) × (fault.template ≡ Some k) × (sum_by known_nodes (take k c.deref-4.result.now) ≤ node_limit))
    (λ fault. IfSome fault.template (IsFirstInChains ts fault.code))
    (λ fault few.
    many_first ts es found shallow fault (subst (λ xs. (k : ℕ) × (fault.code ≡ C6) × (fault.template ≡ Some k)
    × (sum_by known_nodes (take k xs) ≤ node_limit)) c.deref-4.ensures.value few))
    c.check_nodes.ensures.first
