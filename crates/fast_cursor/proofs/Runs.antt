-- Runs of a program's ops.
use Rattle.std.proofs.Common.{refl, sym, ap, subst, ◌∙◌, arith, rules, get_or, set, inl, inr}
use Rattle.std.specs.Prelude.{◌≡◌, ℕ, ◌+◌, ◌-◌, ◌<◌, ◌≤◌, Bool, true, false, if◌then◌else◌, List, [], ◌∷◌, ◌++◌, length, take, drop}
use Rattle.std.proofs.lemmas.Bool.{cases_lt}
use Rattle.std.proofs.lemmas.List.{drop_all, take_all, drop-drop, length-drop, take_more, take_more_set}
use Rattle.fast_program.specs.declared.ops.Op.{Op}
use Rattle.fast_program.specs.device.Runs.{is_end, run_nodes, has_end, HasEnd}
use Rattle.fast_cursor.specs.device.Runs.{run_at, IsRun}
use Rattle.fast_cursor.specs.declared.frames.Frame.{Frame}
use Rattle.fast_cursor.specs.device.Places.{IsAhead}
use Rattle.fast_cursor.specs.device.Segments.{IsRunning, AreRunning}

-- behind the first op of some
node-past : (b : Bool) (n : ℕ) (ns : List ℕ) → 0 < length (if b then [] else n ∷ ns) → ns ≡ drop 1 (if b then [] else n ∷ ns)
node-past true n ns some = absurd (omega (arith, some))
node-past false n ns some = refl

end-past : (b more : Bool) (n : ℕ) (ns : List ℕ) → 0 < length (if b then [] else n ∷ ns) → (if b then true else more) ≡ true → more ≡ true
end-past true more n ns some h = absurd (omega (arith, some))
end-past false more n ns some h = h

pub nodes-past : (ops : List Op) → 0 < length (run_nodes ops) → run_nodes (drop 1 ops) ≡ drop 1 (run_nodes ops)
nodes-past [] some = absurd (omega (arith, some))
nodes-past (op ∷ ops) some = node-past (is_end op.code) op.node (run_nodes ops) some

pub ends-past : (ops : List Op) → 0 < length (run_nodes ops) → HasEnd ops → HasEnd (drop 1 ops)
ends-past [] some h = absurd (omega (arith, some))
ends-past (op ∷ ops) some h = end-past (is_end op.code) (has_end ops) op.node (run_nodes ops) some h

-- The op is there.
pub run-within : (ops : List Op) (at : ℕ) → IsRun ops at → at < length ops
run-within ops at h = elim (cases_lt at (length ops)) [
  | inl l ↦ l
  | inr l ↦ let none : drop at ops ≡ [] = drop_all at ops l in let e : false ≡ true = ap has_end (sym none) ∙ h in absurd (search (rules, e))
]

-- the next place
pub run-next : (ops : List Op) (at : ℕ) → 0 < length (run_at ops at) → run_at ops (at + 1) ≡ drop 1 (run_at ops at)
run-next ops at some = ap run_nodes (sym (drop-drop 1 at ops)) ∙ nodes-past (drop at ops) some

pub run-goes_on : (ops : List Op) (at : ℕ) → 0 < length (run_at ops at) → IsRun ops at → IsRun ops (at + 1)
run-goes_on ops at some h = subst HasEnd (drop-drop 1 at ops) (ends-past (drop at ops) some h)

-- the ops from a place on, as a slice has them
pub from_on : (at : ℕ) (ops : List Op) → take (length ops - at) (drop at ops) ≡ drop at ops
from_on at ops = let h : length (drop at ops) ≤ length ops - at = omega (arith, length-drop at ops) in take_all (length ops - at) (drop at ops) h

-- What is ahead of a place: an op is there, and behind it goes on what is ahead of the next place.
pub ahead-there : (ahead : List Op) → HasEnd ahead → 0 < length ahead
ahead-there ahead h = run-within ahead 0 h

pub ahead-next : (ops ahead : List Op) → 0 < length (run_nodes ahead) → IsAhead ops ahead → IsAhead ops (drop 1 ahead)
ahead-next ops ahead some h =
    let (n, within, is) = h.end in
    let there : n < length ops = run-within ops n (subst HasEnd is h.run) in
    record { run = ends-past ahead some h.run; end = (n + 1, omega arith, ap (drop 1) is ∙ drop-drop 1 n ops) }

pub ahead-at : (ops : List Op) (at : ℕ) → IsRun ops at → IsAhead ops (take (length ops - at) (drop at ops))
ahead-at ops at h =
    let there : at < length ops = run-within ops at h in
    let on : take (length ops - at) (drop at ops) ≡ drop at ops = from_on at ops in
    record { run = subst HasEnd (sym on) h; end = (at, omega arith, on) }

-- The frame that is written goes on.
pub running-push : (ops : List Op) (fs : List Frame) (f : Frame) → AreRunning ops fs → IsRunning ops f → AreRunning ops (fs ++ f ∷ [])
running-push ops [] f all h = (h, tt)
running-push ops (g ∷ gs) f all h = (all.0, running-push ops gs f all.1 h)

pub running-pop : (ops : List Op) (fs : List Frame) (f : Frame) → AreRunning ops (fs ++ f ∷ []) → AreRunning ops fs × IsRunning ops f
running-pop ops [] f all = (tt, all.0)
running-pop ops (g ∷ gs) f all = let (behind, last) = running-pop ops gs f all.1 in ((all.0, behind), last)

pub running-more : (ops : List Op) (fs : List Frame) (n : ℕ) (f : Frame) → n < length fs → AreRunning ops (take n fs) → IsRunning ops f
    → AreRunning ops (take (n + 1) (set fs n f))
running-more ops fs n f h all here = subst (AreRunning ops) (sym (take_more_set fs n f h)) (running-push ops (take n fs) f all here)

pub running-less : (ops : List Op) (fs : List Frame) (n : ℕ) (f : Frame) → n < length fs → f ≡ get_or fs n f
    → AreRunning ops (take (n + 1) fs) → AreRunning ops (take n fs) × IsRunning ops f
running-less ops fs n f h is all = running-pop ops (take n fs) f (subst (AreRunning ops) (take_more fs n f h ∙ ap (λ g. take n fs ++ g ∷ []) (sym is)) all)
