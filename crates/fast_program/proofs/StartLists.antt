-- Lists of starts: where the bodies of templates and nodes begin.
use Rattle.std.proofs.Common.{refl, sym, ap, subst, inl, inr, ◌∙◌, take}
use Rattle.std.specs.Prelude.{◌≡◌, ℕ, zero, suc, List, [], ◌∷◌, ◌++◌, length, slice_get, Some}
use Rattle.fast_tree.specs.declared.instructions.Node.{Node}
use Rattle.fast_tree.specs.declared.instructions.Template.{Template}
use Rattle.fast_tree.specs.meaning.Numbers.{numbers_of}
use Rattle.fast_program.specs.declared.ops.Op.{Op}
use Rattle.fast_program.specs.declared.starts.Start.{Start}
use Rattle.fast_program.specs.device.Starts.{IsStartOf, AreInOrder}
use Rattle.fast_program.specs.device.Programs.{Extends, AreStarts, BeginsNode}
use Rattle.fast_program.proofs.Runs.{last_at}

-- one more at the end
pub one_more_start : {S X : Type 0} (Is : List Op → S → X → Type 0) (ops : List Op) (i : ℕ) (starts : List S) (xs : List X) (s : S) (x : X)
    → slice_get xs i ≡ Some x → AreStarts Is ops starts (take i xs) → Is ops s x → AreStarts Is ops (starts ++ s ∷ []) (take (suc i) xs)
one_more_start Is ops i starts [] s x found h is = absurd (cc found)
one_more_start Is ops zero [] (y ∷ ys) s x found h is =
    let same : y ≡ x = cc found in
    (subst (λ z. Is ops s z) (sym same) is, tt)
one_more_start Is ops zero (r ∷ rs) (y ∷ ys) s x found h is = absurd h
one_more_start Is ops (suc i) [] (y ∷ ys) s x found h is = absurd h
one_more_start Is ops (suc i) (r ∷ rs) (y ∷ ys) s x found h is = (h.0, one_more_start Is ops i rs ys s x found h.1 is)

-- one start more, whose number is how many are in front of it
pub order_more : (starts : List Start) (s : Start) → AreInOrder starts → s.number ≡ length starts → AreInOrder (starts ++ s ∷ [])
order_more starts s order number i r here = elim (last_at starts s i r here) [
  | inl before ↦ order i r before
  | inr same ↦ ap (λ (q : Start). q.number) (sym same.0) ∙ number ∙ sym same.1
]

-- they stay where each does
pub kept_starts : {S X : Type 0} (Is : List Op → S → X → Type 0) (old new : List Op) (starts : List S) (xs : List X)
    → ((s : S) (x : X) → Is old s x → Is new s x) → AreStarts Is old starts xs → AreStarts Is new starts xs
kept_starts Is old new [] [] each h = tt
kept_starts Is old new [] (x ∷ xs) each h = absurd h
kept_starts Is old new (s ∷ ss) [] each h = absurd h
kept_starts Is old new (s ∷ ss) (x ∷ xs) each h = (each s x h.0, kept_starts Is old new ss xs each h.1)

-- each does where runs are put behind
pub kept_start : (ns : List Node) (old new : List Op) → Extends ns old new → (s : Start) (t : Template) → IsStartOf old s t → IsStartOf new s t
kept_start ns old new e s t h = record { body = e.kept s.at t.body.items h.body; id = h.id; reset = h.reset }

pub kept_node : (ns : List Node) (old new : List Op) → Extends ns old new → (at : ℕ) (x : Node) → BeginsNode old at x → BeginsNode new at x
kept_node ns old new e at x h = e.kept at (numbers_of x.shape) h

-- there are as many
pub as_many_starts : {S X : Type 0} (Is : List Op → S → X → Type 0) (ops : List Op) (starts : List S) (xs : List X)
    → AreStarts Is ops starts xs → length starts ≡ length xs
as_many_starts Is ops [] [] h = refl
as_many_starts Is ops [] (x ∷ xs) h = absurd h
as_many_starts Is ops (s ∷ ss) [] h = absurd h
as_many_starts Is ops (s ∷ ss) (x ∷ xs) h = ap suc (as_many_starts Is ops ss xs h.1)

-- the start of one is its own
pub start_at : {S X : Type 0} (Is : List Op → S → X → Type 0) (ops : List Op) (i : ℕ) (starts : List S) (xs : List X) (s : S) (x : X)
    → AreStarts Is ops starts xs → slice_get starts i ≡ Some s → slice_get xs i ≡ Some x → Is ops s x
start_at Is ops i [] xs s x h here found = absurd (cc here)
start_at Is ops i (r ∷ rs) [] s x h here found = absurd h
start_at Is ops zero (r ∷ rs) (y ∷ ys) s x h here found =
    let own : r ≡ s = cc here in
    let same : y ≡ x = cc found in
    subst (λ z. Is ops s z) same (subst (λ q. Is ops q y) own h.0)
start_at Is ops (suc i) (r ∷ rs) (y ∷ ys) s x h here found = start_at Is ops i rs ys s x h.1 here found

-- more behind more
pub extends_both : (ns : List Node) (a b c : List Op) → Extends ns a b → Extends ns b c → Extends ns a c
extends_both ns a b c first next = record {
  kept = λ at body h. next.kept at body (first.kept at body h);
  suit = λ s. next.suit (first.suit s);
  numbered = λ h. next.numbered (first.numbered h);
}

-- none yet
pub extends_none : (ns : List Node) (ops : List Op) → Extends ns ops ops
extends_none ns ops = record { kept = λ at body h. h; suit = λ s. s; numbered = λ h. h }

pub no_starts : {S X : Type 0} (Is : List Op → S → X → Type 0) (ops : List Op) (starts : List S) → starts ≡ [] → AreStarts {X = X} Is ops starts []
no_starts Is ops [] none = tt
no_starts Is ops (s ∷ ss) none = absurd (cc none)

pub order_none : (starts : List Start) → starts ≡ [] → AreInOrder starts
order_none [] none i s here = absurd (cc here)
order_none (r ∷ rs) none i s here = absurd (cc none)
