-- What a sink of the chosen messages has passed on.
use Rattle.std.proofs.Common.{◌≡◌, ◌⊎◌, Bool, true, false, List, [], ◌∷◌, ◌++◌, refl, sym, ap, ◌∙◌, inl, inr, append_assoc, append-nil}
use Rattle.std.specs.Prelude.{if◌then◌else◌}
use Rattle.fast_stream.specs.meaning.Events.{EventData}
use Rattle.fast_stream.specs.meaning.Sinks.{Takes, TakesUpTo}
use Rattle.fast_select.specs.declared.selected.Chooser.{Chooser}
use Rattle.fast_select.specs.declared.selected.Selected.{Selected}
use Rattle.fast_select.specs.meaning.Choosing.{is_none_left, is_chosen, after, after_all, chosen}
use Rattle.fast_select.specs.meaning.Selecting.{PassesIf, Passes, TakesOn, StopsOn, in_order, TakesPieces, Gives}

-- the chooser after some events and then others
pub after-append : (c : Chooser) (es fs : List EventData) → after_all c (es ++ fs) ≡ after_all (after_all c es) fs
after-append c [] fs = refl
after-append c (e ∷ es) fs = after-append (after c e) es fs

-- the chosen ones of some events and then of others
pub chosen-append : (c : Chooser) (es fs : List EventData) → chosen c (es ++ fs) ≡ chosen c es ++ chosen (after_all c es) fs
chosen-append c [] fs = refl
chosen-append c (e ∷ es) fs = at (is_chosen c e) (chosen-append (after c e) es fs)
  where
    at : (b : Bool) → chosen (after c e) (es ++ fs) ≡ chosen (after c e) es ++ chosen (after_all (after c e) es) fs
        → (if b then e ∷ chosen (after c e) (es ++ fs) else chosen (after c e) (es ++ fs))
        ≡ (if b then e ∷ chosen (after c e) es else chosen (after c e) es) ++ chosen (after_all (after c e) es) fs
    at true h = ap (λ (xs : List EventData). e ∷ xs) h
    at false h = h

-- a sink takes some events and then others
pub takes_more : {S : Type 0} (takes : S → EventData → S → Type 0) (s mid s' : S) (es fs : List EventData) → Takes takes s es mid
    → Takes takes mid fs s' → Takes takes s (es ++ fs) s'
takes_more takes s mid s' [] fs h g = rw (← h) g
takes_more takes s mid s' (e ∷ es) fs h g = (h.0, h.1, takes_more takes h.0 mid s' es fs h.2 g)

-- What was passed on of some events.
pub record HasPassed {S : Type 0} (takes : S → EventData → S → Type 0) (s : Selected S) (es : List EventData) (s' : Selected S) : Type 0 where
  pub chooser : s'.chooser ≡ after_all s.chooser es
  pub inner : Takes takes s.inner (chosen s.chooser es) s'.inner

-- an event that is passed on or not, and then others
pass_one : {S : Type 0} (takes : S → EventData → S → Type 0) (s mid s' : S) (e : EventData) (es : List EventData) (b : Bool)
    → PassesIf takes b s e mid → Takes takes mid es s' → Takes takes s (if b then e ∷ es else es) s'
pass_one takes s mid s' e es true h g = (mid, h, g)
pass_one takes s mid s' e es false h g = rw (← h) g

-- one event and then others
passed_on : {S : Type 0} (takes : S → EventData → S → Type 0) (s mid s' : Selected S) (e : EventData) (es : List EventData)
    → Passes takes s e mid → HasPassed takes mid es s' → HasPassed takes s (e ∷ es) s'
passed_on takes s mid s' e es h g = record {
  chooser = g.chooser ∙ ap (λ (c : Chooser). after_all c es) h.chooser;
  inner = pass_one takes s.inner mid.inner s'.inner e (chosen (after s.chooser e) es) (is_chosen s.chooser e) h.inner (rw (← h.chooser) g.inner);
}

-- nothing was passed on of no events
none_passed : {S : Type 0} (takes : S → EventData → S → Type 0) (s : Selected S) → HasPassed takes s [] s
none_passed takes s = record { chooser = refl; inner = refl }

-- the events that a sink takes
pub has_passed : {S : Type 0} (takes : S → EventData → S → Type 0) (es : List EventData) (s s' : Selected S)
    → Takes (TakesOn takes) s es s' → HasPassed takes s es s'
has_passed takes [] s s' h = rw h (none_passed takes s)
has_passed takes (e ∷ es) s s' h = passed_on takes s h.0 s' e es h.1.passes (has_passed takes es h.0 s' h.2)

-- what a sink says of whether it is full
pub stays_fresh : {S : Type 0} (takes : S → EventData → S → Type 0) (es : List EventData) (s s' : Selected S)
    → Takes (TakesOn takes) s es s' → s.is_full ≡ is_none_left s.chooser.rest → s'.is_full ≡ is_none_left s'.chooser.rest
stays_fresh takes [] s s' h fresh = rw h fresh
stays_fresh takes (e ∷ es) s s' h fresh = stays_fresh takes es h.0 s' h.2 h.1.passes.full

-- a sink that takes events is not full after them
pub stays_open : {S : Type 0} (takes : S → EventData → S → Type 0) (es : List EventData) (s s' : Selected S)
    → Takes (TakesOn takes) s es s' → s.is_full ≡ false → s'.is_full ≡ false
stays_open takes [] s s' h not_full = rw h not_full
stays_open takes (e ∷ es) s s' h not_full = stays_open takes es h.0 s' h.2 h.1.goes_on

-- some events and then others
pub both_passed : {S : Type 0} (takes : S → EventData → S → Type 0) (s mid s' : Selected S) (es fs : List EventData)
    → HasPassed takes s es mid → HasPassed takes mid fs s' → HasPassed takes s (es ++ fs) s'
both_passed takes s mid s' es fs h g = record {
  chooser = g.chooser ∙ ap (λ (c : Chooser). after_all c fs) h.chooser ∙ sym (after-append s.chooser es fs);
  inner = rw (chosen-append s.chooser es fs) (takes_more takes s.inner mid.inner s'.inner (chosen s.chooser es)
      (chosen (after_all s.chooser es) fs) h.inner (rw (← h.chooser) g.inner));
}

-- Where a sink stops: with the last message that can be chosen, or since the inner sink stops.
pub record HasStopped {S : Type 0} (takes stops : S → EventData → S → Type 0) (s : Selected S) (es : List EventData) (s' : Selected S) : Type 0 where
  pub front : List EventData
  pub rest : List EventData
  pub are : es ≡ front ++ rest
  pub how :
      HasPassed takes s front s' × (is_none_left s'.chooser.rest ≡ true) × (s'.is_full ≡ true)
      ⊎ ((old : S) × (e : EventData) × stops old e s'.inner × (s'.is_full ≡ false))

-- the events up to the one at which a sink stops
pub has_stopped : {S : Type 0} (takes stops : S → EventData → S → Type 0) (s : Selected S) (es : List EventData) (s' : Selected S)
    → s.is_full ≡ false → TakesUpTo (TakesOn takes) (StopsOn takes stops) s es s' → HasStopped takes stops s es s'
has_stopped takes stops s es s' not_full h = at h.6.how
  where
    at : Passes takes h.3 h.2 s' × (s'.is_full ≡ true) ⊎ (is_chosen h.3.chooser h.2 ≡ true) × stops h.3.inner h.2 s'.inner
        × (s'.is_full ≡ h.3.is_full) → HasStopped takes stops s es s'
    at (inl p) =
        let first = has_passed takes h.0 s h.3 h.5 in
        let last = passed_on takes h.3 s' s' h.2 [] p.0 (none_passed takes s') in
        record {
          front = h.0 ++ h.2 ∷ [];
          rest = h.1;
          are = h.4 ∙ sym (append_assoc h.0 (h.2 ∷ []) h.1);
          how = inl (both_passed takes s h.3 s' h.0 (h.2 ∷ []) first last, sym p.0.full ∙ p.1, p.1);
        }
    at (inr p) = record { front = h.0; rest = h.2 ∷ h.1; are = h.4; how = inr (h.3.inner, h.2, p.1, p.2 ∙ stays_open takes h.0 s h.3 h.5 not_full) }

-- ---- with flushes in between

-- nothing was given
pub gives_none : {S : Type 0} (takes : S → EventData → S → Type 0) (flushes : S → S → Type 0) (s : S) → Gives takes flushes s [] s
gives_none takes flushes s = record { pieces = []; are = refl; took = refl }

-- a flush, and then more events
pub gives_more : {S : Type 0} (takes : S → EventData → S → Type 0) (flushes : S → S → Type 0) (s mid flushed s' : S)
    (es fs : List EventData) → Gives takes flushes s es mid → flushes mid flushed → Takes takes flushed fs s'
    → Gives takes flushes s (es ++ fs) s'
gives_more takes flushes s mid flushed s' es fs h f g = record {
  pieces = fs ∷ h.pieces;
  are = ap (λ (xs : List EventData). xs ++ fs) h.are;
  took = (mid, flushed, h.took, f, g);
}

-- a flush alone
pub gives_flushed : {S : Type 0} (takes : S → EventData → S → Type 0) (flushes : S → S → Type 0) (s mid flushed : S) (es : List EventData)
    → Gives takes flushes s es mid → flushes mid flushed → Gives takes flushes s es flushed
gives_flushed takes flushes s mid flushed es h f = rw (← append-nil es) (gives_more takes flushes s mid flushed flushed es [] h f refl)
