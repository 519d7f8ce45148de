-- What a counter has counted, and how a stream ends that it was handed.
use Rattle.std.proofs.Common.{◌≡◌, ℕ, ◌+◌, ◌<◌, ◌≤◌, ◌^◌, false, List, [], ◌∷◌, ◌++◌, length, length-append, refl, sym, ap, subst, ◌∙◌}
use Rattle.std.proofs.Common.{arith, Option, Some, None, Result, Ok, Err}
use Rattle.fast_value.specs.declared.codes.Code.{Code}
use Rattle.fast_value.specs.declared.settings.Limits.{Limits}
use Rattle.fast_tree.specs.meaning.Tree.{Tree}
use Rattle.fast_stream.specs.declared.faults.Fault.{Fault}
use Rattle.fast_stream.specs.declared.faults.FaultCode.{FaultCode}
use Rattle.fast_stream.specs.declared.faults.FaultCode.TheVariants as Why
use Rattle.std.specs.Prelude.{IfSome}
use Rattle.fast_stream.specs.meaning.Events.{EventData}
use Rattle.fast_stream.specs.meaning.Sinks.{Takes}
use Rattle.fast_stream.specs.meaning.Streams.{End, between, inside, faulted, Stream}
use Rattle.fast_stream.specs.meaning.Account.{Account, account_at, TellsStream}
use Rattle.fast_decoder.specs.meaning.Decoding.{DecoderData, account, answer}
use Rattle.fast_decoder.specs.meaning.Feeding.{IsAtPlace, Follows, StopsShort, Overflows, FollowedAt, Followed}
use Rattle.fast_callers.specs.declared.counting.Counter.{Counter}
use Rattle.fast_callers.specs.declared.stopping.Stopped.{Stopped}
use Rattle.fast_callers.specs.meaning.Callers.{Counts, CountsNoMore, ends, whole, IsCutOff, IsStopped, HasNoFault, HasMessages, told}
use Rattle.fast_callers.specs.meaning.Callers.{IsReadThrough, IsLeft, HasStoppedBy, HasStoppedAt}
use Rattle.fast_callers.proofs.Ending.{whole-append, whole_bound}

pub counted : (s s' : Counter) (es : List EventData) → Takes Counts s es s' → s'.messages ≡ s.messages + whole es
counted s s' [] same = rw same (omega (arith))
counted s s' (e ∷ es) h = let rest = counted h.0 s' es h.2 in omega (arith, h.1, rest)

-- an answer without a fault
pub fault_none : (o : Option Fault) (u : Unit {0}) → Ok u ≡ answer o → o ≡ None
fault_none None u h = refl
fault_none (Some f) u h = absurd (cc h)

-- so its end is at no fault
pub no_fault : (w : List ℕ) (e : End) (d : DecoderData) → d.fault ≡ None → account d ≡ account_at w e → HasNoFault e
no_fault w between d none at = tt
no_fault w inside d none at = tt
no_fault w (faulted c place) d none at = let told = ap (λ (s : Account). s.fault) at in absurd (cc (told, none))

-- what a feed says to one who counts from 0
pub messages_by : (t : Tree) (l : Limits) (w : List ℕ) (s s' : Counter) (u : Unit {0}) (new : DecoderData) → s.messages ≡ 0
    → Ok u ≡ answer new.fault → Follows Counts t l [] [] w s new s' → HasMessages t l w s'.messages
messages_by t l w s s' u new zero is h =
    let all = counted s s' h.given h.took in
    (h.given, h.stream.0, h.stream.1, no_fault w h.stream.0 new (fault_none new.fault u is) h.stream.2, omega (arith, zero, all))

-- an answer with a fault
pub fault_some : (o : Option Fault) (f : Fault) → Err f ≡ answer o → o ≡ Some f
fault_some None f h = absurd (cc h)
fault_some (Some g) f h = cc h

-- ---- why a feed stops

-- the bytes up to a place that the count does not pass
cut_off : {S : Type 0} (takes : S → EventData → S → Type 0) (t : Tree) (l : Limits) (w : List ℕ) (s s' : S) (place : ℕ) (new : DecoderData)
    → (h : Overflows takes t l [] [] w s place new s') → IsCutOff t l w place h.given
cut_off takes t l w s s' place new h = record {
  front = h.before;
  rest = h.unread;
  end = h.end_before;
  both = h.fed_is;
  place_is = h.place_is;
  stream = h.until;
  many = h.many;
}

-- the end of a stream of which a fault is told
ends_faulted : (t : Tree) (l : Limits) (w : List ℕ) (es : List EventData) (e : End) (d : DecoderData) (c : Code) (place : ℕ) → d.fault ≡ Some (record {
  code = Why.Stream c;
  place = place;
})
    → account d ≡ account_at w e → Stream t l w es e → Stream t l w es (faulted c place)
ends_faulted t l w es between d c place fault at h = let told = ap (λ (s : Account). s.fault) at in absurd (cc (told, fault))
ends_faulted t l w es inside d c place fault at h = let told = ap (λ (s : Account). s.fault) at in absurd (cc (told, fault))
ends_faulted t l w es (faulted k n) d c place fault at h =
    let is : record {
      code = Why.Stream k;
      place = n;
    } ≡ record { code = Why.Stream c; place = place } = let told = ap (λ (s : Account). s.fault) at in cc (told, fault) in
    let code : k ≡ c = let same : Why.Stream k ≡ Why.Stream c = ap (λ (f : Fault). f.code) is in cc (same) in
    let same_place : n ≡ place = ap (λ (f : Fault). f.place) is in
    rw (← code, ← same_place) h

-- why a feed stops, to a sink that never does
pub stopped_by : {S : Type 0} (takes stops : S → EventData → S → Type 0) (t : Tree) (l : Limits) (w : List ℕ) (s s' : S) (place : ℕ)
    (new : DecoderData) → (StopsShort takes stops t l [] [] w s place new s' → ⊥) → (c : FaultCode) → new.fault ≡ Some (record {
      code = c;
      place = place;
    })
    → FollowedAt takes stops t l [] [] w s c place new s' → IsStopped t l w c place
stopped_by takes stops t l w s s' place new never (Why.Stream c) fault h =
    (h.given, ends_faulted t l w h.given h.stream.0 new c place fault h.stream.2 h.stream.1)
stopped_by takes stops t l w s s' place new never Why.L4 fault h = (h.given, cut_off takes t l w s s' place new h)
stopped_by takes stops t l w s s' place new never Why.SinkStopped fault h = never h

-- A counter that starts at 0 never stops: it would have to have as many bytes as messages.
never_stops : (t : Tree) (l : Limits) (w : List ℕ) (s s' : Counter) (place : ℕ) (new : DecoderData) → s.messages ≡ 0 → place < 2 ^ 64
    → StopsShort Counts CountsNoMore t l [] [] w s place new s' → ⊥
never_stops t l w s s' place new zero small h =
    let all : h.mid.messages ≡ s.messages + whole (h.earlier ++ h.given) = counted s h.mid (h.earlier ++ h.given) h.took in
    let more : whole (h.earlier ++ h.given ++ h.refused ∷ h.later) ≡ whole (h.earlier ++ h.given) + (ends h.refused + whole h.later) =
    whole-append (h.earlier ++ h.given) (h.refused ∷ h.later) in
    let at : place ≡ length h.before + 1 = h.place_is in
    let bytes : length (h.before ++ h.byte ∷ []) ≡ length h.before + 1 = length-append h.before (h.byte ∷ []) in
    let bound : whole (h.earlier ++ h.given ++ h.refused ∷ h.later) ≤ length (h.before ++ h.byte ∷ []) =
    whole_bound t l (h.before ++ h.byte ∷ []) (h.earlier ++ h.given ++ h.refused ∷ h.later) h.end_after h.through in
    absurd (omega (arith, h.stopped.1, at, small, all, zero, more, bytes, bound))

pub not_counted : (t : Tree) (l : Limits) (w : List ℕ) (s s' : Counter) (f : Fault) (new : DecoderData) → s.messages ≡ 0 → f.place < 2 ^ 64
    → Err f ≡ answer new.fault → Followed Counts CountsNoMore t l [] [] w s (Err f) new s'
    → IsStopped t l w f.code f.place
not_counted t l w s s' f new zero small is h = stopped_by Counts CountsNoMore t l w s s' f.place new
    (never_stops t l w s s' f.place new zero small) f.code (fault_some new.fault f is) h

-- ---- where a stream was left

-- a decoder with a fault is not between messages
none_between : (d : DecoderData) (f : Fault) → d.fault ≡ Some f → (account d).is_between ≡ false
none_between d f h = rw h refl

module _ (t : Tree) (l : Limits) (w : List ℕ) (s s' : Counter) (new : DecoderData) (left : Stopped) (zero : s.messages ≡ 0)
    (same : account new ≡ told left) (count : s'.messages ≡ left.messages) (at_place : IsAtPlace new) where
  same_fault : new.fault ≡ left.fault
  same_fault = ap (λ (a : Account). a.fault) same

  -- to its end or to its first fault
  through : Follows Counts t l [] [] w s new s' → IsReadThrough t l w left
  through h =
      let all = counted s s' h.given h.took in
      (h.given, subst (λ (a : Account). TellsStream t l w h.given a) same h.stream, omega (arith, zero, all, count))

  -- as far as its bytes can be counted
  is_left : (f : Fault) → new.fault ≡ Some f → Overflows Counts t l [] [] w s f.place new s' → IsLeft t l w left f.place
  is_left f fault h =
      let all = counted s s' h.given h.took in
      record {
        events = h.given;
        read = cut_off Counts t l w s s' f.place new h;
        messages = omega (arith, zero, all, count);
        bytes = sym (ap (λ (a : Account). a.consumed) same) ∙ subst (λ (o : Option Fault). IfSome o (λ (g : Fault). new.consumed ≡ g.place)) fault at_place;
        none_between = sym (ap (λ (a : Account). a.is_between) same) ∙ none_between new f fault;
      }

  left_by : (f : Fault) (c : FaultCode) → new.fault ≡ Some f → f.place < 2 ^ 64
      → FollowedAt Counts CountsNoMore t l [] [] w s c f.place new s' → HasStoppedBy t l w left c f.place
  left_by f (Why.Stream c) fault small h = through h
  left_by f Why.L4 fault small h = is_left f fault h
  left_by f Why.SinkStopped fault small h = never_stops t l w s s' f.place new zero small h

  pub left_at : (r : Result Unit Fault) → r ≡ answer new.fault → new.consumed < 2 ^ 64
      → Followed Counts CountsNoMore t l [] [] w s r new s' → HasStoppedAt t l w left left.fault
  left_at (Ok u) is small h = subst (HasStoppedAt t l w left) (sym (fault_none new.fault u is) ∙ same_fault) (through h)
  left_at (Err f) is small h =
      let fault = fault_some new.fault f is in
      let place : new.consumed ≡ f.place = subst (λ (o : Option Fault). IfSome o (λ (g : Fault). new.consumed ≡ g.place)) fault at_place in
      subst (HasStoppedAt t l w left) (sym fault ∙ same_fault) (left_by f f.code fault (omega (arith, place, small)) h)
