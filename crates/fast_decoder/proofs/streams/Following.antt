-- From what leads to a decoder to what the stream says of the bytes that were fed.
use Rattle.std.proofs.Common.{◌≡◌, ℕ, ◌+◌, ◌*◌, ◌≤◌, ◌<◌, List, [], ◌∷◌, ◌++◌, length, take, drop, get_or, refl, sym, ap, ◌∙◌, subst, arith}
use Rattle.std.proofs.Common.{append_assoc, append-nil, length-append}
use Rattle.std.specs.Prelude.{Option, Some, None, IfSome, Result, Ok, Err}
use Rattle.std.specs.Borrow.{Bor}
use Rattle.std.proofs.lemmas.List.{length-take-le, take_more, drop_more}
use Rattle.std.proofs.lemmas.Grind.{flat_map-append}
use Rattle.std.proofs.Math.ListN.{take-append-drop}
use Rattle.fast_value.specs.declared.settings.Limits.{Limits}
use Rattle.fast_tree.specs.meaning.Tree.{Tree}
use Rattle.fast_tree.specs.meaning.Sizes.{message_cap, stored_cap}
use Rattle.fast_stream.specs.declared.faults.Fault.{Fault}
use Rattle.fast_stream.specs.declared.faults.FaultCode.{FaultCode}
use Rattle.fast_stream.specs.declared.faults.FaultCode.TheVariants as Why
use Rattle.fast_stream.specs.meaning.Events.{EventData}
use Rattle.fast_stream.specs.meaning.Sinks.{Takes}
use Rattle.fast_stream.specs.meaning.Streams.{End, between, inside, faulted, Stream}
use Rattle.fast_stream.specs.meaning.Account.{Account, account_at, TellsStream, held}
use Rattle.fast_decoder.specs.meaning.Decoding.{DecoderData, tree, IsFaultAt, IsAt, HasRead, account, stored, answer, Carries, SinkEnds, IsRefused, CarriesAt}
use Rattle.fast_decoder.specs.meaning.Feeding.{ConsumesAtMost, IsAtPlace, all_bytes, Follows, StopsShort, Overflows, FollowedAt, Followed}
use Rattle.fast_stream.proofs.streams.Bound.{stream-bound}
use Rattle.fast_stream.proofs.streams.Reading.{faults-stay}
use Rattle.fast_decoder.proofs.streams.Bounds.{read-events}
use Rattle.fast_decoder.proofs.streams.Ends.{read-stream}

fewer : (a b c n : ℕ) → a ≡ b + c → a ≤ n → b ≤ n
fewer a b c n e h = omega arith

module _ (t : Tree) (l : Limits) where
  -- Bytes behind a fault change nothing.
  stays_at : (e : End) (w v : List ℕ) (es : List EventData) (d : DecoderData) (f : Fault) → d.fault ≡ Some f → Stream t l w es e
      → account d ≡ account_at w e → TellsStream t l (w ++ v) es (account d)
  stays_at between w v es d f some stream at = let no : Some f ≡ None = sym some ∙ ap (λ (s : Account). s.fault) at in absurd (cc no)
  stays_at inside w v es d f some stream at = let no : Some f ≡ None = sym some ∙ ap (λ (s : Account). s.fault) at in absurd (cc no)
  stays_at (faulted c place) w v es d f some stream at = (faulted c place, faults-stay t l w v es c place stream, at)

  stays : (w v : List ℕ) (es : List EventData) (d : DecoderData) (f : Fault) → d.fault ≡ Some f → TellsStream t l w es (account d)
      → TellsStream t l (w ++ v) es (account d)
  stays w v es d f some (e, stream, at) = stays_at e w v es d f some stream at

  -- the same stream, its bytes and events told in other parts
  stream_as : (w w' : List ℕ) (es es' : List EventData) (e : End) → w ≡ w' → es ≡ es' → Stream t l w es e → Stream t l w' es' e
  stream_as w w' es es' e i j h = subst (λ v. Stream t l v es' e) i (subst (λ fs. Stream t l w fs e) j h)

  tells_as : (w w' : List ℕ) (es es' : List EventData) (s : Account) → w ≡ w' → es ≡ es' → TellsStream t l w es s → TellsStream t l w' es' s
  tells_as w w' es es' s i j h = subst (λ v. TellsStream t l v es' s) i (subst (λ fs. TellsStream t l w fs s) j h)

-- a decoder without a fault has consumed all that led to it
all_consumed : (d : DecoderData) (w : List ℕ) (es : List EventData) → HasRead d w es → d.fault ≡ None → d.consumed ≡ length w
all_consumed d w es so none = (subst (λ (f : Option Fault). IsAt f d (length w) so.position) none so.at).1

module _ {S : Type 0} (takes stops : S → EventData → S → Type 0) where
  both_taken : (s mid s' : S) (es fs : List EventData) → Takes takes s es mid → Takes takes mid fs s' → Takes takes s (es ++ fs) s'
  both_taken s mid s' [] fs h i = subst (λ x. Takes takes x fs s') h i
  both_taken s mid s' (e ∷ es) fs (next, h, j) i = (next, h, both_taken next mid s' es fs j i)

  -- What led to a decoder is a stream.
  pub carries_follow : (t : Tree) (l : Limits) (new : DecoderData) (w : List ℕ) (es : List EventData) (fed : List ℕ) (s s' : S)
      → tree new ≡ t → new.limits ≡ l → Carries takes w es fed s new s' → Follows takes t l w es fed s new s'
  carries_follow t l new w es fed s s' same_tree same_limits h =
      let all = es ++ h.more in
      record {
        given = h.more;
        took = h.took;
        stream = subst (λ (x : Limits). TellsStream t x (w ++ fed) all (account new)) same_limits
            (subst (λ (x : Tree). TellsStream x new.limits (w ++ fed) all (account new)) same_tree (read-stream new (w ++ fed) all h.so));
        few = subst (λ (x : Limits). length all ≤ new.consumed * message_cap t x) same_limits
            (subst (λ (x : Tree). length all ≤ new.consumed * message_cap x new.limits) same_tree (read-events new (w ++ fed) all h.so));
        so = λ none. h.so;
      }

  -- The sink stopped.
  stop_follows : (old new : DecoderData) (w : List ℕ) (es : List EventData) (piece : List ℕ) (s : S) (place : ℕ) (s' : S)
      → HasRead old w es → old.fault ≡ None → new.consumed ≡ place
      → SinkEnds takes stops old w es piece s place s' → StopsShort takes stops (tree old) old.limits w es piece s place new s'
  stop_follows old new w es piece s place s' so none at h =
      let n = h.bytes in
      let long : old.consumed ≡ length w = all_consumed old w es so none in
      let before : List ℕ = take n piece in
      let byte : ℕ = get_or piece n 0 in
      let unread : List ℕ = drop (n + 1) piece in
      let (front, rest, e, mid, split, taken, stopped) = h.stopped in
      let size : length before ≡ n = length-take-le n piece (let i = h.within in omega arith) in
      let place_is : place ≡ length (w ++ before) + 1 = let i = h.place_is in omega (arith, i, long, length-append w before, size) in
      let bytes : w ++ take (n + 1) piece ≡ w ++ before ++ byte ∷ [] = ap (λ v. w ++ v) (take_more piece n 0 h.within)
      ∙ sym (append_assoc w before (byte ∷ [])) in
      let events : es ++ h.earlier ++ h.given ≡ es ++ h.earlier ++ front ++ e ∷ rest = ap (λ fs. es ++ h.earlier ++ fs) split
      ∙ sym (append_assoc (es ++ h.earlier) front (e ∷ rest)) in
      let through : Stream (tree old) old.limits (w ++ before ++ byte ∷ []) (es ++ h.earlier ++ front ++ e ∷ rest) h.end_after
      = stream_as (tree old) old.limits (w ++ take (n + 1) piece) (w ++ before ++ byte ∷ []) (es ++ h.earlier ++ h.given)
      (es ++ h.earlier ++ front ++ e ∷ rest) h.end_after bytes events h.through in
      let total : length (w ++ before ++ byte ∷ []) ≡ new.consumed = omega (arith, at, place_is, length-append (w ++ before) (byte ∷ [])) in
      let bound : length (es ++ h.earlier ++ front ++ e ∷ rest) ≤ new.consumed * message_cap (tree old) old.limits
      = subst (λ k. length (es ++ h.earlier ++ front ++ e ∷ rest) ≤ k * message_cap (tree old) old.limits) total
      (stream-bound (tree old) old.limits (w ++ before ++ byte ∷ []) (es ++ h.earlier ++ front ++ e ∷ rest) h.end_after through) in
      record {
        before = before;
        byte = byte;
        unread = unread;
        fed_is = sym (take-append-drop n piece) ∙ ap (λ v. before ++ v) (drop_more piece n 0 h.within);
        place_is = place_is;
        earlier = h.earlier;
        given = front;
        refused = e;
        later = rest;
        end_before = h.end_before;
        end_after = h.end_after;
        until = h.until;
        through = through;
        mid = mid;
        took = both_taken s h.mid mid h.earlier front h.took taken;
        stopped = stopped;
        few = fewer (length (es ++ h.earlier ++ front ++ e ∷ rest)) (length (es ++ h.earlier ++ front)) (length (e ∷ rest))
            (new.consumed * message_cap (tree old) old.limits) (length-append (es ++ h.earlier ++ front) (e ∷ rest)) bound;
      }

  -- The bytes were more than can be counted.
  refused_follows : (old new : DecoderData) (w : List ℕ) (es : List EventData) (piece : List ℕ) (s : S) (place : ℕ) (s' : S)
      → HasRead old w es → old.fault ≡ None → new.consumed ≡ place
      → IsRefused old piece s place s' → Overflows takes (tree old) old.limits w es piece s place new s'
  refused_follows old new w es piece s place s' so none at h =
      let long : old.consumed ≡ length w = all_consumed old w es so none in
      let (e, stream, ends) = read-stream old w es so in
      let bytes : w ≡ w ++ [] = sym (append-nil w) in
      let events : es ≡ es ++ [] = sym (append-nil es) in
      let here : old.consumed ≡ new.consumed = sym (at ∙ h.place_is) in
      record {
        before = [];
        unread = piece;
        fed_is = refl;
        place_is = h.place_is ∙ long ∙ ap (λ (v : List ℕ). length v) bytes;
        many = let m = h.many in omega (arith, m, long, length-append w piece);
        given = [];
        end_before = e;
        until = stream_as (tree old) old.limits w (w ++ []) es (es ++ []) e bytes events stream;
        took = h.same;
        few = subst (λ (fs : List EventData). length fs ≤ new.consumed * message_cap (tree old) old.limits) events
            (subst (λ k. length es ≤ k * message_cap (tree old) old.limits) here (read-events old w es so));
      }

  -- A call of a decoder without a fault ended at one.
  pub fault_follows : (old new : DecoderData) (c : FaultCode) (w : List ℕ) (es : List EventData) (piece : List ℕ) (s : S) (place : ℕ)
      (s' : S) → HasRead old w es → old.fault ≡ None → new.consumed ≡ place → tree new ≡ tree old → new.limits ≡ old.limits
      → CarriesAt takes stops old w es piece s c place new s' → FollowedAt takes stops (tree old) old.limits w es piece s c place new s'
  fault_follows old new (Why.Stream c) w es piece s place s' so none at same_tree same_limits h =
      carries_follow (tree old) old.limits new w es piece s s' same_tree same_limits h
  fault_follows old new Why.L4 w es piece s place s' so none at same_tree same_limits h = refused_follows old new w es piece s place s' so none at h
  fault_follows old new Why.SinkStopped w es piece s place s' so none at same_tree same_limits h = stop_follows old new w es piece s place s' so none at h

  -- A call of a decoder that has stopped: it stopped at a fault of the stream.
  failed_at : (old new : DecoderData) (c : FaultCode) (w : List ℕ) (es : List EventData) (piece : List ℕ) (s : S) (place : ℕ) (s' : S)
      → (so : HasRead old w es) → IsFaultAt c place so.position → tree new ≡ tree old → new.limits ≡ old.limits
      → CarriesAt takes stops old w es piece s c place new s' → FollowedAt takes stops (tree old) old.limits w es piece s c place new s'
  failed_at old new (Why.Stream c) w es piece s place s' so at same_tree same_limits h =
      carries_follow (tree old) old.limits new w es piece s s' same_tree same_limits h
  failed_at old new Why.L4 w es piece s place s' so at same_tree same_limits h = absurd at
  failed_at old new Why.SinkStopped w es piece s place s' so at same_tree same_limits h = absurd at

  pub failed_follows : (old new : DecoderData) (f : Fault) (w : List ℕ) (es : List EventData) (piece : List ℕ) (s s' : S)
      → HasRead old w es → old.fault ≡ Some f → tree new ≡ tree old → new.limits ≡ old.limits
      → CarriesAt takes stops old w es piece s f.code f.place new s' → FollowedAt takes stops (tree old) old.limits w es piece s f.code f.place new s'
  failed_follows old new f w es piece s s' so some same_tree same_limits h =
      failed_at old new f.code w es piece s f.place s' so (subst (λ (g : Option Fault). IsAt g old (length w) so.position) some so.at) same_tree same_limits h

  module _ (t : Tree) (l : Limits) (w front piece rest : List ℕ) (es more : List EventData) (s mid : S) (new : DecoderData) (s' : S) where
    bytes_as : (v u : List ℕ) → w ++ front ++ v ++ u ≡ w ++ (front ++ v ++ u)
    bytes_as v u = ap (λ x. x ++ u) (append_assoc w front v) ∙ append_assoc w (front ++ v) u

    -- A call that ended at a fault, behind bytes that were fed before it, and in front of bytes that are not fed.
    pub behind : (c : FaultCode) (place : ℕ) → new.fault ≡ Some (record { code = c; place = place }) → Takes takes s more mid
        → FollowedAt takes stops t l (w ++ front) (es ++ more) piece mid c place new s'
        → FollowedAt takes stops t l w es (front ++ piece ++ rest) s c place new s'
    behind (Why.Stream c) place some took h = record {
      given = more ++ h.given;
      took = both_taken s mid s' more h.given took h.took;
      stream = tells_as t l (w ++ front ++ piece ++ rest) (w ++ (front ++ piece ++ rest)) (es ++ more ++ h.given) (es ++ (more ++ h.given))
          (account new) (bytes_as piece rest) (append_assoc es more h.given)
          (stays t l (w ++ front ++ piece) rest (es ++ more ++ h.given) new (record { code = Why.Stream c; place = place }) some h.stream);
      few = subst (λ (fs : List EventData). length fs ≤ new.consumed * message_cap t l) (append_assoc es more h.given) h.few;
      so = λ none. let no : (let f : Fault = record { code = Why.Stream c; place = place } in Some f) ≡ None = sym some ∙ none in absurd (cc no);
    }
    behind Why.L4 place some took h = record {
      before = front ++ h.before;
      unread = h.unread ++ rest;
      fed_is = ap (λ v. front ++ v ++ rest) h.fed_is ∙ ap (λ v. v ++ rest) (sym (append_assoc front h.before h.unread))
          ∙ append_assoc (front ++ h.before) h.unread rest;
      place_is = h.place_is ∙ ap (λ (v : List ℕ). length v) (append_assoc w front h.before);
      many = let m = h.many in omega (
        arith,
        m,
        length-append (w ++ front) piece,
        length-append w front,
        length-append w (front ++ piece ++ rest),
        length-append (front ++ piece) rest,
        length-append front piece,
      );
      given = more ++ h.given;
      end_before = h.end_before;
      until = stream_as t l (w ++ front ++ h.before) (w ++ (front ++ h.before)) (es ++ more ++ h.given)
          (es ++ (more ++ h.given)) h.end_before (append_assoc w front h.before) (append_assoc es more h.given) h.until;
      took = both_taken s mid s' more h.given took h.took;
      few = subst (λ (fs : List EventData). length fs ≤ new.consumed * message_cap t l) (append_assoc es more h.given) h.few;
    }
    behind Why.SinkStopped place some took h =
        let bytes : w ++ front ++ h.before ≡ w ++ (front ++ h.before) = append_assoc w front h.before in
        let events : es ++ more ++ h.earlier ≡ es ++ (more ++ h.earlier) = append_assoc es more h.earlier in
        record {
          before = front ++ h.before;
          byte = h.byte;
          unread = h.unread ++ rest;
          fed_is = ap (λ v. front ++ v ++ rest) h.fed_is ∙ ap (λ v. v ++ rest) (sym (append_assoc front h.before (h.byte ∷ h.unread)))
              ∙ append_assoc (front ++ h.before) (h.byte ∷ h.unread) rest;
          place_is = h.place_is ∙ ap (λ (v : List ℕ). length v + 1) bytes;
          earlier = more ++ h.earlier;
          given = h.given;
          refused = h.refused;
          later = h.later;
          end_before = h.end_before;
          end_after = h.end_after;
          until = stream_as t l (w ++ front ++ h.before) (w ++ (front ++ h.before)) (es ++ more ++ h.earlier)
              (es ++ (more ++ h.earlier)) h.end_before bytes events h.until;
          through = stream_as t l (w ++ front ++ h.before ++ h.byte ∷ []) (w ++ (front ++ h.before) ++ h.byte ∷ [])
              (es ++ more ++ h.earlier ++ h.given ++ h.refused ∷ h.later)
              (es ++ (more ++ h.earlier) ++ h.given ++ h.refused ∷ h.later) h.end_after
              (ap (λ v. v ++ h.byte ∷ []) bytes) (ap (λ fs. fs ++ h.given ++ h.refused ∷ h.later) events) h.through;
          mid = h.mid;
          took = subst (λ (fs : List EventData). Takes takes s fs h.mid) (sym (append_assoc more h.earlier h.given))
              (both_taken s mid h.mid more (h.earlier ++ h.given) took h.took);
          stopped = h.stopped;
          few = subst (λ (fs : List EventData). length (fs ++ h.given) ≤ new.consumed * message_cap t l) events h.few;
        }

  -- what a call took behind bytes that were fed before it
  pub carries_both : (w front piece : List ℕ) (es : List EventData) (s mid : S) (d new : DecoderData) (s' : S)
      → (a : Carries takes w es front s d mid) → Carries takes (w ++ front) (es ++ a.more) piece mid new s'
      → Carries takes w es (front ++ piece) s new s'
  carries_both w front piece es s mid d new s' a b = record {
    more = a.more ++ b.more;
    so = subst (λ (fs : List EventData). HasRead new (w ++ (front ++ piece)) fs) (append_assoc es a.more b.more)
        (subst (λ (v : List ℕ). HasRead new v (es ++ a.more ++ b.more)) (append_assoc w front piece) b.so);
    took = both_taken s mid s' a.more b.more a.took b.took;
  }

-- What holds behind pieces that were fed without a fault.
pub record SoFar {S : Type 0} (takes : S → EventData → S → Type 0) (old : DecoderData) (fed : List ℕ) (s : S) (d : DecoderData) (m : S) : Type 0 where
  pub running : old.fault ≡ None
  pub none : d.fault ≡ None
  pub same_tree : tree d ≡ tree old
  pub same_limits : d.limits ≡ old.limits
  pub bounded : held (stored d) ≤ stored_cap (tree d) d.limits
  pub consumed : ConsumesAtMost (length fed) old d
  pub carried : (w : List ℕ) (es : List EventData) → HasRead old w es → Carries takes w es fed s d m

told_fault : (o : Option Fault) (f : Fault) → Err f ≡ answer o → o ≡ Some f
told_fault None f e = absurd (cc e)
told_fault (Some g) f e = let same : f ≡ g = cc e in ap (λ (h : Fault). Some h) (sym same)

told_none : (o : Option Fault) (u : Unit {0}) → Ok u ≡ answer o → o ≡ None
told_none None u e = refl
told_none (Some g) u e = absurd (cc e)

pub none_at_place : (d : DecoderData) → d.fault ≡ None → IsAtPlace d
none_at_place d e = subst (λ (o : Option Fault). IfSome o (λ f. d.consumed ≡ f.place)) (sym e) tt

-- What calls consumed, one after the other.
pub consumed_both : (old d new : DecoderData) (front piece : List ℕ) → ConsumesAtMost (length front) old d
    → ConsumesAtMost (length piece) d new → ConsumesAtMost (length (front ++ piece)) old new
consumed_both old d new front piece a b =
    let low = a.0 in let high = a.1 in let low2 = b.0 in let high2 = b.1 in
    (omega (arith, low, low2), omega (arith, high, high2, length-append front piece))

pub consumed_within : (old d new : DecoderData) (front piece rest whole : List ℕ) → front ++ piece ++ rest ≡ whole
    → ConsumesAtMost (length front) old d → ConsumesAtMost (length piece) d new → ConsumesAtMost (length whole) old new
consumed_within old d new front piece rest whole e a b =
    let both = consumed_both old d new front piece a b in
    let low = both.0 in let high = both.1 in
    (low, omega (arith, high, ap (λ (v : List ℕ). length v) e, length-append (front ++ piece) rest))

module _ {S : Type 0} (takes stops : S → EventData → S → Type 0) where
  -- before the first byte is fed
  pub carries_none : (old : DecoderData) (s : S) (w : List ℕ) (es : List EventData) → HasRead old w es → Carries takes w es [] s old s
  carries_none old s w es so = record {
    more = [];
    so = subst (λ (fs : List EventData). HasRead old (w ++ []) fs) (sym (append-nil es)) (subst (λ (v : List ℕ). HasRead old v es) (sym (append-nil w)) so);
    took = refl;
  }

  -- One more piece was fed without a fault.
  pub so_far_on : (old d new : DecoderData) (front piece : List ℕ) (s mid s' : S) (u : Unit {0}) → SoFar takes old front s d mid
      → Ok u ≡ answer new.fault → (tree new ≡ tree d) × (new.limits ≡ d.limits)
      → held (stored new) ≤ stored_cap (tree new) new.limits → ConsumesAtMost (length piece) d new
      → ((w : List ℕ) (es : List EventData) → HasRead d w es → Carries takes w es piece mid new s')
      → SoFar takes old (front ++ piece) s new s'
  so_far_on old d new front piece s mid s' u h told same bounded consumed carried = record {
    running = h.running;
    none = told_none new.fault u told;
    same_tree = same.0 ∙ h.same_tree;
    same_limits = same.1 ∙ h.same_limits;
    bounded = bounded;
    consumed = consumed_both old d new front piece h.consumed consumed;
    carried = λ w es so. let a = h.carried w es so in carries_both takes stops w front piece es s mid d new s' a (carried (w ++ front) (es ++ a.more) a.so);
  }

  -- All pieces were fed without a fault.
  pub so_far_follows : (old d : DecoderData) (front whole : List ℕ) (s mid : S) → SoFar takes old front s d mid → front ≡ whole
      → (w : List ℕ) (es : List EventData) → HasRead old w es → Follows takes (tree old) old.limits w es whole s d mid
  so_far_follows old d front whole s mid h e w es so =
      subst (λ (v : List ℕ). Follows takes (tree old) old.limits w es v s d mid) e
      (carries_follow takes stops (tree old) old.limits d w es front s mid h.same_tree h.same_limits (h.carried w es so))

  -- One more piece was fed, and ended at a fault.
  pub ended_follows : (old d new : DecoderData) (front piece rest whole : List ℕ) (s mid s' : S) (f : Fault) (r : Result Unit Fault)
      → front ++ piece ++ rest ≡ whole → r ≡ Err f → Err f ≡ answer new.fault
      → tree d ≡ tree old → d.limits ≡ old.limits → ((w : List ℕ) (es : List EventData) → HasRead old w es → Carries takes w es front s d mid)
      → ((w : List ℕ) (es : List EventData) → HasRead d w es → FollowedAt takes stops (tree d) d.limits w es piece mid f.code f.place new s')
      → (w : List ℕ) (es : List EventData) → HasRead old w es → Followed takes stops (tree old) old.limits w es whole s r new s'
  ended_follows old d new front piece rest whole s mid s' f r e is told same_tree same_limits carried followed w es so =
      let a = carried w es so in
      let last = followed (w ++ front) (es ++ a.more) a.so in
      let in_old = subst (λ (x : Limits). FollowedAt takes stops (tree old) x (w ++ front) (es ++ a.more) piece mid f.code f.place new s') same_limits
      (subst (λ (x : Tree). FollowedAt takes stops x d.limits (w ++ front) (es ++ a.more) piece mid f.code f.place new s') same_tree last) in
      let all = behind takes stops (tree old) old.limits w front piece rest es a.more s mid new s' f.code f.place (told_fault new.fault f told) a.took in_old in
      subst (λ (q : Result Unit Fault). Followed takes stops (tree old) old.limits w es whole s q new s') (sym is)
      (subst (λ (v : List ℕ). FollowedAt takes stops (tree old) old.limits w es v s f.code f.place new s') e all)

-- the pieces up to one, and this one
pub pieces_more : (pieces : List (Bor (List ℕ))) (i : ℕ) (p : Bor (List ℕ)) → i < length pieces
    → all_bytes (take i pieces) ++ (get_or pieces i p).now ≡ all_bytes (take (i + 1) pieces)
pieces_more pieces i p below =
    let this : Bor (List ℕ) = get_or pieces i p in
    sym (ap (λ (ps : List (Bor (List ℕ))). all_bytes ps) (take_more pieces i p below)
    ∙ flat_map-append (λ (q : Bor (List ℕ)). q.now) (take i pieces) (this ∷ [])
    ∙ ap (λ v. all_bytes (take i pieces) ++ v) (append-nil this.now))

-- the pieces up to one, this one, and those behind it
pub pieces_split : (pieces : List (Bor (List ℕ))) (i : ℕ) (p : Bor (List ℕ)) → i < length pieces
    → all_bytes (take i pieces) ++ (get_or pieces i p).now ++ all_bytes (drop (i + 1) pieces) ≡ all_bytes pieces
pieces_split pieces i p below =
    ap (λ v. v ++ all_bytes (drop (i + 1) pieces)) (pieces_more pieces i p below)
    ∙ sym (flat_map-append (λ (q : Bor (List ℕ)). q.now) (take (i + 1) pieces) (drop (i + 1) pieces))
    ∙ ap (λ (ps : List (Bor (List ℕ))). all_bytes ps) (take-append-drop (i + 1) pieces)
