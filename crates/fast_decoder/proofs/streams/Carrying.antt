-- What a feed does behind the bytes that led to a decoder.
use Rattle.std.proofs.Common.{refl, sym, ap, ◌∙◌, subst, arith, append_assoc, append-nil, length-append, get_or, Fits, w8}
use Rattle.std.specs.Prelude.{◌≡◌, ℕ, zero, suc, ◌+◌, ◌<◌, ◌≤◌, List, [], ◌∷◌, ◌++◌, length, take, drop, Option, Some, None, Err}
use Rattle.std.proofs.lemmas.List.{length-take-le}
use Rattle.std.proofs.lemmas.Grind.{get_or_default_zero}
use Rattle.std.proofs.Math.ListN.{take-append-drop}
use Rattle.std.proofs.lemmas.List.Elements.{All-append}
use Rattle.std.proofs.Math.Seq.{take-append_seam}
use Rattle.fast_value.specs.declared.codes.Code.{Code}
use Rattle.fast_dict.specs.meaning.Dictionary.{Dictionary}
use Rattle.fast_stream.specs.declared.faults.Fault.{Fault}
use Rattle.fast_stream.specs.declared.faults.FaultCode.{FaultCode}
use Rattle.fast_stream.specs.declared.faults.FaultCode.TheVariants as Why
use Rattle.fast_machine.specs.declared.machine.Machine.{Machine}
use Rattle.fast_stream.specs.meaning.Events.{EventData}
use Rattle.fast_stream.specs.meaning.Streams.{Stream, AreBytes}
use Rattle.fast_stream.specs.device.Running.{Position, at_fault, run, message_begun, reading, end_of}
use Rattle.fast_machine.specs.device.Positions.{meaning, IsSupplied, IsReady}
use Rattle.fast_machine.specs.device.Handing.{waiting_at, TookEvents, Failed, Stopped, Fed}
use Rattle.fast_machine.specs.device.TurnsLeft.{IsWithinMessage}
use Rattle.fast_decoder.specs.meaning.Decoding.{DecoderData, tree, IsSoundAt, IsPaidAt, IsFaultAt, IsAt, HasRead, Carries, SinkEnds, CarriesAt}
use Rattle.fast_stream.proofs.readers.Binds.{All-front}
use Rattle.fast_stream.proofs.streams.Streams.{at-fault}
use Rattle.fast_stream.proofs.streams.Reading.{reading-append, reading-sound}

-- the decoder after a feed
abbrev pub fed_data : DecoderData → Machine → ℕ → Option Fault → DecoderData
fed_data d m k f = record { set = d.set; limits = d.limits; machine = m; consumed = d.consumed + k; fault = f }

pair : {A B : Type 0} {x y : A × B} → x.0 ≡ y.0 → x.1 ≡ y.1 → x ≡ y
pair {A} {B} {x} {y} e i = ap (λ (a : A). (a, x.1)) e ∙ ap (λ (b : B). (y.0, b)) i

-- what is read of bytes behind others
read_behind : (d : DecoderData) (w v : List ℕ) (es : List EventData) (at : Position Dictionary) → reading (tree d) d.limits w ≡ (es, at)
    → reading (tree d) d.limits (w ++ v) ≡ (
      es ++ (run (message_begun (tree d) d.limits) (length w) at v).0,
      (run (message_begun (tree d) d.limits) (length w) at v).1,
    )
read_behind d w v es at e =
    let parts = reading-append (tree d) d.limits w v in
    pair
    (parts.0 ∙ ap (λ (x : List EventData × Position Dictionary). x.0 ++ (run (message_begun (tree d) d.limits) (length w) x.1 v).0) e)
    (parts.1 ∙ ap (λ (x : List EventData × Position Dictionary). (run (message_begun (tree d) d.limits) (length w) x.1 v).1) e)

both_bytes : (w v : List ℕ) → AreBytes w → AreBytes v → AreBytes (w ++ v)
both_bytes w v h i = All-append (λ b. b < 256) w v h i

-- a decoder without a fault stands where its machine does
running : (d : DecoderData) (w : List ℕ) (es : List EventData) (so : HasRead d w es) → d.fault ≡ None
    → (so.position ≡ waiting_at (meaning d.set d.limits d.machine)) × (d.consumed ≡ length w)
running d w es so e = subst (λ (f : Option Fault). IsAt f d (length w) so.position) e so.at

-- the bytes of a slice
pub bytes_of : (w : List ℕ) → ((i : ℕ) → Fits w8 (get_or w i 0)) → AreBytes w
bytes_of w h = λ k d below. let same : get_or w k d ≡ get_or w k 0 = get_or_default_zero w k d below in omega (arith, h k)

-- a front of bytes
first_bytes : (w : List ℕ) (n : ℕ) → AreBytes w → AreBytes (take n w)
first_bytes w n h = (All-front (λ b. b < 256) (take n w) (drop n w) (subst AreBytes (sym (take-append-drop n w)) h)).0

take_front : (n : ℕ) (w : List ℕ) → take n (take (suc n) w) ≡ take n w
take_front zero w = refl
take_front (suc n) [] = refl
take_front (suc n) (x ∷ w) = ap (λ t. x ∷ t) (take_front n w)

-- a front without its last byte
front_of : (w u : List ℕ) (b : ℕ) → take (length u + 1) w ≡ u ++ b ∷ [] → take (length u) w ≡ u
front_of w u b h =
    let shorter : take (length u) (take (length u + 1) w) ≡ take (length u) w =
    ap (λ n. take (length u) (take n w)) (let one : length u + 1 ≡ suc (length u) = omega arith in one) ∙ take_front (length u) w in
    sym shorter ∙ ap (take (length u)) h ∙ take-append_seam u (b ∷ [])

module _ {S : Type 0} (takes stops : S → EventData → S → Type 0) where
  -- All of the piece was taken.
  pub carry_ok : (d : DecoderData) (m m' : Machine) (k : ℕ) (f : Option Fault) (w : List ℕ) (es : List EventData) (piece : List ℕ)
      (s s' : S) → d.fault ≡ None → f ≡ None → k ≡ length piece
      → meaning d.set d.limits m ≡ meaning d.set d.limits d.machine → AreBytes piece → IsReady d.set d.limits m'
      → IsSupplied d.set d.limits m' → IsWithinMessage d.set d.limits m'
      → TookEvents takes (tree d) d.limits (waiting_at (meaning d.set d.limits m)) piece s s' (waiting_at (meaning d.set d.limits m'))
      → HasRead d w es → Carries takes w es piece s (fed_data d m' k f) s'
  carry_ok d m m' k f w es piece s s' none still all same bytes ready supplied within took so =
      let at = running d w es so none in
      let start : waiting_at (meaning d.set d.limits m) ≡ so.position = ap waiting_at same ∙ sym at.0 in
      let led : run (message_begun (tree d) d.limits) (length w) so.position piece ≡ (took.events, waiting_at (meaning d.set d.limits m'))
      = ap (λ x. run (message_begun (tree d) d.limits) (length w) x piece) (sym start) ∙ took.leads (length w) in
      record {
        more = took.events;
        so = record {
          sound = record {
            later = so.sound.later;
            supplied = supplied;
            at = subst (λ (g : Option Fault). IsSoundAt g d.set d.limits m' (d.consumed + k)) (sym still) ready;
            paid = subst (λ (g : Option Fault). IsPaidAt g d.set d.limits m') (sym still) within;
          };
          bytes = both_bytes w piece so.bytes bytes;
          position = waiting_at (meaning d.set d.limits m');
          read = read_behind d w piece es so.position so.read ∙ ap (λ (x : List EventData × Position Dictionary). (es ++ x.0, x.1)) led;
          at = subst (λ (g : Option Fault). IsAt g (fed_data d m' k f) (length (w ++ piece)) (waiting_at (meaning d.set d.limits m')))
              (sym still) (refl, omega (arith, at.1, length-append w piece));
        };
        took = took.taken;
      }

  -- A front of the piece was taken, and its last byte decided a fault.
  pub carry_fault : (d : DecoderData) (m m' : Machine) (k : ℕ) (c : Code) (w : List ℕ) (es : List EventData) (piece : List ℕ) (s s' : S)
      → d.fault ≡ None → k ≤ length piece
      → meaning d.set d.limits m ≡ meaning d.set d.limits d.machine → AreBytes piece → IsSupplied d.set d.limits m'
      → Failed takes (tree d) d.limits (waiting_at (meaning d.set d.limits m)) (take k piece) s s' c → HasRead d w es
      → Carries takes w es piece s (fed_data d m' k (Some (record { code = Why.Stream c; place = d.consumed + k }))) s'
  carry_fault d m m' k c w es piece s s' none within same bytes supplied failed so =
      let at = running d w es so none in
      let first = message_begun (tree d) d.limits in
      let start : waiting_at (meaning d.set d.limits m) ≡ so.position = ap waiting_at same ∙ sym at.0 in
      let len : length (take k piece) ≡ k = length-take-le k piece within in
      let place : length w + length (take k piece) ≡ d.consumed + k = omega (arith, at.1, len) in
      let led : run first (length w) so.position (take k piece) ≡ (failed.events, at_fault c (d.consumed + k))
      = ap (λ x. run first (length w) x (take k piece)) (sym start) ∙ failed.leads (length w) ∙ ap (λ n. (failed.events, at_fault c n)) place in
      let front : reading (tree d) d.limits (w ++ take k piece) ≡ (es ++ failed.events, at_fault c (d.consumed + k))
      = read_behind d w (take k piece) es so.position so.read ∙ ap (λ (x : List EventData × Position Dictionary). (es ++ x.0, x.1)) led in
      let rest = at-fault first (length (w ++ take k piece)) (d.consumed + k) c (drop k piece) in
      let split : w ++ piece ≡ (w ++ take k piece) ++ drop k piece = ap (λ v. w ++ v) (sym (take-append-drop k piece))
      ∙ sym (append_assoc w (take k piece) (drop k piece)) in
      record {
        more = failed.events;
        so = record {
          sound = record { later = so.sound.later; supplied = supplied; at = refl; paid = tt };
          bytes = both_bytes w piece so.bytes bytes;
          position = at_fault c (d.consumed + k);
          read = ap (reading (tree d) d.limits) split ∙ read_behind d (w ++ take k piece) (drop k piece) (es ++ failed.events)
              (at_fault c (d.consumed + k)) front
              ∙ pair (ap (λ fs. (es ++ failed.events) ++ fs) rest.0 ∙ append-nil (es ++ failed.events)) rest.1;
          at = refl;
        };
        took = failed.taken;
      }

  -- A front of the piece was taken, and the sink stopped at an event of its last byte.
  pub carry_stop : (d : DecoderData) (m : Machine) (k : ℕ) (w : List ℕ) (es : List EventData) (piece : List ℕ) (s s' : S) → d.fault ≡ None → k ≤ length piece
      → meaning d.set d.limits m ≡ meaning d.set d.limits d.machine → AreBytes piece
      → Stopped takes stops (tree d) d.limits (waiting_at (meaning d.set d.limits m)) (take k piece) s s' → HasRead d w es
      → SinkEnds takes stops d w es piece s (d.consumed + k) s'
  carry_stop d m k w es piece s s' none within same bytes h so =
      let at = running d w es so none in
      let first = message_begun (tree d) d.limits in
      let start : waiting_at (meaning d.set d.limits m) ≡ so.position = ap waiting_at same ∙ sym at.0 in
      let len : length (take k piece) ≡ k = length-take-le k piece within in
      let sum : length (take k piece) ≡ length h.before + 1 = ap length h.bytes ∙ length-append h.before (h.byte ∷ []) in
      let n : ℕ = length h.before in
      let more : k ≡ n + 1 = omega (arith, len, sum) in
      let whole : take (n + 1) piece ≡ h.before ++ h.byte ∷ [] = ap (λ i. take i piece) (sym more) ∙ h.bytes in
      let part : take n piece ≡ h.before = front_of piece h.before h.byte whole in
      let before_bytes : AreBytes h.before = subst AreBytes part (first_bytes piece n bytes) in
      let all_bytes : AreBytes (take (n + 1) piece) = first_bytes piece (n + 1) bytes in
      let led : run first (length w) so.position h.before ≡ (h.took.events, h.at) = ap (λ x. run first (length w) x h.before) (sym start)
      ∙ h.took.leads (length w) in
      let read_front : reading (tree d) d.limits (w ++ h.before) ≡ (es ++ h.took.events, h.at)
      = read_behind d w h.before es so.position so.read ∙ ap (λ (x : List EventData × Position Dictionary). (es ++ x.0, x.1)) led in
      let read_last : (reading (tree d) d.limits ((w ++ h.before) ++ h.byte ∷ [])).0 ≡ es ++ h.took.events ++ h.given
      = ap (λ (x : List EventData × Position Dictionary). x.0) (read_behind d (w ++ h.before) (h.byte ∷ []) (es ++ h.took.events) h.at read_front)
      ∙ ap (λ fs. (es ++ h.took.events) ++ fs) (h.gives (length (w ++ h.before))) in
      let joined : w ++ take (n + 1) piece ≡ (w ++ h.before) ++ h.byte ∷ [] = ap (λ v. w ++ v) whole ∙ sym (append_assoc w h.before (h.byte ∷ [])) in
      record {
        bytes = n;
        earlier = h.took.events;
        given = h.given;
        mid = h.mid;
        end_before = end_of (reading (tree d) d.limits (w ++ take n piece)).1;
        end_after = end_of (reading (tree d) d.limits (w ++ take (n + 1) piece)).1;
        within = omega arith;
        place_is = omega arith;
        until = subst (λ fs. Stream (tree d) d.limits (w ++ take n piece) fs (end_of (reading (tree d) d.limits (w ++ take n piece)).1))
            (ap (λ v. (reading (tree d) d.limits (w ++ v)).0) part ∙ ap (λ (x : List EventData × Position Dictionary). x.0) read_front)
            (reading-sound (tree d) d.limits (w ++ take n piece) (both_bytes w (take n piece) so.bytes (first_bytes piece n bytes)));
        through = subst (λ fs. Stream (tree d) d.limits (w ++ take (n + 1) piece) fs (end_of (reading (tree d) d.limits (w ++ take (n + 1) piece)).1))
            (ap (λ v. (reading (tree d) d.limits v).0) joined ∙ read_last)
            (reading-sound (tree d) d.limits (w ++ take (n + 1) piece) (both_bytes w (take (n + 1) piece) so.bytes all_bytes));
        took = h.took.taken;
        stopped = h.stopped;
      }

  -- What was taken of a piece, where the machine stopped.
  pub carry_stopped : (d : DecoderData) (m m' : Machine) (k : ℕ) (c : FaultCode) (w : List ℕ) (es : List EventData) (piece : List ℕ)
      (s s' : S) → d.fault ≡ None → k ≤ length piece
      → meaning d.set d.limits m ≡ meaning d.set d.limits d.machine → AreBytes piece → IsSupplied d.set d.limits m'
      → Fed takes stops (tree d) d.limits (waiting_at (meaning d.set d.limits m)) (take k piece) s (Err c) s'
      (waiting_at (meaning d.set d.limits m')) → HasRead d w es
      → CarriesAt takes stops d w es piece s c (d.consumed + k) (fed_data d m' k (Some (record { code = c; place = d.consumed + k }))) s'
  carry_stopped d m m' k (Why.Stream c) w es piece s s' none within same bytes supplied h so =
      carry_fault d m m' k c w es piece s s' none within same bytes supplied h so
  carry_stopped d m m' k Why.SinkStopped w es piece s s' none within same bytes supplied h so = carry_stop d m k w es piece s s' none within same bytes h so
  carry_stopped d m m' k Why.L4 w es piece s s' none within same bytes supplied h so = absurd h

  failed_at : (d : DecoderData) (m' : Machine) (f : Fault) (w : List ℕ) (es : List EventData) (piece : List ℕ) (s : S) (c : FaultCode)
      → d.fault ≡ Some f → f.code ≡ c → AreBytes piece → IsSupplied d.set d.limits m'
      → (so : HasRead d w es) → IsFaultAt c f.place so.position → CarriesAt takes stops d w es piece s c f.place (record d { machine = m' }) s
  failed_at d m' f w es piece s (Why.Stream c) e i bytes supplied so h =
      let first = message_begun (tree d) d.limits in
      let rest = at-fault first (length w) f.place c piece in
      let stays : run first (length w) so.position piece ≡ ([], at_fault c f.place) = ap (λ x. run first (length w) x piece) h ∙ pair rest.0 rest.1 in
      let sound : f.place ≡ d.consumed = subst (λ (g : Option Fault). IsSoundAt g d.set d.limits d.machine d.consumed) e so.sound.at in
      record {
        more = [];
        so = record {
          sound = record {
            later = so.sound.later;
            supplied = supplied;
            at = subst (λ (g : Option Fault). IsSoundAt g d.set d.limits m' d.consumed) (sym e) sound;
            paid = subst (λ (g : Option Fault). IsPaidAt g d.set d.limits m') (sym e) tt;
          };
          bytes = both_bytes w piece so.bytes bytes;
          position = at_fault c f.place;
          read = read_behind d w piece es so.position so.read ∙ ap (λ (x : List EventData × Position Dictionary). (es ++ x.0, x.1)) stays;
          at = subst (λ (g : Option Fault). IsAt g (record d { machine = m' }) (length (w ++ piece)) (at_fault c f.place)) (sym e)
              (subst (λ x. IsFaultAt x f.place (at_fault c f.place)) (sym i) refl);
        };
        took = refl;
      }
  failed_at d m' f w es piece s Why.L4 e i bytes supplied so h = absurd h
  failed_at d m' f w es piece s Why.SinkStopped e i bytes supplied so h = absurd h

  -- A decoder that has stopped.
  pub carry_failed : (d : DecoderData) (m' : Machine) (f : Fault) (w : List ℕ) (es : List EventData) (piece : List ℕ) (s : S)
      → d.fault ≡ Some f → AreBytes piece → IsSupplied d.set d.limits m' → HasRead d w es
      → CarriesAt takes stops d w es piece s f.code f.place (record d { machine = m' }) s
  carry_failed d m' f w es piece s e bytes supplied so = failed_at d m' f w es piece s f.code e refl bytes supplied so
      (subst (λ (g : Option Fault). IsAt g d (length w) so.position) e so.at)
