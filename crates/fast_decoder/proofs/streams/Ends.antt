-- Where a decoder stands is where its stream ends.
use Rattle.std.proofs.Common.{refl, sym, ap, ◌∙◌, subst, arith, inl, inr}
use Rattle.std.specs.Prelude.{◌≡◌, ◌≢◌, ◌&&◌, ℕ, ◌<◌, Bool, true, false, nat_eq, if◌then◌else◌, List, [], ◌∷◌, length, is_none, Option, Some, None}
use Rattle.std.proofs.lemmas.Bool.Decides.{eqb_tells}
use Rattle.fast_wire.specs.meaning.Entities.{HaveNoStop}
use Rattle.fast_wire.specs.meaning.Maps.{map_limit}
use Rattle.fast_value.specs.declared.settings.Limits.{Limits}
use Rattle.fast_value.specs.declared.codes.Code.TheVariants.{L3}
use Rattle.fast_tree.specs.meaning.Numbers.{NameLaterNodes}
use Rattle.fast_dict.specs.meaning.Dictionary.{Dictionary}
use Rattle.fast_dict.specs.meaning.Slots.{slots_dictionary}
use Rattle.fast_stream.specs.declared.faults.Fault.{Fault}
use Rattle.fast_stream.specs.declared.faults.FaultCode.{FaultCode}
use Rattle.fast_stream.specs.declared.faults.FaultCode.TheVariants as Why
use Rattle.fast_machine.specs.declared.machine.Machine.{Machine}
use Rattle.fast_machine.specs.declared.machine.Waiting.{Waiting}
use Rattle.fast_machine.specs.declared.machine.Waiting.TheVariants.{Map, Identifier, SegmentMap, Field, Mantissa}
use Rattle.fast_stream.specs.meaning.Events.{EventData}
use Rattle.fast_stream.specs.meaning.Streams.{End, between, inside, Stream}
use Rattle.fast_stream.specs.meaning.Account.{Account, account_at, TellsStream}
use Rattle.fast_stream.specs.device.Readers.{Reader}
use Rattle.fast_stream.specs.device.Running.{Position, reading, end_of}
use Rattle.fast_machine.specs.device.Handing.{Waits, waiting_at}
use Rattle.fast_machine.specs.device.Positions.{Set, map_reader, mapped_reader, meaning, meaning_at, CanTake, IsReady, is_idle_at, is_idle}
use Rattle.fast_decoder.specs.meaning.Decoding.{DecoderData, tree, IsSoundAt, IsFaultAt, IsAt, HasRead, account}
use Rattle.fast_machine.proofs.units.InHand.{open_waits}
use Rattle.fast_machine.proofs.units.Takings.{map_reader-some}
use Rattle.fast_machine.proofs.units.Waitings.{machine_waits}
use Rattle.fast_stream.proofs.streams.Reading.{reading-sound}

-- between two messages or inside one
abbrev pub end_if : Bool → End
end_if idle = if idle then between else inside

waits_inside : (r : Reader Dictionary) → Waits r → end_of (waiting_at r) ≡ inside
waits_inside r (f, e) = ap (λ p. end_of (waiting_at p)) e

map_end : (set : Set) (l : Limits) (d : Dictionary) (w : List ℕ) → HaveNoStop w → length w < map_limit
    → end_of (waiting_at (map_reader set l d w)) ≡ end_if (nat_eq (length w) 0)
map_end set l d [] h short = refl
map_end set l d (b ∷ w) h short =
    let e = map_reader-some set l d (b ∷ w) (omega arith) in
    let some : nat_eq (length (b ∷ w)) 0 ≡ false = elim (eqb_tells (length (b ∷ w)) 0)
    [ inl t ↦ absurd (let none : length (b ∷ w) ≡ 0 = t.1 in omega arith) | inr t ↦ t.0 ] in
    waits_inside (map_reader set l d (b ∷ w)) (subst Waits (sym e) (open_waits L3 map_limit (mapped_reader set l d) (b ∷ w) h short)) ∙ ap end_if (sym some)

module _ (set : Set) (l : Limits) (m : Machine) (ready : IsReady set l m) where
  busy : (w : Waiting) → m.waiting ≡ w → w ≢ Map → end_of (waiting_at (meaning_at w set l m)) ≡ inside
  busy w e other = waits_inside (meaning_at w set l m) (subst (λ (u : Waiting). Waits (meaning_at u set l m)) e
      (machine_waits set l m ready (λ i. other (sym e ∙ i))))

  by_waiting : (w : Waiting) → m.waiting ≡ w → end_of (waiting_at (meaning_at w set l m)) ≡ end_if (is_idle_at w m.cursor.map)
  by_waiting Map e = let c = subst (λ (u : Waiting). CanTake u set l m) e ready.takes in map_end set l (slots_dictionary m.slots) m.cursor.map c.0 c.1
  by_waiting Identifier e = busy Identifier e (λ i. absurd (cc i))
  by_waiting (SegmentMap width) e = busy (SegmentMap width) e (λ i. absurd (cc i))
  by_waiting Field e = busy Field e (λ i. absurd (cc i))
  by_waiting (Mantissa x) e = busy (Mantissa x) e (λ i. absurd (cc i))

  pub machine_end : end_of (waiting_at (meaning set l m)) ≡ end_if (is_idle m)
  machine_end = by_waiting m.waiting refl

account_if : (w : List ℕ) (idle : Bool) (n : ℕ) → n ≡ length w → (let s : Account = record {
  is_between = idle;
  fault = None;
  consumed = n;
} in s) ≡ account_at w (end_if idle)
account_if w true n e = ap (λ k. let s : Account = record { is_between = true; fault = None; consumed = k } in s) e
account_if w false n e = ap (λ k. let s : Account = record { is_between = false; fault = None; consumed = k } in s) e

by_code : (c : FaultCode) (place : ℕ) (w : List ℕ) (s : Position Dictionary) → IsFaultAt c place s → (let t : Account = record {
  is_between = false;
  fault = Some (record { code = c; place = place });
  consumed = place;
} in t) ≡ account_at w (end_of s)
by_code (Why.Stream c) place w s h = ap (λ x. account_at w (end_of x)) (sym h)
by_code Why.L4 place w s h = absurd h
by_code Why.SinkStopped place w s h = absurd h

by_fault : (o : Option Fault) (d : DecoderData) (w : List ℕ) (s : Position Dictionary) → NameLaterNodes d.set.nodes
    → IsSoundAt o d.set d.limits d.machine d.consumed → IsAt o d (length w) s
    → (let t : Account = record { is_between = is_none o && is_idle d.machine; fault = o; consumed = d.consumed } in t) ≡ account_at w (end_of s)
by_fault None d w s later ready at =
    account_if w (is_idle d.machine) d.consumed at.1
    ∙ ap (account_at w) (sym (machine_end d.set d.limits d.machine ready)) ∙ ap (λ x. account_at w (end_of x)) (sym at.0)
by_fault (Some f) d w s later placed at =
    ap (λ n. let t : Account = record { is_between = false; fault = Some f; consumed = n } in t) (sym placed) ∙ by_code f.code f.place w s at

-- What leads to a decoder is a stream, whose end it tells.
pub read-stream : (d : DecoderData) (w : List ℕ) (es : List EventData) → HasRead d w es → TellsStream (tree d) d.limits w es (account d)
read-stream d w es so =
    let read = so.read in (
      end_of so.position,
      subst (λ fs. Stream (tree d) d.limits w fs (end_of so.position)) (ap (λ (x : List EventData × Position Dictionary). x.0) read)
          (subst (λ x. Stream (tree d) d.limits w (reading (tree d) d.limits w).0 (end_of x))
          (ap (λ (x : List EventData × Position Dictionary). x.1) read) (reading-sound (tree d) d.limits w so.bytes)),
      by_fault d.fault d w so.position so.sound.later so.sound.at so.at,
    )
