-- The bytes of a call pay for its turns.
use Rattle.fast_machine.proofs.steps.Recounted.{supplied-turns, takes-turns}
use Rattle.std.proofs.Common.{sym, ap, subst, arith}
use Rattle.std.specs.Prelude.{◌≡◌, ℕ, ◌+◌, ◌-◌, ◌*◌, ◌≤◌, Option, None, Result, Ok, Err, OnOk, ◌<◌}
use Rattle.fast_value.specs.declared.settings.Limits.{Limits}
use Rattle.fast_tree.specs.meaning.Sizes.{turn_cap}
use Rattle.fast_stream.specs.declared.faults.Fault.{Fault}
use Rattle.fast_stream.specs.declared.faults.FaultCode.{FaultCode}
use Rattle.fast_machine.specs.declared.machine.Machine.{Machine}
use Rattle.fast_tree.specs.meaning.Numbers.{NameLaterNodes}
use Rattle.fast_machine.specs.device.Positions.{Set, tree_in, IsSupplied, IsReady}
use Rattle.fast_machine.specs.device.TurnsLeft.{Way, most_by, HasTurnsWaiting, IsWithinMessage}
use Rattle.fast_decoder.specs.meaning.Decoding.{DecoderData, tree, IsSoundAt, IsPaidAt, IsSound}
use Rattle.fast_machine.proofs.steps.TurnCounts.{counted_anew, turns_bounded}

-- what is known of a machine behind so many bytes, by how they ended
abbrev pub IsPaid : Set → Limits → ℕ → Machine → Result Unit FaultCode → Type 0
IsPaid set l k m r = (way : Way) → (m.turns.count ≤ k * (1 + most_by way (tree_in set) l)) × OnOk r ((n : ℕ) × HasTurnsWaiting way set l n m)

-- A feed begins to count, with what is left of the message.
pub feed_paid : (d : DecoderData) (m m' : Machine) (k : ℕ) (r : Result Unit FaultCode) → d.fault ≡ None
    → m ≡ record d.machine { turns = m.turns } → m.turns.count ≡ 0 → IsSound d
    → ((way : Way) → m.turns.count ≡ 0 → HasTurnsWaiting way d.set d.limits (most_by way (tree_in d.set) d.limits) m
    → (m'.turns.count ≤ k * (1 + most_by way (tree_in d.set) d.limits)) × OnOk r ((n : ℕ) × HasTurnsWaiting way d.set d.limits n m'))
    → IsPaid d.set d.limits k m' r
feed_paid d m m' k r running same none sound takes way =
    let (n, has) = subst (λ (f : Option Fault). IsPaidAt f d.set d.limits d.machine) running sound.paid way in
    takes way none (subst (λ (x : Machine). HasTurnsWaiting way d.set d.limits (most_by way (tree_in d.set) d.limits) x) (sym same)
    (counted_anew way d.set d.limits n d.machine m.turns none has))

pub all_within : (set : Set) (l : Limits) (k : ℕ) (m : Machine) (r : Result Unit FaultCode) → IsPaid set l k m r → OnOk r (IsWithinMessage set l m)
all_within set l k m (Ok u) h = λ way. (h way).1
all_within set l k m (Err c) h = tt

-- the turns by the bytes consumed
pub feed_turns : (d old : DecoderData) (k : ℕ) (m : Machine) (r : Result Unit FaultCode) → d ≡ old → IsPaid d.set d.limits k m r
    → m.turns.count ≤ ((d.consumed + k) - old.consumed) * (1 + turn_cap (tree d) d.limits)
feed_turns d old k m r view h =
    let consumed : d.consumed ≡ old.consumed = ap (λ (x : DecoderData). x.consumed) view in
    let bytes : (d.consumed + k) - old.consumed ≡ k = omega (arith, consumed) in
    rw bytes (turns_bounded (tree d) d.limits k m.turns.count (λ way. (h way).0))

-- The decoder that goes on.
pub sound_on : (d : DecoderData) (m : Machine) (k : ℕ) → d.fault ≡ None → NameLaterNodes d.set.nodes → IsSupplied d.set d.limits m
    → IsReady d.set d.limits m → IsWithinMessage d.set d.limits m
    → IsSound (record { set = d.set; limits = d.limits; machine = m; consumed = d.consumed + k; fault = d.fault })
sound_on d m k running later supplied ready within = record {
  later = later;
  supplied = supplied;
  at = subst (λ (f : Option Fault). IsSoundAt f d.set d.limits m (d.consumed + k)) (sym running) ready;
  paid = subst (λ (f : Option Fault). IsPaidAt f d.set d.limits m) (sym running) within;
}

-- Bytes that are too many to be counted, and that are not.
pub past_count : (a b n : ℕ) → a ≡ b → 18446744073709551615 - a < n → 18446744073709551616 ≤ b + n
past_count a b n same many = omega (arith, same, many)

-- A machine whose turns are counted anew is ready for what it was.
pub ready_begun : (o : Option Fault) (set : Set) (l : Limits) (m m' : Machine) (k : ℕ) → o ≡ None → m' ≡ record m { turns = m'.turns }
    → IsSoundAt o set l m k → IsReady set l m'
ready_begun o set l m m' k running same at =
    let ready : IsReady set l m = subst (λ (p : Option Fault). IsSoundAt p set l m k) running at in
    subst (λ (n : Machine). IsReady set l n) (sym same) (record {
      supplied = supplied-turns set l m m'.turns ready.supplied;
      takes = takes-turns m.waiting set l m m'.turns ready.takes;
    })
