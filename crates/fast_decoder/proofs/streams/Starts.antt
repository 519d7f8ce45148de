-- A decoder before the first byte.
use Rattle.std.proofs.Common.{refl, sym, ap, ◌∙◌, subst, arith}
use Rattle.std.specs.Prelude.{◌≡◌, ℕ, ◌<◌, List, [], length, None}
use Rattle.std.proofs.lemmas.List.Elements.{All-nil}
use Rattle.fast_wire.specs.meaning.Entities.{HaveNoStop}
use Rattle.fast_wire.specs.meaning.Maps.{map_limit}
use Rattle.fast_value.specs.declared.settings.Limits.{Limits}
use Rattle.fast_tree.specs.meaning.Numbers.{NameLaterNodes}
use Rattle.fast_dict.specs.meaning.Dictionary.{fresh}
use Rattle.fast_dict.specs.meaning.Slots.{slots_dictionary}
use Rattle.fast_machine.specs.declared.machine.Machine.{Machine}
use Rattle.fast_machine.specs.declared.machine.Waiting.{Waiting}
use Rattle.fast_cursor.specs.device.Cursors.{CursorData, resting}
use Rattle.fast_stream.specs.device.Readers.{Done}
use Rattle.fast_stream.specs.device.Running.{at_start}
use Rattle.fast_machine.specs.device.Handing.{waiting_at}
use Rattle.fast_machine.specs.device.Positions.{Set, meaning, meaning_at, map_reader, CanTake, IsSupplied, IsReady, IsFresh}
use Rattle.fast_decoder.specs.meaning.Decoding.{DecoderData, IsSoundAt, IsPaidAt, IsSound, IsAt, HasRead}
use Rattle.fast_machine.proofs.steps.TurnCounts.{fresh_turns}

none_open : (m : List ℕ) → m ≡ [] → HaveNoStop m
none_open m e = subst HaveNoStop (sym e) (All-nil (λ b. b < 128))

none_short : (m : List ℕ) (n : ℕ) → m ≡ [] → 0 < n → length m < n
none_short m n e h = subst (λ (w : List ℕ). length w < n) (sym e) h

-- A machine of which nothing was read can take a map.
pub ready_fresh : (set : Set) (l : Limits) (m : Machine) → IsSupplied set l m → IsFresh set m → IsReady set l m
ready_fresh set l m supplied f =
    let map : m.cursor.map ≡ [] = ap (λ (c : CursorData). c.map) f.cursor in
    let rest : m.cursor ≡ record (resting m.cursor) { map = m.cursor.map } = f.cursor ∙ ap (λ (w : List ℕ). record (resting m.cursor) { map = w }) (sym map) in
    record {
      supplied = supplied;
      takes = subst (λ (w : Waiting). CanTake w set l m) (sym f.waiting)
          (none_open m.cursor.map map, none_short m.cursor.map map_limit map (omega arith), rest);
    }

fresh_meaning : (set : Set) (l : Limits) (m : Machine) → IsFresh set m → meaning set l m ≡ Done (fresh set.entries)
fresh_meaning set l m f =
    ap (λ (w : Waiting). meaning_at w set l m) f.waiting
    ∙ ap (λ (w : List ℕ). map_reader set l (slots_dictionary m.slots) w) (ap (λ (c : CursorData). c.map) f.cursor)
    ∙ ap Done f.dictionary

-- A decoder of which nothing was read.
pub sound_fresh : (d : DecoderData) → NameLaterNodes d.set.nodes → IsSupplied d.set d.limits d.machine → IsFresh d.set d.machine → d.fault ≡ None → IsSound d
sound_fresh d later supplied f none = record {
  later = later;
  supplied = supplied;
  at = subst (λ o. IsSoundAt o d.set d.limits d.machine d.consumed) (sym none) (ready_fresh d.set d.limits d.machine supplied f);
  paid = subst (λ o. IsPaidAt o d.set d.limits d.machine) (sym none) (fresh_turns d.set d.limits d.machine f);
}

pub read_fresh : (d : DecoderData) → NameLaterNodes d.set.nodes → IsSupplied d.set d.limits d.machine → IsFresh d.set d.machine
    → d.consumed ≡ 0 → d.fault ≡ None → HasRead d [] []
read_fresh d later supplied f zero none = record {
  sound = sound_fresh d later supplied f none;
  bytes = All-nil (λ b. b < 256);
  position = at_start (fresh d.set.entries);
  read = refl;
  at = subst (λ o. IsAt o d 0 (at_start (fresh d.set.entries))) (sym none) (ap waiting_at (sym (fresh_meaning d.set d.limits d.machine f)), zero);
}
