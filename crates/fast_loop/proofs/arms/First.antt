-- A machine between two messages, at which one begins.
use Rattle.std.proofs.Common.{refl, ap, subst, ◌∙◌, length, arith}
use Rattle.std.specs.Prelude.{◌≡◌, ℕ, ◌≤◌, false, true, List, [], ◌∷◌}
use Rattle.std.proofs.lemmas.Bool.Decides.{nat_tests}
use Rattle.fast_value.specs.declared.settings.Limits.{Limits}
use Rattle.fast_dict.specs.meaning.Slots.{slots_dictionary}
use Rattle.fast_stream.specs.device.Readers.{Done}
use Rattle.fast_machine.specs.declared.machine.Machine.{Machine}
use Rattle.fast_machine.specs.declared.machine.Waiting.{Waiting}
use Rattle.fast_machine.specs.declared.machine.Waiting.TheVariants.{Map, Identifier, SegmentMap, Field, Mantissa}
use Rattle.fast_machine.specs.device.Positions.{Set, tree_in, meaning, meaning_at, map_reader, CanTake, IsReady, is_idle_at}
use Rattle.fast_machine.specs.device.TurnsLeft.{Way, most_by, HasTurnsAt, HasTurnsInMap, HasTurnsWaiting, turns_begun, turns_begun_at}

-- It waits for a map of which no byte was read.
pub idle_at : (w : Waiting) (map : List ℕ) → is_idle_at w map ≡ true → (w ≡ Map) × (map ≡ [])
idle_at Map [] e = (refl, refl)
idle_at Map (b ∷ map) e = let none : length (b ∷ map) ≡ 0 = grind (arith, nat_tests) in absurd (omega (arith, none))
idle_at Identifier map e = absurd (let k : false ≡ true = e in cc k)
idle_at (SegmentMap width) map e = absurd (let k : false ≡ true = e in cc k)
idle_at Field map e = absurd (let k : false ≡ true = e in cc k)
idle_at (Mantissa x) map e = absurd (let k : false ≡ true = e in cc k)

module _ (set : Set) (l : Limits) (m : Machine) (waits : m.waiting ≡ Map) (none : m.cursor.map ≡ []) where
  pub idle_reader : meaning set l m ≡ Done (slots_dictionary m.slots)
  idle_reader = ap (λ (w : Waiting). meaning_at w set l m) waits ∙ ap (map_reader set l (slots_dictionary m.slots)) none

  pub idle_takes : IsReady set l m → CanTake Map set l m
  idle_takes ready = subst (λ (w : Waiting). CanTake w set l m) waits ready.takes

  -- It has made no more turns than that, and may make all of the message.
  pub idle_turns : (way : Way) (n : ℕ) → HasTurnsWaiting way set l n m → m.turns.count ≤ n
  idle_turns way n h =
      subst (λ (map : List ℕ). HasTurnsInMap map way set l n m.turns.count) none (subst (λ (w : Waiting). HasTurnsAt w way set l n m) waits h)

  pub idle_begun : (way : Way) → turns_begun_at m.waiting m.cursor.map way (tree_in set) l ≡ most_by way (tree_in set) l
  idle_begun way =
      ap (λ (w : Waiting). turns_begun_at w m.cursor.map way (tree_in set) l) waits
      ∙ ap (λ (map : List ℕ). turns_begun map way (tree_in set) l) none
