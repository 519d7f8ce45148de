-- What bytes say of a field, unit after unit.
use Rattle.std.proofs.Common.{refl, sym, ap, ◌∙◌, subst, arith, append_assoc, length-append}
use Rattle.std.specs.Prelude.{IfSome, ◌≡◌, ℕ, ◌+◌, ◌-◌, ◌<◌, ◌≤◌, Bool, true, List, ◌++◌, length, take, drop, Option, Some, None, is_some, unwrap_or}
use Rattle.std.proofs.Math.Seq.{take-add}
use Rattle.std.proofs.lemmas.List.{take-append-drop, drop-take, drop-drop, length-drop}
use Rattle.std.proofs.lemmas.List.Elements.{All-append}
use Rattle.fast_value.specs.declared.settings.Limits.{Limits}
use Rattle.fast_value.specs.meaning.Limits.{Bounds, bounds}
use Rattle.fast_value.specs.declared.kinds.Kind.{Kind}
use Rattle.fast_tree.specs.declared.operators.Operator.{Operator}
use Rattle.fast_tree.specs.meaning.Tree.{FieldData}
use Rattle.fast_tree.specs.meaning.Entries.{keeps_value}
use Rattle.fast_dict.specs.meaning.Dictionary.{Dictionary, PreviousData, previous_at}
use Rattle.fast_dict.specs.meaning.Operators.{Outcome}
use Rattle.fast_dict.specs.meaning.Slots.{slots_dictionary, slots_terms}
use Rattle.fast_dict.specs.declared.slots.Slots.{Slots}
use Rattle.fast_stream.specs.meaning.Fields.{field_term}
use Rattle.fast_stream.specs.device.Readers.{Reader, Done, Stop}
use Rattle.fast_stream.specs.device.GrammarReaders.{reader_of}
use Rattle.fast_stream.specs.device.Machine.{after_bytes}
use Rattle.fast_units.specs.device.Taking.{Waits, Quiet, Turns, Stays}
use Rattle.fast_units.specs.device.Stages.{term_behind, IsStageOf, IsFieldUnit}
use Rattle.fast_units.specs.device.Settling.{IsSettled, IsLastUnit, Serves}
use Rattle.fast_units.specs.device.Deciding.{source_of}
use Rattle.fast_units.specs.declared.stages.Stage.{Stage}
use Rattle.fast_units.specs.declared.stages.FieldStep.{FieldStep}
use Rattle.fast_units.specs.declared.stages.FieldStep.TheVariants.{Next}
use Rattle.fast_units.specs.declared.progress.Progress.TheVariants as Progress
use Rattle.fast_units.proofs.Turning.{after_run, quiet_run, turns_run}
use Rattle.fast_units.specs.device.NextUnits.{IsOpen}
use Rattle.fast_units.proofs.OpenUnits.{bytes_open}
use Rattle.fast_items.specs.device.TextsAs.{HasBegun}
use Rattle.fast_items.specs.device.FieldsAs.{IsFieldAs, IsSentItem, reader_in}
use Rattle.fast_items.specs.declared.taken.TakenItem.{TakenItem}
use Rattle.fast_fields.specs.declared.reading.Missing.{Missing}
use Rattle.fast_fields.specs.declared.reading.Reading.{Reading}
use Rattle.fast_fields.specs.declared.reading.Reading.TheVariants.{Whole, Wrong, More}
use Rattle.fast_fields.specs.device.Readings.{IsUndecided, IsFieldReading, KeepsRun, shifted}

-- the entry of an operator that keeps a value, by the number that it has, or any
pub kept_entry : (o : Operator) (e : Option ℕ) → keeps_value o ≡ is_some e → keeps_value o ≡ true → e ≡ Some (unwrap_or e 0)
kept_entry o (Some n) h k = refl
kept_entry o None h k = absurd (cc (sym k ∙ h))

-- An item of each field of the type under the operator is one of this field.
pub sent_as : (kind : Kind) (optional : Bool) (operator : Operator) (entry : ℕ) (strict : Bool) (rest : List ℕ) (old new : Slots) (f : FieldData)
    → IsFieldAs f kind optional operator entry → Serves (length (slots_dictionary old)) (slots_terms old) f → (x : Option TakenItem)
    → IfSome x (IsSentItem kind optional operator entry strict rest old new)
    → IfSome x (λ r. (l : Bounds) (scratch : List ℕ) → IsLastUnit (reader_in old strict l f) f rest (slots_dictionary old) (slots_dictionary new)
    scratch (Progress.Whole (source_of r.item) r.bytes))
sent_as kind optional operator entry strict rest old new f so serves None h = tt
sent_as kind optional operator entry strict rest old new f so serves (Some r) h = λ l scratch. h f l scratch so serves

-- A reader that has turned to another one waits where that one does.
stays_run : {A : Type 0} {r q : Reader A} {u v : List ℕ} → Turns r u q → Stays q v → Stays r (u ++ v)
stays_run {r = r} {u = u} {v = v} h j = record {
  quiet = quiet_run r u v h.quiet (subst (λ x. Quiet x v) (sym h.becomes) j.quiet);
  waits = subst Waits (sym (after_run r u v ∙ ap (λ x. after_bytes x v) h.becomes)) j.waits;
}

module _ (f : FieldData) (old new : Dictionary) (scratch : List ℕ) where
  -- After complete units, what the rest of the bytes says of the rest of the field.
  pub reading_after : (r q : Reader Outcome) (w : List ℕ) (n : ℕ) (x : Reading) → n ≤ length w → Turns r (take n w) q
      → IsFieldReading q f (drop n w) old new scratch x → IsFieldReading r f w old new scratch (shifted n x)
  reading_after r q w n (Whole found) within h (inside, (some, fits, gives)) =
      let left = length-drop n w in
      let front : take (n + found.bytes) w ≡ take n w ++ take found.bytes (drop n w) = take-add n found.bytes w in
      let piece : drop found.from (take found.bytes (drop n w)) ≡ drop (n + found.from) (take (n + found.bytes) w) =
      ap (drop found.from) (sym (drop-take n found.bytes w)) ∙ drop-drop found.from n (take (n + found.bytes) w) in (
        omega (arith, inside),
        (
          omega (arith, some),
          omega (arith, fits, left, within),
          record {
            outcome = gives.outcome;
            turns = subst (λ (u : List ℕ). Turns r u (Done gives.outcome)) (sym front) (turns_run h gives.turns);
            settled = subst (λ (u : List ℕ). IsSettled gives.outcome f found.source old new scratch u) piece gives.settled;
          },
        ),
      )
  reading_after r q w n (Wrong c m) within h (some, fits, turns) =
      let left = length-drop n w in (
        omega (arith, some),
        omega (arith, fits, left, within),
        subst (λ u. Turns r u (Stop c)) (sym (take-add n m w)) (turns_run h turns),
      )
  reading_after r q w n (More missing) within h ((some, stays), same) = (
    (
      some,
      λ v none short. subst (Stays r) (sym (append_assoc (take n w) (drop n w) v) ∙ ap (λ u. u ++ v) (take-append-drop n w))
          (stays_run h (stays v none short)),
    ),
    same,
  )

  -- An integer that goes on.
  pub cut_reading : (r : Reader Outcome) (w : List ℕ) (m : Missing) → ((v : List ℕ) → IsOpen v → Stays r v) → new ≡ old → IsOpen w
      → m ≡ record { bytes = 10 - length w; stops = true } → IsFieldReading r f w old new scratch (More m)
  cut_reading r w m waits same goes_on e = subst (λ n. IsFieldReading r f w old new scratch (More n)) (sym e) (
    (
      let few = goes_on.short in omega (arith, few),
      λ v none short. waits (w ++ v) (
          let len = length-append w v in record {
            no_stop = All-append (λ b. b < 128) w v goes_on.no_stop (none refl);
            short = omega (arith, len, short);
          }
          ),
    ),
    same,
  )

  -- A unit after which another follows.
  pub next_unit : (l : Limits) (r : Reader Outcome) (w : List ℕ) (n : ℕ) (step : FieldStep) (stage : Stage) → step ≡ Next stage
      → IsFieldUnit l r f w old new scratch (Progress.Whole step n)
      → (0 < n) × (n ≤ length w) × (new ≡ old) × IsStageOf (bounds l) f (previous_at f.entry old) stage
      × Turns r (take n w) (reader_of l.strict (term_behind (bounds l) f (previous_at f.entry old) stage))
  next_unit l r w n step stage e h = subst (λ (s : FieldStep). IsFieldUnit l r f w old new scratch (Progress.Whole s n)) e h

-- A string whose last unit waits for more bytes.
pub begun_undecided : (s : Bool) (l : Bounds) (f : FieldData) (p : PreviousData) (rest : List ℕ) (stage : Stage) (n : ℕ) (m : Missing)
    → HasBegun s l f p rest stage n → KeepsRun l f p stage (drop n rest) m → IsUndecided (reader_of s (field_term l f p true)) rest m
begun_undecided s l f p rest stage n m h (some, keeps) = (
  some,
  λ v none short. subst (Stays (reader_of s (field_term l f p true)))
      (sym (append_assoc (take n rest) (drop n rest) v) ∙ ap (λ u. u ++ v) (take-append-drop n rest))
      (stays_run h.turns (bytes_open s l f p stage (drop n rest ++ v) h.stage (keeps v none short))),
)
