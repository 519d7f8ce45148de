-- Bytes of a field that are carried, and those after them.
use Rattle.std.proofs.Common.{refl, inl, sym, ap, ◌∙◌, subst, arith, append_assoc, append-nil, length-append}
use Rattle.std.specs.Prelude.{◌≡◌, ◌≢◌, ℕ, ◌+◌, ◌-◌, ◌<◌, ◌≤◌, ◌==◌, Bool, true, false, List, [], ◌∷◌, ◌++◌, length, min, take, drop}
use Rattle.std.proofs.Math.Seq.{take-append-add}
use Rattle.std.proofs.lemmas.Bool.Decides.{nat_tests}
use Rattle.std.proofs.lemmas.List.{take-append-drop, take-append-le, length-take, take_all}
use Rattle.std.proofs.lemmas.List.Elements.{All-append}
use Rattle.fast_wire.specs.meaning.Entities.{HaveNoStop}
use Rattle.fast_value.specs.declared.codes.Code.{Code}
use Rattle.fast_value.specs.meaning.Limits.{Bounds}
use Rattle.fast_tree.specs.declared.operators.Operator.TheVariants.{Constant}
use Rattle.fast_tree.specs.meaning.Tree.{FieldData}
use Rattle.fast_dict.specs.meaning.Dictionary.{Dictionary, PreviousData}
use Rattle.fast_dict.specs.meaning.Operators.{Outcome}
use Rattle.fast_stream.specs.device.Readers.{Reader, Done, Stop}
use Rattle.fast_stream.specs.device.GrammarReaders.{reader_of}
use Rattle.fast_stream.specs.device.Running.{after_byte}
use Rattle.fast_stream.specs.device.Machine.{after_bytes}
use Rattle.fast_stream.specs.meaning.Fields.{field_term}
use Rattle.fast_units.specs.device.UnitFronts.{IsAsciiFirst}
use Rattle.fast_units.specs.device.Taking.{Waits, Turns, Stays}
use Rattle.fast_units.specs.device.Settling.{GivesField}
use Rattle.fast_units.specs.declared.progress.Progress.TheVariants as Progress
use Rattle.fast_units.proofs.OpenUnits.{ascii_field_open}
use Rattle.fast_fields.specs.declared.reading.Missing.{Missing}
use Rattle.fast_fields.specs.declared.reading.WholeField.{WholeField}
use Rattle.fast_fields.specs.declared.reading.Reading.TheVariants.{Whole, Wrong}
use Rattle.fast_fields.specs.device.Readings.{IsUndecided, IsFieldReading}
use Rattle.fast_fields.specs.device.Carries.{IsCarriedUnit, at_hand}

-- A reader that is undecided after bytes waits there.
pub stays_now : {A : Type 0} (r : Reader A) (w : List ℕ) (m : Missing) → IsUndecided r w m → Stays r w
stays_now r w m (some, stays) = subst (λ u. Stays r u) (append-nil w) (stays [] (λ _ k d h. omega (arith, h)) some)

-- Fewer bytes than are missing leave it undecided.
pub kept_undecided : {A : Type 0} (r : Reader A) (w u : List ℕ) (m : Missing) (left : ℕ) → length u + left ≡ m.bytes → 0 < left
    → (m.stops ≡ true → HaveNoStop u) → IsUndecided r w m → IsUndecided r (w ++ u) (record { bytes = left; stops = m.stops })
kept_undecided r w u m left e some none (all, stays) = (
  some,
  λ v no_stop short. subst (λ x. Stays r x) (sym (append_assoc w u v)) (stays (u ++ v) (λ h. All-append (λ b. b < 128) u v (none h) (no_stop h)) (
      let len = length-append u v in omega (arith, len, short, e)
      )),
)

-- A reader that waits after bytes has waited after each of them.
waits_within : {A : Type 0} (r : Reader A) (u v : List ℕ) → Stays r (u ++ v) → Waits (after_bytes r u)
waits_within r [] [] h = h.waits
waits_within r [] (b ∷ v) h = h.quiet.0
waits_within r (b ∷ u) v h = waits_within (after_byte r b) u v (record { quiet = h.quiet.1; waits = h.waits })

-- So it ends only after more bytes.
ends_after : {A : Type 0} (r q : Reader A) (front rest : List ℕ) (n : ℕ) → Stays r front → ¬ (Waits q) → Turns r (take n (front ++ rest)) q → length front < n
ends_after r q front rest n h ends t =
    let more : ¬ (n ≤ length front) = (λ (short : n ≤ length front).
    let turns : Turns r (take n front) q = subst (λ u. Turns r u q) (take-append-le n front rest short) t in
    ends (subst Waits turns.becomes (waits_within r (take n front) (drop n front) (subst (λ u. Stays r u) (sym (take-append-drop n front)) h)))) in
    omega (arith, more)

done_ends : {A : Type 0} (a : A) → ¬ (Waits (Done a))
done_ends a (f, e) = cc e

stop_ends : {A : Type 0} (c : Code) → ¬ (Waits {A = A} (Stop c))
stop_ends c (f, e) = cc e

-- The bytes that are carried, and some of those after them.
rest_take : (front rest : List ℕ) (count n : ℕ) → length front < n → n ≤ length (front ++ take count rest)
    → take n (front ++ take count rest) ≡ front ++ take (n - length front) rest
rest_take front rest count n more fits =
    let k = n - length front in
    let sum : length front + k ≡ n = omega (arith, more) in
    let len = length-append front (take count rest) in
    ap (λ i. take i (front ++ take count rest)) (sym sum) ∙ take-append-add front (take count rest) k
    ∙ ap (λ u. front ++ u) (sym (take-append-le k (take count rest) (drop count rest) (omega (arith, fits, len, sum)))
    ∙ ap (take k) (take-append-drop count rest))

rest_within : (front rest : List ℕ) (count n : ℕ) → n ≤ length (front ++ take count rest) → n - length front ≤ length rest
rest_within front rest count n fits =
    let len = length-append front (take count rest) in
    let parts = length-append (take count rest) (drop count rest) in
    let all = ap length (take-append-drop count rest) in
    omega (arith, fits, len, parts, all)

module _ (r : Reader Outcome) (f : FieldData) (old new : Dictionary) (scratch front rest w : List ℕ) (held count : ℕ)
    (is : held ≡ length front) (all : w ≡ front ++ take count rest) (waits : Stays r front) where
  -- A field that is complete has more bytes than were carried.
  pub whole_after : (found : WholeField) → IsFieldReading r f w old new scratch (Whole found) → held < found.bytes
  whole_after found (inside, (some, fits, gives)) =
      let more = ends_after r (Done gives.outcome) front (take count rest) found.bytes waits (done_ends gives.outcome)
      (subst (λ (u : List ℕ). Turns r (take found.bytes u) (Done gives.outcome)) all gives.turns) in
      omega (arith, more, is)

  pub whole_bytes : (found : WholeField) → IsFieldReading r f w old new scratch (Whole found)
      → take found.bytes w ≡ front ++ take (found.bytes - held) rest
  whole_bytes found h =
      let (inside, (some, fits, gives)) = h in
      let more = whole_after found h in
      ap (take found.bytes) all ∙ rest_take front rest count found.bytes (omega (arith, more, is)) (subst (λ (u : List ℕ). found.bytes ≤ length u) all fits)
      ∙ ap (λ (n : ℕ). front ++ take (found.bytes - n) rest) (sym is)

  pub whole_carried : (found : WholeField) → IsFieldReading r f w old new scratch (Whole found)
      → IsCarriedUnit r f front rest old new scratch (Progress.Whole found (found.bytes - held))
  whole_carried found h =
      let (inside, (some, fits, gives)) = h in
      let more = whole_after found h in
      let within = rest_within front rest count found.bytes (subst (λ (u : List ℕ). found.bytes ≤ length u) all fits) in (
        omega (arith, more),
        omega (arith, within, is),
        inside,
        omega (arith, more, is),
        subst (λ (u : List ℕ). GivesField r u f found.source old new scratch (drop found.from u)) (whole_bytes found h) gives,
      )

  -- So has one that is wrong.
  pub wrong_after : (c : Code) (n : ℕ) → IsFieldReading r f w old new scratch (Wrong c n) → held < n
  wrong_after c n (some, fits, turns) =
      let more = ends_after r (Stop c) front (take count rest) n waits (stop_ends c) (subst (λ (u : List ℕ). Turns r (take n u) (Stop c)) all turns) in
      omega (arith, more, is)

  pub wrong_carried : (c : Code) (n : ℕ) → IsFieldReading r f w old new scratch (Wrong c n)
      → IsCarriedUnit r f front rest old new scratch (Progress.Wrong c (n - held))
  wrong_carried c n h =
      let (some, fits, turns) = h in
      let more = wrong_after c n h in
      let fits : n ≤ length (front ++ take count rest) = subst (λ (u : List ℕ). n ≤ length u) all fits in
      let within = rest_within front rest count n fits in (
        omega (arith, more),
        omega (arith, within, is),
        subst (λ (u : List ℕ). Turns r u (Stop c)) (ap (take n) all ∙ rest_take front rest count n (omega (arith, more, is)) fits
            ∙ ap (λ (k : ℕ). front ++ take (n - k) rest) (sym is)) turns,
      )

-- If something is missing of as many bytes as there is room for, all of the rest is among them.
pub all_taken : (front rest w : List ℕ) (count capacity missing : ℕ) → w ≡ front ++ take count rest
    → min (length rest) (capacity - length front) ≤ count → length w + missing ≤ capacity → 0 < missing → w ≡ front ++ rest
all_taken front rest w count capacity missing all least fits some =
    let len = ap length all ∙ length-append front (take count rest) in
    let size = length-take count rest in
    let whole : length rest ≤ count = omega (arith, len, size, least, fits, some) in
    all ∙ ap (λ u. front ++ u) (take_all count rest whole)

-- The bytes that are at hand, without any that are carried, and with some.
pub none_held : (w : List ℕ) → true ≡ (length w == 0) → w ≡ []
none_held [] e = refl
none_held (b ∷ w) e = let none : length (b ∷ w) ≡ 0 = grind (arith, nat_tests) in absurd (omega (arith, none))

pub hand_more : (w v rest : List ℕ) → false ≡ (length w == 0) → at_hand (w ++ v) rest ≡ w ++ v
hand_more [] v rest e = cc e
hand_more (b ∷ w) v rest e = refl

-- An ASCII string of which no byte is there.
pub none_open : (s : Bool) (l : Bounds) (f : FieldData) (p : PreviousData) (v : List ℕ) → IsAsciiFirst f → f.operator ≢ Constant
    → length v < 1 → Stays (reader_of s (field_term l f p true)) v
none_open s l f p [] text varies short =
    ascii_field_open s l f p [] text varies (inl ((λ k d h. omega (arith, h)), omega arith, λ h. cc h.1), refl)
none_open s l f p (b ∷ v) text varies short = let no : ⊥ = omega (arith, short) in absurd no
