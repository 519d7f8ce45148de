-- Fields of texts of which all units stand whole in the piece.
use Rattle.std.proofs.Common.{refl, sym, ap, ◌∙◌, subst, arith, inl, inr}
use Rattle.std.specs.Prelude.{◌≡◌, ◌≢◌, ◌⊎◌, ℕ, ◌+◌, ◌-◌, ◌<◌, ◌≤◌, Bool, true, false, nat_le, if◌then◌else◌, List, ◌++◌, length, take}
use Rattle.std.specs.Prelude.{drop, ℤ, pos, Option, Some, None, option_map, Ok, Err}
use Rattle.std.proofs.Math.Seq.{take-add}
use Rattle.std.proofs.lemmas.Bool.Decides.{leb_tells}
use Rattle.std.proofs.lemmas.List.{length-take-le, length-drop, drop-take}
use Rattle.fast_fronts.specs.device.Fronts.{IsFirstInt}
use Rattle.fast_fronts.specs.declared.fronts.First.TheVariants as First
use Rattle.fast_wire.specs.meaning.Integers.{unsigned_range}
use Rattle.fast_value.specs.declared.codes.Code.TheVariants.{D2, L1}
use Rattle.fast_value.specs.declared.kinds.Kind.TheVariants.{Ascii}
use Rattle.fast_value.specs.meaning.Kinds.{texts, family, value_of_text}
use Rattle.fast_value.specs.meaning.Limits.{Bounds}
use Rattle.fast_tree.specs.declared.operators.Operator.TheVariants as Op
use Rattle.fast_tree.specs.declared.operators.Operator.{Operator}
use Rattle.fast_tree.specs.meaning.Tree.{FieldData}
use Rattle.fast_tree.specs.meaning.Entries.{keeps_value}
use Rattle.fast_dict.specs.meaning.Dictionary.{Dictionary, PreviousData, previous_at}
use Rattle.fast_dict.specs.meaning.Operators.{Outcome, null, decide, checked_text, null_empties}
use Rattle.fast_stream.specs.device.Readers.{Reader, Done}
use Rattle.fast_stream.specs.meaning.Grammar.{Grammar, give, integer, raw}
use Rattle.fast_stream.specs.device.GrammarReaders.{reader_of}
use Rattle.fast_stream.specs.meaning.Fields.{sent_text, field_term}
use Rattle.fast_units.specs.device.Taking.{Turns}
use Rattle.fast_units.specs.device.Settling.{GivesField}
use Rattle.fast_items.specs.device.FieldsAs.{GivesWhole}
use Rattle.fast_items.specs.device.TextsAs.{HasBegun}
use Rattle.fast_units.specs.declared.stages.Stage.TheVariants.{Vector}
use Rattle.fast_units.specs.device.TextDecisions.{IsTextDecided, behind_size}
use Rattle.fast_units.specs.declared.source.ValueSource.{ValueSource}
use Rattle.fast_units.specs.declared.source.ValueSource.TheVariants as From
use Rattle.fast_units.proofs.Turning.{turns_as, turns_run}
use Rattle.fast_units.proofs.NextUnits.{first_whole, run_whole}
use Rattle.fast_units.proofs.LastUnits.{Begins, unit_goes}
use Rattle.fast_units.proofs.TextOutcomes.{absent_left, decided_as, decided_plain, text_given}
use Rattle.fast_units.proofs.TextUnits.{size_field, size_fits, vector_field, behind_text, gives_unit}

-- A size that has room.
pub room_tells : (n most : ℕ) → n ≤ most → (if nat_le n most then Ok n else Err L1) ≡ Ok n
room_tells n most h = by (leb_tells n most)
  where
    by : ((nat_le n most ≡ true) × (n ≤ most)) ⊎ ((nat_le n most ≡ false) × (most < n)) → (if nat_le n most then Ok n else Err L1) ≡ Ok n
    by (inl t) = rw t.0 refl
    by (inr t) = absurd (omega (arith, h, t))

-- Bytes in two runs.
pub in_runs : (rest : List ℕ) (a b : ℕ) → take a rest ++ take b (drop a rest) ≡ take (a + b) rest
in_runs rest a b = sym (take-add a b rest)

pub both_within : (rest : List ℕ) (a b : ℕ) → a ≤ length rest → b ≤ length (drop a rest) → a + b ≤ length rest
both_within rest a b h l = let n : length (drop a rest) ≡ length rest - a = length-drop a rest in omega (arith, h, l, n)

-- A field behind more bytes.
module _ (f : FieldData) (old new : Dictionary) (scratch piece : List ℕ) (source : ValueSource) where
  pub gives_run : {r q : Reader Outcome} {u v w : List ℕ} → u ++ v ≡ w → Turns r u q → GivesField q v f source old new scratch piece
      → GivesField r w f source old new scratch piece
  gives_run {r} e t g = record { outcome = g.outcome; turns = subst (λ x. Turns r x (Done g.outcome)) e (turns_run t g.turns); settled = g.settled }

-- The first unit is an integer, and the others stand behind it.
pub gives_whole : {r q : Reader Outcome} (f : FieldData) (rest : List ℕ) (old new : Dictionary) (scratch : List ℕ) (source : ValueSource)
    (a b : ℕ) → (0 < a) × (a ≤ length rest) × Turns r (take a rest) q → b ≤ length (drop a rest)
    → GivesField q (take b (drop a rest)) f source old new scratch (take b (drop a rest)) → GivesWhole r f rest old new scratch source a (a + b)
gives_whole {r} f rest old new scratch source a b (some, within, t) l g = (
  omega (arith, some),
  both_within rest a b within l,
  subst (λ piece. GivesField r (take (a + b) rest) f source old new scratch piece) (sym (drop-take a b rest))
      (gives_run f old new scratch (take b (drop a rest)) source (in_runs rest a b) t g),
)

-- A vector that is no delta: its size, or NULL.
module _ (s : Bool) (l : Bounds) (f : FieldData) (rest : List ℕ) (old new : Dictionary) (scratch : List ℕ) (source : ValueSource)
    (is_text : family f.kind ≡ texts) (no_ascii : f.kind ≢ Ascii) (no_delta : f.operator ≢ Op.Delta)
    (no_constant : f.operator ≢ Op.Constant) where
  first : Reader Outcome
  first = reader_of s (field_term l f (previous_at f.entry old) true)

  behind : Option ℤ → Grammar Outcome
  behind = behind_size l f (previous_at f.entry old)

  size_here : Begins first s (integer (unsigned_range 32) f.optional D2 give) behind
  unfolding first behind
  size_here = size_field s l f (previous_at f.entry old) is_text no_ascii no_delta no_constant

  size_turns : (x : Option ℕ) (a : ℕ) → IsFirstInt (λ y. option_map pos y) s (unsigned_range 32) f.optional (First.Whole x a) rest
      → (0 < a) × (a ≤ length rest) × Turns first (take a rest) (reader_of s (behind (option_map pos x)))
  size_turns x a given =
      let (some, within, t) = first_whole (λ y. option_map pos y) s (unsigned_range 32) f.optional D2 rest x a given in
      (some, within, unit_goes size_here (take a rest) (option_map pos x) t)

  pub null_whole : (a : ℕ) → IsFirstInt (λ y. option_map pos y) s (unsigned_range 32) f.optional (First.Whole None a) rest
      → ((piece : List ℕ) → IsTextDecided (decide f (previous_at f.entry old) true null) f old new scratch piece (Ok source))
      → GivesWhole (reader_of s (field_term l f (previous_at f.entry old) true)) f rest old new scratch source a a
  unfolding first behind
  null_whole a given h =
      let (some, within, t) = first_whole (λ y. option_map pos y) s (unsigned_range 32) f.optional D2 rest None a given in (
        some,
        within,
        gives_unit f old new scratch (drop a (take a rest)) source size_here
            (take a rest) None (decide f (previous_at f.entry old) true null) t refl (h (drop a (take a rest))),
      )

  pub vector_whole : (size a : ℕ) → IsFirstInt (λ y. option_map pos y) s (unsigned_range 32) f.optional (First.Whole (Some size) a) rest
      → size ≤ l.max_text → size ≤ length (drop a rest)
      → IsTextDecided (decide f (previous_at f.entry old) true (sent_text f.kind (Some (take size (drop a rest))))) f old new scratch
      (take size (drop a rest)) (Ok source)
      → GivesWhole (reader_of s (field_term l f (previous_at f.entry old) true)) f rest old new scratch source a (a + size)
  unfolding first behind
  vector_whole size a given room within h =
      let p : PreviousData = previous_at f.entry old in
      let text : List ℕ = take size (drop a rest) in
      let (same, fits, next) = size_fits l f p size size (room_tells size l.max_text room) in
      let vector : Begins (reader_of s (behind (Some (pos size)))) s (raw size give) (λ v. behind_text l f p (Some v)) =
      record { same = ap (reader_of s) next ∙ (vector_field s l f p size).same } in
      gives_whole f rest old new scratch source a size (size_turns (Some size) a given) within
      (gives_unit f old new scratch text source vector text text (decide f p true (sent_text f.kind (Some text)))
      (run_whole s size text (length-take-le size (drop a rest) within)) refl h)

  -- The bytes after its size are too few.
  pub vector_begun : (size a : ℕ) → IsFirstInt (λ y. option_map pos y) s (unsigned_range 32) f.optional (First.Whole (Some size) a) rest
      → size ≤ l.max_text → length rest - a < size
      → HasBegun s l f (previous_at f.entry old) rest (Vector size) a
  unfolding first behind
  vector_begun size a given room short =
      let p : PreviousData = previous_at f.entry old in
      let (some, within, turns) = size_turns (Some size) a given in
      let (same, fits, next) = size_fits l f p size size (room_tells size l.max_text room) in
      record {
        some = some;
        within = within;
        stage = (is_text, no_ascii, no_delta, no_constant, room, omega (arith, short));
        bytes = let len : length (drop a rest) ≡ length rest - a = length-drop a rest in omega (arith, len, short);
        turns = turns_as refl (sym (ap (reader_of s) next)) turns;
      }

-- An operator that keeps no value.
unkept : (o : Operator) → keeps_value o ≡ false → (o ≢ Op.Delta) × (null_empties o ≡ false)
unkept Op.None e = ((λ i. absurd (cc i)), refl)
unkept Op.Constant e = ((λ i. absurd (cc i)), refl)
unkept Op.Default e = ((λ i. absurd (cc i)), refl)
unkept Op.Copy e = absurd (cc e)
unkept Op.Increment e = absurd (cc e)
unkept Op.Delta e = absurd (cc e)
unkept Op.Tail e = absurd (cc e)

-- A vector that is not kept, or NULL, whole in the piece.
module _ (s : Bool) (l : Bounds) (f : FieldData) (rest : List ℕ) (old : Dictionary) (scratch : List ℕ) (is_text : family f.kind ≡ texts)
    (no_ascii : f.kind ≢ Ascii) (no_constant : f.operator ≢ Op.Constant) (keeps_none : keeps_value f.operator ≡ false) where
  pub plain_null : (a : ℕ) → IsFirstInt (λ y. option_map pos y) s (unsigned_range 32) f.optional (First.Whole None a) rest
      → GivesWhole (reader_of s (field_term l f (previous_at f.entry old) true)) f rest old old scratch From.Absent a a
  plain_null a given =
      let (no_delta, plain) = unkept f.operator keeps_none in
      null_whole s l f rest old old scratch From.Absent is_text no_ascii no_delta no_constant a given
      (λ piece. absent_left f old old scratch piece no_constant plain refl)

  pub plain_vector : (size a : ℕ) → IsFirstInt (λ y. option_map pos y) s (unsigned_range 32) f.optional (First.Whole (Some size) a) rest
      → size ≤ l.max_text → size ≤ length (drop a rest)
      → checked_text f.kind (take size (drop a rest)) ≡ Ok (value_of_text f.kind (take size (drop a rest)))
      → GivesWhole (reader_of s (field_term l f (previous_at f.entry old) true)) f rest old old scratch From.Piece a (a + size)
  plain_vector size a given room within checked =
      let (no_delta, plain) = unkept f.operator keeps_none in
      let text : List ℕ = take size (drop a rest) in
      vector_whole s l f rest old old scratch From.Piece is_text no_ascii no_delta no_constant size a given room within
      (decided_as f old old scratch text (Ok From.Piece) (decided_plain f (previous_at f.entry old) text is_text no_constant no_delta plain)
      (text_given f old old scratch text From.Piece text (value_of_text f.kind text) checked refl refl refl))
