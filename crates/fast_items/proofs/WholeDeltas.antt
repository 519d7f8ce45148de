-- Deltas and tails of texts of which all units stand whole in the piece, at entries that hold texts of their kinds.
use Rattle.std.proofs.Common.{refl, sym, ap, ◌∙◌, subst, arith}
use Rattle.std.specs.Prelude.{◌≡◌, ◌≢◌, ℕ, ◌+◌, ◌-◌, ◌<◌, ◌≤◌, Bool, true, false, if◌then◌else◌, List, length, take, drop, ℤ, pos}
use Rattle.std.specs.Prelude.{Option, Some, None, option_map, Ok, Err}
use Rattle.std.proofs.lemmas.List.{length-take-le}
use Rattle.fast_fronts.specs.device.Fronts.{IsFirstInt}
use Rattle.fast_fronts.specs.declared.fronts.First.TheVariants as First
use Rattle.fast_wire.specs.meaning.Integers.{unsigned_range, signed_range}
use Rattle.fast_value.specs.declared.codes.Code.TheVariants.{D2, D4, D7}
use Rattle.fast_value.specs.declared.kinds.Kind.{Kind}
use Rattle.fast_value.specs.declared.kinds.Kind.TheVariants as K
use Rattle.fast_value.specs.meaning.Kinds.{ScalarData, texts, family, text_of, value_of_text, same_kind}
use Rattle.fast_value.specs.meaning.Limits.{Bounds}
use Rattle.fast_tree.specs.declared.operators.Operator.TheVariants as Op
use Rattle.fast_tree.specs.meaning.Tree.{FieldData}
use Rattle.fast_dict.specs.meaning.Answers.{kept_text}
use Rattle.fast_dict.specs.meaning.Dictionary.{Dictionary, PreviousData, empty, assigned, previous_at, write_at}
use Rattle.fast_dict.specs.meaning.Operators.{Outcome, null, decide, checked_text, Kept, kept_of, kept_length, joined, subtraction_step}
use Rattle.fast_dict.specs.meaning.Operators.{text_step, tail_base, with_tail, ◌>>=◌, null_empties}
use Rattle.fast_dict.proofs.Extended.{text_of_text}
use Rattle.fast_stream.specs.device.Readers.{Reader}
use Rattle.fast_stream.specs.meaning.Grammar.{of_result}
use Rattle.fast_stream.specs.device.GrammarReaders.{reader_of}
use Rattle.fast_stream.specs.meaning.Fields.{field_term, text_change}
use Rattle.fast_units.specs.device.Taking.{Turns}
use Rattle.fast_units.specs.device.NextUnits.{IsNextText}
use Rattle.fast_units.specs.device.Settling.{GivesField}
use Rattle.fast_items.specs.device.FieldsAs.{GivesWhole}
use Rattle.fast_items.specs.device.TextsAs.{IsJoined, IsTailed}
use Rattle.fast_units.specs.device.Stages.{term_behind}
use Rattle.fast_units.specs.device.TextDecisions.{IsTextDecided, behind_part_size}
use Rattle.fast_units.specs.declared.progress.Progress.TheVariants.{Whole}
use Rattle.fast_units.specs.declared.source.ValueSource.{ValueSource}
use Rattle.fast_units.specs.declared.source.ValueSource.TheVariants as From
use Rattle.fast_units.specs.declared.stages.Stage.TheVariants.{Part, PartVector}
use Rattle.fast_units.proofs.NextUnits.{first_whole, run_whole, text_unit}
use Rattle.fast_units.proofs.LastUnits.{unit_goes}
use Rattle.fast_units.proofs.TextOutcomes.{absent_emptied, absent_left, decided_as, decided_tail-ok, text_kept}
use Rattle.fast_units.proofs.TextUnits.{subtraction_field, part_here, part_field, part_size_field, part_vector_field, part_size_fits}
use Rattle.fast_units.proofs.TextUnits.{part_vector_here, delta_null, gives_unit}
use Rattle.fast_items.proofs.WholeTexts.{room_tells, in_runs, gives_run, gives_whole, null_whole, vector_whole}

-- A kind is the same as itself.
same_self : (kind : Kind) → same_kind kind kind ≡ true
same_self K.UInt32 = refl
same_self K.Int32 = refl
same_self K.UInt64 = refl
same_self K.Int64 = refl
same_self K.Decimal = refl
same_self K.Ascii = refl
same_self K.Unicode = refl
same_self K.Bytes = refl

-- What a subtraction length keeps of the text that the entry holds.
pub keeps_step : (f : FieldData) (d : Dictionary) (kind : Kind) (entry : ℕ) (k : ℤ) (base : List ℕ) (kept : Kept) → f.kind ≡ kind
    → f.entry ≡ Some entry → previous_at (Some entry) d ≡ assigned kind (value_of_text kind base)
    → kept_of base k ≡ Ok kept → subtraction_step f (previous_at f.entry d) k ≡ Ok kept
keeps_step f d kind entry k base kept is_kind is_entry held keeps = ap (λ (e : Option ℕ). subtraction_step f (previous_at e d) k) is_entry
    ∙ ap (λ (p : PreviousData). subtraction_step f p k) held
    ∙ ap (λ (q : Kind). (if same_kind q kind then Ok (value_of_text kind base) else Err D4) >>= (λ b. kept_of (text_of b) k)) is_kind
    ∙ ap (λ (b : Bool). (if b then Ok (value_of_text kind base) else Err D4) >>= (λ b. kept_of (text_of b) k)) (same_self kind)
    ∙ ap (λ t. kept_of t k) (text_of_text kind base)
    ∙ keeps

-- The size of a part stands whole, and has room: then come its bytes.
pub part_size_turns : (s : Bool) (l : Bounds) (f : FieldData) (p : PreviousData) (k : ℤ) (kept : Kept) (rest : List ℕ) (size a : ℕ)
    → subtraction_step f p k ≡ Ok kept → f.kind ≢ K.Ascii
    → IsFirstInt (λ y. option_map pos y) s (unsigned_range 32) false (First.Whole (Some size) a) rest → size ≤ l.max_text - kept_length kept
    → (0 < a) × (a ≤ length rest) × Turns (reader_of s (term_behind l f p (Part k))) (take a rest) (reader_of s (term_behind l f p (PartVector k size)))
part_size_turns s l f p k kept rest size a step no_ascii given room =
    let first : Reader Outcome = reader_of s (term_behind l f p (Part k)) in
    let (some, within, t) = first_whole (λ y. option_map pos y) s (unsigned_range 32) false D2 rest (Some size) a given in
    let (same, fits, next) = part_size_fits l f p kept size size (room_tells size (l.max_text - kept_length kept) room) in
    let go : Turns first (take a rest) (reader_of s (behind_part_size l f p kept (Some (pos size))))
    = unit_goes (part_size_field s l f p k kept step no_ascii) (take a rest) (Some (pos size)) t in
    (some, within, subst (λ (q : Reader Outcome). Turns first (take a rest) q) (ap (reader_of s) (next ∙ part_vector_here l f p kept k size step)) go)

-- The part of a delta that is joined to its entry's text.
module _ (s : Bool) (l : Bounds) (f : FieldData) (old new : Dictionary) (scratch piece : List ℕ) (kind : Kind) (entry : ℕ) (k : ℤ)
    (part : List ℕ) (is_kind : f.kind ≡ kind) (is_entry : f.entry ≡ Some entry) (there : entry < length old)
    (j : IsJoined kind entry k part l.max_text old new) where
  step : subtraction_step f (previous_at f.entry old) k ≡ Ok j.kept
  step = keeps_step f old kind entry k j.base j.kept is_kind is_entry j.held j.keeps

  decided : IsTextDecided (text_step f j.kept part) f old new scratch piece (Ok From.Entry)
  decided =
      let text : List ℕ = joined j.kept part in
      let checked : checked_text f.kind text ≡ Ok (value_of_text f.kind text) = rw is_kind j.checked in
      let becomes : new ≡ write_at f.entry (assigned f.kind (value_of_text f.kind text)) old = rw (is_kind, is_entry) j.becomes in
      let within : (e : ℕ) → f.entry ≡ Some e → e < length old = λ e h. let i : Some entry ≡ Some e = sym is_entry ∙ h in
      let q : entry ≡ e = cc i in subst (λ n. n < length old) q there in
      text_kept f old new scratch piece text (value_of_text f.kind text) checked (rw is_entry refl) within becomes

  pub gives_ascii : (rest : List ℕ) (n : ℕ) → kind ≡ K.Ascii → IsNextText false (l.max_text - kept_length j.kept) rest part (Whole true n)
      → GivesField (reader_of s (term_behind l f (previous_at f.entry old) (Part k))) (take n rest) f From.Entry old new scratch piece
  gives_ascii rest n e h =
      let p : PreviousData = previous_at f.entry old in
      let (some, within, t) = text_unit s false (l.max_text - kept_length j.kept) rest part (Whole true n) h in
      gives_unit f old new scratch piece From.Entry (part_field s l f p k j.kept (l.max_text - kept_length j.kept) step refl (is_kind ∙ e))
      (take n rest) (Some part) (text_step f j.kept part) t refl decided

  pub gives_vector : (rest : List ℕ) (size a : ℕ) → kind ≢ K.Ascii
      → IsFirstInt (λ y. option_map pos y) s (unsigned_range 32) false (First.Whole (Some size) a) rest → size ≤ length (drop a rest)
      → take size (drop a rest) ≡ part → GivesField (reader_of s (term_behind l f (previous_at f.entry old) (Part k)))
      (take (a + size) rest) f From.Entry old new scratch piece
  gives_vector rest size a no_ascii given within same =
      let p : PreviousData = previous_at f.entry old in
      let text : List ℕ = take size (drop a rest) in
      let len : length text ≡ size = length-take-le size (drop a rest) within in
      let long : length text ≡ length part = ap length same in
      let room : size ≤ l.max_text - kept_length j.kept = (let h = j.fits in omega (arith, len, long, h)) in
      let (some, here, go) = part_size_turns s l f p k j.kept rest size a step (λ e. no_ascii (sym is_kind ∙ e)) given room in
      gives_run f old new scratch piece From.Entry (in_runs rest a size) go
      (gives_unit f old new scratch piece From.Entry (part_vector_field s l f p k j.kept size step) text text (text_step f j.kept part)
      (run_whole s size text len) (ap (λ t. of_result (text_step f j.kept t)) same) decided)

-- The subtraction length stands whole: then comes the part.
pub subtraction_turns : (s : Bool) (l : Bounds) (f : FieldData) (p : PreviousData) (rest : List ℕ) (k : ℤ) (a : ℕ) → family f.kind ≡ texts
    → f.operator ≡ Op.Delta → IsFirstInt (λ y. y) s (signed_range 31) f.optional (First.Whole (Some k) a) rest
    → (0 < a) × (a ≤ length rest) × Turns (reader_of s (field_term l f p true)) (take a rest) (reader_of s (term_behind l f p (Part k)))
subtraction_turns s l f p rest k a is_text is_delta given =
    let first : Reader Outcome = reader_of s (field_term l f p true) in
    let (some, within, t) = first_whole (λ y. y) s (signed_range 31) f.optional D7 rest (Some k) a given in
    let go : Turns first (take a rest) (reader_of s (text_change l f p (Some k)))
    = unit_goes (subtraction_field s l f p is_text is_delta) (take a rest) (Some k) t in
    (some, within, subst (λ (q : Reader Outcome). Turns first (take a rest) q) (ap (reader_of s) (part_here l f p k)) go)

-- The subtraction length, or NULL, and then the part.
module _ (s : Bool) (l : Bounds) (f : FieldData) (rest : List ℕ) (old new : Dictionary) (scratch : List ℕ)
    (is_text : family f.kind ≡ texts) (is_delta : f.operator ≡ Op.Delta) where
  pub delta_null_whole : (a : ℕ) → IsFirstInt (λ y. y) s (signed_range 31) f.optional (First.Whole None a) rest
      → GivesWhole (reader_of s (field_term l f (previous_at f.entry old) true)) f rest old old scratch From.Absent a a
  delta_null_whole a given =
      let p : PreviousData = previous_at f.entry old in
      let piece : List ℕ = drop a (take a rest) in
      let (some, within, t) = first_whole (λ y. y) s (signed_range 31) f.optional D7 rest None a given in (
        some,
        within,
        gives_unit f old old scratch piece From.Absent (subtraction_field s l f p is_text is_delta) (take a rest) None (decide f p true null)
            t (delta_null f p is_delta)
            (absent_left f old old scratch piece (λ e. let i : Op.Delta ≡ Op.Constant = sym is_delta ∙ e in absurd (cc i)) (ap null_empties is_delta) refl),
      )

  pub delta_whole : (source : ValueSource) (k : ℤ) (a b : ℕ)
      → IsFirstInt (λ y. y) s (signed_range 31) f.optional (First.Whole (Some k) a) rest → b ≤ length (drop a rest)
      → GivesField (reader_of s (term_behind l f (previous_at f.entry old) (Part k))) (take b (drop a rest)) f source old new scratch (take b (drop a rest))
      → GivesWhole (reader_of s (field_term l f (previous_at f.entry old) true)) f rest old new scratch source a (a + b)
  delta_whole source k a b given within g = gives_whole f rest old new scratch source a b
      (subtraction_turns s l f (previous_at f.entry old) rest k a is_text is_delta given) within g

-- A tail, or NULL.
module _ (s : Bool) (l : Bounds) (f : FieldData) (rest : List ℕ) (old new : Dictionary) (scratch : List ℕ) (kind : Kind) (entry : ℕ)
    (is_kind : f.kind ≡ kind) (is_text : family kind ≡ texts) (no_ascii : kind ≢ K.Ascii) (is_tail : f.operator ≡ Op.Tail)
    (is_entry : f.entry ≡ Some entry) (there : entry < length old) where
  no_constant : f.operator ≢ Op.Constant
  no_constant e = let i : Op.Tail ≡ Op.Constant = sym is_tail ∙ e in absurd (cc i)

  no_delta : f.operator ≢ Op.Delta
  no_delta e = let i : Op.Tail ≡ Op.Delta = sym is_tail ∙ e in absurd (cc i)

  pub tail_null_whole : (a : ℕ) → IsFirstInt (λ y. option_map pos y) s (unsigned_range 32) f.optional (First.Whole None a) rest
      → new ≡ write_at (Some entry) empty old
      → GivesWhole (reader_of s (field_term l f (previous_at f.entry old) true)) f rest old new scratch From.Absent a a
  tail_null_whole a given becomes =
      null_whole s l f rest old new scratch From.Absent (ap family is_kind ∙ is_text) (λ e. no_ascii (sym is_kind ∙ e)) no_delta no_constant a given
      (λ piece. absent_emptied f old new scratch piece no_constant (ap null_empties is_tail) (rw is_entry becomes))

  pub tail_whole : (size a : ℕ) → IsFirstInt (λ y. option_map pos y) s (unsigned_range 32) f.optional (First.Whole (Some size) a) rest
      → size ≤ l.max_text → size ≤ length (drop a rest)
      → IsTailed kind entry (take size (drop a rest)) old new
      → GivesWhole (reader_of s (field_term l f (previous_at f.entry old) true)) f rest old new scratch From.Entry a (a + size)
  tail_whole size a given room within j =
      let part : List ℕ = take size (drop a rest) in
      let text : List ℕ = with_tail j.base part in
      let v : ScalarData = value_of_text kind j.base in
      let base : tail_base f (previous_at f.entry old) ≡ Ok v = ap (λ (e : Option ℕ). tail_base f (previous_at e old)) is_entry
      ∙ ap (λ (p : PreviousData). tail_base f p) j.held
      ∙ ap (λ (q : Kind). if same_kind q kind then Ok v else Err D4) is_kind
      ∙ ap (λ (b : Bool). if b then Ok v else Err D4) (same_self kind) in
      let checked : checked_text f.kind text ≡ Ok (value_of_text f.kind text) = rw is_kind j.checked in
      let becomes : new ≡ write_at f.entry (assigned f.kind (value_of_text f.kind text)) old = rw (is_kind, is_entry) j.becomes in
      let entry_in : (e : ℕ) → f.entry ≡ Some e → e < length old = λ e h. let i : Some entry ≡ Some e = sym is_entry ∙ h in
      let q : entry ≡ e = cc i in subst (λ n. n < length old) q there in
      vector_whole s l f rest old new scratch From.Entry (ap family is_kind ∙ is_text)
      (λ e. no_ascii (sym is_kind ∙ e)) no_delta no_constant size a given room within
      (decided_as f old new scratch part (Ok From.Entry)
      (decided_tail-ok f (previous_at f.entry old) part (ap family is_kind ∙ is_text) v is_tail base
      ∙ ap (λ t. kept_text f.kind (with_tail t part)) (text_of_text kind j.base))
      (text_kept f old new scratch part text (value_of_text f.kind text) checked (rw is_entry refl) entry_in becomes))
