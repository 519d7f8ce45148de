-- The units of text fields: the terms that they stand in front of, and what they make of the field.
use Rattle.std.proofs.Common.{refl, sym, ap, ◌∙◌, subst, arith, inl, inr}
use Rattle.std.specs.Prelude.{◌≡◌, ◌≢◌, ◌⊎◌, ℕ, ◌-◌, ◌<◌, ◌≤◌, Bool, true, false, nat_le, if◌then◌else◌, List, [], length, take, ℤ}
use Rattle.std.specs.Prelude.{pos, Option, Some, Result, Ok, Err}
use Rattle.std.proofs.lemmas.Bool.Decides.{leb_tells}
use Rattle.fast_wire.specs.meaning.Integers.{unsigned_range, signed_range}
use Rattle.fast_value.specs.declared.codes.Code.{Code}
use Rattle.fast_value.specs.declared.codes.Code.TheVariants.{D2, D7, L1}
use Rattle.fast_value.specs.declared.kinds.Kind.{Kind}
use Rattle.fast_value.specs.declared.kinds.Kind.TheVariants.{UInt32, Int32, UInt64, Int64, Decimal, Ascii, Unicode, Bytes}
use Rattle.fast_value.specs.declared.settings.Limits.{Limits}
use Rattle.fast_value.specs.meaning.Kinds.{texts, family}
use Rattle.fast_value.specs.meaning.Limits.{Bounds}
use Rattle.fast_tree.specs.declared.operators.Operator.{Operator}
use Rattle.fast_tree.specs.declared.operators.Operator.TheVariants as Op
use Rattle.fast_tree.specs.meaning.Tree.{FieldData}
use Rattle.fast_dict.specs.meaning.Dictionary.{Dictionary, PreviousData}
use Rattle.fast_dict.specs.meaning.Operators.{Outcome, null, decide, decide_by, gives_none, Kept, kept_length, subtraction_step, text_step}
use Rattle.fast_stream.specs.device.Readers.{Reader, Done, Stop}
use Rattle.fast_stream.specs.device.Machine.{behind_size as size_stage, behind_part_size as part_stage, stage_term}
use Rattle.fast_stream.specs.meaning.Grammar.{Grammar, give, integer, ascii_text, raw, ◌>>=◌, of_result}
use Rattle.fast_stream.specs.device.GrammarReaders.{reader_of}
use Rattle.fast_stream.specs.meaning.Fields.{text, sized, sent_text, item_in, part_change, text_change, change_in, field_by, field_term}
use Rattle.fast_units.specs.device.Taking.{Turns}
use Rattle.fast_units.specs.device.Settling.{IsSettled, GivesField, IsLastUnit}
use Rattle.fast_units.specs.device.Stages.{term_behind, IsFieldUnit}
use Rattle.fast_units.specs.device.TextDecisions.{IsTextDecided, IsStepped, behind_size, behind_part_size, settled}
use Rattle.fast_units.specs.device.Deciding.{answered}
use Rattle.fast_units.specs.declared.progress.Progress.{Progress}
use Rattle.fast_units.specs.declared.progress.Progress.TheVariants.{Whole}
use Rattle.fast_units.specs.declared.source.ValueSource.{ValueSource}
use Rattle.fast_units.specs.declared.stages.Stage.TheVariants.{Vector, Part, PartVector}
use Rattle.fast_units.specs.declared.stages.FieldStep.{FieldStep}
use Rattle.fast_units.specs.declared.stages.FieldStep.TheVariants.{Settled, Next}
use Rattle.fast_units.proofs.Turning.{turns_as, term_turns}
use Rattle.fast_units.proofs.LastUnits.{Begins, sent_by}

-- The unit at which a field begins.
module _ {X : Type 0} {s : Bool} {g : Grammar X} {k : X → Grammar Outcome} {r : Reader Outcome} (here : Begins r s g k)
    (f : FieldData) (rest : List ℕ) (old new : Dictionary) (scratch : List ℕ) (n : ℕ) (x : X)
    (unit : (0 < n) × (n ≤ length rest) × Turns (reader_of s g) (take n rest) (Done x)) where
  turned : (q : Reader Outcome) → reader_of s (k x) ≡ q → Turns r (take n rest) q
  turned q e = turns_as here.same (sym e) (term_turns s g k unit.2)

  gives : (source : ValueSource) (o : Outcome) → reader_of s (k x) ≡ Done o → IsSettled o f source old new scratch (take n rest)
      → GivesField r (take n rest) f source old new scratch (take n rest)
  gives source o e h = record { outcome = o; turns = turned (Done o) e; settled = h }

  last_by : (d : Result Outcome Code) (answer : Result ValueSource Code) → k x ≡ of_result d
      → IsTextDecided d f old new scratch (take n rest) answer → IsLastUnit r f rest old new scratch (answered answer n)
  last_by d (Ok source) e (o, i, h) = (unit.0, unit.1, gives source o (ap (reader_of s) e ∙ ap (λ q. reader_of s (of_result q)) i) h)
  last_by d (Err c) e i = (unit.0, unit.1, turned (Stop c) (ap (reader_of s) e ∙ ap (λ q. reader_of s (of_result q)) i))

  -- It is the last one of the field.
  pub text_last : (d : Result Outcome Code) (answer : Result ValueSource Code) (result : Progress ValueSource) → result ≡ answered answer n
      → k x ≡ of_result d → IsTextDecided d f old new scratch (take n rest) answer
      → IsLastUnit r f rest old new scratch result
  text_last d answer result a e h = subst (λ q. IsLastUnit r f rest old new scratch q) (sym a) (last_by d answer e h)

-- Another one may follow.
module _ {X : Type 0} (l : Limits) {g : Grammar X} {k : X → Grammar Outcome} {r : Reader Outcome} (here : Begins r l.strict g k)
    (f : FieldData) (rest : List ℕ) (old new : Dictionary) (scratch : List ℕ) (n : ℕ) (x : X)
    (unit : (0 < n) × (n ≤ length rest) × Turns (reader_of l.strict g) (take n rest) (Done x)) where
  next_by : (answer : Result FieldStep Code) → IsStepped l (reader_of l.strict (k x)) f old new scratch (take n rest) answer
      → IsFieldUnit l r f rest old new scratch (answered answer n)
  next_by (Ok (Settled source)) (o, e, h) = (unit.0, unit.1, gives here f rest old new scratch n x unit source o e h)
  next_by (Ok (Next stage)) (same, is_stage, e) = (unit.0, unit.1, same, is_stage, turned here f rest old new scratch n x unit _ e)
  next_by (Err c) e = (unit.0, unit.1, turned here f rest old new scratch n x unit (Stop c) e)

  pub text_next : (answer : Result FieldStep Code) (result : Progress FieldStep) → result ≡ answered answer n
      → IsStepped l (reader_of l.strict (k x)) f old new scratch (take n rest) answer
      → IsFieldUnit l r f rest old new scratch result
  text_next answer result a h = subst (λ q. IsFieldUnit l r f rest old new scratch q) (sym a) (next_by answer h)

  pub text_settled : (d : Result Outcome Code) (source : ValueSource) → k x ≡ of_result d
      → IsTextDecided d f old new scratch (take n rest) (Ok source)
      → IsFieldUnit l r f rest old new scratch (Whole (Settled source) n)
  text_settled d source e (o, i, h) = (
    unit.0,
    unit.1,
    gives here f rest old new scratch n x unit source o
        (ap (reader_of l.strict) e ∙ ap (λ q. reader_of l.strict (of_result q)) i) h,
  )

-- The kinds of texts.
text_ascii : (kind : Kind) (nullable : Bool) (room : ℕ) → kind ≡ Ascii → text kind nullable room ≡ ascii_text nullable room give
text_ascii kind nullable room e = rw e refl

text_vector : (kind : Kind) (nullable : Bool) (room : ℕ) → kind ≢ Ascii → text kind nullable room ≡ integer (unsigned_range 32) nullable D2 (sized room)
text_vector UInt32 nullable room n = refl
text_vector Int32 nullable room n = refl
text_vector UInt64 nullable room n = refl
text_vector Int64 nullable room n = refl
text_vector Decimal nullable room n = refl
text_vector Ascii nullable room n = absurd (n refl)
text_vector Unicode nullable room n = refl
text_vector Bytes nullable room n = refl

-- The terms of text fields, as a unit in front of what is read behind it.
module _ (l : Bounds) (f : FieldData) (p : PreviousData) where
  -- what is decided of a text, or NULL
  abbrev pub behind_text : Option (List ℕ) → Grammar Outcome
  behind_text x = of_result (decide f p true (sent_text f.kind x))

module _ (s : Bool) (l : Bounds) (f : FieldData) (p : PreviousData) where
  item_field : family f.kind ≡ texts → f.operator ≢ Op.Delta → f.operator ≢ Op.Constant
      → field_term l f p true ≡ (text f.kind f.optional l.max_text >>= (λ v. give (sent_text f.kind v))) >>= (λ x. of_result (decide f p true x))
  unfolding field_term
  item_field e i j = sent_by f.operator l f p i j ∙ ap (λ q. item_in q l f >>= (λ x. of_result (decide f p true x))) e

  pub text_field : f.kind ≡ Ascii → f.operator ≢ Op.Delta → f.operator ≢ Op.Constant
      → Begins (reader_of s (field_term l f p true)) s (ascii_text f.optional l.max_text give) (behind_text l f p)
  text_field e i j = record {
    same = ap (reader_of s) (item_field (ap family e) i j
        ∙ ap (λ q. (q >>= (λ v. give (sent_text f.kind v))) >>= (λ x. of_result (decide f p true x))) (text_ascii f.kind f.optional l.max_text e));
  }

  pub size_field : family f.kind ≡ texts → f.kind ≢ Ascii → f.operator ≢ Op.Delta → f.operator ≢ Op.Constant
      → Begins (reader_of s (field_term l f p true)) s (integer (unsigned_range 32) f.optional D2 give) (behind_size l f p)
  size_field e n i j = record {
    same = ap (reader_of s) (item_field e i j
        ∙ ap (λ q. (q >>= (λ v. give (sent_text f.kind v))) >>= (λ x. of_result (decide f p true x))) (text_vector f.kind f.optional l.max_text n));
  }

  pub subtraction_field : family f.kind ≡ texts → f.operator ≡ Op.Delta
      → Begins (reader_of s (field_term l f p true)) s (integer (signed_range 31) f.optional D7 give) (text_change l f p)
  unfolding field_term
  subtraction_field e i = record { same = ap (reader_of s) (ap (λ o. field_by o true l f p) i ∙ ap (λ q. change_in q l f p) e) }

  pub vector_field : (n : ℕ) → Begins (reader_of s (term_behind l f p (Vector n))) s (raw n give) (λ v. behind_text l f p (Some v))
  unfolding stage_term
  vector_field n = record { same = refl }

  kept_field : (k : ℤ) (kept : Kept) → subtraction_step f p k ≡ Ok kept
      → term_behind l f p (Part k) ≡ text f.kind false (l.max_text - kept_length kept) >>= part_change f p kept
  unfolding stage_term
  kept_field k kept e = rw e refl

  pub part_field : (k : ℤ) (kept : Kept) (room : ℕ) → subtraction_step f p k ≡ Ok kept → room ≡ l.max_text - kept_length kept → f.kind ≡ Ascii
      → Begins (reader_of s (term_behind l f p (Part k))) s (ascii_text false room give) (part_change f p kept)
  part_field k kept room e same i = record {
    same = ap (reader_of s) (kept_field k kept e
        ∙ ap (λ q. q >>= part_change f p kept) (text_ascii f.kind false (l.max_text - kept_length kept) i)
        ∙ ap (λ most. ascii_text false most give >>= part_change f p kept) (sym same));
  }

  pub part_size_field : (k : ℤ) (kept : Kept) → subtraction_step f p k ≡ Ok kept → f.kind ≢ Ascii
      → Begins (reader_of s (term_behind l f p (Part k))) s (integer (unsigned_range 32) false D2 give) (behind_part_size l f p kept)
  part_size_field k kept e n = record {
    same = ap (reader_of s) (kept_field k kept e ∙ ap (λ q. q >>= part_change f p kept) (text_vector f.kind false (l.max_text - kept_length kept) n));
  }

  pub part_vector_field : (k : ℤ) (kept : Kept) (n : ℕ) → subtraction_step f p k ≡ Ok kept
      → Begins (reader_of s (term_behind l f p (PartVector k n))) s (raw n give) (λ v. part_change f p kept (Some v))
  unfolding stage_term
  part_vector_field k kept n e = record { same = rw e refl }

module _ (l : Bounds) (f : FieldData) (p : PreviousData) where
  pub part_here : (k : ℤ) → text_change l f p (Some k) ≡ term_behind l f p (Part k)
  unfolding stage_term
  part_here k = refl

  -- Behind a size: there is room for the bytes, or there is not.
  pub size_fits : (n size : ℕ) → (if nat_le n l.max_text then Ok n else Err L1) ≡ Ok size
      → (size ≡ n) × (n ≤ l.max_text) × (behind_size l f p (Some (pos n)) ≡ term_behind l f p (Vector n))
  unfolding stage_term
  size_fits n size = by (leb_tells n l.max_text)
    where
      by : ((nat_le n l.max_text ≡ true) × (n ≤ l.max_text)) ⊎ ((nat_le n l.max_text ≡ false) × (l.max_text < n))
          → (if nat_le n l.max_text then Ok n else Err L1) ≡ Ok size
          → (size ≡ n) × (n ≤ l.max_text) × (behind_size l f p (Some (pos n)) ≡ stage_term l f p (size_stage n))
      by (inl t) e = let i : Ok n ≡ Ok size = rw t.0 at e in let j : n ≡ size = cc i in (sym j, t.1, rw t.0 refl)
      by (inr t) e = let i : Err L1 ≡ Ok size = rw t.0 at e in absurd (cc i)

  module _ (kept : Kept) where
    pub part_size_fits : (n size : ℕ) → (if nat_le n (l.max_text - kept_length kept) then Ok n else Err L1) ≡ Ok size
        → (size ≡ n) × (n ≤ l.max_text - kept_length kept) × (behind_part_size l f p kept (Some (pos n)) ≡ stage_term l f p (part_stage kept n))
    unfolding stage_term
    part_size_fits n size = by (leb_tells n (l.max_text - kept_length kept))
      where
        by : ((nat_le n (l.max_text - kept_length kept) ≡ true) × (n ≤ l.max_text - kept_length kept))
            ⊎ ((nat_le n (l.max_text - kept_length kept) ≡ false) × (l.max_text - kept_length kept < n))
            → (if nat_le n (l.max_text - kept_length kept) then Ok n else Err L1) ≡ Ok size
            → (size ≡ n) × (n ≤ l.max_text - kept_length kept) × (behind_part_size l f p kept (Some (pos n)) ≡ stage_term l f p (part_stage kept n))
        by (inl t) e = let i : Ok n ≡ Ok size = rw t.0 at e in let j : n ≡ size = cc i in (sym j, t.1, rw t.0 refl)
        by (inr t) e = let i : Err L1 ≡ Ok size = rw t.0 at e in absurd (cc i)

-- NULL under a delta.
pub delta_null : (f : FieldData) (p : PreviousData) → f.operator ≡ Op.Delta → of_result (gives_none p) ≡ of_result (decide f p true null)
delta_null f p e = sym (ap (λ (o : Operator). of_result (decide_by o true f p null)) e)

-- One subtraction keeps one part of the base.
pub one_kept : {r : Result Kept Code} (a b : Kept) → r ≡ Ok a → r ≡ Ok b → a ≡ b
one_kept {r} a b h k = let e : Ok a ≡ Ok b = sym h ∙ k in cc e

-- What is decided with no unit more.
pub stepped : (l : Limits) (r : Reader Outcome) (f : FieldData) (old new : Dictionary) (scratch piece : List ℕ) (d : Result Outcome Code)
    (answer : Result ValueSource Code) → r ≡ reader_of l.strict (of_result d)
    → IsTextDecided d f old new scratch piece answer → IsStepped l r f old new scratch piece (settled answer)
stepped l r f old new scratch piece d (Ok source) e (o, i, h) = (o, e ∙ ap (λ q. reader_of l.strict (of_result q)) i, h)
stepped l r f old new scratch piece d (Err c) e i = e ∙ ap (λ q. reader_of l.strict (of_result q)) i

-- A vector without bytes, and a part without bytes.
pub size_none : (s : Bool) (l : Bounds) (f : FieldData) (p : PreviousData) (n size : ℕ) → (if nat_le n l.max_text then Ok n else Err L1) ≡ Ok size → size ≤ 0
    → reader_of s (behind_size l f p (Some (pos n))) ≡ reader_of s (of_result (decide f p true (sent_text f.kind (Some []))))
unfolding stage_term
size_none s l f p n size e z =
    let (same, fits, next) = size_fits l f p n size e in
    let none : n ≡ 0 = omega (arith, same, z) in
    ap (reader_of s) (next ∙ ap (λ m. stage_term l f p (size_stage m)) none)

pub part_size_none : (s : Bool) (l : Bounds) (f : FieldData) (p : PreviousData) (kept : Kept) (n size : ℕ)
    → (if nat_le n (l.max_text - kept_length kept) then Ok n else Err L1) ≡ Ok size → size ≤ 0
    → reader_of s (behind_part_size l f p kept (Some (pos n))) ≡ reader_of s (of_result (text_step f kept []))
unfolding stage_term
part_size_none s l f p kept n size e z =
    let (same, fits, next) = part_size_fits l f p kept n size e in
    let none : n ≡ 0 = omega (arith, same, z) in
    ap (reader_of s) (next ∙ ap (λ m. stage_term l f p (part_stage kept m)) none)

-- The part of a delta's vector, behind its size.
pub part_vector_here : (l : Bounds) (f : FieldData) (p : PreviousData) (kept : Kept) (k : ℤ) (n : ℕ) → subtraction_step f p k ≡ Ok kept
    → stage_term l f p (part_stage kept n) ≡ term_behind l f p (PartVector k n)
part_vector_here l f p kept k n e = sym (ap (λ r. of_result r >>= (λ q. stage_term l f p (part_stage q n))) e)

-- The last unit of a field, and what is decided behind it.
module _ (f : FieldData) (old new : Dictionary) (scratch piece : List ℕ) (source : ValueSource) where
  pub gives_unit : {X : Type 0} {s : Bool} {g : Grammar X} {k : X → Grammar Outcome} {r : Reader Outcome} → Begins r s g k → (w : List ℕ) (x : X)
      (d : Result Outcome Code) → Turns (reader_of s g) w (Done x)
      → k x ≡ of_result d → IsTextDecided d f old new scratch piece (Ok source) → GivesField r w f source old new scratch piece
  gives_unit {s = s} {g = g} {k = k} here w x d t e (o, i, h) = record {
    outcome = o;
    turns = turns_as here.same (sym (ap (reader_of s) e ∙ ap (λ q. reader_of s (of_result q)) i)) (term_turns s g k t);
    settled = h;
  }
