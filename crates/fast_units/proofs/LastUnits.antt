-- What a unit that is whole, wrong or cut makes of the field that it stands in.
use Rattle.std.proofs.Common.{refl, sym, ap, ◌∙◌, subst}
use Rattle.std.proofs.Common.{to_z, of_z, FitsSigned}
use Rattle.std.proofs.Math.Facts.{to_z-of_z}
use Rattle.std.specs.Int.{Width}
use Rattle.std.specs.Prelude.{◌≡◌, ◌≢◌, ℕ, ◌<◌, ◌≤◌, Bool, true, false, List, length}
use Rattle.std.specs.Prelude.{take, ℤ, Option, Some, IfSome, Result, Ok, Err}
use Rattle.fast_wire.specs.meaning.Integers.{Range, IsWithin, delta_range, signed_range, exponent_range}
use Rattle.fast_value.specs.declared.codes.Code.{Code}
use Rattle.fast_value.specs.declared.codes.Code.TheVariants.{D2, R1}
use Rattle.fast_value.specs.meaning.Kinds.{integers, decimals, family}
use Rattle.fast_value.specs.meaning.Limits.{Bounds}
use Rattle.fast_tree.specs.declared.operators.Operator.{Operator}
use Rattle.fast_tree.specs.declared.operators.Operator.TheVariants as Op
use Rattle.fast_tree.specs.meaning.Tree.{FieldData}
use Rattle.fast_dict.specs.meaning.Dictionary.{Dictionary, PreviousData}
use Rattle.fast_dict.specs.meaning.Operators.{Outcome, decide, range_in, range_of}
use Rattle.fast_stream.specs.device.Readers.{Reader, Done, Stop}
use Rattle.fast_stream.specs.device.Machine.{stage_term}
use Rattle.fast_stream.specs.meaning.Grammar.{Grammar, give, integer, ◌>>=◌, of_result}
use Rattle.fast_stream.specs.device.GrammarReaders.{reader_of}
use Rattle.fast_stream.specs.meaning.Fields.{sent_integer, sent_decimal, decimal_from, item_in, integer_change, mantissa_change}
use Rattle.fast_stream.specs.meaning.Fields.{decimal_change, change_in, sent, field_by, field_term}
use Rattle.fast_units.specs.device.Taking.{Turns, Stays}
use Rattle.fast_units.specs.device.Settling.{IsLastUnit}
use Rattle.fast_units.specs.device.Stages.{term_behind}
use Rattle.fast_units.specs.device.Deciding.{IsDecided, answered}
use Rattle.fast_units.specs.declared.source.ValueSource.{ValueSource}
use Rattle.fast_units.specs.declared.stages.Stage.TheVariants.{Mantissa, MantissaDelta}
use Rattle.fast_units.proofs.Turning.{turns_as, stays_as, term_turns, term_stops, term_stays}

-- The reader reads the unit g, and then what is behind it.
pub record Begins {X : Type 0} (r : Reader Outcome) (s : Bool) (g : Grammar X) (k : X → Grammar Outcome) : Type 0 where
  pub same : r ≡ reader_of s (g >>= k)

module _ {X : Type 0} {s : Bool} {g : Grammar X} {k : X → Grammar Outcome} {r : Reader Outcome} (here : Begins r s g k) where
  pub unit_goes : (w : List ℕ) (x : X) → Turns (reader_of s g) w (Done x) → Turns r w (reader_of s (k x))
  unit_goes w x t = turns_as here.same refl (term_turns s g k t)

  pub unit_stops : (rest : List ℕ) (n : ℕ) (c : Code) → (0 < n) × (n ≤ length rest) × Turns (reader_of s g) (take n rest) (Stop c)
      → (0 < n) × (n ≤ length rest) × Turns r (take n rest) (Stop c)
  unit_stops rest n c h = (h.0, h.1, turns_as here.same refl (term_stops s g k h.2))

  pub unit_stays : (w : List ℕ) (d : Dictionary) → Stays (reader_of s g) w → Stays r w × (d ≡ d)
  unit_stays w d t = (stays_as here.same (term_stays s g k t), refl)

  -- what is decided behind the unit
  unit_decides : (w : List ℕ) (x : X) (d : Result Outcome Code) → k x ≡ of_result d → Turns (reader_of s g) w (Done x)
      → Turns r w (reader_of s (of_result d))
  unit_decides w x d e t = turns_as here.same (sym (ap (reader_of s) e)) (term_turns s g k t)

  -- The unit is the last one of a field.
  pub last_unit : (f : FieldData) (rest : List ℕ) (old new : Dictionary) (scratch : List ℕ) (x : X) (n : ℕ) (d : Result Outcome Code)
      (answer : Result ValueSource Code)
      → k x ≡ of_result d → IsDecided d f old new answer → (0 < n) × (n ≤ length rest) × Turns (reader_of s g) (take n rest) (Done x)
      → IsLastUnit r f rest old new scratch (answered answer n)
  last_unit f rest old new scratch x n d (Ok source) e (o, h, settled) (some, within, t) = (
    some,
    within,
    record {
      outcome = o;
      turns = turns_as refl (sym (ap (λ q. reader_of s (of_result q)) h)) (unit_decides (take n rest) x d e t);
      settled = settled scratch (take n rest);
    },
  )
  last_unit f rest old new scratch x n d (Err c) e h (some, within, t) =
      (some, within, turns_as refl (sym (ap (λ q. reader_of s (of_result q)) h)) (unit_decides (take n rest) x d e t))

-- The terms of fields of numbers, as a unit in front of what is decided behind it.
pub sent_by : (o : Operator) (l : Bounds) (f : FieldData) (p : PreviousData) → o ≢ Op.Delta → o ≢ Op.Constant → field_by o true l f p ≡ sent l f p
sent_by Op.None l f p i j = refl
sent_by Op.Constant l f p i j = absurd (j refl)
sent_by Op.Default l f p i j = refl
sent_by Op.Copy l f p i j = refl
sent_by Op.Increment l f p i j = refl
sent_by Op.Delta l f p i j = absurd (i refl)
sent_by Op.Tail l f p i j = refl

module _ (l : Bounds) (f : FieldData) (p : PreviousData) where
  -- what is decided of an integer, and of a mantissa
  abbrev pub behind_integer : Option ℤ → Grammar Outcome
  behind_integer x = of_result (decide f p true (sent_integer f.kind x))

  abbrev pub behind_mantissa : ℤ → Option ℤ → Grammar Outcome
  behind_mantissa e m = of_result (decide f p true (sent_decimal e m))

  -- what is read behind an exponent
  abbrev pub mantissa_next : Option ℤ → Grammar Outcome
  mantissa_next e = decimal_from e >>= (λ y. of_result (decide f p true y))

module _ (s : Bool) (l : Bounds) (f : FieldData) (p : PreviousData) where
  -- with the range by which it is read
  pub integer_here : (wire : Range) → wire ≡ range_of f.kind → family f.kind ≡ integers (range_of f.kind) → f.operator ≢ Op.Delta
      → f.operator ≢ Op.Constant → Begins (reader_of s (field_term l f p true)) s (integer wire f.optional D2 give) (behind_integer l f p)
  unfolding field_term
  integer_here wire same e i j = record {
    same = ap (reader_of s) (sent_by f.operator l f p i j ∙ ap (λ k. item_in k l f >>= (λ y. of_result (decide f p true y))) e)
        ∙ ap (λ range. reader_of s (integer range f.optional D2 give >>= behind_integer l f p)) (sym same);
  }

  pub integer_delta_field : (range : Range) → family f.kind ≡ integers range → f.operator ≡ Op.Delta
      → Begins (reader_of s (field_term l f p true)) s (integer delta_range f.optional D2 give) (integer_change f p)
  unfolding field_term
  integer_delta_field range e i = record { same = ap (reader_of s) (ap (λ o. field_by o true l f p) i ∙ ap (λ k. change_in k l f p) e) }

  pub exponent_field : family f.kind ≡ decimals → f.operator ≢ Op.Delta → f.operator ≢ Op.Constant
      → Begins (reader_of s (field_term l f p true)) s (integer exponent_range f.optional R1 give) (mantissa_next l f p)
  unfolding field_term
  exponent_field e i j = record {
    same = ap (reader_of s) (sent_by f.operator l f p i j ∙ ap (λ k. item_in k l f >>= (λ y. of_result (decide f p true y))) e);
  }

  pub exponent_here : (wire : Range) → wire ≡ range_of f.kind → family f.kind ≡ decimals → f.operator ≢ Op.Delta → f.operator ≢ Op.Constant
      → Begins (reader_of s (field_term l f p true)) s (integer wire f.optional R1 give) (mantissa_next l f p)
  exponent_here wire same e i j = record {
    same = (exponent_field e i j).same
        ∙ ap (λ range. reader_of s (integer range f.optional R1 give >>= mantissa_next l f p)) (sym (same ∙ ap range_in e));
  }

  pub exponent_delta_field : family f.kind ≡ decimals → f.operator ≡ Op.Delta
      → Begins (reader_of s (field_term l f p true)) s (integer delta_range f.optional D2 give) (decimal_change f p)
  unfolding field_term
  exponent_delta_field e i = record { same = ap (reader_of s) (ap (λ o. field_by o true l f p) i ∙ ap (λ k. change_in k l f p) e) }

  pub mantissa_field : (e : ℤ)
      → Begins (reader_of s (term_behind l f p (Mantissa e))) s (integer (signed_range 63) false R1 give) (behind_mantissa l f p e)
  unfolding stage_term
  mantissa_field e = record { same = refl }

  pub mantissa_delta_field : (e : ℤ)
      → Begins (reader_of s (term_behind l f p (MantissaDelta e))) s (integer delta_range false D2 give) (mantissa_change f p e)
  unfolding stage_term
  mantissa_delta_field e = record { same = refl }

-- An integer that is known lies in the range.
pub number_within : (range wire : Range) (x : Option ℤ) (n : ℤ) → wire ≡ range → x ≡ Some n → IfSome x (IsWithin wire) → IsWithin range n
number_within range wire x n same e h = subst (λ q. IsWithin q n) same (subst (λ y. IfSome y (IsWithin wire)) e h)

-- a number again that was passed in so many bits
pub again : (w : Width) (n : ℤ) → FitsSigned w n → to_z w (of_z w n) ≡ n
again w n fits = to_z-of_z fits
