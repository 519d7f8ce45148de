-- The result of a complete field: the bytes it has, its value, and the dictionary.
use Rattle.std.specs.Prelude.{◌≡◌, ℕ, ◌<◌, ◌≤◌, true, List, length, take, drop, is_some, Option, Some, None}
use Rattle.fast_value.specs.meaning.Kinds.{ScalarData, U, I, Dec, texts, family, value_of_text}
use Rattle.fast_tree.specs.declared.operators.Operator.TheVariants.{Tail}
use Rattle.fast_tree.specs.meaning.Tree.{FieldData}
use Rattle.fast_tree.specs.meaning.Entries.{keeps_value}
use Rattle.fast_dict.specs.meaning.Dictionary.{Dictionary, previous_at, value_in, write_at}
use Rattle.fast_dict.specs.meaning.Operators.{Outcome}
use Rattle.fast_dict.specs.meaning.Stores.{Terms, IsStorable}
use Rattle.fast_stream.specs.device.Readers.{Reader, Done, Stop}
use Rattle.fast_units.specs.device.Taking.{Turns, Stays}
use Rattle.fast_units.specs.declared.progress.Progress.{Progress}
use Rattle.fast_units.specs.declared.progress.Progress.TheVariants.{Whole, Wrong, Cut}
use Rattle.fast_units.specs.declared.source.ValueSource.{ValueSource}
use Rattle.fast_units.specs.declared.source.ValueSource.TheVariants as From

-- The initial value can be stored at the entry.
abbrev pub HasRoomFor : Terms → ℕ → Option ScalarData → Type 0
HasRoomFor terms e None = Unit {0}
HasRoomFor terms e (Some v) = IsStorable terms e v

-- A dictionary of this number of entries and these terms serves the field: an operator that keeps a value has an entry there, and all
-- values that the field can store have room at it; only strings have tails.
pub record Serves (entries : ℕ) (terms : Terms) (f : FieldData) : Type 0 where
  pub kept : keeps_value f.operator ≡ is_some f.entry
  pub within : (e : ℕ) → f.entry ≡ Some e → e < entries
  pub tail : f.operator ≡ Tail → family f.kind ≡ texts
  pub texts_fit : (e : ℕ) → f.entry ≡ Some e → family f.kind ≡ texts → terms.takes_text e ≡ true
  pub initial_fits : (e : ℕ) → f.entry ≡ Some e → HasRoomFor terms e f.initial

-- The value at a source, by the field, its dictionary, the scratch, and the bytes that were read last.
abbrev pub value_at : ValueSource → FieldData → Dictionary → List ℕ → List ℕ → Option ScalarData
value_at From.Absent f d scratch piece = None
value_at (From.Unsigned n) f d scratch piece = Some (U n)
value_at (From.Signed n) f d scratch piece = Some (I n)
value_at (From.Decimal e m) f d scratch piece = Some (Dec e m)
value_at From.Entry f d scratch piece = value_in (previous_at f.entry d)
value_at From.Initial f d scratch piece = f.initial
value_at From.Scratch f d scratch piece = Some (value_of_text f.kind scratch)
value_at From.Piece f d scratch piece = Some (value_of_text f.kind piece)

-- The outcome of the field: its value has the source, and of the dictionary its entry alone has changed.
pub record IsSettled (o : Outcome) (f : FieldData) (source : ValueSource) (old new : Dictionary) (scratch piece : List ℕ) : Type 0 where
  pub value : o.value ≡ value_at source f new scratch piece
  pub dictionary : new ≡ write_at f.entry o.next old

-- The reader consumes the bytes and gives an outcome of the field, with this source.
pub record GivesField (r : Reader Outcome) (w : List ℕ) (f : FieldData) (source : ValueSource) (old new : Dictionary) (scratch piece : List ℕ) : Type 0 where
  pub outcome : Outcome
  pub turns : Turns r w (Done outcome)
  pub settled : IsSettled outcome f source old new scratch piece

-- The reader consumes n of the bytes, and gives the field; a value in the piece is in these bytes from the given offset on.
abbrev pub GivesWhole : Reader Outcome → FieldData → List ℕ → Dictionary → Dictionary → List ℕ → ValueSource → ℕ → ℕ → Type 0
GivesWhole r f rest old new scratch source from n = (0 < n) × (n ≤ length rest) × GivesField r (take n rest) f source old new scratch (drop from (take n rest))

-- The result of the bytes as the last unit of a field.
abbrev pub IsLastUnit : Reader Outcome → FieldData → List ℕ → Dictionary → Dictionary → List ℕ → Progress ValueSource → Type 0
IsLastUnit r f rest old new scratch (Whole source n) = (0 < n) × (n ≤ length rest)
    × GivesField r (take n rest) f source old new scratch (take n rest)
IsLastUnit r f rest old new scratch (Wrong c n) = (0 < n) × (n ≤ length rest) × Turns r (take n rest) (Stop c)
IsLastUnit r f rest old new scratch Cut = Stays r rest × (new ≡ old)
