-- Fields that are read from the bytes that they begin with.
use Rattle.std.specs.Prelude.{◌≡◌, ℕ, ◌+◌, ◌<◌, ◌≤◌, Bool, true, List, [], ◌++◌, length, take}
use Rattle.fast_wire.specs.meaning.Entities.{HaveNoStop}
use Rattle.fast_value.specs.meaning.Limits.{Bounds}
use Rattle.fast_tree.specs.meaning.Tree.{FieldData}
use Rattle.fast_dict.specs.meaning.Dictionary.{Dictionary, PreviousData}
use Rattle.fast_dict.specs.meaning.Operators.{Outcome}
use Rattle.fast_stream.specs.meaning.Phrases.{cut}
use Rattle.fast_stream.specs.meaning.Units.{ascii_text}
use Rattle.fast_stream.specs.device.Readers.{Reader, Stop}
use Rattle.fast_units.specs.device.Taking.{Turns, Stays}
use Rattle.fast_units.specs.device.UnitFronts.{IsBytesStage}
use Rattle.fast_units.specs.declared.stages.Stage.{Stage}
use Rattle.fast_units.specs.device.Settling.{GivesWhole}
use Rattle.fast_fields.specs.declared.reading.Missing.{Missing}
use Rattle.fast_fields.specs.declared.reading.Reading.{Reading}
use Rattle.fast_fields.specs.declared.reading.Reading.TheVariants.{Whole, Wrong, More}

-- The reader waits after the bytes, and after fewer than this number more, of which none has a stop bit if one may decide something.
abbrev pub IsUndecided : {A : Type 0} → Reader A → List ℕ → Missing → Type 0
IsUndecided r w m = (0 < m.bytes) × ((v : List ℕ) → (m.stops ≡ true → HaveNoStop v) → length v < m.bytes → Stays r (w ++ v))

-- What the bytes say of the field that begins with them: some complete it, and the dictionary has changed; or some decide a fault; or it
-- goes on, and nothing has changed.
abbrev pub IsFieldReading : Reader Outcome → FieldData → List ℕ → Dictionary → Dictionary → List ℕ → Reading → Type 0
IsFieldReading r f w old new scratch (Whole found) =
    (found.from ≤ found.bytes) × GivesWhole r f w old new scratch found.source found.from found.bytes
IsFieldReading r f w old new scratch (Wrong c n) = (0 < n) × (n ≤ length w) × Turns r (take n w) (Stop c)
IsFieldReading r f w old new scratch (More missing) = IsUndecided r w missing × (new ≡ old)

-- the same, with this number of bytes in front
abbrev pub shifted : ℕ → Reading → Reading
shifted n (Whole found) = Whole (record { source = found.source; from = n + found.from; bytes = n + found.bytes })
shifted n (Wrong c m) = Wrong c (n + m)
shifted n (More missing) = More missing

-- At most this number of bytes is read.
abbrev pub ReadsWithin : ℕ → Reading → Type 0
ReadsWithin most (Whole found) = (found.from ≤ most) × (found.bytes ≤ most)
ReadsWithin most (Wrong c n) = n ≤ most
ReadsWithin most (More missing) = Unit {0}

-- A field that goes on has no more bytes than this before something more is decided, these among them.
abbrev pub IsBounded : ℕ → List ℕ → Reading → Type 0
IsBounded most w (Whole found) = Unit {0}
IsBounded most w (Wrong c n) = Unit {0}
IsBounded most w (More m) = length w + m.bytes ≤ most

-- An ASCII string that begins with the bytes goes on after fewer than this number more of which none has a stop bit.
abbrev pub KeepsText : Bool → ℕ → List ℕ → ℕ → Type 0
KeepsText nullable room w missing =
    (0 < missing) × ((v : List ℕ) → HaveNoStop v → length v < missing → ascii_text nullable room (w ++ v) [] cut)

-- So does the string or the run of bytes that the stage reads, by what is missing of it.
abbrev pub KeepsRun : Bounds → FieldData → PreviousData → Stage → List ℕ → Missing → Type 0
KeepsRun l f p stage w m =
    (0 < m.bytes) × ((v : List ℕ) → (m.stops ≡ true → HaveNoStop v) → length v < m.bytes → IsBytesStage l f p stage (w ++ v))
