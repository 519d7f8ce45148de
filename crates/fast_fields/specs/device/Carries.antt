-- Fields whose bytes are carried until they are complete.
use Rattle.std.specs.Prelude.{◌≡◌, ℕ, ◌+◌, ◌<◌, ◌≤◌, List, [], ◌∷◌, ◌++◌, length, take, drop}
use Rattle.fast_value.specs.declared.settings.Limits.{Limits}
use Rattle.fast_tree.specs.meaning.Tree.{FieldData}
use Rattle.fast_dict.specs.meaning.Dictionary.{Dictionary}
use Rattle.fast_dict.specs.meaning.Operators.{Outcome}
use Rattle.fast_stream.specs.device.Readers.{Reader, Stop}
use Rattle.fast_units.specs.device.Settling.{GivesField}
use Rattle.fast_units.specs.device.Taking.{Turns, Stays}
use Rattle.fast_units.specs.declared.progress.Progress.{Progress}
use Rattle.fast_units.specs.declared.progress.Progress.TheVariants.{Whole, Wrong, Cut}
use Rattle.fast_fields.specs.declared.carry.Carry.{Carry}
use Rattle.fast_fields.specs.declared.reading.WholeField.{WholeField}
use Rattle.fast_fields.specs.device.Readings.{IsUndecided}

-- The reader of a field waits after the bytes that are carried, for those that are missing, and a field has no more bytes than there is
-- room for.
abbrev pub IsCarried : Limits → Reader Outcome → Carry → Type 0
IsCarried l r c = IsUndecided r c.bytes.text c.missing × (length c.bytes.text + c.missing.bytes ≤ 22 + l.max_text)

-- The bytes of a field that are at hand: those that are carried, or those of the rest if none is.
abbrev pub at_hand : List ℕ → List ℕ → List ℕ
at_hand [] rest = rest
at_hand (b ∷ w) rest = b ∷ w

-- The result of the carried bytes and those after them as a field. A value in its bytes begins at the offset in them.
abbrev pub IsCarriedUnit : Reader Outcome → FieldData → List ℕ → List ℕ → Dictionary → Dictionary → List ℕ → Progress WholeField → Type 0
IsCarriedUnit r f front rest old new scratch (Whole found n) = (0 < n) × (n ≤ length rest)
    × (found.from ≤ found.bytes) × (found.bytes ≡ length front + n)
    × GivesField r (front ++ take n rest) f found.source old new scratch (drop found.from (front ++ take n rest))
IsCarriedUnit r f front rest old new scratch (Wrong c n) = (0 < n) × (n ≤ length rest) × Turns r (front ++ take n rest) (Stop c)
IsCarriedUnit r f front rest old new scratch Cut = Stays r (front ++ rest) × (new ≡ old)
