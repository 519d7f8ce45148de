-- What bytes are as a unit is what the unit's reader makes of them.
use Rattle.std.proofs.Common.{refl, sym, ap, arith, inl, inr, length-append}
use Rattle.std.specs.Prelude.{◌≡◌, ℕ, zero, suc, ◌<◌, Bool, List, [], ◌∷◌, ◌++◌, length, take, ℤ, Option}
use Rattle.fast_wire.specs.meaning.Entities.{IsEntity}
use Rattle.fast_wire.specs.meaning.Integers.{Range}
use Rattle.fast_wire.specs.meaning.Faulty.{IsWrongInt}
use Rattle.fast_fronts.specs.device.Fronts.{IsFirstInt}
use Rattle.fast_fronts.specs.declared.fronts.First.TheVariants as First
use Rattle.fast_wire.specs.declared.reads.WireFault.{WireFault}
use Rattle.fast_wire.specs.declared.reads.WireFault.TheVariants as Wire
use Rattle.fast_value.specs.declared.codes.Code.{Code}
use Rattle.fast_stream.specs.meaning.Phrases.{whole, wrong, cut}
use Rattle.fast_stream.specs.meaning.Units.{WrongInt}
use Rattle.fast_stream.specs.meaning.Grammar.{give, integer, ascii_text, raw}
use Rattle.fast_stream.specs.device.Readers.{Reader, Done, Emit, Stop, Byte, bind, Runs}
use Rattle.fast_stream.specs.device.GrammarReaders.{integer_reader, ascii_text_reader, raw_reader, reader_of}
use Rattle.fast_units.specs.device.Taking.{Turns, Stays, IsUnit}
use Rattle.fast_units.specs.device.NextUnits.{IsNextText, text_or_null}
use Rattle.fast_units.specs.declared.progress.Progress.{Progress}
use Rattle.fast_units.specs.declared.progress.Progress.TheVariants.{Whole, Wrong, Cut}
use Rattle.fast_stream.proofs.readers.Integers.{reads-integer}
use Rattle.fast_stream.proofs.readers.TextReaders.{reads-raw, reads-ascii}

-- No byte is taken, and the reader is as it is.
turns_none : {A : Type 0} (r q : Reader A) (w : List ℕ) → w ≡ [] → r ≡ q → Turns r w q
turns_none r q [] e i = record { quiet = tt; becomes = i }
turns_none r q (b ∷ w) e i = absurd (cc e)

-- A reader that hands nothing over takes its bytes to its end, and what follows it begins; or to its fault; or it waits for more.
pub runs_whole : {A B : Type 0} (r : Reader A) (k : A → Reader B) (w : List ℕ) (a : A) → Runs r w [] (whole a) → Turns (bind r k) w (k a)
runs_whole (Done b) k w a h = turns_none (k b) (k a) w h.0 (ap k (sym h.2))
runs_whole (Emit e r) k w a h = absurd (cc h.1)
runs_whole (Stop c) k w a h = absurd h
runs_whole (Byte f) k [] a h = absurd h
runs_whole (Byte f) k (b ∷ w) a h = let t = runs_whole (f b) k w a h in record { quiet = ((_, refl), t.quiet); becomes = t.becomes }

pub runs_wrong : {A B : Type 0} (r : Reader A) (k : A → Reader B) (w : List ℕ) (c : Code) → Runs r w [] (wrong c) → Turns (bind r k) w (Stop c)
runs_wrong (Done b) k w c h = absurd h
runs_wrong (Emit e r) k w c h = absurd (cc h.1)
runs_wrong (Stop d) k w c h = turns_none (Stop d) (Stop c) w h.0 (ap Stop (sym h.2))
runs_wrong (Byte f) k [] c h = absurd h
runs_wrong (Byte f) k (b ∷ w) c h = let t = runs_wrong (f b) k w c h in record { quiet = ((_, refl), t.quiet); becomes = t.becomes }

pub runs_cut : {A B : Type 0} (r : Reader A) (k : A → Reader B) (w : List ℕ) → Runs r w [] cut → Stays (bind r k) w
runs_cut (Done b) k w h = absurd h
runs_cut (Emit e r) k w h = absurd (cc h.1)
runs_cut (Stop d) k w h = absurd h
runs_cut (Byte f) k [] h = record { quiet = tt; waits = (_, refl) }
runs_cut (Byte f) k (b ∷ w) h = let t = runs_cut (f b) k w h in record { quiet = ((_, refl), t.quiet); waits = t.waits }

-- Integers
module _ {T : Type 0} (meant : T → Option ℤ) (strict : Bool) (range : Range) (nullable : Bool) (outside : Code) where
  -- An entity has a byte.
  some_byte : (w : List ℕ) (n : ℕ) → IsEntity (take n w) → 0 < n
  some_byte w zero (f, last, e, h, stop) = let l : 0 ≡ length (f ++ last ∷ []) = ap length e in absurd (omega (arith, l, length-append f (last ∷ [])))
  some_byte w (suc n) h = omega arith

  wrong_some : (rest : List ℕ) (fault : WireFault) (n : ℕ) → IsWrongInt strict range nullable fault (take n rest) → 0 < n
  wrong_some rest Wire.R6 n h = some_byte rest n h.0
  wrong_some rest Wire.D2 zero (inl h) = absurd (omega (arith, h.1))
  wrong_some rest Wire.D2 (suc n) (inl h) = omega arith
  wrong_some rest Wire.D2 n (inr h) = some_byte rest n h.1.entity

  -- What the first entity is.
  pub first_whole : (rest : List ℕ) (x : T) (n : ℕ) → IsFirstInt meant strict range nullable (First.Whole x n) rest
      → IsUnit (reader_of strict (integer range nullable outside give)) meant rest (Whole x n)
  first_whole rest x n h = (
    some_byte rest n h.1.form.entity,
    h.0,
    runs_whole (integer_reader strict range nullable outside) (λ v. Done v) (take n rest) (meant x)
        ((reads-integer strict range nullable outside).takes (take n rest) [] (whole (meant x)) (h.1, refl)),
  )

  pub first_wrong : (rest : List ℕ) (fault : WireFault) (c : Code) (n : ℕ) → IsFirstInt meant strict range nullable (First.Wrong fault n) rest
      → WrongInt strict range nullable outside (take n rest) c → IsUnit (reader_of strict (integer range nullable outside give)) meant rest (Wrong c n)
  first_wrong rest fault c n h k = (
    wrong_some rest fault n h.1,
    h.0,
    runs_wrong (integer_reader strict range nullable outside) (λ v. Done v) (take n rest) c
        ((reads-integer strict range nullable outside).takes (take n rest) [] (wrong c) (k, refl)),
  )

  pub first_cut : (rest : List ℕ) → IsFirstInt meant strict range nullable First.Cut rest
      → IsUnit {T = T} (reader_of strict (integer range nullable outside give)) meant rest Cut
  first_cut rest h = runs_cut (integer_reader strict range nullable outside) (λ v. Done v) rest
      ((reads-integer strict range nullable outside).takes rest [] cut (h.0, h.1, refl))

-- Texts
pub text_unit : (strict nullable : Bool) (room : ℕ) (rest after : List ℕ) (p : Progress Bool) → IsNextText nullable room rest after p
    → IsUnit (reader_of strict (ascii_text nullable room give)) (text_or_null after) rest p
text_unit strict nullable room rest after (Whole t n) h = (
  h.0,
  h.1,
  runs_whole (ascii_text_reader nullable room) (λ v. Done v) (take n rest) (text_or_null after t)
      ((reads-ascii nullable room).takes (take n rest) [] (whole (text_or_null after t)) (h.2, refl)),
)
text_unit strict nullable room rest after (Wrong c n) h = (
  h.0,
  h.1,
  runs_wrong (ascii_text_reader nullable room) (λ v. Done v) (take n rest) c
      ((reads-ascii nullable room).takes (take n rest) [] (wrong c) h.2),
)
text_unit strict nullable room rest after Cut h =
    runs_cut (ascii_text_reader nullable room) (λ v. Done v) rest ((reads-ascii nullable room).takes rest [] cut h)

-- Runs
pub run_whole : (strict : Bool) (size : ℕ) (w : List ℕ) → length w ≡ size → Turns (reader_of strict (raw size give)) w (Done w)
run_whole strict size w e = runs_whole (raw_reader size []) (λ v. Done v) w w ((reads-raw size).takes w [] (whole w) (refl, e, refl))

pub run_cut : (strict : Bool) (size : ℕ) (w : List ℕ) → length w < size → Stays (reader_of strict (raw size give)) w
run_cut strict size w l = runs_cut (raw_reader size []) (λ v. Done v) w ((reads-raw size).takes w [] cut (l, refl))
