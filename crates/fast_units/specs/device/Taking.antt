-- Readers that consume bytes.
use Rattle.std.specs.Prelude.{◌≡◌, ℕ, ◌<◌, ◌≤◌, List, [], ◌∷◌, length, take}
use Rattle.fast_stream.specs.device.Readers.{Reader, Done, Stop, Byte}
use Rattle.fast_stream.specs.device.Running.{after_byte}
use Rattle.fast_stream.specs.device.Machine.{after_bytes}
use Rattle.fast_units.specs.declared.progress.Progress.{Progress}
use Rattle.fast_units.specs.declared.progress.Progress.TheVariants.{Whole, Wrong, Cut}

-- The reader waits for a byte.
abbrev pub Waits : {A : Type 0} → Reader A → Type 0
Waits {A} r = (f : ℕ → Reader A) × (r ≡ Byte f)

-- The reader waits for each of the bytes, and emits nothing before the last.
abbrev pub Quiet : {A : Type 0} → Reader A → List ℕ → Type 0
Quiet r [] = Unit {0}
Quiet r (b ∷ w) = Waits r × Quiet (after_byte r b) w

-- The reader consumes the bytes, and is then the other.
pub record Turns {A : Type 0} (r : Reader A) (w : List ℕ) (q : Reader A) : Type 0 where
  pub quiet : Quiet r w
  pub becomes : after_bytes r w ≡ q

-- The reader consumes the bytes, and waits for more.
pub record Stays {A : Type 0} (r : Reader A) (w : List ℕ) : Type 0 where
  pub quiet : Quiet r w
  pub waits : Waits (after_bytes r w)

-- The result of the bytes as a unit: some of them complete it, or decide a fault; or it goes on after all of them.
abbrev pub IsUnit : {A T : Type 0} → Reader A → (T → A) → List ℕ → Progress T → Type 0
IsUnit r meant rest (Whole x n) = (0 < n) × (n ≤ length rest) × Turns r (take n rest) (Done (meant x))
IsUnit r meant rest (Wrong c n) = (0 < n) × (n ≤ length rest) × Turns r (take n rest) (Stop c)
IsUnit r meant rest Cut = Stays r rest
