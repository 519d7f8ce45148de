-- Readers: phrases as they are read, byte after byte.
use Rattle.std.specs.Prelude.{◌≡◌, ℕ, List, [], ◌∷◌}
use Rattle.fast_value.specs.declared.codes.Code.{Code}
use Rattle.fast_stream.specs.meaning.Events.{EventData}
use Rattle.fast_stream.specs.meaning.Phrases.{Reached, whole, cut, wrong, Phrase}
use Rattle.fast_stream.specs.meaning.Streams.{AreBytes}

-- A reader: it gives a result, emits an event and goes on, stops at a fault, or waits for a byte.
pub data Reader (A : Type 0) : Type 0 where
  Done : A → Reader A
  Emit : EventData → Reader A → Reader A
  Stop : Code → Reader A
  Byte : (ℕ → Reader A) → Reader A

-- one reader after the other
abbrev pub bind : {A B : Type 0} → Reader A → (A → Reader B) → Reader B
bind (Done a) k = k a
bind (Emit e r) k = Emit e (bind r k)
bind (Stop c) k = Stop c
bind (Byte f) k = Byte (λ b. bind (f b) k)

-- no byte has been read
abbrev pub Waits : {A : Type 0} → List EventData → Reached A → Type 0
Waits es (whole a) = ⊥
Waits es cut = es ≡ []
Waits es (wrong c) = ⊥

-- The end is reached without another byte, or a fault.
abbrev pub Ends : {A : Type 0} → A → List ℕ → List EventData → Reached A → Type 0
Ends a w es (whole b) = (w ≡ []) × (es ≡ []) × (b ≡ a)
Ends a w es cut = ⊥
Ends a w es (wrong c) = ⊥

-- a fault is reached without another byte
abbrev pub Stops : {A : Type 0} → Code → List ℕ → List EventData → Reached A → Type 0
Stops c w es (whole b) = ⊥
Stops c w es cut = ⊥
Stops c w es (wrong d) = (w ≡ []) × (es ≡ []) × (d ≡ c)

-- The reader consumes these bytes and emits these events: to its end, or until it waits, or to its fault.
abbrev pub Runs : {A : Type 0} → Reader A → List ℕ → List EventData → Reached A → Type 0
Runs (Done a) w es x = Ends a w es x
Runs (Emit e r) w es x = (gs : List EventData) × (es ≡ e ∷ gs) × Runs r w gs x
Runs (Stop c) w es x = Stops c w es x
Runs (Byte f) [] es x = Waits es x
Runs (Byte f) (b ∷ w) es x = Runs (f b) w es x

-- The reader has exactly the results of the phrase.
pub record Reads {A : Type 0} (r : Reader A) (p : Phrase A) : Type 0 where
  pub takes : (w : List ℕ) (es : List EventData) (x : Reached A) → p w es x → Runs r w es x
  pub says : (w : List ℕ) (es : List EventData) (x : Reached A) → AreBytes w → Runs r w es x → p w es x
