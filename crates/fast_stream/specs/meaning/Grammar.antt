-- The grammar of messages as terms: units that are read one after the other, with events on the way. A term gives both its phrase and the
-- reader that reads it.
use Rattle.std.specs.Prelude.{ℕ, Bool, List, ℤ, Option, Result, Ok, Err}
use Rattle.fast_wire.specs.meaning.Integers.{Range}
use Rattle.fast_value.specs.declared.codes.Code.{Code}
use Rattle.fast_stream.specs.meaning.Events.{EventData}
use Rattle.fast_stream.specs.meaning.Phrases.{Reached, gives, hands, settles, ◌followed_by◌}
use Rattle.fast_stream.specs.meaning.Units

-- a term: the units that are read, and then a result
pub data Grammar (A : Type 0) : Type 0 where
  -- no more is read: this is the result
  give : A → Grammar A
  -- the bytes so far are wrong
  fault : Code → Grammar A
  -- an event is emitted
  hand : EventData → Grammar A → Grammar A
  -- an integer in a range, or NULL if nullable; outside the range it is the named fault
  integer : Range → Bool → Code → (Option ℤ → Grammar A) → Grammar A
  -- an ASCII string of at most this many characters, or NULL if nullable
  ascii_text : Bool → ℕ → (Option (List ℕ) → Grammar A) → Grammar A
  -- this many bytes of any value
  raw : ℕ → (List ℕ → Grammar A) → Grammar A
  -- a presence map
  presence_map : (List ℕ → Grammar A) → Grammar A
  -- in strict mode a map has no more bytes than this many bits need
  narrow : ℕ → List ℕ → Grammar A → Grammar A

-- one term after the other
infixl 10 ◌>>=◌
abbrev pub ◌>>=◌ : {A B : Type 0} → Grammar A → (A → Grammar B) → Grammar B
(give a) >>= k = k a
(fault c) >>= k = fault c
(hand e g) >>= k = hand e (g >>= k)
(integer range nullable c g) >>= k = integer range nullable c (λ x. g x >>= k)
(ascii_text nullable room g) >>= k = ascii_text nullable room (λ x. g x >>= k)
(raw n g) >>= k = raw n (λ x. g x >>= k)
(presence_map g) >>= k = presence_map (λ x. g x >>= k)
(narrow n m g) >>= k = narrow n m (g >>= k)

-- a result, or a fault
abbrev pub of_result : {A : Type 0} → Result A Code → Grammar A
of_result (Ok a) = give a
of_result (Err c) = fault c

-- the phrase of a term: its bytes and events, in strict mode or not
abbrev pub phrase_of : {A : Type 0} → Bool → Grammar A → List ℕ → List EventData → Reached A → Type 0
phrase_of s (give a) = gives a
phrase_of {A = A} s (fault c) = settles {A = A} (Err c)
phrase_of s (hand e g) = hands e followed_by (λ _. phrase_of s g)
phrase_of s (integer range nullable c g) = Units.integer s range nullable c followed_by (λ x. phrase_of s (g x))
phrase_of s (ascii_text nullable room g) = Units.ascii_text nullable room followed_by (λ x. phrase_of s (g x))
phrase_of s (raw n g) = Units.raw n followed_by (λ x. phrase_of s (g x))
phrase_of s (presence_map g) = Units.presence_map s followed_by (λ x. phrase_of s (g x))
phrase_of s (narrow n m g) = settles (Units.width_checked s n m) followed_by (λ _. phrase_of s g)
