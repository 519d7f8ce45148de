-- How readers take bytes: one reader after the other, and bytes in two runs.
use Rattle.std.proofs.Common.{refl, sym, ap, ◌∙◌, subst}
use Rattle.std.specs.Prelude.{◌≡◌, ℕ, Bool, List, [], ◌∷◌, ◌++◌, Result, Ok}
use Rattle.fast_value.specs.declared.codes.Code.{Code}
use Rattle.fast_stream.specs.device.Readers.{Reader, Done, Stop, bind}
use Rattle.fast_stream.specs.device.Running.{after_byte}
use Rattle.fast_stream.specs.device.Machine.{after_bytes}
use Rattle.fast_stream.specs.meaning.Grammar.{Grammar, ◌>>=◌, of_result}
use Rattle.fast_stream.specs.device.GrammarReaders.{reader_of}
use Rattle.fast_units.specs.device.Taking.{Waits, Quiet, Turns, Stays}
use Rattle.fast_stream.proofs.readers.Grammars.{reader-then}

-- Bytes in two runs.
pub after_run : {A : Type 0} (r : Reader A) (u v : List ℕ) → after_bytes r (u ++ v) ≡ after_bytes (after_bytes r u) v
after_run r [] v = refl
after_run r (b ∷ u) v = after_run (after_byte r b) u v

-- A reader that waits goes on with what follows it, and waits still.
pub waits_on : {A B : Type 0} (r : Reader A) (k : A → Reader B) → Waits r → Waits (bind r k)
waits_on r k (f, e) = ((λ b. bind (f b) k), ap (λ q. bind q k) e)

pub byte_on : {A B : Type 0} (r : Reader A) (k : A → Reader B) (b : ℕ) → Waits r → after_byte (bind r k) b ≡ bind (after_byte r b) k
byte_on r k b (f, e) = rw e refl

pub quiet_on : {A B : Type 0} (r : Reader A) (k : A → Reader B) (w : List ℕ) → Quiet r w → Quiet (bind r k) w
quiet_on r k [] h = tt
quiet_on r k (b ∷ w) h = (waits_on r k h.0, subst (λ q. Quiet q w) (sym (byte_on r k b h.0)) (quiet_on (after_byte r b) k w h.1))

pub bytes_on : {A B : Type 0} (r : Reader A) (k : A → Reader B) (w : List ℕ) → Quiet r w → after_bytes (bind r k) w ≡ bind (after_bytes r w) k
bytes_on r k [] h = refl
bytes_on r k (b ∷ w) h = ap (λ q. after_bytes q w) (byte_on r k b h.0) ∙ bytes_on (after_byte r b) k w h.1

-- What a reader turns to under these bytes, it turns to with what follows it.
pub turns_on : {A B : Type 0} {r q : Reader A} (k : A → Reader B) {w : List ℕ} → Turns r w q → Turns (bind r k) w (bind q k)
turns_on {r = r} k {w} h = record { quiet = quiet_on r k w h.quiet; becomes = bytes_on r k w h.quiet ∙ ap (λ p. bind p k) h.becomes }

pub turns_done : {A B : Type 0} {r : Reader A} (k : A → Reader B) {w : List ℕ} {a : A} → Turns r w (Done a) → Turns (bind r k) w (k a)
turns_done k h = turns_on k h

pub turns_stop : {A B : Type 0} {r : Reader A} (k : A → Reader B) {w : List ℕ} {c : Code} → Turns r w (Stop c) → Turns (bind r k) w (Stop c)
turns_stop k h = turns_on k h

pub stays_on : {A B : Type 0} {r : Reader A} (k : A → Reader B) {w : List ℕ} → Stays r w → Stays (bind r k) w
stays_on {r = r} k {w} h = record {
  quiet = quiet_on r k w h.quiet;
  waits = subst Waits (sym (bytes_on r k w h.quiet)) (waits_on (after_bytes r w) k h.waits);
}

-- By another name of the reader, or of what it turns to.
pub turns_as : {A : Type 0} {r r' q q' : Reader A} {w : List ℕ} → r ≡ r' → q ≡ q' → Turns r' w q' → Turns r w q
turns_as {A} {r} {r'} {q} {q'} {w} e i h = subst (λ p. Turns p w q) (sym e) (subst (λ p. Turns r' w p) (sym i) h)

pub stays_as : {A : Type 0} {r r' : Reader A} {w : List ℕ} → r ≡ r' → Stays r' w → Stays r w
stays_as {A} {r} {r'} {w} e h = subst (λ p. Stays p w) (sym e) h

-- No bytes, and two runs of bytes.
pub turns_none : {A : Type 0} (r : Reader A) → Turns r [] r
turns_none r = record { quiet = tt; becomes = refl }

pub quiet_run : {A : Type 0} (r : Reader A) (u v : List ℕ) → Quiet r u → Quiet (after_bytes r u) v → Quiet r (u ++ v)
quiet_run r [] v h j = j
quiet_run r (b ∷ u) v h j = (h.0, quiet_run (after_byte r b) u v h.1 j)

pub turns_run : {A : Type 0} {r q p : Reader A} {u v : List ℕ} → Turns r u q → Turns q v p → Turns r (u ++ v) p
turns_run {r = r} {u = u} {v = v} h j = record {
  quiet = quiet_run r u v h.quiet (subst (λ x. Quiet x v) (sym h.becomes) j.quiet);
  becomes = after_run r u v ∙ ap (λ x. after_bytes x v) h.becomes ∙ j.becomes;
}

-- The same of the readers of terms: what a term reads, it reads in front of another one.
pub term_turns : {A B : Type 0} (s : Bool) (g : Grammar A) (k : A → Grammar B) {w : List ℕ} {a : A} → Turns (reader_of s g) w (Done a)
    → Turns (reader_of s (g >>= k)) w (reader_of s (k a))
term_turns s g k h = turns_as (reader-then s g k) refl (turns_done (λ x. reader_of s (k x)) h)

pub term_stops : {A B : Type 0} (s : Bool) (g : Grammar A) (k : A → Grammar B) {w : List ℕ} {c : Code} → Turns (reader_of s g) w (Stop c)
    → Turns (reader_of s (g >>= k)) w (Stop c)
term_stops s g k h = turns_as (reader-then s g k) refl (turns_stop (λ x. reader_of s (k x)) h)

pub term_stays : {A B : Type 0} (s : Bool) (g : Grammar A) (k : A → Grammar B) {w : List ℕ} → Stays (reader_of s g) w → Stays (reader_of s (g >>= k)) w
term_stays s g k h = stays_as (reader-then s g k) (stays_on (λ x. reader_of s (k x)) h)

-- A result that is known.
pub result_done : {A B : Type 0} (s : Bool) (r : Result A Code) (k : A → Grammar B) {a : A} → r ≡ Ok a → reader_of s (of_result r >>= k) ≡ reader_of s (k a)
result_done s r k e = rw e refl
