-- The stream of a template set, and its reader.
use Rattle.std.proofs.Common.{append_assoc, refl, sym, ap, ◌∙◌, subst, arith}
use mathlib.Core.Path.{fun_ext}
use Rattle.std.specs.Prelude.{◌≡◌, ℕ, true, List, ◌++◌, length}
use Rattle.fast_value.specs.declared.settings.Limits.{Limits}
use Rattle.fast_value.specs.meaning.Limits.{bounds, in_mode}
use Rattle.fast_value.specs.declared.codes.Code.{Code}
use Rattle.fast_value.specs.meaning.Messages.{MessageData}
use Rattle.fast_tree.specs.meaning.Tree.{Tree}
use Rattle.fast_dict.specs.meaning.Dictionary.{Dictionary, fresh}
use Rattle.fast_stream.specs.meaning.Events.{EventData, events}
use Rattle.fast_stream.specs.meaning.Phrases.{whole}
use Rattle.fast_stream.specs.meaning.Messages.{message_term, message, SpellsMessage}
use Rattle.fast_stream.specs.meaning.Streams.{End, between, faulted, Chain, Stream, AreBytes}
use Rattle.fast_stream.specs.device.Readers.{Reader, Byte, Reads}
use Rattle.fast_stream.specs.meaning.Grammar.{give}
use Rattle.fast_stream.specs.device.GrammarReaders.{presence_map_reader, reader_of}
use Rattle.fast_stream.specs.device.Running.{at_start, run, end_of, after_byte, message_begun, reading}
use Rattle.fast_stream.proofs.readers.Grammars.{reads-grammar, reader-then}
use Rattle.fast_stream.proofs.terms.Lenient.{spelled-lenient}
use Rattle.fast_stream.proofs.terms.Continuations.{message-same}
use Rattle.fast_stream.proofs.terms.MessageEvents.{message-events}
use Rattle.fast_stream.proofs.streams.Streams.{left, more, run-append, run-sound, one-answer}

-- A message's reader waits for a byte.
pub message_first : Tree → Limits → Dictionary → ℕ → Reader (MessageData × Dictionary)
message_first t l d b = after_byte (reader_of l.strict (message_term t (bounds l) d)) b

begins-with-byte : (t : Tree) (l : Limits) (d : Dictionary) → reader_of l.strict (message_term t (bounds l) d) ≡ Byte (message_first t l d)
unfolding message_term message_first presence_map_reader
begins-with-byte t l d = refl

pub reads-first : (t : Tree) (l : Limits) (d : Dictionary) → Reads (Byte (message_first t l d)) (message t l d)
reads-first t l d = subst (λ r. Reads r (message t l d)) (begins-with-byte t l d) (reads-grammar l.strict (message_term t (bounds l) d))

told : (t : Tree) (l : Limits) (d : Dictionary) (w : List ℕ) (es : List EventData) (m : MessageData) (d' : Dictionary)
    → message t l d w es (whole (m, d')) → es ≡ events t m
told t l d w es m d' h = message-events t l d w es (m, d') h

begun-same : (t : Tree) (l : Limits) (d : Dictionary) (b : ℕ) → left (message_first t l d b) ≡ message_begun t l d b
unfolding message_begun
begun-same t l d b =
    ap (λ r. after_byte (left r) b) (sym (begins-with-byte t l d))
    ∙ ap (λ r. after_byte r b) (sym (ap (λ g. reader_of l.strict g) (message-same t (bounds l) d)
    ∙ reader-then l.strict (message_term t (bounds l) d) (λ r. give r.1)))

all-begun : (t : Tree) (l : Limits) → (λ d b. left (message_first t l d b)) ≡ message_begun t l
all-begun t l = fun_ext (λ d. fun_ext (λ b. begun-same t l d b))

-- What is read from bytes is their stream.
pub reading-sound : (t : Tree) (l : Limits) (w : List ℕ) → AreBytes w → Stream t l w (reading t l w).0 (end_of (reading t l w).1)
reading-sound t l w b =
    subst (λ f. Stream t l w (run f 0 (at_start (fresh t.entries)) w).0 (end_of (run f 0 (at_start (fresh t.entries)) w).1)) (all-begun t l)
    (run-sound t l (message_first t l) (reads-first t l) (told t l) w b)

-- Whatever stream bytes are said to be, it is what is read from them.
pub one_answer : (t : Tree) (l : Limits) (w : List ℕ) (es es' : List EventData) (e e' : End) → Stream t l w es e → Stream t l w es' e' → (es ≡ es') × (e ≡ e')
one_answer t l w es es' e e' h h' = one-answer t l (message_first t l) (reads-first t l) (told t l) w es es' e e' h h'

-- One message more.
pub chain_more : (t : Tree) (l : Limits) (u v : List ℕ) (fs : List EventData) (d d' : Dictionary) (m : MessageData) → Chain t l u fs d
    → SpellsMessage t l d m v d' → Chain t l (u ++ v) (fs ++ events t m) d'
unfolding SpellsMessage
chain_more t l u v fs d d' m h i = more t l (message_first t l) (reads-first t l) (told t l) u v fs (events t m) d d' m h i

-- Bytes in pieces: what is read from the second is read from where the first left off.
pub reading-append : (t : Tree) (l : Limits) (w v : List ℕ)
    → ((reading t l (w ++ v)).0 ≡ (reading t l w).0 ++ (run (message_begun t l) (length w) (reading t l w).1 v).0)
    × ((reading t l (w ++ v)).1 ≡ (run (message_begun t l) (length w) (reading t l w).1 v).1)
reading-append t l w v = run-append (message_begun t l) 0 (length w) (at_start (fresh t.entries)) w v (omega arith)

-- Each stream of bytes has an answer.
pub some_answer : (t : Tree) (l : Limits) (w : List ℕ) → AreBytes w → (es : List EventData) × (e : End) × Stream t l w es e
some_answer t l w b = ((reading t l w).0, end_of (reading t l w).1, reading-sound t l w b)

-- A stream that ends between two messages, and then a message spelled in strict mode.
pub read_back : (t : Tree) (l : Limits) (w v : List ℕ) (es : List EventData) (m : MessageData) (d d' : Dictionary)
    → Chain t l w es d → SpellsMessage t (in_mode true l) d m v d' → Stream t l (w ++ v) (es ++ events t m) between × Chain t l (w ++ v) (es ++ events t m) d'
unfolding Stream
read_back t l w v es m d d' h i = let k = chain_more t l w v es d d' m h (spelled-lenient t l d m v d' i) in ((d', k), k)

-- More bytes behind a fault change nothing.
pub faults-stay : (t : Tree) (l : Limits) (w v : List ℕ) (es : List EventData) (c : Code) (place : ℕ) → Stream t l w es (faulted c place)
    → Stream t l (w ++ v) es (faulted c place)
unfolding Stream
faults-stay t l w v es c place (u, u', rest, fs, gs, d, h, i, n, k, e) =
    (u, u', rest ++ v, fs, gs, d, h, i, n, ap (λ r. r ++ v) k ∙ append_assoc (u ++ u') rest v, e)
