-- The readers of terms: they answer as the phrases do, and go along with one term after the other.
use Rattle.std.proofs.Common.{refl, sym, ap, ◌∙◌, append_assoc}
use mathlib.Core.Path.{fun_ext}
use Rattle.std.specs.Prelude.{◌≡◌, ℕ, Bool, List, [], ◌++◌, Err}
use Rattle.fast_stream.specs.meaning.Events.{EventData}
use Rattle.fast_stream.specs.meaning.Phrases.{Reached, whole, Phrase, gives, hands, settles, ◌followed_by◌}
use Rattle.fast_stream.specs.meaning.Units
use Rattle.fast_stream.specs.device.Readers.{Reader, Done, Emit, Stop, Byte, bind, Reads}
use Rattle.fast_stream.specs.device.GrammarReaders.{settles_reader, integer_reader, ascii_text_reader, raw_reader, presence_map_reader, reader_of}
use Rattle.fast_stream.specs.meaning.Grammar.{Grammar, give, fault, hand, integer, ascii_text, raw, presence_map, narrow, ◌>>=◌, phrase_of}
use Rattle.fast_stream.proofs.readers.Binds.{goes, reads-bind}
use Rattle.fast_stream.proofs.readers.UnitReaders.{reads-gives, reads-hands, reads-settles}
use Rattle.fast_stream.proofs.readers.Integers.{reads-integer, reads-map}
use Rattle.fast_stream.proofs.readers.TextReaders.{reads-raw, reads-ascii}

-- The reader of a term answers as its phrase.
pub reads-grammar : {A : Type 0} (s : Bool) (g : Grammar A) → Reads (reader_of s g) (phrase_of s g)
reads-grammar s (give a) = reads-gives a
reads-grammar {A = A} s (fault c) = reads-settles {A = A} (Err c)
reads-grammar s (hand e g) = reads-bind (reads-hands e) (λ _. reads-grammar s g)
reads-grammar s (integer range nullable c g) = reads-bind (reads-integer s range nullable c) (λ x. reads-grammar s (g x))
reads-grammar s (ascii_text nullable room g) = reads-bind (reads-ascii nullable room) (λ x. reads-grammar s (g x))
reads-grammar s (raw n g) = reads-bind (reads-raw n) (λ x. reads-grammar s (g x))
reads-grammar s (presence_map g) = reads-bind (reads-map s) (λ x. reads-grammar s (g x))
reads-grammar s (narrow n m g) = reads-bind (reads-settles (Units.width_checked s n m)) (λ _. reads-grammar s g)

-- readers in a row
pub bind-assoc : {A B C : Type 0} (r : Reader A) (k : A → Reader B) (m : B → Reader C) → bind (bind r k) m ≡ bind r (λ a. bind (k a) m)
bind-assoc (Done a) k m = refl
bind-assoc (Emit e r) k m = ap (λ q. Emit e q) (bind-assoc r k m)
bind-assoc (Stop c) k m = refl
bind-assoc (Byte f) k m = ap (λ q. Byte q) (fun_ext (λ b. bind-assoc (f b) k m))

-- under a unit
under : {A B X : Type 0} (r : Reader X) (g : X → Reader A) (k : A → Reader B) {m : X → Reader B} → ((x : X) → m x ≡ bind (g x) k) → bind r m ≡ bind (bind r g) k
under r g k h = ap (λ q. bind r q) (fun_ext h) ∙ sym (bind-assoc r g k)

-- Readers go along with one grammar after the other.
pub reader-then : {A B : Type 0} (s : Bool) (g : Grammar A) (k : A → Grammar B) → reader_of s (g >>= k) ≡ bind (reader_of s g) (λ a. reader_of s (k a))
reader-then s (give a) k = refl
reader-then s (fault c) k = refl
reader-then s (hand e g) k = ap (λ q. Emit e q) (reader-then s g k)
reader-then s (integer range nullable c g) k = under (integer_reader s range nullable c) (λ x. reader_of s (g x)) (λ a. reader_of s (k a))
    (λ x. reader-then s (g x) k)
reader-then s (ascii_text nullable room g) k = under (ascii_text_reader nullable room) (λ x. reader_of s (g x)) (λ a. reader_of s (k a))
    (λ x. reader-then s (g x) k)
reader-then s (raw n g) k = under (raw_reader n []) (λ x. reader_of s (g x)) (λ a. reader_of s (k a)) (λ x. reader-then s (g x) k)
reader-then s (presence_map g) k = under (presence_map_reader s) (λ x. reader_of s (g x)) (λ a. reader_of s (k a)) (λ x. reader-then s (g x) k)
reader-then s (narrow n m g) k = under (settles_reader (Units.width_checked s n m)) (λ x. reader_of s g) (λ a. reader_of s (k a)) (λ x. reader-then s g k)

-- What is whole, and what one term more says of the bytes behind it, make what both in a row say.
join-unit : {X A B : Type 0} (p : Phrase X) (q : X → Phrase A) (m : X → Phrase B) (v : List ℕ) (gs : List EventData) (a : A) (x : Reached B)
    → ((y : X) (u : List ℕ) (fs : List EventData) → q y u fs (whole a) → m y (u ++ v) (fs ++ gs) x)
    → (u : List ℕ) (fs : List EventData) → ◌followed_by◌ p q u fs (whole a) → ◌followed_by◌ p m (u ++ v) (fs ++ gs) x
unfolding ◌followed_by◌
join-unit p q m v gs a x f u fs (u₁, u₂, f₁, f₂, y, i, j, d, e) = goes p m (u ++ v) (fs ++ gs) x
    (u₁, u₂ ++ v, f₁, f₂ ++ gs, y, i, f y u₂ f₂ j, ap (λ r. r ++ v) d ∙ append_assoc u₁ u₂ v, ap (λ r. r ++ gs) e ∙ append_assoc f₁ f₂ gs)

pub joins : {A B : Type 0} (s : Bool) (g : Grammar A) (k : A → Grammar B) (u v : List ℕ) (fs gs : List EventData) (a : A) (x : Reached B)
    → phrase_of s g u fs (whole a) → phrase_of s (k a) v gs x → phrase_of s (g >>= k) (u ++ v) (fs ++ gs) x
unfolding gives settles
joins s (give b) k u v fs gs a x h j = rw (h.0, h.1, ← h.2) j
joins s (fault c) k u v fs gs a x h j = absurd h
joins s (hand e g) k u v fs gs a x h j = join-unit (hands e) (λ _. phrase_of s g) (λ _. phrase_of s (g >>= k)) v gs a x
    (λ y u fs i. joins s g k u v fs gs a x i j) u fs h
joins s (integer range nullable c g) k u v fs gs a x h j =
    join-unit (Units.integer s range nullable c) (λ y. phrase_of s (g y)) (λ y. phrase_of s (g y >>= k)) v gs a x
    (λ y u fs i. joins s (g y) k u v fs gs a x i j) u fs h
joins s (ascii_text nullable room g) k u v fs gs a x h j =
    join-unit (Units.ascii_text nullable room) (λ y. phrase_of s (g y)) (λ y. phrase_of s (g y >>= k)) v gs a x
    (λ y u fs i. joins s (g y) k u v fs gs a x i j) u fs h
joins s (raw n g) k u v fs gs a x h j = join-unit (Units.raw n) (λ y. phrase_of s (g y)) (λ y. phrase_of s (g y >>= k)) v gs a x
    (λ y u fs i. joins s (g y) k u v fs gs a x i j) u fs h
joins s (presence_map g) k u v fs gs a x h j = join-unit (Units.presence_map s) (λ y. phrase_of s (g y))
    (λ y. phrase_of s (g y >>= k)) v gs a x (λ y u fs i. joins s (g y) k u v fs gs a x i j) u fs h
joins s (narrow n m g) k u v fs gs a x h j = join-unit (settles (Units.width_checked s n m)) (λ _. phrase_of s g)
    (λ _. phrase_of s (g >>= k)) v gs a x (λ y u fs i. joins s g k u v fs gs a x i j) u fs h
