-- What is spelled in strict mode is spelled in lenient mode.
use Rattle.std.proofs.Common.{refl}
use Rattle.std.specs.Prelude.{ℕ, Bool, true, false, List, Err}
use Rattle.fast_wire.specs.meaning.Integers.{Range}
use Rattle.fast_value.specs.declared.settings.Limits.{Limits}
use Rattle.fast_value.specs.meaning.Limits.{bounds, in_mode}
use Rattle.fast_value.specs.meaning.Messages.{MessageData}
use Rattle.fast_value.specs.declared.codes.Code.{Code}
use Rattle.fast_tree.specs.meaning.Tree.{Tree}
use Rattle.fast_dict.specs.meaning.Dictionary.{Dictionary}
use Rattle.fast_stream.specs.meaning.Events.{EventData, events}
use Rattle.fast_stream.specs.meaning.Phrases.{whole, Phrase, gives, hands, settles, ◌followed_by◌}
use Rattle.fast_stream.specs.meaning.Units
use Rattle.fast_stream.specs.meaning.Grammar.{Grammar, give, fault, hand, integer, ascii_text, raw, presence_map, narrow, phrase_of}
use Rattle.fast_stream.specs.meaning.Messages.{message_term, SpellsMessage}
use Rattle.fast_stream.proofs.readers.UnitReaders.{settled-whole}

-- What is the first phrase whole is the second one whole.
pub record Keeps {A : Type 0} (p q : Phrase A) : Type 0 where
  pub kept : (w : List ℕ) (es : List EventData) (a : A) → p w es (whole a) → q w es (whole a)

pub keeps-same : {A : Type 0} (p : Phrase A) → Keeps p p
keeps-same p = record { kept = λ w es a h. h }

pub keeps-bind : {A B : Type 0} {p q : Phrase A} {k m : A → Phrase B} → Keeps p q → ((a : A) → Keeps (k a) (m a)) → Keeps (p followed_by k) (q followed_by m)
unfolding ◌followed_by◌
keeps-bind h j = record { kept = λ w es b (u, v, fs, gs, a, i, k, d, e). (u, v, fs, gs, a, h.kept u fs a i, (j a).kept v gs b k, d, e) }

module _ (b : Bool) where
  pub keeps-integer : (range : Range) (nullable : Bool) (c : Code) → Keeps (Units.integer true range nullable c) (Units.integer b range nullable c)
  keeps-integer range nullable c = record {
    kept = λ w es o h. (
      record {
        form = record { entity = h.0.form.entity; short = h.0.form.short; shortest = λ t. h.0.form.shortest refl };
        meaning = h.0.meaning;
        fits = h.0.fits;
      },
      h.1,
    );
  }

  pub keeps-map : Keeps (Units.presence_map true) (Units.presence_map b)
  keeps-map = record { kept = λ w es m h. (record { entity = h.0.entity; short = h.0.short; shortest = λ t. h.0.shortest refl }, h.1, h.2) }

  pub keeps-width : (n : ℕ) (m : List ℕ) → Keeps (settles (Units.width_checked true n m)) (settles (Units.width_checked b n m))
  unfolding settles gives
  keeps-width n m = by b
    where
      by : (b : Bool) → Keeps (settles (Units.width_checked true n m)) (settles (Units.width_checked b n m))
      by true = keeps-same (settles (Units.width_checked true n m))
      by false = record { kept = λ w es a h. let k = settled-whole (Units.width_checked true n m) w es a h in (k.0, k.1, refl) }

-- What a term says in strict mode, it says in each mode.
pub keeps-grammar : {A : Type 0} (s : Bool) (g : Grammar A) → Keeps (phrase_of true g) (phrase_of s g)
keeps-grammar s (give a) = keeps-same (gives a)
keeps-grammar {A = A} s (fault c) = keeps-same (settles {A = A} (Err c))
keeps-grammar s (hand e g) = keeps-bind (keeps-same (hands e)) (λ _. keeps-grammar s g)
keeps-grammar s (integer range nullable c g) = keeps-bind (keeps-integer s range nullable c) (λ x. keeps-grammar s (g x))
keeps-grammar s (ascii_text nullable room g) = keeps-bind (keeps-same (Units.ascii_text nullable room)) (λ x. keeps-grammar s (g x))
keeps-grammar s (raw n g) = keeps-bind (keeps-same (Units.raw n)) (λ x. keeps-grammar s (g x))
keeps-grammar s (presence_map g) = keeps-bind (keeps-map s) (λ x. keeps-grammar s (g x))
keeps-grammar s (narrow n m g) = keeps-bind (keeps-width s n m) (λ _. keeps-grammar s g)

-- A message spelled in strict mode is spelled in each mode.
pub spelled-lenient : (t : Tree) (l : Limits) (d : Dictionary) (m : MessageData) (w : List ℕ) (d' : Dictionary)
    → SpellsMessage t (in_mode true l) d m w d' → SpellsMessage t l d m w d'
unfolding SpellsMessage
spelled-lenient t l d m w d' h = (keeps-grammar l.strict (message_term t (bounds l) d)).kept w (events t m) (m, d') h
