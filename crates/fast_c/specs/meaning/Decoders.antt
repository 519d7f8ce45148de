-- What the functions of include/fast.h do that decode. A decoder behind a handle changes too: these tell of the one that there is then, and
-- not of the pointer, since no clause says what is behind a pointer that is handed out.
use Rattle.std.specs.Prelude.{◌≡◌, ℕ, ◌≤◌, ◌==◌, ◌&&◌, if◌then◌else◌, nat_lt, Bool, true, false, List, [], length, take}
use Rattle.std.specs.Int.{from_bool}
use Rattle.fast_value.specs.declared.settings.Limits.{Limits}
use Rattle.fast_template.specs.declared.sets.Templates.{Templates}
use Rattle.fast_template.specs.meaning.Flat.{tree_of}
use Rattle.fast_stream.specs.meaning.Events.{EventData}
use Rattle.fast_decoder.specs.meaning.Decoding.{HasRead, tree, account, answer}
use Rattle.fast_records.specs.declared.records.Record.{Record}
use Rattle.fast_records.specs.declared.status.Status.TheVariants as To
use Rattle.fast_records.specs.meaning.Waiting.{pending}
use Rattle.fast_records.specs.meaning.Feeding.{Delivers, outcome_of}
use Rattle.fast_records.specs.meaning.Status.{status_number, ended}
use Rattle.fast_c.specs.declared.decoding.Decoding.{Decoding}
use Rattle.fast_c.specs.declared.decoding.FastFed.{FastFed}
use Rattle.fast_c.specs.declared.decoding.FastDue.{FastDue}
use Rattle.fast_machine.specs.declared.in_hand.Due.{Due}
use Rattle.fast_machine.specs.declared.in_hand.Due.TheVariants.{Nothing, SegmentMap, Instruction}
use Rattle.fast_c.specs.meaning.Opening.{CanBeMade}

-- A new decoder of the set, with these limits: no byte has led to it, and nothing waits.
pub record IsMade (t : Templates) (l : Limits) (new : Decoding) : Type 0 where
  pub can : CanBeMade t l
  pub read : HasRead new.decoder [] []
  pub nothing_waits : pending new.waiting ≡ []
  pub whole : new.is_cut ≡ false
  pub its_set : tree new.decoder ≡ tree_of t
  pub its_limits : new.decoder.limits ≡ l

-- The decoder is as it was made: no byte has led to it, and nothing waits. It has the set and the limits that it had.
pub record IsReset (old new : Decoding) : Type 0 where
  pub read : HasRead new.decoder [] []
  pub nothing_waits : pending new.waiting ≡ []
  pub whole : new.is_cut ≡ false
  pub same_set : tree new.decoder ≡ tree old.decoder
  pub same_limits : new.decoder.limits ≡ old.decoder.limits

-- What a feed writes, of a decoder to which these bytes have led: the records and texts in front of both buffers are those that `feed_records`
-- gives, and the status is that of its end.
pub record IsFed (old : Decoding) (w : List ℕ) (es : List EventData) (piece : List ℕ) (records : List Record) (texts : List ℕ)
    (fed : FastFed) (new : Decoding) : Type 0 where
  pub delivers : Delivers (tree old.decoder) old.decoder.limits w es piece (pending old.waiting) new.decoder (take fed.records records)
      (take fed.texts texts) (pending new.waiting)
  pub room : (fed.records ≤ length records) × (fed.texts ≤ length texts)
  pub status : fed.status ≡ status_number (ended (outcome_of (nat_lt 0 (length (pending new.waiting))) (answer new.decoder.fault)
      (fed.taken == length piece) (fed.taken == 0 && fed.records == 0)))

-- what is answered behind a packet that was cut, of a decoder that has consumed so many bytes
abbrev pub cut_fed : ℕ → FastFed
cut_fed consumed = record { taken = 0; records = 0; texts = 0; consumed = consumed; between = 0; status = status_number To.Truncated }

-- A feed of a decoder. Behind a packet that was cut nothing is taken and nothing changes.
pub record Feeds (old : Decoding) (piece : List ℕ) (records : List Record) (texts : List ℕ) (fed : FastFed) (new : Decoding) : Type 0 where
  pub whole : old.is_cut ≡ false → (w : List ℕ) (es : List EventData) → HasRead old.decoder w es → IsFed old w es piece records texts fed new
  pub cut : old.is_cut ≡ true → (fed ≡ cut_fed old.decoder.consumed) × (new ≡ old)
  pub stays : new.is_cut ≡ old.is_cut
  pub taken : fed.taken ≤ length piece
  pub consumed : fed.consumed ≡ new.decoder.consumed
  pub between : old.is_cut ≡ false → fed.between ≡ from_bool (account new.decoder).is_between

-- Whether all bytes were taken and nothing waits, inside a message.
abbrev pub ends_inside : FastFed → Bool
ends_inside fed = fed.status == status_number To.Done && fed.between == 0

-- the same, called cut
abbrev pub told_cut : FastFed → FastFed
told_cut fed = record {
  taken = fed.taken;
  records = fed.records;
  texts = fed.texts;
  consumed = fed.consumed;
  between = fed.between;
  status = status_number To.Truncated;
}

abbrev pub cut_off : Decoding → Decoding
cut_off d = record { decoder = d.decoder; waiting = d.waiting; is_cut = true }

-- the decoder that a packet is fed to: one that was reset, or the one that there is
abbrev pub Starts : Bool → Decoding → Decoding → Type 0
Starts true old start = IsReset old start
Starts false old start = start ≡ old

-- A packet is fed as its bytes are, but for a packet that ends inside a message: that is told, and the decoder is cut off.
pub record FeedsPacket (is_reset : Bool) (old : Decoding) (packet : List ℕ) (records : List Record) (texts : List ℕ) (fed : FastFed)
    (new : Decoding) : Type 0 where
  pub start : Decoding
  pub starts : Starts is_reset old start
  pub bytes : FastFed
  pub next : Decoding
  pub feeds : Feeds start packet records texts bytes next
  pub told : fed ≡ (if ends_inside bytes then told_cut bytes else bytes)
  pub left : new ≡ (if ends_inside bytes then cut_off next else next)

-- the part of a stream that a decoder waits for, as C reads it
abbrev pub due_info : Due → FastDue
due_info Nothing = record { what = 0; node = 0 }
due_info SegmentMap = record { what = 1; node = 0 }
due_info (Instruction n) = record { what = 2; node = n }
