-- The start of a sink, with what waited in its buffers.
use Rattle.std.specs.Prelude.{◌≡◌, ℕ, ◌≤◌, List, length}
use Rattle.fast_records.specs.declared.records.Record.{Record}
use Rattle.fast_records.specs.declared.sink.RecordSink.{RecordSink}
use Rattle.fast_records.specs.declared.starting.Filled.{Filled}
use Rattle.fast_records.specs.declared.waiting.Waiting.{Waiting}

-- No more is filled than there is.
pub record IsWithin (start : Filled) (records : List Record) (texts : List ℕ) : Type 0 where
  pub filled : start.records ≤ start.limit
  pub limit : start.limit ≤ length records
  pub used : start.texts ≤ length texts

-- The sink is over these buffers, filled so far, and over what still waits.
pub record IsStarted (start : Filled) (records : List Record) (texts : List ℕ) (waiting : Waiting) (s : RecordSink) : Type 0 where
  pub same_records : s.records.now ≡ records
  pub same_texts : s.texts.now ≡ texts
  pub same_waiting : s.waiting.now ≡ waiting
  pub filled : s.filled ≡ start.records
  pub limit : s.limit ≡ start.limit
  pub used : s.used ≡ start.texts
