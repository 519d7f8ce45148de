-- What the functions of include/fast.h write and answer that encode.
use Rattle.std.specs.Prelude.{◌≡◌, ℕ, min, List, [], length, drop, Result, Ok, Err, OnOk, OnErr, IfErr}
use Rattle.fast_value.specs.declared.settings.Limits.{Limits}
use Rattle.fast_template.specs.declared.sets.Templates.{Templates}
use Rattle.fast_template.specs.meaning.Flat.{tree_of}
use Rattle.fast_dict.specs.meaning.Dictionary.{fresh}
use Rattle.fast_encoder.specs.meaning.Encoders.{tree}
use Rattle.fast_records.specs.declared.records.Record.{Record}
use Rattle.fast_records.specs.declared.encoding.PutRefusal.{PutRefusal}
use Rattle.fast_records.specs.declared.encoding.PutRefusal.TheVariants as Why
use Rattle.fast_records.specs.declared.putting.PutFault.TheVariants as Put
use Rattle.fast_records.specs.declared.status.Status.{Status}
use Rattle.fast_records.specs.declared.status.Status.TheVariants as To
use Rattle.fast_records.specs.meaning.Putting.{IsPut, IsToldOfPut}
use Rattle.fast_records.specs.meaning.Status.{status_number, refused}
use Rattle.fast_c.specs.declared.encoding.Encoding.{Encoding}
use Rattle.fast_c.specs.declared.encoding.FastPut.{FastPut}
use Rattle.fast_c.specs.meaning.Opening.{CanBeMade}
use Rattle.fast_c.specs.meaning.Written.{with_front}

-- the status of what became of records, and the record that it names
abbrev pub status_of : Result Unit PutRefusal → Status
status_of (Ok u) = To.Done
status_of (Err r) = refused r

abbrev pub misplaced : Result Unit PutRefusal → ℕ
misplaced (Ok u) = 0
misplaced (Err (Why.Records (Put.Misplaced n))) = n
misplaced (Err (Why.Records Put.Memory)) = 0
misplaced (Err (Why.Message f)) = 0

-- A new encoder of the set, with these limits: its dictionary is empty, and no bytes wait.
pub record IsNewEncoding (t : Templates) (l : Limits) (new : Encoding) : Type 0 where
  pub can : CanBeMade t l
  pub its_set : tree new.encoder ≡ tree_of t
  pub its_limits : new.encoder.limits ≡ l
  pub fresh : new.encoder.dictionary ≡ fresh (tree_of t).entries
  pub nothing_waits : new.bytes.items ≡ []

-- The encoder is as it was made: its dictionary is empty, and no bytes wait. It has the set and the limits that it had.
pub record IsResetEncoding (old new : Encoding) : Type 0 where
  pub fresh : new.encoder.dictionary ≡ fresh (tree old.encoder).entries
  pub nothing_waits : new.bytes.items ≡ []
  pub same_set : new.encoder.set ≡ old.encoder.set
  pub same_limits : new.encoder.limits ≡ old.encoder.limits

-- What a put writes: how `put_records` ended, as its status, and how many bytes wait.
pub record HasCome (old : Encoding) (records : List Record) (texts : List ℕ) (came : FastPut) (new : Encoding) : Type 0 where
  pub result : Result Unit PutRefusal
  pub ok : OnOk result (IsPut (tree old.encoder) old.encoder records texts old.bytes.items new.encoder new.bytes.items)
  pub err : IfErr result (IsToldOfPut (tree old.encoder) old.encoder records texts)
  pub unchanged : OnErr result ((new.encoder ≡ old.encoder) × (new.bytes.items ≡ old.bytes.items))
  pub same_set : new.encoder.set ≡ old.encoder.set
  pub same_limits : new.encoder.limits ≡ old.encoder.limits
  pub status : came.status ≡ status_number (status_of result)
  pub record_is : came.record ≡ misplaced result
  pub waiting : came.waiting ≡ length new.bytes.items

-- The first bytes that wait are written, as many as have room, and so many are told. The others wait on.
pub record IsTaken (old : Encoding) (before out : List ℕ) (count : ℕ) (new : Encoding) : Type 0 where
  pub many : count ≡ min (length old.bytes.items) (length before)
  pub written : out ≡ with_front old.bytes.items before
  pub wait_on : new.bytes.items ≡ drop count old.bytes.items
  pub same : new.encoder ≡ old.encoder
