-- How far a run of show --bytes has come.
use Rattle.std.specs.Prelude.{◌≡◌, ◌⊎◌, ℕ, All, Bool, IsTrue, List, [], ◌++◌, Option, Some, None, Result, Ok, Err}
use Rattle.fast_value.specs.declared.settings.Limits.{Limits}
use Rattle.fast_tree.specs.meaning.Tree.{Tree}
use Rattle.fast_stream.specs.declared.faults.Fault.{Fault}
use Rattle.fast_stream.specs.declared.faults.FaultCode.{FaultCode}
use Rattle.fast_stream.specs.declared.faults.FaultCode.TheVariants as Why
use Rattle.fast_stream.specs.meaning.Events.{EventData}
use Rattle.fast_decoder.specs.meaning.Decoding.{HasRead, tree}
use Rattle.fast_lines.specs.meaning.Lines.{lines}
use Rattle.fast_lines.specs.meaning.Values.{HoldsBytes}
use Rattle.fast_text.specs.declared.streams.Failed.{Failed}
use Rattle.fast_text.specs.meaning.Streams.{Appends}
use Rattle.fast_rows.specs.meaning.Written.{AreWritten}
use Rattle.fast_command.specs.declared.faults.ShowEnd.{ShowEnd}
use Rattle.fast_command.specs.declared.faults.ShowEnd.TheVariants.{Good, Faulted, Truncated}
use Rattle.fast_command.specs.declared.faults.RunFault.{RunFault}
use Rattle.fast_command.specs.declared.faults.RunFault.TheVariants.{Read, Write, BadHex, Templates as Refused, Make, Text, Encode, Memory}
use Rattle.fast_command.specs.meaning.Closing.{fault_line}
use Rattle.fast_dump.specs.declared.dump.Dump.{Dump}
use Rattle.fast_dump.specs.declared.page.Page.{Page}
use Rattle.fast_dump.specs.meaning.Pages.{IsPage, Closes}
use Rattle.fast_dump.specs.meaning.Dumping.{IsAtFault, IsCut}

-- What a target held at first, and whether it had failed.
pub record Start : Type 0 where
  pub held : Option (List ℕ)
  pub had_failed : Bool

-- The run has read the bytes, and these gave the events, whose rows are on the page. There was no fault.
pub record Progress {T : Type 0} (written : T → Option (List ℕ)) (failed : T → Bool) (first : Start) (t : Tree) (l : Limits) (s : Dump T)
    (b : List ℕ) (es : List EventData) : Type 0 where
  pub set : tree s.decoder ≡ t
  pub limits : s.decoder.limits ≡ l
  pub so : HasRead s.decoder b es
  pub holds : All HoldsBytes es
  pub good : s.decoder.fault ≡ None
  pub page : IsPage written failed first.held first.had_failed t s.page b (lines t es)

-- rows that were written since the start
abbrev pub Rows : {T : Type 0} → (T → Option (List ℕ)) → (T → Bool) → Start → Tree → T → List ℕ → List ℕ → Result (Unit {0}) Failed → Type 0
Rows written failed first t target b ls r = AreWritten t 0 b ls first.held (written target) first.had_failed (failed target) r

-- how a run ends inside a piece
abbrev pub EndsIn : Tree → Limits → (List ℕ → List ℕ → Result (Unit {0}) Failed → Type 0) → List ℕ → Result ShowEnd RunFault → Type 0
EndsIn t l W b (Ok (Faulted f)) = IsAtFault t l W b f
EndsIn t l W b (Ok Good) = ⊥
EndsIn t l W b (Ok (Truncated n)) = ⊥
EndsIn t l W b (Err Write) = IsCut t l W b
EndsIn t l W b (Err Read) = ⊥
EndsIn t l W b (Err (BadHex n)) = ⊥
EndsIn t l W b (Err (Refused fault)) = ⊥
EndsIn t l W b (Err (Make cause)) = ⊥
EndsIn t l W b (Err (Text line kind)) = ⊥
EndsIn t l W b (Err (Encode message fault)) = ⊥
EndsIn t l W b (Err Memory) = ⊥

-- what becomes of a run by more bytes
abbrev pub Goes : {T : Type 0} → (T → Option (List ℕ)) → (T → Bool) → Start → Tree → Limits → List ℕ → List EventData → Dump T
    → Option (Result ShowEnd RunFault) → Type 0
Goes written failed first t l b es s None = (more : List EventData) × Progress written failed first t l s b (es ++ more)
Goes written failed first t l b es s (Some r) = EndsIn t l (Rows written failed first t s.page.target) b r

-- all rows were written, and the run has this ending; or a front of them, and it ends with that
abbrev pub IsStopped : {T : Type 0} → (T → Option (List ℕ)) → (T → Bool) → Start → Tree → List ℕ → List EventData → Page T
    → Result ShowEnd RunFault → Result ShowEnd RunFault → Type 0
IsStopped written failed first t b es p ending r =
    (r ≡ ending) × Rows written failed first t p.target b (lines t es) (Ok tt)
    ⊎ (r ≡ Err Write) × ((why : Failed) × Rows written failed first t p.target b (lines t es) (Err why))

-- what the fault of a feed leads to
abbrev pub ClosesAt : {T : Type 0} → (T → Option (List ℕ)) → (T → Bool) → Fault → FaultCode → Page T → Page T → Result ShowEnd RunFault → Type 0
ClosesAt written failed f Why.SinkStopped old new r = (r ≡ Err Write) × (new ≡ old)
ClosesAt written failed f code old new r =
    (r ≡ Ok (Faulted f)) × Closes written failed old (fault_line f.code f.place) new (Ok tt)
    ⊎ (r ≡ Err Write) × ((why : Failed) × Closes written failed old (fault_line f.code f.place) new (Err why))

-- a target as it is now
abbrev pub start_at : {T : Type 0} → (T → Option (List ℕ)) → (T → Bool) → T → Start
start_at written failed target = record { held = written target; had_failed = failed target }

-- a target was flushed at the end of a run
abbrev pub IsFinished : Option (List ℕ) → Option (List ℕ) → Bool → Bool → Result ShowEnd RunFault → Result ShowEnd RunFault → Type 0
IsFinished held holds had has ending r = Appends held holds [] × ((r ≡ ending) × (has ≡ had) ⊎ (r ≡ Err Write) × Failed × IsTrue has)
