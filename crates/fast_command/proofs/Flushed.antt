-- A last flush that fails, behind a run that had a decoder.
use Rattle.std.proofs.Common.{◌≡◌, ℕ, List, [], ◌++◌, length, Bool, true, Some, None, Result, Ok, Err, inr, refl, ap, sym, ◌∙◌, append-nil}
use Rattle.std.proofs.lemmas.Bool.{false≢true}
use Rattle.fast_value.specs.declared.settings.Limits.{Limits}
use Rattle.fast_tree.specs.meaning.Tree.{Tree}
use Rattle.fast_stream.specs.declared.faults.FaultCode.{FaultCode}
use Rattle.fast_stream.specs.declared.faults.FaultCode.TheVariants as Why
use Rattle.fast_stream.specs.declared.faults.MakeError.{MakeError}
use Rattle.fast_stream.specs.meaning.Streams.{between, inside, faulted}
use Rattle.fast_lines.specs.meaning.Lines.{lines}
use Rattle.fast_command.specs.declared.faults.ShowEnd.{ShowEnd}
use Rattle.fast_command.specs.declared.faults.ShowEnd.TheVariants.{Good, Faulted, Truncated}
use Rattle.fast_command.specs.declared.faults.RunFault.{RunFault}
use Rattle.fast_command.specs.declared.faults.RunFault.TheVariants.{Read, Write, BadHex, Templates as Refused, Make, Text, Encode, Memory}
use Rattle.fast_command.specs.meaning.Closing.{fault_line, truncated_line}
use Rattle.fast_command.specs.meaning.Showing.{IsShown, has_begun}
use Rattle.fast_command.proofs.Progressing.{some_closing}

-- Whatever the run answered, some of what it was to write may be lost where the flush behind it fails.
pub unflushed : (t : Tree) (l : Limits) (hex : Bool) (R : MakeError → Type 0) (AtEnd ReadsNoMore Failed HasFailed : Type 0)
    (text out : List ℕ) (r : Result ShowEnd RunFault)
    → has_begun r ≡ true → HasFailed → IsShown t l hex R AtEnd ReadsNoMore Failed text out r
    → IsShown t l hex R AtEnd ReadsNoMore HasFailed text out (Err Write)
unflushed t l hex R AtEnd ReadsNoMore Failed HasFailed text out (Ok Good) begun failed h =
    (None, h.0, h.1, between, [], [], h.2.bytes, h.2.stream, refl, ap (λ (o : List ℕ). o ++ []) (sym h.3), failed)
unflushed t l hex R AtEnd ReadsNoMore Failed HasFailed text out (Ok (Faulted f)) begun failed h = (
  h.0,
  h.1,
  h.2,
  faulted h.3 f.place,
  fault_line (Why.Stream h.3) f.place,
  [],
  h.4.bytes,
  h.4.stream,
  refl,
  sym (append-nil out ∙ h.6 ∙ ap (λ (k : FaultCode). lines t h.2 ++ fault_line k f.place) h.5),
  failed,
)
unflushed t l hex R AtEnd ReadsNoMore Failed HasFailed text out (Ok (Truncated n)) begun failed h = (
  None,
  h.0,
  h.1,
  inside,
  truncated_line (length h.0),
  [],
  h.2.bytes,
  h.2.stream,
  inr (refl, refl, h.5),
  sym (append-nil out ∙ h.4 ∙ ap (λ (k : ℕ). lines t h.1 ++ truncated_line k) h.3),
  failed,
)
unflushed t l hex R AtEnd ReadsNoMore Failed HasFailed text out (Err Read) begun failed h =
    let line = some_closing AtEnd h.0 h.1 h.3 in
    (h.0, h.1, h.2, h.3, line.0, line.0, h.4.bytes, h.4.stream, line.1, ap (λ (o : List ℕ). o ++ line.0) (sym h.6), failed)
unflushed t l hex R AtEnd ReadsNoMore Failed HasFailed text out (Err Write) begun failed h =
    (h.0, h.1, h.2, h.3, h.4, h.5, h.6, h.7, h.8, h.9, failed)
unflushed t l hex R AtEnd ReadsNoMore Failed HasFailed text out (Err (BadHex n)) begun failed h =
    let line = some_closing AtEnd (Some n) h.0 h.2 in
    (Some n, h.0, h.1, h.2, line.0, line.0, h.3.bytes, h.3.stream, line.1, ap (λ (o : List ℕ). o ++ line.0) (sym h.5), failed)
unflushed t l hex R AtEnd ReadsNoMore Failed HasFailed text out (Err (Refused fault)) begun failed h = absurd h
unflushed t l hex R AtEnd ReadsNoMore Failed HasFailed text out (Err (Text line kind)) begun failed h = absurd h
unflushed t l hex R AtEnd ReadsNoMore Failed HasFailed text out (Err (Encode message fault)) begun failed h = absurd h
unflushed t l hex R AtEnd ReadsNoMore Failed HasFailed text out (Err (Make cause)) begun failed h = absurd (cc)
unflushed t l hex R AtEnd ReadsNoMore Failed HasFailed text out (Err Memory) begun failed h = absurd (cc)

-- A run that had a decoder does not say that there is none.
pub had_begun : (r : Result ShowEnd RunFault) (cause : MakeError) → has_begun r ≡ true → r ≡ Err (Make cause) → ⊥
had_begun r cause begun is = false≢true (sym (ap has_begun is) ∙ begun)
