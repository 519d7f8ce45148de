-- The memory of a decoder, and the account that it gives of its position.
use Rattle.std.specs.Prelude.{◌≡◌, ℕ, ◌+◌, List, length, Bool, true, false, Option, Some, None}
use Rattle.fast_value.specs.declared.settings.Limits.{Limits}
use Rattle.fast_tree.specs.meaning.Tree.{Tree}
use Rattle.fast_stream.specs.meaning.Events.{EventData}
use Rattle.fast_stream.specs.declared.faults.Fault.{Fault}
use Rattle.fast_stream.specs.declared.faults.FaultCode.TheVariants as Why
use Rattle.fast_stream.specs.meaning.Streams.{End, between, inside, faulted, Stream}

-- The memory of a decoder, counted: buffered bytes and those of the dictionary, entries, frames, bytes of maps.
pub record Stored : Type 0 where
  pub scratch : ℕ
  pub texts : ℕ
  pub entries : ℕ
  pub frames : ℕ
  pub maps : ℕ

-- the sum of the memory
abbrev pub held : Stored → ℕ
held s = s.scratch + s.texts + s.entries + s.frames + s.maps

-- the account that a decoder gives of itself by its calls
pub record Account : Type 0 where
  pub is_between : Bool
  pub fault : Option Fault
  pub consumed : ℕ

-- the account at the end of a stream
abbrev pub account_at : List ℕ → End → Account
account_at w between = record { is_between = true; fault = None; consumed = length w }
account_at w inside = record { is_between = false; fault = None; consumed = length w }
account_at w (faulted c place) = record { is_between = false; fault = Some (record { code = Why.Stream c; place = place }); consumed = place }

-- The stream that a decoder has read and its account agree. A decoder's own relation `HasRead decoder w es` must imply this of its account.
abbrev pub TellsStream : Tree → Limits → List ℕ → List EventData → Account → Type 0
TellsStream t l w es account = (e : End) × Stream t l w es e × (account ≡ account_at w e)
