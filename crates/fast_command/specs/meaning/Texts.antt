-- Texts that are read whole.
use Rattle.std.specs.Prelude.{◌⊎◌, ℕ, ◌<◌, List, length, Option}
use Rattle.fast_text.specs.meaning.Streams.{Reads}
use Rattle.fast_command.specs.declared.faults.RunFault.{RunFault}
use Rattle.fast_command.specs.declared.faults.RunFault.TheVariants.{Read, Memory}

-- the most bytes of the text of a set
abbrev pub text_limit : ℕ
text_limit = 16777216

-- Why a text was not read: there was no memory, the reader has failed, or the text is longer than the limit.
abbrev pub IsUnread : (limit : ℕ) → (left_old left_new : Option (List ℕ)) → (HasFailed : Type 0) → RunFault → Type 0
IsUnread limit left_old left_new HasFailed Memory = Unit {0}
IsUnread limit left_old left_new HasFailed Read = HasFailed ⊎ ((text : List ℕ) × Reads left_old left_new text × (limit < length text))
IsUnread limit left_old left_new HasFailed fault = ⊥
