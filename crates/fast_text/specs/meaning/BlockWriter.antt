-- What a writer of blocks keeps, and what it writes to.
use Rattle.std.specs.Prelude.{ℕ, List, Option, take, drop}
use Rattle.std.specs.Io.KnownBytes.{append_known}
use Rattle.fast_text.specs.declared.block_writer.BlockWriter.{BlockWriter}

-- the target that what is kept is handed on to
abbrev pub target_of : {T : Type 0} → BlockWriter T → T
target_of s = s.inner

-- what is kept
abbrev pub kept_of : {T : Type 0} → BlockWriter T → List ℕ
kept_of s = drop s.start (take s.end s.cells)

-- what the target has, and what is kept behind it
abbrev pub with_kept : {T : Type 0} → (T → Option (List ℕ)) → BlockWriter T → Option (List ℕ)
with_kept written s = append_known (written (target_of s)) (kept_of s)
