-- A reader or a writer of std that is watched.
use Rattle.std.specs.Prelude.{Bool}
use Rattle.fast_text.specs.declared.streams.Watched.{Watched}

-- the reader or writer that is watched
abbrev pub inner_of : {T : Type 0} → Watched T → T
inner_of s = s.inner

-- a call has failed
abbrev pub has_call_failed : {T : Type 0} → Watched T → Bool
has_call_failed s = s.broken
