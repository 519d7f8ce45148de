-- Readers that are listened to.
use Rattle.fast_explain.specs.declared.tails.Kept.{Kept}

-- the reader whose bytes are kept
abbrev pub reader_of : {S : Type 0} → Kept S → S
reader_of s = s.inner
