-- Readers whose input is kept or looked at.
use Rattle.fast_explain_lines.specs.declared.stored.Stored.{Stored}
use Rattle.fast_explain_lines.specs.declared.digits.Digits.{Digits}

-- the reader whose lines are stored
abbrev pub stored_of : {S : Type 0} → Stored S → S
stored_of s = s.inner

-- the reader whose digits are looked at
abbrev pub inner_of : {S : Type 0} → Digits S → S
inner_of s = s.inner
