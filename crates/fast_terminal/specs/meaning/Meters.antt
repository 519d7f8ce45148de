-- How far an input has been read.
use Rattle.std.specs.Prelude.{ℕ, ◌+◌, ◌-◌, ◌^◌, min, Bool, true, false}
use Rattle.fast_terminal.specs.declared.meters.Meter.{Meter}

-- after more bytes
abbrev pub after_bytes : Meter → ℕ → Meter
after_bytes m n = record m { read = min (m.read + n) (2 ^ 64 - 1) }

-- after the count was to be shown, or not
abbrev pub after_draw : Bool → ℕ → Meter → Meter
after_draw true now m = record m { shown = now }
after_draw false now m = m
