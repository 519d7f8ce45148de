-- Limits, which are those of the Rust struct.
use Rattle.std.specs.Prelude.{ℕ, Bool, false}
use Rattle.fast_value.specs.declared.settings.Limits.{Limits}

-- the limits that apply if no others are given
abbrev pub default_limits : Limits
default_limits = record { strict = false; max_text = 1024; max_elements = 1000; max_total = 1000 }

-- the same limits in a mode
abbrev pub in_mode : Bool → Limits → Limits
in_mode b l = record l { strict = b }

-- The limits without their mode. The grammar of messages depends on no more than this.
pub record Bounds : Type 0 where
  pub max_text : ℕ
  pub max_elements : ℕ
  pub max_total : ℕ

-- the limits without their mode
abbrev pub bounds : Limits → Bounds
bounds l = record { max_text = l.max_text; max_elements = l.max_elements; max_total = l.max_total }
