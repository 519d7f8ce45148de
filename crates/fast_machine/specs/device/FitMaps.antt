-- Presence maps that strict mode accepts.
use Rattle.std.specs.Prelude.{◌≡◌, ℕ, Bool, false, ◌&&◌, not, nat_le, List, length}
use Rattle.fast_wire.specs.meaning.Maps.{bytes_for}
use Rattle.fast_stream.specs.device.GrammarReaders.{spare}

-- A map of a segment whose instructions use this number of bits is not refused: not overlong, nor too wide.
pub record IsFitMap (strict : Bool) (bits : ℕ) (map : List ℕ) : Type 0 where
  pub spared : (strict && spare map) ≡ false
  pub fits : (strict && not (nat_le (length map) (bytes_for bits))) ≡ false
