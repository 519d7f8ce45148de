-- That there was no memory left is told of any text.
use Rattle.std.proofs.Common.{◌≡◌, ℕ, None, inl}
use Rattle.std.specs.Prelude.{Option}
use Rattle.toml.specs.Data.{Members}
use Rattle.fast_notation.specs.declared.codes.StaticCode.{StaticCode}
use Rattle.fast_notation.specs.declared.codes.StaticCode.TheVariants.{Memory}
use Rattle.fast_notation.specs.meaning.Firsts.{IsFirstFault}
use Rattle.fast_notation.specs.meaning.FivePasses.{IsAtFault}

pub memory_fault : (read : Option Members) (code : StaticCode) (template : Option ℕ) → code ≡ Memory → template ≡ None → IsAtFault read code template
memory_fault read code template is none = rw (is, none) (inl tt)

pub memory_first : (read : Option Members) (code : StaticCode) (template : Option ℕ) → template ≡ None → IsFirstFault read code template
memory_first read code template none = rw (none) ((λ document ts at w. tt), λ unread. tt)
