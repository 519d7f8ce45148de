-- All characters are ASCII, or one is not.
use Rattle.std.proofs.Common.{◌<◌, ℕ, List, All, refl, arith}
use Rattle.std.specs.Prelude.{Bool, true, false, IsTrue}
use Rattle.std.specs.Bool.{MatchBool}
use Rattle.std.specs.Str.{IsAscii, IsNotAscii}
use Rattle.std.proofs.lemmas.Str.Ascii.{IsAscii-from_all, All-from_ascii}
use Rattle.fast_spelling.proofs.suiting.is_long_ascii.Goals as goal

told : (b : Bool) (t : List ℕ) → MatchBool b (IsAscii t) (IsNotAscii t) → (IsTrue b → All (λ c. c < 128) t) × (All (λ c. c < 128) t → IsTrue b)
told true t h = (λ e. All-from_ascii t h, λ all. refl)
told false t (i, far) = (λ e. absurd (cc e), λ all. let near = IsAscii-from_all t all i in absurd (omega (arith, near, far)))

pub returns : goal.returns
returns c = told c.is_ascii.result c.args.text.now c.is_ascii.ensures.cases
