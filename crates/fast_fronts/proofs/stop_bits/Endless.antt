-- No stop within ten bytes.
use Rattle.std.proofs.Common.{◌≡◌, ℕ, ◌<◌, ◌≤◌, inl, List, refl, sym, subst, length, take, arith}
use Rattle.std.specs.Prelude.{ℤ, Bool, true, false, Option, nat_lt, if◌then◌else◌}
use Rattle.std.proofs.lemmas.List.{take_all, length-take-le}
use Rattle.std.proofs.lemmas.Bool.Decides.{nat_tests}
use Rattle.fast_wire.specs.meaning.Entities.{HaveNoStop}
use Rattle.fast_wire.specs.meaning.Integers.{Range}
use Rattle.fast_fronts.specs.device.Fronts.{IsFirstInt}
use Rattle.fast_wire.specs.declared.reads.WireFault.TheVariants.{D2}
use Rattle.fast_fronts.specs.declared.fronts.First.{First}
use Rattle.fast_fronts.specs.declared.fronts.First.TheVariants.{Wrong, Cut}

by_length : {T : Type 0} (meant : T → Option ℤ) (strict : Bool) (range : Range) (nullable : Bool) (bytes : List ℕ) (b : Bool)
    → nat_lt (length bytes) 10 ≡ b → HaveNoStop (take 10 bytes)
    → IsFirstInt meant strict range nullable (if b then Cut else Wrong D2 10) bytes
by_length meant strict range nullable bytes true e none =
    let few : length bytes < 10 = grind (arith, nat_tests) in
    (subst HaveNoStop (take_all 10 bytes (omega arith)) none, few)
by_length meant strict range nullable bytes false e none =
    let many : 10 ≤ length bytes = grind (arith, nat_tests) in
    (many, inl (none, length-take-le 10 bytes many))

pub no_end : {T : Type 0} (meant : T → Option ℤ) (strict : Bool) (range : Range) (nullable : Bool) (bytes : List ℕ) (r : First T)
    → HaveNoStop (take 10 bytes) → r ≡ (if nat_lt (length bytes) 10 then Cut else Wrong D2 10)
    → IsFirstInt meant strict range nullable r bytes
no_end meant strict range nullable bytes r none e = subst (λ f. IsFirstInt meant strict range nullable f bytes) (sym e)
    (by_length meant strict range nullable bytes (nat_lt (length bytes) 10) refl none)
