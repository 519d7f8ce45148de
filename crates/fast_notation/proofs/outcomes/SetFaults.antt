-- The faults of templates.
use Rattle.std.proofs.Common.{◌≡◌, ℕ, List, refl, take, slice_get, Some}
use Rattle.std.specs.Prelude.{All, IfSome}
use Rattle.fast_notation.specs.declared.codes.StaticCode.{StaticCode}
use Rattle.fast_notation.specs.declared.codes.StaticCode.TheVariants.{S1, S2, S3, S4, S5, D8, C1, C2, C3, C4, C5, C6, Memory}
use Rattle.fast_tree.specs.meaning.AsWritten.{DeclaredTemplate, Use, all_uses}
use Rattle.fast_notation.specs.device.Sound.{IsSound, HasFault}
use Rattle.fast_notation.specs.meaning.Faults.{IsFaultAt, fault_of}
use Rattle.fast_notation.specs.meaning.Firsts.{pass_of}

-- the fault of a template's uses
pub uses_fault : (ts : List DeclaredTemplate) (k : ℕ) (t : DeclaredTemplate) (code : StaticCode) → slice_get ts k ≡ Some t
    → HasFault code (all_uses t.fields) → IsFaultAt ts (fault_of code k).code (fault_of code k).template
uses_fault ts k t S2 found h = (t, found, h)
uses_fault ts k t S3 found h = (t, found, h)
uses_fault ts k t S4 found h = (t, found, h)
uses_fault ts k t S5 found h = (t, found, h)
uses_fault ts k t Memory found h = tt
uses_fault ts k t S1 found h = absurd h
uses_fault ts k t D8 found h = absurd h
uses_fault ts k t C1 found h = absurd h
uses_fault ts k t C2 found h = absurd h
uses_fault ts k t C3 found h = absurd h
uses_fault ts k t C4 found h = absurd h
uses_fault ts k t C5 found h = absurd h
uses_fault ts k t C6 found h = absurd h

-- before which all uses are sound
pub first_uses_fault : (ts : List DeclaredTemplate) (k : ℕ) (code : StaticCode) (us : List Use) → HasFault code us
    → All (λ t. All IsSound (all_uses t.fields)) (take k ts)
    → IfSome (fault_of code k).template (λ n. (pass_of (fault_of code k).code ≡ 3) × All (λ t. All IsSound (all_uses t.fields)) (take n ts))
first_uses_fault ts k S2 us h sound = (refl, sound)
first_uses_fault ts k S3 us h sound = (refl, sound)
first_uses_fault ts k S4 us h sound = (refl, sound)
first_uses_fault ts k S5 us h sound = (refl, sound)
first_uses_fault ts k Memory us h sound = tt
first_uses_fault ts k S1 us h sound = absurd h
first_uses_fault ts k D8 us h sound = absurd h
first_uses_fault ts k C1 us h sound = absurd h
first_uses_fault ts k C2 us h sound = absurd h
first_uses_fault ts k C3 us h sound = absurd h
first_uses_fault ts k C4 us h sound = absurd h
first_uses_fault ts k C5 us h sound = absurd h
first_uses_fault ts k C6 us h sound = absurd h
