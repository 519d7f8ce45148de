-- The op at a place.
use Rattle.std.proofs.Common.{refl, sym, ◌∙◌, subst, inl, inr}
use Rattle.std.specs.Prelude.{◌≡◌, ◌⊎◌, ℕ, zero, suc, ◌<◌, ◌≤◌, false, List, [], ◌∷◌, length, drop, slice_get, get_or, Some, None}
use Rattle.std.proofs.lemmas.Option.{slice_get_cases}
use Rattle.fast_program.specs.declared.codes.Code.{Code}
use Rattle.fast_program.specs.declared.ops.Op.{Op}
use Rattle.fast_program.specs.device.Runs.{is_end}
use Rattle.fast_program.specs.device.Codes.{says}
use Rattle.fast_cursor.specs.declared.place.Place.{Place}
use Rattle.fast_machine.specs.device.Positions.{Set}
use Rattle.fast_loop.specs.device.Arms.{IsArmOp}

-- The op that is read is an arm's, by the code that the loop has of it.
pub arm_op : {set : Set} {p : Place} {op : Op} {code k : Code} → ((o : Op) → slice_get p.ahead.now 0 ≡ Some o → code ≡ o.code)
    → slice_get p.ahead.now 0 ≡ Some op → (is_end op.code ≡ false → IsArmOp set p op (says op.code)) → code ≡ k → is_end k ≡ false
    → IsArmOp set p op (says k)
arm_op {set} {p} {op} known here told is = subst (λ (k : Code). is_end k ≡ false → IsArmOp set p op (says k)) (sym (known op here) ∙ is) told

-- An element that is there.
pub found_below : {A : Type 0} (ns : List A) (n : ℕ) (x : A) → slice_get ns n ≡ Some x → n < length ns
found_below {A} ns n x found = by (slice_get_cases ns n).1
  where
    by : ((y : A) × (n < length ns) × (slice_get ns n ≡ Some y) × (get_or ns n y ≡ y)) ⊎ ((length ns ≤ n) × (slice_get ns n ≡ None)) → n < length ns
    by (inl (y, below, is, same)) = below
    by (inr (past, none)) = absurd (let never : Some x ≡ None = sym found ∙ none in cc never)

-- what is ahead of a place begins with the op at it
pub get_behind : (ops : List Op) (n : ℕ) → slice_get (drop n ops) 0 ≡ slice_get ops n
get_behind ops zero = refl
get_behind [] (suc n) = refl
get_behind (op ∷ ops) (suc n) = get_behind ops n
