-- What the steps of reading come to, one by one: a test, a value, and a fault that goes on.
use Rattle.std.proofs.Common.{◌≡◌, ap, sym, subst, ◌∙◌, Bool, true, false, Option, Some, None, Ok, Err}
use Rattle.std.specs.Prelude.{if◌then◌else◌, Result, IsErrAnd, IfOk, IfErr}
use Rattle.fast_notation.specs.declared.keys.Unread.{Unread}
use Rattle.fast_notation.specs.declared.keys.Unread.TheVariants.{Shape, Memory}
use Rattle.fast_notation.specs.device.Reading.{◌>>=◌}

-- the test passes, or it fails
pub tested : {A : Type 0} {b : Bool} {o : Option A} → true ≡ b → (if b then o else None) ≡ o
tested {o = o} e = ap (λ b. if b then o else None) (sym e)

pub untested : {A : Type 0} {b : Bool} (o : Option A) → false ≡ b → (if b then o else None) ≡ None
untested o e = ap (λ b. if b then o else None) (sym e)

-- there is a value, or none
pub step : {A B : Type 0} {o : Option A} {x : A} (f : A → Option B) → o ≡ Some x → (o >>= f) ≡ f x
step f e = ap (λ o. o >>= f) e

pub no_step : {A B : Type 0} {o : Option A} (f : A → Option B) → o ≡ None → (o >>= f) ≡ None
no_step f e = ap (λ o. o >>= f) e

-- a fault is no value
pub no_ok : {T E : Type 0} (r : Result T E) (P : T → Type 0) (Q : E → Type 0) → IsErrAnd r Q → IfOk r P
no_ok (Ok x) P Q h = absurd h
no_ok (Err y) P Q h = tt

pub ok_no_err : {T E A : Type 0} {x : T} {y : E} → ◌≡◌ {A = Result T E} (Ok x) (Err y) → A
ok_no_err e = absurd (cc)

-- what is told of a fault holds of it where it goes on
pub told_err : {T E : Type 0} (r : Result T E) (x : E) (P : E → Type 0) → IsErrAnd r (λ y. y ≡ x) → P x → IfErr r P
told_err (Ok v) x P h p = absurd h
told_err (Err y) x P h p = subst P (sym h) p

-- a fault of shape that goes on was one of shape
pub passed_on : {T U : Type 0} (r : Result T Unread) (x : Unread) → IsErrAnd r (λ y. y ≡ x) → r ≡ Err Shape → ◌≡◌ {A = Result U Unread} (Err x) (Err Shape)
passed_on (Ok v) x h e = absurd h
passed_on (Err y) x h e = ap Err (sym h ∙ (let s : y ≡ Shape = cc in s))

-- that there was no memory left is no fault of shape
pub memory_only : {T A : Type 0} (r : Result T Unread) (x : Unread) → IsErrAnd r (λ y. y ≡ x) → x ≡ Memory → r ≡ Err Shape → A
memory_only (Ok v) x h m e = absurd h
memory_only (Err y) x h m e = let s : y ≡ Shape = cc in let n : Memory ≡ Shape = sym m ∙ sym h ∙ s in absurd (cc)
