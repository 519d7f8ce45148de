-- What cannot be sent.
use Rattle.std.proofs.Common.{◌≡◌, ℕ, List, subst}
use Rattle.std.specs.Prelude.{Option, Some, None, Result, Ok, IfNone}
use Rattle.fast_value.specs.meaning.Kinds.{ScalarData, text_of}
use Rattle.fast_value.specs.declared.codes.Code.{Code}
use Rattle.fast_tree.specs.declared.operators.Operator.TheVariants.{Tail}
use Rattle.fast_tree.specs.meaning.Tree.{FieldData}
use Rattle.fast_dict.specs.meaning.Dictionary.{PreviousData}
use Rattle.fast_dict.specs.meaning.Operators.{Sent, tail_base}
use Rattle.fast_dict.specs.meaning.Rule.{SentBy, SentFor, IsTail}

-- a tail without a base, or of a shorter value
pub no_tail : (f : FieldData) (p : PreviousData) (v : ScalarData) (o : Option ScalarData) → f.operator ≡ Tail → o ≡ Some v
    → ((base : ScalarData) (part : List ℕ) → tail_base f p ≡ Ok base → ¬ (IsTail (text_of base) (text_of v) part)) → (item : Sent)
    → ¬ (SentFor f p o item)
no_tail f p v o e q h item s =
    let t : SentBy Tail f p (Some v) item = subst (λ op. SentBy op f p (Some v) item) e (subst (λ w. SentFor f p w item) q s) in
    h t.0 t.1 t.2 t.3

-- what holds where there is no answer
pub at_none : {A P Q : Type 0} (r : Option A) → (P → Q) → IfNone r P → IfNone r Q
at_none (Some a) f h = h
at_none None f h = f h

-- a base has no tail to the value, whatever it is called
pub no_part : (r : Result ScalarData Code) (b base : ScalarData) (text v v' : List ℕ) → Ok b ≡ r → r ≡ Ok base → text ≡ text_of b → v' ≡ v
    → ((part : List ℕ) → ¬ (IsTail text v' part)) → (part : List ℕ) → ¬ (IsTail (text_of base) v part)
no_part r b base text v v' e q t u h part k =
    let same : base ≡ b = cc in
    h part (rw (t, u, ← same) k)
