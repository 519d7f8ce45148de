-- A value that is right for the type of a field, and short enough.
use Rattle.std.proofs.Common.{◌≡◌, ◌≤◌, ℕ, [], length, ap, sym, subst, arith}
use Rattle.std.specs.Prelude.{Some}
use Rattle.fast_value.specs.declared.kinds.Kind.{Kind}
use Rattle.fast_value.specs.meaning.Kinds.{ScalarData, text_of}
use Rattle.fast_value.specs.meaning.Messages.{one}
use Rattle.fast_tree.specs.meaning.Tree.{FieldData, Instruction, Label, field}
use Rattle.fast_spelling.specs.device.Fields.{IsSuited}
use Rattle.fast_spelling.specs.meaning.Suiting.{IsRight, Suits}

pub suited_as : (n : ℕ) (f : FieldData) (k : Kind) (u v : ScalarData) → f.kind ≡ k → u ≡ v → IsRight k v → length (text_of v) ≤ n → IsSuited n f (Some u)
suited_as n f k u v e same h short = subst (λ (z : ScalarData). IsSuited n f (Some z)) (sym same) (subst (λ (z : Kind). IsRight z v) (sym e) h, short)

pub field_suits : (i : Instruction) (at : Label) (f : FieldData) (k : Kind) (v : ScalarData) → i ≡ field at f → f.kind ≡ k → IsRight k v
    → Suits i (Some (one v))
field_suits i at f k v here e h = subst (λ (z : Instruction). Suits z (Some (one v))) (sym here) (subst (λ (z : Kind). IsRight z v) (sym e) h)

pub without_text : (v : ScalarData) (m : ℕ) → text_of v ≡ [] → length (text_of v) ≤ m
without_text v m none =
    let empty = ap length none in
    omega (arith, empty)
