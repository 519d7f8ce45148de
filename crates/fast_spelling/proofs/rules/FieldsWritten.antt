-- A field that was written is encoded.
use Rattle.std.proofs.Common.{◌≡◌, ℕ, ◌≤◌, List, [], ◌∷◌, length, refl, subst, arith}
use Rattle.std.specs.Prelude.{Bool, true, false, if◌then◌else◌, Option, Some, None, Ok, Err, IfSome, unwrap_or}
use Rattle.fast_value.specs.declared.kinds.Kind.{Kind}
use Rattle.fast_value.specs.declared.kinds.Kind.TheVariants.{UInt32, Int32, UInt64, Int64, Decimal, Ascii, Unicode, Bytes}
use Rattle.fast_value.specs.declared.settings.Limits.{Limits}
use Rattle.fast_value.specs.declared.codes.Code.TheVariants.{D4}
use Rattle.fast_value.specs.meaning.Kinds.{ScalarData, texts, family, text_of, same_kind}
use Rattle.fast_tree.specs.declared.operators.Operator.TheVariants.{Tail}
use Rattle.fast_tree.specs.meaning.Tree.{FieldData, uses_bit}
use Rattle.fast_dict.specs.meaning.Dictionary.{Dictionary, PreviousData, undefined, empty, assigned, previous_at, write_at}
use Rattle.fast_dict.specs.meaning.Held.{text_size}
use Rattle.fast_dict.specs.meaning.Operators.{Sent, delta_base, start_value, zero_in}
use Rattle.fast_dict.specs.meaning.Rule.{Rule}
use Rattle.fast_spelling.specs.device.Drafts.{IsSendable, SpellsItem}
use Rattle.fast_spelling.specs.meaning.Encoding.{EncodesField}
use Rattle.fast_spelling.specs.device.Fields.{IsSuited, next_of}
use Rattle.fast_spelling.proofs.rules.OneItem.{one_ok}
use Rattle.fast_spelling.proofs.rules.Ruled.{IsFit, right_fits, rule_gives}
use Rattle.fast_spelling.proofs.rules.Sendable.{rule_spelled}

fit : (f : FieldData) (m : ℕ) (v : Option ScalarData) → IsSuited m f v → IsFit f v
fit f m None h = h
fit f m (Some v) h = right_fits f.kind v h.0

zero_short : (kind : Kind) (m : ℕ) → length (text_of (zero_in kind (family kind))) ≤ m
zero_short UInt32 m = omega arith
zero_short Int32 m = omega arith
zero_short UInt64 m = omega arith
zero_short Int64 m = omega arith
zero_short Decimal m = omega arith
zero_short Ascii m = omega arith
zero_short Unicode m = omega arith
zero_short Bytes m = omega arith

start_short : (i : Option ScalarData) (kind : Kind) (m : ℕ) → IfSome i (λ v. length (text_of v) ≤ m)
    → length (text_of (unwrap_or i (zero_in kind (family kind)))) ≤ m
start_short None kind m h = zero_short kind m
start_short (Some v) kind m h = h

-- the base of a delta is as short as what the entry holds, and the initial value
pub base_short : (f : FieldData) (p : PreviousData) (base : ScalarData) (m : ℕ) → text_size p ≤ m
    → IfSome f.initial (λ v. length (text_of v) ≤ m) → delta_base f p ≡ Ok base → length (text_of base) ≤ m
base_short f undefined base m h i e = subst (λ (v : ScalarData). length (text_of v) ≤ m) (one_ok (Ok _) (start_value f) base refl e)
    (start_short f.initial f.kind m i)
base_short f empty base m h i e = absurd (cc e)
base_short f (assigned kind v) base m h i e = on (same_kind f.kind kind) e
  where
    on : (b : Bool) → (if b then Ok v else Err D4) ≡ Ok base → length (text_of base) ≤ m
    on true g = subst (λ (z : ScalarData). length (text_of z) ≤ m) (one_ok (Ok _) v base refl g) h
    on false g = absurd (cc g)

pub field_done : (l : Limits) (f : FieldData) (d : Dictionary) (p : PreviousData) (v : Option ScalarData) (bit : Bool) (x : Sent)
    (b : List Bool) (w : List ℕ) (d' : Dictionary)
    → p ≡ previous_at f.entry d → (f.operator ≡ Tail → family f.kind ≡ texts) → IsSuited l.max_text f v → Rule f p v bit x → IsSendable f x → SpellsItem f x w
    → b ≡ (if uses_bit f then bit ∷ [] else []) → d' ≡ write_at f.entry (next_of f (previous_at f.entry d) v) d → EncodesField l f d v b w d'
field_done l f d p v bit x b w d' is tail suited rule sendable spelled bits written =
    let ruled : Rule f (previous_at f.entry d) v bit x = subst (λ (z : PreviousData). Rule f z v bit x) is rule in (
      bit,
      x,
      next_of f (previous_at f.entry d) v,
      ruled,
      rule_spelled l f (previous_at f.entry d) v bit x w suited ruled sendable spelled,
      rule_gives f (previous_at f.entry d) v bit x tail (fit f l.max_text v suited) ruled,
      bits,
      written,
    )
