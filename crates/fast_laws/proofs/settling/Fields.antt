-- A field that may have the value, or be absent, is encoded or refused.
use Rattle.std.proofs.Common.{◌≡◌, ◌⊎◌, inl, inr, ℕ, ◌<◌, ◌≤◌, List, [], ◌∷◌, length, drop, refl, subst, arith}
use Rattle.std.specs.Prelude.{Bool, true, false, if◌then◌else◌, ◌-ℤ◌, Option, Some, None, Result, Ok, Err}
use Rattle.std.proofs.lemmas.Bool.{cases_lt, cases_eq}
use Rattle.fast_value.specs.declared.codes.Code.{Code}
use Rattle.fast_value.specs.declared.settings.Limits.{Limits}
use Rattle.fast_value.specs.meaning.Kinds.{ScalarData, Family, integers, decimals, texts, family, integer_of, exponent_of, mantissa_of, text_of, value_of_text}
use Rattle.fast_tree.specs.declared.operators.Operator.{Operator}
use Rattle.fast_tree.specs.declared.operators.Operator.TheVariants.{None as no_operator, Constant, Default, Copy, Increment, Delta, Tail}
use Rattle.fast_tree.specs.meaning.Tree.{FieldData, uses_bit}
use Rattle.fast_dict.specs.meaning.Dictionary.{Dictionary, PreviousData, previous_at, write_at}
use Rattle.fast_dict.specs.meaning.Operators.{Sent, nothing, null, value, integer_delta, decimal_delta, delta_base, tail_base}
use Rattle.fast_dict.specs.meaning.Rule.{common_front, common_back, appending, prepending, IsDelta, IsTail, SentBy, GoesUnsent, Rule}
use Rattle.fast_spelling.specs.declared.faults.EncodeFault.{EncodeFault}
use Rattle.fast_spelling.specs.declared.faults.EncodeFault.TheVariants.{E3, R9}
use Rattle.fast_spelling.specs.device.Drafts.{SpellsItem}
use Rattle.fast_spelling.specs.device.Fields.{IsSuited, next_of}
use Rattle.fast_spelling.specs.meaning.Again.{IsSound, IsGranted}
use Rattle.fast_spelling.specs.meaning.Encoding.{EncodesField}
use Rattle.fast_spelling.specs.meaning.Refusals.{HasZeroInFront, RefusesField}
use Rattle.fast_spelling.proofs.again.FieldsAgain.{goes_unsent, tail_texts}
use Rattle.fast_spelling.proofs.again.Resending.{same_option}
use Rattle.fast_spelling.proofs.again.Sound.{right_of, short_of, delta_base_right, sound_previous}
use Rattle.fast_spelling.proofs.rules.FieldsWritten.{field_done}
use Rattle.fast_spelling.proofs.rules.Sendable.{IsBase, right_narrow, rule_sendable}
use Rattle.fast_laws.proofs.settling.Items.{item_bytes}

-- A delta from each base; a tail of each text that is no shorter than its base.
some_delta : (k : Family) (base v : ScalarData) → (x : Sent) × IsDelta k base v x
some_delta (integers range) base v = (integer_delta (integer_of v -ℤ integer_of base), refl)
some_delta decimals base v = (decimal_delta (exponent_of v -ℤ exponent_of base) (mantissa_of v -ℤ mantissa_of base), refl)
some_delta texts base v = by (cases_lt (common_front (text_of base) (text_of v)) (common_back (text_of base) (text_of v)))
  where
    by : (common_front (text_of base) (text_of v) < common_back (text_of base) (text_of v))
        ⊎ (common_back (text_of base) (text_of v) ≤ common_front (text_of base) (text_of v)) → (x : Sent) × IsDelta texts base v x
    by (inl back) = (prepending (text_of base) (text_of v), inr (back, refl))
    by (inr front) = (appending (text_of base) (text_of v), inl (front, refl))

some_tail : (b t : List ℕ) → ((part : List ℕ) × IsTail b t part) ⊎ ((part : List ℕ) → IsTail b t part → ⊥)
some_tail b t = by (cases_lt (length b) (length t)) (cases_eq (length t) (length b))
  where
    by : (length b < length t) ⊎ (length t ≤ length b) → (length t ≡ length b) ⊎ (length t ≡ length b → ⊥)
        → ((part : List ℕ) × IsTail b t part) ⊎ ((part : List ℕ) → IsTail b t part → ⊥)
    by (inl longer) same = inl (t, inr (longer, refl))
    by (inr few) (inl same) = inl (drop (common_front b t) t, inl (same, refl))
    by (inr few) (inr other) = inr (λ part h. never h)
      where
        never : {part : List ℕ} → IsTail b t part → ⊥
        never (inl h) = other h.0
        never (inr h) = omega (arith, few, h.0)

-- What the operator sends, or that it sends nothing.
abbrev Sends : Operator → FieldData → PreviousData → Option ScalarData → Type 0
Sends o f p v = ((x : Sent) × SentBy o f p v x) ⊎ ((x : Sent) → SentBy o f p v x → ⊥)

delta_sends : (f : FieldData) (p : PreviousData) (v : ScalarData) → Sends Delta f p (Some v)
delta_sends f p v = by (delta_base f p) refl
  where
    by : (r : Result ScalarData Code) → delta_base f p ≡ r → Sends Delta f p (Some v)
    by (Ok base) e = let (x, h) = some_delta (family f.kind) base v in inl (x, (base, e, h))
    by (Err c) e = inr (λ x h. absurd (cc (e, h.1)))

tail_sends : (f : FieldData) (p : PreviousData) (v : ScalarData) → Sends Tail f p (Some v)
tail_sends f p v = by (tail_base f p) refl
  where
    on : (base : ScalarData) → tail_base f p ≡ Ok base → ((part : List ℕ) × IsTail (text_of base) (text_of v) part)
        ⊎ ((part : List ℕ) → IsTail (text_of base) (text_of v) part → ⊥) → Sends Tail f p (Some v)
    on base e (inl (part, h)) = inl (value (value_of_text f.kind part), (base, part, e, h, refl))
    on base e (inr none) = inr (λ x (base', part, e', h, _). let same : base' ≡ base = cc (e, e') in
        none part (subst (λ (z : ScalarData). IsTail (text_of z) (text_of v) part) same h))

    by : (r : Result ScalarData Code) → tail_base f p ≡ r → Sends Tail f p (Some v)
    by (Ok base) e = on base e (some_tail (text_of base) (text_of v))
    by (Err c) e = inr (λ x h. absurd (cc (e, h.2)))

constant_sends : (f : FieldData) (p : PreviousData) (v : Option ScalarData) → Sends Constant f p v
constant_sends f p v = by (same_option v f.initial)
  where
    by : (v ≡ f.initial) ⊎ (v ≡ f.initial → ⊥) → Sends Constant f p v
    by (inl same) = inl (nothing, (same, refl))
    by (inr other) = inr (λ x h. other h.0)

sends : (o : Operator) (f : FieldData) (p : PreviousData) (v : Option ScalarData) → Sends o f p v
sends Constant f p v = constant_sends f p v
sends no_operator f p None = inl (null, refl)
sends Default f p None = inl (null, refl)
sends Copy f p None = inl (null, refl)
sends Increment f p None = inl (null, refl)
sends Delta f p None = inl (null, refl)
sends Tail f p None = inl (null, refl)
sends no_operator f p (Some v) = inl (value v, refl)
sends Default f p (Some v) = inl (value v, refl)
sends Copy f p (Some v) = inl (value v, refl)
sends Increment f p (Some v) = inl (value v, refl)
sends Delta f p (Some v) = delta_sends f p v
sends Tail f p (Some v) = tail_sends f p v

-- The rule has an item, or none.
abbrev Ruled : FieldData → PreviousData → Option ScalarData → Type 0
Ruled f p v = ((bit : Bool) × (x : Sent) × Rule f p v bit x) ⊎ ((bit : Bool) (x : Sent) → Rule f p v bit x → ⊥)

ruled : (f : FieldData) (p : PreviousData) (v : Option ScalarData) → Ruled f p v
ruled f p v = by (goes_unsent f p v) (sends f.operator f p v)
  where
    never : (GoesUnsent f p v → ⊥) → ((x : Sent) → SentBy f.operator f p v x → ⊥) → (bit : Bool) (x : Sent) → Rule f p v bit x → ⊥
    never must none true x h = none x h.1
    never must none false x h = must h.0

    by : GoesUnsent f p v ⊎ (GoesUnsent f p v → ⊥) → Sends f.operator f p v → Ruled f p v
    by (inl goes) s = inl (false, nothing, (goes, refl))
    by (inr must) (inl (x, s)) = inl (true, x, (must, s))
    by (inr must) (inr none) = inr (never must none)

-- Bits, bytes and the dictionary after them, or a fault.
abbrev pub Settled : (List Bool → List ℕ → Dictionary → Type 0) → (EncodeFault → Type 0) → Type 0
Settled encodes refuses = ((b : List Bool) × (w : List ℕ) × (d : Dictionary) × encodes b w d) ⊎ ((c : EncodeFault) × refuses c)

module _ (l : Limits) (small : l.max_text ≤ 1048576) where
  pub field_settled : (f : FieldData) (d : Dictionary) (v : Option ScalarData) → IsSound l d → IsGranted l f → IsSuited l.max_text f v
      → Settled (EncodesField l f d v) (RefusesField f d v)
  field_settled f d v sound granted suited = by (ruled f p v)
    where
      p : PreviousData
      p = previous_at f.entry d

      base_is : (base : ScalarData) → delta_base f p ≡ Ok base → IsBase l.max_text base
      base_is base e = let r = delta_base_right l f p base (sound_previous l f.entry d sound) granted.initial e in record {
        narrow = right_narrow f.kind base (right_of l f.kind base r);
        short = short_of l f.kind base r;
      }

      on : (bit : Bool) (x : Sent) → Rule f p v bit x → ((w : List ℕ) × SpellsItem f x w) ⊎ HasZeroInFront f.kind x
          → Settled (EncodesField l f d v) (RefusesField f d v)
      on bit x rule (inr zero) = inr (R9, (bit, x, rule, zero))
      on bit x rule (inl (w, spelled)) = inl (
        if uses_bit f then bit ∷ [] else [],
        w,
        write_at f.entry (next_of f p v) d,
        field_done l f d p v bit x (if uses_bit f then bit ∷ [] else []) w (write_at f.entry (next_of f p v) d) refl (tail_texts l f granted.suited) suited rule
            (rule_sendable f p v bit x l.max_text small (tail_texts l f granted.suited) base_is suited rule) spelled refl refl,
      )

      by : Ruled f p v → Settled (EncodesField l f d v) (RefusesField f d v)
      by (inl (bit, x, rule)) = on bit x rule (item_bytes f x (rule_sendable f p v bit x l.max_text small (tail_texts l f granted.suited) base_is suited rule))
      by (inr none) = inr (E3, none)
