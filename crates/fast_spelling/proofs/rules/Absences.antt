-- What the absence of a field is written as.
use Rattle.std.proofs.Common.{◌≡◌, ◌⊎◌, inl, inr, [], ◌∷◌, refl, ap, sym, subst, ◌∙◌}
use Rattle.std.specs.Prelude.{Bool, true, false, if◌then◌else◌, Some, None, Result, Ok, Err}
use Rattle.fast_value.specs.declared.kinds.Kind.{Kind}
use Rattle.fast_value.specs.declared.settings.Limits.{Limits}
use Rattle.fast_value.specs.declared.codes.Code.{Code}
use Rattle.fast_value.specs.declared.codes.Code.TheVariants.{D6}
use Rattle.fast_value.specs.meaning.Kinds.{ScalarData, texts, family}
use Rattle.fast_tree.specs.declared.operators.Operator.{Operator}
use Rattle.fast_tree.specs.declared.operators.Operator.TheVariants.{None as no_operator, Default, Copy, Increment, Delta, Tail}
use Rattle.fast_tree.specs.meaning.Tree.{FieldData, operator_uses_bit, uses_bit}
use Rattle.fast_dict.specs.meaning.Dictionary.{Dictionary, PreviousData, empty, assigned, previous_at, write_at}
use Rattle.fast_dict.specs.meaning.Operators.{◌>>=◌, Outcome, nothing, null, keeps, from_initial, of_kind, next_value, unsent, decide_by, IsItemBy}
use Rattle.fast_dict.specs.meaning.Rule.{GoesUnsent, SentBy, Rule}
use Rattle.fast_spelling.specs.meaning.Encoding.{EncodesField}
use Rattle.fast_spelling.specs.device.Fields.{next_by}
use Rattle.fast_spelling.specs.device.Usual.{IsFromEntry}
use Rattle.fast_spelling.proofs.rules.OneItem.{one_ok}
use Rattle.fast_spelling.proofs.rules.FieldsWritten.{field_done}
use Rattle.fast_spelling.proofs.rules.Usual.{default_gives, write_back}

-- with the bit clear, the field is absent
abbrev Absent : FieldData → PreviousData → PreviousData → Operator → Type 0
Absent f p next o = (operator_uses_bit o f.optional ≡ true) × IsItemBy o false f nothing × (decide_by o false f p nothing ≡ Ok (record {
  value = None;
  next = next;
}))

absent_clear : (f : FieldData) (p next : PreviousData) (o : Operator) → f.operator ≡ o → Absent f p next o → Rule f p None false nothing
absent_clear f p next o is c =
    let k = subst (Absent f p next) (sym is) c in
    ((next, k.0, (k.1, k.2)), refl)

-- the operators that send NULL without a bit
abbrev pub SendsNull : Operator → Type 0
SendsNull o = (o ≡ no_operator) ⊎ (o ≡ Delta)

bare : (o : Operator) (b : Bool) → SendsNull o → operator_uses_bit o b ≡ false
bare o b (inl is) = ap (λ (z : Operator). operator_uses_bit z b) is
bare o b (inr is) = ap (λ (z : Operator). operator_uses_bit z b) is

same_entry : (o : Operator) (k : Kind) (p : PreviousData) → SendsNull o → next_by o k p None ≡ p
same_entry o k p (inl is) = ap (λ (z : Operator). next_by z k p None) is
same_entry o k p (inr is) = ap (λ (z : Operator). next_by z k p None) is

sent_null : (o : Operator) (f : FieldData) (p : PreviousData) → SendsNull o → SentBy o f p None null
sent_null o f p (inl is) = subst (λ (z : Operator). SentBy z f p None null) (sym is) refl
sent_null o f p (inr is) = subst (λ (z : Operator). SentBy z f p None null) (sym is) refl

no_tail : (o : Operator) → SendsNull o → o ≡ Tail → ⊥
no_tail o (inl is) e = absurd (let z : ◌≡◌ {A = Operator} no_operator Tail = sym is ∙ e in cc)
no_tail o (inr is) e = absurd (let z : ◌≡◌ {A = Operator} Delta Tail = sym is ∙ e in cc)

pub null_written : (l : Limits) (f : FieldData) (d : Dictionary) → f.optional ≡ true → SendsNull f.operator
    → EncodesField l f d None [] (0x80 ∷ []) d
null_written l f d optional sends =
    field_done l f d (previous_at f.entry d) None true null [] (0x80 ∷ []) d refl (λ e. absurd (no_tail f.operator sends e)) optional
    (not, sent_null f.operator f (previous_at f.entry d) sends) optional refl
    (ap (λ (u : Bool). if u then true ∷ [] else []) (sym (bare f.operator f.optional sends)))
    (sym (ap (λ (p : PreviousData). write_at f.entry p d) (same_entry f.operator f.kind (previous_at f.entry d) sends) ∙ write_back f.entry d))
  where
    not : ¬ (GoesUnsent f (previous_at f.entry d) None)
    not (m, b, _) = let clash : false ≡ true = sym (bare f.operator f.optional sends) ∙ b in
        absurd (cc clash)

-- a clear bit, and the entry as it is
absent_passed : (l : Limits) (f : FieldData) (d : Dictionary) → uses_bit f ≡ true → (f.operator ≡ Tail → family f.kind ≡ texts)
    → f.optional ≡ true → Rule f (previous_at f.entry d) None false nothing
    → next_by f.operator f.kind (previous_at f.entry d) None ≡ previous_at f.entry d → EncodesField l f d None (false ∷ []) [] d
absent_passed l f d used tail optional rule same =
    field_done l f d (previous_at f.entry d) None false nothing (false ∷ []) [] d refl tail optional rule tt refl
    (ap (λ (u : Bool). if u then false ∷ [] else []) (sym used))
    (sym (ap (λ (p : PreviousData). write_at f.entry p d) same ∙ write_back f.entry d))

pub clear_written : (l : Limits) (f : FieldData) (d : Dictionary) → f.operator ≡ Default → f.optional ≡ true → f.initial ≡ None
    → EncodesField l f d None (false ∷ []) [] d
clear_written l f d is optional none =
    absent_passed l f d (ap (λ (o : Operator). operator_uses_bit o f.optional) is) (λ e. absurd (clash (sym is ∙ e))) optional
    (absent_clear f (previous_at f.entry d) (previous_at f.entry d) Default is (refl, refl, default_gives f (previous_at f.entry d) None none))
    (ap (λ (o : Operator). next_by o f.kind (previous_at f.entry d) None) is)
  where
    clash : ◌≡◌ {A = Operator} Default Tail → ⊥
    clash e = absurd (cc e)

-- Operators that take the value from the entry where the bit is clear.
kept_absence : (o : Operator) (f : FieldData) (p : PreviousData) → IsFromEntry o
    → (decide_by o false f p nothing ≡ unsent f p) × SentBy o f p None null × (operator_uses_bit o f.optional ≡ true) × (next_by o f.kind p None ≡ empty)
kept_absence Copy f p h = (refl, refl, refl, refl)
kept_absence Increment f p h = (refl, refl, refl, refl)
kept_absence Tail f p h = (refl, refl, refl, refl)
kept_absence o f p h = absurd h

empty_absent : (o : Operator) (f : FieldData) (p : PreviousData) → IsFromEntry o → unsent f p ≡ Ok (record { value = None; next = empty })
    → Absent f p empty o
empty_absent Copy f p h e = (refl, refl, e)
empty_absent Increment f p h e = (refl, refl, e)
empty_absent Tail f p h e = (refl, refl, e)
empty_absent o f p h e = absurd h

-- an empty entry says that the field is absent
pub empty_written : (l : Limits) (f : FieldData) (d : Dictionary) → IsFromEntry f.operator → (f.operator ≡ Tail → family f.kind ≡ texts)
    → f.optional ≡ true → previous_at f.entry d ≡ empty → EncodesField l f d None (false ∷ []) [] d
empty_written l f d from tail optional held =
    let p = previous_at f.entry d in
    let gives : unsent f p ≡ Ok (record {
      value = None;
      next = empty;
    }) = ap (unsent f) held ∙ ap (λ (b : Bool). from_initial f.kind b D6 None) optional in
    let k = kept_absence f.operator f p from in
    absent_passed l f d k.2 tail optional (absent_clear f p empty f.operator refl (empty_absent f.operator f p from gives)) (k.3 ∙ sym held)

-- an entry that holds a value does not, so NULL is sent, and the entry is empty then
pub kept_written : (l : Limits) (f : FieldData) (d : Dictionary) (k : Kind) (u : ScalarData) → IsFromEntry f.operator
    → (f.operator ≡ Tail → family f.kind ≡ texts) → f.optional ≡ true → previous_at f.entry d ≡ assigned k u
    → EncodesField l f d None (true ∷ []) (0x80 ∷ []) (write_at f.entry empty d)
kept_written l f d k u from tail optional held =
    field_done l f d (previous_at f.entry d) None true null (true ∷ []) (0x80 ∷ []) (write_at f.entry empty d) refl tail optional
    (not, (kept_absence f.operator f (previous_at f.entry d) from).1) optional refl
    (ap (λ (z : Bool). if z then true ∷ [] else []) (sym (kept_absence f.operator f (previous_at f.entry d) from).2))
    (ap (λ (q : PreviousData). write_at f.entry q d) (sym (kept_absence f.operator f (previous_at f.entry d) from).3))
  where
    gives : ScalarData → Result Outcome Code
    gives w = keeps f.kind (next_value f.operator f.kind w)

    by : (r : Result ScalarData Code) (m : PreviousData) → r >>= gives ≡ Ok (record { value = None; next = m }) → ⊥
    by (Ok w) m e =
        let clash : Some (next_value f.operator f.kind w) ≡ None = ap (λ (z : Outcome). z.value) (one_ok (gives w) (record {
          value = Some (next_value f.operator f.kind w);
          next = assigned f.kind (next_value f.operator f.kind w);
        }) (record { value = None; next = m }) refl e) in
        absurd (cc clash)
    by (Err c) m e = absurd (let z : ◌≡◌ {A = Result Outcome Code} (Err c) (Ok (record { value = None; next = m })) = e in cc)

    not : ¬ (GoesUnsent f (previous_at f.entry d) None)
    not (m, _, (_, g)) = by (of_kind f.kind k u) m (sym (ap (unsent f) held) ∙ sym (kept_absence f.operator f (previous_at f.entry d) from).0 ∙ g)
