-- A claim is a fact that has one proof at most, by what the shape is.
use Rattle.std.proofs.Common.{◌≡◌, ℕ, Bool, true, false, Some, refl, sym, subst}
use Rattle.std.specs.Prelude.{Vec}
use Rattle.std.specs.Global.{Global}
use Rattle.std.proofs.Props.{props}
use Rattle.std.proofs.Math.Logic.{∥∥₁_elim, ∥∥₁_map}
use Rattle.fast_value.specs.declared.kinds.Kind.{Kind}
use Rattle.fast_tree.specs.declared.operators.Operator.{Operator}
use Rattle.fast_tree.specs.declared.operators.Operator.TheVariants.{None as no_operator, Constant as constant, Delta}
use Rattle.fast_tree.specs.declared.instructions.FieldInstruction.{FieldInstruction}
use Rattle.fast_tree.specs.declared.instructions.Shape.{Shape}
use Rattle.fast_tree.specs.declared.instructions.Shape.TheVariants.{Field, Decimal as by_parts, Group as a_group, Sequence as a_sequence}
use Rattle.fast_tree.specs.meaning.Entries.{keeps_value}
use Rattle.fast_program.specs.declared.ops.Op.{Op}
use Rattle.fast_program.specs.device.Ops.{IsOpOf}
use Rattle.fast_program.specs.declared.codes.Code.{Code}
use Rattle.fast_program.specs.declared.codes.Code.TheVariants.{End}
use Rattle.fast_program.specs.device.Runs.{is_end}
use Rattle.fast_program.specs.device.Codes.{Claim, says, IsCoded, anything, never, field_of, constant_field, decimal_parts, changed_parts}
use Rattle.fast_program.specs.device.Codes.{group_of, sequence_of, IsFieldCoded, IsConstantCoded, IsPartsCoded, IsChangedPartsCoded}
use Rattle.fast_program.specs.device.Codes.{IsGroupCoded, IsSequenceCoded, IsClaimed}

-- a field's facts, of the field itself
abbrev IsField : Kind → Operator → Bool → ℕ → FieldInstruction → Type 0
IsField kind operator optional entry f = (f.kind ≡ kind) × (f.operator ≡ operator) × (f.optional ≡ optional)
    × (keeps_value operator ≡ true → f.entry ≡ Some entry)

field_told : (kind : Kind) (operator : Operator) (optional : Bool) (entry : ℕ) (f : FieldInstruction)
    → IsFieldCoded kind operator optional entry (Field f) → IsField kind operator optional entry f
field_told kind operator optional entry f (g, is, of_kind, under, may, kept) =
    let e : g ≡ f = cc in
    rw (sym e) (of_kind, under, may, kept)

field_again : (kind : Kind) (operator : Operator) (optional : Bool) (entry : ℕ) (shape : Shape)
    → ∥ IsFieldCoded kind operator optional entry shape ∥₁ → IsFieldCoded kind operator optional entry shape
field_again kind operator optional entry (Field f) h =
    let (of_kind, under, may, kept) = ∥∥₁_elim h (hlevel props) (field_told kind operator optional entry f) in
    (f, refl, of_kind, under, may, kept)
field_again kind operator optional entry (by_parts e m) h = absurd (∥∥₁_elim h (hlevel props) (λ x. let e = x.1 in cc))
field_again kind operator optional entry (a_group own body) h = absurd (∥∥₁_elim h (hlevel props) (λ x. let e = x.1 in cc))
field_again kind operator optional entry (a_sequence length body) h = absurd (∥∥₁_elim h (hlevel props) (λ x. let e = x.1 in cc))

constant_told : (f : FieldInstruction) → IsConstantCoded (Field f) → (f.operator ≡ constant) × (f.optional ≡ false)
constant_told f (g, is, under, may) =
    let e : g ≡ f = cc in
    rw (sym e) (under, may)

constant_again : (shape : Shape) → ∥ IsConstantCoded shape ∥₁ → IsConstantCoded shape
constant_again (Field f) h =
    let (under, may) = ∥∥₁_elim h (hlevel props) (constant_told f) in
    (f, refl, under, may)
constant_again (by_parts e m) h = absurd (∥∥₁_elim h (hlevel props) (λ x. let e = x.1 in cc))
constant_again (a_group own body) h = absurd (∥∥₁_elim h (hlevel props) (λ x. let e = x.1 in cc))
constant_again (a_sequence length body) h = absurd (∥∥₁_elim h (hlevel props) (λ x. let e = x.1 in cc))

parts_again : (shape : Shape) → ∥ IsPartsCoded shape ∥₁ → IsPartsCoded shape
parts_again (Field f) h = absurd (∥∥₁_elim h (hlevel props) (λ x. let e = x.2 in cc))
parts_again (by_parts e m) h = (e, m, refl)
parts_again (a_group own body) h = absurd (∥∥₁_elim h (hlevel props) (λ x. let e = x.2 in cc))
parts_again (a_sequence length body) h = absurd (∥∥₁_elim h (hlevel props) (λ x. let e = x.2 in cc))

-- facts of the parts, of the parts themselves
abbrev IsChanged : Operator → Bool → ℕ → FieldInstruction → FieldInstruction → Type 0
IsChanged operator optional entry e m = (e.operator ≡ operator) × (e.optional ≡ optional) × (m.operator ≡ Delta) × (m.optional ≡ false) × (m.entry ≡ Some entry)

changed_told : (operator : Operator) (optional : Bool) (entry : ℕ) (e m : FieldInstruction)
    → IsChangedPartsCoded operator optional entry (by_parts e m) → IsChanged operator optional entry e m
changed_told operator optional entry e m (own, its, is, under, may, by_delta, there, kept) =
    let first : own ≡ e = cc in
    let second : its ≡ m = cc in
    rw (sym first) (rw (sym second) (under, may, by_delta, there, kept))

changed_again : (operator : Operator) (optional : Bool) (entry : ℕ) (shape : Shape)
    → ∥ IsChangedPartsCoded operator optional entry shape ∥₁ → IsChangedPartsCoded operator optional entry shape
changed_again operator optional entry (Field f) h = absurd (∥∥₁_elim h (hlevel props) (λ x. let e = x.2 in cc))
changed_again operator optional entry (by_parts e m) h =
    let (under, may, by_delta, there, kept) = ∥∥₁_elim h (hlevel props) (changed_told operator optional entry e m) in
    (e, m, refl, under, may, by_delta, there, kept)
changed_again operator optional entry (a_group own body) h = absurd (∥∥₁_elim h (hlevel props) (λ x. let e = x.2 in cc))
changed_again operator optional entry (a_sequence length body) h = absurd (∥∥₁_elim h (hlevel props) (λ x. let e = x.2 in cc))

group_again : (optional : Bool) (shape : Shape) → ∥ IsGroupCoded optional shape ∥₁ → IsGroupCoded optional shape
group_again optional (Field f) h = absurd (∥∥₁_elim h (hlevel props) (λ x. let e = x.1 in cc))
group_again optional (by_parts e m) h = absurd (∥∥₁_elim h (hlevel props) (λ x. let e = x.1 in cc))
group_again optional (a_group own body) h =
    let e : own ≡ optional = ∥∥₁_elim h (hlevel props) (λ x. let e = x.1 in cc) in
    rw (sym e) (body, refl)
group_again optional (a_sequence length body) h = absurd (∥∥₁_elim h (hlevel props) (λ x. let e = x.1 in cc))

sequence_told : (optional : Bool) (length : FieldInstruction) (body : Vec ℕ Global) → IsSequenceCoded optional (a_sequence length body)
    → (length.operator ≡ no_operator) × (length.optional ≡ optional)
sequence_told optional length body (own, its, is, under, may) =
    let e : own ≡ length = cc in
    rw (sym e) (under, may)

sequence_again : (optional : Bool) (shape : Shape) → ∥ IsSequenceCoded optional shape ∥₁ → IsSequenceCoded optional shape
sequence_again optional (Field f) h = absurd (∥∥₁_elim h (hlevel props) (λ x. let e = x.2 in cc))
sequence_again optional (by_parts e m) h = absurd (∥∥₁_elim h (hlevel props) (λ x. let e = x.2 in cc))
sequence_again optional (a_group own body) h = absurd (∥∥₁_elim h (hlevel props) (λ x. let e = x.2 in cc))
sequence_again optional (a_sequence length body) h =
    let (under, may) = ∥∥₁_elim h (hlevel props) (sequence_told optional length body) in
    (length, body, refl, under, may)

pub claim_again : (claim : Claim) (entry : ℕ) (shape : Shape) → ∥ IsClaimed claim entry shape ∥₁ → IsClaimed claim entry shape
claim_again anything entry shape h = tt
claim_again never entry shape h = ∥∥₁_elim h (hlevel props) (λ x. x)
claim_again (field_of kind operator optional) entry shape h = field_again kind operator optional entry shape h
claim_again constant_field entry shape h = constant_again shape h
claim_again decimal_parts entry shape h = parts_again shape h
claim_again (changed_parts operator optional) entry shape h = changed_again operator optional entry shape h
claim_again (group_of optional) entry shape h = group_again optional shape h
claim_again (sequence_of optional) entry shape h = sequence_again optional shape h

-- what is so for its node somehow, is so
pub op_again : (op : Op) (n : ℕ) (shape : Shape) → ∥ IsOpOf op n shape ∥₁ → IsOpOf op n shape
unfolding IsCoded
op_again op n shape h = (∥∥₁_elim h (hlevel props) (λ x. x.0), claim_again (says op.code) op.entry shape (∥∥₁_map h (λ x. x.1)))

-- what the code of an op says of its node's shape
pub claimed : (op : Op) (n : ℕ) (shape : Shape) (code : Code) → IsOpOf op n shape → op.code ≡ code → IsClaimed (says code) op.entry shape
unfolding IsCoded
claimed op n shape code is same = subst (λ c. IsClaimed (says c) op.entry shape) same is.1

-- what suits a node is no end
pub no_end : (code : Code) (entry : ℕ) (shape : Shape) → IsCoded code entry shape → is_end code ≡ false
unfolding IsCoded
no_end End entry shape h = absurd h
no_end code entry shape h = refl
