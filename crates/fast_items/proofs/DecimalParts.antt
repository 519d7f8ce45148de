-- The parts of a decimal by parts: what is known of one without a byte, and one that stands whole.
use Rattle.std.proofs.Common.{refl, sym, ap, ◌∙◌, subst, arith, inl, inr}
use Rattle.std.specs.Prelude.{◌≡◌, ◌≢◌, ℕ, Bool, true, false, List, take, ℤ, ◌+ℤ◌, Option, Some, None, IfSome, option_map, Result, Ok}
use Rattle.fast_fronts.specs.device.Fronts.{IsFirstInt}
use Rattle.fast_wire.specs.meaning.Integers.{SpellsInt, IsWithin, signed_range, exponent_range, delta_range}
use Rattle.fast_fronts.specs.declared.fronts.First.TheVariants as First
use Rattle.fast_value.specs.declared.codes.Code.{Code}
use Rattle.fast_value.specs.declared.codes.Code.TheVariants.{D2}
use Rattle.fast_value.specs.declared.kinds.Kind.{Kind}
use Rattle.fast_value.specs.declared.kinds.Kind.TheVariants.{Int32, Int64}
use Rattle.fast_value.specs.meaning.Kinds.{I, family, integers, value_of_integer}
use Rattle.fast_tree.specs.declared.instructions.FieldInstruction.{FieldInstruction}
use Rattle.fast_tree.specs.declared.operators.Operator.{Operator}
use Rattle.fast_tree.specs.declared.operators.Operator.TheVariants as Op
use Rattle.fast_tree.specs.meaning.Nodes.{field_data}
use Rattle.fast_tree.specs.meaning.Entries.{keeps_value}
use Rattle.fast_tree.specs.meaning.Tree.{FieldData}
use Rattle.fast_dict.specs.declared.slots.Slots.{Slots}
use Rattle.fast_dict.specs.meaning.Dictionary.{Dictionary, PreviousData, empty, assigned}
use Rattle.fast_dict.specs.meaning.Operators.{Outcome, ◌>>=◌, decide, nothing, ranged, range_of, keeps, integer_step}
use Rattle.fast_dict.specs.meaning.Slots.{slots_dictionary}
use Rattle.fast_stream.specs.meaning.Fields.{sent_integer}
use Rattle.fast_units.specs.device.Deciding.{needs_bytes, number_data, sent_number, source_of, IsDecided}
use Rattle.fast_items.specs.device.DecimalParts.{part_item, IsPartBy, IsPartKnown, IsUsualExponent}
use Rattle.fast_items.specs.device.IntegerItems.{item_held}
use Rattle.fast_units.specs.device.Words.{previous_of}
use Rattle.fast_units.specs.declared.fields.Number.{Number}
use Rattle.fast_units.specs.declared.fields.Number.TheVariants.{Signed}
use Rattle.fast_units.specs.declared.source.ValueSource.TheVariants as From
use Rattle.fast_units.proofs.Deciding.{decided_as, no_entry, constant_decided, constant_absent, default_decided, unsent_copied, own_decided}
use Rattle.fast_units.proofs.Deciding.{keep_decided, base_own, base_stepped, item_value}
use Rattle.fast_items.proofs.DecimalItems.{ranged_within}
use Rattle.fast_items.proofs.IntegerItems.{item_kept, left_absent}
use Rattle.fast_units.proofs.NextUnits.{first_whole}
use Rattle.fast_units.proofs.ShortIntegers.{item_unit, delta_unit}

-- The initial value stands at hand as well.
initially : (r : Result Outcome Code) (f : FieldData) (d : Dictionary) (item : Option Number) → f.initial ≡ option_map number_data item
    → IsDecided r f d d (Ok From.Initial) → IsDecided r f d d (Ok (source_of item))
initially r f d item initial (o, decided, settled) = (
  o,
  decided,
  λ scratch piece. record {
    value = (settled scratch piece).value ∙ initial ∙ sym (item_value item f d scratch piece);
    dictionary = (settled scratch piece).dictionary;
  },
)

module _ (field : FieldInstruction) (bit : Bool) (seen : Slots) where
  abbrev f : FieldData
  f = field_data field

  -- A constant that is absent.
  pub constant_none : field.operator ≡ Op.Constant → bit ≡ false → IsPartKnown field bit seen None
  constant_none is clear old there = constant_absent f (slots_dictionary old) bit (no_entry f there.serves (ap keeps_value is)) is clear

  -- A constant that is there, and the initial value under default.
  pub constant_there : field.operator ≡ Op.Constant → bit ≡ true → (o : Option (Option ℤ))
      → IfSome o (λ x. f.initial ≡ option_map number_data (part_item x)) → IfSome o (IsPartKnown field bit seen)
  constant_there is set None h = tt
  constant_there is set (Some x) h = λ old there.
      initially (decide f (previous_of old field) bit nothing) f (slots_dictionary old) (part_item x) h
      (constant_decided f (slots_dictionary old) bit (no_entry f there.serves (ap keeps_value is)) is set)

  pub default_left : field.operator ≡ Op.Default → bit ≡ false → (o : Option (Option ℤ))
      → IfSome o (λ x. f.initial ≡ option_map number_data (part_item x)) → IfSome o (IsPartKnown field bit seen)
  default_left is clear None h = tt
  default_left is clear (Some x) h = λ old there.
      initially (decide f (previous_of old field) bit nothing) f (slots_dictionary old) (part_item x) h
      (default_decided f (slots_dictionary old) bit (no_entry f there.serves (ap keeps_value is)) is clear)

  -- What the entry holds under copy.
  pub copied_number : (x : ℤ) → field.operator ≡ Op.Copy → bit ≡ false → previous_of seen field ≡ assigned field.kind (I x)
      → IsPartKnown field bit seen (Some x)
  copied_number x is clear held old there =
      let d = slots_dictionary old in
      let other : f.operator ≢ Op.Increment = subst (λ o. o ≢ Op.Increment) (sym is) (λ e. absurd (cc e)) in
      decided_as f d d (Ok (source_of (Some (Signed x)))) (unsent_copied f (previous_of old field) bit is clear)
      (own_decided f d (I x) (source_of (Some (Signed x))) other (there.same ∙ held) (item_value (Some (Signed x)) f))

  pub copied_none : field.operator ≡ Op.Copy → bit ≡ false → field.optional ≡ true → previous_of seen field ≡ empty → IsPartKnown field bit seen None
  copied_none is clear optional held old there =
      let d = slots_dictionary old in
      subst (λ b. IsDecided (decide f (previous_of old field) b nothing) f d d (Ok From.Absent)) (sym clear)
      (left_absent f d (unsent_copied f (previous_of old field) false is refl) optional (there.same ∙ held))

  -- Or what it holds, if it was looked at.
  pub copied_left : field.operator ≡ Op.Copy → bit ≡ false → (o : Option (Option ℤ))
      → IfSome o (λ x. previous_of seen field ≡ item_held field.kind (part_item x)) → (o ≡ Some None → field.optional ≡ true)
      → IfSome o (IsPartKnown field bit seen)
  copied_left is clear None held absent = tt
  copied_left is clear (Some None) held absent = copied_none is clear (absent refl) held
  copied_left is clear (Some (Some x)) held absent = copied_number x is clear held

module _ (field : FieldInstruction) (strict : Bool) (rest : List ℕ) (seen : Slots) where
  abbrev g : FieldData
  g = field_data field

  -- An integer, or NULL, that is sent under no delta.
  pub part_whole : (kind : Kind) (x : Option ℤ) (n : ℕ) → field.kind ≡ kind → family kind ≡ integers (range_of kind)
      → sent_number (part_item x) ≡ sent_integer kind x → field.operator ≢ Op.Delta → field.operator ≢ Op.Constant
      → IsFirstInt (λ y. y) strict (range_of kind) field.optional (First.Whole x n) rest → IsPartBy true field true strict rest seen x n
  part_whole kind x n same is sent no_delta no_constant first =
      let of_integers : family g.kind ≡ integers (range_of g.kind) = subst (λ k. family k ≡ integers (range_of k)) (sym same) is in (
        (first_whole (λ y. y) strict (range_of kind) field.optional D2 rest x n first).0,
        first.0,
        λ old new l scratch there kept.
            item_unit kind field.optional strict l g rest (slots_dictionary old) (slots_dictionary new) scratch x n
            (sent_number (part_item x)) (source_of (part_item x))
            (sym same) refl of_integers no_delta no_constant first sent
            (item_kept g there.serves of_integers (slots_dictionary old) (slots_dictionary new) (part_item x) no_delta no_constant kept),
      )

  -- A mantissa behind its delta.
  pub part_changed : (base j sum : ℤ) (n : ℕ) → field.kind ≡ Int64 → field.operator ≡ Op.Delta → field.optional ≡ false
      → previous_of seen field ≡ assigned Int64 (I base) → base +ℤ j ≡ sum → IsWithin (signed_range 63) sum
      → IsFirstInt (λ y. y) strict delta_range false (First.Whole (Some j) n) rest → IsPartBy true field true strict rest seen (Some sum) n
  part_changed base j sum n kind delta mandatory held summed within first = (
    (first_whole (λ y. y) strict delta_range false D2 rest (Some j) n first).0,
    first.0,
    λ old new l scratch there kept.
        delta_unit false strict l g rest (slots_dictionary old) (slots_dictionary new) scratch (Some j) n
        (integer_step g (previous_of old field) j) (source_of (Some (Signed sum)))
        (sym mandatory) (subst (λ k. family k ≡ integers (range_of k)) (sym kind) refl) delta first refl
        (decided_as g (slots_dictionary old) (slots_dictionary new) (Ok (source_of (Some (Signed sum)))) (step (previous_of old field) (there.same ∙ held))
        (keep_decided g (slots_dictionary old) (slots_dictionary new) (I sum) (source_of (Some (Signed sum))) kept (item_value (Some (Signed sum)) g))),
  )
    where
      inside : ranged (range_of Int64) D2 (base +ℤ j) ≡ Ok sum
      inside = ap (ranged (range_of Int64) D2) summed ∙ ranged_within (signed_range 63) D2 sum within

      step : (p : PreviousData) → p ≡ assigned Int64 (I base) → integer_step g p j ≡ keeps g.kind (I sum)
      step p own =
          base_stepped g p j
          ∙ ap (λ b. b >>= (λ x. ranged (range_of g.kind) D2 (x +ℤ j) >>= (λ y. keeps g.kind (value_of_integer g.kind y))))
          (base_own g p (I base) (own ∙ ap (λ k. assigned k (I base)) (sym kind)))
          ∙ ap (λ k. ranged (range_of k) D2 (base +ℤ j) >>= (λ y. keeps k (value_of_integer k y))) kind
          ∙ ap (λ r. r >>= (λ y. keeps Int64 (value_of_integer Int64 y))) inside
          ∙ ap (λ k. keeps k (I sum)) (sym kind)

-- An integer in two's complement spells the same in another range in which it lies.
pub exponent_spelled : (strict nullable : Bool) (x : Option ℤ) (w : List ℕ) → SpellsInt strict exponent_range nullable x w
    → IfSome x (IsWithin (signed_range 31)) → SpellsInt strict (signed_range 31) nullable x w
exponent_spelled strict nullable x w h fits = record {
  form = record { entity = h.form.entity; short = h.form.short; shortest = h.form.shortest };
  meaning = h.meaning;
  fits = fits;
}

-- An exponent in its range is one of its kind.
fits_kind : (x : Option ℤ) → IfSome x (IsWithin exponent_range) → IfSome x (IsWithin (signed_range 31))
fits_kind None h = tt
fits_kind (Some x) h = (grind (arith, h.0), grind (arith, h.1))

pub exponent_first : (strict nullable : Bool) (rest : List ℕ) (x : Option ℤ) (n : ℕ)
    → IsFirstInt (λ y. y) strict exponent_range nullable (First.Whole x n) rest
    → IsFirstInt (λ y. y) strict (range_of Int32) nullable (First.Whole x n) rest
exponent_first strict nullable rest x n h = (h.0, exponent_spelled strict nullable x (take n rest) h.1 (fits_kind x h.1.fits))

-- So is what an exponent or a mantissa is sent as.
pub exponent_sent : (x : Option ℤ) → sent_number (part_item x) ≡ sent_integer Int32 x
exponent_sent None = refl
exponent_sent (Some x) = refl

pub mantissa_sent : (x : Option ℤ) → sent_number (part_item x) ≡ sent_integer Int64 x
mantissa_sent None = refl
mantissa_sent (Some x) = refl

-- A mantissa that is sent is a delta as well.
fits_delta : (x : ℤ) → IsWithin (signed_range 63) x → IsWithin delta_range x
fits_delta x h = (grind (arith, h.0), grind (arith, h.1))

pub delta_first : (strict : Bool) (rest : List ℕ) (x : ℤ) (n : ℕ)
    → IsFirstInt (λ y. Some y) strict (signed_range 63) false (First.Whole x n) rest
    → IsFirstInt (λ y. y) strict delta_range false (First.Whole (Some x) n) rest
delta_first strict rest x n h = (
  h.0,
  record {
    form = record { entity = h.1.form.entity; short = h.1.form.short; shortest = h.1.form.shortest };
    meaning = h.1.meaning;
    fits = fits_delta x h.1.fits;
  },
)

-- An exponent under default or copy stands in the stream where its bit is set.
pub usual_sent : (field : FieldInstruction) (bit b : Bool) → IsUsualExponent field → bit ≡ b → needs_bytes field.operator bit ≡ b
usual_sent field bit b (inl e) h = ap (λ o. needs_bytes o bit) e ∙ h
usual_sent field bit b (inr e) h = ap (λ o. needs_bytes o bit) e ∙ h

-- Neither is a delta or a constant.
pub usual_no_delta : (field : FieldInstruction) → IsUsualExponent field → field.operator ≢ Op.Delta
usual_no_delta field (inl e) h = absurd (cc (e, h))
usual_no_delta field (inr e) h = absurd (cc (e, h))

pub usual_no_constant : (field : FieldInstruction) → IsUsualExponent field → field.operator ≢ Op.Constant
usual_no_constant field (inl e) h = absurd (cc (e, h))
usual_no_constant field (inr e) h = absurd (cc (e, h))

-- Under default it is the initial value where nothing is sent; else it is under copy, and what its entry holds.
pub usual_default : (field : FieldInstruction) (seen : Slots) (operator : Operator) (known o : Option (Option ℤ))
    → field.operator ≡ operator → operator ≡ Op.Default → known ≡ o
    → IfSome o (λ x. (field_data field).initial ≡ option_map number_data (part_item x)) → IfSome known (IsPartKnown field false seen)
usual_default field seen operator known o same is looked initial =
    subst (λ (r : Option (Option ℤ)). IfSome r (IsPartKnown field false seen)) (sym looked) (default_left field false seen (same ∙ is) refl o initial)

pub usual_held : (field : FieldInstruction) (seen : Slots) (operator : Operator) (optional : Bool) (kind : Kind)
    (known o : Option (Option ℤ)) → IsUsualExponent field → field.kind ≡ kind → field.operator ≡ operator
    → field.optional ≡ optional → operator ≢ Op.Default → known ≡ o → IfSome o (λ x. previous_of seen field ≡ item_held kind (part_item x))
    → (o ≡ Some None → optional ≡ true)
    → IfSome known (IsPartKnown field false seen)
usual_held field seen operator optional kind known o usual as_kind same may_be other looked held absent =
    subst (λ (r : Option (Option ℤ)). IfSome r (IsPartKnown field false seen)) (sym looked)
    (copied_left field false seen (copy usual) refl o (subst (λ k. IfSome o (λ x. previous_of seen field ≡ item_held k (part_item x)))
    (sym as_kind) held) (λ e. may_be ∙ absent e))
  where
    copy : IsUsualExponent field → field.operator ≡ Op.Copy
    copy (inl e) = absurd (other (sym same ∙ e))
    copy (inr e) = e
