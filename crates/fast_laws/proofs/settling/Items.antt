-- What can be sent has bytes, unless it is an ASCII text that begins with U+0000.
use Rattle.std.proofs.Common.{◌≡◌, ◌≢◌, ◌⊎◌, inl, inr, ℕ, ◌*◌, ◌<◌, ◌^◌, List, [], ◌∷◌, ◌++◌, length, refl, ap, sym, subst, arith}
use Rattle.std.specs.Prelude.{Bool, true, false, nat_eq, if◌then◌else◌, ℤ, pos, negsuc, Some}
use Rattle.std.proofs.lemmas.Int.{ints}
use Rattle.std.proofs.lemmas.Bool.Decides.{eqb_tells}
use lib.Signed.{mag}
use Rattle.fast_wire.specs.meaning.Entities.{number, signed, IsOverlong}
use Rattle.fast_wire.specs.meaning.Integers.{IsWithin, signed_range, Means, SpellsInt}
use Rattle.fast_wire.specs.meaning.Texts.{empty_ascii}
use Rattle.fast_wire.specs.meaning.Shortest.{IsShortest}
use Rattle.fast_value.specs.declared.kinds.Kind.{Kind}
use Rattle.fast_value.specs.declared.kinds.Kind.TheVariants.{UInt32, Int32, UInt64, Int64, Decimal, Ascii, Unicode, Bytes}
use Rattle.fast_value.specs.meaning.Kinds.{ScalarData, U, I, Dec, AsciiText, UnicodeText, ByteVector}
use Rattle.fast_tree.specs.meaning.Tree.{FieldData}
use Rattle.fast_dict.specs.meaning.Operators.{Sent, nothing, null, value, integer_delta, decimal_delta, text_delta}
use Rattle.fast_spelling.specs.device.Drafts.{IsSendable, IsSendableValue, IsSendablePart, SpellsPart, SpellsPair, SpellsValue, SpellsItem}
use Rattle.fast_spelling.specs.meaning.Refusals.{HasZeroInFront}
use Rattle.fast_spelling.proofs.bytes.Respelled.{sent_for, raised_by, some_signed, some_unsigned}
use Rattle.fast_spelling.proofs.bytes.Spelling.{ascii_spelled, sized_spelled}
use Rattle.fast_spelling.proofs.rules.Chosen.{HasZero}

-- Bytes that spell an integer in one range spell it in each.
in_each : (s : Bool) (low high : ℤ) (nullable : Bool) (x : ℤ) (w : List ℕ) → SpellsInt true (record {
  is_signed = s;
  low = low;
  high = high;
}) nullable (Some x) w → IsShortest s nullable (Some x) w
in_each s low high nullable x w p = λ range e h. record {
  form = record {
    entity = p.form.entity;
    short = p.form.short;
    shortest = λ t o. p.form.shortest t (subst (λ (b : Bool). IsOverlong (λ u. if b then signed u else pos (number u)) w) e o);
  };
  meaning = subst (λ (b : Bool). Means nullable (if b then signed w else pos (number w)) (Some x)) (sym e) p.meaning;
  fits = h;
}

-- ten bytes hold it
signed_small : (nullable : Bool) (x : ℤ) → IsWithin (signed_range 68) x → mag (sent_for nullable x) < 64 * 128 ^ 9
signed_small false (pos n) h = omega (arith, ints, h)
signed_small false (negsuc n) h = omega (arith, ints, h)
signed_small true (pos n) h = omega (arith, ints, h)
signed_small true (negsuc n) h = omega (arith, ints, h)

signed_bytes : (nullable : Bool) (x : ℤ) → IsWithin (signed_range 68) x → (w : List ℕ) × IsShortest true nullable (Some x) w
signed_bytes nullable x h =
    let (w, p) = some_signed 9 x x nullable x (omega arith) (omega (arith, ints), omega (arith, ints)) (signed_small nullable x h) in
    (w, in_each true x x nullable x w p)

natural_small : (nullable : Bool) (n : ℕ) → n < 2 ^ 64 → raised_by nullable n < 128 ^ 10
natural_small false n h = omega (arith, h)
natural_small true n h = omega (arith, h)

natural_bytes : (nullable : Bool) (n : ℕ) → n < 2 ^ 64 → (w : List ℕ) × IsShortest false nullable (Some (pos n)) w
natural_bytes nullable n h =
    let (w, p) = some_unsigned 9 (pos n) nullable n (omega arith) (omega (arith, ints)) (natural_small nullable n h) in
    (w, in_each false (pos 0) (pos n) nullable (pos n) w p)

pair_bytes : (nullable : Bool) (x y : ℤ) → IsWithin (signed_range 68) x → IsWithin (signed_range 68) y → (w : List ℕ) × SpellsPair nullable x y w
pair_bytes nullable x y h i =
    let (u, s) = signed_bytes nullable x h in
    let (v, t) = signed_bytes false y i in
    (u ++ v, (u, v, s, t, refl))

-- texts
sized_bytes : (kind : Kind) → kind ≢ Ascii → (nullable : Bool) (t : List ℕ) → length t < 2 ^ 31 → (w : List ℕ) × SpellsPart kind nullable t w
sized_bytes kind other nullable t h = let (u, s) = natural_bytes nullable (length t) (omega (arith, h)) in (u ++ t, sized_spelled kind nullable t u other h s)

ascii_bytes : (nullable : Bool) (t : List ℕ) → IsSendablePart Ascii t → ((w : List ℕ) × SpellsPart Ascii nullable t w) ⊎ HasZero Ascii t
ascii_bytes nullable [] h = inl (empty_ascii nullable, λ room r. refl)
ascii_bytes nullable (c ∷ t) h = by (eqb_tells c 0)
  where
    by : ((nat_eq c 0 ≡ true) × (c ≡ 0)) ⊎ ((nat_eq c 0 ≡ false) × (c ≢ 0)) → ((w : List ℕ) × SpellsPart Ascii nullable (c ∷ t) w) ⊎ HasZero Ascii (c ∷ t)
    by (inl z) = inr (refl, (t, ap (λ (n : ℕ). n ∷ t) z.1))
    by (inr z) = inl (_, λ room r. ascii_spelled (c ∷ t) nullable room (length t) h.1 refl z.1 r)

part_bytes : (kind : Kind) (nullable : Bool) (t : List ℕ) → IsSendablePart kind t → ((w : List ℕ) × SpellsPart kind nullable t w) ⊎ HasZero kind t
part_bytes Ascii nullable t h = ascii_bytes nullable t h
part_bytes UInt32 nullable t h = inl (sized_bytes UInt32 (λ e. cc e) nullable t h)
part_bytes Int32 nullable t h = inl (sized_bytes Int32 (λ e. cc e) nullable t h)
part_bytes UInt64 nullable t h = inl (sized_bytes UInt64 (λ e. cc e) nullable t h)
part_bytes Int64 nullable t h = inl (sized_bytes Int64 (λ e. cc e) nullable t h)
part_bytes Decimal nullable t h = inl (sized_bytes Decimal (λ e. cc e) nullable t h)
part_bytes Unicode nullable t h = inl (sized_bytes Unicode (λ e. cc e) nullable t h)
part_bytes Bytes nullable t h = inl (sized_bytes Bytes (λ e. cc e) nullable t h)

-- values
value_bytes : (kind : Kind) (nullable : Bool) (v : ScalarData) → IsSendableValue kind v
    → ((w : List ℕ) × SpellsValue kind nullable v w) ⊎ HasZeroInFront kind (value v)
value_bytes UInt32 nullable (U n) h = inl (natural_bytes nullable n (omega (arith, h)))
value_bytes UInt64 nullable (U n) h = inl (natural_bytes nullable n h)
value_bytes Int32 nullable (I x) h = inl (signed_bytes nullable x (omega (arith, ints, h), omega (arith, ints, h)))
value_bytes Int64 nullable (I x) h = inl (signed_bytes nullable x (omega (arith, ints, h), omega (arith, ints, h)))
value_bytes Decimal nullable (Dec x y) (h, i) = inl (pair_bytes nullable x y (omega (arith, ints, h), omega (arith, ints, h))
    (omega (arith, ints, i), omega (arith, ints, i)))
value_bytes Ascii nullable (AsciiText t) h = by (ascii_bytes nullable t h)
  where
    by : ((w : List ℕ) × SpellsPart Ascii nullable t w) ⊎ HasZero Ascii t
        → ((w : List ℕ) × SpellsPart Ascii nullable t w) ⊎ HasZeroInFront Ascii (value (AsciiText t))
    by (inl s) = inl s
    by (inr z) = inr z.1
value_bytes Unicode nullable (UnicodeText t) h = inl (sized_bytes Unicode (λ e. cc e) nullable t h)
value_bytes Bytes nullable (ByteVector t) h = inl (sized_bytes Bytes (λ e. cc e) nullable t h)
value_bytes kind nullable v h = absurd h

-- items
pub item_bytes : (f : FieldData) (x : Sent) → IsSendable f x → ((w : List ℕ) × SpellsItem f x w) ⊎ HasZeroInFront f.kind x
item_bytes f nothing h = inl ([], refl)
item_bytes f null h = inl (0x80 ∷ [], refl)
item_bytes f (value v) h = value_bytes f.kind f.optional v h
item_bytes f (integer_delta k) h = inl (signed_bytes f.optional k h)
item_bytes f (decimal_delta k j) h = inl (pair_bytes f.optional k j h.0 h.1)
item_bytes f (text_delta k part) (h, i) = by (part_bytes f.kind false part i)
  where
    by : ((w : List ℕ) × SpellsPart f.kind false part w) ⊎ HasZero f.kind part
        → ((w : List ℕ) × SpellsItem f (text_delta k part) w) ⊎ HasZeroInFront f.kind (text_delta k part)
    by (inl (v, t)) = let (u, s) = signed_bytes f.optional k (omega (arith, ints, h), omega (arith, ints, h)) in inl (u ++ v, (u, v, s, t, refl))
    by (inr (e, z)) = inr (subst (λ (kind : Kind). HasZeroInFront kind (text_delta k part)) (sym e) z)
