-- From the tests of usable fields to facts.
use Rattle.std.proofs.Common.{◌≡◌, ℕ, ◌<◌, refl, ap, sym, ◌∙◌, arith, Some}
use Rattle.std.specs.Prelude.{Bool, true, false, ◌&&◌, nat_lt, is_some, Option, None}
use Rattle.std.proofs.lemmas.Bool.{ltb-true}
use Rattle.fast_value.specs.declared.kinds.Kind.{Kind}
use Rattle.fast_value.specs.declared.kinds.Kind.TheVariants.{UInt32, Int32, UInt64, Int64, Decimal, Ascii, Unicode, Bytes}
use Rattle.fast_value.specs.meaning.Kinds.{Family, integers, decimals, texts, family}
use Rattle.fast_tree.specs.declared.operators.Operator.{Operator}
use Rattle.fast_tree.specs.declared.operators.Operator.TheVariants.{Tail}
use Rattle.fast_tree.specs.meaning.Tree.{FieldData}
use Rattle.fast_tree.specs.meaning.Entries.{keeps_value}
use Rattle.fast_tree.specs.meaning.NodeData.{ShapeData, a_field, a_decimal, a_group, a_sequence}
use Rattle.fast_tree.specs.device.Usable.{is_texts, suits_tail, has_place, is_usable, is_uint32, is_int32, is_int64, is_usable_shape}
use Rattle.fast_tree.specs.meaning.Usable.{IsUsable, IsUsableShape}

-- both of two tests
pub both : (a b : Bool) → (a && b) ≡ true → (a ≡ true) × (b ≡ true)
both true b h = (refl, h)
both false b h = absurd (cc h)

place_kept : (entries : ℕ) (keeps : Bool) (o : Option ℕ) → has_place entries keeps o ≡ true → keeps ≡ is_some o
place_kept entries true None h = absurd (cc h)
place_kept entries false None h = refl
place_kept entries keeps (Some e) h = (both keeps (nat_lt e entries) h).0

place_within : (entries : ℕ) (keeps : Bool) (o : Option ℕ) → has_place entries keeps o ≡ true → (e : ℕ) → o ≡ Some e → e < entries
place_within entries keeps None h e at = absurd (cc at)
place_within entries keeps (Some d) h e at =
    let same : d ≡ e = cc at in
    let less : d < entries = ltb-true d entries (both keeps (nat_lt d entries) h).1 in
    omega arith

texts_told : (f : Family) → is_texts f ≡ true → f ≡ texts
texts_told (integers range) h = absurd (cc h)
texts_told decimals h = absurd (cc h)
texts_told texts h = refl

uint32_told : (k : Kind) → is_uint32 k ≡ true → k ≡ UInt32
uint32_told UInt32 h = refl
uint32_told Int32 h = absurd (cc h)
uint32_told UInt64 h = absurd (cc h)
uint32_told Int64 h = absurd (cc h)
uint32_told Decimal h = absurd (cc h)
uint32_told Ascii h = absurd (cc h)
uint32_told Unicode h = absurd (cc h)
uint32_told Bytes h = absurd (cc h)

int32_told : (k : Kind) → is_int32 k ≡ true → k ≡ Int32
int32_told UInt32 h = absurd (cc h)
int32_told Int32 h = refl
int32_told UInt64 h = absurd (cc h)
int32_told Int64 h = absurd (cc h)
int32_told Decimal h = absurd (cc h)
int32_told Ascii h = absurd (cc h)
int32_told Unicode h = absurd (cc h)
int32_told Bytes h = absurd (cc h)

int64_told : (k : Kind) → is_int64 k ≡ true → k ≡ Int64
int64_told UInt32 h = absurd (cc h)
int64_told Int32 h = absurd (cc h)
int64_told UInt64 h = absurd (cc h)
int64_told Int64 h = refl
int64_told Decimal h = absurd (cc h)
int64_told Ascii h = absurd (cc h)
int64_told Unicode h = absurd (cc h)
int64_told Bytes h = absurd (cc h)

tail_told : (o : Operator) (k : Kind) → o ≡ Tail → suits_tail o k ≡ true → family k ≡ texts
tail_told o k e h = texts_told (family k) (ap (λ p. suits_tail p k) (sym e) ∙ h)

-- A field that passes the test is usable.
pub usable_field : (entries : ℕ) (f : FieldData) → is_usable entries f ≡ true → IsUsable entries f
usable_field entries f h =
    let (place, tail) = both (has_place entries (keeps_value f.operator) f.entry) (suits_tail f.operator f.kind) h in
    record {
      kept = place_kept entries (keeps_value f.operator) f.entry place;
      within = place_within entries (keeps_value f.operator) f.entry place;
      tail = λ e. tail_told f.operator f.kind e tail;
    }

-- So are the fields of a shape.
pub usable_shape : (entries : ℕ) (s : ShapeData) → is_usable_shape entries s ≡ true → IsUsableShape entries s
usable_shape entries (a_field f) h = usable_field entries f h
usable_shape entries (a_decimal e m) h =
    let (a, b) = both (is_usable entries e && is_int32 e.kind) (is_usable entries m && is_int64 m.kind) h in
    let (ea, ek) = both (is_usable entries e) (is_int32 e.kind) a in
    let (ma, mk) = both (is_usable entries m) (is_int64 m.kind) b in
    (usable_field entries e ea, usable_field entries m ma, int32_told e.kind ek, int64_told m.kind mk)
usable_shape entries (a_group optional body) h = tt
usable_shape entries (a_sequence length body) h =
    let (a, k) = both (is_usable entries length) (is_uint32 length.kind) h in
    (usable_field entries length a, uint32_told length.kind k)
