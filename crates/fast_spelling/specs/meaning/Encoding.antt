-- The bytes that an encoder chooses for a message: each bit and item by the rule, each map and integer the shortest.
use Rattle.std.specs.Prelude.{◌-◌, Ok, ◌≡◌, ℕ, Bool, true, false, if◌then◌else◌, List, [], ◌∷◌, ◌++◌, slice_get, slice_index_or, ℤ, Option, Some, None}
use Rattle.fast_wire.specs.meaning.Integers.{Range, signed_range, exponent_range, delta_range, SpellsInt}
use Rattle.fast_wire.specs.meaning.Texts.{SpellsAscii, SpellsVector, SpellsDec}
use Rattle.fast_wire.specs.meaning.Maps.{bits, IsMap}
use Rattle.fast_value.specs.declared.kinds.Kind.{Kind}
use Rattle.fast_value.specs.declared.kinds.Kind.TheVariants.{Ascii}
use Rattle.fast_value.specs.meaning.Kinds.{ScalarData, U, I, Dec, Family, integers, decimals, texts, family, value_of_integer, value_of_text}
use Rattle.fast_value.specs.declared.settings.Limits.{Limits}
use Rattle.fast_value.specs.meaning.Messages.{ItemData, one, group as group_item, sequence as sequence_item, Slots, no_slots, Elements}
use Rattle.fast_value.specs.meaning.Messages.{no_elements, element, count, MessageData}
use Rattle.fast_tree.specs.declared.operators.Operator.{Operator}
use Rattle.fast_tree.specs.declared.operators.Operator.TheVariants.{Delta}
use Rattle.fast_tree.specs.meaning.Tree.{FieldData, identifier, uses_bit, Instruction, field, parts, group, sequence, Body, end, step}
use Rattle.fast_tree.specs.meaning.Tree.{has_map, TemplateData, Tree}
use Rattle.fast_dict.specs.meaning.Dictionary.{Dictionary, PreviousData, previous_at, write_at, reset}
use Rattle.fast_dict.specs.meaning.Operators.{Sent, nothing, null, value, integer_delta, decimal_delta, text_delta, Kept, kept_length, subtraction_step, Op}
use Rattle.fast_dict.specs.meaning.Rule.{Rule}
use Rattle.fast_stream.specs.meaning.Messages.{with_slot}

-- the shortest form of an integer is the one that strict mode takes
-- FAST 1.1: Transfer Encoding, Integers; Error Codes, R6.
abbrev pub Shortest : Range → Bool → Option ℤ → List ℕ → Type 0
Shortest range nullable x w = SpellsInt true range nullable x w

-- the shortest form of a text
-- FAST 1.1: Transfer Encoding, ASCII Strings, Unicode Strings and Byte Vectors.
abbrev pub ShortestText : Kind → Bool → ℕ → Option (List ℕ) → List ℕ → Type 0
ShortestText Ascii nullable room v w = SpellsAscii nullable room v w
ShortestText kind nullable room v w = SpellsVector true nullable room v w

-- NULL in the place of a value
-- FAST 1.1: Transfer Encoding, Nullable Types.
abbrev pub ShortestNull : Limits → FieldData → Family → List ℕ → Type 0
ShortestNull l f (integers range) w = Shortest range f.optional None w
ShortestNull l f decimals w = Shortest exponent_range f.optional None w
ShortestNull l f texts w = ShortestText f.kind f.optional l.max_text None w

-- NULL in the place of a delta
-- FAST 1.1: Transfer Encoding, Nullable Types.
abbrev pub ShortestNoDelta : FieldData → Family → List ℕ → Type 0
ShortestNoDelta f texts w = Shortest (signed_range 31) f.optional None w
ShortestNoDelta f other w = Shortest delta_range f.optional None w

-- A value of the field's kind, as it is.
-- FAST 1.1: Transfer Encoding, Field Instructions.
abbrev pub ShortestValue : Limits → FieldData → Family → ScalarData → List ℕ → Type 0
ShortestValue l f (integers range) v w = (x : ℤ) × (v ≡ value_of_integer f.kind x) × Shortest range f.optional (Some x) w
ShortestValue l f decimals v w = (e m : ℤ) × (v ≡ Dec e m) × SpellsDec true exponent_range (signed_range 63) f.optional (Some (e, m)) w
ShortestValue l f texts v w = (t : List ℕ) × (v ≡ value_of_text f.kind t) × ShortestText f.kind f.optional l.max_text (Some t) w

-- NULL under the operator
-- FAST 1.1: Transfer Encoding, Nullable Types.
abbrev pub ShortestNullOf : Limits → FieldData → Operator → List ℕ → Type 0
ShortestNullOf l f Delta w = ShortestNoDelta f (family f.kind) w
ShortestNullOf l f operator w = ShortestNull l f (family f.kind) w

-- The bytes of an item. A text delta's part has the room that is left beside what is kept.
-- FAST 1.1: Template Definition, Field Operators.
abbrev pub SpellsSentBy : Operator → Limits → FieldData → PreviousData → Sent → List ℕ → Type 0
SpellsSentBy o l f p nothing w = w ≡ []
SpellsSentBy o l f p null w = ShortestNullOf l f o w
SpellsSentBy o l f p (value v) w = ShortestValue l f (family f.kind) v w
SpellsSentBy o l f p (integer_delta k) w = Shortest delta_range f.optional (Some k) w
SpellsSentBy o l f p (decimal_delta k j) w = SpellsDec true delta_range delta_range f.optional (Some (k, j)) w
SpellsSentBy o l f p (text_delta k part) w = (kept : Kept) × (u v : List ℕ) × (subtraction_step f p k ≡ Ok kept)
    × Shortest (signed_range 31) f.optional (Some k) u × ShortestText f.kind false (l.max_text - kept_length kept) (Some part) v × (w ≡ u ++ v)

-- the bytes of the field's item
-- FAST 1.1: Transfer Encoding, Field Instructions.
abbrev pub SpellsSent : Limits → FieldData → PreviousData → Sent → List ℕ → Type 0
SpellsSent l f p item w = SpellsSentBy f.operator l f p item w

-- A field: the bit it uses, if it uses one, its bytes, and the dictionary behind it.
-- FAST 1.1: Transfer Encoding, Presence Map Utilization.
abbrev pub EncodesField : Limits → FieldData → Dictionary → Option ScalarData → List Bool → List ℕ → Dictionary → Type 0
EncodesField l f d v b w d' = (bit : Bool) × (item : Sent) × (next : PreviousData)
    × Rule f (previous_at f.entry d) v bit item × SpellsSent l f (previous_at f.entry d) item w × Op f (previous_at f.entry d) bit item v next
    × (b ≡ (if uses_bit f then bit ∷ [] else [])) × (d' ≡ write_at f.entry next d)

-- the same bits, with zeros behind the last for ever
-- FAST 1.1: Transfer Encoding, Presence Map.
abbrev pub SameBits : List Bool → List Bool → Type 0
SameBits a b = (i : ℕ) → slice_index_or a i false ≡ slice_index_or b i false

-- the shortest map of these bits, and nothing where a segment has no map
-- FAST 1.1: Transfer Encoding, Presence Map; Error Codes, R7.
abbrev pub ShortestMap : Bool → List Bool → List ℕ → Type 0
ShortestMap false b m = m ≡ []
ShortestMap true b m = IsMap true m × SameBits (bits m) b

-- A part encodes a thing from one dictionary to the next, with the bits that it uses and its bytes.
abbrev pub Encoder : Type 0 → Type 1
Encoder A = Dictionary → A → List Bool → List ℕ → Dictionary → Type 0

-- a group or an element: its map, then what its instructions encode
-- FAST 1.1: Transfer Encoding, Segments.
abbrev pub EncodesSegment : Body → Encoder Slots → Dictionary → Slots → List ℕ → Dictionary → Type 0
EncodesSegment body inside d vs w d' = (b : List Bool) × (m v : List ℕ) × inside d vs b v d' × ShortestMap (has_map body) b m × (w ≡ m ++ v)

-- the elements one after the other
-- FAST 1.1: Template Definition, Sequence Field Instruction.
abbrev pub EncodesElements : (Dictionary → Slots → List ℕ → Dictionary → Type 0) → Dictionary → Elements → List ℕ → Dictionary → Type 0
EncodesElements inside d no_elements w d' = (w ≡ []) × (d' ≡ d)
EncodesElements inside d (element vs rest) w d' = (u v : List ℕ) × (mid : Dictionary) × inside d vs u mid × EncodesElements inside mid rest v d' × (w ≡ u ++ v)

-- a decimal by parts: its exponent and, if that is there, its mantissa
-- FAST 1.1: Template Definition, Decimal Field Instruction.
abbrev pub EncodesDecimal : Limits → FieldData → FieldData → Encoder (Option ItemData)
EncodesDecimal l e m d None b w d' = EncodesField l e d None b w d'
EncodesDecimal l e m d (Some (one (Dec x y))) b w d' = (b1 b2 : List Bool) × (u v : List ℕ) × (mid : Dictionary)
    × EncodesField l e d (Some (I x)) b1 u mid × EncodesField l m mid (Some (I y)) b2 v d' × (b ≡ b1 ++ b2) × (w ≡ u ++ v)
EncodesDecimal l e m d (Some other) b w d' = ⊥

-- a field as a slot
-- FAST 1.1: Transfer Encoding, Field Instructions.
abbrev pub EncodesScalar : Limits → FieldData → Encoder (Option ItemData)
EncodesScalar l f d None b w d' = EncodesField l f d None b w d'
EncodesScalar l f d (Some (one v)) b w d' = EncodesField l f d (Some v) b w d'
EncodesScalar l f d (Some other) b w d' = ⊥

-- a group: its bit, if it is optional, and its segment
-- FAST 1.1: Template Definition, Group Field Instruction.
abbrev pub EncodesGroup : Bool → (Dictionary → Slots → List ℕ → Dictionary → Type 0) → Encoder (Option ItemData)
EncodesGroup optional inside d None b w d' = (optional ≡ true) × (b ≡ false ∷ []) × (w ≡ []) × (d' ≡ d)
EncodesGroup optional inside d (Some (group_item vs)) b w d' = (b ≡ (if optional then true ∷ [] else [])) × inside d vs w d'
EncodesGroup optional inside d (Some other) b w d' = ⊥

-- a sequence: its length and its elements
-- FAST 1.1: Template Definition, Sequence Field Instruction.
abbrev pub EncodesSequence : Limits → FieldData → (Dictionary → Slots → List ℕ → Dictionary → Type 0) → Encoder (Option ItemData)
EncodesSequence l f inside d None b w d' = EncodesField l f d None b w d'
EncodesSequence l f inside d (Some (sequence_item rows)) b w d' = (u v : List ℕ) × (mid : Dictionary)
    × EncodesField l f d (Some (U (count rows))) b u mid × EncodesElements inside mid rows v d' × (w ≡ u ++ v)
EncodesSequence l f inside d (Some other) b w d' = ⊥

-- An instruction's item, or its absence, and the slots of a body: bits, bytes and the dictionary behind them.
unfoldable mutual
  -- FAST 1.1: Template Definition, Field Instructions.
  pub Encodes : Limits → Instruction → Dictionary → Option ItemData → List Bool → List ℕ → Dictionary → Type 0
  Encodes l (field at f) = EncodesScalar l f
  Encodes l (parts at e m) = EncodesDecimal l e m
  Encodes l (group at optional body) = EncodesGroup optional (EncodesSegment body (EncodesBody l body))
  Encodes l (sequence at length body) = EncodesSequence l length (EncodesSegment body (EncodesBody l body))

  pub EncodesBody : Limits → Body → Dictionary → Slots → List Bool → List ℕ → Dictionary → Type 0
  EncodesBody l end d vs b w d' = (vs ≡ no_slots) × (b ≡ []) × (w ≡ []) × (d' ≡ d)
  EncodesBody l (step i is) d vs b w d' = (x : Option ItemData) × (rest : Slots) × (b1 b2 : List Bool) × (u v : List ℕ) × (mid : Dictionary)
      × Encodes l i d x b1 u mid × EncodesBody l is mid rest b2 v d' × (vs ≡ with_slot x rest) × (b ≡ b1 ++ b2) × (w ≡ u ++ v)

-- The map, the identifier, the template's reset, and its instructions.
-- FAST 1.1: Transfer Encoding, Messages.
unfoldable pub EncodesMessage : Tree → Limits → Dictionary → MessageData → List ℕ → Dictionary → Type 0
EncodesMessage t l d m w d' = (u : TemplateData) × (id : ℕ) × (b1 b2 : List Bool) × (map x v : List ℕ) × (mid : Dictionary)
    × (slice_get t.templates m.template ≡ Some u) × (u.id ≡ Some id)
    × EncodesField l identifier d (Some (U id)) b1 x mid
    × EncodesBody l u.body (if u.reset then reset mid else mid) m.slots b2 v d'
    × ShortestMap true (b1 ++ b2) map × (w ≡ map ++ x ++ v)
