-- Segments and messages as terms.
use Rattle.std.specs.Prelude.{ℕ, zero, suc, ◌+◌, Bool, true, false, if◌then◌else◌, nat_eq, nat_le, nat_abs, List, [], ◌∷◌, ℤ, pos, Option}
use Rattle.std.specs.Prelude.{Some, None, Result, Ok, Err}
use Rattle.fast_wire.specs.meaning.Maps.{bits, first_bit, later_bits}
use Rattle.fast_value.specs.meaning.Kinds.{exponent_range, ScalarData, I, Dec, integer_of}
use Rattle.fast_value.specs.declared.settings.Limits.{Limits}
use Rattle.fast_value.specs.meaning.Limits.{Bounds, bounds}
use Rattle.fast_value.specs.meaning.Messages.{ItemData, one, group as group_item, sequence as sequence_item, Slots, no_slots, absent}
use Rattle.fast_value.specs.meaning.Messages.{present, Elements, no_elements, element, MessageData}
use Rattle.fast_value.specs.declared.codes.Code.{Code}
use Rattle.fast_value.specs.declared.codes.Code.TheVariants.{D9, L2, L5, R1}
use Rattle.fast_tree.specs.meaning.Tree.{FieldData, identifier, uses_bit, Instruction, field, parts, group, sequence, Body, end, step}
use Rattle.fast_tree.specs.meaning.Tree.{bits_of, has_map, message_bits, TemplateData, Tree}
use Rattle.fast_dict.specs.meaning.Dictionary.{Dictionary, previous_at, write_at, reset}
use Rattle.fast_dict.specs.meaning.Operators.{Outcome, ranged}
use Rattle.fast_stream.specs.meaning.Events.{MessageStart, FieldValue, GroupStart, GroupEnd, SequenceStart, ElementStart, ElementEnd}
use Rattle.fast_stream.specs.meaning.Events.{SequenceEnd, MessageEnd, events}
use Rattle.fast_stream.specs.meaning.Phrases.{whole, Phrase}
use Rattle.fast_stream.specs.meaning.Grammar.{Grammar, give, hand, presence_map, narrow, ◌>>=◌, of_result, phrase_of}
use Rattle.fast_stream.specs.meaning.Fields.{field_term}

-- The context that one segment passes on to the next: the dictionary, and the number of elements so far in the message.
pub record Context : Type 0 where
  pub dictionary : Dictionary
  pub counted : ℕ

-- The state that one instruction passes on to the next: the context, and the bits of the segment's map that are left.
pub record State : Type 0 where
  pub context : Context
  pub bits : List Bool

-- the state in which a message begins
abbrev pub begin : Dictionary → List Bool → State
begin d b = record { context = record { dictionary = d; counted = 0 }; bits = b }

-- the state with another dictionary
abbrev pub with_dictionary : Dictionary → Context → Context
with_dictionary d c = record c { dictionary = d }

-- a value, or absence, and the state after it
-- FAST 1.1: Transfer Encoding, Field Instructions.
abbrev pub Found : Type 0
Found = Option ScalarData × State

-- A field uses the next bit if it has one, and changes its own entry alone.
abbrev pub found : FieldData → State → Outcome → Found
found f s o = (
  o.value,
  record {
    context = with_dictionary (write_at f.entry o.next s.context.dictionary) s.context;
    bits = if uses_bit f then later_bits s.bits else s.bits;
  },
)

-- a field at a state
-- FAST 1.1: Transfer Encoding, Presence Map Utilization.
abbrev pub field_in : Bounds → FieldData → State → Grammar Found
field_in l f s = field_term l f (previous_at f.entry s.context.dictionary) (if uses_bit f then first_bit s.bits else true) >>= (λ o. give (found f s o))

-- the result of an instruction: its item, or absence, and the state after it
abbrev pub Read : Type 0
Read = Option ItemData × State

-- the result of a body: the slots of all its instructions, and the state after them
abbrev pub ReadAll : Type 0
ReadAll = Slots × State

-- an item, or absence, in front of the slots after it
abbrev pub with_slot : Option ItemData → Slots → Slots
with_slot None vs = absent vs
with_slot (Some x) vs = present x vs

-- A value is emitted when it is known. There is no event for an absent one.
abbrev pub handed : ℕ → Option ScalarData → State → Grammar Read
handed n None s = give (None, s)
handed n (Some v) s = hand (FieldValue n v) (give (Some (one v), s))

-- the signed number of a value, 0 if it has none: a mantissa is one
abbrev pub signed_of : ScalarData → ℤ
signed_of (I x) = x
signed_of v = pos 0

-- a decimal of an exponent and a mantissa, which may be absent
abbrev pub decimal_with : ℤ → Option ScalarData → Option ScalarData
decimal_with x None = None
decimal_with x (Some m) = Some (Dec x (signed_of m))

-- An exponent by parts lies in the range of exponents, whether it is sent or not. If it is absent, so is the decimal, and there is neither
-- a mantissa nor its bit.
-- FAST 1.1: Template Definition, Decimal Field Instruction; Error Codes, R1.
abbrev pub mantissa_after : Bounds → ℕ → FieldData → Found → Grammar Read
mantissa_after l n mantissa (None, s) = give (None, s)
mantissa_after l n mantissa (Some e, s) =
    of_result (ranged exponent_range R1 (integer_of e)) >>= (λ x.
    field_in l mantissa s >>= (λ m. handed n (decimal_with x m.0) m.1))

-- The bits of a map for n bits, or none if there is no map.
-- FAST 1.1: Transfer Encoding, Presence Map.
abbrev pub map_bits : ℕ → Bool → Grammar (List Bool)
map_bits n false = give []
map_bits n true = presence_map (λ m. narrow n m (give (bits m)))

-- A segment has a map of its own only if one of its instructions uses a bit.
-- FAST 1.1: Transfer Encoding, Segments.
abbrev pub own_bits : Body → Grammar (List Bool)
own_bits body = map_bits (bits_of body) (has_map body)

-- the result of groups, elements and sequences: slots, and the context after them
abbrev pub Segment : Type 0
Segment = Context → Grammar (Slots × Context)

-- a group or an element: its map, and then its instructions
-- FAST 1.1: Transfer Encoding, Segments; Error Codes, R8.
abbrev pub segment : Body → (State → Grammar ReadAll) → Segment
segment body inside c =
    own_bits body >>= (λ b.
    inside (record { context = c; bits = b }) >>= (λ r. give (r.0, r.1.context)))

-- n elements, one after the other
-- FAST 1.1: Template Definition, Sequence Field Instruction.
abbrev pub elements : Segment → ℕ → Context → Grammar (Elements × Context)
elements inside zero c = give (no_elements, c)
elements inside (suc n) c =
    hand ElementStart (inside c >>= (λ r.
    hand ElementEnd (elements inside n r.1 >>= (λ rest. give (element r.0 rest.0, rest.1)))))

-- a mandatory group, or an optional one that is present
-- FAST 1.1: Template Definition, Group Field Instruction.
abbrev pub group_from : ℕ → Segment → State → Grammar Read
group_from n inside s =
    hand (GroupStart n) (inside s.context >>= (λ r.
    hand GroupEnd (give (Some (group_item r.0), record s { context = r.1 }))))

-- a group, if it is present
-- FAST 1.1: Template Definition, Group Field Instruction.
abbrev pub group_if : Bool → ℕ → Segment → State → Grammar Read
group_if true n inside s = group_from n inside s
group_if false n inside s = give (None, s)

-- An optional group uses a bit, which is set if it is present.
-- FAST 1.1: Template Definition, Group Field Instruction.
abbrev pub group_in : Bool → ℕ → Segment → State → Grammar Read
group_in false n inside s = group_from n inside s
group_in true n inside s = group_if (first_bit s.bits) n inside (record s { bits = later_bits s.bits })

-- A number of elements within the limits: of one sequence first, then of the whole message with those counted before.
abbrev pub within_limits : Bounds → ℕ → ℕ → Result ℕ Code
within_limits l before n = if nat_le n l.max_elements then (if nat_le (before + n) l.max_total then Ok n else Err L5) else Err L2

-- the elements that a length claims
-- FAST 1.1: Template Definition, Sequence Field Instruction.
abbrev pub length_in : Bounds → Context → ScalarData → Result ℕ Code
length_in l c v = within_limits l c.counted (nat_abs (integer_of v))

-- n elements more are counted
abbrev pub count_more : ℕ → Context → Context
count_more n c = record c { counted = c.counted + n }

-- A sequence after its length. An absent length is an absent sequence.
-- FAST 1.1: Template Definition, Sequence Field Instruction.
abbrev pub sequence_from : Bounds → ℕ → Segment → Found → Grammar Read
sequence_from l n inside (None, s) = give (None, s)
sequence_from l n inside (Some v, s) =
    of_result (length_in l s.context v) >>= (λ count.
    hand (SequenceStart n count) (elements inside count (count_more count s.context) >>= (λ r.
    hand SequenceEnd (give (Some (sequence_item r.0), record s { context = r.1 })))))

-- an instruction from a state on, and a body
unfoldable mutual
  -- FAST 1.1: Template Definition, Field Instructions.
  pub instruction : Bounds → Instruction → State → Grammar Read
  instruction l (field at f) s = field_in l f s >>= (λ r. handed at.node r.0 r.1)
  instruction l (parts at exponent mantissa) s = field_in l exponent s >>= mantissa_after l at.node mantissa
  instruction l (group at optional body) s = group_in optional at.node (segment body (body_term l body)) s
  instruction l (sequence at length body) s = field_in l length s >>= sequence_from l at.node (segment body (body_term l body))

  pub body_term : Bounds → Body → State → Grammar ReadAll
  body_term l end s = give (no_slots, s)
  body_term l (step i is) s = instruction l i s >>= (λ r. body_term l is r.1 >>= (λ rest. give (with_slot r.0 rest.0, rest.1)))

-- a template's identifier, if it has one, is this one
-- FAST 1.1: Transfer Encoding, Template Identifier.
abbrev pub has_id : Option ℕ → ℕ → Bool
has_id None id = false
has_id (Some k) id = nat_eq k id

-- the template with an identifier, and its number, counted from n on
-- FAST 1.1: Transfer Encoding, Template Identifier; Error Codes, D9.
abbrev pub with_id : ℕ → ℕ → List TemplateData → Result (ℕ × TemplateData) Code
with_id id n [] = Err D9
with_id id n (t ∷ ts) = if has_id t.id id then Ok (n, t) else with_id id (suc n) ts

-- the template that an identifier's value names
-- FAST 1.1: Transfer Encoding, Template Identifier; Error Codes, D9.
abbrev pub template_of : Tree → Option ScalarData → Result (ℕ × TemplateData) Code
template_of t None = Err D9
template_of t (Some v) = with_id (nat_abs (integer_of v)) 0 t.templates

-- A template with the key `reset` resets all entries but the identifier's.
-- FAST 1.1: Template Definition, Dictionaries and Previous Values.
abbrev pub reset_if : Bool → State → State
reset_if true s = record s { context = with_dictionary (reset s.context.dictionary) s.context }
reset_if false s = s

-- a message of a template from the state after its identifier on
-- FAST 1.1: Transfer Encoding, Messages.
abbrev pub message_of : Bounds → ℕ → TemplateData → State → Grammar (MessageData × Dictionary)
message_of l n t s =
    hand (MessageStart n) (body_term l t.body (reset_if t.reset s) >>= (λ r.
    hand MessageEnd (give (record { template = n; slots = r.0 }, r.1.context.dictionary))))

-- After the identifier: a template that has it, whose segment does not require a shorter map, and its instructions.
-- FAST 1.1: Transfer Encoding, Messages.
abbrev pub message_behind : Tree → Bounds → List ℕ → Found → Grammar (MessageData × Dictionary)
message_behind t l m id =
    of_result (template_of t id.0) >>= (λ u.
    narrow (message_bits u.1) m (message_of l u.0 u.1 id.1))

-- A message: its map, the identifier as a field under the map's first bit, and the rest after that.
-- FAST 1.1: Transfer Encoding, Messages.
unfoldable pub message_term : Tree → Bounds → Dictionary → Grammar (MessageData × Dictionary)
message_term t l d =
    presence_map (λ m.
    field_in l identifier (begin d (bits m)) >>= message_behind t l m)

-- a message as a phrase
-- FAST 1.1: Transfer Encoding, Messages.
abbrev pub message : Tree → Limits → Dictionary → Phrase (MessageData × Dictionary)
message t l d = phrase_of l.strict (message_term t (bounds l) d)

-- The bytes encode the message, and lead from one dictionary to the other.
-- FAST 1.1: Transfer Encoding, Messages.
unfoldable pub SpellsMessage : Tree → Limits → Dictionary → MessageData → List ℕ → Dictionary → Type 0
SpellsMessage t l d m w d' = message t l d w (events t m) (whole (m, d'))
