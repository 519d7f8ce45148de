-- The terms of the grammar in the form that a decoder keeps, with the rest of the message passed along: of the bytes read only the context
-- and the bits that are left, and not the slots. Each equation is a turn of a machine.
use Rattle.std.specs.Prelude.{ℕ, zero, suc, Bool, true, false, List, Option, Some, None}
use Rattle.fast_wire.specs.meaning.Maps.{bits, first_bit, later_bits}
use Rattle.fast_value.specs.meaning.Kinds.{exponent_range, ScalarData, integer_of}
use Rattle.fast_value.specs.meaning.Limits.{Bounds}
use Rattle.fast_value.specs.declared.codes.Code.TheVariants.{R1}
use Rattle.fast_tree.specs.meaning.Tree.{FieldData, identifier, Instruction, field, parts, group, sequence, Body, end, step, message_bits, TemplateData, Tree}
use Rattle.fast_dict.specs.meaning.Dictionary.{Dictionary}
use Rattle.fast_dict.specs.meaning.Operators.{ranged}
use Rattle.fast_stream.specs.meaning.Events.{MessageStart, FieldValue, GroupStart, GroupEnd, SequenceStart, ElementStart, ElementEnd, SequenceEnd, MessageEnd}
use Rattle.fast_stream.specs.meaning.Grammar.{Grammar, give, hand, presence_map, narrow, ◌>>=◌, of_result}
use Rattle.fast_stream.specs.meaning.Messages.{Context, begin, State, Found, field_in, decimal_with, own_bits, count_more, length_in, template_of, reset_if}

-- a value is emitted, if there is one
abbrev pub handed_then : {X : Type 0} → ℕ → (State → Grammar X) → Option ScalarData → State → Grammar X
handed_then n k None s = k s
handed_then n k (Some v) s = hand (FieldValue n v) (k s)

-- the mantissa after an exponent, if there is one
abbrev pub mantissa_after_then : {X : Type 0} → Bounds → ℕ → FieldData → (State → Grammar X) → Found → Grammar X
mantissa_after_then l n mantissa k (None, s) = k s
mantissa_after_then l n mantissa k (Some e, s) =
    of_result (ranged exponent_range R1 (integer_of e)) >>= (λ x.
    field_in l mantissa s >>= (λ m. handed_then n k (decimal_with x m.0) m.1))

-- the rest of a message from a state on
abbrev pub Inside : Type 0 → Type 0
Inside X = State → (State → Grammar X) → Grammar X

-- the rest of a message from a group, an element or a sequence on
abbrev pub SegmentThen : Type 0 → Type 0
SegmentThen X = Context → (Context → Grammar X) → Grammar X

-- a group or an element: its map, and then its instructions
abbrev pub segment_then : {X : Type 0} → Body → Inside X → SegmentThen X
segment_then body inside c k = own_bits body >>= (λ b. inside (record { context = c; bits = b }) (λ s. k s.context))

-- n elements
abbrev pub elements_then : {X : Type 0} → SegmentThen X → ℕ → SegmentThen X
elements_then inside zero c k = k c
elements_then inside (suc n) c k = hand ElementStart (inside c (λ d. hand ElementEnd (elements_then inside n d k)))

-- a mandatory group, or an optional one that is present
abbrev pub group_from_then : {X : Type 0} → ℕ → SegmentThen X → Inside X
group_from_then n inside s k = hand (GroupStart n) (inside s.context (λ c. hand GroupEnd (k (record s { context = c }))))

-- a group, if it is present
abbrev pub group_if_then : {X : Type 0} → Bool → ℕ → SegmentThen X → Inside X
group_if_then true n inside s k = group_from_then n inside s k
group_if_then false n inside s k = k s

-- a group, which uses a bit if it is optional
abbrev pub group_in_then : {X : Type 0} → Bool → ℕ → SegmentThen X → Inside X
group_in_then false n inside s k = group_from_then n inside s k
group_in_then true n inside s k = group_if_then (first_bit s.bits) n inside (record s { bits = later_bits s.bits }) k

-- a sequence after its length, if there is one
abbrev pub sequence_from_then : {X : Type 0} → Bounds → ℕ → SegmentThen X → (State → Grammar X) → Found → Grammar X
sequence_from_then l n inside k (None, s) = k s
sequence_from_then l n inside k (Some v, s) =
    of_result (length_in l s.context v) >>= (λ count.
    hand (SequenceStart n count) (elements_then inside count (count_more count s.context) (λ c.
    hand SequenceEnd (k (record s { context = c })))))

-- an instruction from a state on, and a body
unfoldable mutual
  pub instruction_then : {X : Type 0} → Bounds → Instruction → State → (State → Grammar X) → Grammar X
  instruction_then l (field at f) s k = field_in l f s >>= (λ r. handed_then at.node k r.0 r.1)
  instruction_then l (parts at exponent mantissa) s k = field_in l exponent s >>= mantissa_after_then l at.node mantissa k
  instruction_then l (group at optional body) s k = group_in_then optional at.node (segment_then body (body_then l body)) s k
  instruction_then l (sequence at length body) s k = field_in l length s >>= sequence_from_then l at.node (segment_then body (body_then l body)) k

  pub body_then : {X : Type 0} → Bounds → Body → State → (State → Grammar X) → Grammar X
  body_then l end s k = k s
  body_then l (step i is) s k = instruction_then l i s (λ r. body_then l is r k)

-- a message of a template from the state after its identifier on
unfoldable pub message_of_then : Bounds → ℕ → TemplateData → State → Grammar Dictionary
message_of_then l n t s = hand (MessageStart n) (body_then l t.body (reset_if t.reset s) (λ r. hand MessageEnd (give r.context.dictionary)))

-- a message after its identifier
abbrev pub message_behind_then : Tree → Bounds → List ℕ → Found → Grammar Dictionary
message_behind_then t l m id = of_result (template_of t id.0) >>= (λ u. narrow (message_bits u.1) m (message_of_then l u.0 u.1 id.1))

-- a message, which gives the dictionary after it
unfoldable pub message_then : Tree → Bounds → Dictionary → Grammar Dictionary
message_then t l d = presence_map (λ m. field_in l identifier (begin d (bits m)) >>= message_behind_then t l m)
