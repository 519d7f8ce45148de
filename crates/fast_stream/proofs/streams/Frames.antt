-- The turns of a machine with a stack of frames, one equation each.
use Rattle.std.proofs.Common.{refl, ap}
use mathlib.Core.Path.{fun_ext}
use Rattle.std.specs.Prelude.{◌≡◌, ℕ, zero, suc, Bool, true, false, List, [], ◌∷◌, Some, None}
use Rattle.fast_wire.specs.meaning.Maps.{first_bit, later_bits}
use Rattle.fast_value.specs.meaning.Kinds.{exponent_range, integer_of}
use Rattle.fast_value.specs.meaning.Limits.{Bounds}
use Rattle.fast_value.specs.declared.codes.Code.TheVariants.{R1}
use Rattle.fast_tree.specs.meaning.Tree.{Label, FieldData, field, parts, group, sequence, Body, end, step, TemplateData}
use Rattle.fast_dict.specs.meaning.Dictionary.{Dictionary}
use Rattle.fast_dict.specs.meaning.Operators.{ranged}
use Rattle.fast_stream.specs.meaning.Events.{GroupStart, GroupEnd, SequenceStart, ElementEnd, SequenceEnd, MessageStart, MessageEnd}
use Rattle.fast_stream.specs.meaning.Grammar.{Grammar, give, hand, ◌>>=◌, of_result}
use Rattle.fast_stream.specs.meaning.Messages.{Context, State, Found, field_in, count_more, length_in, decimal_with, reset_if}
use Rattle.fast_stream.specs.device.Continuations.{handed_then, segment_then, elements_then, group_if_then, sequence_from_then}
use Rattle.fast_stream.specs.device.Continuations.{instruction_then, body_then, message_of_then}
use Rattle.fast_stream.specs.device.Frames.{Frame, open_group, open_element, unwind, resume}
pub use Rattle.fast_stream.specs.device.Frames.{opened, elements_turn}

pub at_end : (l : Bounds) (fs : List Frame) (s : State) → resume l fs end s ≡ unwind l fs s.context
unfolding resume body_then
at_end l fs s = refl

pub at_field : (l : Bounds) (fs : List Frame) (at : Label) (f : FieldData) (is : Body) (s : State)
    → resume l fs (step (field at f) is) s ≡ (field_in l f s >>= (λ r. handed_then at.node (resume l fs is) r.0 r.1))
unfolding resume body_then instruction_then
at_field l fs at f is s = refl

abbrev pub mantissa_turn : Bounds → List Frame → ℕ → FieldData → Body → Found → Grammar Dictionary
mantissa_turn l fs n m is (None, s) = resume l fs is s
mantissa_turn l fs n m is (Some e, s) = of_result (ranged exponent_range R1 (integer_of e)) >>=
    (λ x. field_in l m s >>= (λ r. handed_then n (resume l fs is) (decimal_with x r.0) r.1))

pub at_parts : (l : Bounds) (fs : List Frame) (at : Label) (e m : FieldData) (is : Body) (s : State)
    → resume l fs (step (parts at e m) is) s ≡ (field_in l e s >>= mantissa_turn l fs at.node m is)
unfolding resume body_then instruction_then
at_parts l fs at e m is s = refl

pub at_group : (l : Bounds) (fs : List Frame) (at : Label) (body is : Body) (s : State)
    → resume l fs (step (group at false body) is) s ≡ hand (GroupStart at.node) (opened l (open_group is s.bits ∷ fs) body s.context)
unfolding resume body_then instruction_then unwind
at_group l fs at body is s = refl

abbrev pub group_turn : Bool → Bounds → List Frame → ℕ → Body → Body → State → Grammar Dictionary
group_turn true l fs n body is s = hand (GroupStart n) (opened l (open_group is s.bits ∷ fs) body s.context)
group_turn false l fs n body is s = resume l fs is s

optional : (b : Bool) (l : Bounds) (fs : List Frame) (n : ℕ) (body is : Body) (s : State)
    → group_if_then b n (segment_then body (body_then l body)) s (resume l fs is) ≡ group_turn b l fs n body is s
unfolding resume unwind
optional true l fs n body is s = refl
optional false l fs n body is s = refl

pub at_optional_group : (l : Bounds) (fs : List Frame) (at : Label) (body is : Body) (s : State)
    → resume l fs (step (group at true body) is) s ≡ group_turn (first_bit s.bits) l fs at.node body is (record s { bits = later_bits s.bits })
unfolding resume body_then instruction_then unwind
at_optional_group l fs at body is s = optional (first_bit s.bits) l fs at.node body is (record s { bits = later_bits s.bits })

-- so many elements more are counted
abbrev pub counting : ℕ → State → State
counting n s = record s { context = count_more n s.context }

abbrev pub sequence_turn : Bounds → List Frame → ℕ → Body → Body → Found → Grammar Dictionary
sequence_turn l fs n body is (None, s) = resume l fs is s
sequence_turn l fs n body is (Some v, s) = of_result (length_in l s.context v) >>=
    (λ count. hand (SequenceStart n count) (elements_turn l fs count body is (counting count s)))

elements-same : (l : Bounds) (fs : List Frame) (n : ℕ) (body is : Body) (s : State)
    → elements_then (segment_then body (body_then l body)) n s.context
    (λ d. hand SequenceEnd (resume l fs is (record s { context = d }))) ≡ elements_turn l fs n body is s
unfolding resume unwind
elements-same l fs zero body is s = refl
elements-same l fs (suc n) body is s = refl

pub sequence-same : (l : Bounds) (fs : List Frame) (n : ℕ) (body is : Body) (r : Found)
    → sequence_from_then l n (segment_then body (body_then l body)) (resume l fs is) r ≡ sequence_turn l fs n body is r
sequence-same l fs n body is (None, s) = refl
sequence-same l fs n body is (Some v, s) = ap (λ k. of_result (length_in l s.context v) >>= k)
    (fun_ext (λ c. ap (λ q. hand (SequenceStart n c) q) (elements-same l fs c body is (counting c s))))

pub at_sequence : (l : Bounds) (fs : List Frame) (at : Label) (f : FieldData) (body is : Body) (s : State)
    → resume l fs (step (sequence at f body) is) s ≡ (field_in l f s >>= sequence_turn l fs at.node body is)
unfolding resume body_then instruction_then unwind
at_sequence l fs at f body is s = ap (λ k. field_in l f s >>= k) (fun_ext (λ r. sequence-same l fs at.node body is r))

pub close_group : (l : Bounds) (fs : List Frame) (is : Body) (b : List Bool) (d : Context)
    → unwind l (open_group is b ∷ fs) d ≡ hand GroupEnd (resume l fs is (record { context = d; bits = b }))
unfolding resume unwind
close_group l fs is b d = refl

pub close_element : (l : Bounds) (fs : List Frame) (n : ℕ) (body is : Body) (b : List Bool) (d : Context)
    → unwind l (open_element n body is b ∷ fs) d ≡ hand ElementEnd (elements_turn l fs n body is (record { context = d; bits = b }))
unfolding resume unwind body_then
close_element l fs zero body is b d = refl
close_element l fs (suc n) body is b d = refl

pub close_message : (l : Bounds) (d : Context) → unwind l [] d ≡ hand MessageEnd (give d.dictionary)
unfolding unwind
close_message l d = refl

pub begin_message : (l : Bounds) (n : ℕ) (t : TemplateData) (s : State)
    → message_of_then l n t s ≡ hand (MessageStart n) (resume l [] t.body (reset_if t.reset s))
unfolding message_of_then resume unwind
begin_message l n t s = refl
