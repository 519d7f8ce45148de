-- The terms without the slots are the terms, of whose result the slots are let go.
use Rattle.std.proofs.Common.{refl, sym, ap, ◌∙◌}
use mathlib.Core.Path.{fun_ext}
use Rattle.std.specs.Prelude.{◌≡◌, ℕ, zero, suc, Bool, true, false, List, Option, Some, None}
use Rattle.fast_wire.specs.meaning.Maps.{bits, first_bit, later_bits}
use Rattle.fast_value.specs.meaning.Kinds.{exponent_range, ScalarData, integer_of}
use Rattle.fast_value.specs.meaning.Limits.{Bounds}
use Rattle.fast_value.specs.meaning.Messages.{Slots, element, MessageData}
use Rattle.fast_value.specs.declared.codes.Code.TheVariants.{R1}
use Rattle.fast_tree.specs.meaning.Tree.{TemplateData, Tree, FieldData, identifier, Instruction, field, parts, group, sequence, Body, end, step, message_bits}
use Rattle.fast_dict.specs.meaning.Dictionary.{Dictionary}
use Rattle.fast_dict.specs.meaning.Operators.{ranged}
use Rattle.fast_stream.specs.meaning.Events.{EventData, MessageStart, GroupStart, GroupEnd, SequenceStart, ElementStart, ElementEnd, SequenceEnd, MessageEnd}
use Rattle.fast_stream.specs.meaning.Grammar.{Grammar, give, fault, hand, integer, ascii_text, raw, presence_map, narrow, ◌>>=◌, of_result}
use Rattle.fast_stream.specs.meaning.Messages.{Context, begin, State, Found, Read, ReadAll, Segment, with_slot, field_in, handed}
use Rattle.fast_stream.specs.meaning.Messages.{mantissa_after, own_bits, segment, elements, group_from, group_if, group_in, count_more}
use Rattle.fast_stream.specs.meaning.Messages.{length_in, sequence_from, instruction, body_term, decimal_with, template_of, reset_if}
use Rattle.fast_stream.specs.meaning.Messages.{message_of, message_behind, message_term}
use Rattle.fast_stream.specs.device.Continuations.{handed_then, mantissa_after_then, Inside, SegmentThen, segment_then, elements_then}
use Rattle.fast_stream.specs.device.Continuations.{group_from_then, group_if_then, group_in_then, sequence_from_then, instruction_then}
use Rattle.fast_stream.specs.device.Continuations.{body_then, message_of_then, message_then}

-- one after the other
pub assoc : {A B C : Type 0} (g : Grammar A) (k : A → Grammar B) (m : B → Grammar C) → ((g >>= k) >>= m) ≡ (g >>= (λ a. k a >>= m))
assoc (give a) k m = refl
assoc (fault c) k m = refl
assoc (hand e g) k m = ap (λ q. hand e q) (assoc g k m)
assoc (integer range nullable c g) k m = ap (λ q. integer range nullable c q) (fun_ext (λ x. assoc (g x) k m))
assoc (ascii_text nullable room g) k m = ap (λ q. ascii_text nullable room q) (fun_ext (λ x. assoc (g x) k m))
assoc (raw n g) k m = ap (λ q. raw n q) (fun_ext (λ x. assoc (g x) k m))
assoc (presence_map g) k m = ap (λ q. presence_map q) (fun_ext (λ x. assoc (g x) k m))
assoc (narrow n w g) k m = ap (λ q. narrow n w q) (assoc g k m)

-- With what follows passed along, t is g, of whose result f is what is kept.
pub record Follows {X A S : Type 0} (t : (S → Grammar X) → Grammar X) (g : Grammar A) (f : A → S) : Type 0 where
  pub same : (k : S → Grammar X) → t k ≡ (g >>= (λ a. k (f a)))

follows-bind : {X A B S U : Type 0} {t : (S → Grammar X) → Grammar X} {g : Grammar A} {f : A → S} {u : S → (U → Grammar X) → Grammar X}
    {q : A → Grammar B} {h : B → U}
    → Follows t g f → ((a : A) → Follows (u (f a)) (q a) h) → Follows (λ k. t (λ s. u s k)) (g >>= q) h
follows-bind {X} {A} {B} {S} {U} {t} {g} {f} {u} {q} {h} i j = record {
  same = λ k.
      i.same (λ s. u s k) ∙ ap (λ m. g >>= m) (fun_ext (λ a. (j a).same k)) ∙ sym (assoc g q (λ b. k (h b)));
}

-- the same phrase first
follows-next : {X A B U : Type 0} (g : Grammar A) {u : A → (U → Grammar X) → Grammar X} {q : A → Grammar B} {h : B → U}
    → ((a : A) → Follows (u a) (q a) h) → Follows (λ k. g >>= (λ a. u a k)) (g >>= q) h
follows-next g {u} {q} {h} j = record { same = λ k. ap (λ m. g >>= m) (fun_ext (λ a. (j a).same k)) ∙ sym (assoc g q (λ b. k (h b))) }

follows-then : {X A B S U : Type 0} {t : (S → Grammar X) → Grammar X} {r : Grammar A} {f : A → S} (h : A → B) (m : S → U) (g : B → U)
    → Follows t r f → ((a : A) → m (f a) ≡ g (h a)) → Follows (λ k. t (λ s. k (m s))) (r >>= (λ a. give (h a))) g
follows-then {X} {A} {B} {S} {U} {t} {r} {f} h m g j e =
    follows-bind {u = λ s k. k (m s)} {q = λ a. give (h a)} {h = g} j (λ a. record { same = λ k. ap k (e a) })

follows-emit : {X A S : Type 0} (e : EventData) {t : (S → Grammar X) → Grammar X} {r : Grammar A} {f : A → S} → Follows t r f
    → Follows (λ k. hand e (t k)) (hand e r) f
follows-emit e h = record { same = λ k. ap (λ q. hand e q) (h.same k) }

-- From here on the slots are let go.
abbrev state_of : Read → State
state_of r = r.1

follows-hand : {X : Type 0} (n : ℕ) (v : Option ScalarData) (s : State) → Follows {X = X} (λ k. handed_then n k v s) (handed n v s) state_of
follows-hand n None s = record { same = λ k. refl }
follows-hand n (Some v) s = record { same = λ k. refl }

follows-mantissa : {X : Type 0} (l : Bounds) (n : ℕ) (mantissa : FieldData) (e : Found)
    → Follows {X = X} (λ k. mantissa_after_then l n mantissa k e) (mantissa_after l n mantissa e) state_of
follows-mantissa l n mantissa (None, s) = record { same = λ k. refl }
follows-mantissa l n mantissa (Some e, s) = follows-next (of_result (ranged exponent_range R1 (integer_of e)))
    (λ x. follows-next (field_in l mantissa s) (λ m. follows-hand n (decimal_with x m.0) m.1))

abbrev behind : ReadAll → State
behind r = r.1

abbrev left : Slots × Context → Context
left r = r.1

follows-segment : {X : Type 0} (body : Body) {t : Inside X} {r : State → Grammar ReadAll} → ((s : State) → Follows (t s) (r s) behind)
    → (d : Context) → Follows {X = X} (segment_then body t d) (segment body r d) left
follows-segment body h d = follows-next (own_bits body) (λ b. follows-then (λ r. (r.0, r.1.context)) (λ s. s.context) left (h (record {
  context = d;
  bits = b;
})) (λ r. refl))

module _ {X : Type 0} {t : SegmentThen X} {r : Segment} (h : (d : Context) → Follows (t d) (r d) left) where
  follows-elements : (n : ℕ) (d : Context) → Follows {X = X} (elements_then t n d) (elements r n d) (λ x. x.1)
  follows-elements zero d = record { same = λ k. refl }
  follows-elements (suc n) d = follows-emit ElementStart (follows-bind (h d)
      (λ x. follows-emit ElementEnd (follows-then (λ rest. (element x.0 rest.0, rest.1)) (λ e. e) (λ x. x.1) (follows-elements n x.1)
      (λ rest. refl))))

  follows-group_from : (n : ℕ) (s : State) → Follows {X = X} (group_from_then n t s) (group_from n r s) state_of
  follows-group_from n s = follows-emit (GroupStart n) (follows-bind (h s.context) (λ x. follows-emit GroupEnd (record { same = λ k. refl })))

  follows-group_if : (b : Bool) (n : ℕ) (s : State) → Follows {X = X} (group_if_then b n t s) (group_if b n r s) state_of
  follows-group_if true n s = follows-group_from n s
  follows-group_if false n s = record { same = λ k. refl }

  follows-group : (b : Bool) (n : ℕ) (s : State) → Follows {X = X} (group_in_then b n t s) (group_in b n r s) state_of
  follows-group false n s = follows-group_from n s
  follows-group true n s = follows-group_if (first_bit s.bits) n (record s { bits = later_bits s.bits })

  follows-sequence : (l : Bounds) (n : ℕ) (x : Found) → Follows {X = X} (λ k. sequence_from_then l n t k x) (sequence_from l n r x) state_of
  follows-sequence l n (None, s) = record { same = λ k. refl }
  follows-sequence l n (Some v, s) = follows-next (of_result (length_in l s.context v))
      (λ count. follows-emit (SequenceStart n count) (follows-bind (follows-elements count (count_more count s.context))
      (λ x. follows-emit SequenceEnd (record { same = λ k. refl }))))

mutual
  unfolding instruction_then body_then instruction body_term

  follows-instruction : {X : Type 0} (l : Bounds) (i : Instruction) (s : State) → Follows {X = X} (instruction_then l i s) (instruction l i s) state_of
  follows-instruction l (field at f) s = follows-next (field_in l f s) (λ r. follows-hand at.node r.0 r.1)
  follows-instruction l (parts at exponent mantissa) s = follows-next (field_in l exponent s) (follows-mantissa l at.node mantissa)
  follows-instruction l (group at optional body) s = follows-group (follows-segment body (follows-body l body)) optional at.node s
  follows-instruction l (sequence at length body) s = follows-next (field_in l length s)
      (follows-sequence (follows-segment body (follows-body l body)) l at.node)

  follows-body : {X : Type 0} (l : Bounds) (b : Body) (s : State) → Follows {X = X} (body_then l b s) (body_term l b s) behind
  follows-body l end s = record { same = λ k. refl }
  follows-body l (step i is) s = follows-bind (follows-instruction l i s)
      (λ r. follows-then (λ rest. (with_slot r.0 rest.0, rest.1)) (λ e. e) behind (follows-body l is r.1) (λ rest. refl))

abbrev pub kept : MessageData × Dictionary → Grammar Dictionary
kept r = give r.1

message-of-same : (l : Bounds) (n : ℕ) (t : TemplateData) (s : State) → message_of_then l n t s ≡ (message_of l n t s >>= kept)
unfolding message_of_then
message-of-same l n t s = ap (λ q. hand (MessageStart n) q)
    ((follows-body l t.body (reset_if t.reset s)).same (λ r. hand MessageEnd (give r.context.dictionary))
    ∙ sym (assoc (body_term l t.body (reset_if t.reset s)) (λ r. hand MessageEnd (give (record { template = n; slots = r.0 }, r.1.context.dictionary))) kept))

pub message-same : (t : Tree) (l : Bounds) (d : Dictionary) → message_then t l d ≡ (message_term t l d >>= kept)
unfolding message_then message_term
message-same t l d =
    ap (λ q. presence_map q) (fun_ext (λ m.
    ap (λ q. field m >>= q) (fun_ext (λ id.
    ap (λ q. of_result (template_of t id.0) >>= q) (fun_ext (λ u. ap (λ q. narrow (message_bits u.1) m q) (message-of-same l u.0 u.1 id.1)))
    ∙ sym (assoc (of_result (template_of t id.0)) (λ u. narrow (message_bits u.1) m (message_of l u.0 u.1 id.1)) kept)))
    ∙ sym (assoc (field m) (λ id. message_behind t l m id) kept)))
  where
    field : List ℕ → Grammar Found
    field m = field_in l identifier (begin d (bits m))
