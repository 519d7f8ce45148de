-- A message is refused as the rules say, or its bytes are appended.
use Rattle.std.proofs.Common.{◌≡◌, inl, inr, ℕ, List, ◌++◌, ap, sym, subst, ◌∙◌, refl}
use Rattle.std.specs.Prelude.{Bool, true, false, if◌then◌else◌, length, Option}
use Rattle.fast_value.specs.declared.messages.Item.{Item}
use Rattle.fast_value.specs.declared.settings.Limits.{Limits}
use Rattle.fast_value.specs.meaning.Views.{message_data, slots_data}
use Rattle.fast_tree.specs.meaning.Nodes.{body_among}
use Rattle.fast_tree.specs.meaning.Numbers.{AreBelow}
use Rattle.fast_dict.specs.meaning.Dictionary.{Dictionary}
use Rattle.fast_template.specs.declared.sets.Templates.{Templates}
use Rattle.fast_template.specs.meaning.Flat.{nodes_of, tree_of}
use Rattle.fast_template.proofs.SetTrees.{distinct_ids}
use Rattle.fast_machine.specs.device.Positions.{set_of}
use Rattle.fast_spelling.specs.declared.faults.EncodeFault.TheVariants.{E1, E2, E4}
use Rattle.fast_spelling.specs.meaning.Encoding.{EncodesMessage}
use Rattle.fast_spelling.specs.meaning.Ledgers.{LedgerData}
use Rattle.fast_spelling.specs.device.Nodes.{IsReady, Keeps}
use Rattle.fast_spelling.specs.meaning.Refusals.{IsRefused}
use Rattle.fast_spelling.specs.meaning.Suiting.{SuitsBody, SuitsTemplate, FitsLimits}
use Rattle.fast_spelling.proofs.encodings.Encoded.{encoded_is_spelled}
use Rattle.fast_spelling.proofs.encodings.Excluded.{refused_is_not_encoded}
use Rattle.fast_spelling.proofs.encodings.Whole.{template_suits}
use Rattle.fast_encoder.specs.meaning.Encoders.{EncoderData, IsEncoded, IsSound, IsToldOf, tree}
use Rattle.fast_encoder.proofs.Answered.{known_so, told_alone, late_refused, unsuited, unfit}
use mathlib.Core.List.{not-mem-nil}
use Rattle.fast_encoder.proofs.encoder.Encoder.encode_in_order.Goals as goal

-- The encoder as it was, by what is in it.
abbrev before : (t : Templates) → Limits → LedgerData → EncoderData
before t l s = record { set = set_of t; limits = l; dictionary = s.now }

e2_refused : (c : goal.Then-not-suits_body) → IsToldOf (before c.self.inside.plan.templates.now c.self.inside.plan.limits
    c.self.inside.work.ledger) (message_data c.args.message.now) E2
e2_refused c = inr (unsuited c.self.inside.plan.templates.now c.self.inside.plan.limits c.self.inside.work.ledger.now
    (message_data c.args.message.now) c.in-Some.id c.in-Some.template.now c.in-Some.ensures.template c.in-Some.ensures.known
    (λ suits. let wrong : false ≡ true = c.if-not-suits_body.ensures.1 (rw c.deref.ensures.value (rw c.deref-2.ensures.value suits)) in cc wrong))

pub returns-then-not-suits_body-clause-err : goal.returns-then-not-suits_body-clause-err
returns-then-not-suits_body-clause-err c = subst (λ (e : EncoderData). IsToldOf e (message_data c.args.message.now) E2) c.self.view_is (e2_refused c)

pub returns-then-not-suits_body-clause-told : goal.returns-then-not-suits_body-clause-told
returns-then-not-suits_body-clause-told c = λ f h.
    told_alone (tree c.args.self.now) c.args.self.now.limits c.args.self.now.dictionary (message_data c.args.message.now) E2 f
    (returns-then-not-suits_body-clause-err c) h

-- The slots suit the template, by the set's own names.
suits_so : (t : Templates) (ns ms : List ℕ) (xs ys : List (Option Item)) → ns ≡ ms → xs ≡ ys
    → SuitsBody (body_among (nodes_of t) ns) (slots_data xs) → SuitsBody (body_among (nodes_of t) ms) (slots_data ys)
suits_so t ns ms xs ys e f h = subst (λ (z : List (Option Item)). SuitsBody (body_among (nodes_of t) ms) (slots_data z)) f
    (subst (λ (z : List ℕ). SuitsBody (body_among (nodes_of t) z) (slots_data xs)) e h)

e4_refused : (c : goal.Then-not-fits_limits) → IsToldOf
    (before c.self.inside.plan.templates.now c.self.inside.plan.limits c.self.inside.work.ledger) (message_data c.args.message.now) E4
e4_refused c = inr (unfit c.self.inside.plan.templates.now c.self.inside.plan.limits c.self.inside.work.ledger.now
    (message_data c.args.message.now) c.in-Some.id c.in-Some.template.now c.in-Some.ensures.template c.in-Some.ensures.known
    (suits_so c.self.inside.plan.templates.now c.deref.result.now c.in-Some.template.now.body.items c.deref-2.result.now
    c.args.message.now.items.items c.deref.ensures.value c.deref-2.ensures.value (c.if-not-suits_body.ensures.0 refl))
    (λ fits. let wrong : false ≡ true = c.if-not-fits_limits.ensures.1 (rw c.deref-3.ensures.value fits) in cc wrong))

pub returns-then-not-fits_limits-clause-err : goal.returns-then-not-fits_limits-clause-err
returns-then-not-fits_limits-clause-err c = subst (λ (e : EncoderData). IsToldOf e (message_data c.args.message.now) E4) c.self.view_is (e4_refused c)

pub returns-then-not-fits_limits-clause-told : goal.returns-then-not-fits_limits-clause-told
returns-then-not-fits_limits-clause-told c = λ f h.
    told_alone (tree c.args.self.now) c.args.self.now.limits c.args.self.now.dictionary (message_data c.args.message.now) E4 f
    (returns-then-not-fits_limits-clause-err c) h

pub write_message-written-requires-clause-suits : goal.write_message-written-requires-clause-suits
write_message-written-requires-clause-suits c = template_suits c.self.inside.plan.templates.now
    (message_data c.args.message.now) c.in-Some.template.now c.in-Some.ensures.template
    (suits_so c.self.inside.plan.templates.now c.deref.result.now c.in-Some.template.now.body.items c.deref-2.result.now
    c.args.message.now.items.items c.deref.ensures.value c.deref-2.ensures.value (c.if-not-suits_body.ensures.0 refl))

-- the same where the message was refused
suited : (c : goal.After-take_back) → SuitsTemplate (tree_of c.self.inside.plan.templates.now) (message_data c.args.message.now)
suited c = template_suits c.self.inside.plan.templates.now (message_data c.args.message.now) c.in-Some.template.now c.in-Some.ensures.template
    (suits_so c.self.inside.plan.templates.now c.deref.result.now c.in-Some.template.now.body.items c.deref-2.result.now
    c.args.message.now.items.items c.deref.ensures.value c.deref-2.ensures.value (c.if-not-suits_body.ensures.0 refl))

fitted : (c : goal.After-take_back) → FitsLimits c.self.inside.plan.limits (slots_data c.args.message.now.items.items)
fitted c = subst (λ (z : List (Option Item)). FitsLimits c.self.inside.plan.limits (slots_data z)) c.deref-3.ensures.value (c.if-not-fits_limits.ensures.0 refl)

late_told : (c : goal.After-take_back) → IsToldOf (before c.self.inside.plan.templates.now c.self.inside.plan.limits
    c.self.inside.work.ledger) (message_data c.args.message.now) c.in-Err.fault
late_told c = late_refused (tree_of c.self.inside.plan.templates.now) c.self.inside.plan.limits c.self.inside.work.ledger.now
    (message_data c.args.message.now) c.in-Err.fault
    (known_so (tree_of c.self.inside.plan.templates.now) (message_data c.args.message.now) c.in-Some.id c.in-Some.ensures.known) (suited c)
    (fitted c) c.in-Err.ensures.err

pub returns-in-Err-clause-err : goal.returns-in-Err-clause-err
returns-in-Err-clause-err c = subst (λ (e : EncoderData). IsToldOf e (message_data c.args.message.now) c.in-Err.fault) c.self.view_is (late_told c)

pub returns-in-Err-clause-told : goal.returns-in-Err-clause-told
returns-in-Err-clause-told c = λ f h.
    told_alone (tree c.args.self.now) c.args.self.now.limits c.args.self.now.dictionary (message_data c.args.message.now) c.in-Err.fault f
    (returns-in-Err-clause-err c) h

-- the same where it was written
all_suit : (c : goal.After-commit) → SuitsTemplate (tree_of c.self.inside.plan.templates.now) (message_data c.args.message.now)
all_suit c = template_suits c.self.inside.plan.templates.now (message_data c.args.message.now) c.in-Some.template.now c.in-Some.ensures.template
    (suits_so c.self.inside.plan.templates.now c.deref.result.now c.in-Some.template.now.body.items c.deref-2.result.now
    c.args.message.now.items.items c.deref.ensures.value c.deref-2.ensures.value (c.if-not-suits_body.ensures.0 refl))

all_fit : (c : goal.After-commit) → FitsLimits c.self.inside.plan.limits (slots_data c.args.message.now.items.items)
all_fit c = subst (λ (z : List (Option Item)). FitsLimits c.self.inside.plan.limits (slots_data z)) c.deref-3.ensures.value
    (c.if-not-fits_limits.ensures.0 refl)

ruled : (c : goal.After-commit) → EncodesMessage (tree_of c.self.inside.plan.templates.now) c.self.inside.plan.limits
    c.self.inside.work.ledger.now (message_data c.args.message.now) c.write_message-written.new.draft.bytes.items c.commit.new.self.now
ruled c = rw c.commit.ensures.now c.in_default-written.ensures.ok

encoded : (c : goal.After-commit) → IsEncoded (before c.self.inside.plan.templates.now c.self.inside.plan.limits c.self.inside.work.ledger)
    (message_data c.args.message.now) c.args.out.now.items
    (before c.self.inside.plan.templates.now c.self.inside.plan.limits c.commit.new.self) c.extend_from_slice.new.self.items
encoded c = record {
  bytes = c.write_message-written.new.draft.bytes.items;
  appended = c.extend_from_slice.ensures.items ∙ ap (λ (b : Bool). if b then c.args.out.now.items
      ++ c.deref-4.result.now else c.args.out.now.items) c.if-is_err.ensures.negation
      ∙ ap (λ (z : List ℕ). c.args.out.now.items ++ z) c.deref-4.ensures.value;
  suits = all_suit c;
  fits = all_fit c;
  ruled = ruled c;
  spelled = encoded_is_spelled (tree_of c.self.inside.plan.templates.now) c.self.inside.plan.limits c.self.inside.work.ledger.now
      (message_data c.args.message.now) c.write_message-written.new.draft.bytes.items c.commit.new.self.now
      (distinct_ids c.self.inside.plan.templates.now) (all_suit c) (all_fit c) (ruled c);
}

pub returns-clause-ok : goal.returns-clause-ok
returns-clause-ok c = subst (λ (e : EncoderData). IsEncoded e (message_data c.args.message.now) c.args.out.now.items
    (before c.self.inside.plan.templates.now c.self.inside.plan.limits c.commit.new.self) c.extend_from_slice.new.self.items)
    c.self.view_is (encoded c)

pub returns-clause-told : goal.returns-clause-told
returns-clause-told c = λ f h.
    let refused : IsRefused (tree_of c.self.inside.plan.templates.now) c.self.inside.plan.limits c.self.inside.work.ledger.now
    (message_data c.args.message.now) f
    = subst (λ (e : EncoderData). IsRefused (tree e) e.limits e.dictionary (message_data c.args.message.now) f) (sym c.self.view_is) h in
    absurd (refused_is_not_encoded (tree_of c.self.inside.plan.templates.now) c.self.inside.plan.limits c.self.inside.work.ledger.now
    c.commit.new.self.now (message_data c.args.message.now) c.write_message-written.new.draft.bytes.items f (all_suit c) (all_fit c)
    (ruled c) refused)

pub known-requires : goal.known-requires
known-requires c = tt

pub returns-in_default-clause-ok : goal.returns-in_default-clause-ok
returns-in_default-clause-ok c = tt

pub deref-requires : goal.deref-requires
deref-requires c κs = (λ a m. absurd (not-mem-nil m), λ a m. absurd (not-mem-nil m))

pub deref-requires-2 : goal.deref-requires-2
deref-requires-2 c κs = (λ a m. absurd (not-mem-nil m), λ a m. absurd (not-mem-nil m))

pub returns-then-not-suits_body-clause-ok : goal.returns-then-not-suits_body-clause-ok
returns-then-not-suits_body-clause-ok c = tt

pub deref-requires-3 : goal.deref-requires-3
deref-requires-3 c κs = (λ a m. absurd (not-mem-nil m), λ a m. absurd (not-mem-nil m))

pub fits_limits-requires : goal.fits_limits-requires
fits_limits-requires c = tt

pub returns-then-not-fits_limits-clause-ok : goal.returns-then-not-fits_limits-clause-ok
returns-then-not-fits_limits-clause-ok c = tt

pub take_back-requires : goal.take_back-requires
take_back-requires c = tt

pub returns-in-Err-clause-ok : goal.returns-in-Err-clause-ok
returns-in-Err-clause-ok c = tt

pub deref-requires-4 : goal.deref-requires-4
deref-requires-4 c κs = (λ a m. absurd (not-mem-nil m), λ a m. absurd (not-mem-nil m))

pub extend_from_slice-requires : goal.extend_from_slice-requires
extend_from_slice-requires c κs = (λ a m. absurd (not-mem-nil m), λ a m. absurd (not-mem-nil m))

pub is_err-requires : goal.is_err-requires
is_err-requires c κs = (λ a m. absurd (not-mem-nil m), λ a m. absurd (not-mem-nil m))

pub take_back-requires-then-is_err : goal.take_back-requires-then-is_err
take_back-requires-then-is_err c = tt

pub returns-then-is_err-clause-ok : goal.returns-then-is_err-clause-ok
returns-then-is_err-clause-ok c = tt

pub commit-requires : goal.commit-requires
commit-requires c = tt

pub returns-clause-err : goal.returns-clause-err
returns-clause-err c = tt

pub returns-clause-unchanged : goal.returns-clause-unchanged
returns-clause-unchanged c = tt

pub returns-in_default-clause-err : goal.returns-in_default-clause-err
returns-in_default-clause-err c = subst (λ (e : EncoderData). IsToldOf e (message_data c.args.message.now) E1) c.self.view_is (inr c.in_default.ensures.unknown)

pub returns-in_default-clause-told : goal.returns-in_default-clause-told
returns-in_default-clause-told c = λ f h.
    told_alone (tree c.args.self.now) c.args.self.now.limits c.args.self.now.dictionary (message_data c.args.message.now) E1 f
    (returns-in_default-clause-err c) h

pub returns-in_default-clause-unchanged : goal.returns-in_default-clause-unchanged
returns-in_default-clause-unchanged c = (refl, refl)

pub returns-in_default-clause-same_set : goal.returns-in_default-clause-same_set
returns-in_default-clause-same_set c = (refl, refl)

pub returns-then-not-suits_body-clause-unchanged : goal.returns-then-not-suits_body-clause-unchanged
returns-then-not-suits_body-clause-unchanged c = (refl, refl)

pub returns-then-not-suits_body-clause-same_set : goal.returns-then-not-suits_body-clause-same_set
returns-then-not-suits_body-clause-same_set c = (refl, refl)

pub returns-then-not-fits_limits-clause-unchanged : goal.returns-then-not-fits_limits-clause-unchanged
returns-then-not-fits_limits-clause-unchanged c = (refl, refl)

pub returns-then-not-fits_limits-clause-same_set : goal.returns-then-not-fits_limits-clause-same_set
returns-then-not-fits_limits-clause-same_set c = (refl, refl)

pub returns-in-Err-clause-same_set : goal.returns-in-Err-clause-same_set
returns-in-Err-clause-same_set c = (ap (λ (e : EncoderData). e.set) c.self.view_is, ap (λ (e : EncoderData). e.limits) c.self.view_is)

pub returns-then-is_err-clause-same_set : goal.returns-then-is_err-clause-same_set
returns-then-is_err-clause-same_set c = (ap (λ (e : EncoderData). e.set) c.self.view_is, ap (λ (e : EncoderData). e.limits) c.self.view_is)

pub returns-clause-same_set : goal.returns-clause-same_set
returns-clause-same_set c = (ap (λ (e : EncoderData). e.set) c.self.view_is, ap (λ (e : EncoderData). e.limits) c.self.view_is)

pub returns-then-is_err-clause-err : goal.returns-then-is_err-clause-err
returns-then-is_err-clause-err c = inl refl

pub returns-then-is_err-clause-told : goal.returns-then-is_err-clause-told
returns-then-is_err-clause-told c = λ f h. inr refl

pub write_message-written-requires-clause-known : goal.write_message-written-requires-clause-known
write_message-written-requires-clause-known c = c.in-Some.ensures.known

pub write_message-written-requires-clause-ready : goal.write_message-written-requires-clause-ready
write_message-written-requires-clause-ready c = c.self.invariant.ready

pub write_message-written-requires-clause-fits : goal.write_message-written-requires-clause-fits
write_message-written-requires-clause-fits c = let fits = c.if-not-fits_limits.ensures.0 refl in rw c.deref-3.ensures.value at fits

pub suits_body-requires : goal.suits_body-requires
suits_body-requires c = subst (λ (ns : List ℕ). AreBelow (length (nodes_of c.self.inside.plan.templates.now)) ns)
    (sym c.deref.ensures.value) (c.self.inside.plan.templates.now.templates_name_nodes c.args.message.now.template c.in-Some.template.now
    c.in-Some.ensures.template)

-- A ledger that was taken back is as it was, and one that was committed is sound too.
taken_back : (old w new : LedgerData) → old.before ≡ old.now → w.before ≡ old.before → new.now ≡ w.before → new.now ≡ old.now
taken_back old w new committed kept back = back ∙ kept ∙ committed

sound_by : (t : Templates) (l : Limits) (old new : LedgerData) → IsReady t l old → length new.now ≡ length old.now
    → new.max_text ≡ old.max_text → new.before ≡ new.now → IsSound t l new
sound_by t l old new h count room committed = record {
  ready = record { entries = count ∙ h.entries; room = h.room ∙ sym room; small = h.small; initial = h.initial };
  committed = committed;
}

sound_back : (t : Templates) (l : Limits) (old w new : LedgerData) → IsSound t l old → Keeps old w → new.now ≡ w.before
    → new.before ≡ w.before → new.max_text ≡ w.max_text → IsSound t l new
sound_back t l old w new h kept now back room = sound_by t l old new h.ready (ap length (taken_back old w new h.committed kept.before now))
    (room ∙ kept.room) (back ∙ sym now)

as_before : (t : Templates) (l : Limits) (old w new : LedgerData) → IsSound t l old → Keeps old w → new.now ≡ w.before → before t l new ≡ before t l old
as_before t l old w new h kept now = ap (λ (d : Dictionary). record {
  set = set_of t;
  limits = l;
  dictionary = d;
}) (taken_back old w new h.committed kept.before now)

pub invariant_of-self : goal.invariant_of-self
invariant_of-self c = sound_back c.self.inside.plan.templates.now c.self.inside.plan.limits c.self.inside.work.ledger
    c.write_message-written.new.ledger c.take_back.new.self c.self.invariant c.write_message-written.ensures.keeps c.take_back.ensures.now
    c.take_back.ensures.before c.take_back.ensures.max_text

pub invariant_of-self-then-is_err : goal.invariant_of-self-then-is_err
invariant_of-self-then-is_err c = sound_back c.self.inside.plan.templates.now c.self.inside.plan.limits c.self.inside.work.ledger
    c.write_message-written.new.ledger c.take_back-then-is_err.new.self c.self.invariant c.write_message-written.ensures.keeps
    c.take_back-then-is_err.ensures.now c.take_back-then-is_err.ensures.before c.take_back-then-is_err.ensures.max_text

pub invariant_of-self-2 : goal.invariant_of-self-2
invariant_of-self-2 c =
    let kept = c.write_message-written.ensures.keeps in
    sound_by c.self.inside.plan.templates.now c.self.inside.plan.limits c.self.inside.work.ledger c.commit.new.self c.self.invariant.ready
    (ap length c.commit.ensures.now ∙ kept.count) (c.commit.ensures.max_text ∙ kept.room)
    (c.commit.ensures.before ∙ sym c.commit.ensures.now)

pub returns-in-Err-clause-unchanged : goal.returns-in-Err-clause-unchanged
returns-in-Err-clause-unchanged c = (
  as_before c.self.inside.plan.templates.now c.self.inside.plan.limits c.self.inside.work.ledger
      c.write_message-written.new.ledger c.take_back.new.self c.self.invariant c.write_message-written.ensures.keeps c.take_back.ensures.now
      ∙ c.self.view_is,
  refl,
)

pub returns-then-is_err-clause-unchanged : goal.returns-then-is_err-clause-unchanged
returns-then-is_err-clause-unchanged c = (
  as_before c.self.inside.plan.templates.now c.self.inside.plan.limits c.self.inside.work.ledger c.write_message-written.new.ledger
      c.take_back-then-is_err.new.self c.self.invariant c.write_message-written.ensures.keeps c.take_back-then-is_err.ensures.now
      ∙ c.self.view_is,
  c.extend_from_slice.ensures.items ∙ ap (λ (b : Bool). if b then c.args.out.now.items ++ c.deref-4.result.now else c.args.out.now.items)
      c.if-is_err.ensures.negation,
)
