-- What is written suits and fits, and is appended.
use Rattle.std.proofs.Common.{refl, ℕ, List, ◌++◌, ap, subst, ◌∙◌}
use Rattle.std.specs.Prelude.{Bool, if◌then◌else◌}
use Rattle.fast_value.specs.declared.settings.Limits.{Limits}
use Rattle.fast_value.specs.meaning.Views.{message_data}
use Rattle.fast_template.specs.declared.sets.Templates.{Templates}
use Rattle.fast_template.specs.meaning.Flat.{tree_of}
use Rattle.fast_template.proofs.SetTrees.{distinct_ids}
use Rattle.fast_machine.specs.device.Positions.{set_of}
use Rattle.fast_spelling.specs.meaning.Encoding.{EncodesMessage}
use Rattle.fast_spelling.specs.meaning.Ledgers.{LedgerData}
use Rattle.fast_spelling.proofs.encodings.Encoded.{encoded_is_spelled}
use Rattle.fast_encoder.specs.meaning.Encoders.{EncoderData, IsEncoded}
use Rattle.fast_encoder.proofs.Answered.{never_true, never_false}
use mathlib.Core.List.{not-mem-nil}
use Rattle.fast_encoder.proofs.encoder.Encoder.try_encode.Goals as goal

-- The encoder as it was, by what is in it.
abbrev before : (t : Templates) → Limits → LedgerData → EncoderData
before t l s = record { set = set_of t; limits = l; dictionary = s.now }

ruled : (c : goal.After-commit) → EncodesMessage (tree_of c.self.inside.plan.templates.now) c.self.inside.plan.limits
    c.self.inside.work.ledger.now (message_data c.args.message.now) c.try_message-tried.new.work.draft.bytes.items c.commit.new.self.now
ruled c = rw c.commit.ensures.now c.in_default-tried.ensures.ok

encoded : (c : goal.After-commit) → IsEncoded (before c.self.inside.plan.templates.now c.self.inside.plan.limits c.self.inside.work.ledger)
    (message_data c.args.message.now) c.args.out.now.items
    (before c.self.inside.plan.templates.now c.self.inside.plan.limits c.commit.new.self) c.extend_from_slice.new.self.items
encoded c = record {
  bytes = c.try_message-tried.new.work.draft.bytes.items;
  appended = c.extend_from_slice.ensures.items ∙ ap (λ (b : Bool). if b then c.args.out.now.items
      ++ c.deref.result.now else c.args.out.now.items) c.if-is_err.ensures.negation
      ∙ ap (λ (z : List ℕ). c.args.out.now.items ++ z) c.deref.ensures.value;
  suits = c.in_default-tried.ensures.suits;
  fits = c.in_default-tried.ensures.fits;
  ruled = ruled c;
  spelled = encoded_is_spelled (tree_of c.self.inside.plan.templates.now) c.self.inside.plan.limits c.self.inside.work.ledger.now
      (message_data c.args.message.now) c.try_message-tried.new.work.draft.bytes.items c.commit.new.self.now
      (distinct_ids c.self.inside.plan.templates.now) c.in_default-tried.ensures.suits c.in_default-tried.ensures.fits (ruled c);
}

pub returns-clause-encoded : goal.returns-clause-encoded
returns-clause-encoded c = λ _. subst (λ (e : EncoderData). IsEncoded e (message_data c.args.message.now) c.args.out.now.items
    (before c.self.inside.plan.templates.now c.self.inside.plan.limits c.commit.new.self) c.extend_from_slice.new.self.items)
    c.self.view_is (encoded c)

pub known-requires : goal.known-requires
known-requires c = tt

pub take_back-requires : goal.take_back-requires
take_back-requires c = tt

pub deref-requires : goal.deref-requires
deref-requires c κs = (λ a m. absurd (not-mem-nil m), λ a m. absurd (not-mem-nil m))

pub extend_from_slice-requires : goal.extend_from_slice-requires
extend_from_slice-requires c κs = (λ a m. absurd (not-mem-nil m), λ a m. absurd (not-mem-nil m))

pub is_err-requires : goal.is_err-requires
is_err-requires c κs = (λ a m. absurd (not-mem-nil m), λ a m. absurd (not-mem-nil m))

pub take_back-requires-then-is_err : goal.take_back-requires-then-is_err
take_back-requires-then-is_err c = tt

pub commit-requires : goal.commit-requires
commit-requires c = tt

pub returns-in_default-clause-encoded : goal.returns-in_default-clause-encoded
returns-in_default-clause-encoded c = λ e. never_true e

pub returns-in-Err-clause-encoded : goal.returns-in-Err-clause-encoded
returns-in-Err-clause-encoded c = λ e. never_true e

pub returns-then-is_err-clause-encoded : goal.returns-then-is_err-clause-encoded
returns-then-is_err-clause-encoded c = λ e. never_true e

pub returns-clause-unchanged : goal.returns-clause-unchanged
returns-clause-unchanged c = λ e. never_false e

pub returns-in_default-clause-unchanged : goal.returns-in_default-clause-unchanged
returns-in_default-clause-unchanged c = λ e. (refl, refl)

pub returns-in_default-clause-same_set : goal.returns-in_default-clause-same_set
returns-in_default-clause-same_set c = (refl, refl)

pub returns-in-Err-clause-same_set : goal.returns-in-Err-clause-same_set
returns-in-Err-clause-same_set c = (ap (λ (e : EncoderData). e.set) c.self.view_is, ap (λ (e : EncoderData). e.limits) c.self.view_is)

pub returns-then-is_err-clause-same_set : goal.returns-then-is_err-clause-same_set
returns-then-is_err-clause-same_set c = (ap (λ (e : EncoderData). e.set) c.self.view_is, ap (λ (e : EncoderData). e.limits) c.self.view_is)

pub returns-clause-same_set : goal.returns-clause-same_set
returns-clause-same_set c = (ap (λ (e : EncoderData). e.set) c.self.view_is, ap (λ (e : EncoderData). e.limits) c.self.view_is)

pub try_message-tried-requires-clause-known : goal.try_message-tried-requires-clause-known
try_message-tried-requires-clause-known c = c.in-Some.ensures.known

pub try_message-tried-requires-clause-ready : goal.try_message-tried-requires-clause-ready
try_message-tried-requires-clause-ready c = c.self.invariant.ready
