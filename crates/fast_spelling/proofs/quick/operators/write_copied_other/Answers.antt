-- What the entry holds is not sent.
use Rattle.std.proofs.Common.{ℕ, [], ◌∷◌, refl, ap, sym, subst, ◌∙◌}
use Rattle.std.specs.Prelude.{false, Some}
use Rattle.std.proofs.lemmas.List.{append-nil}
use mathlib.Core.List.{not-mem-nil}
use Rattle.fast_value.specs.meaning.Values.{scalar_data}
use Rattle.fast_tree.specs.meaning.Nodes.{field_data}
use Rattle.fast_dict.specs.meaning.Dictionary.{assigned, previous_at}
use Rattle.fast_spelling.specs.device.Places.{field_there}
use Rattle.fast_spelling.specs.device.Fields.{IsSuited}
use Rattle.fast_spelling.proofs.rules.Usual.{copy_passed, copy_other, value_sendable}
use Rattle.fast_spelling.proofs.encodings.Progress.{keeps_all, on_handed_on}
use Rattle.fast_spelling.proofs.quick.operators.write_copied_other.Goals as goal

pub returns-in_ok-push_bit-in-Some-clause-ok : goal.returns-in_ok-push_bit-in-Some-clause-ok
returns-in_ok-push_bit-in-Some-clause-ok c = λ l same.
    let f = field_data (field_there c.args.at.place) in
    let v = scalar_data c.args.value in (
      false ∷ [],
      [],
      c.in_ok-push_bit-in-Some.ensures.bits,
      c.push_bit.ensures.bytes ∙ sym (append-nil c.args.draft.now.bytes.items),
      copy_passed l f c.args.ledger.now.now v c.requires.operator c.requires.served.usable.tail
          (subst (λ (m : ℕ). IsSuited m f (Some v)) (sym same) c.requires.suited)
          (c.in-Some.ensures.value ∙ ap (assigned f.kind) (c.if-is_same.ensures.0 refl)),
    )

pub held_in-requires : goal.held_in-requires
held_in-requires c = c.requires.served

pub choose_known-requires-clause-served : goal.choose_known-requires-clause-served
choose_known-requires-clause-served c = c.requires.served

pub choose_known-requires-clause-suited : goal.choose_known-requires-clause-suited
choose_known-requires-clause-suited c = c.requires.suited

pub send-requires-clause-operator : goal.send-requires-clause-operator
send-requires-clause-operator c = c.requires.operator

pub send-requires-clause-served : goal.send-requires-clause-served
send-requires-clause-served c = c.requires.served

pub send-requires-clause-suited : goal.send-requires-clause-suited
send-requires-clause-suited c = c.requires.suited

pub returns-in-None-clause-ok : goal.returns-in-None-clause-ok
returns-in-None-clause-ok c = c.choose_known.ensures.ok

pub returns-in-None-clause-err : goal.returns-in-None-clause-err
returns-in-None-clause-err c = c.choose_known.ensures.err

pub returns-in-None-clause-keeps : goal.returns-in-None-clause-keeps
returns-in-None-clause-keeps c = c.choose_known.ensures.keeps

pub returns-in_err-push_bit-in-Some-clause-keeps : goal.returns-in_err-push_bit-in-Some-clause-keeps
returns-in_err-push_bit-in-Some-clause-keeps c = keeps_all c.args.ledger.now

pub returns-in_ok-push_bit-in-Some-clause-keeps : goal.returns-in_ok-push_bit-in-Some-clause-keeps
returns-in_ok-push_bit-in-Some-clause-keeps c = keeps_all c.args.ledger.now

pub returns-in-Some-2-clause-ok : goal.returns-in-Some-2-clause-ok
returns-in-Some-2-clause-ok c = c.send.ensures.ok

pub returns-in-Some-2-clause-err : goal.returns-in-Some-2-clause-err
returns-in-Some-2-clause-err c = c.send.ensures.err

pub returns-in-Some-2-clause-keeps : goal.returns-in-Some-2-clause-keeps
returns-in-Some-2-clause-keeps c = record { before = c.send.ensures.before; room = c.send.ensures.max_text; count = c.send.ensures.length }

pub branch-push_bit-requires : goal.branch-push_bit-requires
branch-push_bit-requires c κs = (λ a m. absurd (not-mem-nil m), λ a m. absurd (not-mem-nil m))

pub from_residual-requires : goal.from_residual-requires
from_residual-requires c κs = (λ a m. absurd (not-mem-nil m), (λ a m. absurd (not-mem-nil m), λ a m. absurd (not-mem-nil m)))

pub returns-in_err-push_bit-in-Some-clause-ok : goal.returns-in_err-push_bit-in-Some-clause-ok
returns-in_err-push_bit-in-Some-clause-ok c = on_handed_on _ _ c.from_residual.result c.from_residual.ensures.1

pub send-requires-clause-ruled : goal.send-requires-clause-ruled
send-requires-clause-ruled c =
    let f = field_data (field_there c.args.at.place) in
    copy_other f (previous_at f.entry c.args.ledger.now.now) (scalar_data c.in-Some.held)
    (scalar_data c.args.value) c.requires.operator c.in-Some.ensures.value (λ e. absurd (cc (c.if-is_same.ensures.1 e)))

pub send-requires-clause-sendable : goal.send-requires-clause-sendable
send-requires-clause-sendable c = value_sendable (field_there c.args.at.place).kind
    (scalar_data c.args.value) c.args.ledger.now.max_text c.requires.served.small c.requires.suited.0 c.requires.suited.1
