-- One more than the entry holds is not sent.
use Rattle.std.proofs.Common.{refl, ap, ◌∙◌, sym}
use Rattle.fast_value.specs.declared.kinds.Kind.{Kind}
use Rattle.fast_value.specs.meaning.Kinds.{integer_of, value_of_integer}
use Rattle.fast_value.specs.meaning.Values.{scalar_data}
use Rattle.fast_tree.specs.meaning.Nodes.{field_data}
use Rattle.fast_dict.specs.meaning.Dictionary.{previous_at}
use Rattle.fast_dict.specs.meaning.Operators.{incremented, range_of}
use Rattle.fast_spelling.specs.device.Places.{field_there}
use Rattle.fast_spelling.proofs.rules.Usual.{step_same, step_other, value_sendable}
use Rattle.fast_spelling.proofs.quick.operators.write_next.Goals as goal

pub leave_out-requires-clause-ruled : goal.leave_out-requires-clause-ruled
leave_out-requires-clause-ruled c =
    let f = field_data (field_there c.args.at.place) in
    let u = scalar_data c.in-Some.held in
    step_same f (previous_at f.entry c.args.ledger.now.now) u (scalar_data c.args.value) c.requires.operator c.in-Some.ensures.value
    (ap (λ (k : Kind). value_of_integer k (incremented (range_of k) (integer_of u))) c.args.at.same_kind ∙ c.if-is_next.ensures.0 refl)

pub choose_known-requires-clause-served : goal.choose_known-requires-clause-served
choose_known-requires-clause-served c = c.requires.served

pub choose_known-requires-clause-suited : goal.choose_known-requires-clause-suited
choose_known-requires-clause-suited c = c.requires.suited

pub leave_out-requires-clause-operator : goal.leave_out-requires-clause-operator
leave_out-requires-clause-operator c = c.requires.operator

pub leave_out-requires-clause-served : goal.leave_out-requires-clause-served
leave_out-requires-clause-served c = c.requires.served

pub leave_out-requires-clause-suited : goal.leave_out-requires-clause-suited
leave_out-requires-clause-suited c = c.requires.suited

pub send-requires-clause-operator : goal.send-requires-clause-operator
send-requires-clause-operator c = c.requires.operator

pub send-requires-clause-served : goal.send-requires-clause-served
send-requires-clause-served c = c.requires.served

pub send-requires-clause-suited : goal.send-requires-clause-suited
send-requires-clause-suited c = c.requires.suited

pub returns-in-None-clause-ok : goal.returns-in-None-clause-ok
returns-in-None-clause-ok c = c.choose_known.ensures.ok

pub returns-in-None-clause-err : goal.returns-in-None-clause-err
returns-in-None-clause-err c = c.choose_known.ensures.err

pub returns-in-None-clause-keeps : goal.returns-in-None-clause-keeps
returns-in-None-clause-keeps c = c.choose_known.ensures.keeps

pub returns-in-Some-clause-ok : goal.returns-in-Some-clause-ok
returns-in-Some-clause-ok c = c.leave_out.ensures.ok

pub returns-in-Some-clause-err : goal.returns-in-Some-clause-err
returns-in-Some-clause-err c = c.leave_out.ensures.err

pub returns-in-Some-clause-keeps : goal.returns-in-Some-clause-keeps
returns-in-Some-clause-keeps c = record { before = c.leave_out.ensures.before; room = c.leave_out.ensures.max_text; count = c.leave_out.ensures.length }

pub returns-in-Some-2-clause-ok : goal.returns-in-Some-2-clause-ok
returns-in-Some-2-clause-ok c = c.send.ensures.ok

pub returns-in-Some-2-clause-err : goal.returns-in-Some-2-clause-err
returns-in-Some-2-clause-err c = c.send.ensures.err

pub returns-in-Some-2-clause-keeps : goal.returns-in-Some-2-clause-keeps
returns-in-Some-2-clause-keeps c = record { before = c.send.ensures.before; room = c.send.ensures.max_text; count = c.send.ensures.length }

pub send-requires-clause-ruled : goal.send-requires-clause-ruled
send-requires-clause-ruled c =
    let f = field_data (field_there c.args.at.place) in
    let u = scalar_data c.in-Some.held in
    step_other f (previous_at f.entry c.args.ledger.now.now) u (scalar_data c.args.value) c.requires.operator c.in-Some.ensures.value
    (λ e. absurd (cc (c.if-is_next.ensures.1 (sym (ap (λ (k : Kind). value_of_integer k (incremented (range_of k) (integer_of u))) c.args.at.same_kind) ∙ e))))

pub send-requires-clause-sendable : goal.send-requires-clause-sendable
send-requires-clause-sendable c = value_sendable (field_there c.args.at.place).kind
    (scalar_data c.args.value) c.args.ledger.now.max_text c.requires.served.small c.requires.suited.0 c.requires.suited.1
