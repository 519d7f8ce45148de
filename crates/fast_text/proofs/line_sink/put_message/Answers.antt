use Rattle.std.proofs.Common.{[], ◌∙◌}
use Rattle.std.proofs.lemmas.Option.{slice_get-get_or}
use Rattle.fast_text.proofs.Writing.{writes_both, writes_same}
use Rattle.fast_text.proofs.line_sink.put_message.Goals as goal

pub put_front-requires : goal.put_front-requires
put_front-requires g c = (c.requires.each c.args.template _ (slice_get-get_or c.args.messages.now c.args.template (record {
  cells = [];
  len = 0;
}) c.if-place-messages.true)).short

pub returns-then-messages-place-gt0 : goal.returns-then-messages-place-gt0
returns-then-messages-place-gt0 g c =
    let front = c.requires.each c.args.template _ (slice_get-get_or c.args.messages.now c.args.template (record {
      cells = [];
      len = 0;
    }) c.if-place-messages.true) in
    writes_same (front.made c.if-messages-place-gt0.true) c.put_front.ensures

pub returns-else-place-messages : goal.returns-else-place-messages
returns-else-place-messages g c = writes_both (writes_both c.put.ensures
    (writes_same (c.as_bytes.ensures.value ∙ c.template_text.ensures) c.put-else-place-messages.ensures))
    c.put-else-place-messages-2.ensures
