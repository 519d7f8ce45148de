use Rattle.fast_text.proofs.Writing.{writes_both}
use Rattle.fast_json.proofs.json_sink.put_message.Goals as goal

pub returns : goal.returns
returns g c = writes_both c.put.ensures (writes_both c.put_template.ensures c.put-2.ensures)
