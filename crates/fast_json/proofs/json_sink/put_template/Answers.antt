use Rattle.std.proofs.Common.{◌∙◌}
use Rattle.fast_text.proofs.Writing.{writes_both, writes_same}
use Rattle.fast_json.proofs.json_sink.put_template.Goals as goal

pub returns : goal.returns
returns g c =
    let name = writes_same (c.as_bytes.ensures.value ∙ c.template_text.ensures) c.put.ensures in
    writes_both (writes_both name c.put-2.ensures) (writes_same c.template_id.ensures c.put_id.ensures)
