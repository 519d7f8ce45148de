use Rattle.std.proofs.Common.{rules, ◌≡◌, ◌∙◌, ap, get_or}
use Rattle.fast_text.proofs.Writing.{writes_both, writes_same}
use Rattle.fast_json.specs.meaning.Json.{repeat_mark}
use Rattle.fast_json.specs.meaning.Keys.{repeats_in}
use Rattle.fast_json.proofs.keys.put_key.Goals as goal

pub returns : goal.returns
returns g c =
    let name = writes_same (c.as_bytes.ensures.value ∙ c.node_text.ensures) c.put-2.ensures in
    let repeat : c.repeat_of.result ≡ get_or (repeats_in c.args.keys.now) c.args.node 0 = search rules in
    writes_both c.put_comma.ensures (writes_both (writes_both (writes_both c.put.ensures name)
    (writes_same (ap repeat_mark repeat) c.put_mark.ensures)) c.put-3.ensures)
