use Rattle.fast_text.proofs.Writing.{writes_both}
use Rattle.fast_json.proofs.values.put_bytes.Goals as goal

pub returns : goal.returns
returns g c = writes_both (writes_both c.put.ensures c.put_hex.ensures) c.put-2.ensures
