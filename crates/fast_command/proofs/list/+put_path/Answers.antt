use Rattle.std.proofs.Common.{ap, sym}
use Rattle.fast_text.proofs.Writing.{writes_both, writes_same}
use Rattle.fast_command.specs.device.Paths.{path_text}
use Rattle.fast_command.proofs.list.+put_path.Goals as goal

pub returns-in-Within : goal.returns-in-Within
returns-in-Within g t c =
    let name = writes_same c.as_bytes.ensures.value c.put.ensures in
    writes_same (ap path_text (sym c.in-Within.is)) (writes_both (writes_both c.put_path.ensures name) c.put-in-Within.ensures)
