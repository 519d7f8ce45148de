use Rattle.std.proofs.Common.{rules, arith, ◌++◌, []}
use Rattle.std.proofs.lemmas.Grind.{common_steps}
use Rattle.fast_lines.specs.meaning.Lines.{hex_byte}
use Rattle.fast_text.proofs.Writing.{writes_none, writes_more, writes_same}
use Rattle.fast_text.proofs.line_writer.LineWriter.put_hex.Goals as goal

pub loop-rest-init : goal.loop-rest-init
loop-rest-init g c = ([], search rules, writes_none _ _ _)

pub loop-rest-preserved : goal.loop-rest-preserved
loop-rest-preserved g c =
    let i = c.loop-rest.invariant in
    (i.0 ++ c.split_at.result.0.now, grind (arith, common_steps, i.1), writes_more [] hex_byte i.0 c.split_at.result.0.now i.2 c.put_hex_chunk.ensures)

pub returns : goal.returns
returns g c = let i = c.loop-rest.invariant in writes_same (grind (arith, common_steps, i.1)) i.2
