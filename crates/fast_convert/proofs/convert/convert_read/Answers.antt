-- What becomes of the text that was read whole is what the run has done.
use Rattle.std.proofs.Common.{◌≡◌, rules}
use Rattle.fast_convert.specs.meaning.Converting.{IsWhole}
use Rattle.fast_convert.proofs.convert.convert_read.Goals as goal

pub returns-clause-converted : goal.returns-clause-converted
returns-clause-converted g c =
    let same : c.deref.result.now ≡ c.in-Ok.text.items = search (rules, c.deref.ensures.value) in
    let whole : IsWhole (g.S.Source.left c.args.reader.now) (g.S.Source.left c.read_whole.new.reader) c.in-Ok.text.items = record {
      read = c.in-Ok.ensures.whole;
      end = c.in-Ok.ensures.end;
      short = c.in-Ok.ensures.short;
    } in
    c.convert_text.ensures.converted _ _ _ (rw same whole)
