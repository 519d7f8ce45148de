-- The bytes are written, or the line of their digits is.
use Rattle.std.proofs.Common.{◌≡◌, ◌∙◌, rules}
use Rattle.fast_decoder.proofs.streams.Carrying.{bytes_of}
use Rattle.fast_text.proofs.Writing.{writes_both}
use Rattle.fast_command.proofs.Parts.{is_put}
use Rattle.fast_convert.proofs.convert.write_bytes.Goals as goal

pub returns-clause-written : goal.returns-clause-written
returns-clause-written g c =
    let all = writes_both c.put_hex.ensures c.put.ensures in
    let same = c.finish.ensures.same_target ∙ all.same_target ∙ c.new-line.ensures.same_target in
    let whole = λ (ended : g.row.T.Denot) (e : ended ≡ c.finish.new.self.target.now).
    (is_put c.args.writer.now ended c.finish.result c.new-line.ensures.as_it_is e c.new-line.ensures.fresh all
    c.finish.ensures).whole in
    search (rules, whole, same)

pub returns-clause-part : goal.returns-clause-part
returns-clause-part g c =
    let all = writes_both c.put_hex.ensures c.put.ensures in
    let same = c.finish.ensures.same_target ∙ all.same_target ∙ c.new-line.ensures.same_target in
    let part = λ (ended : g.row.T.Denot) (e : ended ≡ c.finish.new.self.target.now).
    (is_put c.args.writer.now ended c.finish.result c.new-line.ensures.as_it_is e c.new-line.ensures.fresh all c.finish.ensures).part in
    search (rules, part, same)

pub returns-clause-fails : goal.returns-clause-fails
returns-clause-fails g c =
    let all = writes_both c.put_hex.ensures c.put.ensures in
    let same = c.finish.ensures.same_target ∙ all.same_target ∙ c.new-line.ensures.same_target in
    let fails = λ (ended : g.row.T.Denot) (e : ended ≡ c.finish.new.self.target.now).
    (is_put c.args.writer.now ended c.finish.result c.new-line.ensures.as_it_is e c.new-line.ensures.fresh all
    c.finish.ensures).fails in
    search (rules, fails, same)

pub returns-clause-stays : goal.returns-clause-stays
returns-clause-stays g c =
    let all = writes_both c.put_hex.ensures c.put.ensures in
    let same = c.finish.ensures.same_target ∙ all.same_target ∙ c.new-line.ensures.same_target in
    let stays = λ (ended : g.row.T.Denot) (e : ended ≡ c.finish.new.self.target.now).
    (is_put c.args.writer.now ended c.finish.result c.new-line.ensures.as_it_is e c.new-line.ensures.fresh all
    c.finish.ensures).stays in
    search (rules, stays, same)

pub returns-clause-bytes : goal.returns-clause-bytes
returns-clause-bytes g c = bytes_of c.args.bytes.now c.type_inv.bytes

pub returns-then-not-hex-clause-bytes : goal.returns-then-not-hex-clause-bytes
returns-then-not-hex-clause-bytes g c = bytes_of c.args.bytes.now c.type_inv.bytes
