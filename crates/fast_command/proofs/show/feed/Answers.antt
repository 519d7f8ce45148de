use Rattle.std.proofs.Common.{◌≡◌, ◌<◌, ◌∙◌, ap, refl, rules}
use Rattle.std.proofs.lemmas.List.Elements.{All-append}
use Rattle.fast_decoder.proofs.streams.Carrying.{bytes_of}
use Rattle.fast_template.specs.meaning.Flat.{tree_of}
use Rattle.fast_text.specs.meaning.Fronts.{set_of}
use Rattle.fast_command.proofs.Lined.{fed_by, fed_same_target}
use Rattle.fast_command.proofs.show.feed.Goals as goal

pub returns-clause-fed : goal.returns-clause-fed
returns-clause-fed g c b es set so =
    let old = c.args.decoder.now in
    let names = ap tree_of c.with_fronts-sink.ensures.set in
    let carried = c.feed.ensures.carried b es so in
    let are = All-append (λ b. b < 256) b c.args.bytes.now so.bytes (bytes_of c.args.bytes.now c.type_inv.bytes) in
    let same = fed_same_target g.T.Target.written g.T.Target.has_failed _ old.limits old c.feed.new.self b es c.args.bytes.now
    c.with_fronts-sink.result c.feed.new.sink c.feed.result names set refl are c.requires carried
    ∙ c.with_fronts-sink.ensures.same_target in
    let part = λ (ended : g.row.T.Denot) (e : ended ≡ c.feed.new.sink.target.now).
    fed_by g.T.Target.written g.T.Target.has_failed c.args.writer.now ended
    (tree_of (set_of c.args.fronts.now).now) old.limits old c.feed.new.self b es c.args.bytes.now c.with_fronts-sink.result
    c.feed.new.sink c.feed.result c.with_fronts-sink.ensures.as_it_is e names set refl are c.requires carried in
    part _ (search (rules, same))
