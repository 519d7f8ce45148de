use Rattle.std.proofs.Common.{arith, ◌≡◌, ◌++◌, ◌∙◌, length, take, ap}
use Rattle.std.proofs.lemmas.List.{length-take-le}
use Rattle.fast_units.proofs.NextTexts.{text_whole}
use Rattle.fast_units.proofs.units.short_text.Goals as goal

pub returns-clause-text : goal.returns-clause-text
returns-clause-text c nullable =
    let stop = c.in_ok-last.ensures in
    let len : length (take 16 c.args.rest.now) ≡ 16 = length-take-le 16 c.args.rest.now (omega arith) in
    text_whole nullable c.args.room c.args.rest.now c.requires.begins 16 c.in_ok-last.last c.append_front.new.self.text c.push.new.self.text
    (omega arith) (omega arith) stop.within stop.first stop.found (c.type_inv.rest c.in_ok-last.last).fits
    (c.append_front.ensures.text ∙ ap (λ t. t ++ take c.in_ok-last.last (take 16 c.args.rest.now)) c.requires.none) c.push.ensures.text
