use Rattle.std.proofs.Common.{arith, ap, ◌∙◌, ◌++◌, get_or, subst}
use Rattle.std.specs.Prelude.{ℕ, ◌≡◌, ◌<◌, length, take}
use Rattle.std.proofs.lemmas.List.{length-take-le}
use Rattle.fast_units.proofs.NextTexts.{text_whole, text_long, text_cut}
use Rattle.fast_units.proofs.units.characters.Goals as goal

pub returns-in-Some-clause-text : goal.returns-in-Some-clause-text
returns-in-Some-clause-text c nullable =
    let stop = c.in-Some.ensures in
    text_whole nullable c.args.room c.args.rest.now c.requires.begins c.min.result c.in-Some.last c.append.new.self.text c.push.new.self.text
    (omega arith) (omega arith) stop.within stop.first stop.found (c.type_inv.rest c.in-Some.last).fits
    (c.append.ensures.text ∙ ap (λ t. t ++ take c.in-Some.last (take c.min.result c.args.rest.now)) c.requires.none) c.push.ensures.text

pub returns-then-here-rest-clause-text : goal.returns-then-here-rest-clause-text
returns-then-here-rest-clause-text c nullable =
    let len : length (take c.min.result c.args.rest.now) ≡ c.min.result = length-take-le c.min.result c.args.rest.now (omega arith) in
    let m : c.min.result ≡ c.args.room = omega arith in
    text_long nullable c.args.room c.args.rest.now c.requires.begins (omega arith)
    (subst (λ (m : ℕ). (k : ℕ) → k < length (take m c.args.rest.now) → get_or (take m c.args.rest.now) k 0 < 128) m c.in_default.ensures.none)

pub returns-clause-text : goal.returns-clause-text
returns-clause-text c nullable =
    let len : length (take c.min.result c.args.rest.now) ≡ c.min.result = length-take-le c.min.result c.args.rest.now (omega arith) in
    text_cut nullable c.args.room c.args.rest.now c.requires.begins c.min.result (omega arith) (omega arith) c.in_default.ensures.none
