use Rattle.std.proofs.Common.{arith, subst, ap, ◌∙◌, ◌-◌, ◌≡◌, ◌*◌, ◌<◌, ◌++◌, [], List, length, take, drop}
use Rattle.std.specs.Prelude.{min, Bool}
use Rattle.std.proofs.lemmas.List.{take_all, length-drop}
use Rattle.fast_wire.specs.meaning.Maps.{bits}
use Rattle.fast_cursor.specs.device.MapPlaces.{HasTop}
use Rattle.fast_cursor.proofs.MapBits.{length-bits}
use Rattle.fast_cursor.proofs.MapWords.{top-past, top-from}
use Rattle.fast_cursor.proofs.map_place.word_at.Goals as goal

pub returns-then-first-map : goal.returns-then-first-map
returns-then-first-map c =
    let size : length (bits c.args.map.now) ≡ 7 * length c.args.map.now = length-bits c.args.map.now in
    top-past (7 * c.args.first) (bits c.args.map.now) (omega (arith, size, c.if-first-map.true))

pub returns : goal.returns
returns c =
    let first = c.args.first in
    let size : length (drop first c.args.map.now) ≡ length c.args.map.now - first = length-drop first c.args.map.now in
    let same : take (length c.args.map.now - first) (drop first c.args.map.now) ≡ drop c.args.first c.args.map.now
    = take_all (length c.args.map.now - first) (drop first c.args.map.now) (omega (arith, size)) in
    let count : c.min.result ≡ min (length c.args.map.now - c.args.first) 8
    = c.min.ensures ∙ ap (λ w. min (length w) 8) same ∙ ap (λ n. min n 8) (length-drop c.args.first c.args.map.now) in
    top-from c.args.map.now c.args.first c.min.result c.word_of.result count
    (subst (λ w. (rest : List Bool) → (length (take c.min.result w) < 8 → rest ≡ [])
    → HasTop 56 c.word_of.result (bits (take c.min.result w) ++ rest)) same c.word_of.ensures)
