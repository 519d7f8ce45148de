use Rattle.std.proofs.Common.{sym, ap, ◌≡◌, subst, arith, refl, length, take, ◌^◌, ◌*◌, ◌%◌, ◌-◌, ◌<◌}
use Rattle.std.specs.Prelude.{◌+◌, ◌≤◌, [], ◌++◌, List, ℕ, Bool}
use Rattle.std.proofs.lemmas.List.{length-take-le, append-nil}
use Rattle.fast_wire.specs.meaning.Maps.{bits}
use Rattle.fast_cursor.specs.device.MapPlaces.{HasTop}
use Rattle.fast_cursor.proofs.MapWords.{top-word}
use Rattle.fast_cursor.proofs.MapMarks.{word-whole, marked-left, used-none}
use Rattle.fast_cursor.proofs.MapTakings.{entity-some}
use Rattle.fast_cursor.proofs.map_place.MapPlace.of_entity.Goals as goal

pub returns-clause-place : goal.returns-clause-place
returns-clause-place c w h =
    let len = c.args.map.len in
    let short : len ≤ 8 = h.short in
    let count : length (take len w) ≡ len = length-take-le len w h.whole in
    let some : 0 < len = entity-some (take len w) len h.entity count in
    let word : ℕ = (c.args.map.number * 2 ^ (56 - 7 * len) % 2 ^ 64) * 2 ^ 8 % 2 ^ 64 + 128 in
    let same : word ≡ (c.args.map.number * 2 ^ (56 - 7 * length (take len w)) % 2 ^ 64) * 2 ^ 8 % 2 ^ 64 + 128
    = ap (λ n. (c.args.map.number * 2 ^ (56 - 7 * n) % 2 ^ 64) * 2 ^ 8 % 2 ^ 64 + 128) (sym count) in
    let top : HasTop 56 word (bits (take len w) ++ []) = top-word (take len w) c.args.map.number word [] (omega arith) h.value same (λ _. refl) in
    record {
      short = omega arith;
      is = word-whole (take len w) 8 word (omega arith) (λ _. refl) (subst (λ (bs : List Bool). HasTop 56 word bs) (append-nil (bits (take len w))) top);
    }

pub returns-clause-used : goal.returns-clause-used
returns-clause-used c map = used-none map _ (marked-left (c.args.map.number * 2 ^ (56 - 7 * c.args.map.len) % 2 ^ 64) _ refl)
