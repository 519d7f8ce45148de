use Rattle.std.proofs.Common.{arith, ap, sym, ◌≡◌, ◌+◌, ◌-◌, ◌*◌, ◌<◌, ◌≤◌, ◌∙◌, List, ℕ, length, rules, subst, drop, take}
use Rattle.fast_wire.specs.meaning.Maps.{map_limit, bits}
use Rattle.fast_cursor.specs.device.MapPlaces.{HasTop, IsPlace, left_in}
use Rattle.fast_cursor.specs.device.Segments.{map_at}
use Rattle.fast_cursor.proofs.Segments.{length-map, map-is}
use Rattle.fast_cursor.proofs.MapMarks.{place-none, word-whole, bits-next, top-is-left, left-of-marked}
use Rattle.fast_cursor.proofs.map_place.MapPlace.refilled.Goals as goal

pub returns-then-self-eq0-clause-place : goal.returns-then-self-eq0-clause-place
returns-then-self-eq0-clause-place c =
    let none : c.args.self.len ≡ 0 = search (rules, c.if-self-eq0.true) in
    subst (λ n. IsPlace (map_at c.args.maps.now.items c.args.start n) (record { word = 128; end = 8; len = 0 })) (sym none) place-none

pub returns-then-self-eq0-clause-left : goal.returns-then-self-eq0-clause-left
returns-then-self-eq0-clause-left c = left-of-marked 0

pub returns-clause-place : goal.returns-clause-place
returns-clause-place c =
    let here : 0 < c.args.self.len = search rules in
    let map : List ℕ = map_at c.args.maps.now.items c.args.start c.args.self.len in
    let more : 8 ≤ c.args.self.end = c.requires.place.is.ends in
    let ends : 8 ≤ c.saturating_add-end.result = omega (arith, more, c.saturating_add-end.ensures) in
    let k : c.args.start + c.args.self.len - c.args.start ≡ c.args.self.len = omega arith in
    let all : c.args.maps.now.len ≡ length c.args.maps.now.items = c.args.maps.now.ok.0 in
    let count : length map ≡ c.args.self.len = map-is c.args.maps.now.items c.args.start c.args.self.len (omega (arith, all, c.requires.cells)) in
    let read : take (c.args.start + c.args.self.len - c.args.start) (drop c.args.start c.deref.result.now) ≡ map
    = ap (λ l. take (c.args.start + c.args.self.len - c.args.start) (drop c.args.start l)) c.deref.ensures.value
    ∙ ap (λ n. map_at c.args.maps.now.items c.args.start n) k in
    record {
      short = c.requires.place.short;
      is = word-whole map c.saturating_add-end.result c.word_at.result ends (λ e. let f = ap length e in absurd (omega (arith, f, count, here)))
          (subst (λ m. HasTop 56 c.word_at.result (drop (7 * (c.saturating_add-end.result - 8)) (bits m))) read c.word_at.ensures);
    }

pub returns-clause-left : goal.returns-clause-left
returns-clause-left c = top-is-left 56 c.word_at.result
    (drop (7 * (c.saturating_add-end.result - 8)) (bits (take (c.args.start + c.args.self.len - c.args.start)
    (drop c.args.start c.deref.result.now)))) (omega arith) c.word_at.ensures

pub returns-clause-bits : goal.returns-clause-bits
returns-clause-bits c =
    let some : length (map_at c.args.maps.now.items c.args.start c.args.self.len) ≤ c.args.self.len =
    length-map c.args.maps.now.items c.args.start c.args.self.len in
    let short : c.args.self.len ≤ map_limit = c.requires.place.short in
    let whole : left_in c.word_at.result ≡ 56 = top-is-left 56 c.word_at.result
    (drop (7 * (c.saturating_add-end.result - 8)) (bits (take (c.args.start + c.args.self.len - c.args.start)
    (drop c.args.start c.deref.result.now)))) (omega arith) c.word_at.ensures in
    bits-next (map_at c.args.maps.now.items c.args.start c.args.self.len) c.args.self.end c.args.self.word c.saturating_add-end.result
    c.word_at.result (omega (arith, some, short)) c.requires.spent whole c.saturating_add-end.ensures
