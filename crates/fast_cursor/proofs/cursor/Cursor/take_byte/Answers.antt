use Rattle.std.proofs.Common.{◌≡◌, ◌<◌, ◌≤◌, ◌∙◌, [], ◌∷◌, List, ℕ, ap, sym, subst, arith, rules, length, length-set, get_or, set, ◌+◌}
use Rattle.std.specs.Prelude.{nat_eq, false}
use Rattle.fast_wire.specs.meaning.Maps.{map_limit}
use Rattle.fast_cursor.specs.device.Cursors.{CursorData}
use Rattle.fast_cursor.specs.device.MapPlaces.{IsPlace}
use Rattle.fast_cursor.specs.device.Segments.{map_at}
use Rattle.fast_cursor.proofs.Segments.{cells-there, unused, only-map, only-places, one-before, one-inner}
use Rattle.fast_cursor.proofs.MapTakings.{taken-first}
use Rattle.fast_cursor.proofs.cursor.Cursor.take_byte.Goals as goal

by_test : (n : ℕ) → nat_eq n 0 ≡ false → 0 < n
by_test n h = search (rules, h)

pub invariant_of-self : goal.invariant_of-self
invariant_of-self c =
    let cells : List ℕ = c.self.inside.maps.items in
    let start : ℕ = c.self.inside.start in
    let b : ℕ = get_or c.args.rest.now 0 0 in
    let there : start + map_limit ≤ length cells = cells-there c.self.inside c.self.invariant in
    let here : b ∷ [] ≡ map_at (set cells start b) start c.of_byte-self-inside.result.len
    = sym (ap (map_at (set cells start b) start) c.of_byte-self-inside.ensures.len ∙ one-inner cells start b (omega arith)) in
    record {
      within = c.self.invariant.within;
      cells = length-set cells start b ∙ c.self.invariant.cells;
      starts = c.self.invariant.starts;
      place = subst (λ m. IsPlace m c.of_byte-self-inside.result) here c.of_byte-self-inside.ensures.place;
      around = only-places c.self.inside (set cells start b) c.self.invariant (one-before cells start b (omega arith));
      rest = c.self.invariant.rest;
      numbered = c.self.invariant.numbered;
      run = c.self.invariant.run;
      behind = c.self.invariant.behind;
    }

pub returns-then-byte-ge128-clause-map : goal.returns-then-byte-ge128-clause-map
returns-then-byte-ge128-clause-map c is =
    let cells : List ℕ = c.self.inside.maps.items in
    let start : ℕ = c.self.inside.start in
    let b : ℕ = get_or c.args.rest.now 0 0 in
    let there : start + map_limit ≤ length cells = cells-there c.self.inside c.self.invariant in
    let len : c.self.inside.map.len ≡ 0 = search (rules, c.if-self-eq0.true) in
    let none : c.args.self.now.map ≡ [] = ap (λ (d : CursorData). d.map) (sym c.self.view_is) ∙ ap (map_at cells start) len in
    let some : 0 < length c.args.rest.now = by_test (length c.args.rest.now) (sym c.is_empty.ensures ∙ c.if-not-is_empty.true) in
    let stop : 128 ≤ b = search (rules, c.if-byte-ge128.true) in
    taken-first c.args.self.now.map c.args.rest.now _ none some stop
    (ap (map_at (set cells start b) start) c.of_byte-self-inside.ensures.len ∙ one-inner cells start b (omega arith))

pub returns-then-byte-ge128-clause-none : goal.returns-then-byte-ge128-clause-none
returns-then-byte-ge128-clause-none c is =
    let len : c.self.inside.map.len ≡ 0 = search (rules, c.if-self-eq0.true) in
    ap (λ (d : CursorData). d.map) (sym c.self.view_is) ∙ ap (map_at c.self.inside.maps.items c.self.inside.start) len

pub returns-then-byte-ge128-clause-same : goal.returns-then-byte-ge128-clause-same
returns-then-byte-ge128-clause-same c =
    let cells : List ℕ = c.self.inside.maps.items in
    let start : ℕ = c.self.inside.start in
    let b : ℕ = get_or c.args.rest.now 0 0 in
    let there : start + map_limit ≤ length cells = cells-there c.self.inside c.self.invariant in
    let len : c.self.inside.map.len ≡ 0 = search (rules, c.if-self-eq0.true) in
    let (used, end) = unused c.self.inside c.self.invariant len in
    only-map c.self.inside c.args.self.now (set cells start b) _ _ c.of_byte-self-inside.result.end c.self.invariant c.self.view_is
    (one-before cells start b (omega (arith, there)))
    (c.of_byte-self-inside.ensures.used _ ∙ sym used) (c.of_byte-self-inside.ensures.end ∙ sym end)
