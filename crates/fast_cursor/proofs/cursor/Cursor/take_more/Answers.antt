use Rattle.std.proofs.Common.{take, drop, Vec, Global, ◌≡◌, ◌∙◌, ◌+◌, ◌-◌, ℕ, ap, sym, subst, arith, length}
use Rattle.std.specs.Vec.{with_items}
use borrow.Rule.Slice.PartMut.{put_mid}
use Rattle.fast_cursor.specs.device.MapPlaces.{used_at, IsPlace}
use Rattle.fast_cursor.specs.device.MapTaking.{IsMapTaken}
use Rattle.fast_cursor.specs.device.Segments.{map_at}
use Rattle.fast_cursor.proofs.Segments.{inner-count, only-map, only-places, map-lent, map-count, map-back, map-read}
use Rattle.fast_cursor.proofs.MapTakings.{taken-whole, taken-full, taken-cut}
use Rattle.fast_cursor.proofs.cursor.Cursor.take_more.Goals as goal
use Rattle.fast_cursor.proofs.cursor.Cursor.take_more.Goals.{in-Whole, in-TooLong, in-Cut}

pub invariant_of-self : goal.invariant_of-self
invariant_of-self c =
    let k : c.self.inside.start + 146 - c.self.inside.start ≡ 146 = omega arith in
    let filled = map-back c.self.inside c.deref_mut.result.now c.next_map-front.new.cells _ c.self.invariant c.deref_mut.ensures.value k
    c.next_map-front.auto.cells in
    let now : Vec ℕ Global = with_items c.self.inside.maps
    (put_mid c.self.inside.start (c.self.inside.start + 146 - c.self.inside.start) c.deref_mut.result.now c.next_map-front.new.cells) in
    let (here, read) = map-read c.deref.result.now now.items c.self.inside.start c.self.inside.map.len c.match-front.taken
    c.in_map-self-inside.result.len c.deref.ensures.value c.in_map-self-inside.ensures.len in
    let count : length now.items ≡ length c.self.inside.maps.items = sym now.ok.0 ∙ c.self.inside.maps.ok.0 in
    record {
      within = c.self.invariant.within;
      cells = count ∙ c.self.invariant.cells;
      starts = c.self.invariant.starts;
      place = subst (λ m. IsPlace m c.in_map-self-inside.result) read c.in_map-self-inside.ensures.place;
      around = only-places c.self.inside now.items c.self.invariant filled.before;
      rest = c.self.invariant.rest;
      numbered = c.self.invariant.numbered;
      run = c.self.invariant.run;
      behind = c.self.invariant.behind;
    }

pub returns-clause-map : goal.returns-clause-map
returns-clause-map c =
    let k : c.self.inside.start + 146 - c.self.inside.start ≡ 146 = omega arith in
    let filled = map-back c.self.inside c.deref_mut.result.now c.next_map-front.new.cells _ c.self.invariant c.deref_mut.ensures.value k
    c.next_map-front.auto.cells in
    let now : Vec ℕ Global = with_items c.self.inside.maps
    (put_mid c.self.inside.start (c.self.inside.start + 146 - c.self.inside.start) c.deref_mut.result.now c.next_map-front.new.cells) in
    let (here, read) = map-read c.deref.result.now now.items c.self.inside.start c.self.inside.map.len c.match-front.taken
    c.in_map-self-inside.result.len c.deref.ensures.value c.in_map-self-inside.ensures.len in
    let lent : take c.self.inside.map.len (take (c.self.inside.start + 146 - c.self.inside.start)
    (drop c.self.inside.start c.deref_mut.result.now)) ≡ c.args.self.now.map
    = map-lent c.self.inside c.args.self.now c.deref_mut.result.now _ c.self.invariant c.self.view_is c.deref_mut.ensures.value k in
    let count : length c.args.self.now.map ≡ c.self.inside.map.len = map-count c.self.inside c.args.self.now c.self.invariant c.self.view_is in
    subst (λ m. IsMapTaken c.args.self.now.map c.args.rest.now m c.match-front.front) (sym here)
    (elim c.match-front.branch [
      | in-Whole w ↦ rw (w.front-is, w.taken-is) (taken-whole c.args.self.now.map _ c.args.rest.now c.next_map-front.new.cells
          c.self.inside.maps.items now.items c.self.inside.map.len w.in-Whole.bytes c.self.inside.start lent count filled
          w.in-Whole.ensures)
      | in-TooLong w ↦ taken-full c.args.self.now.map _ c.args.rest.now c.next_map-front.new.cells _ c.self.inside.map.len _ _
          (w.front-is ∙ w.in-TooLong.is) lent count w.in-TooLong.ensures
      | in-Cut w ↦ rw (w.taken-is) (taken-cut c.args.self.now.map _ c.args.rest.now c.next_map-front.new.cells c.self.inside.maps.items
          now.items c.self.inside.map.len c.self.inside.start _ (w.front-is ∙ w.in-Cut.is) lent count filled w.in-Cut.ensures)
    ])

pub returns-clause-same : goal.returns-clause-same
returns-clause-same c =
    let k : c.self.inside.start + 146 - c.self.inside.start ≡ 146 = omega arith in
    let filled = map-back c.self.inside c.deref_mut.result.now c.next_map-front.new.cells _ c.self.invariant c.deref_mut.ensures.value k
    c.next_map-front.auto.cells in
    let now : Vec ℕ Global = with_items c.self.inside.maps
    (put_mid c.self.inside.start (c.self.inside.start + 146 - c.self.inside.start) c.deref_mut.result.now c.next_map-front.new.cells) in
    let (here, read) = map-read c.deref.result.now now.items c.self.inside.start c.self.inside.map.len c.match-front.taken
    c.in_map-self-inside.result.len c.deref.ensures.value c.in_map-self-inside.ensures.len in
    let count = inner-count c.self.inside c.self.invariant in
    only-map c.self.inside c.args.self.now now.items _ _ c.in_map-self-inside.result.end c.self.invariant c.self.view_is filled.before
    (ap (λ m. used_at m c.in_map-self-inside.result.end c.in_map-self-inside.result.word) (sym read)
    ∙ c.in_map-self-inside.ensures.used (map_at c.self.inside.maps.items c.self.inside.start c.self.inside.map.len) count)
    c.in_map-self-inside.ensures.end
