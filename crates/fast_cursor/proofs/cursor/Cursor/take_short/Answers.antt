-- Eight cells are written, of which as many count as the map has bytes.
use Rattle.std.proofs.Common.{take, Vec, Global, ◌≡◌, ◌∙◌, ◌+◌, ◌-◌, ◌≤◌, ℕ, [], ap, sym, subst, arith, rules, length}
use Rattle.std.specs.Vec.{with_items}
use Rattle.std.proofs.lemmas.List.{take-take, length-take-le}
use borrow.Rule.Slice.PartMut.{put_mid}
use Rattle.fast_cursor.specs.device.Cursors.{CursorData}
use Rattle.fast_cursor.specs.device.MapPlaces.{IsPlace}
use Rattle.fast_cursor.specs.device.Segments.{map_at}
use Rattle.fast_cursor.proofs.Segments.{unused, only-map, only-places, front-back}
use Rattle.fast_cursor.proofs.MapTakings.{taken-entity}
use Rattle.fast_cursor.proofs.cursor.Cursor.take_short.Goals as goal

pub invariant_of-self : goal.invariant_of-self
invariant_of-self c =
    let i = c.self.inside in
    let k : i.start + 8 - i.start ≡ 8 = omega arith in
    let size : 8 ≤ length c.args.rest.now = search (rules, c.if-rest-lt8.false) in
    let src : c.copy_from_slice.new.self ≡ take 8 c.args.rest.now = c.copy_from_slice.ensures.after in
    let eight : length c.copy_from_slice.new.self ≡ 8 = ap length src ∙ length-take-le 8 c.args.rest.now size in
    let now : Vec ℕ Global = with_items i.maps (put_mid i.start (i.start + 8 - i.start) c.deref_mut.result.now c.copy_from_slice.new.self) in
    let filled = front-back i c.deref_mut.result.now c.copy_from_slice.new.self _ c.self.invariant c.deref_mut.ensures.value k eight in
    let short : c.args.entity.len ≤ 8 = c.requires.entity.short in
    let count : length now.items ≡ length i.maps.items = sym now.ok.0 ∙ i.maps.ok.0 in
    let here : take c.args.entity.len c.args.rest.now ≡ map_at now.items i.start c.of_entity-self-inside.result.len
    = sym (ap (map_at now.items i.start) c.of_entity-self-inside.ensures.len ∙ filled.inner c.args.entity.len short
    ∙ ap (take c.args.entity.len) src ∙ take-take c.args.entity.len 8 c.args.rest.now short) in
    record {
      within = c.self.invariant.within;
      cells = count ∙ c.self.invariant.cells;
      starts = c.self.invariant.starts;
      place = subst (λ m. IsPlace m c.of_entity-self-inside.result) here (c.of_entity-self-inside.ensures.place c.args.rest.now c.requires.entity);
      around = only-places i now.items c.self.invariant filled.before;
      rest = c.self.invariant.rest;
      numbered = c.self.invariant.numbered;
      run = c.self.invariant.run;
      behind = c.self.invariant.behind;
    }

pub returns-clause-map : goal.returns-clause-map
returns-clause-map c is =
    let i = c.self.inside in
    let k : i.start + 8 - i.start ≡ 8 = omega arith in
    let size : 8 ≤ length c.args.rest.now = search (rules, c.if-rest-lt8.false) in
    let src : c.copy_from_slice.new.self ≡ take 8 c.args.rest.now = c.copy_from_slice.ensures.after in
    let eight : length c.copy_from_slice.new.self ≡ 8 = ap length src ∙ length-take-le 8 c.args.rest.now size in
    let now : Vec ℕ Global = with_items i.maps (put_mid i.start (i.start + 8 - i.start) c.deref_mut.result.now c.copy_from_slice.new.self) in
    let filled = front-back i c.deref_mut.result.now c.copy_from_slice.new.self _ c.self.invariant c.deref_mut.ensures.value k eight in
    let short : c.args.entity.len ≤ 8 = c.requires.entity.short in
    let len : i.map.len ≡ 0 = search (rules, c.if-self-ne0.false) in
    let none : c.args.self.now.map ≡ [] = ap (λ (d : CursorData). d.map) (sym c.self.view_is) ∙ ap (map_at i.maps.items i.start) len in
    taken-entity c.args.self.now.map c.args.rest.now _ c.args.entity.number c.args.entity.len none c.requires.entity
    (ap (map_at now.items i.start) c.of_entity-self-inside.ensures.len ∙ filled.inner c.args.entity.len short
    ∙ ap (take c.args.entity.len) src ∙ take-take c.args.entity.len 8 c.args.rest.now short)

pub returns-clause-same : goal.returns-clause-same
returns-clause-same c =
    let i = c.self.inside in
    let k : i.start + 8 - i.start ≡ 8 = omega arith in
    let size : 8 ≤ length c.args.rest.now = search (rules, c.if-rest-lt8.false) in
    let src : c.copy_from_slice.new.self ≡ take 8 c.args.rest.now = c.copy_from_slice.ensures.after in
    let eight : length c.copy_from_slice.new.self ≡ 8 = ap length src ∙ length-take-le 8 c.args.rest.now size in
    let now : Vec ℕ Global = with_items i.maps (put_mid i.start (i.start + 8 - i.start) c.deref_mut.result.now c.copy_from_slice.new.self) in
    let filled = front-back i c.deref_mut.result.now c.copy_from_slice.new.self _ c.self.invariant c.deref_mut.ensures.value k eight in
    let len : i.map.len ≡ 0 = search (rules, c.if-self-ne0.false) in
    let (used, end) = unused i c.self.invariant len in
    only-map i c.args.self.now now.items _ _ c.of_entity-self-inside.result.end c.self.invariant c.self.view_is filled.before
    (c.of_entity-self-inside.ensures.used _ ∙ sym used) (c.of_entity-self-inside.ensures.end ∙ sym end)
