use Rattle.std.proofs.Common.{subst, take, ◌*◌, ◌≤◌, ap, ◌∙◌, ◌≡◌, ◌<◌, arith, length, sym, ◌-◌, ◌+◌, option_map}
use Rattle.fast_wire.specs.meaning.Maps.{map_limit}
use Rattle.fast_cursor.specs.device.Cursors.{CursorData}
use Rattle.fast_cursor.specs.device.Segments.{elements_data, frame_elements, ArePlaces, AreRunning, IsRunOf}
use Rattle.fast_cursor.proofs.Segments.{length-open, left-is, places-less}
use Rattle.fast_cursor.proofs.Runs.{running-less}
use Rattle.fast_cursor.proofs.cursor.Cursor.close.Goals as goal

pub invariant_of-self : goal.invariant_of-self
invariant_of-self c =
    let e : length c.args.self.now.frames ≡ c.self.inside.level
    = ap (λ (d : CursorData). length d.frames) (sym c.self.view_is) ∙ length-open c.self.inside c.self.invariant in
    let some : 0 < length c.args.self.now.frames = c.requires.inner in
    let one : c.self.inside.level ≡ c.self.inside.level - 1 + 1 = omega arith in
    let within : c.self.inside.level ≤ length c.self.inside.frames.items = c.self.invariant.within in
    let starts : c.self.inside.start ≡ map_limit * c.self.inside.level = c.self.invariant.starts in
    let (around, place) = places-less c.self.inside.maps.items c.self.inside.frames.items (c.self.inside.level - 1)
    (c.self.inside.start - map_limit) c.index-frame.result.now (omega arith) (omega arith) c.index-frame.ensures
    (subst (λ n. ArePlaces c.self.inside.maps.items 0 (take n c.self.inside.frames.items)) one c.self.invariant.around) in
    let (behind, last) = running-less c.self.inside.ops.now c.self.inside.frames.items (c.self.inside.level - 1) c.index-frame.result.now
    (omega arith) c.index-frame.ensures
    (subst (λ n. AreRunning c.self.inside.ops.now (take n c.self.inside.frames.items)) one c.self.invariant.behind) in
    record {
      within = omega arith;
      cells = c.self.invariant.cells;
      starts = omega arith;
      place = place;
      around = around;
      rest = c.self.invariant.rest;
      numbered = c.self.invariant.numbered;
      run = last.after;
      behind = behind;
    }

pub returns-clause-left : goal.returns-clause-left
returns-clause-left c =
    let e : length c.args.self.now.frames ≡ c.self.inside.level
    = ap (λ (d : CursorData). length d.frames) (sym c.self.view_is) ∙ length-open c.self.inside c.self.invariant in
    let some : 0 < length c.args.self.now.frames = c.requires.inner in
    let one : c.self.inside.level ≡ c.self.inside.level - 1 + 1 = omega arith in
    λ f fs front.
    let (is, same) = left-is c.self.inside c.args.self.now c.index-frame.result.now
    (c.self.inside.level - 1) c.self.invariant c.self.view_is one c.index-frame.ensures f fs front in
    (is, ap (option_map (elements_data c.args.self.now.ops)) c.elements.ensures ∙ same)

pub returns-clause-run : goal.returns-clause-run
returns-clause-run c =
    let e : length c.args.self.now.frames ≡ c.self.inside.level
    = ap (λ (d : CursorData). length d.frames) (sym c.self.view_is) ∙ length-open c.self.inside c.self.invariant in
    let some : 0 < length c.args.self.now.frames = c.requires.inner in
    let one : c.self.inside.level ≡ c.self.inside.level - 1 + 1 = omega arith in
    let within : c.self.inside.level ≤ length c.self.inside.frames.items = c.self.invariant.within in
    let ops : c.self.inside.ops.now ≡ c.args.self.now.ops = ap (λ (d : CursorData). d.ops) c.self.view_is in
    let (behind, last) = running-less c.self.inside.ops.now c.self.inside.frames.items (c.self.inside.level - 1) c.index-frame.result.now
    (omega arith) c.index-frame.ensures
    (subst (λ n. AreRunning c.self.inside.ops.now (take n c.self.inside.frames.items)) one c.self.invariant.behind) in
    subst (λ x. IsRunOf c.args.self.now.ops x) (sym c.elements.ensures) (subst (λ o. IsRunOf o (frame_elements c.index-frame.result.now)) ops last.elements)
