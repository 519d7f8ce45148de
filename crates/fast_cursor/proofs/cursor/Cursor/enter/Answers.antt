use Rattle.std.proofs.Common.{sym, ap, subst, ◌≡◌, ◌<◌, arith, length, set}
use Rattle.std.proofs.lemmas.List.{length-set}
use Rattle.fast_cursor.specs.declared.frames.Frame.{Frame}
use Rattle.fast_cursor.specs.declared.map_place.MapPlace.{MapPlace}
use Rattle.fast_cursor.specs.device.MapPlaces.{IsPlace}
use Rattle.fast_cursor.specs.device.Runs.{IsRun}
use Rattle.fast_cursor.specs.device.Cursors.{CursorData}
use Rattle.fast_cursor.specs.device.Segments.{map_at, frame_elements, IsRunOf}
use Rattle.fast_cursor.proofs.Segments.{has-room, places-more, entered-is}
use Rattle.fast_cursor.proofs.Runs.{running-more}
use Rattle.fast_cursor.proofs.MapMarks.{place-none}
use Rattle.fast_cursor.proofs.cursor.Cursor.enter.Goals as goal

pub index_mut-requires : goal.index_mut-requires
index_mut-requires c =
    let room : c.self.inside.level < length c.self.inside.frames.items =
    has-room c.self.inside c.args.self.now c.self.invariant c.self.view_is c.requires.room in
    let count : c.self.inside.frames.len ≡ length c.self.inside.frames.items = c.self.inside.frames.ok.0 in
    omega arith

pub invariant_of-self : goal.invariant_of-self
invariant_of-self c =
    let room : c.self.inside.level < length c.self.inside.frames.items =
    has-room c.self.inside c.args.self.now c.self.invariant c.self.view_is c.requires.room in
    let f : Frame = c.around.result in
    let ops : c.args.self.now.ops ≡ c.self.inside.ops.now = ap (λ (d : CursorData). d.ops) (sym c.self.view_is) in
    let place : IsPlace (map_at c.self.inside.maps.items c.self.inside.start f.map.len) f.map
    = subst (λ (m : MapPlace). IsPlace (map_at c.self.inside.maps.items c.self.inside.start m.len) m) (sym c.around.ensures.map) c.self.invariant.place in
    let after : IsRun c.self.inside.ops.now f.after = subst (IsRun c.self.inside.ops.now) (sym c.around.ensures.after) c.self.invariant.run in
    let elements : IsRunOf c.self.inside.ops.now (frame_elements f)
    = subst (IsRunOf c.self.inside.ops.now) (sym c.around.ensures.elements) (subst (λ o. IsRunOf o c.args.elements) ops c.requires.elements) in
    let same = length-set c.self.inside.frames.items c.self.inside.level f in
    record {
      within = omega (arith, same);
      cells = omega (arith, same);
      starts = omega arith;
      place = place-none;
      around = places-more c.self.inside.maps.items c.self.inside.frames.items c.self.inside.level c.self.inside.start f room
          c.self.invariant.starts c.self.invariant.around place;
      rest = c.self.invariant.rest;
      numbered = c.self.invariant.numbered;
      run = subst (λ o. IsRun o c.args.start) ops c.requires.run;
      behind = running-more c.self.inside.ops.now c.self.inside.frames.items c.self.inside.level f room c.self.invariant.behind (record {
        after = after;
        elements = elements;
      });
    }

pub returns : goal.returns
returns c =
    let room : c.self.inside.level < length c.self.inside.frames.items =
    has-room c.self.inside c.args.self.now c.self.invariant c.self.view_is c.requires.room in
    entered-is c.self.inside c.args.self.now c.args.elements c.args.start c.around.result
    (length (set c.self.inside.frames.items c.self.inside.level c.around.result)) c.self.invariant c.self.view_is room
    (length-set c.self.inside.frames.items c.self.inside.level c.around.result) c.around.ensures.map c.around.ensures.after c.around.ensures.elements
