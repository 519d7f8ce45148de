-- The innermost frame is read, and one element fewer is written into it.
use Rattle.std.proofs.Common.{sym, ap, subst, ◌∙◌, ◌≡◌, ◌<◌, ◌≤◌, arith, rules, inl, inr, set, length, take, ◌-◌, ◌+◌, ◌*◌, ℕ}
use Rattle.std.specs.Prelude.{◌⊎◌, option_map}
use Rattle.std.proofs.lemmas.List.{length-set, get_or_default}
use Rattle.fast_wire.specs.meaning.Maps.{map_limit}
use Rattle.fast_cursor.specs.declared.frames.Frame.{Frame}
use Rattle.fast_cursor.specs.device.Cursors.{CursorData, ElementsData}
use Rattle.fast_cursor.specs.device.Runs.{IsRun}
use Rattle.fast_cursor.specs.device.MapPlaces.{IsPlace}
use Rattle.fast_cursor.specs.device.Nexts.{gone_on}
use Rattle.fast_cursor.specs.device.Segments.{map_at, ArePlaces, AreRunning, IsRunning, IsRunOf}
use Rattle.fast_cursor.proofs.Segments.{length-open, places-less, places-more}
use Rattle.fast_cursor.proofs.Runs.{running-less, running-more}
use Rattle.fast_cursor.proofs.MapMarks.{place-none}
use Rattle.fast_cursor.proofs.Nexts.{marked-some, stays, next-is, goes_on}
use Rattle.fast_cursor.proofs.cursor.Cursor.next_element.Goals as goal
use Rattle.fast_cursor.proofs.cursor.Cursor.next_element.Goals.{then-frame-eq0-via-then-frame-eq0, then-frame-eq0-via-else-frame-eq0+then-frame-eq0-2}

pub returns-then-frame-eq0-clause-next : goal.returns-then-frame-eq0-clause-next
returns-then-frame-eq0-clause-next c f fs front =
    let e : length c.args.self.now.frames ≡ c.self.inside.level
    = ap (λ (d : CursorData). length d.frames) (sym c.self.view_is) ∙ length-open c.self.inside c.self.invariant in
    let some : 0 < length c.args.self.now.frames = c.requires.inner in
    let one : c.self.inside.level ≡ c.self.inside.level - 1 + 1 = omega arith in
    let none : (c.index-frame.result.now.is_element ≡ 0) ⊎ (c.index-frame.result.now.more ≡ 0) = elim c.then-frame-eq0.branch [
      | then-frame-eq0-via-then-frame-eq0 w ↦ inl (search (rules, w.if-frame-eq0))
      | then-frame-eq0-via-else-frame-eq0+then-frame-eq0-2 w ↦ inr (search (rules, w.if-frame-eq0-2))
    ] in
    sym (ap (gone_on c.args.self.now f fs) (stays c.self.inside c.args.self.now c.index-frame.result.now
    (c.self.inside.level - 1) c.self.invariant c.self.view_is one c.index-frame.ensures none f fs front))

pub returns-then-frame-eq0-clause-width : goal.returns-then-frame-eq0-clause-width
returns-then-frame-eq0-clause-width c f fs front =
    let e : length c.args.self.now.frames ≡ c.self.inside.level
    = ap (λ (d : CursorData). length d.frames) (sym c.self.view_is) ∙ length-open c.self.inside c.self.invariant in
    let some : 0 < length c.args.self.now.frames = c.requires.inner in
    let one : c.self.inside.level ≡ c.self.inside.level - 1 + 1 = omega arith in
    let none : (c.index-frame.result.now.is_element ≡ 0) ⊎ (c.index-frame.result.now.more ≡ 0) = elim c.then-frame-eq0.branch [
      | then-frame-eq0-via-then-frame-eq0 w ↦ inl (search (rules, w.if-frame-eq0))
      | then-frame-eq0-via-else-frame-eq0+then-frame-eq0-2 w ↦ inr (search (rules, w.if-frame-eq0-2))
    ] in
    sym (ap (option_map (λ (x : ElementsData). x.width)) (stays c.self.inside c.args.self.now c.index-frame.result.now
    (c.self.inside.level - 1) c.self.invariant c.self.view_is one c.index-frame.ensures none f fs front))

pub invariant_of-self : goal.invariant_of-self
invariant_of-self c =
    let i = c.self.inside in
    let s = c.self.invariant in
    let n : ℕ = i.level - 1 in
    let r : Frame = c.index-frame.result.now in
    let g : Frame = record c.index_mut.result.now { more = r.more - 1 } in
    let e : length c.args.self.now.frames ≡ i.level = ap (λ (d : CursorData). length d.frames) (sym c.self.view_is) ∙ length-open i s in
    let some : 0 < length c.args.self.now.frames = c.requires.inner in
    let one : i.level ≡ n + 1 = omega arith in
    let within : i.level ≤ length i.frames.items = s.within in
    let starts : i.start ≡ map_limit * i.level = s.starts in
    let mark : 0 < r.is_element = search (rules, c.if-frame-eq0.false) in
    let same : c.index_mut.result.now ≡ r = c.index_mut.ensures.value
    ∙ get_or_default i.frames.items n c.index_mut.result.now r (omega arith) ∙ sym c.index-frame.ensures in
    let (below, place) = places-less i.maps.items i.frames.items n (i.start - map_limit) r (omega arith) (omega arith) c.index-frame.ensures
    (subst (λ k. ArePlaces i.maps.items 0 (take k i.frames.items)) one s.around) in
    let (behind, last) = running-less i.ops.now i.frames.items n r (omega arith) c.index-frame.ensures
    (subst (λ k. AreRunning i.ops.now (take k i.frames.items)) one s.behind) in
    let run : IsRun i.ops.now r.start
    = subst (IsRunOf i.ops.now) (marked-some r.is_element (record { more = r.more; start = r.start; width = r.width }) mark) last.elements in
    let written : IsPlace (map_at i.maps.items (i.start - map_limit) g.map.len) g.map
    = subst (λ (x : Frame). IsPlace (map_at i.maps.items (i.start - map_limit) x.map.len) x.map) (sym same) place in
    let running : IsRunning i.ops.now (record r { more = r.more - 1 })
    = record {
      after = last.after;
      elements = subst (IsRunOf i.ops.now) (sym (marked-some r.is_element (record { more = r.more - 1; start = r.start; width = r.width }) mark)) run;
    } in
    let count = length-set i.frames.items n g in
    record {
      within = omega (arith, count);
      cells = let cells = s.cells in omega (arith, count, cells);
      starts = s.starts;
      place = place-none;
      around = subst (λ k. ArePlaces i.maps.items 0 (take k (set i.frames.items n g))) (sym one)
          (places-more i.maps.items i.frames.items n (i.start - map_limit) g (omega arith) (omega arith) below written);
      rest = s.rest;
      numbered = s.numbered;
      run = run;
      behind = subst (λ k. AreRunning i.ops.now (take k (set i.frames.items n g))) (sym one)
          (running-more i.ops.now i.frames.items n g (omega arith) behind
          (subst (λ (x : Frame). IsRunning i.ops.now (record x { more = r.more - 1 })) (sym same) running));
    }

pub returns-clause-next : goal.returns-clause-next
returns-clause-next c f fs front =
    let i = c.self.inside in
    let s = c.self.invariant in
    let n : ℕ = i.level - 1 in
    let r : Frame = c.index-frame.result.now in
    let g : Frame = record c.index_mut.result.now { more = r.more - 1 } in
    let e : length c.args.self.now.frames ≡ i.level = ap (λ (d : CursorData). length d.frames) (sym c.self.view_is) ∙ length-open i s in
    let some : 0 < length c.args.self.now.frames = c.requires.inner in
    let one : i.level ≡ n + 1 = omega arith in
    let within : i.level ≤ length i.frames.items = s.within in
    let mark : 0 < r.is_element = search (rules, c.if-frame-eq0.false) in
    let more : 0 < r.more = search (rules, c.if-frame-eq0-2.false) in
    let same : c.index_mut.result.now ≡ r = c.index_mut.ensures.value
    ∙ get_or_default i.frames.items n c.index_mut.result.now r (omega arith) ∙ sym c.index-frame.ensures in
    goes_on i c.args.self.now r g n (length (set i.frames.items n g)) s c.self.view_is one c.index-frame.ensures mark more
    (ap (λ (x : Frame). record x { more = r.more - 1 }) same) (length-set i.frames.items n g) f fs front

pub returns-clause-width : goal.returns-clause-width
returns-clause-width c f fs front =
    let e : length c.args.self.now.frames ≡ c.self.inside.level
    = ap (λ (d : CursorData). length d.frames) (sym c.self.view_is) ∙ length-open c.self.inside c.self.invariant in
    let some : 0 < length c.args.self.now.frames = c.requires.inner in
    let one : c.self.inside.level ≡ c.self.inside.level - 1 + 1 = omega arith in
    let mark : 0 < c.index-frame.result.now.is_element = search (rules, c.if-frame-eq0.false) in
    let more : 0 < c.index-frame.result.now.more = search (rules, c.if-frame-eq0-2.false) in
    sym (ap (option_map (λ (x : ElementsData). x.width)) (next-is c.self.inside c.args.self.now c.index-frame.result.now
    (c.self.inside.level - 1) c.self.invariant c.self.view_is one c.index-frame.ensures mark more f fs front))
