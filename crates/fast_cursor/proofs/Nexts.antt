-- The next element of a sequence begins where the one before it ends.
use Rattle.std.proofs.Common.{refl, sym, ap, ◌∙◌, arith, get_or, set, inl, inr}
use Rattle.std.specs.Prelude.{◌≡◌, ◌⊎◌, ℕ, zero, suc, ◌+◌, ◌*◌, ◌<◌, ◌≤◌, ◌-◌, List, [], ◌∷◌, length, take, Some, None, option_map}
use Rattle.fast_wire.specs.meaning.Maps.{map_limit}
use Rattle.fast_program.specs.declared.ops.Op.{Op}
use Rattle.fast_cursor.specs.device.Runs.{run_at}
use Rattle.fast_cursor.specs.device.Cursors.{ElementsData, FrameData, CursorData}
use Rattle.fast_cursor.specs.device.Nexts.{next_of, gone_on}
use Rattle.fast_cursor.specs.declared.frames.Elements.{Elements}
use Rattle.fast_cursor.specs.declared.frames.Frame.{Frame}
use Rattle.fast_cursor.specs.declared.cursor.Cursor.TheInside.{Inside}
use Rattle.fast_cursor.specs.device.Segments.{marked, frame_data, frames_on, elements_data, cursor_data, IsCursor}
use Rattle.fast_cursor.proofs.Segments.{frames-less, frames-more}

-- a mark that is not zero
pub marked-some : (n : ℕ) (e : Elements) → 0 < n → marked n e ≡ Some e
marked-some zero e h = absurd (omega (arith, h))
marked-some (suc n) e h = refl

next-some : (ops : List Op) (more start width : ℕ) → 0 < more
    → next_of (Some (record {
      more = more;
      body = run_at ops start;
      width = width;
    })) ≡ Some (record { more = more - 1; body = run_at ops start; width = width })
next-some ops zero start width h = absurd (omega (arith, h))
next-some ops (suc n) start width h = let less : n ≡ suc n - 1 = omega arith in ap (λ k. Some (record {
  more = k;
  body = run_at ops start;
  width = width;
})) less

next-none : (ops : List Op) (mark more start width : ℕ) → (mark ≡ 0) ⊎ (more ≡ 0) → next_of (option_map (elements_data ops) (marked mark (record {
  more = more;
  start = start;
  width = width;
}))) ≡ None
next-none ops zero more start width h = refl
next-none ops (suc n) zero start width h = refl
next-none ops (suc n) (suc k) start width (inl h) = absurd (omega (arith, h))
next-none ops (suc n) (suc k) start width (inr h) = absurd (omega (arith, h))

-- The innermost frame, and those around it.
front-is : (i : Inside) (d : CursorData) (r : Frame) (n : ℕ) → IsCursor i → cursor_data i ≡ d → i.level ≡ n + 1
    → r ≡ get_or i.frames.items n r → (f : FrameData) (fs : List FrameData) → d.frames ≡ f ∷ fs
    → f ∷ fs ≡ frame_data i.ops.now i.maps.items (i.start - map_limit) r ∷ frames_on i.ops.now i.maps.items 0 (take n i.frames.items) []
front-is i d r n s e one is f fs front =
    let within : i.level ≤ length i.frames.items = s.within in
    let starts : i.start ≡ map_limit * i.level = s.starts in
    let less : frames_on i.ops.now i.maps.items 0 (take (n + 1) i.frames.items) [] ≡ frame_data i.ops.now i.maps.items
    (i.start - map_limit) r ∷ frames_on i.ops.now i.maps.items 0 (take n i.frames.items) []
    = frames-less i.ops.now i.maps.items i.frames.items n (i.start - map_limit) r (omega arith) (omega arith) is in
    sym front ∙ ap (λ (c : CursorData). c.frames) (sym e) ∙ ap (λ k. frames_on i.ops.now i.maps.items 0 (take k i.frames.items) []) one ∙ less

-- No element comes next.
pub stays : (i : Inside) (d : CursorData) (r : Frame) (n : ℕ) → IsCursor i → cursor_data i ≡ d → i.level ≡ n + 1
    → r ≡ get_or i.frames.items n r → (r.is_element ≡ 0) ⊎ (r.more ≡ 0) → (f : FrameData) (fs : List FrameData) → d.frames ≡ f ∷ fs
    → next_of f.elements ≡ None
stays i d r n s e one is none f fs front =
    let all = front-is i d r n s e one is f fs front in
    let first : f ≡ frame_data i.ops.now i.maps.items (i.start - map_limit) r = cc in
    ap (λ (g : FrameData). next_of g.elements) first ∙ next-none i.ops.now r.is_element r.more r.start r.width none

-- The next element begins.
pub next-is : (i : Inside) (d : CursorData) (r : Frame) (n : ℕ) → IsCursor i → cursor_data i ≡ d → i.level ≡ n + 1
    → r ≡ get_or i.frames.items n r → 0 < r.is_element → 0 < r.more
    → (f : FrameData) (fs : List FrameData) → d.frames ≡ f ∷ fs → next_of f.elements ≡ Some (record {
      more = r.more - 1;
      body = run_at i.ops.now r.start;
      width = r.width;
    })
next-is i d r n s e one is mark more f fs front =
    let all = front-is i d r n s e one is f fs front in
    let first : f ≡ frame_data i.ops.now i.maps.items (i.start - map_limit) r = cc in
    ap (λ (g : FrameData). next_of g.elements) first
    ∙ ap (λ x. next_of (option_map (elements_data i.ops.now) x)) (marked-some r.is_element (record { more = r.more; start = r.start; width = r.width }) mark)
    ∙ next-some i.ops.now r.more r.start r.width more

pub goes_on : (i : Inside) (d : CursorData) (r g : Frame) (n depth : ℕ) → IsCursor i → cursor_data i ≡ d → i.level ≡ n + 1
    → r ≡ get_or i.frames.items n r → 0 < r.is_element → 0 < r.more
    → g ≡ record r { more = r.more - 1 } → depth ≡ length i.frames.items → (f : FrameData) (fs : List FrameData) → d.frames ≡ f ∷ fs
    → record {
      ops = i.ops.now;
      frames = frames_on i.ops.now i.maps.items 0 (take i.level (set i.frames.items n g)) [];
      left = run_at i.ops.now r.start;
      map = [];
      used = 0;
      ends = 8;
      depth = depth;
    } ≡ gone_on d f fs (next_of f.elements)
goes_on i d r g n depth s e one is mark more same size f fs front =
    let within : i.level ≤ length i.frames.items = s.within in
    let starts : i.start ≡ map_limit * i.level = s.starts in
    let x : ElementsData = record { more = r.more - 1; body = run_at i.ops.now r.start; width = r.width } in
    let all = front-is i d r n s e one is f fs front in
    let first : f ≡ frame_data i.ops.now i.maps.items (i.start - map_limit) r = cc in
    let rest : fs ≡ frames_on i.ops.now i.maps.items 0 (take n i.frames.items) [] = cc in
    let ops : i.ops.now ≡ d.ops = ap (λ (c : CursorData). c.ops) e in
    let deep : length i.frames.items ≡ d.depth = ap (λ (c : CursorData). c.depth) e in
    let inner : frame_data i.ops.now i.maps.items (i.start - map_limit) g ≡ record f { elements = Some x }
    = ap (frame_data i.ops.now i.maps.items (i.start - map_limit)) same
    ∙ ap (λ y. record (frame_data i.ops.now i.maps.items (i.start - map_limit) r) { elements = option_map (elements_data i.ops.now) y })
    (marked-some r.is_element (record {
      more = r.more - 1;
      start = r.start;
      width = r.width;
    }) mark)
    ∙ ap (λ (y : FrameData). record y { elements = Some x }) (sym first) in
    let frames : frames_on i.ops.now i.maps.items 0 (take i.level (set i.frames.items n g)) [] ≡ record f { elements = Some x } ∷ fs
    = ap (λ k. frames_on i.ops.now i.maps.items 0 (take k (set i.frames.items n g)) []) one
    ∙ frames-more i.ops.now i.maps.items i.frames.items n (i.start - map_limit) g (omega arith) (omega arith)
    ∙ ap (λ y. y ∷ frames_on i.ops.now i.maps.items 0 (take n i.frames.items) []) inner
    ∙ ap (λ l. record f { elements = Some x } ∷ l) (sym rest) in
    let now : gone_on d f fs (next_of f.elements) ≡ gone_on d f fs (Some x) = ap (gone_on d f fs) (next-is i d r n s e one is mark more f fs front) in
    let here : record {
      ops = i.ops.now;
      frames = frames_on i.ops.now i.maps.items 0 (take i.level (set i.frames.items n g)) [];
      left = run_at i.ops.now r.start;
      map = [];
      used = 0;
      ends = 8;
      depth = depth;
    } ≡ gone_on d f fs (Some x) = cc in
    here ∙ sym now
