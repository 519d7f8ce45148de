-- The segments that the fields of a cursor hold.
use Rattle.std.proofs.Common.{refl, sym, ap, subst, ◌∙◌, arith, get_or, set, Global, Vec}
use Rattle.std.specs.Prelude.{◌≡◌, ℕ, zero, suc, ◌+◌, ◌*◌, ◌<◌, ◌≤◌, ◌-◌, List, [], ◌∷◌, ◌++◌, length, take, drop, Option, option_map}
use Rattle.std.proofs.lemmas.List.{drop-take, take-take, take_more, take_more_set, length-take, length-take-le, length-drop, length-append}
use Rattle.std.proofs.lemmas.List.{take_at, drop_at, take-append-le, with_items_is}
use Rattle.std.specs.Vec.{with_items}
use borrow.Rule.Slice.PartMut.{put_mid, post_of}
use Rattle.fast_wire.specs.meaning.Maps.{map_limit}
use Rattle.fast_program.specs.declared.ops.Op.{Op}
use Rattle.fast_cursor.specs.device.Runs.{run_at}
use Rattle.fast_cursor.specs.device.Cursors.{FrameData, CursorData, frame_here, entered, left_to}
use Rattle.fast_cursor.specs.declared.frames.Elements.{Elements}
use Rattle.fast_cursor.specs.declared.frames.Frame.{Frame}
use Rattle.fast_cursor.specs.declared.map_place.MapPlace.{MapPlace}
use Rattle.fast_cursor.specs.declared.cursor.Cursor.TheInside.{Inside}
use Rattle.fast_cursor.specs.device.MapPlaces.{used_at, IsPlace}
use Rattle.fast_cursor.specs.device.Segments.{map_at, frame_data, frames_on, ArePlaces, elements_data, frame_elements, cursor_data, IsCursor}

-- each frame is there
pub length-frames : (ops : List Op) (cells : List ℕ) (start : ℕ) (fs : List Frame) (outer : List FrameData)
    → length (frames_on ops cells start fs outer) ≡ length fs + length outer
length-frames ops cells start [] outer = omega arith
length-frames ops cells start (f ∷ fs) outer = let e = length-frames ops cells (start + map_limit) fs (frame_data ops cells start f ∷ outer) in omega (arith, e)

-- The last frame is the innermost one.
pub frames-push : (ops : List Op) (cells : List ℕ) (start : ℕ) (fs : List Frame) (f : Frame) (outer : List FrameData)
    → frames_on ops cells start (fs ++ f ∷ []) outer ≡ frame_data ops cells
    (start + map_limit * length fs) f ∷ frames_on ops cells start fs outer
frames-push ops cells start [] f outer = let e : start ≡ start + map_limit * 0 = omega arith in ap (λ n. frame_data ops cells n f ∷ outer) e
frames-push ops cells start (g ∷ gs) f outer =
    let e : start + map_limit + map_limit * length gs ≡ start + map_limit * suc (length gs) = omega arith in
    frames-push ops cells (start + map_limit) gs f (frame_data ops cells start g ∷ outer)
    ∙ ap (λ n. frame_data ops cells n f ∷ frames_on ops cells (start + map_limit) gs (frame_data ops cells start g ∷ outer)) e

-- A map stands in the cells up to its last one.
pub map-within : (cells others : List ℕ) (start len n : ℕ) → start + len ≤ n → take n cells ≡ take n others → map_at cells start len ≡ map_at others start len
map-within cells others start len n h e =
    let same : take (start + len) cells ≡ take (start + len) others
    = sym (take-take (start + len) n cells h) ∙ ap (take (start + len)) e ∙ take-take (start + len) n others h in
    sym (drop-take start len cells) ∙ ap (drop start) same ∙ drop-take start len others

-- Frames don't change with the cells behind theirs.
pub frames-within : (ops : List Op) (cells others : List ℕ) (start : ℕ) (fs : List Frame) (outer : List FrameData) (n : ℕ)
    → ArePlaces cells start fs → start + map_limit * length fs ≤ n → take n cells ≡ take n others
    → frames_on ops cells start fs outer ≡ frames_on ops others start fs outer
frames-within ops cells others start [] outer n short h e = refl
frames-within ops cells others start (f ∷ fs) outer n short h e =
    let here : f.map.len ≤ map_limit = short.0.short in
    let same : map_at cells start f.map.len ≡ map_at others start f.map.len = map-within cells others start f.map.len n (omega arith) e in
    let front : frame_data ops cells start f ≡ frame_data ops others start f = cc in
    ap (λ d. frames_on ops cells (start + map_limit) fs (d ∷ outer)) front
    ∙ frames-within ops cells others (start + map_limit) fs (frame_data ops others start f ∷ outer) n short.1 (omega arith) e

-- Nor do their places.
pub places-within : (cells others : List ℕ) (start : ℕ) (fs : List Frame) (n : ℕ) → ArePlaces cells start fs
    → start + map_limit * length fs ≤ n → take n cells ≡ take n others → ArePlaces others start fs
places-within cells others start [] n short h e = tt
places-within cells others start (f ∷ fs) n short h e =
    let here : f.map.len ≤ map_limit = short.0.short in
    let same : map_at cells start f.map.len ≡ map_at others start f.map.len = map-within cells others start f.map.len n (omega arith) e in
    (subst (λ m. IsPlace m f.map) same short.0, places-within cells others (start + map_limit) fs n short.1 (omega arith) e)

-- The last frame's place is the innermost one's.
pub places-push : (cells : List ℕ) (start : ℕ) (fs : List Frame) (f : Frame) → ArePlaces cells start fs
    → IsPlace (map_at cells (start + map_limit * length fs) f.map.len) f.map → ArePlaces cells start (fs ++ f ∷ [])
places-push cells start [] f all h = let e : start + map_limit * 0 ≡ start = omega arith in (subst (λ n. IsPlace (map_at cells n f.map.len) f.map) e h, tt)
places-push cells start (g ∷ gs) f all h =
    let e : start + map_limit * suc (length gs) ≡ start + map_limit + map_limit * length gs = omega arith in
    (all.0, places-push cells (start + map_limit) gs f all.1 (subst (λ n. IsPlace (map_at cells n f.map.len) f.map) e h))

pub places-pop : (cells : List ℕ) (start : ℕ) (fs : List Frame) (f : Frame) → ArePlaces cells start (fs ++ f ∷ [])
    → ArePlaces cells start fs × IsPlace (map_at cells (start + map_limit * length fs) f.map.len) f.map
places-pop cells start [] f all = let e : start ≡ start + map_limit * 0 = omega arith in (tt, subst (λ n. IsPlace (map_at cells n f.map.len) f.map) e all.0)
places-pop cells start (g ∷ gs) f all =
    let e : start + map_limit + map_limit * length gs ≡ start + map_limit * suc (length gs) = omega arith in
    let (behind, last) = places-pop cells (start + map_limit) gs f all.1 in
    ((all.0, behind), subst (λ n. IsPlace (map_at cells n f.map.len) f.map) e last)

-- no more bytes than have come
pub length-map : (cells : List ℕ) (start len : ℕ) → length (map_at cells start len) ≤ len
length-map cells start len = let e = length-take len (drop start cells) in omega (arith, e)

-- as many as have come
pub map-is : (cells : List ℕ) (start len : ℕ) → start + len ≤ length cells → length (map_at cells start len) ≡ len
map-is cells start len h = let e = length-drop start cells in length-take-le len (drop start cells) (omega (arith, e, h))

-- a frame for each open segment
pub length-open : (i : Inside) → IsCursor i → length (cursor_data i).frames ≡ i.level
length-open i s = length-frames i.ops.now i.maps.items 0 (take i.level i.frames.items) []
    ∙ (let e = length-take-le i.level i.frames.items s.within in omega (arith, e))

-- A frame is there for one segment more.
pub has-room : (i : Inside) (d : CursorData) → IsCursor i → cursor_data i ≡ d → length d.frames < d.depth → i.level < length i.frames.items
has-room i d s e h =
    let frames : length d.frames ≡ i.level = ap (λ (c : CursorData). length c.frames) (sym e) ∙ length-open i s in
    let depth : length i.frames.items ≡ d.depth = ap (λ (c : CursorData). c.depth) e in
    omega arith

-- The frame that is written stands on those before it.
pub frames-more : (ops : List Op) (cells : List ℕ) (fs : List Frame) (n start : ℕ) (f : Frame) → n < length fs → start ≡ map_limit * n
    → frames_on ops cells 0 (take (n + 1) (set fs n f)) [] ≡ frame_data ops cells start f ∷ frames_on ops cells 0 (take n fs) []
frames-more ops cells fs n start f h e =
    let len : length (take n fs) ≡ n = length-take-le n fs (omega arith) in
    let place : 0 + map_limit * length (take n fs) ≡ start = omega arith in
    ap (λ l. frames_on ops cells 0 l []) (take_more_set fs n f h) ∙ frames-push ops cells 0 (take n fs) f []
    ∙ ap (λ k. frame_data ops cells k f ∷ frames_on ops cells 0 (take n fs) []) place

pub places-more : (cells : List ℕ) (fs : List Frame) (n start : ℕ) (f : Frame) → n < length fs → start ≡ map_limit * n
    → ArePlaces cells 0 (take n fs) → IsPlace (map_at cells start f.map.len) f.map → ArePlaces cells 0 (take (n + 1) (set fs n f))
places-more cells fs n start f h e all here =
    let len : length (take n fs) ≡ n = length-take-le n fs (omega arith) in
    let place : start ≡ 0 + map_limit * length (take n fs) = omega arith in
    subst (ArePlaces cells 0) (sym (take_more_set fs n f h))
    (places-push cells 0 (take n fs) f all (subst (λ k. IsPlace (map_at cells k f.map.len) f.map) place here))

-- A segment begins where a frame is written.
pub entered-is : (i : Inside) (d : CursorData) (elements : Option Elements) (start : ℕ) (f : Frame) (depth : ℕ) → IsCursor i
    → cursor_data i ≡ d → i.level < length i.frames.items → depth ≡ length i.frames.items
    → f.map ≡ i.map → f.after ≡ i.ip → frame_elements f ≡ elements
    → record {
      ops = i.ops.now;
      frames = frames_on i.ops.now i.maps.items 0 (take (i.level + 1) (set i.frames.items i.level f)) [];
      left = run_at i.ops.now start;
      map = [];
      used = 0;
      ends = 8;
      depth = depth;
    } ≡ entered d (option_map (elements_data d.ops) elements) (run_at d.ops start)
entered-is i d elements start f depth s e h k map after same =
    subst (λ (c : CursorData). record {
      ops = i.ops.now;
      frames = frames_on i.ops.now i.maps.items 0 (take (i.level + 1) (set i.frames.items i.level f)) [];
      left = run_at i.ops.now start;
      map = [];
      used = 0;
      ends = 8;
      depth = depth;
    } ≡ entered c (option_map (elements_data c.ops) elements) (run_at c.ops start)) e
    (let more : frames_on i.ops.now i.maps.items 0 (take (i.level + 1) (set i.frames.items i.level f))
    [] ≡ frame_data i.ops.now i.maps.items i.start f ∷ frames_on i.ops.now i.maps.items 0 (take i.level i.frames.items) []
    = frames-more i.ops.now i.maps.items i.frames.items i.level i.start f h s.starts in
    let here : frame_data i.ops.now i.maps.items i.start f ≡ frame_here (cursor_data i) (option_map (elements_data i.ops.now) elements)
    = ap (λ n. record (frame_data i.ops.now i.maps.items i.start f) { after = run_at i.ops.now n }) after
    ∙ ap (λ (m : MapPlace). record {
      after = run_at i.ops.now i.ip;
      map = map_at i.maps.items i.start m.len;
      used = used_at (map_at i.maps.items i.start m.len) m.end m.word;
      ends = m.end;
      elements = option_map (elements_data i.ops.now) (frame_elements f);
    }) map
    ∙ ap (λ x. frame_here (cursor_data i) (option_map (elements_data i.ops.now) x)) same in
    cc)

-- The frames below the innermost one.
pub frames-less : (ops : List Op) (cells : List ℕ) (fs : List Frame) (n start : ℕ) (f : Frame) → n < length fs → start ≡ map_limit * n → f ≡ get_or fs n f
    → frames_on ops cells 0 (take (n + 1) fs) [] ≡ frame_data ops cells start f ∷ frames_on ops cells 0 (take n fs) []
frames-less ops cells fs n start f h e is =
    let len : length (take n fs) ≡ n = length-take-le n fs (omega arith) in
    let place : 0 + map_limit * length (take n fs) ≡ start = omega arith in
    ap (λ l. frames_on ops cells 0 l []) (take_more fs n f h ∙ ap (λ g. take n fs ++ g ∷ []) (sym is))
    ∙ frames-push ops cells 0 (take n fs) f [] ∙ ap (λ k. frame_data ops cells k f ∷ frames_on ops cells 0 (take n fs) []) place

pub places-less : (cells : List ℕ) (fs : List Frame) (n start : ℕ) (f : Frame) → n < length fs → start ≡ map_limit * n → f ≡ get_or fs n f
    → ArePlaces cells 0 (take (n + 1) fs) → ArePlaces cells 0 (take n fs) × IsPlace (map_at cells start f.map.len) f.map
places-less cells fs n start f h e is all =
    let len : length (take n fs) ≡ n = length-take-le n fs (omega arith) in
    let place : 0 + map_limit * length (take n fs) ≡ start = omega arith in
    let (below, last) = places-pop cells 0 (take n fs) f (subst (ArePlaces cells 0) (take_more fs n f h ∙ ap (λ g. take n fs ++ g ∷ []) (sym is)) all) in
    (below, subst (λ k. IsPlace (map_at cells k f.map.len) f.map) place last)

-- The innermost segment is whole, and what its frame says goes on.
pub left-is : (i : Inside) (d : CursorData) (r : Frame) (n : ℕ) → IsCursor i → cursor_data i ≡ d → i.level ≡ n + 1
    → r ≡ get_or i.frames.items n r → (f : FrameData) (fs : List FrameData) → d.frames ≡ f ∷ fs
    → (record {
      ops = i.ops.now;
      frames = frames_on i.ops.now i.maps.items 0 (take n i.frames.items) [];
      left = run_at i.ops.now r.after;
      map = map_at i.maps.items (i.start - map_limit) r.map.len;
      used = used_at (map_at i.maps.items (i.start - map_limit) r.map.len) r.map.end r.map.word;
      ends = r.map.end;
      depth = length i.frames.items;
    } ≡ left_to d f fs)
    × (option_map (elements_data d.ops) (frame_elements r) ≡ f.elements)
left-is i d r n s e one is f fs front =
    let within : i.level ≤ length i.frames.items = s.within in
    let starts : i.start ≡ map_limit * i.level = s.starts in
    let less : frames_on i.ops.now i.maps.items 0 (take (n + 1) i.frames.items) [] ≡ frame_data i.ops.now i.maps.items
    (i.start - map_limit) r ∷ frames_on i.ops.now i.maps.items 0 (take n i.frames.items) []
    = frames-less i.ops.now i.maps.items i.frames.items n (i.start - map_limit) r (omega arith) (omega arith) is in
    let all : f ∷ fs ≡ frame_data i.ops.now i.maps.items (i.start - map_limit) r ∷ frames_on i.ops.now i.maps.items 0 (take n i.frames.items) []
    = sym front ∙ ap (λ (c : CursorData). c.frames) (sym e) ∙ ap (λ k. frames_on i.ops.now i.maps.items 0 (take k i.frames.items) []) one ∙ less in
    let first : f ≡ frame_data i.ops.now i.maps.items (i.start - map_limit) r = cc in
    let rest : fs ≡ frames_on i.ops.now i.maps.items 0 (take n i.frames.items) [] = cc in
    let depth : length i.frames.items ≡ d.depth = ap (λ (c : CursorData). c.depth) e in
    let ops : i.ops.now ≡ d.ops = ap (λ (c : CursorData). c.ops) e in
    (cc, ap (λ (o : List Op). option_map (elements_data o) (frame_elements r)) (sym ops) ∙ ap (λ (g : FrameData). g.elements) (sym first))

-- In so many cells from a place on stand others, and before it the same.
pub record IsFilled (room : ℕ) (old : List ℕ) (start : ℕ) (cells now : List ℕ) : Type 0 where
  pub before : take start now ≡ take start old
  pub inner : (n : ℕ) → n ≤ room → map_at now start n ≡ take n cells

pub filled : (maps : Vec ℕ Global) (old cells : List ℕ) (start k room : ℕ) → old ≡ maps.items → k ≡ room → start + room ≤ length old → length cells ≡ room
    → IsFilled room maps.items start cells (with_items maps (put_mid start k old cells)).items
filled maps old cells start k room same size h len =
    let front : length (take start old) ≡ start = length-take-le start old (omega arith) in
    let post : List ℕ = post_of start k old in
    let behind : length post ≡ length old - start - k = length-drop k (drop start old) ∙ ap (λ n. n - k) (length-drop start old) in
    let sum : length (put_mid start k old cells) ≡ length (take start old) + length (cells ++ post) = length-append (take start old) (cells ++ post) in
    let sum-2 : length (cells ++ post) ≡ length cells + length post = length-append cells post in
    let count : maps.len ≡ length maps.items = maps.ok.0 in
    let count-2 : length old ≡ length maps.items = ap length same in
    let is : (with_items maps (put_mid start k old cells)).items ≡ put_mid start k old cells = with_items_is maps (put_mid start k old cells) (omega arith) in
    record {
      before = ap (take start) is ∙ take_at (take start old) (cells ++ post) start front ∙ ap (take start) same;
      inner = λ n short. ap (λ l. map_at l start n) is ∙ ap (take n) (drop_at (take start old) (cells ++ post) start front)
          ∙ take-append-le n cells post (omega arith);
    }

-- Only the innermost map has changed.
pub only-map : (i : Inside) (d : CursorData) (now map : List ℕ) (used ends : ℕ) → IsCursor i → cursor_data i ≡ d
    → take i.start now ≡ take i.start i.maps.items → used ≡ (cursor_data i).used → ends ≡ i.map.end
    → record {
      ops = i.ops.now;
      frames = frames_on i.ops.now now 0 (take i.level i.frames.items) [];
      left = run_at i.ops.now i.ip;
      map = map;
      used = used;
      ends = ends;
      depth = length i.frames.items;
    } ≡ record d { map = map }
only-map i d now map used ends s e before same end =
    let len : length (take i.level i.frames.items) ≡ i.level = length-take-le i.level i.frames.items s.within in
    let starts : i.start ≡ map_limit * i.level = s.starts in
    let frames : frames_on i.ops.now now 0 (take i.level i.frames.items) [] ≡ frames_on i.ops.now i.maps.items 0 (take i.level i.frames.items) []
    = sym (frames-within i.ops.now i.maps.items now 0 (take i.level i.frames.items) [] i.start s.around (omega arith) (sym before)) in
    ap (λ n. record {
      ops = i.ops.now;
      frames = frames_on i.ops.now now 0 (take i.level i.frames.items) [];
      left = run_at i.ops.now i.ip;
      map = map;
      used = n;
      ends = ends;
      depth = length i.frames.items;
    }) same
    ∙ ap (λ n. record {
      ops = i.ops.now;
      frames = frames_on i.ops.now now 0 (take i.level i.frames.items) [];
      left = run_at i.ops.now i.ip;
      map = map;
      used = (cursor_data i).used;
      ends = n;
      depth = length i.frames.items;
    }) end
    ∙ ap (λ fs. record {
      ops = i.ops.now;
      frames = fs;
      left = run_at i.ops.now i.ip;
      map = map;
      used = (cursor_data i).used;
      ends = i.map.end;
      depth = length i.frames.items;
    }) frames
    ∙ ap (λ (c : CursorData). record c { map = map }) e

-- The places of the frames are the same.
pub only-places : (i : Inside) (now : List ℕ) → IsCursor i → take i.start now ≡ take i.start i.maps.items → ArePlaces now 0 (take i.level i.frames.items)
only-places i now s before =
    let len : length (take i.level i.frames.items) ≡ i.level = length-take-le i.level i.frames.items s.within in
    let starts : i.start ≡ map_limit * i.level = s.starts in
    places-within i.maps.items now 0 (take i.level i.frames.items) i.start s.around (omega arith) (sym before)

-- The cells of the innermost map are there.
pub cells-there : (i : Inside) → IsCursor i → i.start + map_limit ≤ length i.maps.items
cells-there i s = let within = s.within in let starts = s.starts in let cells = s.cells in omega arith

-- the bytes of the innermost map, where its cells were lent
pub map-lent : (i : Inside) (d : CursorData) (old : List ℕ) (k : ℕ) → IsCursor i → cursor_data i ≡ d → old ≡ i.maps.items → k ≡ map_limit
    → take i.map.len (take k (drop i.start old)) ≡ d.map
map-lent i d old k s e same size =
    let short : i.map.len ≤ k = let h = s.place.short in omega arith in
    take-take i.map.len k (drop i.start old) short ∙ ap (λ l. map_at l i.start i.map.len) same ∙ ap (λ (c : CursorData). c.map) e

pub inner-count : (i : Inside) → IsCursor i → length (map_at i.maps.items i.start i.map.len) ≡ i.map.len
inner-count i s =
    let there : i.start + map_limit ≤ length i.maps.items = cells-there i s in
    let short : i.map.len ≤ map_limit = s.place.short in
    map-is i.maps.items i.start i.map.len (omega (arith, there, short))

pub map-count : (i : Inside) (d : CursorData) → IsCursor i → cursor_data i ≡ d → length d.map ≡ i.map.len
map-count i d s e = ap (λ (c : CursorData). length c.map) (sym e) ∙ inner-count i s

-- Of a map that has not come no bit is used.
pub unused : (i : Inside) → IsCursor i → i.map.len ≡ 0 → ((cursor_data i).used ≡ 0) × (i.map.end ≡ 8)
unused i s none =
    let map : map_at i.maps.items i.start i.map.len ≡ [] = ap (map_at i.maps.items i.start) none in
    (ap (λ w. used_at w i.map.end i.map.word) map, s.place.is.none map)

-- The cells that were lent come back.
pub map-back : (i : Inside) (old cells : List ℕ) (k : ℕ) → IsCursor i → old ≡ i.maps.items → k ≡ map_limit → length cells ≡ length (take k (drop i.start old))
    → IsFilled map_limit i.maps.items i.start cells (with_items i.maps (put_mid i.start k old cells)).items
map-back i old cells k s same size len =
    let there : i.start + map_limit ≤ length i.maps.items = cells-there i s in
    let count : length old ≡ length i.maps.items = ap length same in
    let behind : length (drop i.start old) ≡ length old - i.start = length-drop i.start old in
    let lent : length (take k (drop i.start old)) ≡ k = length-take-le k (drop i.start old) (omega arith) in
    filled i.maps old cells i.start k map_limit same size (omega arith) (omega arith)

-- Eight cells that were lent come back.
pub front-back : (i : Inside) (old cells : List ℕ) (k : ℕ) → IsCursor i → old ≡ i.maps.items → k ≡ 8 → length cells ≡ 8
    → IsFilled 8 i.maps.items i.start cells (with_items i.maps (put_mid i.start k old cells)).items
front-back i old cells k s same size len =
    let there : i.start + map_limit ≤ length i.maps.items = cells-there i s in
    let count : length old ≡ length i.maps.items = ap length same in
    filled i.maps old cells i.start k 8 same size (omega arith) len

-- One cell is written, in which the innermost map begins.
pub one-before : (cells : List ℕ) (start b : ℕ) → start < length cells → take start (set cells start b) ≡ take start cells
one-before cells start b h =
    let len : length (take start cells) ≡ start = length-take-le start cells (omega arith) in
    sym (take-take start (start + 1) (set cells start b) (omega arith)) ∙ ap (take start) (take_more_set cells start b h)
    ∙ take_at (take start cells) (b ∷ []) start len

pub one-inner : (cells : List ℕ) (start b : ℕ) → start < length cells → map_at (set cells start b) start 1 ≡ b ∷ []
one-inner cells start b h =
    let len : length (take start cells) ≡ start = length-take-le start cells (omega arith) in
    sym (drop-take start 1 (set cells start b)) ∙ ap (drop start) (take_more_set cells start b h) ∙ drop_at (take start cells) (b ∷ []) start len

-- As many bytes as there are of a map.
take-counted : (n : ℕ) (w : List ℕ) → take (length (take n w)) w ≡ take n w
take-counted zero w = refl
take-counted (suc n) [] = refl
take-counted (suc n) (x ∷ w) = ap (λ t. x ∷ t) (take-counted n w)

-- the map in cells that were lent again
pub map-read : (old now : List ℕ) (start a n len : ℕ) → old ≡ now → len ≡ length (take (start + a + n - start) (drop start old))
    → (map_at now start len ≡ map_at now start (a + n)) × (take (start + a + n - start) (drop start old) ≡ map_at now start len)
map-read old now start a n len same e =
    let k : start + a + n - start ≡ a + n = omega arith in
    let read : take (start + a + n - start) (drop start old) ≡ map_at now start (a + n) =
    ap (λ l. take (start + a + n - start) (drop start l)) same ∙ ap (map_at now start) k in
    let here : map_at now start len ≡ map_at now start (a + n) = ap (map_at now start) (e ∙ ap length read) ∙ take-counted (a + n) (drop start now) in
    (here, read ∙ sym here)
