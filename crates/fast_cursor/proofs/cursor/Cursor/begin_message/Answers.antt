-- The map is the byte, and the place is behind its first bit.
use Rattle.std.proofs.Common.{refl, ◌≡◌, ◌≤◌, ◌∙◌, [], ◌∷◌, List, ℕ, ap, sym, subst, arith, length, length-set, set, ◌+◌, drop, take}
use Rattle.fast_wire.specs.meaning.Maps.{map_limit, bits, later_bits}
use Rattle.fast_cursor.specs.device.Runs.{run_at, IsRun}
use Rattle.fast_cursor.specs.device.Cursors.{CursorData}
use Rattle.fast_cursor.specs.device.MapPlaces.{used_at, IsPlace, IsWord}
use Rattle.fast_cursor.specs.device.Places.{IsAhead, IsPlaceOf}
use Rattle.fast_cursor.specs.device.Segments.{map_at, frames_on, cursor_data}
use Rattle.fast_cursor.specs.declared.cursor.Cursor.TheInside.{Inside}
use Rattle.fast_cursor.specs.declared.map_place.MapPlace.{MapPlace}
use Rattle.fast_cursor.specs.declared.place.Place.{Place}
use Rattle.fast_cursor.proofs.Segments.{cells-there, only-map, only-places, one-before, one-inner}
use Rattle.fast_cursor.proofs.Runs.{ahead-at}
use Rattle.fast_cursor.proofs.MapMarks.{word-spent}
use Rattle.fast_cursor.proofs.cursor.Cursor.begin_message.Goals as goal

-- the byte's cell
here : (i : Inside) (b : ℕ) (p : MapPlace) → i.start + map_limit ≤ length i.maps.items → p.len ≡ 1 → map_at (set i.maps.items i.start b) i.start p.len ≡ b ∷ []
here i b p there len = ap (map_at (set i.maps.items i.start b) i.start) len ∙ one-inner i.maps.items i.start b (omega (arith, there))

pub invariant_of-self : goal.invariant_of-self
invariant_of-self c =
    let i = c.self.inside in
    let there : i.start + map_limit ≤ length i.maps.items = cells-there i c.self.invariant in
    record {
      within = c.self.invariant.within;
      cells = length-set i.maps.items i.start c.args.byte ∙ c.self.invariant.cells;
      starts = c.self.invariant.starts;
      place = subst (λ m. IsPlace m c.of_byte-self-inside.result)
          (sym (here i c.args.byte c.of_byte-self-inside.result there c.of_byte-self-inside.ensures.len))
          c.of_byte-self-inside.ensures.place;
      around = only-places i (set i.maps.items i.start c.args.byte) c.self.invariant (one-before i.maps.items i.start c.args.byte (omega (arith, there)));
      rest = c.self.invariant.rest;
      numbered = c.self.invariant.numbered;
      run = c.self.invariant.run;
      behind = c.self.invariant.behind;
    }

pub use_bit-requires : goal.use_bit-requires
use_bit-requires c = record {
  more = λ e. let spent = word-spent c.of_byte-self-inside.result.word e in let left = c.of_byte-self-inside.ensures.left in
      absurd (omega (arith, spent, left));
}

pub returns-clause-same : goal.returns-clause-same
returns-clause-same c =
    let i = c.self.inside in
    let b : ℕ = c.args.byte in
    let p : MapPlace = c.of_byte-self-inside.result in
    let there : i.start + map_limit ≤ length i.maps.items = cells-there i c.self.invariant in
    let cells : List ℕ = set i.maps.items i.start b in
    let view : List ℕ → ℕ → ℕ → CursorData = λ w n e. record {
      ops = i.ops.now;
      frames = frames_on i.ops.now cells 0 (take i.level i.frames.items) [];
      left = run_at i.ops.now i.ip;
      map = w;
      used = n;
      ends = e;
      depth = length i.frames.items;
    } in
    ap (λ n. view (map_at cells i.start p.len) n p.end) (c.of_byte-self-inside.ensures.used (map_at cells i.start p.len))
    ∙ ap (λ w. view w 0 p.end) (here i b p there c.of_byte-self-inside.ensures.len)
    ∙ ap (view (b ∷ []) 0) c.of_byte-self-inside.ensures.end
    ∙ ap (λ (x : CursorData). record x { used = 0; ends = 8 })
    (only-map i c.args.self.now cells (b ∷ []) (cursor_data i).used i.map.end c.self.invariant c.self.view_is
    (one-before i.maps.items i.start b (omega (arith, there))) refl refl)

-- The place before the first bit is one of the cursor.
before : (d : CursorData) (p : Place) (b : ℕ) → IsAhead d.ops p.ahead.now → d.map ≡ b ∷ [] → IsWord (b ∷ []) d.ends p.word → IsPlaceOf d p
before d p b ahead map word = record { ahead = ahead; word = subst (λ w. IsWord w d.ends p.word) (sym map) word }

pub returns-clause-bits : goal.returns-clause-bits
returns-clause-bits c =
    let i = c.self.inside in
    let b : ℕ = c.args.byte in
    let p : MapPlace = c.of_byte-self-inside.result in
    let there : i.start + map_limit ≤ length i.maps.items = cells-there i c.self.invariant in
    let cells : List ℕ = set i.maps.items i.start b in
    let map : List ℕ = map_at cells i.start p.len in
    let is : map ≡ b ∷ [] = here i b p there c.of_byte-self-inside.ensures.len in
    let d : CursorData = record {
      ops = i.ops.now;
      frames = frames_on i.ops.now cells 0 (take i.level i.frames.items) [];
      left = run_at i.ops.now i.ip;
      map = map;
      used = used_at map p.end p.word;
      ends = p.end;
      depth = length i.frames.items;
    } in
    let run : IsRun i.ops.now c.args.start = subst (λ (x : CursorData). IsRun x.ops c.args.start) (sym c.self.view_is) c.requires.run in
    c.use_bit.ensures.bits d (before d _ b (ahead-at i.ops.now c.args.start run) is c.of_byte-self-inside.ensures.place.is)
    ∙ ap (λ n. later_bits (drop n (bits map))) (c.of_byte-self-inside.ensures.used map)
    ∙ ap (λ w. later_bits (bits w)) is

pub returns-clause-place : goal.returns-clause-place
returns-clause-place c =
    let i = c.self.inside in
    let b : ℕ = c.args.byte in
    let p : MapPlace = c.of_byte-self-inside.result in
    let there : i.start + map_limit ≤ length i.maps.items = cells-there i c.self.invariant in
    let cells : List ℕ = set i.maps.items i.start b in
    let map : List ℕ = map_at cells i.start p.len in
    let is : map ≡ b ∷ [] = here i b p there c.of_byte-self-inside.ensures.len in
    let d : CursorData = record {
      ops = i.ops.now;
      frames = frames_on i.ops.now cells 0 (take i.level i.frames.items) [];
      left = run_at i.ops.now i.ip;
      map = map;
      used = used_at map p.end p.word;
      ends = p.end;
      depth = length i.frames.items;
    } in
    let run : IsRun i.ops.now c.args.start = subst (λ (x : CursorData). IsRun x.ops c.args.start) (sym c.self.view_is) c.requires.run in
    c.use_bit.ensures.place d (before d _ b (ahead-at i.ops.now c.args.start run) is c.of_byte-self-inside.ensures.place.is)
