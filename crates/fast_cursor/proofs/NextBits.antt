-- The next bit of a cursor's map is in the word, and it is used.
use Rattle.std.proofs.Common.{refl, ap, subst, ◌∙◌, arith, sym}
use Rattle.std.specs.Prelude.{◌≡◌, ◌*◌, ◌%◌, drop}
use Rattle.fast_wire.specs.meaning.Maps.{bits, later_bits}
use Rattle.fast_cursor.specs.device.Cursors.{bits_left}
use Rattle.fast_cursor.specs.device.MapPlaces.{left_in, used_at, IsPlace}
use Rattle.fast_cursor.specs.device.Segments.{map_at, cursor_data, IsCursor}
use Rattle.fast_cursor.specs.declared.map_place.MapPlace.{MapPlace}
use Rattle.fast_cursor.specs.declared.cursor.Cursor.TheInside.{Inside}
use Rattle.fast_cursor.proofs.MapMarks.{word-spent, word-used, word-later}

-- The same bits are left, and the first of them is in the word.
pub record IsReady (i j : Inside) : Type 0 where
  pub cursor : IsCursor j
  pub more : j.map.word ≡ 9223372036854775808 → ⊥
  pub same : bits_left (cursor_data j) ≡ bits_left (cursor_data i)

pub ready-here : (i : Inside) → IsCursor i → (i.map.word ≡ 9223372036854775808 → ⊥) → IsReady i i
ready-here i s more = record { cursor = s; more = more; same = refl }

pub ready-behind : (i : Inside) (m : MapPlace) → IsCursor i → IsPlace (map_at i.maps.items i.start i.map.len) m → left_in m.word ≡ 56 → m.len ≡ i.map.len
    → drop (used_at (map_at i.maps.items i.start i.map.len) m.end m.word) (bits (map_at i.maps.items i.start i.map.len)) ≡ drop
    (used_at (map_at i.maps.items i.start i.map.len) i.map.end i.map.word) (bits (map_at i.maps.items i.start i.map.len))
    → IsReady i (record i { map = m })
ready-behind i m s place left len same = record {
  cursor = record {
    within = s.within;
    cells = s.cells;
    starts = s.starts;
    place = subst (λ n. IsPlace (map_at i.maps.items i.start n) m) (sym len) place;
    around = s.around;
    rest = s.rest;
    numbered = s.numbered;
    run = s.run;
    behind = s.behind;
  };
  more = λ e. let spent = word-spent m.word e in absurd (omega (arith, spent, left));
  same = ap (λ n. drop (used_at (map_at i.maps.items i.start n) m.end m.word) (bits (map_at i.maps.items i.start n))) len ∙ same;
}

-- the cursor behind its next bit
abbrev pub behind_bit : Inside → Inside
behind_bit j = record j { map = record j.map { word = j.map.word * 2 % 18446744073709551616 } }

pub behind-cursor : (i j : Inside) → IsReady i j → IsCursor (behind_bit j)
behind-cursor i j r = record {
  within = r.cursor.within;
  cells = r.cursor.cells;
  starts = r.cursor.starts;
  place = record { short = r.cursor.place.short; is = word-used (map_at j.maps.items j.start j.map.len) j.map.end j.map.word r.cursor.place.is r.more };
  around = r.cursor.around;
  rest = r.cursor.rest;
  numbered = r.cursor.numbered;
  run = r.cursor.run;
  behind = r.cursor.behind;
}

pub behind-bits : (i j : Inside) → IsReady i j → bits_left (cursor_data (behind_bit j)) ≡ later_bits (bits_left (cursor_data i))
behind-bits i j r = word-later (map_at j.maps.items j.start j.map.len) j.map.end j.map.word r.cursor.place.is r.more ∙ ap later_bits r.same
