-- The presence map of a group or an element.
use Rattle.std.proofs.Common.{sym, ap, ◌∙◌}
use Rattle.std.specs.Prelude.{◌≡◌, ℕ, List, drop}
use Rattle.fast_wire.specs.meaning.Maps.{map_limit, bits}
use Rattle.fast_value.specs.meaning.Limits.{bounds}
use Rattle.fast_value.specs.declared.settings.Limits.{Limits}
use Rattle.fast_value.specs.declared.codes.Code.TheVariants.{L3}
use Rattle.fast_dict.specs.meaning.Dictionary.{Dictionary}
use Rattle.fast_dict.specs.meaning.Slots.{slots_dictionary}
use Rattle.fast_cursor.specs.device.Cursors.{CursorData}
use Rattle.fast_stream.specs.device.Frames.{resume}
use Rattle.fast_stream.specs.meaning.Grammar.{Grammar, narrow}
use Rattle.fast_stream.specs.device.GrammarReaders.{settles_reader, judged_map, reader_of}
use Rattle.fast_stream.specs.device.Machine.{after_bytes}
use Rattle.fast_stream.specs.device.Readers.{Reader, bind}
use Rattle.fast_machine.specs.device.Positions.{Set, body_in, frames_in, going_on, segment_behind, segment_reader}
use Rattle.fast_machine.specs.declared.machine.Machine.{Machine}
use Rattle.fast_machine.proofs.units.InHand.{entity_then}
use Rattle.fast_stream.proofs.streams.Stepping.{map-entity}

module _ (set : Set) (l : Limits) (d : Dictionary) (counted : ℕ) (c : CursorData) (width : ℕ) where
  -- what is read behind a map of which so many bits are used
  abbrev from_bit : ℕ → List ℕ → Grammar Dictionary
  from_bit used w = narrow width w (resume (bounds l) (frames_in set c.frames) (body_in set c.left) (record {
    context = record { dictionary = d; counted = counted };
    bits = drop used (bits w);
  }))

  abbrev judged_from : ℕ → List ℕ → Reader Dictionary
  judged_from used w = bind (settles_reader (judged_map l.strict w)) (λ m. reader_of l.strict (from_bit used m))

  -- what is read at the whole map
  abbrev pub segment_judged : List ℕ → Reader Dictionary
  segment_judged w = judged_from 0 w

  -- The segment is read from its map on.
  pub segment-reader : reader_of l.strict (segment_behind set (bounds l) d counted c width) ≡ entity_then L3 map_limit segment_judged
  segment-reader = map-entity l.strict (from_bit 0)

  -- It is what the machine reads behind a map of which no bit is used.
  pub segment_same : (m : Machine) (w : List ℕ) → m.cursor ≡ record c { map = m.cursor.map } → c.used ≡ 0 → m.cursor.map ≡ w
      → slots_dictionary m.slots ≡ d → m.counted ≡ counted → segment_judged w ≡ segment_reader set l m width
  segment_same m w same none whole dictionary count =
      let at : CursorData → Dictionary → ℕ → Reader Dictionary =
      λ x e k. bind (settles_reader (judged_map l.strict x.map))
      (λ v. reader_of l.strict (narrow width v (going_on set (bounds l) e k (record x { map = v })))) in
      ap (judged_from 0) (sym whole)
      ∙ ap (λ u. judged_from u m.cursor.map) (sym none)
      ∙ ap (λ x. at x d counted) (sym same)
      ∙ ap (λ e. at m.cursor e counted) (sym dictionary)
      ∙ ap (λ k. at m.cursor (slots_dictionary m.slots) k) (sym count)

  -- It does not look at the map that the cursor has.
  pub segment_of : (n : CursorData) → n ≡ record c { map = n.map }
      → after_bytes (reader_of l.strict (segment_behind set (bounds l) d counted n width)) n.map ≡ after_bytes
      (reader_of l.strict (segment_behind set (bounds l) d counted c width)) n.map
  segment_of n same = ap (λ (x : CursorData). after_bytes (reader_of l.strict (segment_behind set (bounds l) d counted x width)) n.map) same
