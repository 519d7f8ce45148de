-- A machine that has taken bytes of a map, and waits for more.
use Rattle.std.proofs.Common.{refl, sym, ap, ◌∙◌, subst}
use Rattle.std.specs.Prelude.{◌≡◌, ℕ, ◌<◌, List, length}
use Rattle.fast_wire.specs.meaning.Entities.{HaveNoStop}
use Rattle.fast_wire.specs.meaning.Maps.{map_limit}
use Rattle.fast_value.specs.declared.settings.Limits.{Limits}
use Rattle.fast_tree.specs.meaning.Tree.{bits_of}
use Rattle.fast_cursor.specs.device.Cursors.{CursorData, resting}
use Rattle.fast_machine.specs.device.Positions.{Set, body_in, CanTake, IsPlaced, IsSupplied, IsReady}
use Rattle.fast_machine.specs.declared.machine.Machine.{Machine}
use Rattle.fast_machine.specs.declared.machine.Waiting.{Waiting}
use Rattle.fast_machine.specs.declared.machine.Waiting.TheVariants.{Map, SegmentMap}
use Rattle.fast_machine.proofs.steps.FieldTurns.{ready_at}
use Rattle.fast_machine.proofs.steps.FieldTurns.{supplied_moved}

module _ (set : Set) (l : Limits) (m : Machine) (c : CursorData) (ready : IsReady set l m) (same : c ≡ record m.cursor { map = c.map }) where
  -- It is still supplied.
  pub map_supplied : IsSupplied set l (record m { cursor = c })
  map_supplied = supplied_moved set l m (record m { cursor = c }) ready.supplied refl (ap resting same)

  module _ (w : List ℕ) (short : length w < map_limit) (no_stop : HaveNoStop w) (map : c.map ≡ w) where
    -- It is ready for more of a message's map.
    pub map_ready : m.waiting ≡ Map → IsReady set l (record m { cursor = c })
    map_ready waits =
        let (no_stop_yet, room, place) = subst (λ (v : Waiting). CanTake v set l m) waits ready.takes in
        ready_at set l (record m { cursor = c }) Map map_supplied waits (
          subst HaveNoStop (sym map) no_stop,
          subst (λ (v : List ℕ). length v < map_limit) (sym map) short,
          same ∙ ap (λ (x : CursorData). record x { map = c.map }) place ∙ ap (λ (x : CursorData). record x { map = c.map }) (sym (ap resting same)),
        )

    -- It is ready for more of a segment's map.
    pub segment_map_ready : (width : ℕ) → m.waiting ≡ SegmentMap width → IsReady set l (record m { cursor = c })
    segment_map_ready width waits =
        let (no_stop_yet, room, none, placed, wide) = subst (λ (v : Waiting). CanTake v set l m) waits ready.takes in
        ready_at set l (record m { cursor = c }) (SegmentMap width) map_supplied waits (
          subst HaveNoStop (sym map) no_stop,
          subst (λ (v : List ℕ). length v < map_limit) (sym map) short,
          ap (λ (x : CursorData). x.used) same ∙ none,
          subst (λ (x : CursorData). IsPlaced set x) (sym same) (record { below = placed.below; nested = placed.nested; frames = placed.frames }),
          subst (λ (x : CursorData). width ≡ bits_of (body_in set x.left)) (sym same) wide,
        )
