use Rattle.std.proofs.Common.{◌≡◌, ℕ, ◌+◌, ◌<◌, ap, ◌∙◌, subst, arith, refl, length, take, length-append}
use Rattle.std.specs.Prelude.{List, ◌++◌}
use Rattle.std.proofs.lemmas.List.{length-take-le}
use Rattle.fast_wire.specs.meaning.Maps.{map_limit}
use Rattle.fast_value.specs.declared.codes.Code.TheVariants.{L3}
use Rattle.fast_dict.specs.meaning.Slots.{slots_dictionary}
use Rattle.fast_machine.specs.device.Handing.{due}
use Rattle.fast_stream.specs.declared.faults.FaultCode.TheVariants as Why
use Rattle.fast_machine.specs.declared.machine.Waiting.{Waiting}
use Rattle.fast_machine.specs.declared.machine.Machine.{Machine}
use Rattle.fast_machine.specs.device.Positions.{set_of, tree_in, mapped_reader, map_reader, meaning, meaning_at, CanTake, IsTurn}
use Rattle.fast_machine.proofs.units.Takings.{taken_as, taken_cut, taken_full, due-map, map_reader-some}
use Rattle.fast_machine.proofs.machines.CutMaps.{map_supplied, map_ready}
use Rattle.fast_machine.proofs.machines.UnitTaken.{whole_to, cut_to, wrong_to}
use Rattle.fast_machine.proofs.machine.Machine.take_map.Goals as goal

pub returns-in-Cut-clause-taken : goal.returns-in-Cut-clause-taken
returns-in-Cut-clause-taken g c =
    let m : Machine = c.args.self.now in
    let set = set_of c.args.templates.now in
    let l = c.args.limits in
    let d = slots_dictionary m.slots in
    let front : List ℕ = m.cursor.map in
    let rest : List ℕ = c.args.rest.now in
    let new : Machine = record m { cursor = c.take_map.new.self } in
    let (no_stop_yet, room, place) = subst (λ (w : Waiting). CanTake w set l m) c.requires.waits c.requires.ready.takes in
    let (short, no_stop, bytes) = c.in-Cut.ensures.map in
    let sum : length (front ++ rest) ≡ length front + length rest = length-append front rest in
    let some : 0 < length rest = c.requires.some in
    cut_to g.S.Sink.takes g.S.Sink.stops set l (meaning set l m) rest c.args.sink.now new c.cut.ensures.bytes c.cut.ensures.turn
    (map_ready set l m c.take_map.new.self c.requires.ready c.take_map.ensures.same (front ++ rest) short no_stop bytes c.requires.waits)
    (taken_as g.S.Sink.takes g.S.Sink.stops (tree_in set) l rest c.args.sink.now (length rest) _ c.args.sink.now
    (ap (λ (w : Waiting). meaning_at w set l m) c.requires.waits)
    (ap (λ (w : Waiting). meaning_at w set l new) c.requires.waits ∙ ap (map_reader set l d) bytes
    ∙ map_reader-some set l d (front ++ rest) (omega (arith, sum, some)))
    (taken_cut g.S.Sink.takes g.S.Sink.stops (tree_in set) l L3 map_limit (mapped_reader set l d) (map_reader set l d front) front rest
    (due-map set l d front no_stop_yet room) c.args.sink.now some no_stop short))

pub returns-in-TooLong-clause-taken : goal.returns-in-TooLong-clause-taken
returns-in-TooLong-clause-taken g c =
    let m : Machine = c.args.self.now in
    let set = set_of c.args.templates.now in
    let l = c.args.limits in
    let d = slots_dictionary m.slots in
    let front : List ℕ = m.cursor.map in
    let rest : List ℕ = c.args.rest.now in
    let n : ℕ = c.in-TooLong.bytes in
    let (no_stop_yet, room, place) = subst (λ (w : Waiting). CanTake w set l m) c.requires.waits c.requires.ready.takes in
    let (some, within, full, no_stop) = c.in-TooLong.ensures.map in
    let taken : length (take n rest) ≡ n = length-take-le n rest within in
    let sum : length (front ++ take n rest) ≡ length front + length (take n rest) = length-append front (take n rest) in
    let all : length (front ++ take n rest) ≡ map_limit = omega (arith, taken, sum, full) in
    wrong_to g.S.Sink.takes g.S.Sink.stops set l (meaning set l m) rest c.args.sink.now (record m { cursor = c.take_map.new.self })
    (Why.Stream L3) c.wrong.ensures.bytes c.wrong.ensures.turn
    (map_supplied set l m c.take_map.new.self c.requires.ready c.take_map.ensures.same)
    (λ q. taken_as g.S.Sink.takes g.S.Sink.stops (tree_in set) l rest c.args.sink.now n _ c.args.sink.now
    (ap (λ (w : Waiting). meaning_at w set l m) c.requires.waits) refl
    (taken_full g.S.Sink.takes g.S.Sink.stops (tree_in set) l L3 map_limit (mapped_reader set l d) (map_reader set l d front) front rest
    (due-map set l d front no_stop_yet room) n c.args.sink.now q some within no_stop all))

pub returns-in-Whole-clause-taken : goal.returns-in-Whole-clause-taken
returns-in-Whole-clause-taken g c =
    let m : Machine = c.args.self.now in
    let set = set_of c.args.templates.now in
    let l = c.args.limits in
    let d = slots_dictionary m.slots in
    let front : List ℕ = m.cursor.map in
    let rest : List ℕ = c.args.rest.now in
    let n : ℕ = c.in-Whole.bytes in
    let (no_stop_yet, room, place) = subst (λ (w : Waiting). CanTake w set l m) c.requires.waits c.requires.ready.takes in
    let (some, within, short, entity, bytes) = c.in-Whole.ensures.map in
    whole_to g.S.Sink.takes g.S.Sink.stops set l L3 map_limit (mapped_reader set l d)
    (meaning set l m) front rest n c.args.sink.now c.mapped-turn.result c.mapped-turn.new.sink c.mapped-turn.new.self
    (ap (due (tree_in set) l) (ap (λ (w : Waiting). meaning_at w set l m) c.requires.waits) ∙ due-map set l d front no_stop_yet room) some within entity short
    (subst (λ (w : List ℕ). IsTurn g.S.Sink.takes g.S.Sink.stops set l
    (mapped_reader set l d w) c.args.sink.now c.mapped-turn.result c.mapped-turn.new.sink c.mapped-turn.new.self) bytes
    c.mapped-turn.ensures.turn)
