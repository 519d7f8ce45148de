-- Each unit is taken in its own way.
use Rattle.std.proofs.Common.{rules, refl, sym, ap, ◌∙◌}
use mir.Syntax.{w32}
use Rattle.std.proofs.lemmas.Int.{to_z-of_z}
use Rattle.fast_machine.specs.device.Positions.{set_of}
use Rattle.fast_machine.specs.declared.machine.Waiting.TheVariants.{SegmentMap, Field, Mantissa}
use Rattle.fast_machine.proofs.steps.TurnCounts.{paid_awaited}
use Rattle.fast_machine.proofs.machine.Machine.take_awaited.Goals as goal

pub take_instruction-requires-clause-waits : goal.take_instruction-requires-clause-waits
take_instruction-requires-clause-waits g c = c.in-Field.is

pub take_instruction-requires-clause-ready : goal.take_instruction-requires-clause-ready
take_instruction-requires-clause-ready g c = c.requires.ready

pub take_instruction-requires-clause-some : goal.take_instruction-requires-clause-some
take_instruction-requires-clause-some g c = c.requires.some

pub returns-in-Field-clause-taken : goal.returns-in-Field-clause-taken
returns-in-Field-clause-taken g c = c.take_instruction.ensures.taken

pub returns-in-Field-clause-turns : goal.returns-in-Field-clause-turns
returns-in-Field-clause-turns g c way n h = paid_awaited way
    (set_of c.args.templates.now) c.args.limits.now n c.args.self.now c.take_instruction.new.self c.take_instruction.result.turn Field
    c.in-Field.is refl (c.take_instruction.ensures.turns way n) h

pub take_map-requires-clause-waits : goal.take_map-requires-clause-waits
take_map-requires-clause-waits g c = c.in-Map.is

pub take_map-requires-clause-ready : goal.take_map-requires-clause-ready
take_map-requires-clause-ready g c = c.requires.ready

pub take_map-requires-clause-some : goal.take_map-requires-clause-some
take_map-requires-clause-some g c = c.requires.some

pub returns-in-Map-clause-taken : goal.returns-in-Map-clause-taken
returns-in-Map-clause-taken g c = c.take_map.ensures.taken

pub take_identifier-requires-clause-waits : goal.take_identifier-requires-clause-waits
take_identifier-requires-clause-waits g c = c.in-Identifier.is

pub take_identifier-requires-clause-ready : goal.take_identifier-requires-clause-ready
take_identifier-requires-clause-ready g c = c.requires.ready

pub take_identifier-requires-clause-some : goal.take_identifier-requires-clause-some
take_identifier-requires-clause-some g c = c.requires.some

pub returns-in-Identifier-clause-taken : goal.returns-in-Identifier-clause-taken
returns-in-Identifier-clause-taken g c = c.take_identifier.ensures.taken

pub take_segment_map-requires-clause-waits : goal.take_segment_map-requires-clause-waits
take_segment_map-requires-clause-waits g c = c.in-SegmentMap.is

pub take_segment_map-requires-clause-ready : goal.take_segment_map-requires-clause-ready
take_segment_map-requires-clause-ready g c = c.requires.ready

pub take_segment_map-requires-clause-some : goal.take_segment_map-requires-clause-some
take_segment_map-requires-clause-some g c = c.requires.some

pub returns-in-SegmentMap-clause-taken : goal.returns-in-SegmentMap-clause-taken
returns-in-SegmentMap-clause-taken g c = c.take_segment_map.ensures.taken

pub returns-in-SegmentMap-clause-turns : goal.returns-in-SegmentMap-clause-turns
returns-in-SegmentMap-clause-turns g c way n h = paid_awaited way
    (set_of c.args.templates.now) c.args.limits.now n c.args.self.now c.take_segment_map.new.self c.take_segment_map.result.turn
    (SegmentMap c.in-SegmentMap.width) c.in-SegmentMap.is refl (c.take_segment_map.ensures.turns way n) h

pub take_mantissa-requires-clause-waits : goal.take_mantissa-requires-clause-waits
take_mantissa-requires-clause-waits g c = c.in-Mantissa.is ∙ sym (ap Mantissa (to_z-of_z w32 c.in-Mantissa.exponent (search rules)))

pub take_mantissa-requires-clause-ready : goal.take_mantissa-requires-clause-ready
take_mantissa-requires-clause-ready g c = c.requires.ready

pub take_mantissa-requires-clause-some : goal.take_mantissa-requires-clause-some
take_mantissa-requires-clause-some g c = c.requires.some

pub returns-in-Mantissa-clause-taken : goal.returns-in-Mantissa-clause-taken
returns-in-Mantissa-clause-taken g c = c.take_mantissa.ensures.taken

pub returns-in-Mantissa-clause-turns : goal.returns-in-Mantissa-clause-turns
returns-in-Mantissa-clause-turns g c way n h = paid_awaited way
    (set_of c.args.templates.now) c.args.limits.now n c.args.self.now c.take_mantissa.new.self c.take_mantissa.result.turn
    (Mantissa c.in-Mantissa.exponent) c.in-Mantissa.is refl (c.take_mantissa.ensures.turns way n) h
