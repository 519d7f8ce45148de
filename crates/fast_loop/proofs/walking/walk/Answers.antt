-- The steps so far, and one more: what each arm did is what the loop's step did.
use Rattle.std.proofs.Common.{refl, sym, ap, ◌∙◌, subst, arith}
use Rattle.std.proofs.lemmas.List.{length-drop}
use Rattle.fast_machine.specs.device.Moving.{events_due}
use Rattle.std.specs.Prelude.{◌≡◌, ◌-◌, length, Result}
use Rattle.fast_stream.specs.declared.faults.FaultCode.{FaultCode}
use Rattle.fast_machine.specs.declared.machine.Turn.{Turn}
use Rattle.fast_machine.specs.declared.machine.Machine.{Machine}
use Rattle.fast_loop.specs.declared.spot.Spot.{Spot}
use Rattle.fast_loop.specs.declared.spot.Went.{Went}
use Rattle.fast_loop.specs.device.Arms.{IsAtSpot, HasWent}
use Rattle.fast_machine.specs.device.Positions.{set_of}
use Rattle.fast_machine.specs.device.Steps.{IsStep}
use Rattle.fast_loop.proofs.arms.Walks.{went_as, went_place, went_nowhere, went_left, went_within, went_far, gone_end}
use Rattle.fast_loop.proofs.walking.walk.Given.{Over}
use Rattle.fast_loop.proofs.walking.walk.Goals.{After-or_general, After-or_general-arg-in-silent-1}
use Rattle.fast_loop.proofs.arms.Ops.{arm_op}
use Rattle.fast_program.specs.declared.ops.Op.{Op}
use Rattle.fast_loop.proofs.walking.walk.Goals as goal

-- The effect of a step from where the loop stands.
abbrev WentHere : (g : Over) → After-or_general-arg-in-silent-1 g → Went → g.row.S.Denot → Machine → Spot → Type 0
WentHere g c = HasWent g.S.Sink.takes g.S.Sink.stops (set_of c.args.templates.now) c.args.limits.now c.silent.machine c.silent.spot c.silent.sink

-- What an arm did, under the names behind the match.
by_arm : (g : Over) (c : After-or_general-arg-in-silent-1 g) {went : Went} {s : g.row.S.Denot} {m : Machine} {to : Spot}
    → c.match-code.machine ≡ m → c.match-code.sink ≡ s → c.match-code.spot ≡ to → c.match-code.went ≡ went → WentHere g c went s m to
    → WentHere g c c.match-code.went c.match-code.sink c.match-code.machine c.match-code.spot
by_arm g c = went_as g.S.Sink.takes g.S.Sink.stops (set_of c.args.templates.now) c.args.limits.now c.silent.machine c.silent.spot c.silent.sink

-- What the arm did that the code led to.
went_here : (g : Over) (c : After-or_general-arg-in-silent-1 g)
    → WentHere g c c.match-code.went c.match-code.sink c.match-code.machine c.match-code.spot
went_here g c = elim c.match-code.branch [
  | goal.in-UInt32Plain w ↦ by_arm g c w.machine-is w.sink-is w.spot-is w.went-is w.uint32_arm-went.ensures.went
  | goal.in-UInt32NullablePlain w ↦ by_arm g c w.machine-is w.sink-is w.spot-is w.went-is w.uint32_arm-went-in-UInt32NullablePlain.ensures.went
  | goal.in-UInt32Default w ↦ by_arm g c w.machine-is w.sink-is w.spot-is w.went-is w.uint32_arm-went-in-UInt32Default.ensures.went
  | goal.in-UInt32NullableDefault w ↦ by_arm g c w.machine-is w.sink-is w.spot-is w.went-is w.uint32_arm-went-in-UInt32NullableDefault.ensures.went
  | goal.in-UInt32Copy w ↦ by_arm g c w.machine-is w.sink-is w.spot-is w.went-is w.uint32_arm-went-in-UInt32Copy.ensures.went
  | goal.in-UInt32NullableCopy w ↦ by_arm g c w.machine-is w.sink-is w.spot-is w.went-is w.uint32_arm-went-in-UInt32NullableCopy.ensures.went
  | goal.in-UInt32Increment w ↦ by_arm g c w.machine-is w.sink-is w.spot-is w.went-is w.uint32_arm-went-in-UInt32Increment.ensures.went
  | goal.in-UInt32NullableIncrement w ↦ by_arm g c w.machine-is w.sink-is w.spot-is w.went-is w.uint32_arm-went-in-UInt32NullableIncrement.ensures.went
  | goal.in-UInt32Delta w ↦ by_arm g c w.machine-is w.sink-is w.spot-is w.went-is w.delta_arm-went.ensures.went
  | goal.in-UInt32NullableDelta w ↦ by_arm g c w.machine-is w.sink-is w.spot-is w.went-is w.delta_arm-went-in-UInt32NullableDelta.ensures.went
  | goal.in-UInt64Plain w ↦ by_arm g c w.machine-is w.sink-is w.spot-is w.went-is w.uint64_arm-went.ensures.went
  | goal.in-UInt64NullablePlain w ↦ by_arm g c w.machine-is w.sink-is w.spot-is w.went-is w.uint64_arm-went-in-UInt64NullablePlain.ensures.went
  | goal.in-UInt64Default w ↦ by_arm g c w.machine-is w.sink-is w.spot-is w.went-is w.uint64_arm-went-in-UInt64Default.ensures.went
  | goal.in-UInt64NullableDefault w ↦ by_arm g c w.machine-is w.sink-is w.spot-is w.went-is w.uint64_arm-went-in-UInt64NullableDefault.ensures.went
  | goal.in-UInt64Copy w ↦ by_arm g c w.machine-is w.sink-is w.spot-is w.went-is w.uint64_arm-went-in-UInt64Copy.ensures.went
  | goal.in-UInt64NullableCopy w ↦ by_arm g c w.machine-is w.sink-is w.spot-is w.went-is w.uint64_arm-went-in-UInt64NullableCopy.ensures.went
  | goal.in-UInt64Increment w ↦ by_arm g c w.machine-is w.sink-is w.spot-is w.went-is w.uint64_arm-went-in-UInt64Increment.ensures.went
  | goal.in-UInt64NullableIncrement w ↦ by_arm g c w.machine-is w.sink-is w.spot-is w.went-is w.uint64_arm-went-in-UInt64NullableIncrement.ensures.went
  | goal.in-UInt64Delta w ↦ by_arm g c w.machine-is w.sink-is w.spot-is w.went-is w.delta_arm-went-in-UInt64Delta.ensures.went
  | goal.in-UInt64NullableDelta w ↦ by_arm g c w.machine-is w.sink-is w.spot-is w.went-is w.delta_arm-went-in-UInt64NullableDelta.ensures.went
  | goal.in-Int32Plain w ↦ by_arm g c w.machine-is w.sink-is w.spot-is w.went-is w.int32_arm-went.ensures.went
  | goal.in-Int32NullablePlain w ↦ by_arm g c w.machine-is w.sink-is w.spot-is w.went-is w.int32_arm-went-in-Int32NullablePlain.ensures.went
  | goal.in-Int32Default w ↦ by_arm g c w.machine-is w.sink-is w.spot-is w.went-is w.int32_arm-went-in-Int32Default.ensures.went
  | goal.in-Int32NullableDefault w ↦ by_arm g c w.machine-is w.sink-is w.spot-is w.went-is w.int32_arm-went-in-Int32NullableDefault.ensures.went
  | goal.in-Int32Copy w ↦ by_arm g c w.machine-is w.sink-is w.spot-is w.went-is w.int32_arm-went-in-Int32Copy.ensures.went
  | goal.in-Int32NullableCopy w ↦ by_arm g c w.machine-is w.sink-is w.spot-is w.went-is w.int32_arm-went-in-Int32NullableCopy.ensures.went
  | goal.in-Int32Increment w ↦ by_arm g c w.machine-is w.sink-is w.spot-is w.went-is w.int32_arm-went-in-Int32Increment.ensures.went
  | goal.in-Int32NullableIncrement w ↦ by_arm g c w.machine-is w.sink-is w.spot-is w.went-is w.int32_arm-went-in-Int32NullableIncrement.ensures.went
  | goal.in-Int32Delta w ↦ by_arm g c w.machine-is w.sink-is w.spot-is w.went-is w.delta_arm-went-in-Int32Delta.ensures.went
  | goal.in-Int32NullableDelta w ↦ by_arm g c w.machine-is w.sink-is w.spot-is w.went-is w.delta_arm-went-in-Int32NullableDelta.ensures.went
  | goal.in-Int64Plain w ↦ by_arm g c w.machine-is w.sink-is w.spot-is w.went-is w.int64_arm-went.ensures.went
  | goal.in-Int64NullablePlain w ↦ by_arm g c w.machine-is w.sink-is w.spot-is w.went-is w.int64_arm-went-in-Int64NullablePlain.ensures.went
  | goal.in-Int64Default w ↦ by_arm g c w.machine-is w.sink-is w.spot-is w.went-is w.int64_arm-went-in-Int64Default.ensures.went
  | goal.in-Int64NullableDefault w ↦ by_arm g c w.machine-is w.sink-is w.spot-is w.went-is w.int64_arm-went-in-Int64NullableDefault.ensures.went
  | goal.in-Int64Copy w ↦ by_arm g c w.machine-is w.sink-is w.spot-is w.went-is w.int64_arm-went-in-Int64Copy.ensures.went
  | goal.in-Int64NullableCopy w ↦ by_arm g c w.machine-is w.sink-is w.spot-is w.went-is w.int64_arm-went-in-Int64NullableCopy.ensures.went
  | goal.in-Int64Increment w ↦ by_arm g c w.machine-is w.sink-is w.spot-is w.went-is w.int64_arm-went-in-Int64Increment.ensures.went
  | goal.in-Int64NullableIncrement w ↦ by_arm g c w.machine-is w.sink-is w.spot-is w.went-is w.int64_arm-went-in-Int64NullableIncrement.ensures.went
  | goal.in-Int64Delta w ↦ by_arm g c w.machine-is w.sink-is w.spot-is w.went-is w.delta_arm-went-in-Int64Delta.ensures.went
  | goal.in-Int64NullableDelta w ↦ by_arm g c w.machine-is w.sink-is w.spot-is w.went-is w.delta_arm-went-in-Int64NullableDelta.ensures.went
  | goal.in-Constant w ↦ by_arm g c w.machine-is w.sink-is w.spot-is w.went-is w.constant_arm-went.ensures.went
  | goal.in-DecimalPlain w ↦ by_arm g c w.machine-is w.sink-is w.spot-is w.went-is w.plain_decimal_arm-went.ensures.went
  | goal.in-DecimalNullablePlain w ↦ by_arm g c w.machine-is w.sink-is w.spot-is w.went-is w.plain_decimal_arm-went-in-DecimalNullablePlain.ensures.went
  | goal.in-DecimalCopy w ↦ by_arm g c w.machine-is w.sink-is w.spot-is w.went-is w.copied_decimal_arm-went.ensures.went
  | goal.in-DecimalNullableCopy w ↦ by_arm g c w.machine-is w.sink-is w.spot-is w.went-is w.copied_decimal_arm-went-in-DecimalNullableCopy.ensures.went
  | goal.in-DecimalDelta w ↦ by_arm g c w.machine-is w.sink-is w.spot-is w.went-is w.changed_decimal_arm-went.ensures.went
  | goal.in-DecimalNullableDelta w ↦ by_arm g c w.machine-is w.sink-is w.spot-is w.went-is w.changed_decimal_arm-went-in-DecimalNullableDelta.ensures.went
  | goal.in-Parts w ↦ by_arm g c w.machine-is w.sink-is w.spot-is w.went-is w.parts_arm-went.ensures.went
  | goal.in-PartsDefault w ↦ by_arm g c w.machine-is w.sink-is w.spot-is w.went-is w.changed_parts_arm-went.ensures.went
  | goal.in-PartsNullableDefault w ↦ by_arm g c w.machine-is w.sink-is w.spot-is w.went-is w.changed_parts_arm-went-in-PartsNullableDefault.ensures.went
  | goal.in-PartsCopy w ↦ by_arm g c w.machine-is w.sink-is w.spot-is w.went-is w.changed_parts_arm-went-in-PartsCopy.ensures.went
  | goal.in-PartsNullableCopy w ↦ by_arm g c w.machine-is w.sink-is w.spot-is w.went-is w.changed_parts_arm-went-in-PartsNullableCopy.ensures.went
  | goal.in-AsciiPlain w ↦ by_arm g c w.machine-is w.sink-is w.spot-is w.went-is w.ascii_arm-went.ensures.went
  | goal.in-AsciiNullablePlain w ↦ by_arm g c w.machine-is w.sink-is w.spot-is w.went-is w.ascii_arm-went-in-AsciiNullablePlain.ensures.went
  | goal.in-AsciiDefault w ↦ by_arm g c w.machine-is w.sink-is w.spot-is w.went-is w.ascii_arm-went-in-AsciiDefault.ensures.went
  | goal.in-AsciiNullableDefault w ↦ by_arm g c w.machine-is w.sink-is w.spot-is w.went-is w.ascii_arm-went-in-AsciiNullableDefault.ensures.went
  | goal.in-AsciiCopy w ↦ by_arm g c w.machine-is w.sink-is w.spot-is w.went-is w.ascii_arm-went-in-AsciiCopy.ensures.went
  | goal.in-AsciiNullableCopy w ↦ by_arm g c w.machine-is w.sink-is w.spot-is w.went-is w.ascii_arm-went-in-AsciiNullableCopy.ensures.went
  | goal.in-AsciiTail w ↦ by_arm g c w.machine-is w.sink-is w.spot-is w.went-is w.ascii_arm-went-in-AsciiTail.ensures.went
  | goal.in-AsciiNullableTail w ↦ by_arm g c w.machine-is w.sink-is w.spot-is w.went-is w.ascii_arm-went-in-AsciiNullableTail.ensures.went
  | goal.in-AsciiDelta w ↦ by_arm g c w.machine-is w.sink-is w.spot-is w.went-is w.part_arm-went.ensures.went
  | goal.in-AsciiNullableDelta w ↦ by_arm g c w.machine-is w.sink-is w.spot-is w.went-is w.part_arm-went-in-AsciiNullableDelta.ensures.went
  | goal.in-UnicodePlain w ↦ by_arm g c w.machine-is w.sink-is w.spot-is w.went-is w.vector_arm-went.ensures.went
  | goal.in-UnicodeNullablePlain w ↦ by_arm g c w.machine-is w.sink-is w.spot-is w.went-is w.vector_arm-went-in-UnicodeNullablePlain.ensures.went
  | goal.in-UnicodeDelta w ↦ by_arm g c w.machine-is w.sink-is w.spot-is w.went-is w.part_arm-went-in-UnicodeDelta.ensures.went
  | goal.in-UnicodeNullableDelta w ↦ by_arm g c w.machine-is w.sink-is w.spot-is w.went-is w.part_arm-went-in-UnicodeNullableDelta.ensures.went
  | goal.in-BytesPlain w ↦ by_arm g c w.machine-is w.sink-is w.spot-is w.went-is w.vector_arm-went-in-BytesPlain.ensures.went
  | goal.in-BytesNullablePlain w ↦ by_arm g c w.machine-is w.sink-is w.spot-is w.went-is w.vector_arm-went-in-BytesNullablePlain.ensures.went
  | goal.in-BytesTail w ↦ by_arm g c w.machine-is w.sink-is w.spot-is w.went-is w.tail_arm-went.ensures.went
  | goal.in-BytesNullableTail w ↦ by_arm g c w.machine-is w.sink-is w.spot-is w.went-is w.tail_arm-went-in-BytesNullableTail.ensures.went
  | goal.in-Group+in_default w ↦ by_arm g c w.machine-is w.sink-is w.spot-is w.went-is w.group_arm.ensures.went
  | goal.in-OptionalGroup+in_default-group_arm w ↦ by_arm g c w.machine-is w.sink-is w.spot-is w.went-is w.group_arm-in-OptionalGroup.ensures.went
  | goal.in-Sequence+in_default-sequence_arm w ↦ by_arm g c w.machine-is w.sink-is w.spot-is w.went-is w.sequence_arm.ensures.went
  | goal.in-OptionalSequence+in_default-sequence_arm-2 w ↦ by_arm g c w.machine-is w.sink-is w.spot-is w.went-is w.sequence_arm-in-OptionalSequence.ensures.went
  | goal.in-End+in_default-end_arm w ↦ by_arm g c w.machine-is w.sink-is w.spot-is w.went-is w.end_arm.ensures.went
  | goal.in-General w ↦ by_arm g c w.machine-is w.sink-is w.spot-is w.went-is (refl, refl, refl)
]

-- The same before the general step.
went_before : (g : Over) (c : After-or_general g)
    → WentHere g c.before c.match-code.went c.match-code.sink c.match-code.machine c.match-code.spot
went_before g c = went_here g c.before

pub or_general-requires : goal.or_general-requires
or_general-requires g c =
    let spot : IsAtSpot (set_of c.args.templates.now) c.args.limits.now c.silent.machine c.silent.spot.place = record {
      waits = c.silent.invariant.waits;
      place = c.silent.invariant.place;
      can = c.silent.invariant.far.turn;
    } in
    let did = c.match-code in
    record {
      place = went_place g.S.Sink.takes g.S.Sink.stops (set_of c.args.templates.now) c.args.limits.now c.silent.machine c.silent.spot
          c.silent.sink did.went did.sink did.machine did.spot c.silent.invariant.place (went_here g c);
      spot = went_nowhere g.S.Sink.takes g.S.Sink.stops (set_of c.args.templates.now) c.args.limits.now c.silent.machine c.silent.spot
          c.silent.sink did.went did.sink did.machine did.spot spot (went_here g c);
    }

pub units-preserved-in-Took : goal.units-preserved-in-Took
units-preserved-in-Took g c =
    let (n, some, w) = c.in-Took.ensures.went in
    record { far = went_far w (λ e. cc e) c.silent.invariant.far; waits = w.waits; place = w.place }

pub events-preserved-in-Handed : goal.events-preserved-in-Handed
events-preserved-in-Handed g c =
    let w = c.in-Handed.ensures.went in
    record {
      far = went_far w (λ e. cc e) c.silent.invariant.far;
      waits = w.waits;
      place = w.place;
      left = went_within w c.silent.invariant.left c.events.invariant.left;
    }

pub units-preserved-in-Took-group_arm : goal.units-preserved-in-Took-group_arm
units-preserved-in-Took-group_arm g c =
    let (n, some, w) = c.in-Took-group_arm.ensures.went in
    record { far = went_far w (λ e. cc e) c.silent.invariant.far; waits = w.waits; place = w.place }

pub events-preserved-in-Handed-group_arm : goal.events-preserved-in-Handed-group_arm
events-preserved-in-Handed-group_arm g c =
    let w = c.in-Handed-group_arm.ensures.went in
    record {
      far = went_far w (λ e. cc e) c.silent.invariant.far;
      waits = w.waits;
      place = w.place;
      left = went_within w c.silent.invariant.left c.events.invariant.left;
    }

pub units-preserved-in-Took-sequence_arm : goal.units-preserved-in-Took-sequence_arm
units-preserved-in-Took-sequence_arm g c =
    let (n, some, w) = c.in-Took-sequence_arm.ensures.went in
    record { far = went_far w (λ e. cc e) c.silent.invariant.far; waits = w.waits; place = w.place }

pub events-preserved-in-Handed-sequence_arm : goal.events-preserved-in-Handed-sequence_arm
events-preserved-in-Handed-sequence_arm g c =
    let w = c.in-Handed-sequence_arm.ensures.went in
    record {
      far = went_far w (λ e. cc e) c.silent.invariant.far;
      waits = w.waits;
      place = w.place;
      left = went_within w c.silent.invariant.left c.events.invariant.left;
    }

pub units-preserved-in-Took-sequence_arm-2 : goal.units-preserved-in-Took-sequence_arm-2
units-preserved-in-Took-sequence_arm-2 g c =
    let (n, some, w) = c.in-Took-sequence_arm-2.ensures.went in
    record { far = went_far w (λ e. cc e) c.silent.invariant.far; waits = w.waits; place = w.place }

pub events-preserved-in-Handed-sequence_arm-2 : goal.events-preserved-in-Handed-sequence_arm-2
events-preserved-in-Handed-sequence_arm-2 g c =
    let w = c.in-Handed-sequence_arm-2.ensures.went in
    record {
      far = went_far w (λ e. cc e) c.silent.invariant.far;
      waits = w.waits;
      place = w.place;
      left = went_within w c.silent.invariant.left c.events.invariant.left;
    }

pub units-preserved-in-Took-end_arm : goal.units-preserved-in-Took-end_arm
units-preserved-in-Took-end_arm g c =
    let (n, some, w) = c.in-Took-end_arm.ensures.went in
    record { far = went_far w (λ e. cc e) c.silent.invariant.far; waits = w.waits; place = w.place }

pub events-preserved-in-Handed-end_arm : goal.events-preserved-in-Handed-end_arm
events-preserved-in-Handed-end_arm g c =
    let w = c.in-Handed-end_arm.ensures.went in
    record {
      far = went_far w (λ e. cc e) c.silent.invariant.far;
      waits = w.waits;
      place = w.place;
      left = went_within w c.silent.invariant.left c.events.invariant.left;
    }

pub units-smaller : goal.units-smaller
units-smaller g c =
    let (n, some, w) = c.in-Took-or_general.ensures.gone _ _ _ (went_before g (goal.at.units-smaller g c).After-or_general) in
    let left = went_left w in
    let within = w.step.within in
    let before = c.silent.invariant.left in
    let more = c.events.invariant.left in
    omega (arith, left, within, some, before, more)

pub units-preserved : goal.units-preserved
units-preserved g c =
    let (n, some, w) = c.in-Took-or_general.ensures.gone _ _ _ (went_before g (goal.at.units-preserved g c).After-or_general) in
    record { far = went_far w (λ e. cc e) c.silent.invariant.far; waits = w.waits; place = w.place }

pub events-smaller : goal.events-smaller
events-smaller g c =
    let w = c.in-Handed-or_general.ensures.gone _ _ _ (went_before g (goal.at.events-smaller g c).After-or_general) in
    let less = w.step.handed refl refl in
    let same = ap events_due c.silent.invariant.same in
    omega (arith, less, same)

pub events-preserved : goal.events-preserved
events-preserved g c =
    let w = c.in-Handed-or_general.ensures.gone _ _ _ (went_before g (goal.at.events-preserved g c).After-or_general) in
    record {
      far = went_far w (λ e. cc e) c.silent.invariant.far;
      waits = w.waits;
      place = w.place;
      left = went_within w c.silent.invariant.left c.events.invariant.left;
    }

pub op_at-requires-in-Silent : goal.op_at-requires-in-Silent
op_at-requires-in-Silent g c =
    let w = c.in-Silent.ensures.gone _ _ _ (went_before g (goal.at.op_at-requires-in-Silent g c).After-or_general) in
    let far = went_far w (λ e. cc e) c.silent.invariant.far in
    record { spot = record { waits = w.waits; place = w.place; can = far.turn } }

pub silent-smaller : goal.silent-smaller
silent-smaller g c =
    let w = c.in-Silent.ensures.gone _ _ _ (went_before g (goal.at.silent-smaller g c).After-or_general) in
    (w.step.silent refl refl).1

pub silent-preserved : goal.silent-preserved
silent-preserved g c =
    let w = c.in-Silent.ensures.gone _ _ _ (went_before g (goal.at.silent-preserved g c).After-or_general) in
    let left = went_left w in
    let before = c.silent.invariant.left in
    record {
      far = went_far w (λ e. cc e) c.silent.invariant.far;
      waits = w.waits;
      place = w.place;
      left = omega (arith, left, before);
      code = λ op there. let e = sym c.op_at-in-Silent.ensures.here ∙ there in let same : c.op_at-in-Silent.result.now ≡ op = cc e in
          ap (λ (o : Op). o.code) same;
      same = (w.step.silent refl refl).0 ∙ c.silent.invariant.same;
    }

pub overflow_sub-result : goal.overflow_sub-result
overflow_sub-result g c =
    let (n, rest, step) = c.in-Ended.ensures.gone _ _ _ (went_before g (goal.at.overflow_sub-result g c).After-or_general) in
    let left = ap length rest ∙ length-drop n c.silent.spot.rest.bytes.now in
    let within = c.silent.invariant.far.within in
    omega (arith, left, within)

pub returns-in-Ended-clause-step : goal.returns-in-Ended-clause-step
returns-in-Ended-clause-step g c =
    let (n, rest, step) = c.in-Ended.ensures.gone _ _ _ (went_before g (goal.at.returns-in-Ended-clause-step g c).After-or_general) in
    subst (λ (turn : Result Turn FaultCode). IsStep g.S.Sink.takes g.S.Sink.stops (set_of c.args.templates.now) c.args.limits.now
    c.args.machine.now c.args.piece.bytes.now c.args.sink.now (record {
      bytes = length c.args.piece.bytes.now - length c.or_general.new.spot.rest.bytes.now;
      turn = turn;
    }) c.or_general.new.sink c.or_general.new.machine)
    (sym c.ended.ensures)
    (gone_end n c.in-Ended.outcome c.or_general.new.spot.rest.bytes.now rest step c.silent.invariant.far)

pub uint32_arm-went-requires-clause-op : goal.uint32_arm-went-requires-clause-op
uint32_arm-went-requires-clause-op g c = arm_op c.silent.invariant.code c.op_at-op.ensures.here c.op_at-op.ensures.op c.in-UInt32Plain.is refl

pub uint32_arm-went-requires-in-UInt32NullablePlain-clause-op : goal.uint32_arm-went-requires-in-UInt32NullablePlain-clause-op
uint32_arm-went-requires-in-UInt32NullablePlain-clause-op g c =
    arm_op c.silent.invariant.code c.op_at-op.ensures.here c.op_at-op.ensures.op c.in-UInt32NullablePlain.is refl

pub uint32_arm-went-requires-in-UInt32Default-clause-op : goal.uint32_arm-went-requires-in-UInt32Default-clause-op
uint32_arm-went-requires-in-UInt32Default-clause-op g c =
    arm_op c.silent.invariant.code c.op_at-op.ensures.here c.op_at-op.ensures.op c.in-UInt32Default.is refl

pub uint32_arm-went-requires-in-UInt32NullableDefault-clause-op : goal.uint32_arm-went-requires-in-UInt32NullableDefault-clause-op
uint32_arm-went-requires-in-UInt32NullableDefault-clause-op g c =
    arm_op c.silent.invariant.code c.op_at-op.ensures.here c.op_at-op.ensures.op c.in-UInt32NullableDefault.is refl

pub uint32_arm-went-requires-in-UInt32Copy-clause-op : goal.uint32_arm-went-requires-in-UInt32Copy-clause-op
uint32_arm-went-requires-in-UInt32Copy-clause-op g c =
    arm_op c.silent.invariant.code c.op_at-op.ensures.here c.op_at-op.ensures.op c.in-UInt32Copy.is refl

pub uint32_arm-went-requires-in-UInt32NullableCopy-clause-op : goal.uint32_arm-went-requires-in-UInt32NullableCopy-clause-op
uint32_arm-went-requires-in-UInt32NullableCopy-clause-op g c =
    arm_op c.silent.invariant.code c.op_at-op.ensures.here c.op_at-op.ensures.op c.in-UInt32NullableCopy.is refl

pub uint32_arm-went-requires-in-UInt32Increment-clause-op : goal.uint32_arm-went-requires-in-UInt32Increment-clause-op
uint32_arm-went-requires-in-UInt32Increment-clause-op g c =
    arm_op c.silent.invariant.code c.op_at-op.ensures.here c.op_at-op.ensures.op c.in-UInt32Increment.is refl

pub uint32_arm-went-requires-in-UInt32NullableIncrement-clause-op : goal.uint32_arm-went-requires-in-UInt32NullableIncrement-clause-op
uint32_arm-went-requires-in-UInt32NullableIncrement-clause-op g c =
    arm_op c.silent.invariant.code c.op_at-op.ensures.here c.op_at-op.ensures.op c.in-UInt32NullableIncrement.is refl

pub delta_arm-went-requires-clause-op : goal.delta_arm-went-requires-clause-op
delta_arm-went-requires-clause-op g c = arm_op c.silent.invariant.code c.op_at-op.ensures.here c.op_at-op.ensures.op c.in-UInt32Delta.is refl

pub delta_arm-went-requires-in-UInt32NullableDelta-clause-op : goal.delta_arm-went-requires-in-UInt32NullableDelta-clause-op
delta_arm-went-requires-in-UInt32NullableDelta-clause-op g c =
    arm_op c.silent.invariant.code c.op_at-op.ensures.here c.op_at-op.ensures.op c.in-UInt32NullableDelta.is refl

pub uint64_arm-went-requires-clause-op : goal.uint64_arm-went-requires-clause-op
uint64_arm-went-requires-clause-op g c = arm_op c.silent.invariant.code c.op_at-op.ensures.here c.op_at-op.ensures.op c.in-UInt64Plain.is refl

pub uint64_arm-went-requires-in-UInt64NullablePlain-clause-op : goal.uint64_arm-went-requires-in-UInt64NullablePlain-clause-op
uint64_arm-went-requires-in-UInt64NullablePlain-clause-op g c =
    arm_op c.silent.invariant.code c.op_at-op.ensures.here c.op_at-op.ensures.op c.in-UInt64NullablePlain.is refl

pub uint64_arm-went-requires-in-UInt64Default-clause-op : goal.uint64_arm-went-requires-in-UInt64Default-clause-op
uint64_arm-went-requires-in-UInt64Default-clause-op g c =
    arm_op c.silent.invariant.code c.op_at-op.ensures.here c.op_at-op.ensures.op c.in-UInt64Default.is refl

pub uint64_arm-went-requires-in-UInt64NullableDefault-clause-op : goal.uint64_arm-went-requires-in-UInt64NullableDefault-clause-op
uint64_arm-went-requires-in-UInt64NullableDefault-clause-op g c =
    arm_op c.silent.invariant.code c.op_at-op.ensures.here c.op_at-op.ensures.op c.in-UInt64NullableDefault.is refl

pub uint64_arm-went-requires-in-UInt64Copy-clause-op : goal.uint64_arm-went-requires-in-UInt64Copy-clause-op
uint64_arm-went-requires-in-UInt64Copy-clause-op g c =
    arm_op c.silent.invariant.code c.op_at-op.ensures.here c.op_at-op.ensures.op c.in-UInt64Copy.is refl

pub uint64_arm-went-requires-in-UInt64NullableCopy-clause-op : goal.uint64_arm-went-requires-in-UInt64NullableCopy-clause-op
uint64_arm-went-requires-in-UInt64NullableCopy-clause-op g c =
    arm_op c.silent.invariant.code c.op_at-op.ensures.here c.op_at-op.ensures.op c.in-UInt64NullableCopy.is refl

pub uint64_arm-went-requires-in-UInt64Increment-clause-op : goal.uint64_arm-went-requires-in-UInt64Increment-clause-op
uint64_arm-went-requires-in-UInt64Increment-clause-op g c =
    arm_op c.silent.invariant.code c.op_at-op.ensures.here c.op_at-op.ensures.op c.in-UInt64Increment.is refl

pub uint64_arm-went-requires-in-UInt64NullableIncrement-clause-op : goal.uint64_arm-went-requires-in-UInt64NullableIncrement-clause-op
uint64_arm-went-requires-in-UInt64NullableIncrement-clause-op g c =
    arm_op c.silent.invariant.code c.op_at-op.ensures.here c.op_at-op.ensures.op c.in-UInt64NullableIncrement.is refl

pub delta_arm-went-requires-in-UInt64Delta-clause-op : goal.delta_arm-went-requires-in-UInt64Delta-clause-op
delta_arm-went-requires-in-UInt64Delta-clause-op g c =
    arm_op c.silent.invariant.code c.op_at-op.ensures.here c.op_at-op.ensures.op c.in-UInt64Delta.is refl

pub delta_arm-went-requires-in-UInt64NullableDelta-clause-op : goal.delta_arm-went-requires-in-UInt64NullableDelta-clause-op
delta_arm-went-requires-in-UInt64NullableDelta-clause-op g c =
    arm_op c.silent.invariant.code c.op_at-op.ensures.here c.op_at-op.ensures.op c.in-UInt64NullableDelta.is refl

pub int32_arm-went-requires-clause-op : goal.int32_arm-went-requires-clause-op
int32_arm-went-requires-clause-op g c = arm_op c.silent.invariant.code c.op_at-op.ensures.here c.op_at-op.ensures.op c.in-Int32Plain.is refl

pub int32_arm-went-requires-in-Int32NullablePlain-clause-op : goal.int32_arm-went-requires-in-Int32NullablePlain-clause-op
int32_arm-went-requires-in-Int32NullablePlain-clause-op g c =
    arm_op c.silent.invariant.code c.op_at-op.ensures.here c.op_at-op.ensures.op c.in-Int32NullablePlain.is refl

pub int32_arm-went-requires-in-Int32Default-clause-op : goal.int32_arm-went-requires-in-Int32Default-clause-op
int32_arm-went-requires-in-Int32Default-clause-op g c =
    arm_op c.silent.invariant.code c.op_at-op.ensures.here c.op_at-op.ensures.op c.in-Int32Default.is refl

pub int32_arm-went-requires-in-Int32NullableDefault-clause-op : goal.int32_arm-went-requires-in-Int32NullableDefault-clause-op
int32_arm-went-requires-in-Int32NullableDefault-clause-op g c =
    arm_op c.silent.invariant.code c.op_at-op.ensures.here c.op_at-op.ensures.op c.in-Int32NullableDefault.is refl

pub int32_arm-went-requires-in-Int32Copy-clause-op : goal.int32_arm-went-requires-in-Int32Copy-clause-op
int32_arm-went-requires-in-Int32Copy-clause-op g c =
    arm_op c.silent.invariant.code c.op_at-op.ensures.here c.op_at-op.ensures.op c.in-Int32Copy.is refl

pub int32_arm-went-requires-in-Int32NullableCopy-clause-op : goal.int32_arm-went-requires-in-Int32NullableCopy-clause-op
int32_arm-went-requires-in-Int32NullableCopy-clause-op g c =
    arm_op c.silent.invariant.code c.op_at-op.ensures.here c.op_at-op.ensures.op c.in-Int32NullableCopy.is refl

pub int32_arm-went-requires-in-Int32Increment-clause-op : goal.int32_arm-went-requires-in-Int32Increment-clause-op
int32_arm-went-requires-in-Int32Increment-clause-op g c =
    arm_op c.silent.invariant.code c.op_at-op.ensures.here c.op_at-op.ensures.op c.in-Int32Increment.is refl

pub int32_arm-went-requires-in-Int32NullableIncrement-clause-op : goal.int32_arm-went-requires-in-Int32NullableIncrement-clause-op
int32_arm-went-requires-in-Int32NullableIncrement-clause-op g c =
    arm_op c.silent.invariant.code c.op_at-op.ensures.here c.op_at-op.ensures.op c.in-Int32NullableIncrement.is refl

pub delta_arm-went-requires-in-Int32Delta-clause-op : goal.delta_arm-went-requires-in-Int32Delta-clause-op
delta_arm-went-requires-in-Int32Delta-clause-op g c =
    arm_op c.silent.invariant.code c.op_at-op.ensures.here c.op_at-op.ensures.op c.in-Int32Delta.is refl

pub delta_arm-went-requires-in-Int32NullableDelta-clause-op : goal.delta_arm-went-requires-in-Int32NullableDelta-clause-op
delta_arm-went-requires-in-Int32NullableDelta-clause-op g c =
    arm_op c.silent.invariant.code c.op_at-op.ensures.here c.op_at-op.ensures.op c.in-Int32NullableDelta.is refl

pub int64_arm-went-requires-clause-op : goal.int64_arm-went-requires-clause-op
int64_arm-went-requires-clause-op g c = arm_op c.silent.invariant.code c.op_at-op.ensures.here c.op_at-op.ensures.op c.in-Int64Plain.is refl

pub int64_arm-went-requires-in-Int64NullablePlain-clause-op : goal.int64_arm-went-requires-in-Int64NullablePlain-clause-op
int64_arm-went-requires-in-Int64NullablePlain-clause-op g c =
    arm_op c.silent.invariant.code c.op_at-op.ensures.here c.op_at-op.ensures.op c.in-Int64NullablePlain.is refl

pub int64_arm-went-requires-in-Int64Default-clause-op : goal.int64_arm-went-requires-in-Int64Default-clause-op
int64_arm-went-requires-in-Int64Default-clause-op g c =
    arm_op c.silent.invariant.code c.op_at-op.ensures.here c.op_at-op.ensures.op c.in-Int64Default.is refl

pub int64_arm-went-requires-in-Int64NullableDefault-clause-op : goal.int64_arm-went-requires-in-Int64NullableDefault-clause-op
int64_arm-went-requires-in-Int64NullableDefault-clause-op g c =
    arm_op c.silent.invariant.code c.op_at-op.ensures.here c.op_at-op.ensures.op c.in-Int64NullableDefault.is refl

pub int64_arm-went-requires-in-Int64Copy-clause-op : goal.int64_arm-went-requires-in-Int64Copy-clause-op
int64_arm-went-requires-in-Int64Copy-clause-op g c =
    arm_op c.silent.invariant.code c.op_at-op.ensures.here c.op_at-op.ensures.op c.in-Int64Copy.is refl

pub int64_arm-went-requires-in-Int64NullableCopy-clause-op : goal.int64_arm-went-requires-in-Int64NullableCopy-clause-op
int64_arm-went-requires-in-Int64NullableCopy-clause-op g c =
    arm_op c.silent.invariant.code c.op_at-op.ensures.here c.op_at-op.ensures.op c.in-Int64NullableCopy.is refl

pub int64_arm-went-requires-in-Int64Increment-clause-op : goal.int64_arm-went-requires-in-Int64Increment-clause-op
int64_arm-went-requires-in-Int64Increment-clause-op g c =
    arm_op c.silent.invariant.code c.op_at-op.ensures.here c.op_at-op.ensures.op c.in-Int64Increment.is refl

pub int64_arm-went-requires-in-Int64NullableIncrement-clause-op : goal.int64_arm-went-requires-in-Int64NullableIncrement-clause-op
int64_arm-went-requires-in-Int64NullableIncrement-clause-op g c =
    arm_op c.silent.invariant.code c.op_at-op.ensures.here c.op_at-op.ensures.op c.in-Int64NullableIncrement.is refl

pub delta_arm-went-requires-in-Int64Delta-clause-op : goal.delta_arm-went-requires-in-Int64Delta-clause-op
delta_arm-went-requires-in-Int64Delta-clause-op g c =
    arm_op c.silent.invariant.code c.op_at-op.ensures.here c.op_at-op.ensures.op c.in-Int64Delta.is refl

pub delta_arm-went-requires-in-Int64NullableDelta-clause-op : goal.delta_arm-went-requires-in-Int64NullableDelta-clause-op
delta_arm-went-requires-in-Int64NullableDelta-clause-op g c =
    arm_op c.silent.invariant.code c.op_at-op.ensures.here c.op_at-op.ensures.op c.in-Int64NullableDelta.is refl

pub constant_arm-went-requires-clause-op : goal.constant_arm-went-requires-clause-op
constant_arm-went-requires-clause-op g c = arm_op c.silent.invariant.code c.op_at-op.ensures.here c.op_at-op.ensures.op c.in-Constant.is refl

pub plain_decimal_arm-went-requires-clause-op : goal.plain_decimal_arm-went-requires-clause-op
plain_decimal_arm-went-requires-clause-op g c = arm_op c.silent.invariant.code c.op_at-op.ensures.here c.op_at-op.ensures.op c.in-DecimalPlain.is refl

pub plain_decimal_arm-went-requires-in-DecimalNullablePlain-clause-op : goal.plain_decimal_arm-went-requires-in-DecimalNullablePlain-clause-op
plain_decimal_arm-went-requires-in-DecimalNullablePlain-clause-op g c =
    arm_op c.silent.invariant.code c.op_at-op.ensures.here c.op_at-op.ensures.op c.in-DecimalNullablePlain.is refl

pub copied_decimal_arm-went-requires-clause-op : goal.copied_decimal_arm-went-requires-clause-op
copied_decimal_arm-went-requires-clause-op g c = arm_op c.silent.invariant.code c.op_at-op.ensures.here c.op_at-op.ensures.op c.in-DecimalCopy.is refl

pub copied_decimal_arm-went-requires-in-DecimalNullableCopy-clause-op : goal.copied_decimal_arm-went-requires-in-DecimalNullableCopy-clause-op
copied_decimal_arm-went-requires-in-DecimalNullableCopy-clause-op g c =
    arm_op c.silent.invariant.code c.op_at-op.ensures.here c.op_at-op.ensures.op c.in-DecimalNullableCopy.is refl

pub changed_decimal_arm-went-requires-clause-op : goal.changed_decimal_arm-went-requires-clause-op
changed_decimal_arm-went-requires-clause-op g c =
    arm_op c.silent.invariant.code c.op_at-op.ensures.here c.op_at-op.ensures.op c.in-DecimalDelta.is refl

pub changed_decimal_arm-went-requires-in-DecimalNullableDelta-clause-op : goal.changed_decimal_arm-went-requires-in-DecimalNullableDelta-clause-op
changed_decimal_arm-went-requires-in-DecimalNullableDelta-clause-op g c =
    arm_op c.silent.invariant.code c.op_at-op.ensures.here c.op_at-op.ensures.op c.in-DecimalNullableDelta.is refl

pub parts_arm-went-requires-clause-op : goal.parts_arm-went-requires-clause-op
parts_arm-went-requires-clause-op g c = arm_op c.silent.invariant.code c.op_at-op.ensures.here c.op_at-op.ensures.op c.in-Parts.is refl

pub changed_parts_arm-went-requires-clause-op : goal.changed_parts_arm-went-requires-clause-op
changed_parts_arm-went-requires-clause-op g c = arm_op c.silent.invariant.code c.op_at-op.ensures.here c.op_at-op.ensures.op c.in-PartsDefault.is refl

pub changed_parts_arm-went-requires-in-PartsNullableDefault-clause-op : goal.changed_parts_arm-went-requires-in-PartsNullableDefault-clause-op
changed_parts_arm-went-requires-in-PartsNullableDefault-clause-op g c =
    arm_op c.silent.invariant.code c.op_at-op.ensures.here c.op_at-op.ensures.op c.in-PartsNullableDefault.is refl

pub changed_parts_arm-went-requires-in-PartsCopy-clause-op : goal.changed_parts_arm-went-requires-in-PartsCopy-clause-op
changed_parts_arm-went-requires-in-PartsCopy-clause-op g c =
    arm_op c.silent.invariant.code c.op_at-op.ensures.here c.op_at-op.ensures.op c.in-PartsCopy.is refl

pub changed_parts_arm-went-requires-in-PartsNullableCopy-clause-op : goal.changed_parts_arm-went-requires-in-PartsNullableCopy-clause-op
changed_parts_arm-went-requires-in-PartsNullableCopy-clause-op g c =
    arm_op c.silent.invariant.code c.op_at-op.ensures.here c.op_at-op.ensures.op c.in-PartsNullableCopy.is refl

pub ascii_arm-went-requires-clause-op : goal.ascii_arm-went-requires-clause-op
ascii_arm-went-requires-clause-op g c = arm_op c.silent.invariant.code c.op_at-op.ensures.here c.op_at-op.ensures.op c.in-AsciiPlain.is refl

pub ascii_arm-went-requires-in-AsciiNullablePlain-clause-op : goal.ascii_arm-went-requires-in-AsciiNullablePlain-clause-op
ascii_arm-went-requires-in-AsciiNullablePlain-clause-op g c =
    arm_op c.silent.invariant.code c.op_at-op.ensures.here c.op_at-op.ensures.op c.in-AsciiNullablePlain.is refl

pub ascii_arm-went-requires-in-AsciiDefault-clause-op : goal.ascii_arm-went-requires-in-AsciiDefault-clause-op
ascii_arm-went-requires-in-AsciiDefault-clause-op g c =
    arm_op c.silent.invariant.code c.op_at-op.ensures.here c.op_at-op.ensures.op c.in-AsciiDefault.is refl

pub ascii_arm-went-requires-in-AsciiNullableDefault-clause-op : goal.ascii_arm-went-requires-in-AsciiNullableDefault-clause-op
ascii_arm-went-requires-in-AsciiNullableDefault-clause-op g c =
    arm_op c.silent.invariant.code c.op_at-op.ensures.here c.op_at-op.ensures.op c.in-AsciiNullableDefault.is refl

pub ascii_arm-went-requires-in-AsciiCopy-clause-op : goal.ascii_arm-went-requires-in-AsciiCopy-clause-op
ascii_arm-went-requires-in-AsciiCopy-clause-op g c =
    arm_op c.silent.invariant.code c.op_at-op.ensures.here c.op_at-op.ensures.op c.in-AsciiCopy.is refl

pub ascii_arm-went-requires-in-AsciiNullableCopy-clause-op : goal.ascii_arm-went-requires-in-AsciiNullableCopy-clause-op
ascii_arm-went-requires-in-AsciiNullableCopy-clause-op g c =
    arm_op c.silent.invariant.code c.op_at-op.ensures.here c.op_at-op.ensures.op c.in-AsciiNullableCopy.is refl

pub ascii_arm-went-requires-in-AsciiTail-clause-op : goal.ascii_arm-went-requires-in-AsciiTail-clause-op
ascii_arm-went-requires-in-AsciiTail-clause-op g c =
    arm_op c.silent.invariant.code c.op_at-op.ensures.here c.op_at-op.ensures.op c.in-AsciiTail.is refl

pub ascii_arm-went-requires-in-AsciiNullableTail-clause-op : goal.ascii_arm-went-requires-in-AsciiNullableTail-clause-op
ascii_arm-went-requires-in-AsciiNullableTail-clause-op g c =
    arm_op c.silent.invariant.code c.op_at-op.ensures.here c.op_at-op.ensures.op c.in-AsciiNullableTail.is refl

pub part_arm-went-requires-clause-op : goal.part_arm-went-requires-clause-op
part_arm-went-requires-clause-op g c = arm_op c.silent.invariant.code c.op_at-op.ensures.here c.op_at-op.ensures.op c.in-AsciiDelta.is refl

pub part_arm-went-requires-in-AsciiNullableDelta-clause-op : goal.part_arm-went-requires-in-AsciiNullableDelta-clause-op
part_arm-went-requires-in-AsciiNullableDelta-clause-op g c =
    arm_op c.silent.invariant.code c.op_at-op.ensures.here c.op_at-op.ensures.op c.in-AsciiNullableDelta.is refl

pub vector_arm-went-requires-clause-op : goal.vector_arm-went-requires-clause-op
vector_arm-went-requires-clause-op g c = arm_op c.silent.invariant.code c.op_at-op.ensures.here c.op_at-op.ensures.op c.in-UnicodePlain.is refl

pub vector_arm-went-requires-in-UnicodeNullablePlain-clause-op : goal.vector_arm-went-requires-in-UnicodeNullablePlain-clause-op
vector_arm-went-requires-in-UnicodeNullablePlain-clause-op g c =
    arm_op c.silent.invariant.code c.op_at-op.ensures.here c.op_at-op.ensures.op c.in-UnicodeNullablePlain.is refl

pub part_arm-went-requires-in-UnicodeDelta-clause-op : goal.part_arm-went-requires-in-UnicodeDelta-clause-op
part_arm-went-requires-in-UnicodeDelta-clause-op g c =
    arm_op c.silent.invariant.code c.op_at-op.ensures.here c.op_at-op.ensures.op c.in-UnicodeDelta.is refl

pub part_arm-went-requires-in-UnicodeNullableDelta-clause-op : goal.part_arm-went-requires-in-UnicodeNullableDelta-clause-op
part_arm-went-requires-in-UnicodeNullableDelta-clause-op g c =
    arm_op c.silent.invariant.code c.op_at-op.ensures.here c.op_at-op.ensures.op c.in-UnicodeNullableDelta.is refl

pub vector_arm-went-requires-in-BytesPlain-clause-op : goal.vector_arm-went-requires-in-BytesPlain-clause-op
vector_arm-went-requires-in-BytesPlain-clause-op g c =
    arm_op c.silent.invariant.code c.op_at-op.ensures.here c.op_at-op.ensures.op c.in-BytesPlain.is refl

pub vector_arm-went-requires-in-BytesNullablePlain-clause-op : goal.vector_arm-went-requires-in-BytesNullablePlain-clause-op
vector_arm-went-requires-in-BytesNullablePlain-clause-op g c =
    arm_op c.silent.invariant.code c.op_at-op.ensures.here c.op_at-op.ensures.op c.in-BytesNullablePlain.is refl

pub tail_arm-went-requires-clause-op : goal.tail_arm-went-requires-clause-op
tail_arm-went-requires-clause-op g c = arm_op c.silent.invariant.code c.op_at-op.ensures.here c.op_at-op.ensures.op c.in-BytesTail.is refl

pub tail_arm-went-requires-in-BytesNullableTail-clause-op : goal.tail_arm-went-requires-in-BytesNullableTail-clause-op
tail_arm-went-requires-in-BytesNullableTail-clause-op g c =
    arm_op c.silent.invariant.code c.op_at-op.ensures.here c.op_at-op.ensures.op c.in-BytesNullableTail.is refl

pub group_arm-requires-clause-op : goal.group_arm-requires-clause-op
group_arm-requires-clause-op g c = arm_op c.silent.invariant.code c.op_at-op.ensures.here c.op_at-op.ensures.op c.in-Group.is refl

pub group_arm-requires-in-OptionalGroup-clause-op : goal.group_arm-requires-in-OptionalGroup-clause-op
group_arm-requires-in-OptionalGroup-clause-op g c =
    arm_op c.silent.invariant.code c.op_at-op.ensures.here c.op_at-op.ensures.op c.in-OptionalGroup.is refl

pub sequence_arm-requires-clause-op : goal.sequence_arm-requires-clause-op
sequence_arm-requires-clause-op g c = arm_op c.silent.invariant.code c.op_at-op.ensures.here c.op_at-op.ensures.op c.in-Sequence.is refl

pub sequence_arm-requires-in-OptionalSequence-clause-op : goal.sequence_arm-requires-in-OptionalSequence-clause-op
sequence_arm-requires-in-OptionalSequence-clause-op g c =
    arm_op c.silent.invariant.code c.op_at-op.ensures.here c.op_at-op.ensures.op c.in-OptionalSequence.is refl
