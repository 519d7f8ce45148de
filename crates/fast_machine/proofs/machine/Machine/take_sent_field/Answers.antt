-- The machine waits for the field, and reads it.
use Rattle.std.proofs.Common.{rules, refl, sym, ◌∙◌, subst, ◌+◌, ◌≡◌}
use Rattle.std.specs.Prelude.{◌<◌, length, Ok}
use Rattle.fast_tree.specs.meaning.Nodes.{field_data}
use Rattle.fast_dict.specs.meaning.Dictionary.{Dictionary, previous_at}
use Rattle.fast_dict.specs.meaning.Slots.{slots_dictionary}
use Rattle.fast_stream.specs.device.Readers.{Reader}
use Rattle.fast_machine.specs.declared.machine.Machine.{Machine}
use Rattle.fast_machine.specs.declared.machine.Turn.TheVariants.{Waits}
use Rattle.fast_machine.specs.declared.machine.Waiting.TheVariants.{Field}
use Rattle.fast_machine.specs.device.Handing.{Hands}
use Rattle.fast_machine.specs.device.Positions.{set_of, IsAtField, IsReady, turning, meaning}
use Rattle.fast_machine.specs.device.TurnsLeft.{HasTurnsWaiting}
use Rattle.fast_machine.specs.device.UnitTaken.{IsTakenTo}
use Rattle.fast_machine.specs.device.Words.{IsServedBy}
use Rattle.fast_machine.proofs.machines.Gathers.{gathered_to, gathered_behind}
use Rattle.fast_machine.proofs.steps.FieldTurns.{field_waits}
use Rattle.fast_machine.proofs.steps.Recounted.{meaning-turns, supplied-turns, takes-turns}
use Rattle.fast_machine.proofs.steps.TurnCounts.{one_taken, unit_paid, paid_awaited}
use Rattle.fast_machine.proofs.streams.Running.{turn_step, unit_step}
use Rattle.fast_machine.proofs.machine.Machine.take_sent_field.Goals as goal

pub gathers-requires : goal.gathers-requires
gathers-requires g c = record {
  ready =
      let m = c.args.self.now in
      let f = field_data c.args.field.now in
      (field_waits g.S.Sink.takes g.S.Sink.stops (set_of c.args.templates.now) c.args.limits.now c.args.sink.now m c.wait_first.new.self c.args.node f
      c.requires.turn c.requires.next c.requires.sent c.wait_first.ensures.same c.wait_first.ensures.capacity c.wait_first.ensures.none
      (c.wait_first.ensures.carried c.args.limits.now (previous_at f.entry (slots_dictionary m.slots)))).goes_on;
}

pub returns-then-is_empty : goal.returns-then-is_empty
returns-then-is_empty g c =
    let takes = g.S.Sink.takes in
    let stops = g.S.Sink.stops in
    let set = set_of c.args.templates.now in
    let l = c.args.limits.now in
    let m = c.args.self.now in
    let b = c.wait_first.new.self in
    let f = field_data c.args.field.now in
    let waits = field_waits takes stops set l c.args.sink.now m b c.args.node f c.requires.turn c.requires.next c.requires.sent
    c.wait_first.ensures.same c.wait_first.ensures.capacity c.wait_first.ensures.none
    (c.wait_first.ensures.carried l (previous_at f.entry (slots_dictionary m.slots))) in
    record {
      step = turn_step takes stops set l m c.args.rest.now c.args.sink.now (Ok Waits) c.args.sink.now b waits
          (λ e. absurd (cc e)) (λ way n h. subst (λ (x : Machine). HasTurnsWaiting way set l n x) (sym c.wait_first.ensures.same)
          (one_taken way set l n m.turns.count m.counted m.cursor h));
    }

pub returns-then-gathers : goal.returns-then-gathers
returns-then-gathers g c =
    let takes = g.S.Sink.takes in
    let stops = g.S.Sink.stops in
    let set = set_of c.args.templates.now in
    let l = c.args.limits.now in
    let m = c.args.self.now in
    let rest = c.args.rest.now in
    let b = c.wait_first.new.self in
    let a = c.gathers.new.self in
    let f = field_data c.args.field.now in
    let sink = c.args.sink.now in
    let got = c.if-gathers.ensures.gathered refl in
    let some : 0 < length rest = search (rules, c.is_empty.ensures, c.if-is_empty.false) in
    record {
      step = unit_step takes stops set l m b rest sink sink c.cut.result sink a
          (field_waits takes stops set l sink m b c.args.node f c.requires.turn c.requires.next c.requires.sent c.wait_first.ensures.same
          c.wait_first.ensures.capacity c.wait_first.ensures.none (c.wait_first.ensures.carried l (previous_at f.entry (slots_dictionary m.slots)))).moves
          (gathered_to takes stops set l b a rest got some sink c.cut.result.bytes c.cut.result.turn c.cut.ensures.bytes c.cut.ensures.turn)
          (λ way n h. gathered_behind way set l n b a rest c.cut.result.turn got c.cut.ensures.turn
          (subst (λ (x : Machine). HasTurnsWaiting way set l n x) (sym c.wait_first.ensures.same) (one_taken way set l n m.turns.count m.counted m.cursor h)));
    }

pub take_field-requires-clause-waits : goal.take_field-requires-clause-waits
take_field-requires-clause-waits g c =
    subst (λ (x : Machine). x.waiting ≡ Field) (sym (c.if-gathers.ensures.same refl ∙ c.wait_first.ensures.same)) refl

pub take_field-requires-clause-next : goal.take_field-requires-clause-next
take_field-requires-clause-next g c =
    subst (λ (x : Machine). IsAtField (set_of c.args.templates.now) x.cursor c.args.node (field_data c.args.field.now))
    (sym (c.if-gathers.ensures.same refl ∙ c.wait_first.ensures.same)) c.requires.next

pub take_field-requires-clause-serves : goal.take_field-requires-clause-serves
take_field-requires-clause-serves g c =
    subst (λ (x : Machine). IsServedBy (set_of c.args.templates.now) x (field_data c.args.field.now))
    (sym (c.if-gathers.ensures.same refl ∙ c.wait_first.ensures.same)) c.requires.serves

pub take_field-requires-clause-ready : goal.take_field-requires-clause-ready
take_field-requires-clause-ready g c =
    let set = set_of c.args.templates.now in
    let l = c.args.limits.now in
    let m = c.args.self.now in
    let b = c.gathers.new.self in
    let f = field_data c.args.field.now in
    let ready : IsReady set l b =
    subst (λ (x : Machine). IsReady set l x) (sym (c.if-gathers.ensures.same refl))
    (field_waits g.S.Sink.takes g.S.Sink.stops set l c.args.sink.now m c.wait_first.new.self c.args.node f c.requires.turn c.requires.next
    c.requires.sent c.wait_first.ensures.same c.wait_first.ensures.capacity c.wait_first.ensures.none
    (c.wait_first.ensures.carried l (previous_at f.entry (slots_dictionary m.slots)))).goes_on in
    record { supplied = supplied-turns set l b c.after-self.result ready.supplied; takes = takes-turns b.waiting set l b c.after-self.result ready.takes }

pub returns : goal.returns
returns g c =
    let takes = g.S.Sink.takes in
    let stops = g.S.Sink.stops in
    let set = set_of c.args.templates.now in
    let l = c.args.limits.now in
    let m = c.args.self.now in
    let b = c.gathers.new.self in
    let f = field_data c.args.field.now in
    let unit = c.take_field in
    let same : b ≡ c.wait_first.new.self = c.if-gathers.ensures.same refl in
    let waits : b.waiting ≡ Field = subst (λ (x : Machine). x.waiting ≡ Field) (sym (same ∙ c.wait_first.ensures.same)) refl in
    let hands = subst (λ (x : Machine). Hands takes stops (turning set l m) c.args.sink.now (Ok tt) c.args.sink.now (meaning set l x)) (sym same)
    (field_waits takes stops set l c.args.sink.now m c.wait_first.new.self c.args.node f c.requires.turn c.requires.next c.requires.sent
    c.wait_first.ensures.same c.wait_first.ensures.capacity c.wait_first.ensures.none
    (c.wait_first.ensures.carried l (previous_at f.entry (slots_dictionary m.slots)))).moves in
    record {
      step = unit_step takes stops set l m b c.args.rest.now c.args.sink.now c.args.sink.now unit.result unit.new.sink unit.new.self hands
          (subst (λ (r : Reader Dictionary). IsTakenTo takes stops set l r c.args.rest.now c.args.sink.now unit.result.bytes unit.result.turn unit.new.sink
          unit.new.self) (meaning-turns b.waiting set l b c.after-self.result) unit.ensures.taken)
          (λ way n h. paid_awaited way set l (1 + n) (record b { turns = c.after-self.result }) unit.new.self unit.result.turn Field waits refl
          (unit.ensures.turns way (1 + n))
          (unit_paid way set l n b c.after-self.result c.after-self.ensures
          (subst (λ (x : Machine). HasTurnsWaiting way set l n x) (sym (same ∙ c.wait_first.ensures.same))
          (one_taken way set l n m.turns.count m.counted m.cursor h))));
    }
