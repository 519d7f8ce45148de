use Rattle.std.proofs.Common.{refl, ◌≡◌, ℕ, ap, ◌∙◌, sym, subst}
use Rattle.std.specs.Prelude.{List, [], true, false, ◌&&◌, Ok, Err}
use Rattle.fast_wire.specs.meaning.Maps.{bits, first_bit}
use Rattle.fast_value.specs.meaning.Limits.{bounds}
use Rattle.fast_value.specs.declared.codes.Code.TheVariants.{R7}
use Rattle.fast_tree.specs.meaning.Tree.{identifier, FieldData}
use Rattle.fast_dict.specs.meaning.Dictionary.{Dictionary, previous_at}
use Rattle.fast_dict.specs.meaning.Operators.{decide, nothing}
use Rattle.fast_dict.specs.meaning.Slots.{slots_dictionary}
use Rattle.fast_units.specs.device.Deciding.{IsDecided}
use Rattle.fast_stream.specs.device.GrammarReaders.{spare, reader_of}
use Rattle.fast_stream.specs.device.Machine.{after_bytes}
use Rattle.fast_stream.specs.meaning.Messages.{State, begin}
use Rattle.fast_stream.specs.device.Continuations.{message_behind_then}
use Rattle.fast_stream.specs.device.Readers.{Reader}
use Rattle.fast_units.specs.device.Taking.{Waits}
use Rattle.fast_units.specs.device.TextDecisions.{first_reader}
use Rattle.fast_fields.specs.device.Carries.{IsCarried}
use Rattle.fast_machine.specs.device.Positions.{set_of, tree_in, behind_map, IsSupplied}
use Rattle.fast_machine.specs.declared.machine.Machine.{Machine}
use Rattle.fast_machine.specs.declared.machine.Waiting.TheVariants.{Identifier}
use Rattle.fast_machine.proofs.steps.FieldTurns.{supplied_like, ready_at, turn_waits, turn_fault, turn_as}
use Rattle.fast_machine.proofs.machines.FieldTakes.{still_supplied}
use Rattle.fast_machine.proofs.fields.SentFields.{field_sent_waits, field_unsent, field_at_fault}
use Rattle.fast_machine.proofs.fields.Identifiers.{map_spare, map_judged, unused_bits, identifier_served, identifier_sent}
use Rattle.fast_machine.proofs.fields.Identifiers.{identifier_unsent, decided_unsent, identified_by}
use Rattle.fast_machine.proofs.machine.Machine.mapped.Goals as goal

pub returns-then-is_overlong-clause-turn : goal.returns-then-is_overlong-clause-turn
returns-then-is_overlong-clause-turn g c =
    let set = set_of c.args.templates.now in
    let m : List ℕ = c.args.self.now.cursor.map in
    let strict = c.args.limits.strict in
    let d = slots_dictionary c.args.self.now.slots in
    let long : (strict && spare m) ≡ true = ap (λ w. strict && spare w) (sym c.map.ensures) ∙ sym c.is_overlong.ensures ∙ c.if-is_overlong.true in
    turn_fault g.S.Sink.takes g.S.Sink.stops set c.args.limits _ c.args.sink.now R7 c.args.self.now
    (map_spare strict m (λ w. reader_of strict (behind_map set (bounds c.args.limits) d w)) long) c.requires.behind.supplied

pub returns-then-bit-clause-turn : goal.returns-then-bit-clause-turn
returns-then-bit-clause-turn g c =
    let set = set_of c.args.templates.now in
    let m : List ℕ = c.args.self.now.cursor.map in
    let strict = c.args.limits.strict in
    let l = bounds c.args.limits in
    let d = slots_dictionary c.args.self.now.slots in
    let long : (strict && spare m) ≡ false = ap (λ w. strict && spare w) (sym c.map.ensures) ∙ sym c.is_overlong.ensures ∙ c.if-is_overlong.false in
    let bit : first_bit (bits m) ≡ true = ap first_bit (sym (unused_bits c.args.self.now.cursor c.requires.behind.outermost))
    ∙ sym c.bit.ensures ∙ c.if-bit.true in
    let r : Reader Dictionary = reader_of strict (behind_map set l d m) in
    let judged = map_judged strict m (λ w. reader_of strict (behind_map set l d w)) long in
    let carry = c.begin.new.self in
    let waiting : Machine = record c.args.self.now { waiting = Identifier; carry = carry } in
    let supplied : IsSupplied set c.args.limits waiting = supplied_like set c.args.limits c.args.self.now waiting c.requires.behind.supplied (record {
      terms = refl;
      carry = c.begin.ensures.capacity;
      text = refl;
      identifier = refl;
      rests = refl;
      latest = refl;
    }) c.requires.behind.supplied.counted in
    let carried : IsCarried c.args.limits (first_reader c.args.limits identifier d) carry =
    subst (λ (f : FieldData). IsCarried c.args.limits (first_reader c.args.limits f d) carry) c.requires.behind.supplied.identifier
    (c.begin.ensures.carried c.args.limits (previous_at c.args.self.now.identifier.entry d)) in
    turn_waits g.S.Sink.takes g.S.Sink.stops set c.args.limits _ c.args.sink.now waiting (judged ∙ ap (after_bytes r) (sym c.begin.ensures.none))
    (subst Waits (sym judged) (field_sent_waits strict l identifier (begin d (bits m)) (message_behind_then (tree_in set) l m)
    (identifier_sent (begin d (bits m)) bit)))
    (ready_at set c.args.limits waiting Identifier supplied refl (c.requires.behind.map, bit, c.requires.behind.outermost, carried))

pub unsent-requires : goal.unsent-requires
unsent-requires g c = record { serves = identifier_served (set_of c.args.templates.now) c.args.limits c.args.self.now c.requires.behind.supplied }

pub returns-in-Err-clause-turn : goal.returns-in-Err-clause-turn
returns-in-Err-clause-turn g c =
    let set = set_of c.args.templates.now in
    let m : List ℕ = c.args.self.now.cursor.map in
    let strict = c.args.limits.strict in
    let l = bounds c.args.limits in
    let d = slots_dictionary c.args.self.now.slots in
    let st : State = begin d (bits m) in
    let p = previous_at identifier.entry d in
    let long : (strict && spare m) ≡ false = ap (λ w. strict && spare w) (sym c.map.ensures) ∙ sym c.is_overlong.ensures ∙ c.if-is_overlong.false in
    let bit : first_bit (bits m) ≡ false = ap first_bit (sym (unused_bits c.args.self.now.cursor c.requires.behind.outermost))
    ∙ sym c.bit.ensures ∙ c.if-bit.false in
    let decided : decide identifier p false nothing ≡ Err c.in-Err.code =
    subst (λ (f : FieldData). decide f (previous_at f.entry d) false nothing ≡ Err c.in-Err.code) c.requires.behind.supplied.identifier
    c.in-Err.ensures.decided in
    turn_fault g.S.Sink.takes g.S.Sink.stops set c.args.limits _ c.args.sink.now c.in-Err.code (record c.args.self.now { slots = c.unsent.new.slots })
    (map_judged strict m (λ w. reader_of strict (behind_map set l d w)) long
    ∙ field_at_fault strict l identifier st (message_behind_then (tree_in set) l m) c.in-Err.code (identifier_unsent l p st bit)
    (decided_unsent p st (Err c.in-Err.code) bit decided))
    (still_supplied set c.args.limits c.args.self.now c.unsent.new.slots c.args.self.now.carry c.args.self.now.text
    c.unsent.ensures.terms refl refl c.requires.behind.supplied)

pub returns-in-Ok-clause-turn : goal.returns-in-Ok-clause-turn
returns-in-Ok-clause-turn g c =
    let set = set_of c.args.templates.now in
    let m : List ℕ = c.args.self.now.cursor.map in
    let strict = c.args.limits.strict in
    let l = bounds c.args.limits in
    let d = slots_dictionary c.args.self.now.slots in
    let st : State = begin d (bits m) in
    let p = previous_at identifier.entry d in
    let long : (strict && spare m) ≡ false = ap (λ w. strict && spare w) (sym c.map.ensures) ∙ sym c.is_overlong.ensures ∙ c.if-is_overlong.false in
    let bit : first_bit (bits m) ≡ false = ap first_bit (sym (unused_bits c.args.self.now.cursor c.requires.behind.outermost))
    ∙ sym c.bit.ensures ∙ c.if-bit.false in
    let (o, decided, settled) : IsDecided (decide identifier p false nothing) identifier d (slots_dictionary c.unsent.new.slots) (Ok c.in-Ok.source) =
    subst (λ (f : FieldData). IsDecided (decide f (previous_at f.entry d) false nothing) f d (slots_dictionary c.unsent.new.slots)
    (Ok c.in-Ok.source)) c.requires.behind.supplied.identifier c.in-Ok.ensures.decided in
    let stands = settled c.args.self.now.text.text [] in
    turn_as g.S.Sink.takes g.S.Sink.stops set c.args.limits _ _ c.args.sink.now c.identified.result c.identified.new.sink c.identified.new.self
    (map_judged strict m (λ w. reader_of strict (behind_map set l d w)) long
    ∙ field_unsent strict l identifier st (message_behind_then (tree_in set) l m) o (identifier_unsent l p st bit) (decided_unsent p st (Ok o) bit decided)
    ∙ identified_by set strict l d (slots_dictionary c.unsent.new.slots) c.args.self.now.cursor o _ c.requires.behind.outermost stands.value stands.dictionary)
    c.identified.ensures.turn
