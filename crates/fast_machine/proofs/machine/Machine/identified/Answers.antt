use Rattle.std.proofs.Common.{◌≡◌, ap, ◌∙◌, sym, [], length}
use Rattle.std.specs.Prelude.{true, false, ◌&&◌, not, nat_le, Option}
use Rattle.std.proofs.lemmas.Option.{slice_get_within}
use Rattle.fast_wire.specs.meaning.Maps.{bytes_for}
use Rattle.fast_value.specs.meaning.Kinds.{ScalarData}
use Rattle.fast_value.specs.meaning.Limits.{bounds}
use Rattle.fast_value.specs.declared.codes.Code.TheVariants.{D9, R8}
use Rattle.fast_tree.specs.meaning.Tree.{identifier, message_bits}
use Rattle.fast_tree.specs.meaning.Nodes.{template_data, instructions_from}
use Rattle.fast_dict.specs.meaning.Slots.{slots_dictionary}
use Rattle.fast_units.specs.device.Settling.{value_at}
use Rattle.fast_machine.specs.device.Passing.{state_past}
use Rattle.fast_stream.specs.device.Continuations.{message_of_then}
use Rattle.fast_machine.specs.device.Positions.{set_of}
use Rattle.fast_machine.proofs.steps.FieldTurns.{turn_fault, turn_as}
use Rattle.fast_machine.proofs.fields.Identifiers.{id_of, named_none, named_first, behind_unknown, behind_known, narrow-wide, narrow-fits, identifier_served}
use Rattle.fast_machine.proofs.machine.Machine.identified.Goals as goal

pub value_at-value-requires : goal.value_at-value-requires
value_at-value-requires g c = record {
  within = (identifier_served
      (set_of c.args.templates.now) c.args.limits c.args.self.now c.requires.behind.supplied).within;
}

pub returns-in_default-clause-turn : goal.returns-in_default-clause-turn
returns-in_default-clause-turn g c =
    let set = set_of c.args.templates.now in
    let d = slots_dictionary c.args.self.now.slots in
    let v : Option ScalarData = value_at c.args.source identifier d c.args.self.now.text.text [] in
    let is : c.id_of.result ≡ id_of v =
    c.id_of.ensures ∙ ap id_of c.value_at-value.ensures ∙ ap
    (λ f. id_of (value_at c.args.source f d c.as_slice-text.result.now [])) c.requires.behind.supplied.identifier
    ∙ ap (λ w. id_of (value_at c.args.source identifier d w [])) c.as_slice-text.ensures in
    turn_fault g.S.Sink.takes g.S.Sink.stops set c.args.limits _ c.args.sink.now D9 c.args.self.now
    (behind_unknown set c.args.limits.strict (bounds c.args.limits) c.args.self.now.cursor.map v (state_past identifier d 0 c.args.self.now.cursor)
    (named_none set v (λ id j t e. c.in_default.ensures.none id j t (is ∙ e))))
    c.requires.behind.supplied

pub message_bits-width-requires : goal.message_bits-width-requires
message_bits-width-requires g c =
    let (id, is, w) = c.in-Some.ensures.some in
    slice_get_within (set_of c.args.templates.now).templates c.in-Some.start.now.number w.template w.found

pub returns-then-is_too_wide-clause-turn : goal.returns-then-is_too_wide-clause-turn
returns-then-is_too_wide-clause-turn g c =
    let set = set_of c.args.templates.now in
    let d = slots_dictionary c.args.self.now.slots in
    let strict = c.args.limits.strict in
    let m = c.args.self.now.cursor.map in
    let st = state_past identifier d 0 c.args.self.now.cursor in
    let (id, is, w) = c.in-Some.ensures.some in
    let t = w.template in
    let found = w.found in
    let named = template_data (instructions_from 0 set.nodes) t in
    let v : Option ScalarData = value_at c.args.source identifier d c.args.self.now.text.text [] in
    let same : c.id_of.result ≡ id_of v =
    c.id_of.ensures ∙ ap id_of c.value_at-value.ensures ∙ ap
    (λ f. id_of (value_at c.args.source f d c.as_slice-text.result.now [])) c.requires.behind.supplied.identifier
    ∙ ap (λ w. id_of (value_at c.args.source identifier d w [])) c.as_slice-text.ensures in
    let width : c.message_bits-width.result ≡ message_bits named = c.message_bits-width.ensures t found in
    let wide : (strict && not (nat_le (length m) (bytes_for (message_bits named)))) ≡ true =
    ap (λ n. strict && not (nat_le (length m) (bytes_for n))) (sym width)
    ∙ ap (λ n. strict && not (nat_le n (bytes_for c.message_bits-width.result))) (sym c.map_len.ensures) ∙ sym c.is_too_wide.ensures
    ∙ c.if-is_too_wide.true in
    turn_fault g.S.Sink.takes g.S.Sink.stops set c.args.limits _ c.args.sink.now R8 c.args.self.now
    (behind_known set strict (bounds c.args.limits) m v st c.in-Some.start.now.number t
    (named_first set v id c.in-Some.start.now.number t (sym same ∙ is) found w.own w.first)
    ∙ narrow-wide strict (message_bits named) m (message_of_then (bounds c.args.limits) c.in-Some.start.now.number named st) wide)
    c.requires.behind.supplied

pub returns-clause-turn : goal.returns-clause-turn
returns-clause-turn g c =
    let set = set_of c.args.templates.now in
    let d = slots_dictionary c.args.self.now.slots in
    let strict = c.args.limits.strict in
    let m = c.args.self.now.cursor.map in
    let st = state_past identifier d 0 c.args.self.now.cursor in
    let (id, is, w) = c.in-Some.ensures.some in
    let t = w.template in
    let found = w.found in
    let named = template_data (instructions_from 0 set.nodes) t in
    let v : Option ScalarData = value_at c.args.source identifier d c.args.self.now.text.text [] in
    let same : c.id_of.result ≡ id_of v =
    c.id_of.ensures ∙ ap id_of c.value_at-value.ensures ∙ ap
    (λ f. id_of (value_at c.args.source f d c.as_slice-text.result.now [])) c.requires.behind.supplied.identifier
    ∙ ap (λ w. id_of (value_at c.args.source identifier d w [])) c.as_slice-text.ensures in
    let width : c.message_bits-width.result ≡ message_bits named = c.message_bits-width.ensures t found in
    let fits : (strict && not (nat_le (length m) (bytes_for (message_bits named)))) ≡ false =
    ap (λ n. strict && not (nat_le (length m) (bytes_for n))) (sym width)
    ∙ ap (λ n. strict && not (nat_le n (bytes_for c.message_bits-width.result))) (sym c.map_len.ensures) ∙ sym c.is_too_wide.ensures
    ∙ c.if-is_too_wide.false in
    turn_as g.S.Sink.takes g.S.Sink.stops set c.args.limits _ _ c.args.sink.now c.start_message.result c.start_message.new.sink c.start_message.new.self
    (behind_known set strict (bounds c.args.limits) m v st c.in-Some.start.now.number t
    (named_first set v id c.in-Some.start.now.number t (sym same ∙ is) found w.own w.first)
    ∙ narrow-fits strict (message_bits named) m (message_of_then (bounds c.args.limits) c.in-Some.start.now.number named st) fits)
    (c.start_message.ensures.turn t found)
