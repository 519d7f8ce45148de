use Rattle.std.proofs.Common.{refl, ◌≡◌, ℕ, ap, ◌∙◌, sym, length}
use Rattle.std.specs.Prelude.{List, true, false, ◌&&◌, not, nat_le}
use Rattle.fast_wire.specs.meaning.Maps.{bytes_for}
use Rattle.fast_value.specs.meaning.Limits.{bounds}
use Rattle.fast_value.specs.declared.codes.Code.TheVariants.{R7, R8}
use Rattle.fast_dict.specs.meaning.Dictionary.{Dictionary}
use Rattle.fast_dict.specs.meaning.Slots.{slots_dictionary}
use Rattle.fast_stream.specs.meaning.Grammar.{Grammar, narrow}
use Rattle.fast_stream.specs.device.GrammarReaders.{spare, reader_of}
use Rattle.fast_machine.specs.device.Positions.{set_of, going_on}
use Rattle.fast_machine.proofs.steps.FieldTurns.{turn_fault}
use Rattle.fast_machine.proofs.fields.Identifiers.{map_spare, map_judged, narrow-wide, narrow-fits}
use Rattle.fast_machine.proofs.machine.Machine.segment_mapped.Goals as goal

pub returns-then-is_overlong-clause-turn : goal.returns-then-is_overlong-clause-turn
returns-then-is_overlong-clause-turn g c =
    let set = set_of c.args.templates.now in
    let m : List ℕ = c.args.self.now.cursor.map in
    let strict = c.args.limits.strict in
    let inside : List ℕ → Grammar Dictionary = λ w. going_on set (bounds c.args.limits)
    (slots_dictionary c.args.self.now.slots) c.args.self.now.counted (record c.args.self.now.cursor { map = w }) in
    let long : (strict && spare m) ≡ true = ap (λ w. strict && spare w) (sym c.map.ensures) ∙ sym c.is_overlong.ensures ∙ c.if-is_overlong.true in
    turn_fault g.S.Sink.takes g.S.Sink.stops set c.args.limits _ c.args.sink.now R7 c.args.self.now
    (map_spare strict m (λ w. reader_of strict (narrow c.args.width w (inside w))) long) c.requires.turn.supplied

pub returns-then-is_too_wide-clause-turn : goal.returns-then-is_too_wide-clause-turn
returns-then-is_too_wide-clause-turn g c =
    let set = set_of c.args.templates.now in
    let m : List ℕ = c.args.self.now.cursor.map in
    let strict = c.args.limits.strict in
    let inside : List ℕ → Grammar Dictionary = λ w. going_on set (bounds c.args.limits)
    (slots_dictionary c.args.self.now.slots) c.args.self.now.counted (record c.args.self.now.cursor { map = w }) in
    let long : (strict && spare m) ≡ false = ap (λ w. strict && spare w) (sym c.map.ensures) ∙ sym c.is_overlong.ensures ∙ c.if-is_overlong.false in
    let wide : (strict && not (nat_le (length m) (bytes_for c.args.width))) ≡ true =
    ap (λ n. strict && not (nat_le n (bytes_for c.args.width))) (sym c.map_len.ensures) ∙ sym c.is_too_wide.ensures
    ∙ c.if-is_too_wide.true in
    turn_fault g.S.Sink.takes g.S.Sink.stops set c.args.limits _ c.args.sink.now R8 c.args.self.now
    (map_judged strict m (λ w. reader_of strict (narrow c.args.width w (inside w))) long ∙ narrow-wide strict c.args.width m (inside m) wide)
    c.requires.turn.supplied

pub returns-clause-turn : goal.returns-clause-turn
returns-clause-turn g c =
    let set = set_of c.args.templates.now in
    let m : List ℕ = c.args.self.now.cursor.map in
    let strict = c.args.limits.strict in
    let inside : List ℕ → Grammar Dictionary = λ w. going_on set (bounds c.args.limits)
    (slots_dictionary c.args.self.now.slots) c.args.self.now.counted (record c.args.self.now.cursor { map = w }) in
    let long : (strict && spare m) ≡ false = ap (λ w. strict && spare w) (sym c.map.ensures) ∙ sym c.is_overlong.ensures ∙ c.if-is_overlong.false in
    let fits : (strict && not (nat_le (length m) (bytes_for c.args.width))) ≡ false =
    ap (λ n. strict && not (nat_le n (bytes_for c.args.width))) (sym c.map_len.ensures) ∙ sym c.is_too_wide.ensures
    ∙ c.if-is_too_wide.false in
    record {
      moves = (map_judged strict m (λ w. reader_of strict (narrow c.args.width w (inside w))) long ∙ narrow-fits strict c.args.width m (inside m) fits, refl);
      supplied = c.requires.turn.supplied;
      goes_on = c.requires.turn;
    }
