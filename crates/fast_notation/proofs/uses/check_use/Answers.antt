use Rattle.std.proofs.Common.{◌≡◌, sym, ap, Some, string_bytes}
use Rattle.std.specs.Prelude.{option_map}
use Rattle.fast_value.specs.meaning.Values.{value_data}
use Rattle.fast_notation.specs.device.WrittenSets.{operator_data}
use Rattle.fast_notation.proofs.texts.SoundUses.{sound_with}
use Rattle.fast_notation.proofs.uses.check_use.Goals as goal
use Rattle.fast_notation.proofs.uses.check_use.Goals.{in-Ok, in-Err}

pub returns-clause-sound : goal.returns-clause-sound
returns-clause-sound c = elim c.match-initial_in.branch [
  | in-Ok w ↦
      let some : (operator_data c.args.written.now).value ≡ Some (string_bytes c.in-Some.text) = ap (option_map string_bytes) c.in-Some.is in
      let initial = rw c.as_str.ensures.value at w.in-Ok.ensures.value in
      rw w.result-is (sound_with c.args.part c.args.kind c.args.optional (operator_data c.args.written.now) (string_bytes c.in-Some.text)
      (value_data w.in-Ok.field-0) (sym c.if-not-suits.ensures) some initial)
  | in-Err w ↦ rw w.result-is tt
]
