-- The part of a delta is a string whose room its subtraction length leaves.
use Rattle.std.proofs.Common.{refl, rules, sym, ap, ◌∙◌, subst}
use mir.Syntax.{w32}
use mir.Val.{to_z, of_z}
use Rattle.std.proofs.lemmas.Int.{to_z-of_z}
use Rattle.std.specs.Prelude.{ℕ, ℤ, false, [], ◌≡◌, ◌++◌, Ok}
use Rattle.fast_value.specs.meaning.Limits.{bounds}
use Rattle.fast_tree.specs.meaning.Nodes.{field_data}
use Rattle.fast_dict.specs.meaning.Operators.{subtraction_step}
use Rattle.fast_stream.specs.meaning.Phrases.{cut}
use Rattle.fast_stream.specs.meaning.Units.{ascii_text}
use Rattle.fast_units.specs.device.UnitFronts.{IsBytesStage}
use Rattle.fast_units.specs.device.Words.{previous_of}
use Rattle.fast_units.specs.declared.stages.Stage.{Stage}
use Rattle.fast_fields.proofs.reading.run_missing.Goals as goal

pub returns-in-Part-clause-keeps : goal.returns-in-Part-clause-keeps
returns-in-Part-clause-keeps c =
    let l = bounds c.args.limits.now in
    let f = field_data c.args.field.now in
    let p = previous_of c.args.slots.now c.args.field.now in
    let w = c.args.bytes.now in
    let again : to_z w32 (of_z w32 c.in-Part.subtraction) ≡ c.in-Part.subtraction = to_z-of_z w32 c.in-Part.subtraction (search rules) in
    let (ascii, (kept, e, here)) = subst (λ (s : Stage). IsBytesStage l f p s w) c.in-Part.is c.requires.«open» in
    let now : subtraction_step f p (to_z w32 (of_z w32 c.in-Part.subtraction)) ≡ Ok kept = ap (λ (k : ℤ). subtraction_step f p k) again ∙ e in (
      c.text_missing.ensures.keeps.0,
      λ v none short. subst (λ (s : Stage). IsBytesStage l f p s (w ++ v)) (sym c.in-Part.is) (
        ascii,
        (
          kept,
          e,
          subst (λ (room : ℕ). ascii_text false room (w ++ v) [] cut) (c.part_room-room.ensures.room kept now)
              (c.text_missing.ensures.keeps.1 v (none refl) short),
        ),
      ),
    )
