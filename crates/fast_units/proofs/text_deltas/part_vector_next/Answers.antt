use Rattle.std.proofs.Common.{◌≡◌, ◌∙◌, sym, ap, refl, subst, arith, List, ℕ, ℤ, ◌-◌}
use Rattle.std.specs.Prelude.{Ok, Err, Some, pos, nat_le, if◌then◌else◌}
use Rattle.fast_value.specs.declared.codes.Code.TheVariants.{L1}
use mir.Syntax.{w32}
use Rattle.std.proofs.lemmas.Int.{to_z-of_z}
use Rattle.fast_value.specs.meaning.Limits.{bounds}
use Rattle.fast_tree.specs.meaning.Nodes.{field_data}
use Rattle.fast_dict.specs.meaning.Dictionary.{previous_at}
use Rattle.fast_dict.specs.meaning.Operators.{kept_length, subtraction_step, text_step}
use Rattle.fast_dict.specs.meaning.Slots.{slots_dictionary}
use Rattle.fast_stream.specs.device.GrammarReaders.{reader_of}
use Rattle.fast_units.specs.device.Stages.{term_behind}
use Rattle.fast_units.specs.device.TextDecisions.{IsStepped, behind_part_size}
use Rattle.fast_units.specs.declared.stages.Stage.TheVariants.{PartVector}
use Rattle.fast_units.proofs.TextOutcomes.{decided_as}
use Rattle.fast_units.proofs.TextUnits.{part_size_fits, part_size_none, part_vector_here, stepped}
use Rattle.fast_units.proofs.text_deltas.part_vector_next.Goals as goal

pub returns-then-size-gt0-clause-step : goal.returns-then-size-gt0-clause-step
returns-then-size-gt0-clause-step c kept e scratch piece =
    let l = c.args.limits in
    let f = field_data c.args.field.now in
    let old = slots_dictionary c.args.slots.now in
    let p = previous_at f.entry old in
    let wrapped = ap (λ (x : ℤ). subtraction_step f p x) (to_z-of_z w32 c.args.subtraction c.ranges.subtraction) in
    let room : c.part_room-room.result ≡ l.max_text - kept_length kept = c.part_room-room.ensures.room kept (wrapped ∙ e) in
    let sized = subst (λ (most : ℕ). (if nat_le c.args.size most then Ok c.args.size else Err L1) ≡ Ok c.in_ok-size.size) room (sym c.in_ok-size.ensures) in
    let (same, fits, next) = part_size_fits (bounds l) f p kept c.args.size c.in_ok-size.size sized in
    let (is_text, delta, found) = c.requires.stage in (
      refl,
      (is_text, c.requires.kind, delta, c.if-size-gt0.true, (kept, wrapped ∙ e, omega (arith, same, fits))),
      ap (reader_of l.strict) (next ∙ part_vector_here (bounds l) f p kept c.args.subtraction c.args.size e
          ∙ ap (λ (n : ℕ). term_behind (bounds l) f p (PartVector c.args.subtraction n)) (sym same)
          ∙ ap (λ (x : ℤ). term_behind (bounds l) f p (PartVector x c.in_ok-size.size)) (sym (to_z-of_z w32 c.args.subtraction c.ranges.subtraction))),
    )

pub returns-clause-step : goal.returns-clause-step
returns-clause-step c kept e scratch piece =
    let l = c.args.limits in
    let f = field_data c.args.field.now in
    let old = slots_dictionary c.args.slots.now in
    let p = previous_at f.entry old in
    let wrapped = ap (λ (x : ℤ). subtraction_step f p x) (to_z-of_z w32 c.args.subtraction c.ranges.subtraction) in
    let room : c.part_room-room.result ≡ l.max_text - kept_length kept = c.part_room-room.ensures.room kept (wrapped ∙ e) in
    let sized = subst (λ (most : ℕ). (if nat_le c.args.size most then Ok c.args.size else Err L1) ≡ Ok c.in_ok-size.size) room (sym c.in_ok-size.ensures) in
    let none = part_size_none l.strict (bounds l) f p kept c.args.size c.in_ok-size.size sized c.if-size-gt0.false in
    subst (λ r. IsStepped l (reader_of l.strict (behind_part_size (bounds l) f p kept (Some (pos c.args.size)))) f old
    (slots_dictionary c.finish_part.new.slots) scratch piece r) (sym c.settled.ensures)
    (stepped l _ f old (slots_dictionary c.finish_part.new.slots) scratch piece _ c.finish_part.result none
    (decided_as f old (slots_dictionary c.finish_part.new.slots) scratch piece c.finish_part.result
    (ap (λ (t : List ℕ). text_step f kept t) (sym c.clear.ensures.text)) (c.finish_part.ensures.field kept (wrapped ∙ e) scratch piece)))
