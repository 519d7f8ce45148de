-- The look at the first bytes begins each field of the type under the operator, and so this one.
use Rattle.std.proofs.Common.{refl, rules, sym, subst}
use Rattle.std.specs.Prelude.{unwrap_or}
use Rattle.fast_value.specs.meaning.Limits.{bounds}
use Rattle.fast_tree.specs.meaning.Nodes.{field_data}
use Rattle.fast_units.specs.device.Words.{previous_of}
use Rattle.fast_items.specs.device.TextsAs.{HasBegun}
use Rattle.fast_items.specs.declared.taken.BegunText.{BegunText}
use Rattle.fast_fields.proofs.Readings.{kept_entry}
use Rattle.fast_fields.proofs.begun.begun_string.Goals.{then-eq+in_ok-field+in_ok-begun, else-eq+in_ok-begun-2}
use Rattle.fast_fields.proofs.begun.begun_string.Goals as goal

pub returns-clause-begun : goal.returns-clause-begun
returns-clause-begun c =
    let s = c.args.limits.now.strict in
    let l = bounds c.args.limits.now in
    let f = field_data c.args.field.now in
    let p = previous_of c.args.slots.now c.args.field.now in
    elim c.if-eq.branch [
      | then-eq+in_ok-field+in_ok-begun w ↦ subst (λ (r : BegunText). HasBegun s l f p c.args.rest.now r.stage r.from) (sym w.begun-is)
          (w.in_ok-begun.ensures.begun f l refl (record { kind = refl; optional = refl; operator = search rules; entry = λ _. w.in_ok-field.was })
          c.requires.serves)
      | else-eq+in_ok-begun-2 w ↦ subst (λ (r : BegunText). HasBegun s l f p c.args.rest.now r.stage r.from) (sym w.begun-is)
          (w.in_ok-begun-2.ensures.begun (unwrap_or f.entry 0) c.args.slots.now f l refl
          (record { kind = refl; optional = refl; operator = refl; entry = kept_entry f.operator f.entry c.requires.serves.kept })
          c.requires.serves)
    ]
