use Rattle.std.proofs.Common.{sym, refl, inl, inr, Ok}
use Rattle.fast_value.specs.meaning.Values.{scalar_data}
use Rattle.fast_tree.specs.meaning.Nodes.{field_data}
use Rattle.fast_dict.specs.meaning.Dictionary.{previous_at}
use Rattle.fast_dict.specs.meaning.Slots.{slots_dictionary}
use Rattle.fast_units.proofs.TextOutcomes.{decided_as, decided_copy, decided_increment, decided_plain, not_emptied, text_given, checked_is}
use Rattle.fast_units.proofs.text_outcomes.finish_text.Goals as goal

pub returns-in-Copy-clause-field : goal.returns-in-Copy-clause-field
returns-in-Copy-clause-field c scratch piece h =
    let f = field_data c.args.field.now in
    let old = slots_dictionary c.args.slots.now in
    decided_as f old (slots_dictionary c.keep.new.slots) scratch piece c.keep.result
    (elim c.in-Copy.is [
      | inl e ↦ decided_copy f (previous_at f.entry old) c.args.text.now c.requires.text e
      | inr e ↦ decided_increment f
          (previous_at f.entry old) c.args.text.now c.requires.text e
    ])
    (c.keep.ensures.field scratch piece)

pub returns-in_ok-checked_text-in_default : goal.returns-in_ok-checked_text-in_default
returns-in_ok-checked_text-in_default c =
    let f = field_data c.args.field.now in
    let old = slots_dictionary c.args.slots.now in
    let v = scalar_data c.in_ok-checked_text-in_default.field-0 in
    let e = sym c.in_ok-checked_text-in_default.ensures in
    record {
      field = λ scratch piece h. decided_as f old old scratch piece (Ok c.args.place)
          (decided_plain f (previous_at f.entry old) c.args.text.now c.requires.text c.requires.sent c.requires.whole
          (not_emptied f.operator c.in_default.not-Copy c.in_default.not-Increment c.requires.no_tail))
          (text_given f old old scratch piece c.args.place c.args.text.now v e (checked_is f.kind c.args.text.now v e) h refl);
      terms = refl;
    }
