use Rattle.std.proofs.Common.{◌∙◌, ap, refl, inl, inr, Ok, Some, List, ℕ}
use Rattle.fast_value.specs.meaning.Kinds.{AsciiText}
use Rattle.fast_tree.specs.meaning.Nodes.{field_data}
use Rattle.fast_dict.specs.meaning.Dictionary.{assigned, previous_at, write_at}
use Rattle.fast_dict.specs.meaning.Slots.{slots_dictionary}
use Rattle.fast_units.proofs.TextOutcomes.{ascii_is_text, checked_ascii, value_of_ascii, checked_is, decided_as, decided_copy}
use Rattle.fast_units.proofs.TextOutcomes.{decided_increment, decided_plain, not_emptied, text_given, text_kept_too}
use Rattle.fast_units.specs.declared.source.ValueSource.TheVariants.{Scratch}
use Rattle.fast_units.proofs.text_outcomes.finish_ascii.Goals as goal

pub returns-in-Copy-clause-field : goal.returns-in-Copy-clause-field
returns-in-Copy-clause-field c piece =
    let f = field_data c.args.field.now in
    let old = slots_dictionary c.args.slots.now in
    let new = slots_dictionary c.assign.new.slots in
    let text = c.args.scratch.now.text in
    let is = ascii_is_text f.kind c.requires.kind in
    decided_as f old new text piece (Ok Scratch)
    (elim c.in-Copy.is [ inl e ↦ decided_copy f (previous_at f.entry old) text is e | inr e ↦ decided_increment f (previous_at f.entry old) text is e ])
    (text_kept_too f old new text piece Scratch text (AsciiText text) (checked_ascii f.kind text c.requires.kind)
    (ap Some (value_of_ascii f.kind text c.requires.kind))
    (c.assign.ensures.entry ∙ ap (λ (t : List ℕ). write_at f.entry (assigned f.kind (AsciiText t)) old) c.as_slice.ensures))

pub returns-in-Tail-clause-field : goal.returns-in-Tail-clause-field
returns-in-Tail-clause-field c piece = c.finish_tail.ensures.field c.finish_tail.new.scratch.text piece

pub returns-in_default : goal.returns-in_default
returns-in_default c =
    let f = field_data c.args.field.now in
    let old = slots_dictionary c.args.slots.now in
    let text = c.args.scratch.now.text in
    let e = checked_ascii f.kind text c.requires.kind in
    record {
      field = λ piece. decided_as f old old text piece (Ok Scratch)
          (decided_plain f (previous_at f.entry old) text (ascii_is_text f.kind c.requires.kind) c.requires.sent c.requires.whole
          (not_emptied f.operator c.in_default.not-Copy c.in_default.not-Increment c.in_default.not-Tail))
          (text_given f old old text piece Scratch text (AsciiText text) e (checked_is f.kind text (AsciiText text) e) refl refl);
      terms = refl;
      capacity = refl;
    }
