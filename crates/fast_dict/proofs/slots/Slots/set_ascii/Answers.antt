-- The entry of that number changes alone, and the texts of the others stay.
use Rattle.std.proofs.Common.{◌≡◌, ◌∙◌, ap, sym, length}
use Rattle.std.specs.Prelude.{slice_index_or, slice_set, None}
use Rattle.fast_value.specs.declared.kinds.Kind.TheVariants.{Ascii}
use Rattle.fast_value.specs.meaning.Kinds.{AsciiText}
use Rattle.fast_dict.specs.declared.entry.Entry.TheVariants as Held
use Rattle.fast_dict.specs.meaning.Dictionary.{assigned}
use Rattle.fast_dict.specs.meaning.Slots.{entry_data, text_in}
use Rattle.fast_dict.proofs.Slotted.{put-entries, set_holds}
use Rattle.fast_dict.proofs.slots.Slots.set_ascii.Goals as goal

pub returns-clause-entry : goal.returns-clause-entry
returns-clause-entry c =
    let text = c.args.text.now in
    let held : entry_data c.write_text.new.self.block.items (slice_index_or c.args.self.now.places.items c.args.entry None)
    (Held.Ascii (length text)) ≡ assigned Ascii (AsciiText text) =
    ap (λ t. assigned Ascii (AsciiText t)) (ap (λ ps. text_in c.write_text.new.self.block.items (slice_index_or ps.items c.args.entry None)
    (length text)) (sym c.write_text.ensures.places) ∙ c.write_text.ensures.text) in
    rw (c.put.ensures.entries, c.put.ensures.places, c.put.ensures.block, c.write_text.ensures.entries, c.write_text.ensures.places)
    (put-entries c.args.self.now.block.items c.write_text.new.self.block.items c.args.self.now.places.items c.args.self.now.entries.items
    c.args.entry c.args.self.now.max_text (Held.Ascii (length text))
    (assigned Ascii (AsciiText text))
    (λ j size n h. ap (λ ps. text_in c.write_text.new.self.block.items (slice_index_or ps.items j None) size)
    (sym c.write_text.ensures.places) ∙ c.write_text.ensures.others j size n (rw c.write_text.ensures.max_text h))
    c.args.self.now.fitting held)

pub returns-clause-holds : goal.returns-clause-holds
returns-clause-holds c =
    set_holds c.args.self.now c.put.new.self c.args.entry (length c.args.text.now) c.requires.there c.requires.takes
    (c.put.ensures.entries ∙ ap (λ es. slice_set es.items c.args.entry (Held.Ascii (length c.args.text.now))) c.write_text.ensures.entries)
    (ap (λ ps. ps.items) (c.put.ensures.places ∙ c.write_text.ensures.places))
