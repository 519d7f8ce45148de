-- The entry of that number changes alone, and the texts of the others stay.
use Rattle.std.proofs.Common.{◌≡◌, ◌+◌, ◌++◌, ◌∙◌, ap, sym, List, ℕ, length, take}
use Rattle.fast_value.specs.meaning.Kinds.{value_of_text}
use Rattle.std.specs.Prelude.{slice_index_or, None}
use Rattle.fast_dict.specs.meaning.Entry.{with_text}
use Rattle.fast_dict.specs.meaning.Dictionary.{assigned}
use Rattle.fast_dict.specs.meaning.Slots.{entry_data, text_in, get-entries}
use Rattle.fast_dict.specs.declared.entry.Entry.TheVariants.{Undefined}
use Rattle.fast_dict.proofs.Extended.{front_of}
use Rattle.fast_dict.proofs.Slotted.{place_of_entry, put-entries}
use Rattle.fast_dict.proofs.slots.Slots.extend_text.Goals as goal

pub write_behind-requires-clause-there : goal.write_behind-requires-clause-there
write_behind-requires-clause-there c = place_of_entry c.args.self.now c.args.entry c.requires.there

pub put-requires-clause-there : goal.put-requires-clause-there
put-requires-clause-there c = rw c.write_behind.ensures.entries (place_of_entry c.args.self.now c.args.entry c.requires.there)

pub returns-clause-entry : goal.returns-clause-entry
returns-clause-entry c text is l =
    let s = c.args.self.now in
    let i = c.args.entry in
    let part = c.args.part.now in
    let block = c.write_behind.new.self.block.items in
    let place = slice_index_or s.places.items i None in
    let new : List ℕ = take c.args.keep text ++ part in
    let front : text_in s.block.items place c.args.keep ≡ take c.args.keep text
    = front_of s.block.items place (slice_index_or s.entries.items i Undefined) c.args.kind text c.args.keep
    (sym (get-entries s.block.items s.places.items s.entries.items i) ∙ is) l in
    let stands : text_in block place (c.args.keep + length part) ≡ new
    = ap (λ ps. text_in block (slice_index_or ps.items i None) (c.args.keep + length part)) (sym c.write_behind.ensures.places)
    ∙ c.write_behind.ensures.text ∙ ap (λ t. t ++ part) front in
    let held : entry_data block place c.entry_of.result ≡ assigned c.args.kind (value_of_text c.args.kind new)
    = ap (λ n. with_text c.entry_of.result (text_in block place n)) c.entry_of.ensures.size ∙ ap (with_text c.entry_of.result) stands
    ∙ c.entry_of.ensures.value new in
    rw (c.put.ensures.entries, c.put.ensures.places, c.put.ensures.block, c.write_behind.ensures.entries, c.write_behind.ensures.places)
    (put-entries s.block.items block s.places.items s.entries.items i s.max_text c.entry_of.result (assigned c.args.kind (value_of_text c.args.kind new))
    (λ j size n h. ap (λ ps. text_in block (slice_index_or ps.items j None) size) (sym c.write_behind.ensures.places)
    ∙ c.write_behind.ensures.others j size n (rw c.write_behind.ensures.max_text h))
    s.fitting held)
