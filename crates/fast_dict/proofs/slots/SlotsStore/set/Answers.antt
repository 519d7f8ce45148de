-- The entry of that number changes alone, and the texts of the others stay.
use Rattle.std.proofs.Common.{◌≡◌, ◌∙◌, ap, sym}
use Rattle.fast_value.specs.meaning.Values.{scalar_data}
use Rattle.std.specs.Prelude.{slice_index_or, None}
use Rattle.fast_dict.specs.meaning.Dictionary.{assigned}
use Rattle.fast_dict.specs.meaning.Slots.{slots_terms, entry_data, text_in}
use Rattle.fast_dict.proofs.Slotted.{place_of_entry, put-entries, storable}
use Rattle.fast_dict.proofs.slots.SlotsStore.set.Goals as goal

pub write_text-requires-clause-there : goal.write_text-requires-clause-there
write_text-requires-clause-there c = place_of_entry c.args.self.now c.args.entry c.requires.there

pub write_text-requires-clause-fits : goal.write_text-requires-clause-fits
write_text-requires-clause-fits c = rw c.bytes_of.ensures ((storable (slots_terms c.args.self.now) c.args.entry (scalar_data c.args.scalar) c.requires.room).0)

pub write_text-requires-clause-takes : goal.write_text-requires-clause-takes
write_text-requires-clause-takes c = rw c.bytes_of.ensures ((storable (slots_terms c.args.self.now) c.args.entry (scalar_data c.args.scalar) c.requires.room).1)

pub put-requires-clause-there : goal.put-requires-clause-there
put-requires-clause-there c = rw c.write_text.ensures.entries (place_of_entry c.args.self.now c.args.entry c.requires.there)

pub returns-clause-ok : goal.returns-clause-ok
returns-clause-ok c =
    let held : entry_data c.write_text.new.self.block.items
    (slice_index_or c.args.self.now.places.items c.args.entry None) c.of.result ≡ assigned c.args.kind (scalar_data c.args.scalar) =
    rw (c.of.ensures.size, ← c.bytes_of.ensures, ← c.write_text.ensures.places, c.write_text.ensures.text, c.bytes_of.ensures) c.of.ensures.value in
    rw (c.put.ensures.entries, c.put.ensures.places, c.put.ensures.block, c.write_text.ensures.entries, c.write_text.ensures.places)
    (put-entries c.args.self.now.block.items c.write_text.new.self.block.items c.args.self.now.places.items c.args.self.now.entries.items
    c.args.entry c.args.self.now.max_text c.of.result
    (assigned c.args.kind (scalar_data c.args.scalar))
    (λ j size n h. ap (λ ps. text_in c.write_text.new.self.block.items (slice_index_or ps.items j None) size)
    (sym c.write_text.ensures.places) ∙ c.write_text.ensures.others j size n (rw c.write_text.ensures.max_text h))
    c.args.self.now.fitting held)
