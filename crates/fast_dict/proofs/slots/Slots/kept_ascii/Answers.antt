-- The text of the entry's slot.
use Rattle.std.proofs.Common.{rules, ◌≡◌, ◌+◌, ◌-◌, ◌<◌, ◌≤◌, ◌∙◌, ap, sym, arith, vec_len, take, drop, List, ℕ}
use Rattle.std.specs.Prelude.{Some, None, Option, slice_index_or}
use Rattle.std.proofs.lemmas.List.{get_or_read_under}
use Rattle.fast_value.specs.declared.kinds.Kind.TheVariants.{Ascii}
use Rattle.fast_value.specs.meaning.Kinds.{AsciiText}
use Rattle.fast_dict.specs.meaning.Dictionary.{assigned}
use Rattle.fast_dict.specs.meaning.Slots.{text_in}
use Rattle.fast_dict.proofs.Slotted.{place_of_entry, ascii_entry}
use Rattle.fast_dict.proofs.slots.Slots.kept_ascii.Goals as goal

pub returns : goal.returns
returns c =
    let size = c.in-Ascii.size in
    let place = c.in-Some.place in
    let block = c.args.self.now.block.items in
    let h = place_of_entry c.args.self.now c.args.entry c.requires.0 in
    let within : c.args.entry < vec_len c.args.self.now.places = omega (arith, h, c.args.self.now.paired) in
    let at : slice_index_or c.args.self.now.places.items c.args.entry None ≡ Some place =
    sym (get_or_read_under _ _ _ _ None c.index.ensures within c.args.self.now.places.ok.0) ∙ c.in-Some.is in
    let same : size ≡ place + size - place = omega arith in
    ascii_entry c.args.self.now c.args.entry size (sym c.entry.ensures.value ∙ c.in-Ascii.is)
    ∙ ap (λ (o : Option ℕ). assigned Ascii (AsciiText (text_in block o size))) at
    ∙ ap (λ n. assigned Ascii (AsciiText (take n (drop place block)))) same
    ∙ ap (λ (b : List ℕ). assigned Ascii (AsciiText (take (place + size - place) (drop place b)))) (sym c.deref.ensures.value)

pub entry-requires : goal.entry-requires
entry-requires c = place_of_entry c.args.self.now c.args.entry c.requires.0

pub index-requires : goal.index-requires
index-requires c = let h = place_of_entry c.args.self.now c.args.entry c.requires.0 in omega (arith, h, c.args.self.now.paired)

pub overflow_add-result : goal.overflow_add-result
overflow_add-result c =
    let place = c.in-Some.place in
    let h = place_of_entry c.args.self.now c.args.entry c.requires.0 in
    let within : c.args.entry < vec_len c.args.self.now.places = omega (arith, h, c.args.self.now.paired) in
    let at : slice_index_or c.args.self.now.places.items c.args.entry None ≡ Some place =
    sym (get_or_read_under _ _ _ _ None c.index.ensures within c.args.self.now.places.ok.0) ∙ c.in-Some.is in
    let end : place + c.args.self.now.max_text ≤ vec_len c.args.self.now.block = c.args.self.now.within c.args.entry place at in
    let fits : c.in-Ascii.size ≤ c.args.self.now.max_text = c.in-Ascii.ensures.fits in
    search rules

pub slice_bounds-result-count : goal.slice_bounds-result-count
slice_bounds-result-count c = search rules

pub slice_bounds-result-start : goal.slice_bounds-result-start
slice_bounds-result-start c = search rules

pub slice_bounds-result-end : goal.slice_bounds-result-end
slice_bounds-result-end c =
    let place = c.in-Some.place in
    let h = place_of_entry c.args.self.now c.args.entry c.requires.0 in
    let within : c.args.entry < vec_len c.args.self.now.places = omega (arith, h, c.args.self.now.paired) in
    let at : slice_index_or c.args.self.now.places.items c.args.entry None ≡ Some place =
    sym (get_or_read_under _ _ _ _ None c.index.ensures within c.args.self.now.places.ok.0) ∙ c.in-Some.is in
    let end : place + c.args.self.now.max_text ≤ vec_len c.args.self.now.block = c.args.self.now.within c.args.entry place at in
    let fits : c.in-Ascii.size ≤ c.args.self.now.max_text = c.in-Ascii.ensures.fits in
    search rules
