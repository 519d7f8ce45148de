-- The slot lies within the block.
use Rattle.std.proofs.Common.{rules, arith, ◌≡◌, ◌+◌, ◌-◌, ◌<◌, ◌≤◌, ◌∙◌, ap, sym, vec_len, List, ℕ, refl, take, drop}
use Rattle.std.specs.Prelude.{Some, None, slice_index_or}
use Rattle.std.proofs.lemmas.List.{get_or_read_under}
use Rattle.fast_dict.specs.meaning.Entry.{with_text, text_length}
use Rattle.fast_dict.specs.meaning.Slots.{entry_data, get-entries}
use Rattle.fast_dict.specs.declared.entry.Entry.TheVariants.{Undefined}
use Rattle.fast_dict.proofs.Slotted.{place_of_entry}
use Rattle.fast_dict.proofs.slots.Slots.own_text.Goals as goal

-- The place of the slot.
the_place : (c : goal.After-result-1) → slice_index_or c.args.self.now.places.items c.args.entry None ≡ Some c.in_ok-place.place
the_place c =
    let h = place_of_entry c.args.self.now c.args.entry c.requires in
    let b : c.args.entry < vec_len c.args.self.now.places = omega (arith, h, c.args.self.now.paired) in
    sym (get_or_read_under _ _ _ _ None c.index.ensures b c.args.self.now.places.ok.0) ∙ c.in_ok-place.was

pub entry-requires : goal.entry-requires
entry-requires c = place_of_entry c.args.self.now c.args.entry c.requires

pub index-requires : goal.index-requires
index-requires c = let h = place_of_entry c.args.self.now c.args.entry c.requires in omega (arith, h, c.args.self.now.paired)

pub overflow_add-result : goal.overflow_add-result
overflow_add-result c =
    let h = place_of_entry c.args.self.now c.args.entry c.requires in
    let b : c.args.entry < vec_len c.args.self.now.places = omega (arith, h, c.args.self.now.paired) in
    let at : slice_index_or c.args.self.now.places.items c.args.entry None ≡ Some c.in_ok-place.place =
    sym (get_or_read_under _ _ _ _ None c.index.ensures b c.args.self.now.places.ok.0) ∙ c.in_ok-place.was in
    let k : c.in_ok-place.place + c.args.self.now.max_text ≤ vec_len c.args.self.now.block = c.args.self.now.within c.args.entry c.in_ok-place.place at in
    let l : text_length c.entry.result ≡ c.in_ok-size.size = c.in_ok-size.ensures.0 in
    search (rules, k, l)

pub slice_bounds-result-end : goal.slice_bounds-result-end
slice_bounds-result-end c =
    let h = place_of_entry c.args.self.now c.args.entry c.requires in
    let b : c.args.entry < vec_len c.args.self.now.places = omega (arith, h, c.args.self.now.paired) in
    let at : slice_index_or c.args.self.now.places.items c.args.entry None ≡ Some c.in_ok-place.place =
    sym (get_or_read_under _ _ _ _ None c.index.ensures b c.args.self.now.places.ok.0) ∙ c.in_ok-place.was in
    let k : c.in_ok-place.place + c.args.self.now.max_text ≤ vec_len c.args.self.now.block = c.args.self.now.within c.args.entry c.in_ok-place.place at in
    let l : text_length c.entry.result ≡ c.in_ok-size.size = c.in_ok-size.ensures.0 in
    search (rules, k, l)

pub returns-clause-held : goal.returns-clause-held
returns-clause-held c =
    let s = c.args.self.now in
    let i = c.args.entry in
    let place = c.in_ok-place.place in
    let size = c.in_ok-size.size in
    let e = slice_index_or s.entries.items i Undefined in
    let l : text_length e ≡ size = ap text_length (sym c.entry.ensures.value) ∙ c.in_ok-size.ensures.0 in
    let n : size ≡ place + size - place = omega arith in
    get-entries s.block.items s.places.items s.entries.items i
    ∙ ap (λ p. entry_data s.block.items p e) (the_place c)
    ∙ ap (λ m. with_text e (take m (drop place s.block.items))) (l ∙ n)
    ∙ ap (λ (xs : List ℕ). with_text e (take (place + size - place) (drop place xs))) (sym c.deref.ensures.value)
    ∙ ap (λ x. with_text x (take (place + size - place) (drop place c.deref.result.now))) (sym c.entry.ensures.value)
    ∙ c.in_ok-size.ensures.1 (take (place + size - place) (drop place c.deref.result.now))

pub returns-clause-takes : goal.returns-clause-takes
returns-clause-takes c = rw (the_place c) refl
