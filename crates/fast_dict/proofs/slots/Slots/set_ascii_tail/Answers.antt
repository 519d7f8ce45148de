-- The tail stands behind what it keeps, in the entry of that number, which changes alone.
use Rattle.std.proofs.Common.{rules, ◌≡◌, ◌+◌, ◌-◌, ◌<◌, ◌≤◌, ◌∙◌, refl, ap, sym, take, length, arith, vec_len, List, ℕ, length-take-le}
use Rattle.std.specs.Prelude.{slice_index_or, slice_set, Option, None, is_some, true, false}
use Rattle.std.proofs.lemmas.List.{get_or_read_under}
use Rattle.fast_value.specs.declared.kinds.Kind.TheVariants.{Ascii}
use Rattle.fast_value.specs.meaning.Kinds.{AsciiText}
use Rattle.fast_dict.specs.declared.entry.Entry.TheVariants as Held
use Rattle.fast_dict.specs.meaning.Dictionary.{assigned}
use Rattle.fast_dict.specs.meaning.Operators.{with_tail}
use Rattle.fast_dict.specs.meaning.Slots.{entry_data, text_in, get-entries}
use Rattle.fast_dict.proofs.Blocks.{tail_in}
use Rattle.fast_dict.proofs.Slotted.{place_of_entry, put-entries, set_holds, same_terms}
use Rattle.fast_dict.proofs.slots.Slots.set_ascii_tail.Goals as goal

never : {P : Type 0} → false ≡ true → P
never e = absurd (cc)

never_false : {P : Type 0} → true ≡ false → P
never_false e = absurd (cc)

pub entry-requires : goal.entry-requires
entry-requires c = place_of_entry c.args.self.now c.args.entry c.requires.there

pub returns-clause-tail : goal.returns-clause-tail
returns-clause-tail c _ =
    let block = c.args.self.now.block.items in
    let places = c.args.self.now.places.items in
    let entries = c.args.self.now.entries.items in
    let place : Option ℕ = slice_index_or places c.args.entry None in
    let base : List ℕ = text_in block place c.in-Ascii.size in
    let part : List ℕ = take c.args.count c.args.block.now in
    let at : ℕ = c.saturating_sub-at.result in
    let n : length part ≡ c.args.count = length-take-le c.args.count c.args.block.now (omega (arith, c.requires.block, c.requires.count)) in
    let here : at ≡ c.in-Ascii.size - length part = c.saturating_sub-at.ensures ∙ ap (λ k. c.in-Ascii.size - k) (sym n) in
    let within : c.args.entry < vec_len c.args.self.now.places = let h = place_of_entry c.args.self.now c.args.entry c.requires.there in
    omega (arith, h, c.args.self.now.paired) in
    let some : is_some place ≡ true = ap is_some (sym (get_or_read_under _ _ _ _ None c.index.ensures within c.args.self.now.places.ok.0))
    ∙ c.if-is_none.ensures in
    let joined : text_in c.write_block.new.self.block.items place (at + c.args.count) ≡ with_tail base part =
    ap (λ ps. text_in c.write_block.new.self.block.items (slice_index_or ps.items c.args.entry None) (at + c.args.count))
    (sym c.write_block.ensures.places) ∙ c.write_block.ensures.text c.args.count c.requires.count
    ∙ tail_in block part place c.args.self.now.max_text c.in-Ascii.size at some
    (λ p e. let h = c.args.self.now.within c.args.entry p e in omega (arith, h, c.args.self.now.block.ok.0)) c.in-Ascii.ensures.fits
    here in
    let held : entry_data c.write_block.new.self.block.items place (Held.Ascii (at + c.args.count)) ≡ assigned Ascii (AsciiText (with_tail base part)) =
    ap (λ t. assigned Ascii (AsciiText t)) joined in (
      base,
      get-entries block places entries c.args.entry ∙ ap (entry_data block place) (sym c.entry.ensures.value ∙ c.in-Ascii.is),
      rw (c.put.ensures.entries, c.put.ensures.places, c.put.ensures.block, c.write_block.ensures.entries, c.write_block.ensures.places)
          (put-entries block c.write_block.new.self.block.items places entries c.args.entry c.args.self.now.max_text (Held.Ascii (at + c.args.count))
          (assigned Ascii (AsciiText (with_tail base part)))
          (λ j size n h. ap (λ ps. text_in c.write_block.new.self.block.items (slice_index_or ps.items j None) size)
          (sym c.write_block.ensures.places) ∙ c.write_block.ensures.others j size n (rw c.write_block.ensures.max_text h))
          c.args.self.now.fitting held),
    )

pub returns-clause-holds : goal.returns-clause-holds
returns-clause-holds c _ =
    let at = c.saturating_sub-at.result + c.args.count in
    let within : c.args.entry < vec_len c.args.self.now.places = let h = place_of_entry c.args.self.now c.args.entry c.requires.there in
    omega (arith, h, c.args.self.now.paired) in
    let some : is_some (slice_index_or c.args.self.now.places.items c.args.entry None) ≡ true =
    ap is_some (sym (get_or_read_under _ _ _ _ None c.index.ensures within c.args.self.now.places.ok.0)) ∙ c.if-is_none.ensures in
    set_holds c.args.self.now c.put.new.self c.args.entry at c.requires.there some
    (c.put.ensures.entries ∙ ap (λ es. slice_set es.items c.args.entry (Held.Ascii at)) c.write_block.ensures.entries)
    (ap (λ ps. ps.items) (c.put.ensures.places ∙ c.write_block.ensures.places))

pub returns-in_default : goal.returns-in_default
returns-in_default c = record { tail = λ e. never e; holds = λ e. never e; left = λ e. refl; same = refl }

pub index-requires : goal.index-requires
index-requires c = let h = place_of_entry c.args.self.now c.args.entry c.requires.there in omega (arith, h, c.args.self.now.paired)

pub overflow_sub-self : goal.overflow_sub-self
overflow_sub-self c = let fits : c.in-Ascii.size ≤ c.args.self.now.max_text = c.in-Ascii.ensures.fits in omega (arith, fits, c.saturating_sub-at.ensures)

pub write_block-requires-clause-there : goal.write_block-requires-clause-there
write_block-requires-clause-there c = place_of_entry c.args.self.now c.args.entry c.requires.there

pub write_block-requires-clause-fits : goal.write_block-requires-clause-fits
write_block-requires-clause-fits c = omega (arith, c.if-self-at-lt16.false)

pub write_block-requires-clause-takes : goal.write_block-requires-clause-takes
write_block-requires-clause-takes c =
    let within : c.args.entry < vec_len c.args.self.now.places = let h = place_of_entry c.args.self.now c.args.entry c.requires.there in
    omega (arith, h, c.args.self.now.paired) in
    ap is_some (sym (get_or_read_under _ _ _ _ None c.index.ensures within c.args.self.now.places.ok.0)) ∙ c.if-is_none.ensures

pub write_block-requires-clause-block : goal.write_block-requires-clause-block
write_block-requires-clause-block c = c.requires.block

pub overflow_add-at : goal.overflow_add-at
overflow_add-at c = search rules

pub put-requires-clause-there : goal.put-requires-clause-there
put-requires-clause-there c = rw c.write_block.ensures.entries (place_of_entry c.args.self.now c.args.entry c.requires.there)

pub put-requires-clause-fits : goal.put-requires-clause-fits
put-requires-clause-fits c = rw c.write_block.ensures.max_text (omega (arith, c.if-self-at-lt16.false, c.requires.count))

pub returns-clause-same : goal.returns-clause-same
returns-clause-same c = same_terms c.args.self.now c.put.new.self c.args.entry (Held.Ascii (c.saturating_sub-at.result + c.args.count))
    (c.put.ensures.entries ∙ ap (λ es. slice_set es.items c.args.entry (Held.Ascii (c.saturating_sub-at.result + c.args.count)))
    c.write_block.ensures.entries) (c.put.ensures.places ∙ c.write_block.ensures.places)
    (c.put.ensures.max_text ∙ c.write_block.ensures.max_text)

pub returns-then-is_none-clause-tail : goal.returns-then-is_none-clause-tail
returns-then-is_none-clause-tail c e = never e

pub returns-then-is_none-clause-holds : goal.returns-then-is_none-clause-holds
returns-then-is_none-clause-holds c e = never e

pub returns-clause-left : goal.returns-clause-left
returns-clause-left c e = never_false e
