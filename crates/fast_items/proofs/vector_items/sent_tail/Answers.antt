-- Both units together are the field's.
use Rattle.std.proofs.Common.{◌≡◌, ◌∙◌, ◌+◌, ◌-◌, ◌≤◌, refl, sym, ap, subst, List, ℕ, length, take, drop}
use Rattle.std.specs.Prelude.{Bool, true, Some, None, option_map, pos}
use Rattle.std.proofs.lemmas.List.{length-take-le, take_rest}
use Rattle.fast_fronts.specs.device.Fronts.{IsFirstInt}
use Rattle.fast_fronts.specs.declared.fronts.First.TheVariants as First
use Rattle.fast_wire.specs.meaning.Integers.{unsigned_range}
use Rattle.fast_value.specs.meaning.Limits.{bounds}
use Rattle.fast_dict.specs.meaning.Dictionary.{previous_at}
use Rattle.fast_dict.specs.meaning.Slots.{slots_dictionary}
use Rattle.fast_stream.specs.meaning.Fields.{field_term}
use Rattle.fast_stream.specs.device.GrammarReaders.{reader_of}
use Rattle.fast_items.specs.device.FieldsAs.{GivesWhole}
use Rattle.fast_items.specs.device.TextsAs.{IsTailed}
use Rattle.fast_units.specs.declared.source.ValueSource.TheVariants as From
use Rattle.fast_items.proofs.WholeDeltas.{tail_null_whole, tail_whole}
use Rattle.fast_items.proofs.vector_items.sent_tail.Goals as goal

pub returns-in_default-clause-unit : goal.returns-in_default-clause-unit
returns-in_default-clause-unit c f scratch is serves =
    let s = c.args.strict in
    let rest = c.args.rest.bytes.now in
    let a = c.in_ok-size.len in
    let old = slots_dictionary c.args.slots.now in
    let new = slots_dictionary c.set_empty.new.self in
    let given : IsFirstInt (λ y. option_map pos y) s (unsigned_range 32) f.optional (First.Whole None a) rest
    = subst (λ (b : Bool). IsFirstInt (λ y. option_map pos y) s (unsigned_range 32) b (First.Whole None a) rest) (sym is.optional)
    (rw c.in_default.is at c.in_ok-size.ensures) in
    tail_null_whole s (bounds c.args.limits) f rest old new scratch c.args.kind c.args.entry is.kind c.requires.text c.requires.vector
    is.operator (is.entry refl) c.requires.there a given c.set_empty.ensures.entry

pub returns-clause-unit : goal.returns-clause-unit
returns-clause-unit c f scratch is serves =
    let s = c.args.strict in
    let rest = c.args.rest.bytes.now in
    let a = c.in_ok-size.len in
    let size = c.in-Some.size in
    let old = slots_dictionary c.args.slots.now in
    let new = slots_dictionary c.put_tail.new.slots in
    let given : IsFirstInt (λ y. option_map pos y) s (unsigned_range 32) f.optional (First.Whole (Some size) a) rest
    = subst (λ (b : Bool). IsFirstInt (λ y. option_map pos y) s (unsigned_range 32) b (First.Whole (Some size) a) rest) (sym is.optional)
    (rw c.in-Some.is at c.in_ok-size.ensures) in
    let behind : take (length rest - a) (drop a rest) ≡ drop a rest = take_rest rest a in
    let within : size ≤ length (drop a rest) = rw (← behind) c.in_ok-part.ensures.within in
    let text : c.in_ok-part.part.now ≡ take size (drop a rest) = c.in_ok-part.ensures.run ∙ ap (take size) behind in
    let len : length c.in_ok-part.part.now ≡ size = ap length text ∙ length-take-le size (drop a rest) within in
    let j : IsTailed c.args.kind c.args.entry (take size (drop a rest)) old new =
    subst (λ (w : List ℕ). IsTailed c.args.kind c.args.entry w old new) text c.in_ok-put_tail.ensures.tail in
    subst (λ n. GivesWhole (reader_of s (field_term (bounds c.args.limits) f (previous_at f.entry old) true)) f rest old new scratch
    From.Entry a (a + n)) (sym len)
    (tail_whole s (bounds c.args.limits) f rest old new scratch c.args.kind c.args.entry is.kind c.requires.text c.requires.vector
    is.operator (is.entry refl) c.requires.there size a given c.in_ok-part.ensures.room within j)
