-- The slots lie one behind the other, and the block has room for all of them.
use Rattle.std.proofs.Common.{◌≡◌, ◌*◌, ◌∙◌, sym, vec_len, rules, arith, length}
use Rattle.std.specs.Prelude.{count_by, replicate}
use Rattle.fast_dict.specs.declared.entry.Entry.TheVariants.{Undefined}
use Rattle.fast_dict.proofs.Placing.{places-ordered, places-within, has_place}
use Rattle.fast_dict.proofs.Slotted.{fresh-entries, fresh_fits}
use Rattle.fast_dict.proofs.slots.Slots.new.Goals as goal

pub invariant_of-result-clause-ordered : goal.invariant_of-result-clause-ordered
invariant_of-result-clause-ordered c i j p q h a b = places-ordered c.args.max_text 0 c.args.takes_text.now i j p q h
    (rw (← c.in_ok-places.ensures.items) a) (rw (← c.in_ok-places.ensures.items) b)

pub invariant_of-result-clause-within : goal.invariant_of-result-clause-within
invariant_of-result-clause-within c i p a =
    let h = places-within c.args.max_text 0 c.args.takes_text.now i p (rw (← c.in_ok-places.ensures.items) a) in
    let s : vec_len c.in_ok-block.block ≡ count_by (λ b. b) c.args.takes_text.now * c.args.max_text = search rules in
    rw s (omega (arith, h))

pub invariant_of-result-clause-fitting : goal.invariant_of-result-clause-fitting
invariant_of-result-clause-fitting c i =
    let e : c.in_ok-entries.entries.items ≡ replicate (length c.args.takes_text.now) Undefined = search rules in
    rw e (fresh_fits (length c.args.takes_text.now) c.args.max_text i)

pub returns-clause-entries : goal.returns-clause-entries
returns-clause-entries c =
    let e : c.in_ok-entries.entries.items ≡ replicate (length c.args.takes_text.now) Undefined = search rules in
    rw e (fresh-entries _ _ (length c.args.takes_text.now))

pub returns-clause-texts : goal.returns-clause-texts
returns-clause-texts c e = rw c.in_ok-places.ensures.items (has_place c.args.max_text 0 c.args.takes_text.now e)

pub invariant_of-result-clause-paired : goal.invariant_of-result-clause-paired
invariant_of-result-clause-paired c = c.in_ok-places.ensures.len ∙ sym c.in_ok-entries.ensures.len
