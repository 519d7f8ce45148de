-- The tail stands whole in the piece, and the entry keeps it.
use Rattle.std.proofs.Common.{◌≤◌, ◌+◌, refl, subst, length, ℕ}
use Rattle.std.specs.Prelude.{Some}
use Rattle.fast_value.specs.declared.kinds.Kind.TheVariants.{Ascii}
use Rattle.fast_tree.specs.declared.operators.Operator.TheVariants.{Tail}
use Rattle.fast_items.specs.device.TextItems.{with_last, text_taken, IsFirstTail}
use Rattle.fast_items.proofs.TextItems.{first_whole}
use Rattle.fast_items.proofs.long_ascii.sent_first_tail.Goals as goal

pub returns-clause-unit : goal.returns-clause-unit
returns-clause-unit c optional =
    let text = with_last c.in_ok-front.front.now (Some c.in_ok-front.last) in
    let n = length c.in_ok-front.front.now + 1 in
    subst (λ (m : ℕ). IsFirstTail Ascii optional c.args.entry m c.args.rest.now c.args.slots.now c.copy_long.new.slots
    c.copy_long.new.scratch.text (text_taken Tail n)) c.max_text.ensures
    (first_whole optional c.args.entry c.max_text.result c.args.rest.now c.args.slots.now c.copy_long.new.slots c.copy_long.new.scratch.text text n
    (c.in_ok-front.ensures.next optional) c.requires.within (c.if-not-holds_nothing.ensures refl) (c.if-not-copy_long.ensures.kept refl))

pub returns-in_err-front-clause-unit : goal.returns-in_err-front-clause-unit
returns-in_err-front-clause-unit c = rw c.from_residual.ensures tt

pub returns-in_err-front-clause-held : goal.returns-in_err-front-clause-held
returns-in_err-front-clause-held c = rw c.from_residual.ensures tt

pub returns-in_err-front-clause-none : goal.returns-in_err-front-clause-none
returns-in_err-front-clause-none c = rw c.from_residual.ensures (refl, refl)

pub whole_characters-requires : goal.whole_characters-requires
whole_characters-requires c = record { begins = c.if-not-begins_with_character.ensures refl }

pub copy_long-requires-clause-fits : goal.copy_long-requires-clause-fits
copy_long-requires-clause-fits c = subst (λ (m : ℕ). length (with_last c.in_ok-front.front.now (Some c.in_ok-front.last)) ≤ m)
    c.max_text.ensures c.in_ok-front.ensures.fits

pub copy_long-requires-clause-room : goal.copy_long-requires-clause-room
copy_long-requires-clause-room c = c.requires.room

pub returns-then-not-copy_long-clause-none : goal.returns-then-not-copy_long-clause-none
returns-then-not-copy_long-clause-none c = c.if-not-copy_long.ensures.left refl

pub returns-clause-held : goal.returns-clause-held
returns-clause-held c = c.if-not-copy_long.ensures.holds refl
