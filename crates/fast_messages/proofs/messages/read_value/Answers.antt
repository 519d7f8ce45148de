use Rattle.std.proofs.Common.{refl, sym, subst}
use Rattle.std.specs.Prelude.{IsSome, Some}
use Rattle.std.proofs.lemmas.Result.{err_from_is_err_and}
use Rattle.std.proofs.lemmas.Str.{IsUtf8-had}
use Rattle.fast_value.specs.declared.messages.Item.TheVariants as V
use Rattle.fast_value.specs.meaning.Views.{item_data}
use Rattle.fast_value.proofs.ItemViews.{item_data-One}
use Rattle.fast_template.specs.meaning.Flat.{nodes_of, tree_of}
use Rattle.fast_spelling.specs.device.Nodes.{instruction_in}
use Rattle.fast_messages.specs.device.Cursors.{IsNear}
use Rattle.fast_messages.proofs.names.Named.{names_some, numbered}
use Rattle.fast_messages.proofs.readings.Parts.{value_read}
use Rattle.fast_messages.proofs.readings.Said.{next_near, one_on}
use Rattle.fast_value.specs.meaning.Messages.{ItemData}
use Rattle.fast_spelling.specs.meaning.Suiting.{Suits}
use Rattle.fast_messages.specs.device.Ahead.{HasNoLines}
use Rattle.fast_messages.specs.meaning.Reading.{closed, OnBadLine}
use Rattle.fast_messages.specs.meaning.Unsaid.{HasNoItem}
use Rattle.fast_messages.proofs.refusals.NoLines.{next_refused}
use Rattle.fast_messages.proofs.refusals.Refused.{on_bad, always, item_next, unread_value, wrong_value}
use Rattle.fast_messages.proofs.messages.read_value.Goals as goal

pub returns-in_err-next-clause-line : goal.returns-in_err-next-clause-line
returns-in_err-next-clause-line c =
    let some : IsSome c.args.at.line = names_some (tree_of c.args.templates.now) c.args.node
    (instruction_in (nodes_of c.args.templates.now) c.args.node) c.args.at.line c.requires.named in
    let p = err_from_is_err_and c.from_residual.result c.from_residual.ensures.1 in
    rw p.1 (subst (IsNear c.args.at) (sym p.2) (next_near c.args.at c.in_err-next.field-0.0 some c.in_err-next.ensures.line))

pub returns-clause-ok : goal.returns-clause-ok
returns-clause-ok c =
    let t = c.args.templates.now in
    let i = instruction_in (nodes_of t) c.args.node in
    let some : IsSome c.args.at.line = names_some (tree_of t) c.args.node i c.args.at.line c.requires.named in
    value_read (tree_of t) c.args.node i c.in-Some.value (item_data (V.One c.in-Some.value)) c.args.at c.in_ok-next.next c.requires.field
    (numbered t c.args.node c.requires.node) (item_data-One c.in-Some.value) c.in-Some.is c.requires.named
    (one_on c.args.at c.in_ok-next.next some c.in_ok-next.ensures.ahead c.in_ok-next.ensures.number) (c.if-not-suits_item.ensures.0 refl)

pub returns-in_default-clause-refused : goal.returns-in_default-clause-refused
returns-in_default-clause-refused c =
    let set = tree_of c.args.templates.now in
    let i = instruction_in (nodes_of c.args.templates.now) c.args.node in
    unread_value set i c.args.at c.requires.field c.in_default.is

pub returns-then-not-suits_item-clause-refused : goal.returns-then-not-suits_item-clause-refused
returns-then-not-suits_item-clause-refused c =
    let set = tree_of c.args.templates.now in
    let i = instruction_in (nodes_of c.args.templates.now) c.args.node in
    always (HasNoItem set i c.args.at) c.wrong_value-fault.result
    (wrong_value set i c.in-Some.value c.args.at c.requires.field c.in-Some.is c.wrong_value-fault.ensures.told
    (λ h. absurd (cc (c.if-not-suits_item.true, c.suits_item.ensures.1 (subst (λ (z : ItemData). Suits i (Some z)) (sym (item_data-One c.in-Some.value)) h)))))

pub returns-in_err-next-clause-refused : goal.returns-in_err-next-clause-refused
returns-in_err-next-clause-refused c =
    let set = tree_of c.args.templates.now in
    let i = instruction_in (nodes_of c.args.templates.now) c.args.node in
    let some : IsSome c.args.at.line = names_some set c.args.node i c.args.at.line c.requires.named in
    let p = err_from_is_err_and c.from_residual.result c.from_residual.ensures.1 in
    rw p.1 (subst (OnBadLine (HasNoItem set i c.args.at)) (sym p.2) (on_bad (HasNoLines (closed c.args.at.rest.now)) (HasNoItem set i c.args.at)
    (λ none. item_next set i c.args.at (next_refused c.args.at some none))
    c.in_err-next.field-0.0 (c.in_err-next.ensures.refused)))

pub behind-requires : goal.behind-requires
behind-requires c known = IsUtf8-had c.args.at.rest.now (c.args.at.utf8 known)
