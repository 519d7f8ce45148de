-- A text as it was sent, or a tail that was taken out of line.
use Rattle.std.proofs.Common.{◌∙◌, sym, ap, subst, ℕ}
use Rattle.fast_value.specs.declared.kinds.Kind.TheVariants.{Ascii}
use Rattle.fast_tree.specs.declared.operators.Operator.{Operator}
use Rattle.fast_tree.specs.declared.operators.Operator.TheVariants.{Tail}
use Rattle.fast_tree.specs.meaning.Nodes.{field_data}
use Rattle.fast_dict.specs.declared.slots.Slots.{Slots}
use Rattle.fast_dict.specs.meaning.Slots.{slots_terms}
use Rattle.fast_items.specs.device.TextItems.{text_taken, IsSentText, IsTextSource, IsAsciiAt}
use Rattle.fast_items.specs.declared.taken.TakenText.{TakenText}
use Rattle.fast_loop.specs.device.Arms.{IsOpText}
use Rattle.fast_machine.specs.device.Positions.{set_of}
use Rattle.fast_loop.proofs.text_arms.ascii_taken.Goals as goal

pub returns-in-Some-clause-unit : goal.returns-in-Some-clause-unit
returns-in-Some-clause-unit c x i strict b found shape room said serves =
    c.in-Some.ensures.unit (field_data i) strict b (room ∙ sym c.requires.limit) said serves

pub returns-in_ok-bytes-in-Tail-clause-unit : goal.returns-in_ok-bytes-in-Tail-clause-unit
returns-in_ok-bytes-in-Tail-clause-unit c =
    let set = set_of c.args.templates.now in
    let op = c.args.op.now in
    let optional = c.args.optional in
    let rest = c.args.rest.now in
    let old = c.args.slots.now in
    let new = c.other_tail.new.slots in
    let text = c.other_tail.new.scratch.text in
    let taken = text_taken Tail c.in_ok-bytes-in-Tail.bytes in
    subst (λ (o : Operator). IsOpText set op o optional c.args.max_text rest old new text taken) (sym c.in-Tail.is)
    (subst (λ (m : ℕ). IsOpText set op Tail optional m rest old new text taken) c.requires.limit
    (subst (λ (s : Slots). IsOpText set op Tail optional (slots_terms s).max_text rest s new text taken) c.in_default.ensures.none.0
    c.in_ok-bytes-in-Tail.ensures.unit))

pub returns-in_ok-bytes-in_default-operator : goal.returns-in_ok-bytes-in_default-operator
returns-in_ok-bytes-in_default-operator c =
    let operator = c.args.operator in
    let op = c.args.op.now in
    let rest = c.args.rest.now in
    let old = c.args.slots.now in
    let new = c.sent_long.new.slots in
    let text = c.sent_long.new.scratch.text in
    let done = c.in_ok-bytes-in_default-operator.ensures in
    let left = c.in_default.ensures.none.0 in
    let taken = text_taken operator c.in_ok-bytes-in_default-operator.bytes in
    let sent = subst (λ (s : Slots). IsSentText Ascii c.args.optional operator op.entry c.args.max_text rest s new text taken) left done.unit in
    let is = sym c.text_taken.ensures in
    record {
      unit = subst (λ (r : TakenText). IsOpText (set_of c.args.templates.now) op operator c.args.optional c.args.max_text rest old new text r) is
          (λ x i strict b found shape room said serves. sent (field_data i) strict b room said serves);
      source = subst (λ (r : TakenText). IsTextSource operator r.source) is done.source;
      held = subst (λ (r : TakenText). IsAsciiAt new op.entry r.source) is done.held;
      none = tt;
      terms = done.terms ∙ ap slots_terms left;
      capacity = done.capacity ∙ c.in_default.ensures.capacity;
    }
