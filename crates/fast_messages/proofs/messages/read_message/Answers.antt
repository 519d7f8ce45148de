use Rattle.std.proofs.Common.{◌≡◌, ℕ, List, refl, ap, sym, subst, ◌∙◌}
use Rattle.std.specs.Prelude.{Some, option_map, slice_get, string_bytes}
use Rattle.std.proofs.lemmas.Option.{slice_get-map, slice_get_within}
use Rattle.std.proofs.lemmas.Result.{err_from_is_err_and}
use Rattle.fast_value.specs.meaning.Views.{slots_data, message_data}
use Rattle.fast_tree.specs.declared.instructions.Template.{Template}
use Rattle.fast_tree.specs.meaning.Nodes.{instructions_from, template_data}
use Rattle.fast_template.specs.meaning.Flat.{nodes_of, templates_of, tree_of}
use Rattle.fast_lines.specs.meaning.Forms.{message, line_data}
use Rattle.fast_messages.proofs.readings.Bodies.{message_read}
use Rattle.fast_messages.specs.declared.endings.Ending.TheVariants as Ends
use Rattle.fast_messages.specs.meaning.Reading.{OnBadLine}
use Rattle.fast_messages.specs.device.Refusing.{HasNoNext}
use Rattle.fast_messages.specs.meaning.Unsaid.{HasNoBody, HasNoMessage}
use Rattle.fast_messages.proofs.names.Preorder.{distinct_bodies}
use Rattle.fast_messages.proofs.refusals.Refused.{on_bad, always}
use Rattle.fast_messages.proofs.refusals.RefusedMessages.{message_next, no_template, no_slots_due}
use Rattle.fast_messages.proofs.messages.read_message.Goals as goal

pub returns-clause-ok : goal.returns-clause-ok
returns-clause-ok c =
    let set = c.args.templates.now in
    let n = c.in-Some.template in
    let u = c.template.result.now in
    let f = template_data (instructions_from 0 (nodes_of set)) in
    let same : c.in-Some.ensures.found.0 ≡ u = cc (c.in-Some.ensures.found.1, c.template.ensures.found) in
    let name : c.in-Some-Message.name.now ≡ string_bytes u.name = sym c.in-Some.ensures.found.2 ∙ ap (λ (z : Template). string_bytes z.name) same in
    let here = rw c.in-Some-Message.is at c.in-Some-Message.field-0-is in
    let line : option_map line_data c.args.at.line ≡ Some (message (string_bytes u.name)) =
    ap (option_map line_data) (c.in-Some-Message.is ∙ ap Some here) ∙ ap (λ (z : List ℕ). Some (message z)) name in
    message_read (tree_of set) n (f u) (slots_data c.in_ok-items.items.items) (message_data (record {
      template = n;
      items = c.in_ok-items.items;
    })) c.args.at c.in_ok-next.next c.in_ok-items.next refl
    (slice_get-map f (templates_of set) n ∙ ap (option_map f) c.template.ensures.found) line c.in_ok-next.ensures.ok
    (rw c.deref.ensures.value at c.in_ok-items.ensures.ok)

pub template-requires : goal.template-requires
template-requires c =
    slice_get_within (templates_of c.args.templates.now) c.in-Some.template c.in-Some.ensures.found.0 c.in-Some.ensures.found.1

pub returns-in_default-number_of-clause-refused : goal.returns-in_default-number_of-clause-refused
returns-in_default-number_of-clause-refused c =
    let set = tree_of c.args.templates.now in
    let here = rw c.in-Some-Message.is at c.in-Some-Message.field-0-is in
    let line : option_map line_data c.args.at.line ≡ Some (message c.in-Some-Message.name.now) =
    ap (option_map line_data) (c.in-Some-Message.is ∙ ap Some here) in
    always (HasNoMessage set c.args.at) c.fault-in_default-number_of.result
    (no_template c.args.templates.now c.args.at c.in-Some-Message.name.now line c.in_default-number_of.ensures.none)

pub returns-in_err-next-clause-refused : goal.returns-in_err-next-clause-refused
returns-in_err-next-clause-refused c =
    let set = tree_of c.args.templates.now in
    let p = err_from_is_err_and c.from_residual.result c.from_residual.ensures.1 in
    rw p.1 (subst (OnBadLine (HasNoMessage set c.args.at)) (sym p.2) (on_bad (HasNoNext c.args.at) (HasNoMessage set c.args.at)
    (λ none. message_next set c.args.at none)
    c.in_err-next.field-0.0 (c.in_err-next.ensures.refused)))

pub returns-in_err-items-clause-refused : goal.returns-in_err-items-clause-refused
returns-in_err-items-clause-refused c =
    let s = c.args.templates.now in
    let set = tree_of s in
    let n = c.in-Some.template in
    let u = c.template.result.now in
    let f = template_data (instructions_from 0 (nodes_of s)) in
    let same : c.in-Some.ensures.found.0 ≡ u = cc (c.in-Some.ensures.found.1, c.template.ensures.found) in
    let name : c.in-Some-Message.name.now ≡ string_bytes u.name = sym c.in-Some.ensures.found.2 ∙ ap (λ (z : Template). string_bytes z.name) same in
    let here = rw c.in-Some-Message.is at c.in-Some-Message.field-0-is in
    let line : option_map line_data c.args.at.line ≡ Some (message (string_bytes u.name)) =
    ap (option_map line_data) (c.in-Some-Message.is ∙ ap Some here) ∙ ap (λ (z : List ℕ). Some (message z)) name in
    let found : slice_get set.templates n ≡ Some (f u) = slice_get-map f (templates_of s) n ∙ ap (option_map f) c.template.ensures.found in
    let p = err_from_is_err_and c.from_residual-in_err-items.result c.from_residual-in_err-items.ensures.1 in
    rw p.1 (subst (OnBadLine (HasNoMessage set c.args.at)) (sym p.2)
    (on_bad (HasNoBody set (f u).body Ends.Message c.in_ok-next.next) (HasNoMessage set c.args.at)
    (λ none. no_slots_due set n (f u) c.args.at c.in_ok-next.next
    (distinct_bodies set (nodes_of s) s.nodes_in_preorder) found line c.in_ok-next.ensures.ok none)
    c.in_err-items.field-0.0 (rw c.deref.ensures.value at c.in_err-items.ensures.refused)))
