use Rattle.std.proofs.Common.{◌≡◌, ◌∷◌, drop, map, refl, ap, sym, subst, ◌∙◌}
use Rattle.std.specs.Prelude.{option_map}
use Rattle.std.proofs.lemmas.Option.{slice_get-map}
use Rattle.std.proofs.lemmas.Result.{err_from_is_err_and}
use Rattle.fast_value.specs.meaning.Views.{slots_data, message_data}
use Rattle.fast_tree.specs.meaning.Nodes.{instructions_from, template_data}
use Rattle.fast_template.specs.meaning.Flat.{nodes_of, templates_of, tree_of}
use Rattle.fast_stream.specs.declared.events.Event.{Event}
use Rattle.fast_stream.specs.meaning.Events.{MessageStart}
use Rattle.fast_stream.specs.meaning.Handed.{event_data}
use Rattle.fast_records.specs.declared.putting.Mark.TheVariants as Is
use Rattle.fast_records.specs.meaning.Putting.{OnMisplaced}
use Rattle.fast_records.specs.device.Due.{HasNoBody, HasNoFront}
use Rattle.fast_records.proofs.Due.{on_misplaced, no_slots_there}
use Rattle.fast_records.proofs.Put.{message_put}
use Rattle.fast_records.proofs.putting.put_message.Goals as goal

pub returns-clause-put : goal.returns-clause-put
returns-clause-put c =
    let set = c.args.templates.now in
    let n = c.in-Some-MessageStart.template in
    let given = c.args.given.now in
    let f = template_data (instructions_from 0 (nodes_of set)) in
    let here = c.in-Some-MessageStart.field-0-is in
    let start : map event_data given ≡ MessageStart n ∷ map event_data (drop 1 given) = c.in-Some-MessageStart.ensures.first
    ∙ ap (λ (z : Event). event_data z ∷ map event_data (drop 1 given)) here in
    message_put (tree_of set) n (f c.template.result.now) (slots_data c.in_ok-items.items.items) (message_data (record {
      template = n;
      items = c.in_ok-items.items;
    })) (map event_data given) (map event_data (drop 1 given))
    (map event_data (drop c.in_ok-items.next given)) refl (slice_get-map f (templates_of set) n
    ∙ ap (option_map f) c.template.ensures.found) start (rw c.deref.ensures.value at c.in_ok-items.ensures.put)

pub returns-in_err-items-clause-none : goal.returns-in_err-items-clause-none
returns-in_err-items-clause-none c =
    let set = c.args.templates.now in
    let t = tree_of set in
    let n = c.in-Some-MessageStart.template in
    let given = c.args.given.now in
    let from = map event_data given in
    let mid = map event_data (drop 1 given) in
    let f = template_data (instructions_from 0 (nodes_of set)) in
    let u = f c.template.result.now in
    let start : from ≡ MessageStart n ∷ mid = c.in-Some-MessageStart.ensures.first ∙ ap (λ (z : Event). event_data z ∷ mid) c.in-Some-MessageStart.field-0-is in
    let p = err_from_is_err_and c.from_residual.result c.from_residual.ensures.1 in
    rw p.1 (subst (OnMisplaced (HasNoFront t from)) (sym p.2) (on_misplaced (HasNoBody u.body Is.MessageEnd mid) (HasNoFront t from)
    (λ none. no_slots_there t n u from mid (slice_get-map f (templates_of set) n ∙ ap (option_map f) c.template.ensures.found) start none)
    c.in_err-items.field-0.0 (rw c.deref.ensures.value at c.in_err-items.ensures.none)))
