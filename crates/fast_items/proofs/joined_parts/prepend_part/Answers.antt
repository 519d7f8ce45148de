-- The part stands before what is kept.
use Rattle.std.proofs.Common.{rules, ◌≡◌, ◌∙◌, ◌++◌, ap, drop, slice_set}
use Rattle.fast_value.specs.meaning.Kinds.{value_of_text}
use Rattle.fast_value.specs.meaning.Values.{scalar_data}
use Rattle.fast_dict.specs.meaning.Dictionary.{assigned}
use Rattle.fast_dict.specs.meaning.Operators.{prepend_to}
use Rattle.fast_dict.specs.meaning.Slots.{slots_dictionary}
use Rattle.fast_items.proofs.JoinedTexts.{keeps_back}
use Rattle.fast_items.proofs.joined_parts.prepend_part.Goals as goal

pub returns-clause-joined : goal.returns-clause-joined
returns-clause-joined c =
    let kind = c.args.kind in
    let part = c.args.part.now in
    let (base, held, within, is) = c.in_ok-kept.ensures.kept in
    let text : c.as_slice.result.now ≡ part ++ drop c.args.dropped base = c.as_slice.ensures ∙ c.append-2.ensures.text
    ∙ ap (λ t. t ++ c.in_ok-kept.kept.now) (c.append.ensures.text ∙ ap (λ t. t ++ part) c.clear.ensures.text)
    ∙ ap (λ t. part ++ t) is in
    let set : slots_dictionary c.set.new.self ≡ slice_set (slots_dictionary c.args.slots.now) c.args.entry
    (assigned kind (scalar_data c.text_value.result)) = search rules in
    record {
      base = base;
      held = held;
      kept = prepend_to (drop c.args.dropped base);
      keeps = keeps_back base c.args.dropped within;
      fits = rw (← is) c.if-part-room.false;
      checked = rw (← is) (c.are_texts_of.ensures c.if-not-are_texts_of.false);
      becomes = set ∙ ap (λ v. slice_set (slots_dictionary c.args.slots.now) c.args.entry (assigned kind v))
          (c.text_value.ensures ∙ ap (value_of_text kind) text);
    }
