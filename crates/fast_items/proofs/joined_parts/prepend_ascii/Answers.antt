-- The part stands before what is kept, its last character behind the others.
use Rattle.std.proofs.Common.{rules, ◌≡◌, ◌∙◌, ◌++◌, ◌∷◌, [], ◌+◌, ap, refl, arith, drop, length, length-append, slice_set}
use Rattle.fast_value.specs.declared.kinds.Kind.TheVariants.{Ascii}
use Rattle.fast_value.specs.meaning.Kinds.{value_of_text}
use Rattle.fast_value.specs.meaning.Values.{scalar_data}
use Rattle.fast_dict.specs.meaning.Dictionary.{assigned}
use Rattle.fast_dict.specs.meaning.Operators.{prepend_to}
use Rattle.fast_dict.specs.meaning.Slots.{slots_dictionary}
use Rattle.fast_items.proofs.JoinedTexts.{keeps_back}
use Rattle.fast_items.proofs.joined_parts.prepend_ascii.Goals as goal

pub returns-clause-joined : goal.returns-clause-joined
returns-clause-joined c =
    let part = c.args.front.now ++ c.args.last ∷ [] in
    let (base, held, within, is) = c.in_ok-kept.ensures.kept in
    let front : c.append.new.self.text ≡ c.args.front.now = c.append.ensures.text ∙ ap (λ t. t ++ c.args.front.now) c.clear.ensures.text in
    let before : c.push.new.self.text ≡ part = c.push.ensures.text ∙ ap (λ t. t ++ c.args.last ∷ []) front in
    let text : c.as_slice.result.now ≡ part ++ drop c.args.dropped base = c.as_slice.ensures ∙ c.append-2.ensures.text
    ∙ ap (λ t. t ++ c.in_ok-kept.kept.now) before ∙ ap (λ t. part ++ t) is in
    let set : slots_dictionary c.set.new.self ≡ slice_set (slots_dictionary c.args.slots.now) c.args.entry
    (assigned Ascii (scalar_data c.text_value.result)) = search rules in
    let more : length part ≡ length c.args.front.now + 1 = length-append c.args.front.now (c.args.last ∷ []) in
    let fits = c.if-front-room.false in
    record {
      base = base;
      held = held;
      kept = prepend_to (drop c.args.dropped base);
      keeps = keeps_back base c.args.dropped within;
      fits = rw (← is, more) (omega (arith, fits));
      checked = refl;
      becomes = set ∙ ap (λ v. slice_set (slots_dictionary c.args.slots.now) c.args.entry (assigned Ascii v))
          (c.text_value.ensures ∙ ap (value_of_text Ascii) text);
    }
