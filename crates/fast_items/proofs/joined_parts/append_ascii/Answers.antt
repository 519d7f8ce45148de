-- The part stands behind what is kept, its last character behind the others.
use Rattle.std.proofs.Common.{◌≡◌, ◌+◌, ◌-◌, ◌≤◌, ◌++◌, ◌∷◌, [], ◌∙◌, ap, sym, subst, refl, arith, length, take, slice_set, length-append}
use Rattle.std.proofs.Common.{append_assoc, List, ℕ}
use Rattle.std.specs.Prelude.{IsTrue, Some}
use Rattle.std.proofs.lemmas.List.{length-take-le, take_all, set-set}
use Rattle.fast_value.specs.declared.kinds.Kind.TheVariants.{Ascii}
use Rattle.fast_value.specs.meaning.Kinds.{AsciiText}
use Rattle.fast_dict.specs.meaning.Dictionary.{Dictionary, assigned, previous_at}
use Rattle.fast_dict.specs.meaning.Operators.{append_to}
use Rattle.fast_dict.specs.meaning.Slots.{slots_dictionary}
use Rattle.fast_dict.specs.meaning.Stores.{Terms}
use Rattle.fast_items.proofs.JoinedTexts.{keeps_front}
use Rattle.fast_units.proofs.TextOutcomes.{written}
use Rattle.fast_items.proofs.joined_parts.append_ascii.Goals as goal

pub extend_text-requires-2-clause-takes : goal.extend_text-requires-2-clause-takes
extend_text-requires-2-clause-takes c = subst (λ (t : Terms). IsTrue (t.takes_text c.args.entry)) (sym c.extend_text.ensures.same) c.in_ok-base.ensures.takes

pub returns-clause-joined : goal.returns-clause-joined
returns-clause-joined c =
    let base : List ℕ = c.in_ok-base.base.now in
    let e = c.args.entry in
    let keep = length base - c.args.dropped in
    let front = c.args.front.now in
    let some : List ℕ = take keep base ++ front in
    let all : List ℕ = take keep base ++ (front ++ c.args.last ∷ []) in
    let old = slots_dictionary c.args.slots.now in
    let between : Dictionary = slots_dictionary c.extend_text.new.self in
    let within : c.args.dropped ≤ length base = c.if-dropped-base.false in
    let len : length (take keep base) ≡ keep = length-take-le keep base (omega arith) in
    let size : length some ≡ keep + length front = length-append (take keep base) front ∙ ap (λ n. n + length front) len in
    let first : between ≡ slice_set old e (assigned Ascii (AsciiText some)) = c.extend_text.ensures.entry base c.in_ok-base.ensures.held (omega arith) in
    let held : previous_at (Some e) between ≡ assigned Ascii (AsciiText some) = ap (previous_at (Some e)) first
    ∙ written e old (assigned Ascii (AsciiText some)) c.requires.there in
    let text : take (keep + length front) some ++ c.args.last ∷ [] ≡ all =
    ap (λ t. t ++ c.args.last ∷ []) (take_all (keep + length front) some (omega (arith, size)))
    ∙ append_assoc (take keep base) front (c.args.last ∷ []) in
    let more : length (front ++ c.args.last ∷ []) ≡ length front + 1 = length-append front (c.args.last ∷ []) in
    let fits = c.if-front-room.false in
    record {
      base = base;
      held = c.in_ok-base.ensures.held;
      kept = append_to (take keep base);
      keeps = keeps_front base c.args.dropped within;
      fits = rw (len, more) (omega (arith, fits));
      checked = refl;
      becomes = c.extend_text-2.ensures.entry some held (omega (arith, size))
          ∙ ap (λ (d : Dictionary). slice_set d e (assigned Ascii (AsciiText (take (keep + length front) some ++ c.args.last ∷ [])))) first
          ∙ set-set old e (assigned Ascii (AsciiText some)) (assigned Ascii (AsciiText (take (keep + length front) some ++ c.args.last ∷ [])))
          ∙ ap (λ t. slice_set old e (assigned Ascii (AsciiText t))) text;
    }
