-- The units before the last stand whole, and the last goes on after the piece.
use Rattle.std.proofs.Common.{◌≡◌, ◌∙◌, ◌-◌, ◌<◌, ◌≤◌, subst, arith, [], drop, length, List, ℕ}
use Rattle.std.specs.Prelude.{false, Some, option_map, pos}
use Rattle.std.proofs.lemmas.List.{take_rest, length-drop}
use Rattle.fast_fronts.specs.device.Fronts.{IsFirstInt}
use Rattle.fast_fronts.specs.declared.fronts.First.TheVariants as First
use Rattle.fast_wire.specs.meaning.Integers.{unsigned_range, signed_range}
use Rattle.fast_dict.specs.meaning.Operators.{kept_length}
use Rattle.fast_dict.specs.meaning.Slots.{slots_dictionary}
use Rattle.fast_stream.specs.meaning.Phrases.{cut}
use Rattle.fast_stream.specs.meaning.Units.{ascii_text}
use Rattle.fast_items.proofs.BegunTexts.{ascii_begun, vector_begun}
use Rattle.fast_items.proofs.begun_texts.begun_delta.Goals as goal

pub returns-else-not-is_text_front-clause-begun : goal.returns-else-not-is_text_front-clause-begun
returns-else-not-is_text_front-clause-begun c f l same is serves =
    let rest = c.args.rest.now in
    let a = c.in_ok-subtraction.len in
    let k = c.in_ok-subtraction-2.subtraction in
    let left = c.in_ok-left.left in
    let sent = subst (λ (w : List ℕ). IsFirstInt (λ y. y) c.args.strict (signed_range 31) c.args.optional
    (First.Whole c.in_ok-subtraction.subtraction a) w) c.new.ensures c.in_ok-subtraction.ensures in
    let given : IsFirstInt (λ y. y) c.args.strict (signed_range 31) c.args.optional (First.Whole (Some k) a) rest =
    rw c.in_ok-subtraction-2.was at sent in
    let open_front : ascii_text false left (drop a rest) [] cut =
    subst (λ w. ascii_text false left w [] cut) (take_rest rest a)
    (c.is_text_front.ensures.«open» c.if-not-is_text_front.false false) in
    ascii_begun c.args.strict l f rest (slots_dictionary c.args.slots.now) c.args.kind c.args.optional c.args.entry k c.args.room left a
    same is c.requires.text given c.in_ok-left.ensures c.in-Ascii.is open_front

pub returns-else-size-behind : goal.returns-else-size-behind
returns-else-size-behind c =
    let rest = c.args.rest.now in
    let a = c.in_ok-subtraction.len in
    let b = c.in_ok-size-in_default.bytes in
    let k = c.in_ok-subtraction-2.subtraction in
    let left = c.in_ok-left.left in
    let size = c.in_ok-size-in_default-2.size in
    let sent = subst (λ (w : List ℕ). IsFirstInt (λ y. y) c.args.strict (signed_range 31) c.args.optional
    (First.Whole c.in_ok-subtraction.subtraction a) w) c.new.ensures c.in_ok-subtraction.ensures in
    let given : IsFirstInt (λ y. y) c.args.strict (signed_range 31) c.args.optional (First.Whole (Some k) a) rest =
    rw c.in_ok-subtraction-2.was at sent in
    let sized : IsFirstInt (λ y. option_map pos y) c.args.strict (unsigned_range 32) false (First.Whole (Some size) b) (drop a rest)
    = subst (λ (w : List ℕ). IsFirstInt (λ y. option_map pos y) c.args.strict (unsigned_range 32) false (First.Whole (Some size) b) w)
    (c.new-in_default.ensures ∙ take_rest rest a) (rw c.in_ok-size-in_default-2.was at c.in_ok-size-in_default.ensures) in
    let fits : size ≤ left = c.if-size-left.false in
    let within : a ≤ length rest = given.0 in
    let behind : length (drop a rest) ≡ length rest - a = length-drop a rest in
    let short : length (drop a rest) - b < size = (let h = c.if-size-behind.false in omega (arith, behind, h)) in
    let here : b ≤ length (drop a rest) = sized.0 in
    let leaves : left ≡ c.args.room - kept_length c.in_ok-left.ensures.kept = c.in_ok-left.ensures.leaves in
    record {
      begun = λ f l same is serves. vector_begun c.args.strict l f rest
          (slots_dictionary c.args.slots.now) c.args.kind c.args.optional c.args.entry k c.args.room left a same is c.requires.text given
          c.in_ok-left.ensures size b
          c.in_default.not-Ascii sized fits short;
      fits = (omega (arith, within, behind, here), omega (arith, behind, short, fits, leaves));
    }
