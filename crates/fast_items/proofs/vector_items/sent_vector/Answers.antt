-- Both units together are the field's.
use Rattle.std.proofs.Common.{◌≡◌, ◌∙◌, ◌+◌, ◌-◌, ◌≤◌, sym, ap, subst, length, take, drop}
use Rattle.std.specs.Prelude.{Bool, true, Some, None, Ok, option_map, pos}
use Rattle.std.proofs.lemmas.List.{length-take-le, take_rest}
use Rattle.fast_fronts.specs.device.Fronts.{IsFirstInt}
use Rattle.fast_fronts.specs.declared.fronts.First.TheVariants as First
use Rattle.fast_wire.specs.meaning.Integers.{unsigned_range}
use Rattle.fast_value.specs.meaning.Kinds.{family, value_of_text}
use Rattle.fast_value.specs.meaning.Limits.{bounds}
use Rattle.fast_tree.specs.meaning.Entries.{keeps_value}
use Rattle.fast_dict.specs.meaning.Operators.{checked_text}
use Rattle.fast_dict.specs.meaning.Dictionary.{previous_at}
use Rattle.fast_dict.specs.meaning.Slots.{slots_dictionary}
use Rattle.fast_stream.specs.meaning.Fields.{field_term}
use Rattle.fast_stream.specs.device.GrammarReaders.{reader_of}
use Rattle.fast_items.specs.device.FieldsAs.{GivesWhole}
use Rattle.fast_units.specs.declared.source.ValueSource.TheVariants as From
use Rattle.fast_items.proofs.WholeTexts.{plain_null, plain_vector}
use Rattle.fast_items.proofs.vector_items.sent_vector.Goals as goal

pub returns-in_default-clause-unit : goal.returns-in_default-clause-unit
returns-in_default-clause-unit c entry slots f scratch is serves =
    let s = c.args.strict in
    let rest = c.args.rest.bytes.now in
    let a = c.in_ok-size.len in
    let given : IsFirstInt (λ y. option_map pos y) s (unsigned_range 32) f.optional (First.Whole None a) rest
    = subst (λ (b : Bool). IsFirstInt (λ y. option_map pos y) s (unsigned_range 32) b (First.Whole None a) rest) (sym is.optional)
    (rw c.in_default.is at c.in_ok-size.ensures) in
    plain_null s (bounds c.args.limits) f rest (slots_dictionary slots) scratch (ap family is.kind ∙ c.requires.text)
    (λ e. c.requires.vector (sym is.kind ∙ e)) (λ e. c.requires.sent (sym is.operator ∙ e))
    (ap keeps_value is.operator ∙ c.requires.unkept) a given

pub returns-clause-unit : goal.returns-clause-unit
returns-clause-unit c entry slots f scratch is serves =
    let s = c.args.strict in
    let rest = c.args.rest.bytes.now in
    let a = c.in_ok-size.len in
    let size = c.in-Some.size in
    let given : IsFirstInt (λ y. option_map pos y) s (unsigned_range 32) f.optional (First.Whole (Some size) a) rest
    = subst (λ (b : Bool). IsFirstInt (λ y. option_map pos y) s (unsigned_range 32) b (First.Whole (Some size) a) rest) (sym is.optional)
    (rw c.in-Some.is at c.in_ok-size.ensures) in
    let behind : take (length rest - a) (drop a rest) ≡ drop a rest = take_rest rest a in
    let within : size ≤ length (drop a rest) = rw (← behind) c.in_ok-text.ensures.within in
    let text : c.in_ok-text.text.now ≡ take size (drop a rest) = c.in_ok-text.ensures.run ∙ ap (take size) behind in
    let len : length c.in_ok-text.text.now ≡ size = ap length text ∙ length-take-le size (drop a rest) within in
    let checked : checked_text f.kind (take size (drop a rest)) ≡ Ok (value_of_text f.kind (take size (drop a rest))) =
    rw (is.kind, ← text) (c.is_text_of.ensures c.if-not-is_text_of.false) in
    subst (λ n. GivesWhole (reader_of s (field_term (bounds c.args.limits) f (previous_at f.entry (slots_dictionary slots)) true)) f rest
    (slots_dictionary slots) (slots_dictionary slots) scratch From.Piece a (a + n)) (sym len)
    (plain_vector s (bounds c.args.limits) f rest (slots_dictionary slots) scratch (ap family is.kind ∙ c.requires.text)
    (λ e. c.requires.vector (sym is.kind ∙ e)) (λ e. c.requires.sent (sym is.operator ∙ e))
    (ap keeps_value is.operator ∙ c.requires.unkept) size a given c.in_ok-text.ensures.room within checked)
