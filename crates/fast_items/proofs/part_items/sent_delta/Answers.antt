-- The subtraction length and the part together are the field's.
use Rattle.std.proofs.Common.{rules, ◌≤◌, ◌∙◌, sym, ap, subst, take, drop, length, ℤ, List, ℕ, FitsSigned}
use Rattle.std.specs.Int.{w64}
use Rattle.std.specs.Prelude.{Bool, Some, None}
use Rattle.fast_fronts.specs.device.Fronts.{IsFirstInt}
use Rattle.fast_fronts.specs.declared.fronts.First.TheVariants as First
use Rattle.fast_wire.specs.meaning.Integers.{signed_range}
use Rattle.fast_value.specs.meaning.Kinds.{family}
use Rattle.fast_value.specs.meaning.Limits.{bounds}
use Rattle.fast_dict.specs.meaning.Slots.{slots_dictionary}
use Rattle.fast_dict.specs.meaning.Dictionary.{previous_at}
use Rattle.fast_stream.specs.device.GrammarReaders.{reader_of}
use Rattle.fast_units.specs.device.Settling.{GivesField}
use Rattle.fast_units.specs.device.Stages.{term_behind}
use Rattle.fast_units.specs.declared.source.ValueSource.TheVariants as From
use Rattle.fast_units.specs.declared.stages.Stage.TheVariants.{Part}
use Rattle.fast_items.specs.device.TextsAs.{IsSentPart}
use Rattle.fast_units.proofs.LastUnits.{again}
use Rattle.fast_items.proofs.WholeDeltas.{delta_null_whole, delta_whole}
use Rattle.fast_items.proofs.part_items.sent_delta.Goals as goal

pub returns-in_default-clause-unit : goal.returns-in_default-clause-unit
returns-in_default-clause-unit c f scratch is serves =
    let s = c.args.strict in
    let rest = c.args.rest.bytes.now in
    let a = c.in_ok-subtraction.len in
    let old = slots_dictionary c.args.slots.now in
    let given : IsFirstInt (λ y. y) s (signed_range 31) f.optional (First.Whole None a) rest
    = subst (λ (b : Bool). IsFirstInt (λ y. y) s (signed_range 31) b (First.Whole None a) rest) (sym is.optional)
    (rw c.in_default.is at c.in_ok-subtraction.ensures) in
    delta_null_whole s (bounds c.args.limits) f rest old old scratch (ap family is.kind ∙ c.requires.text) is.operator a given

pub returns-clause-unit : goal.returns-clause-unit
returns-clause-unit c f scratch is serves =
    let s = c.args.strict in
    let rest = c.args.rest.bytes.now in
    let a = c.in_ok-subtraction.len in
    let b = c.in_ok-bytes.bytes in
    let k = c.in-Some.subtraction in
    let old = slots_dictionary c.args.slots.now in
    let new = slots_dictionary c.sent_part.new.slots in
    let given : IsFirstInt (λ y. y) s (signed_range 31) f.optional (First.Whole (Some k) a) rest
    = subst (λ (o : Bool). IsFirstInt (λ y. y) s (signed_range 31) o (First.Whole (Some k) a) rest) (sym is.optional)
    (rw c.in-Some.is at c.in_ok-subtraction.ensures) in
    let behind = c.skip-behind.ensures in
    let within : b ≤ length (drop a rest) = rw (← behind) c.in_ok-bytes.ensures.within in
    let fits : FitsSigned w64 k = search rules in
    let part : GivesField (reader_of s (term_behind (bounds c.args.limits) f (previous_at f.entry old) (Part k)))
    (take b (drop a rest)) f From.Entry old new scratch (take b (drop a rest))
    = subst (λ (w : List ℕ). GivesField (reader_of s (term_behind (bounds c.args.limits) f (previous_at f.entry old) (Part k)))
    (take b w) f From.Entry old new scratch (take b (drop a rest))) behind
    (subst (λ (x : ℤ). IsSentPart c.args.kind c.args.entry x s c.args.limits
    c.skip-behind.result.bytes.now c.args.slots.now c.sent_part.new.slots b) (again w64 k fits) c.in_ok-bytes.ensures.part
    f c.args.optional scratch (take b (drop a rest)) is serves) in
    delta_whole s (bounds c.args.limits) f rest old new scratch (ap family is.kind ∙ c.requires.text) is.operator From.Entry k a b given within part
