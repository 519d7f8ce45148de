-- The bytes follow their size, and more are to come.
use Rattle.std.proofs.Common.{◌∙◌, sym, ap, subst}
use Rattle.std.specs.Prelude.{Bool, Some, option_map, pos}
use Rattle.fast_fronts.specs.device.Fronts.{IsFirstInt}
use Rattle.fast_fronts.specs.declared.fronts.First.TheVariants as First
use Rattle.fast_wire.specs.meaning.Integers.{unsigned_range}
use Rattle.fast_value.specs.meaning.Kinds.{family}
use Rattle.fast_dict.specs.meaning.Slots.{slots_dictionary}
use Rattle.fast_units.specs.declared.source.ValueSource.TheVariants as From
use Rattle.fast_items.proofs.WholeTexts.{vector_begun}
use Rattle.fast_items.proofs.begun_texts.begun_vector.Goals as goal

pub returns-clause-begun : goal.returns-clause-begun
returns-clause-begun c entry slots f l is_room is serves =
    let rest = c.args.rest.now in
    let a = c.in_ok-size.from in
    let size = c.in_ok-size-2.size in
    let d = slots_dictionary slots in
    let first = subst (λ w. IsFirstInt (λ y. option_map pos y) c.args.strict (unsigned_range 32) c.args.optional (First.Whole c.in_ok-size.size a) w)
    c.new.ensures c.in_ok-size.ensures in
    let given : IsFirstInt (λ y. option_map pos y) c.args.strict (unsigned_range 32) f.optional (First.Whole (Some size) a) rest
    = subst (λ (b : Bool). IsFirstInt (λ y. option_map pos y) c.args.strict (unsigned_range 32) b (First.Whole (Some size) a) rest)
    (sym is.optional) (rw c.in_ok-size-2.was at first) in
    vector_begun c.args.strict l f rest d d rest From.Absent (ap family is.kind ∙ c.requires.text)
    (λ e. c.requires.vector (sym is.kind ∙ e)) (λ e. c.requires.whole (sym is.operator ∙ e))
    (λ e. c.requires.sent (sym is.operator ∙ e)) size a given
    (rw is_room c.if-size-room.false) c.if-size-rest.false
