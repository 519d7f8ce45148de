-- The part is the last of the field.
use Rattle.std.proofs.Common.{rules, ◌-◌, ◌∙◌, refl, sym, subst, take, drop, ℤ, List, ℕ, FitsSigned}
use Rattle.std.specs.Int.{w64}
use Rattle.fast_value.specs.declared.kinds.Kind.TheVariants.{Ascii}
use Rattle.fast_value.specs.meaning.Limits.{bounds}
use Rattle.fast_dict.specs.meaning.Operators.{kept_length}
use Rattle.fast_dict.specs.meaning.Slots.{slots_dictionary}
use Rattle.fast_dict.specs.meaning.Dictionary.{previous_at}
use Rattle.fast_stream.specs.device.GrammarReaders.{reader_of}
use Rattle.fast_units.specs.device.Settling.{GivesField}
use Rattle.fast_units.specs.device.Stages.{term_behind}
use Rattle.fast_items.specs.device.TextsAs.{IsJoined}
use Rattle.fast_units.specs.declared.source.ValueSource.TheVariants as From
use Rattle.fast_units.specs.declared.stages.Stage.TheVariants.{Part}
use Rattle.fast_units.proofs.LastUnits.{again}
use Rattle.fast_items.proofs.WholeDeltas.{gives_ascii, gives_vector}
use Rattle.fast_items.proofs.part_items.sent_part.Goals as goal

pub returns-in_ok-bytes-in-Ascii-clause-part : goal.returns-in_ok-bytes-in-Ascii-clause-part
returns-in_ok-bytes-in-Ascii-clause-part c f optional scratch piece is serves =
    let e = c.args.entry in
    let k = c.args.subtraction in
    let max = c.args.limits.max_text in
    let old = slots_dictionary c.args.slots.now in
    let new = slots_dictionary c.ascii_part.new.slots in
    let (part, told, spelled) = c.in_ok-bytes-in-Ascii.ensures.part in
    let fits : FitsSigned w64 k = search rules in
    let j : IsJoined Ascii e k part max old new = subst (λ (x : ℤ). IsJoined Ascii e x part max old new) (again w64 k fits) told in
    gives_ascii c.args.strict (bounds c.args.limits) f old new scratch piece Ascii e k part (is.kind ∙ c.in-Ascii.is) (is.entry refl) c.requires.there j
    c.args.rest.bytes.now c.in_ok-bytes-in-Ascii.bytes refl (spelled (max - kept_length j.kept) j.fits)

pub returns-in_ok-bytes-in_default-clause-part : goal.returns-in_ok-bytes-in_default-clause-part
returns-in_ok-bytes-in_default-clause-part c f optional scratch piece is serves =
    let e = c.args.entry in
    let k = c.args.subtraction in
    let max = c.args.limits.max_text in
    let old = slots_dictionary c.args.slots.now in
    let new = slots_dictionary c.vector_part.new.slots in
    let (size, len, all, within, given, told) = c.in_ok-bytes-in_default.ensures.part in
    let part : List ℕ = take size (drop len c.args.rest.bytes.now) in
    let fits : FitsSigned w64 k = search rules in
    let j : IsJoined c.args.kind e k part max old new = subst (λ (x : ℤ). IsJoined c.args.kind e x part max old new) (again w64 k fits) told in
    subst (λ n. GivesField (reader_of c.args.strict (term_behind (bounds c.args.limits) f (previous_at f.entry old) (Part k)))
    (take n c.args.rest.bytes.now) f From.Entry old new scratch piece) (sym all)
    (gives_vector c.args.strict (bounds c.args.limits) f old new scratch piece c.args.kind e k part is.kind (is.entry refl) c.requires.there j
    c.args.rest.bytes.now size len c.in_default.not-Ascii given within refl)
