-- One unit behind the other, or NULL.
use Rattle.std.proofs.Common.{refl, sym, subst, ap, ◌∙◌, rules, to_z, of_z, FitsSigned}
use Rattle.std.specs.Int.{w32, w64}
use Rattle.std.specs.Prelude.{ℕ, false, Some}
use Rattle.std.proofs.lemmas.List.{take_rest}
use Rattle.fast_fronts.specs.device.Fronts.{IsFirstInt}
use Rattle.fast_fronts.specs.declared.fronts.First.TheVariants.{Whole}
use Rattle.fast_wire.specs.meaning.Integers.{exponent_range, signed_range}
use Rattle.fast_value.specs.declared.codes.Code.TheVariants.{R1}
use Rattle.fast_value.specs.meaning.Kinds.{Dec}
use Rattle.fast_dict.specs.meaning.Operators.{value}
use Rattle.fast_stream.specs.meaning.Grammar.{give, integer}
use Rattle.fast_stream.specs.meaning.Fields.{decimal_from, sent_decimal}
use Rattle.fast_stream.specs.device.Readers.{Done}
use Rattle.fast_stream.specs.device.GrammarReaders.{reader_of}
use Rattle.fast_units.proofs.Turning.{turns_as, term_turns}
use Rattle.fast_units.proofs.LastUnits.{again}
use Rattle.fast_units.proofs.NextUnits.{first_whole}
use Rattle.fast_items.proofs.DecimalItems.{two_units}
use Rattle.fast_items.proofs.decimal_items.whole_decimal.Goals as goal

pub returns-in_ok-mantissa-in-Some : goal.returns-in_ok-mantissa-in-Some
returns-in_ok-mantissa-in-Some c =
    let s = c.args.strict in
    let rest = c.args.rest.bytes.now in
    let r = reader_of s (integer exponent_range c.args.optional R1 decimal_from) in
    let e = c.in-Some.exponent in
    let m = c.in_ok-mantissa-in-Some.mantissa in
    let a : ℕ = 1 in
    let b = c.in_ok-mantissa-in-Some.bytes in
    let exponent_fits : FitsSigned w32 e = search rules in
    let mantissa_fits : FitsSigned w64 m = search rules in
    let second = subst (λ w. IsFirstInt (λ z. Some z) s (signed_range 63) false (Whole m b) w) (c.skip.ensures ∙ sym (take_rest rest 1))
    c.in_ok-mantissa-in-Some.ensures in
    let (some, within, t) = two_units s r exponent_range (signed_range 63) c.args.optional R1 R1 decimal_from
    (λ x. give (sent_decimal e x)) rest c.in_ok-item.item (Some m) a b
    refl (ap (λ x. reader_of s (decimal_from x)) c.in-Some.is) (c.in_ok-item.ensures c.args.strict) second in (
      some,
      within,
      turns_as refl (ap (λ x. Done (value (Dec x (to_z w64 (of_z w64 m))))) (again w32 e exponent_fits)
          ∙ ap (λ y. Done (value (Dec e y))) (again w64 m mantissa_fits)) t,
    )

pub returns-in-None : goal.returns-in-None
returns-in-None c =
    let s = c.args.strict in
    let g = integer exponent_range c.args.optional R1 give in
    let (some, within, t) = first_whole (λ x. x) s exponent_range c.args.optional R1 c.args.rest.bytes.now c.in_ok-item.item 1
    (c.in_ok-item.ensures c.args.strict) in
    (some, within, turns_as refl (sym (ap (λ x. reader_of s (decimal_from x)) c.in-None.is)) (term_turns s g decimal_from t))

pub skip-requires : goal.skip-requires
skip-requires c = (c.in_ok-item.ensures c.args.strict).0
