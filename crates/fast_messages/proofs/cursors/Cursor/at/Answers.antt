use Rattle.std.proofs.Common.{◌≡◌, ◌≤◌, ◌∷◌, ◌++◌, refl, ap, arith, subst, sym}
use Rattle.std.proofs.lemmas.Result.{err_from_is_err_and}
use Rattle.fast_messages.specs.device.Ahead.{IsAtText, HasNoLines}
use Rattle.fast_messages.specs.meaning.Reading.{closed, feeds, OnBadLine}
use Rattle.fast_messages.proofs.texts.Feeds.{feeds_line}
use Rattle.fast_messages.proofs.refusals.NoLines.{no_form, bad_value, one_line}
use Rattle.fast_messages.proofs.readings.Said.{at_text}
use Rattle.fast_messages.proofs.values.Told.{told, untold}
use Rattle.fast_messages.proofs.cursors.Cursor.at.Goals as goal

pub returns-in_default-clause-line : goal.returns-in_default-clause-line
returns-in_default-clause-line c =
    let all : feeds (closed c.args.text.now) ≡ feeds (c.first_line.result.0.now ++ 0x0A ∷ closed c.first_line.result.1.now) =
    ap feeds c.first_line.ensures.parts in
    let some = feeds_line c.first_line.result.0.now (closed c.first_line.result.1.now) in
    (refl, omega (arith, all, some))

pub returns-in_err-value-clause-line : goal.returns-in_err-value-clause-line
returns-in_err-value-clause-line c =
    let all : feeds (closed c.args.text.now) ≡ feeds (c.first_line.result.0.now ++ 0x0A ∷ closed c.first_line.result.1.now) =
    ap feeds c.first_line.ensures.parts in
    let more = feeds_line c.first_line.result.0.now (closed c.first_line.result.1.now) in
    let some : 1 ≤ feeds (closed c.args.text.now) = omega (arith, all, more) in
    let p = err_from_is_err_and c.from_residual.result c.from_residual.ensures.1 in
    rw p.1 (subst (IsAtText c.args.number (closed c.args.text.now)) (sym p.2)
    (at_text c.args.number (closed c.args.text.now) c.in_err-value.field-0.0 some c.in_err-value.ensures.line))

pub returns-in_default-clause-refused : goal.returns-in_default-clause-refused
returns-in_default-clause-refused c = no_form c.args.text.now c.first_line.result.0.now c.first_line.result.1.now
    c.first_line.ensures.parts c.first_line.ensures.line c.in_default.ensures.none

pub returns-in_err-value-clause-refused : goal.returns-in_err-value-clause-refused
returns-in_err-value-clause-refused c =
    let p = err_from_is_err_and c.from_residual.result c.from_residual.ensures.1 in
    rw p.1 (subst (OnBadLine (HasNoLines (closed c.args.text.now))) (sym p.2)
    (bad_value c.args.text.now c.first_line.result.0.now c.first_line.result.1.now c.in-Some.line c.in_err-value.field-0.0
    c.first_line.ensures.parts c.first_line.ensures.line c.in-Some.ensures.line c.in-Some.ensures.form c.in_err-value.ensures.refused))

pub invariant_of-result-2 : goal.invariant_of-result-2
invariant_of-result-2 c = record {
  told = told c.in-Some.line c.in_ok-value.value c.in_ok-value.ensures.value;
  untold = untold c.in-Some.line c.in_ok-value.value c.in_ok-value.ensures.value;
  one_line = one_line c.first_line.result.0.now c.in-Some.line c.in-Some.ensures.line c.first_line.ensures.line;
  formed = ∣ c.in-Some.ensures.form ∣₁;
  utf8 = λ known. ∣ (c.first_line.ensures.utf8 (c.requires known)).1 ∣₁;
}
