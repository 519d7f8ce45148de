use Rattle.std.proofs.Common.{◌≡◌, refl, false, inl, inr}
use Rattle.std.proofs.lemmas.Bool.{cases_Bool, false≢true}
use Rattle.fast_notation.specs.device.Reading.{is_name}
use Rattle.fast_notation.proofs.texts.NameTests.{name_passes, passed_name}
use Rattle.fast_notation.proofs.keys.name_at.Goals as goal

pub returns-clause-name : goal.returns-clause-name
returns-clause-name c =
    let text = c.in_ok-name.ensures.text in
    let some = c.in-Some.is in
    let test = name_passes c.in-Some.name.now (c.if-not-is_name.ensures.name.0 refl) in
    rw (text, some, test) refl

pub returns-then-not-is_name-clause-shape : goal.returns-then-not-is_name-clause-shape
returns-then-not-is_name-clause-shape c _ =
    let text = c.in_ok-name.ensures.text in
    let some = c.in-Some.is in
    let test = elim (cases_Bool (is_name c.in-Some.name.now)) as (λ _. is_name c.in-Some.name.now ≡ false) [
      | inl passed ↦ absurd (false≢true (c.if-not-is_name.ensures.name.1 (passed_name c.in-Some.name.now passed)))
      | inr failed ↦ failed
    ] in
    rw (text, some, test) refl
