-- The test of the decoder, as a proposition.
use Rattle.std.proofs.Common.{◌≡◌, ◌∙◌, sym, List, ℕ}
use Rattle.std.specs.Prelude.{Bool, ◌↔◌, IsTrue, IsUtf8}
use Rattle.std.specs.Str.{is_utf8}
use Rattle.std.proofs.lemmas.Str.{is_utf8-from_IsUtf8, IsUtf8-from_is_utf8}
use Rattle.fast_spelling.proofs.suiting.is_utf8.Goals as goal

told : (r : Bool) (t : List ℕ) → r ≡ is_utf8 t → IsTrue r ↔ IsUtf8 t
told r t e = (λ h. IsUtf8-from_is_utf8 t (sym e ∙ h), λ u. e ∙ is_utf8-from_IsUtf8 t u)

pub returns : goal.returns
returns c = told c.is_utf8.result c.args.text.now c.is_utf8.ensures
