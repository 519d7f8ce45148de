-- By its sign.
use Rattle.std.proofs.Common.{◌≡◌, ◌∙◌, sym, subst, rules}
use Rattle.std.specs.Prelude.{ℤ, true, pos, negsuc, Some}
use Rattle.std.specs.Int.{w64}
use Rattle.std.proofs.lemmas.Int.{to_z-of_z}
use Rattle.fast_wire.specs.meaning.Shortest.{IsShortest}
use Rattle.fast_spelling.proofs.bytes.Spelling.{on_ok}
use Rattle.fast_spelling.proofs.integers.write_narrow_as.Goals as goal

pub returns-then-number-lt0 : goal.returns-then-number-lt0
returns-then-number-lt0 c =
    let is : c.args.number ≡ negsuc c.complement_in.result = sym (to_z-of_z w64 c.args.number (search rules)) ∙ c.complement_in.ensures in
    on_ok c.write_negative.result c.write_negative.ensures (λ h. (h.0, h.1, subst (λ (x : ℤ). IsShortest true c.args.nullable (Some x) h.0) (sym is) h.2))

pub returns : goal.returns
returns c =
    let is : c.args.number ≡ pos c.natural_in.result = sym (to_z-of_z w64 c.args.number (search rules)) ∙ c.natural_in.ensures in
    on_ok c.write_natural.result c.write_natural.ensures (λ h. (h.0, h.1, subst (λ (x : ℤ). IsShortest true c.args.nullable (Some x) h.0) (sym is) h.2))
