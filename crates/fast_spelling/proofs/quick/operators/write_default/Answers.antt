-- The initial value is not sent.
use Rattle.std.proofs.Common.{ℕ, [], ◌∷◌, refl, sym, subst, ◌∙◌}
use Rattle.std.specs.Prelude.{false, Some}
use Rattle.std.proofs.lemmas.List.{append-nil}
use mathlib.Core.List.{not-mem-nil}
use Rattle.fast_value.specs.meaning.Values.{scalar_data}
use Rattle.fast_tree.specs.meaning.Nodes.{field_data}
use Rattle.fast_spelling.specs.device.Places.{field_there}
use Rattle.fast_spelling.specs.device.Fields.{IsSuited}
use Rattle.fast_spelling.proofs.rules.Usual.{default_passed}
use Rattle.fast_spelling.proofs.quick.operators.write_default.Goals as goal

pub returns-then-is_initial-clause-ok : goal.returns-then-is_initial-clause-ok
returns-then-is_initial-clause-ok c = λ l same.
    let f = field_data (field_there c.args.at.place) in
    let v = scalar_data c.args.value in (
      false ∷ [],
      [],
      c.in_ok-push_bit.ensures.bits,
      c.push_bit.ensures.bytes ∙ sym (append-nil c.args.draft.now.bytes.items),
      default_passed l f c.args.ledger.now.now v c.requires.operator c.requires.served.usable.tail
          (subst (λ (m : ℕ). IsSuited m f (Some v)) (sym same) c.requires.suited) (c.if-is_initial.ensures.0 refl),
    )

pub branch-push_bit-requires : goal.branch-push_bit-requires
branch-push_bit-requires c κs = (λ a m. absurd (not-mem-nil m), λ a m. absurd (not-mem-nil m))

pub from_residual-requires : goal.from_residual-requires
from_residual-requires c κs = (λ a m. absurd (not-mem-nil m), (λ a m. absurd (not-mem-nil m), λ a m. absurd (not-mem-nil m)))
