-- Nothing is appended where none is carried: all of the rest is at hand. Else as much is appended as there is room for.
use Rattle.std.proofs.Common.{sym, ap, ◌∙◌, subst, arith}
use Rattle.std.proofs.lemmas.List.{take_all}
use Rattle.std.specs.Prelude.{◌≡◌, ◌++◌, List, ℕ, length, take}
use Rattle.fast_fields.specs.device.Carries.{at_hand}
use Rattle.fast_fields.proofs.Carries.{none_held, hand_more}
use Rattle.fast_fields.proofs.carry.Carry.take_up.Goals as goal

pub returns-then-is_empty-clause-joined : goal.returns-then-is_empty-clause-joined
returns-then-is_empty-clause-joined c =
    let rest = c.args.rest.now in (
      length rest,
      subst (λ (w : List ℕ). at_hand w rest ≡ w ++ take (length rest) rest) (sym (none_held c.args.self.now.bytes.text c.if-is_empty.ensures))
          (sym (take_all (length rest) rest (omega arith))),
      omega arith,
    )

pub returns-clause-joined : goal.returns-clause-joined
returns-clause-joined c =
    let rest = c.args.rest.now in
    let front = c.args.self.now.bytes.text in
    let room = c.room.ensures in
    let least = c.min-count.ensures in (
      c.min-count.result,
      ap (λ w. at_hand w rest) c.keep.ensures.text ∙ hand_more front (take c.min-count.result rest) rest c.if-is_empty.ensures,
      omega (arith, room, least),
    )
