-- The map stands in front of the segment's bytes, or there is none.
use Rattle.std.proofs.Common.{[], ap, sym, subst, ◌∙◌}
use Rattle.std.specs.Prelude.{Bool, drop}
use Rattle.std.proofs.lemmas.List.{take-append-drop}
use mathlib.Core.List.{not-mem-nil}
use Rattle.fast_spelling.specs.meaning.Encoding.{ShortestMap}
use Rattle.fast_spelling.specs.declared.draft.Draft.{Draft}
use Rattle.fast_spelling.proofs.bytes.Bits.{closes_without}
use Rattle.fast_spelling.proofs.draft.Draft.close.Goals as goal
use Rattle.fast_spelling.proofs.draft.Draft.close.Goals.{then-has_map+in_ok-put_map, else-has_map}

pub returns-clause-ok : goal.returns-clause-ok
returns-clause-ok c = elim c.if-has_map.branch [
  | then-has_map+in_ok-put_map w ↦
      let k = w.in_ok-put_map.ensures.ok in (
        k.0,
        subst (λ (h : Bool). ShortestMap h (drop c.args.mark.bits c.args.self.now.bits) k.0) (sym w.if-has_map.true) k.1,
        ap (λ (d : Draft). d.bytes.items) w.self-is ∙ k.2,
      )
  | else-has_map w ↦ (
    [],
    closes_without c.args.has_map (drop c.args.mark.bits c.args.self.now.bits) w.if-has_map.false,
    ap (λ (d : Draft). d.bytes.items) w.self-is ∙ sym (take-append-drop c.args.mark.bytes c.args.self.now.bytes.items),
  )
]

pub put_map-requires : goal.put_map-requires
put_map-requires c = record { place = c.requires.bytes; bits = c.requires.bits }

pub branch-put_map-requires : goal.branch-put_map-requires
branch-put_map-requires c κs = (λ a m. absurd (not-mem-nil m), λ a m. absurd (not-mem-nil m))

pub from_residual-requires : goal.from_residual-requires
from_residual-requires c κs = (λ a m. absurd (not-mem-nil m), (λ a m. absurd (not-mem-nil m), λ a m. absurd (not-mem-nil m)))
