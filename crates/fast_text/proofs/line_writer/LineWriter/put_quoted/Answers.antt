use Rattle.std.proofs.Common.{arith, ◌≡◌, [], ◌∷◌, ◌++◌, append-nil, sym, flat_map, take}
use Rattle.std.proofs.lemmas.Grind.{common_steps}
use Rattle.fast_lines.specs.meaning.Lines.{escaped}
use Rattle.fast_text.proofs.Writing.{writes_both, writes_more, writes_same, plain_text}
use Rattle.fast_text.proofs.line_writer.LineWriter.put_quoted.Goals as goal

pub loop-rest-preserved-in-Some : goal.loop-rest-preserved-in-Some
loop-rest-preserved-in-Some g c =
    let i = c.loop-rest.invariant in
    let plain = c.split_at.result.0.now in
    let as_it_is : flat_map escaped plain ≡ plain = rw c.split_at.ensures.front
    (plain_text escaped (take c.plain_len.result c.loop-rest.rest.now) c.plain_len.ensures.plain) in
    let first = writes_more (0x22 ∷ []) escaped i.0 plain i.2 (writes_same (sym as_it_is) c.put-in-loop-rest.ensures) in (
      (i.0 ++ plain) ++ c.in-Some.byte.now ∷ [],
      grind (arith, common_steps, i.1),
      writes_more (0x22 ∷ []) escaped (i.0 ++ plain) (c.in-Some.byte.now ∷ []) first
          (writes_same (sym (append-nil (escaped c.in-Some.byte.now))) c.put_escaped.ensures),
    )

pub loop-rest-preserved : goal.loop-rest-preserved
loop-rest-preserved g c =
    let i = c.loop-rest.invariant in
    let plain = c.split_at.result.0.now in
    let as_it_is : flat_map escaped plain ≡ plain = rw c.split_at.ensures.front
    (plain_text escaped (take c.plain_len.result c.loop-rest.rest.now) c.plain_len.ensures.plain) in
    (i.0 ++ plain, grind (arith, common_steps, i.1), writes_more (0x22 ∷ []) escaped i.0 plain i.2 (writes_same (sym as_it_is) c.put-in-loop-rest.ensures))

pub returns : goal.returns
returns g c =
    let i = c.loop-rest.invariant in
    writes_same (grind (arith, common_steps, i.1)) (writes_both i.2 c.put-2.ensures)
