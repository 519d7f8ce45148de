use Rattle.std.proofs.Common.{ℕ, ◌≡◌, ◌∙◌, ◌+◌, ◌<◌, [], ◌∷◌, ◌++◌, List, length, length-append, ap, sym, refl, add-zero, append-nil, arith}
use Rattle.fast_rows.specs.meaning.Rows.{More, bytes_in}
use Rattle.fast_text.proofs.Writing.{writes_both, writes_none}
use Rattle.fast_rows.proofs.InRows.{more_row, more_bytes, more_lines, more_place}
use Rattle.std.proofs.lemmas.Grind.{common_steps}
use Rattle.fast_rows.proofs.rows.put_rows.Goals as goal

pub loop-rest-init : goal.loop-rest-init
loop-rest-init g c = record { few = refl; so_far = λ t. ([], refl, refl, sym (add-zero c.args.start), writes_none _ _ _) }

pub loop-rest-preserved : goal.loop-rest-preserved
loop-rest-preserved g c =
    let i = c.loop-rest.invariant in
    let row = c.first_row.result.0.now in
    let others = c.first_row.result.1.now in
    let all = length-append row others in
    let same = ap length c.first_row.ensures.all in
    record {
      few = omega (arith, i.few, all, same);
      so_far = λ t.
          let h = i.so_far t in (
            h.0 ++ More row ∷ [],
            more_bytes h.0 row others _ _ c.first_row.ensures.all h.1,
            more_lines h.0 row h.2,
            more_place h.0 row _ _ h.3,
            more_row t _ _ h.0 row h.3 h.4 (writes_both c.put_cells.ensures c.put.ensures),
          );
    }

pub returns : goal.returns
returns g c t =
    let h = c.loop-rest.invariant.so_far t in
    let none : c.loop-rest.rest.now ≡ [] = grind (arith, common_steps) in
    (h.0, sym (append-nil (bytes_in h.0)) ∙ sym (ap (λ (xs : List ℕ). bytes_in h.0 ++ xs) none) ∙ h.1, h.2, h.4)
