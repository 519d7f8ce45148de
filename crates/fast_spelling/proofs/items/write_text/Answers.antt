-- The size, and then the bytes.
use Rattle.std.proofs.Common.{◌++◌, List, ℕ, ◌∙◌, ap, append_assoc}
use Rattle.fast_spelling.proofs.bytes.Spelling.{sized_spelled, part_short}
use Rattle.fast_spelling.proofs.items.write_text.Goals as goal

pub returns-in_ok-extend_from_slice-in_default : goal.returns-in_ok-extend_from_slice-in_default
returns-in_ok-extend_from_slice-in_default c =
    let h = c.in_ok-write_unsigned_as-in_default.ensures in
    let t : List ℕ = c.args.text.now in
    record {
      ok = (
        h.0 ++ t,
        c.in_ok-extend_from_slice-in_default.ensures.items ∙ ap (λ (w : List ℕ). w ++ t) h.1 ∙ append_assoc c.args.bytes.now.items h.0 t,
        sized_spelled c.args.kind c.args.nullable t h.0 c.in_default.not-Ascii (part_short c.args.kind t c.requires) h.2,
      );
      err = tt;
    }
