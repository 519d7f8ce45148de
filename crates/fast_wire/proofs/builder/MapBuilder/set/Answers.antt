use Rattle.std.proofs.Common.{◌%◌, ◌/◌, ◌^◌, ◌<◌, ap, sym, ◌∙◌, subst, length, get_or, set, arith}
use Rattle.std.specs.Prelude.{true, bit_or}
use Rattle.fast_wire.specs.meaning.Maps.{IsBuilt}
use Rattle.fast_wire.proofs.map_bits.Building.{bit_set, some_bit, built_more}
use Rattle.fast_wire.proofs.builder.MapBuilder.set.Goals as goal

pub invariant_of-self : goal.invariant_of-self
invariant_of-self c =
    let cells = c.self.inside.cells in
    let q = c.args.i / 7 in
    let m = 64 / 2 ^ (c.args.i % 7) in
    let s = some_bit (c.args.i % 7) (omega arith) in
    subst (λ n. IsBuilt (set cells q (bit_or (get_or cells q 0) m)) n) (sym c.max-self-inside.ensures)
    (built_more cells c.self.inside.len q m c.self.invariant (omega (arith, c.requires)) s.0 s.1)

pub returns : goal.returns
returns c =
    let l : c.args.i / 7 < length c.self.inside.cells = omega (arith, c.self.invariant.count) in
    bit_set c.self.inside.cells c.args.i l ∙ ap (λ w. set w c.args.i true) c.self.view_is
