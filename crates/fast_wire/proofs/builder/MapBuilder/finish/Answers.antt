use Rattle.std.proofs.Common.{◌≡◌, true, false, get_or, ap, sym, subst, ◌∙◌}
use Rattle.fast_wire.specs.meaning.Maps.{bits, IsMap}
use Rattle.fast_wire.proofs.map_bits.Finishing.{finished, pushed, finished_map, finished_bits}
use Rattle.fast_wire.proofs.builder.MapBuilder.finish.Goals as goal

-- what the loop and the last push leave
items_are : (c : goal.After-push-2) → c.push-2.new.self.items ≡ finished c.self.inside.cells c.self.inside.len c.self.invariant
items_are c = pushed c.self.inside.cells c.self.inside.len c.self.invariant c.loop-byte.map.items c.push-2.new.self.items
    c.loop-byte.byte-index c.loop-byte.invariant c.loop-byte-test.false c.push-2.ensures.items

pub returns-clause-map : goal.returns-clause-map
returns-clause-map c = subst (λ w. IsMap true w) (sym (items_are c)) (finished_map c.self.inside.cells c.self.inside.len c.self.invariant)

pub returns-clause-bits : goal.returns-clause-bits
returns-clause-bits c = λ i.
    ap (λ w. get_or (bits w) i false) (items_are c) ∙ finished_bits c.self.inside.cells c.self.inside.len c.self.invariant i
    ∙ ap (λ w. get_or w i false) c.self.view_is
