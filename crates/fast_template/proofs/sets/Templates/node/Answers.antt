use Rattle.std.proofs.Common.{◌≡◌, ◌<◌, List, refl, sym, subst, length, slice_get, Some}
use Rattle.std.proofs.lemmas.Option.{slice_get_read}
use Rattle.fast_tree.specs.declared.instructions.Node.{Node}
use Rattle.fast_tree.specs.meaning.NodeData.{shape_data}
use Rattle.fast_template.proofs.UsableFields.{usable_shape}
use Rattle.fast_template.proofs.sets.Templates.node.Goals as goal

pub returns-clause-usable : goal.returns-clause-usable
returns-clause-usable c =
    let ns : List Node = c.args.self.now.nodes.items in
    let v : Node = c.index.result.now in
    let at : slice_get ns c.args.n ≡ Some v = slice_get_read ns (length ns) c.args.n v refl c.requires c.index.ensures in
    usable_shape c.args.self.now.entries (shape_data v.shape) (c.args.self.now.nodes_usable c.args.n v at)

pub index-requires : goal.index-requires
index-requires c = subst (λ k. c.args.n < k) (sym c.args.self.now.nodes.ok.0) c.requires

pub returns-clause-found : goal.returns-clause-found
returns-clause-found c =
    let ns : List Node = c.args.self.now.nodes.items in
    slice_get_read ns (length ns) c.args.n c.index.result.now refl c.requires c.index.ensures

pub returns-clause-body : goal.returns-clause-body
returns-clause-body c =
    let ns : List Node = c.args.self.now.nodes.items in
    c.args.self.now.nodes_name_later_nodes c.args.n c.index.result.now
    (slice_get_read ns (length ns) c.args.n c.index.result.now refl c.requires c.index.ensures)
