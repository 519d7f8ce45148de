-- Each kind of node says whether it may be absent, and the node that is looked at is the one that the contract speaks of.
use Rattle.std.proofs.Common.{◌≡◌, ℕ, List, Some, refl, length, subst}
use Rattle.std.specs.Prelude.{Bool, slice_get}
use Rattle.std.proofs.lemmas.Option.{slice_get_read}
use Rattle.fast_tree.specs.declared.instructions.Node.{Node}
use Rattle.fast_template.specs.meaning.Presence.{may_be_absent}
use Rattle.fast_template.proofs.sets.Templates.is_optional.Goals as goal

-- what is known of the node that is looked at is known of the one that stands there
of_node : (ns : List Node) (n : ℕ) (here : Node) (b : Bool) → slice_get ns n ≡ Some here → b ≡ may_be_absent here.shape → (v : Node)
    → slice_get ns n ≡ Some v → b ≡ may_be_absent v.shape
of_node ns n here b at is v e = let same : here ≡ v = cc in subst (λ x. b ≡ may_be_absent x.shape) same is

pub returns-in-Field : goal.returns-in-Field
returns-in-Field c =
    let ns : List Node = c.args.self.now.nodes.items in
    of_node ns c.args.n c.index.result.now c.in-Field.field.optional
    (slice_get_read ns (length ns) c.args.n c.index.result.now refl c.requires c.index.ensures) (rw (c.in-Field.is) refl)

pub returns-in-Decimal : goal.returns-in-Decimal
returns-in-Decimal c =
    let ns : List Node = c.args.self.now.nodes.items in
    of_node ns c.args.n c.index.result.now c.in-Decimal.exponent.optional
    (slice_get_read ns (length ns) c.args.n c.index.result.now refl c.requires c.index.ensures) (rw (c.in-Decimal.is) refl)

pub returns-in-Group : goal.returns-in-Group
returns-in-Group c =
    let ns : List Node = c.args.self.now.nodes.items in
    of_node ns c.args.n c.index.result.now c.in-Group.optional
    (slice_get_read ns (length ns) c.args.n c.index.result.now refl c.requires c.index.ensures) (rw (c.in-Group.is) refl)

pub returns-in-Sequence : goal.returns-in-Sequence
returns-in-Sequence c =
    let ns : List Node = c.args.self.now.nodes.items in
    of_node ns c.args.n c.index.result.now c.in-Sequence.length.optional
    (slice_get_read ns (length ns) c.args.n c.index.result.now refl c.requires c.index.ensures) (rw (c.in-Sequence.is) refl)
