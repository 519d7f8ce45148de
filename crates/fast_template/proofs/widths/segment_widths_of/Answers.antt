-- The numbers of a node's segment are of nodes, and each node has its bits once it has been looked at.
use Rattle.std.proofs.Common.{◌≡◌, ℕ, ◌+◌, List, [], ◌∷◌, Some, refl, sym, ap, subst, ◌∙◌, length, arith}
use Rattle.std.specs.Prelude.{slice_get}
use Rattle.std.proofs.lemmas.List.{length-append}
use Rattle.std.proofs.lemmas.Option.{slice_get_read}
use Rattle.std.proofs.lemmas.Result.{err_from_is_err_and}
use Rattle.fast_tree.specs.declared.instructions.Node.{Node}
use Rattle.fast_tree.specs.meaning.Tree.{bits_of}
use Rattle.fast_tree.specs.meaning.Numbers.{AreBelow, numbers_of}
use Rattle.fast_tree.specs.meaning.Nodes.{body_among}
use Rattle.fast_template.proofs.Growing.{none_yet, one_more, all_there}
use Rattle.fast_template.proofs.widths.segment_widths_of.Goals as goal

pub body_bits-requires-clause-within : goal.body_bits-requires-clause-within
body_bits-requires-clause-within c =
    let ns : List Node = c.args.nodes.now in
    let n : ℕ = c.loop-node.node-index in
    let v : Node = c.node-item.result in
    let at : slice_get ns n ≡ Some v = slice_get_read ns (length ns) n v refl c.loop-node-test.true c.node-item.is in
    subst (λ body. AreBelow (length ns) body) (sym c.body_of.ensures.numbers) (λ k h. (c.requires n v at k h).1)

pub loop-node-preserved : goal.loop-node-preserved
loop-node-preserved c =
    let ns : List Node = c.args.nodes.now in
    let n : ℕ = c.loop-node.node-index in
    let v : Node = c.node-item.result in
    let at : slice_get ns n ≡ Some v = slice_get_read ns (length ns) n v refl c.loop-node-test.true c.node-item.is in
    let before = c.loop-node.invariant in
    let more = c.in_ok-push.ensures.items in
    let bits : Node → ℕ = λ (x : Node). bits_of (body_among ns (numbers_of x.shape)) in
    record {
      long = ap length more ∙ length-append c.loop-node.widths.items (c.body_bits.result ∷ []) ∙ ap (λ len. len + 1) before.long;
      each = rw (more) (one_more bits ns c.loop-node.widths.items n c.body_bits.result v before.long before.each at
          (c.body_bits.ensures.bits ∙ ap (λ body. bits_of (body_among ns body)) c.body_of.ensures.numbers));
    }

pub body_bits-requires-clause-short : goal.body_bits-requires-clause-short
body_bits-requires-clause-short c = c.body_of.ensures.short

pub loop-node-init : goal.loop-node-init
loop-node-init c =
    let ns : List Node = c.args.nodes.now in
    record {
      long = ap length c.in_ok-widths.ensures.items;
      each = none_yet (λ (x : Node). bits_of (body_among ns (numbers_of x.shape))) ns c.in_ok-widths.widths.items;
    }

pub returns-in_err-widths : goal.returns-in_err-widths
returns-in_err-widths c = rw ((err_from_is_err_and c.from_residual.result c.from_residual.ensures.1).1) tt

pub returns-in_err-push : goal.returns-in_err-push
returns-in_err-push c = rw ((err_from_is_err_and c.from_residual-in_err-push.result c.from_residual-in_err-push.ensures.1).1) tt

pub returns : goal.returns
returns c =
    let ns : List Node = c.args.nodes.now in
    let before = c.loop-node.invariant in
    let end : c.loop-node.node-index ≡ length ns = omega arith in
    record {
      long = before.long ∙ end;
      each = all_there (λ (x : Node). bits_of (body_among ns (numbers_of x.shape))) ns
          c.loop-node.widths.items c.loop-node.node-index end before.each;
    }
