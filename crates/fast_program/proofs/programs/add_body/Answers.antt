use Rattle.std.proofs.Common.{refl, sym, ap, subst, ◌∙◌, arith, List, [], ◌∷◌, ◌++◌, take, length, ◌≡◌, ◌+◌, ℕ, false, Some, slice_get}
use Rattle.std.specs.Prelude.{slice_index}
use Rattle.std.proofs.lemmas.Option.{slice_get_read}
use Rattle.std.proofs.lemmas.List.{append_assoc, take_more, take_all}
use Rattle.fast_tree.specs.declared.instructions.Node.{Node}
use Rattle.fast_program.specs.declared.ops.Op.{Op}
use Rattle.fast_program.specs.device.Runs.{is_end, AreNumbered, Begins}
use Rattle.fast_program.specs.device.Programs.{SuitNodes}
use Rattle.fast_program.proofs.Claims.{no_end}
use Rattle.fast_program.proofs.Runs.{AreOps, one_more_op, closed, kept_run, numbered_more, suit_more, suit_end}
use Rattle.fast_program.proofs.programs.add_body.Goals as goal

pub loop-number-preserved : goal.loop-number-preserved
loop-number-preserved c =
    let (run, is, ops, suits, numbered) = c.loop-number.invariant in
    let ns : List Node = c.args.nodes.now in
    let body : List ℕ = c.args.body.now in
    let i = c.loop-number.number-index in
    let n = slice_index body i in
    let x : Node = c.index-nodes-number.result in
    let op : Op = c.of.result in
    let found : slice_get ns n ≡ Some x = slice_get_read ns (length ns) n x refl (c.requires.below i c.loop-number-test.true) c.index-nodes-number.is in
    let own : slice_get ns op.node ≡ Some x = ap (slice_get ns) c.of.ensures.is.0 ∙ found in
    let more : is_end op.code ≡ false = no_end op.code op.entry x.shape c.of.ensures.is.1 in
    let items = c.in_ok-push.ensures.items in
    let now : List Op = c.push.new.self.items in
    let grown : now ≡ c.args.ops.now.items ++ (run ++ op ∷ []) = items ∙ ap (λ os. os ++ op ∷ []) is ∙ append_assoc c.args.ops.now.items run (op ∷ []) in
    let upto : take (i + 1) body ≡ take i body ++ n ∷ [] = take_more body i 0 c.loop-number-test.true in (
      run ++ op ∷ [],
      grown,
      subst (AreOps (run ++ op ∷ [])) (sym upto) (one_more_op run (take i body) op n ops more c.of.ensures.is.0),
      λ s. subst (λ os. SuitNodes os ns) (sym items) (suit_more ns c.loop-number.ops.items op x (suits s) own (refl, c.of.ensures.is.1)),
      λ h. subst AreNumbered (sym items) (numbered_more c.loop-number.ops.items op (numbered h) (c.of.ensures.at ∙ c.in_ok-at.ensures)),
    )

pub returns-clause-begins : goal.returns-clause-begins
returns-clause-begins c =
    let (run, is, ops, suits, numbered) = c.loop-number.invariant in
    let old : List Op = c.args.ops.now.items in
    let body : List ℕ = c.args.body.now in
    let end : Op = c.end.result in
    let all : take c.loop-number.number-index body ≡ body = take_all c.loop-number.number-index body (omega (arith, c.loop-number-test.false)) in
    let items = c.in_ok-push-2.ensures.items ∙ ap (λ os. os ++ end ∷ []) is in
    let begins : Begins ((old ++ run) ++ end ∷ []) (length old) body = closed old run body end (subst (AreOps run) all ops) (ap is_end c.end.ensures.code) in
    subst (λ os. Begins os c.len-start.result body) (sym items)
    (subst (λ n. Begins ((old ++ run) ++ end ∷ []) n body) (sym c.args.ops.now.ok.0 ∙ sym c.len-start.ensures) begins)

pub returns-clause-extends : goal.returns-clause-extends
returns-clause-extends c =
    let (run, is, ops, suits, numbered) = c.loop-number.invariant in
    let ns : List Node = c.args.nodes.now in
    let old : List Op = c.args.ops.now.items in
    let end : Op = c.end.result in
    let items = c.in_ok-push-2.ensures.items in
    let behind = items ∙ ap (λ os. os ++ end ∷ []) is ∙ append_assoc old run (end ∷ []) in
    record {
      kept = λ at body b. subst (λ os. Begins os at body) (sym behind) (kept_run old (run ++ end ∷ []) at body b);
      suit = λ s. subst (λ os. SuitNodes os ns) (sym items) (suit_end ns c.loop-number.ops.items end (suits s) (ap is_end c.end.ensures.code));
      numbered = λ h. subst AreNumbered (sym items) (numbered_more c.loop-number.ops.items end (numbered h) (c.end.ensures.at ∙ c.in_ok-at-2.ensures));
    }
