use Rattle.std.proofs.Common.{◌≡◌, ◌∙◌, ◌++◌, ap, arith, length, take, drop}
use Rattle.std.specs.Prelude.{slice_index_or, false}
use Rattle.fast_template.specs.meaning.Flat.{nodes_of}
use Rattle.fast_dict.specs.meaning.EntryTexts.{HoldsTextAt}
use Rattle.fast_machine.proofs.fields.EntryTexts.{field_more, field_of_all, marked_more, written_back}
use Rattle.fast_machine.proofs.layout.text_marks.Goals as goal

pub loop-n-preserved : goal.loop-n-preserved
loop-n-preserved c =
    let nodes = nodes_of c.args.templates.now in
    let kept : take c.loop-n.marks.len (c.mark_node.new.marks ++ drop (length c.mark_node.new.marks) c.loop-n.marks.items) ≡ c.mark_node.new.marks =
    written_back c.loop-n.marks.len c.mark_node.new.marks c.loop-n.marks.items c.loop-n.marks.ok.0
    (c.mark_node.ensures.long ∙ ap length c.deref_mut.ensures.value) in
    let old : c.deref_mut.result.now ≡ c.loop-n.marks.items = c.deref_mut.ensures.value in
    rw kept (record {
      long = c.mark_node.ensures.long ∙ ap length old ∙ c.loop-n.invariant.long;
      marked = λ e. marked_more (slice_index_or c.deref_mut.result.now e false) (slice_index_or c.mark_node.new.marks e false)
          (rw old (c.loop-n.invariant.marked e)) (c.mark_node.ensures.marked e)
          (field_more (HoldsTextAt e) nodes c.loop-n.n c.node.result.now c.node.ensures.found);
    })

pub returns-clause-marked : goal.returns-clause-marked
returns-clause-marked c e =
    let all = field_of_all (HoldsTextAt e) (nodes_of c.args.templates.now) c.loop-n.n (omega (arith, c.loop-n-test.false, c.nodes-n-end.ensures.number)) in
    let marked = c.loop-n.invariant.marked e in
    (λ yes. all.0 (marked.0 yes), λ needs. marked.1 (all.1 needs))
