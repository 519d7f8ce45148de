use Rattle.std.proofs.Common.{◌≡◌, ◌≤◌, ◌<◌, ap, sym, ◌∙◌, arith, subst, length}
use Rattle.std.proofs.lemmas.List.{length-map}
use Rattle.fast_template.specs.meaning.Flat.{nodes_of, templates_of, instructions_from, template_data, tree_of}
use Rattle.fast_text.proofs.Writing.{writes_both, writes_none, writes_same}
use Rattle.fast_command.proofs.Lists.{found_at, found_mapped, lines_next, lines_end}
use Rattle.fast_command.proofs.list.put_templates.Goals as goal

pub loop-number-preserved : goal.loop-number-preserved
loop-number-preserved g c end rest =
    let set = c.args.templates.now in
    let n = c.loop-number.number in
    let inside : n < length (templates_of set) = subst (λ m. n < m) c.count-number-end.ensures c.loop-number-test.true in
    let t = found_at (templates_of set) n inside in
    let made = template_data (instructions_from 0 (nodes_of set)) in
    let next = lines_next n (tree_of set).templates (made t.0) (found_mapped made (templates_of set) n t.0 t.1) in
    c.loop-number.invariant end (writes_same (sym next) (writes_both (c.put_template.ensures t.0 t.1) rest))

pub returns : goal.returns
returns g c =
    let set = c.args.templates.now in
    let n = c.loop-number.number in
    let long = length-map (templates_of set) (template_data (instructions_from 0 (nodes_of set))) in
    let past : length (tree_of set).templates ≤ n = omega (arith, long, c.count-number-end.ensures, c.loop-number-test.false) in
    c.loop-number.invariant c.loop-number.line (writes_same (sym (lines_end n n (tree_of set).templates past))
    (writes_none g.T.Target.written g.T.Target.has_failed c.loop-number.line))
