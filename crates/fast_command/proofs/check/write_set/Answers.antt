use Rattle.std.proofs.Common.{◌≡◌, ◌∙◌, rules, ap, sym, codes, length}
use Rattle.std.proofs.lemmas.List.{length-map}
use Rattle.fast_template.specs.meaning.Flat.{template_data, instructions_from, templates_of, nodes_of}
use Rattle.fast_text.proofs.Writing.{writes_both, writes_same}
use Rattle.fast_command.specs.meaning.Checking.{number_line}
use Rattle.fast_command.proofs.Parts.{is_put}
use Rattle.fast_command.proofs.SetLines.{labels_count}
use Rattle.fast_command.proofs.check.write_set.Goals as goal

pub returns-clause-written : goal.returns-clause-written
returns-clause-written g c =
    let t = c.args.templates.now in
    let templates = writes_same (ap (number_line (codes "templates"))
    (c.from.ensures ∙ c.count.ensures ∙ sym (length-map (templates_of t) (template_data (instructions_from 0 (nodes_of t))))))
    c.put_number.ensures in
    let nodes = writes_same (ap (number_line (codes "nodes"))
    (c.from-2.ensures ∙ c.nodes.ensures.number ∙ sym (ap length c.nodes.ensures.preorder ∙ labels_count 0 (nodes_of t))))
    c.put_number-2.ensures in
    let entries = writes_same (ap (number_line (codes "entries")) (c.from-3.ensures ∙ c.entries.ensures.number)) c.put_number-3.ensures in
    let depth = writes_same (ap (number_line (codes "depth")) (c.from-4.ensures ∙ c.depth.ensures.greatest)) c.put_number-4.ensures in
    let cap = writes_same (ap (number_line (codes "cap")) c.message_cap.ensures) c.put_number-5.ensures in
    let all = writes_both (writes_both (writes_both (writes_both templates nodes) entries) depth) cap in
    let same = c.finish.ensures.same_target ∙ all.same_target ∙ c.new-line.ensures.same_target in
    let whole = λ (ended : g.row.T.Denot) (e : ended ≡ c.finish.new.self.target.now).
    (is_put c.args.target.now ended c.finish.result c.new-line.ensures.as_it_is e c.new-line.ensures.fresh all
    c.finish.ensures).whole in
    whole _ (search (rules, same))

pub returns-clause-part : goal.returns-clause-part
returns-clause-part g c =
    let t = c.args.templates.now in
    let templates = writes_same (ap (number_line (codes "templates"))
    (c.from.ensures ∙ c.count.ensures ∙ sym (length-map (templates_of t) (template_data (instructions_from 0 (nodes_of t))))))
    c.put_number.ensures in
    let nodes = writes_same (ap (number_line (codes "nodes"))
    (c.from-2.ensures ∙ c.nodes.ensures.number ∙ sym (ap length c.nodes.ensures.preorder ∙ labels_count 0 (nodes_of t))))
    c.put_number-2.ensures in
    let entries = writes_same (ap (number_line (codes "entries")) (c.from-3.ensures ∙ c.entries.ensures.number)) c.put_number-3.ensures in
    let depth = writes_same (ap (number_line (codes "depth")) (c.from-4.ensures ∙ c.depth.ensures.greatest)) c.put_number-4.ensures in
    let cap = writes_same (ap (number_line (codes "cap")) c.message_cap.ensures) c.put_number-5.ensures in
    let all = writes_both (writes_both (writes_both (writes_both templates nodes) entries) depth) cap in
    let same = c.finish.ensures.same_target ∙ all.same_target ∙ c.new-line.ensures.same_target in
    let part = λ (ended : g.row.T.Denot) (e : ended ≡ c.finish.new.self.target.now).
    (is_put c.args.target.now ended c.finish.result c.new-line.ensures.as_it_is e c.new-line.ensures.fresh all c.finish.ensures).part in
    part _ (search (rules, same))

pub returns-clause-fails : goal.returns-clause-fails
returns-clause-fails g c =
    let t = c.args.templates.now in
    let templates = writes_same (ap (number_line (codes "templates"))
    (c.from.ensures ∙ c.count.ensures ∙ sym (length-map (templates_of t) (template_data (instructions_from 0 (nodes_of t))))))
    c.put_number.ensures in
    let nodes = writes_same (ap (number_line (codes "nodes"))
    (c.from-2.ensures ∙ c.nodes.ensures.number ∙ sym (ap length c.nodes.ensures.preorder ∙ labels_count 0 (nodes_of t))))
    c.put_number-2.ensures in
    let entries = writes_same (ap (number_line (codes "entries")) (c.from-3.ensures ∙ c.entries.ensures.number)) c.put_number-3.ensures in
    let depth = writes_same (ap (number_line (codes "depth")) (c.from-4.ensures ∙ c.depth.ensures.greatest)) c.put_number-4.ensures in
    let cap = writes_same (ap (number_line (codes "cap")) c.message_cap.ensures) c.put_number-5.ensures in
    let all = writes_both (writes_both (writes_both (writes_both templates nodes) entries) depth) cap in
    let same = c.finish.ensures.same_target ∙ all.same_target ∙ c.new-line.ensures.same_target in
    let fails = λ (ended : g.row.T.Denot) (e : ended ≡ c.finish.new.self.target.now).
    (is_put c.args.target.now ended c.finish.result c.new-line.ensures.as_it_is e c.new-line.ensures.fresh all
    c.finish.ensures).fails in
    fails _ (search (rules, same))

pub returns-clause-stays : goal.returns-clause-stays
returns-clause-stays g c =
    let t = c.args.templates.now in
    let templates = writes_same (ap (number_line (codes "templates"))
    (c.from.ensures ∙ c.count.ensures ∙ sym (length-map (templates_of t) (template_data (instructions_from 0 (nodes_of t))))))
    c.put_number.ensures in
    let nodes = writes_same (ap (number_line (codes "nodes"))
    (c.from-2.ensures ∙ c.nodes.ensures.number ∙ sym (ap length c.nodes.ensures.preorder ∙ labels_count 0 (nodes_of t))))
    c.put_number-2.ensures in
    let entries = writes_same (ap (number_line (codes "entries")) (c.from-3.ensures ∙ c.entries.ensures.number)) c.put_number-3.ensures in
    let depth = writes_same (ap (number_line (codes "depth")) (c.from-4.ensures ∙ c.depth.ensures.greatest)) c.put_number-4.ensures in
    let cap = writes_same (ap (number_line (codes "cap")) c.message_cap.ensures) c.put_number-5.ensures in
    let all = writes_both (writes_both (writes_both (writes_both templates nodes) entries) depth) cap in
    let same = c.finish.ensures.same_target ∙ all.same_target ∙ c.new-line.ensures.same_target in
    let stays = λ (ended : g.row.T.Denot) (e : ended ≡ c.finish.new.self.target.now).
    (is_put c.args.target.now ended c.finish.result c.new-line.ensures.as_it_is e c.new-line.ensures.fresh all
    c.finish.ensures).stays in
    stays _ (search (rules, same))
