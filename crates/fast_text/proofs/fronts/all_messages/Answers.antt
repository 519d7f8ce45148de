use Rattle.std.proofs.Common.{rules, arith, ◌≡◌, ◌+◌, ◌++◌, ◌∷◌, [], length}
use Rattle.std.proofs.lemmas.Grind.{common_steps}
use Rattle.fast_template.specs.meaning.Flat.{tree_of}
use Rattle.fast_text.specs.device.Front.{message_front, IsFront}
use Rattle.fast_text.proofs.Fronted.{fronts_more}
use Rattle.fast_text.proofs.fronts.all_messages.Goals as goal

pub loop-n-preserved : goal.loop-n-preserved
loop-n-preserved c =
    let i = c.loop-n.invariant in
    let items : c.push.new.self.items ≡ c.loop-n.fronts.items ++ c.in_ok-message_at.field-0 ∷ [] = search rules in
    let one : IsFront (message_front (tree_of c.args.templates.now)) (length c.loop-n.fronts.items) c.in_ok-message_at.field-0 =
    rw i.0 c.in_ok-message_at.ensures in
    let long : length c.push.new.self.items ≡ c.loop-n.n + 1 = grind (arith, common_steps, i.0, items) in
    (long, rw items (fronts_more _ _ _ i.1 one))
