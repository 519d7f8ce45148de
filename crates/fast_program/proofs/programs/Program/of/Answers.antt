use Rattle.std.proofs.Common.{sym, ap, subst, ◌∙◌, List, [], ◌∷◌, ◌++◌, ◌≡◌}
use Rattle.fast_tree.specs.declared.instructions.Node.{Node}
use Rattle.fast_program.specs.declared.codes.Code.TheVariants.{End}
use Rattle.fast_program.specs.declared.ops.Op.{Op}
use Rattle.fast_program.specs.device.Runs.{is_end, AreNumbered, Begins}
use Rattle.fast_program.specs.device.Starts.{IsStartOf}
use Rattle.fast_program.specs.device.Programs.{SuitNodes}
use Rattle.fast_program.proofs.Runs.{closed, numbered_none, numbered_more, suit_none, suit_end}
use Rattle.fast_program.proofs.StartLists.{kept_starts, kept_start}
use Rattle.fast_program.proofs.programs.Program.of.Goals as goal

-- what stands before any body
first : (ops made : List Op) (end : Op) → ops ≡ made ++ end ∷ [] → made ≡ [] → ops ≡ end ∷ []
first ops made end behind none = behind ∙ ap (λ os. os ++ end ∷ []) none

rests_first : (ops : List Op) (end : Op) → ops ≡ end ∷ [] → end.code ≡ End → Begins ops 0 []
rests_first ops end is ends = subst (λ os. Begins os 0 []) (sym is) (closed [] [] [] end tt (ap is_end ends))

suit_first : (ns : List Node) (ops : List Op) (end : Op) → ops ≡ end ∷ [] → end.code ≡ End → SuitNodes ops ns
suit_first ns ops end is ends = subst (λ os. SuitNodes os ns) (sym is) (suit_end ns [] end (suit_none ns) (ap is_end ends))

numbered_first : (ops : List Op) (end : Op) → ops ≡ end ∷ [] → end.at ≡ 0 → AreNumbered ops
numbered_first ops end is at = subst AreNumbered (sym is) (numbered_more [] end numbered_none at)

pub add_bodies-requires-clause-rests : goal.add_bodies-requires-clause-rests
add_bodies-requires-clause-rests c =
    let is = first c.push.new.self.items c.in_ok-ops.ops.items c.end.result c.in_ok-push.ensures.items c.in_ok-ops.ensures.items in
    c.in_ok-template_starts.ensures.extends.kept 0 [] (rests_first c.push.new.self.items c.end.result is c.end.ensures.code)

pub returns : goal.returns
returns c =
    let ns : List Node = c.args.nodes.now in
    let is = first c.push.new.self.items c.in_ok-ops.ops.items c.end.result c.in_ok-push.ensures.items c.in_ok-ops.ensures.items in
    let templates = c.in_ok-template_starts.ensures in
    let bodies = c.in_ok-body_starts.ensures in
    record {
      rests = bodies.extends.kept 0 [] (templates.extends.kept 0 [] (rests_first c.push.new.self.items c.end.result is c.end.ensures.code));
      suits = bodies.extends.suit (templates.extends.suit (suit_first ns c.push.new.self.items c.end.result is c.end.ensures.code));
      numbered = bodies.extends.numbered (templates.extends.numbered (numbered_first c.push.new.self.items c.end.result is c.end.ensures.at));
      templates = kept_starts IsStartOf c.add_templates.new.ops.items c.add_bodies.new.ops.items
          c.in_ok-template_starts.template_starts.items c.args.templates.now
          (kept_start ns c.add_templates.new.ops.items c.add_bodies.new.ops.items bodies.extends) templates.starts;
      order = templates.order;
      bodies = bodies.starts;
    }
