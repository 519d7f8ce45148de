use Rattle.std.proofs.Math.Logic.{∥∥₁_map}
use Rattle.fast_template.proofs.sets.Templates.on_general_path.Goals as goal

pub invariant_of-self-clause-program_of_set : goal.invariant_of-self-clause-program_of_set
invariant_of-self-clause-program_of_set c =
    ∥∥₁_map c.args.self.program_of_set (c.generalize.ensures.is c.args.self.templates.items c.args.self.nodes.items)
