use Rattle.std.proofs.Common.{ap, sym, length, ◌∙◌, ◌≡◌, map}
use Rattle.std.specs.Prelude.{List, Vec}
use Rattle.std.specs.Global.{Global}
use Rattle.std.specs.Vec.{with_items}
use Rattle.std.proofs.lemmas.List.{length-map, with_items_is}
use Rattle.fast_program.specs.declared.ops.Op.{Op}
use Rattle.fast_program.specs.device.Ops.{general_op}
use Rattle.fast_program.proofs.General.{general_program}
use Rattle.fast_program.proofs.programs.Program.generalize.Goals as goal

-- the slice that was written is what the vector holds
written : (v : Vec Op Global) (ws : List Op) → ws ≡ map general_op v.items → (with_items v ws).items ≡ map general_op v.items
written v ws is = with_items_is v ws (ap length is ∙ length-map v.items general_op ∙ sym v.ok.0) ∙ is

pub returns-clause-ops : goal.returns-clause-ops
returns-clause-ops c = written c.args.self.now.ops c.generalize_ops.new.ops (c.generalize_ops.ensures ∙ ap (map general_op) c.deref_mut.ensures.value)

pub returns-clause-is : goal.returns-clause-is
returns-clause-is c = general_program c.args.self.now (with_items c.args.self.now.ops c.generalize_ops.new.ops) (returns-clause-ops c)
