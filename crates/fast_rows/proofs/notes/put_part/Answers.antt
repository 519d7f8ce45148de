use Rattle.fast_rows.proofs.notes.put_part.Goals as goal

pub returns-in-Map : goal.returns-in-Map
returns-in-Map g c = rw c.in-Map.is c.put.ensures

pub returns-in-TemplateId : goal.returns-in-TemplateId
returns-in-TemplateId g c = rw c.in-TemplateId.is c.put-in-TemplateId.ensures

pub returns-in-Instruction : goal.returns-in-Instruction
returns-in-Instruction g c = rw c.in-Instruction.is c.put_named.ensures

pub returns-in-End : goal.returns-in-End
returns-in-End g c = rw c.in-End.is c.put-in-End.ensures
