use Rattle.fast_command.proofs.vectors.built_in.Goals as goal

pub returns : goal.returns
returns c = c.read.ensures.read
