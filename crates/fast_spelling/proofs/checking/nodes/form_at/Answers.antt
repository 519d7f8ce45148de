-- A form says what its node is.
use Rattle.fast_template.specs.meaning.Flat.{nodes_of}
use Rattle.fast_spelling.proofs.rules.FormsTold.{says_at}
use Rattle.fast_spelling.proofs.checking.nodes.form_at.Goals as goal

pub returns : goal.returns
returns c = λ x found. says_at (nodes_of c.args.plan.now.templates.now) c.args.here.now x c.requires found
