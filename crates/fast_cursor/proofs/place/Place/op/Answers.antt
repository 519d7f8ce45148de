use Rattle.std.proofs.lemmas.Option.{slice_get-get_or}
use Rattle.fast_cursor.proofs.Runs.{ahead-there}
use Rattle.fast_cursor.proofs.place.Place.op.Goals as goal

pub returns-clause-here : goal.returns-clause-here
returns-clause-here c = slice_get-get_or c.args.self.now.ahead.now 0 _ (ahead-there c.args.self.now.ahead.now c.requires.run)
