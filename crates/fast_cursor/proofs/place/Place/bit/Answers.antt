use Rattle.fast_cursor.proofs.MapMarks.{word-top}
use Rattle.fast_cursor.proofs.place.Place.bit.Goals as goal

pub returns-clause-is : goal.returns-clause-is
returns-clause-is c d h more = word-top d.map d.ends c.args.self.now.word h.word more
