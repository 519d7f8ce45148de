use Rattle.fast_cursor.proofs.MapMarks.{word-later, word-used}
use Rattle.fast_cursor.proofs.place.Place.use_bit.Goals as goal

pub returns-clause-bits : goal.returns-clause-bits
returns-clause-bits c d h = word-later d.map d.ends c.args.self.now.word h.word c.requires.more

pub returns-clause-place : goal.returns-clause-place
returns-clause-place c d h = record { ahead = h.ahead; word = word-used d.map d.ends c.args.self.now.word h.word c.requires.more }
