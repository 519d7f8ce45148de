use Rattle.std.proofs.lemmas.Str.{IsUtf8-had}
use Rattle.fast_messages.proofs.refusals.NoLines.{all_refused}
use Rattle.fast_messages.proofs.readings.Said.{all_on, all_near}
use Rattle.fast_messages.proofs.cursors.Cursor.advance.Goals as goal

pub returns-clause-ok : goal.returns-clause-ok
returns-clause-ok c = all_on c.args.self c.behind.result c.requires c.behind.ensures.ahead c.behind.ensures.number

pub returns-clause-line : goal.returns-clause-line
returns-clause-line c = all_near c.args.self c.behind.result c.requires c.behind.ensures.line

pub returns-clause-refused : goal.returns-clause-refused
returns-clause-refused c = all_refused c.args.self c.behind.result c.requires c.behind.ensures.refused

pub behind-requires : goal.behind-requires
behind-requires c known = IsUtf8-had c.args.self.rest.now (c.args.self.utf8 known)
