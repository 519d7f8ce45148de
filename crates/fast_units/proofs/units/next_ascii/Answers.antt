use Rattle.fast_units.proofs.units.next_ascii.Goals as goal

pub returns-in-Some-eq0-clause-text : goal.returns-in-Some-eq0-clause-text
returns-in-Some-eq0-clause-text c = rw c.clear.ensures.text (c.zero_first.ensures c.args.room)

pub returns-in-Some-short_text-clause-text : goal.returns-in-Some-short_text-clause-text
returns-in-Some-short_text-clause-text c = c.in-Some-short_text.ensures.text c.args.nullable

pub returns-in-None-short_text-clause-text : goal.returns-in-None-short_text-clause-text
returns-in-None-short_text-clause-text c = c.characters.ensures.text c.args.nullable
