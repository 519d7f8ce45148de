use Rattle.std.proofs.Common.{inl}
use Rattle.fast_select.proofs.Named.{named_by_id}
use Rattle.fast_select.proofs.choice.template_named.Goals as goal

pub returns-in-Some-clause-named : goal.returns-in-Some-clause-named
returns-in-Some-clause-named c = let h = c.in-Some.ensures.found in record { template = h.0; found = h.1; how = inl h.2 }

pub returns-in-Some-id_of-clause-named : goal.returns-in-Some-id_of-clause-named
returns-in-Some-id_of-clause-named c = named_by_id c.args.templates.now c.args.word.now c.in-Some-id_of.id c.by_id.result
    (rw c.in_default.is at c.by_name.ensures.none) c.in-Some-id_of.ensures.some c.by_id.ensures.found
