-- A fresh dictionary has all entries of the set.
use Rattle.std.proofs.Common.{sym, ap, ◌∙◌, length}
use Rattle.std.proofs.lemmas.List.{length-replicate}
use Rattle.fast_template.specs.meaning.Flat.{tree_of}
use Rattle.fast_dict.specs.meaning.Dictionary.{undefined}
use Rattle.fast_dict.specs.meaning.Slots.{slots_sized}
use Rattle.fast_decoder_tests.proofs.tests.fields.values_of.Goals as goal

pub returns-clause-entries : goal.returns-clause-entries
returns-clause-entries c = sym (slots_sized c.in_ok-slots.slots) ∙ ap length c.in_ok-slots.ensures.fresh
    ∙ length-replicate (tree_of c.args.set.now).entries undefined
