-- Both follow from which operators and bits need bytes.
use Rattle.std.proofs.Common.{sym, ◌∙◌}
use Rattle.fast_tree.specs.meaning.Nodes.{field_data}
use Rattle.fast_units.proofs.Deciding.{stands_sent, stands_unsent}
use Rattle.fast_units.proofs.fields.needs_bytes.Goals as goal

pub returns-clause-sent : goal.returns-clause-sent
returns-clause-sent c h l p = stands_sent (field_data c.args.field.now) c.args.bit l p (sym c.is_needed.ensures ∙ h)

pub returns-clause-unsent : goal.returns-clause-unsent
returns-clause-unsent c h l p = stands_unsent (field_data c.args.field.now) c.args.bit l p (sym c.is_needed.ensures ∙ h)
