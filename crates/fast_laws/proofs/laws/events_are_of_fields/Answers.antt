use Rattle.fast_laws.proofs.nodes.Granting.{set_is_granted}
use Rattle.fast_laws.proofs.nodes.Naming.{all_named}
use Rattle.fast_laws.proofs.messages.Nesting.{nested}
use Rattle.fast_laws.proofs.messages.Streams.{of_messages}
use Rattle.fast_laws.proofs.laws.events_are_of_fields.Goals as goal
use Rattle.fast_template.specs.meaning.Flat.{tree_of}

pub returns-clause-named : goal.returns-clause-named
returns-clause-named c = λ document t l w es e tree short h. all_named t l es e (of_messages (tree_of t) l w es e (set_is_granted document t l tree short) h)

pub returns-clause-nested : goal.returns-clause-nested
returns-clause-nested c = λ t l w es e granted h. nested t l es e (of_messages t l w es e granted h)
