use Rattle.std.proofs.Common.{subst, sym}
use Rattle.std.proofs.lemmas.Result.{IfOk-weaker}
use Rattle.fast_tree.specs.meaning.Nodes.{field_data}
use Rattle.fast_notation.specs.meaning.Uses.{IsField}
use Rattle.fast_notation.specs.device.Built.{IsReady}
use Rattle.fast_notation.specs.device.EntryKeys.{scope_data, entries_of}
use Rattle.fast_notation.proofs.building.Builder.length_of.Goals as goal

pub field_of-requires-clause-few : goal.field_of-requires-clause-few
field_of-requires-clause-few c = c.requires.few

pub field_of-requires-clause-ready : goal.field_of-requires-clause-ready
field_of-requires-clause-ready c = subst (IsReady (entries_of c.args.self.now.entries.now) (scope_data c.args.scope))
    (sym c.length_use.ensures.use_of) c.requires.ready

pub field_of-requires-clause-exponent : goal.field_of-requires-clause-exponent
field_of-requires-clause-exponent c = c.length_use.ensures.exponent

pub returns : goal.returns
returns c =
    IfOk-weaker c.field_of.result _ _ (λ f h. subst (λ u. IsField (entries_of c.args.self.now.entries.now) (scope_data c.args.scope) u
    (field_data f)) c.length_use.ensures.use_of h) c.field_of.ensures
