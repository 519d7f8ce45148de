use Rattle.std.proofs.Common.{subst, sym, length, map, arith}
use Rattle.fast_tree.specs.meaning.Nodes.{field_data}
use Rattle.fast_tree.specs.meaning.AsWritten.{by_parts}
use Rattle.fast_notation.specs.meaning.Uses.{IsField}
use Rattle.fast_notation.specs.device.Built.{data_of, IsReady}
use Rattle.fast_notation.specs.device.EntryKeys.{scope_data, entries_of}
use Rattle.fast_notation.specs.device.WrittenSets.{operator_data, written_data}
use Rattle.fast_notation.proofs.nodes.BuildingNeeds.{exponent_ready, mantissa_ready, room_for}
use Rattle.fast_notation.proofs.nodes.BuiltLists.{built_parts}
use Rattle.fast_notation.proofs.texts.InstructionForms.{from_both}
use Rattle.fast_notation.proofs.building.Builder.build_parts.Goals as goal

pub field_of-requires-clause-few : goal.field_of-requires-clause-few
field_of-requires-clause-few c = c.requires.set.few

pub field_of-requires-clause-ready : goal.field_of-requires-clause-ready
field_of-requires-clause-ready c =
    subst (IsReady (entries_of c.args.self.now.entries.now) (scope_data c.args.at.scope)) (sym c.exponent_use.ensures.use_of)
    (exponent_ready c.args.name.now c.args.optional (operator_data c.args.exponent.now) (operator_data c.args.mantissa.now)
    (length (data_of c.args.nodes.now)) c.requires.can)

pub field_of-requires-clause-exponent : goal.field_of-requires-clause-exponent
field_of-requires-clause-exponent c = c.exponent_use.ensures.exponent

pub field_of-requires-2-clause-few : goal.field_of-requires-2-clause-few
field_of-requires-2-clause-few c = c.requires.set.few

pub field_of-requires-2-clause-ready : goal.field_of-requires-2-clause-ready
field_of-requires-2-clause-ready c =
    subst (IsReady (entries_of c.args.self.now.entries.now) (scope_data c.args.at.scope)) (sym c.mantissa_use.ensures.use_of)
    (mantissa_ready c.args.name.now c.args.optional (operator_data c.args.exponent.now) (operator_data c.args.mantissa.now)
    (length (data_of c.args.nodes.now)) c.requires.can)

pub field_of-requires-2-clause-exponent : goal.field_of-requires-2-clause-exponent
field_of-requires-2-clause-exponent c = c.mantissa_use.ensures.exponent

pub add_node-requires : goal.add_node-requires
add_node-requires c =
    let ts = map written_data c.args.self.now.set.now.templates.items in
    let d = by_parts c.args.name.now c.args.optional (operator_data c.args.exponent.now) (operator_data c.args.mantissa.now) in
    room_for {ts = ts} {entries = entries_of c.args.self.now.entries.now} {chain = c.args.at.chain} {s = scope_data c.args.at.scope} d
    (length (data_of c.args.nodes.now)) (omega arith) c.requires.can

pub returns : goal.returns
returns c =
    let es = entries_of c.args.self.now.entries.now in
    let s = scope_data c.args.at.scope in
    let f = field_data c.in_ok-exponent.exponent in
    let g = field_data c.in_ok-mantissa.mantissa in
    let is_f = subst (λ u. IsField es s u f) c.exponent_use.ensures.use_of c.in_ok-exponent.ensures in
    let is_g = subst (λ u. IsField es s u g) c.mantissa_use.ensures.use_of c.in_ok-mantissa.ensures in
    from_both c.add_node.result
    (λ n b. built_parts c.args.name.now c.args.optional (operator_data c.args.exponent.now) (operator_data c.args.mantissa.now) f g
    (data_of c.args.nodes.now) (data_of c.add_node.new.nodes) c.args.body.now.items c.add_node.new.body.items is_f is_g n b)
    c.add_node.ensures.nodes c.add_node.ensures.body
