use Rattle.std.proofs.Common.{◌+◌, ◌*◌, map, take}
use Rattle.fast_tree.specs.meaning.AsWritten.{no_more, more}
use Rattle.fast_notation.specs.device.Built.{data_of, IsBuilt}
use Rattle.fast_notation.specs.device.EntryKeys.{scope_data, entries_of}
use Rattle.fast_notation.specs.device.WrittenSets.{instruction_data, fields_data, written_data}
use Rattle.fast_notation.proofs.nodes.BuildingNeeds.{weight, measure}
use Rattle.fast_notation.proofs.building.Builder.+building.Given as goal

abbrev pub decreases-build_fields : goal.decreases-build_fields
decreases-build_fields l = measure (map written_data l.self.now.set.now.templates.items) l.at.chain (3 * weight (fields_data l.fields.now) + 1)

abbrev pub decreases-build_instruction : goal.decreases-build_instruction
decreases-build_instruction l = measure (map written_data l.self.now.set.now.templates.items) l.at.chain
    (3 * weight (more (instruction_data l.instruction.now) no_more))

abbrev pub decreases-build_group : goal.decreases-build_group
decreases-build_group l = measure (map written_data l.self.now.set.now.templates.items) l.at.chain (3 * weight (fields_data l.fields.now) + 2)

abbrev pub decreases-build_sequence : goal.decreases-build_sequence
decreases-build_sequence l = measure (map written_data l.self.now.set.now.templates.items) l.at.chain (3 * weight (fields_data l.fields.now) + 2)

abbrev pub decreases-build_reference : goal.decreases-build_reference
decreases-build_reference l = measure (map written_data l.self.now.set.now.templates.items) l.at.chain 2

abbrev pub invariant-build_fields-loop-field : goal.invariant-build_fields-loop-field
invariant-build_fields-loop-field l = IsBuilt (map written_data l.self.set.now.templates.items) (entries_of l.self.entries.now) l.at.chain
    (scope_data l.at.scope) (fields_data (take l.field-index l.fields)) (data_of l.initial.nodes)
    (data_of l.nodes) l.initial.body.items l.body.items
