use Rattle.std.specs.Prelude.{◌≡◌, ◌≤◌}
use Rattle.fast_template.specs.meaning.Flat.{tree_of, nodes_of}
use Rattle.fast_dict.specs.meaning.Slots.{slots_terms}
use Rattle.fast_machine.specs.device.Serving.{ServesNodes}
use Rattle.fast_decoder_tests.proofs.tests.fields.write_readings.Given as goal

-- The dictionary serves the fields, and the buffer has its room.
abbrev pub invariant-loop-count : goal.invariant-loop-count
invariant-loop-count l = record {
  serves : ServesNodes (tree_of l.set).entries (slots_terms l.values.slots) (nodes_of l.set);
  entries : (slots_terms l.values.slots).entries ≡ (tree_of l.set).entries;
  limit : (slots_terms l.values.slots).max_text ≡ 16;
  room : 16 ≤ l.values.scratch.capacity;
}
