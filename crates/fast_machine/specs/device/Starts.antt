-- The start of a message: the front of a piece, and the position of the machine after it.
use Rattle.std.specs.Prelude.{◌≡◌, ◌≢◌, ℕ, ◌<◌, ◌≤◌, List, length, take, slice_get, Some}
use Rattle.fast_wire.specs.meaning.Entities.{IsEntity}
use Rattle.fast_wire.specs.meaning.Maps.{bits, later_bits}
use Rattle.fast_value.specs.declared.settings.Limits.{Limits}
use Rattle.fast_value.specs.meaning.Limits.{Bounds, bounds}
use Rattle.fast_tree.specs.declared.instructions.Template.{Template}
use Rattle.fast_program.specs.declared.starts.Start.{Start}
use Rattle.fast_program.specs.device.Starts.{IsStartOf}
use Rattle.fast_template.specs.meaning.Flat.{instructions_from, template_data}
use Rattle.fast_dict.specs.meaning.Dictionary.{Dictionary}
use Rattle.fast_stream.specs.meaning.Grammar.{Grammar}
use Rattle.fast_stream.specs.device.Continuations.{message_then, message_of_then}
use Rattle.fast_stream.specs.device.GrammarReaders.{reader_of}
use Rattle.fast_units.specs.device.Taking.{Turns}
use Rattle.fast_cursor.specs.device.Cursors.{resting}
use Rattle.fast_machine.specs.declared.machine.Machine.{Machine}
use Rattle.fast_machine.specs.device.Positions.{Set, tree_in}

-- The start is that of the set's template with the identifier, the first that has it.
pub record IsStartWith (set : Set) (id : ℕ) (s : Start) : Type 0 where
  pub template : Template
  pub found : slice_get set.templates s.number ≡ Some template
  pub is : IsStartOf set.program s template
  pub own : template.id ≡ Some id
  pub first : (j : ℕ) (u : Template) → j < s.number → slice_get set.templates j ≡ Some u → u.id ≢ Some id

-- the rest of a message of a template after its map and its identifier
abbrev pub message_from : Set → Bounds → ℕ → Template → Dictionary → List ℕ → Grammar Dictionary
message_from set l number t d map =
    message_of_then l number (template_data (instructions_from 0 set.nodes) t) (record {
      context = record { dictionary = d; counted = 0 };
      bits = later_bits (bits map);
    })

-- The bytes begin with a message's map of one byte, and with its identifier, if one is sent, which leaves the second dictionary: n bytes of
-- a message of the template.
pub record IsMessageAhead (set : Set) (l : Limits) (old new : Dictionary) (rest : List ℕ) (number n : ℕ) : Type 0 where
  pub template : Template
  pub found : slice_get set.templates number ≡ Some template
  pub some : 0 < n
  pub within : n ≤ length rest
  pub map : IsEntity (take 1 rest)
  pub turns : Turns (reader_of l.strict (message_then (tree_in set) (bounds l) old)) (take n rest)
      (reader_of l.strict (message_from set (bounds l) number template new (take 1 rest)))

-- the machine, as it would be after that map
abbrev pub mapped_by : Machine → List ℕ → Machine
mapped_by m rest = record m { cursor = record (resting m.cursor) { map = take 1 rest } }
