-- The data of written operators, instructions and templates, without their memory.
use Rattle.std.specs.Prelude.{List, [], ◌∷◌, map, option_map, string_bytes}
use Rattle.fast_notation.specs.declared.written.WrittenOperator.{WrittenOperator}
use Rattle.fast_notation.specs.declared.written.WrittenInstruction.{WrittenInstruction}
use Rattle.fast_notation.specs.declared.written.WrittenInstruction.TheOpen.{WrittenInstruction-F, Scalar, Parts, Group, Sequence, Reference}
use Rattle.fast_notation.specs.declared.written.WrittenInstruction.TheFolds.{fold-WrittenInstruction}
use Rattle.fast_notation.specs.declared.written.WrittenTemplate.{WrittenTemplate}
use Rattle.fast_tree.specs.meaning.AsWritten.{Written, Declared, scalar, by_parts, group, sequence, reference, DeclaredList, no_more, more, DeclaredTemplate}

-- a written operator
abbrev pub operator_data : WrittenOperator → Written
operator_data w = record {
  operator = w.operator;
  value = option_map string_bytes w.value;
  key = option_map string_bytes w.key;
  dictionary = option_map string_bytes w.dictionary;
}

-- a list as one of instructions
abbrev pub list_of : List Declared → DeclaredList
list_of [] = no_more
list_of (d ∷ ds) = more d (list_of ds)

-- an instruction of the data of the instructions in it
abbrev pub instruction_step : WrittenInstruction-F Declared → Declared
instruction_step (Scalar name optional kind w) = scalar (string_bytes name) optional kind (operator_data w)
instruction_step (Parts name optional e m) = by_parts (string_bytes name) optional (operator_data e) (operator_data m)
instruction_step (Group name optional fields) = group (string_bytes name) optional (list_of fields.items)
instruction_step (Sequence name optional own w fields) =
    sequence (string_bytes name) optional (option_map string_bytes own) (operator_data w) (list_of fields.items)
instruction_step (Reference name) = reference (string_bytes name)

-- the data of an instruction
abbrev pub instruction_data : WrittenInstruction → Declared
instruction_data = fold-WrittenInstruction Declared instruction_step

-- the data of instructions
abbrev pub fields_data : List WrittenInstruction → DeclaredList
fields_data fs = list_of (map instruction_data fs)

-- the data of a template
abbrev pub written_data : WrittenTemplate → DeclaredTemplate
written_data t = record { name = string_bytes t.name; id = t.id; reset = t.reset; dictionary = string_bytes t.dictionary; fields = fields_data t.fields.items }

-- the data of templates
abbrev pub templates_data : List WrittenTemplate → List DeclaredTemplate
templates_data ts = map written_data ts
