-- The templates and nodes of a set, a line for each.
use Rattle.std.specs.Prelude.{ℕ, suc, Bool, if◌then◌else◌, List, [], ◌∷◌, ◌++◌, Option, Some, None, codes, decimal}
use Rattle.fast_value.specs.meaning.Kinds.{ScalarData}
use Rattle.fast_tree.specs.meaning.Tree.{FieldData, Label, Instruction, field, parts, group, sequence, Body, end, step, TemplateData, Tree, message_bits}
use Rattle.fast_notation.specs.meaning.Notation.{kind_name, operator_name}
use Rattle.fast_lines.specs.meaning.Lines.{written}

-- an instruction is optional or mandatory
abbrev pub presence : Bool → List ℕ
presence optional = if optional then codes " optional" else codes " mandatory"

-- the number of a dictionary entry
abbrev pub entry_words : Option ℕ → List ℕ
entry_words None = []
entry_words (Some n) = codes " entry " ++ decimal n

-- an initial value, as `show` writes values
abbrev pub initial_words : Option ScalarData → List ℕ
initial_words None = []
initial_words (Some v) = codes " initial " ++ written v

-- an operator with its entry and its initial value
abbrev pub operator_words : FieldData → List ℕ
operator_words f = operator_name f.operator ++ entry_words f.entry ++ initial_words f.initial

-- the line of a node: its number, its path, and its instruction
abbrev pub node_line : List ℕ → Label → List ℕ → List ℕ
node_line path l words = codes "node " ++ decimal l.node ++ codes " " ++ path ++ l.name ++ codes " " ++ words ++ 0x0A ∷ []

-- a field, a decimal by parts, a group and a sequence
abbrev pub field_words : FieldData → List ℕ
field_words f = kind_name f.kind ++ presence f.optional ++ codes " " ++ operator_words f

abbrev pub parts_words : FieldData → FieldData → List ℕ
parts_words e m = codes "decimal" ++ presence e.optional ++ codes " exponent " ++ operator_words e ++ codes " mantissa " ++ operator_words m

abbrev pub group_words : Bool → List ℕ
group_words optional = codes "group" ++ presence optional

abbrev pub sequence_words : FieldData → List ℕ
sequence_words length = codes "sequence" ++ presence length.optional ++ codes " length " ++ operator_words length

-- the words of an instruction
abbrev pub instruction_words : Instruction → List ℕ
instruction_words (field l f) = field_words f
instruction_words (parts l e m) = parts_words e m
instruction_words (group l optional body) = group_words optional
instruction_words (sequence l length body) = sequence_words length

-- the path of what is in a group or a sequence
abbrev pub path_within : List ℕ → Label → List ℕ
path_within path l = path ++ l.name ++ codes "."

-- the line of an instruction, and those of the instructions in it
abbrev mutual
  pub instruction_lines : List ℕ → Instruction → List ℕ
  instruction_lines path (field l f) = node_line path l (field_words f)
  instruction_lines path (parts l e m) = node_line path l (parts_words e m)
  instruction_lines path (group l optional body) = node_line path l (group_words optional) ++ body_lines (path_within path l) body
  instruction_lines path (sequence l length body) = node_line path l (sequence_words length) ++ body_lines (path_within path l) body

  pub body_lines : List ℕ → Body → List ℕ
  body_lines path end = []
  body_lines path (step i is) = instruction_lines path i ++ body_lines path is

-- the identifier of a template
abbrev pub id_words : Option ℕ → List ℕ
id_words None = codes "-"
id_words (Some id) = decimal id

-- a flag
abbrev pub flag_word : Bool → List ℕ
flag_word flag = if flag then codes "true" else codes "false"

-- the line of a template: its number, its name, its identifier, whether it resets, and how many bits its map has at most
abbrev pub template_line : ℕ → TemplateData → List ℕ
template_line n t = codes "template " ++ decimal n ++ codes " " ++ t.name ++ codes " id " ++ id_words t.id ++ codes " reset "
    ++ flag_word t.reset ++ codes " bits " ++ decimal (message_bits t) ++ 0x0A ∷ []

-- the lines of a template and of its nodes
abbrev pub lines_of_template : ℕ → TemplateData → List ℕ
lines_of_template n t = template_line n t ++ body_lines [] t.body

-- the lines of templates, of which the first has this number
abbrev pub lines_from : ℕ → List TemplateData → List ℕ
lines_from n [] = []
lines_from n (t ∷ ts) = lines_of_template n t ++ lines_from (suc n) ts

-- the lines of a set
abbrev pub list_lines : Tree → List ℕ
list_lines t = lines_from 0 t.templates
