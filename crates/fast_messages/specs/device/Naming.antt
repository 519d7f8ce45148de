-- Which node a line names, and what a line can end.
use Rattle.std.specs.Prelude.{◌≡◌, ℕ, Option, Some}
use Rattle.fast_tree.specs.meaning.Tree.{Instruction, field, parts, group, sequence, Tree}
use Rattle.fast_stream.specs.meaning.Events.{EventData, GroupEnd, ElementEnd, MessageEnd}
use Rattle.fast_lines.specs.meaning.Forms.{LineData, field as field_line, group as group_line, sequence as sequence_line, group_end, element_end, message_end}
use Rattle.fast_lines.specs.meaning.Lines.{node_name}
use Rattle.fast_messages.specs.declared.endings.Ending.{Ending}
use Rattle.fast_messages.specs.declared.endings.Ending.TheVariants as Ends

-- a field, by one operator or by parts
abbrev pub IsValue : Instruction → Type 0
IsValue (field l f) = Unit {0}
IsValue (parts l e m) = Unit {0}
IsValue (group l optional body) = ⊥
IsValue (sequence l length body) = ⊥

-- a group
abbrev pub IsGroup : Instruction → Type 0
IsGroup (field l f) = ⊥
IsGroup (parts l e m) = ⊥
IsGroup (group l optional body) = Unit {0}
IsGroup (sequence l length body) = ⊥

-- a sequence
abbrev pub IsSequence : Instruction → Type 0
IsSequence (field l f) = ⊥
IsSequence (parts l e m) = ⊥
IsSequence (group l optional body) = ⊥
IsSequence (sequence l length body) = Unit {0}

-- The line has the number and the name of the node, whose instruction this is, and is one of its kind.
abbrev pub Names : Tree → ℕ → Instruction → Option LineData → Type 0
Names t n i (Some (field_line m name text)) = (m ≡ n) × IsValue i × (name ≡ node_name t n)
Names t n i (Some (group_line m name)) = (m ≡ n) × IsGroup i × (name ≡ node_name t n)
Names t n i (Some (sequence_line m name count)) = (m ≡ n) × IsSequence i × (name ≡ node_name t n)
Names t n i line = ⊥

-- the event that ends the slots of a body
abbrev pub end_event : Ending → EventData
end_event Ends.Message = MessageEnd
end_event Ends.Group = GroupEnd
end_event Ends.Element = ElementEnd

-- its line
abbrev pub end_line : Ending → LineData
end_line Ends.Message = message_end
end_line Ends.Group = group_end
end_line Ends.Element = element_end
