-- What is said of a template set.
use Rattle.std.specs.Prelude.{ℕ, Bool, true, false, List, [], ◌∷◌, ◌++◌, length, codes, decimal}
use Rattle.fast_value.specs.declared.settings.Limits.{Limits}
use Rattle.fast_tree.specs.meaning.Tree.{Tree}
use Rattle.fast_notation.specs.meaning.Labels.{template_labels}
use Rattle.fast_tree.specs.meaning.Sizes.{set_depth, message_cap}
use Rattle.fast_command.specs.meaning.Listing.{list_lines}

-- a name and a number
abbrev pub number_line : List ℕ → ℕ → List ℕ
number_line name n = name ++ codes " " ++ decimal n ++ 0x0A ∷ []

-- how many templates, nodes and entries, how deep, and the most events of a message
abbrev pub set_lines : Tree → Limits → List ℕ
set_lines t l =
    number_line (codes "templates") (length t.templates)
    ++ number_line (codes "nodes") (length (template_labels t.templates))
    ++ number_line (codes "entries") t.entries
    ++ number_line (codes "depth") (set_depth t)
    ++ number_line (codes "cap") (message_cap t l)

-- the lines of a set, and then the list of its templates and nodes if it is asked for
abbrev pub check_lines : Tree → Limits → Bool → List ℕ
check_lines t l false = set_lines t l
check_lines t l true = set_lines t l ++ list_lines t
