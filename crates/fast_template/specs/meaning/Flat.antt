-- The tree that the nodes and templates of a checked set stand for.
use Rattle.std.specs.Prelude.{List, map}
use Rattle.fast_tree.specs.declared.instructions.Node.{Node}
use Rattle.fast_tree.specs.declared.instructions.Template.{Template}
use Rattle.fast_template.specs.declared.sets.Templates.{Templates}
use Rattle.fast_tree.specs.meaning.Tree.{Tree}
pub use Rattle.fast_tree.specs.meaning.Nodes.{field_data, label_of, no_instruction, body_of, instruction_of, instructions_from, template_data}

-- the nodes of a set, by number
abbrev pub nodes_of : Templates → List Node
nodes_of t = t.nodes.items

-- the templates of a set, by number
abbrev pub templates_of : Templates → List Template
templates_of t = t.templates.items

-- the tree of a set
abbrev pub tree_of : Templates → Tree
tree_of t = record { templates = map (template_data (instructions_from 0 (nodes_of t))) (templates_of t); entries = t.entries }
