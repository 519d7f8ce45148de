-- The tree of a set that was read.
use Rattle.std.specs.Prelude.{map}
use Rattle.fast_notation.specs.declared.sets.CheckedSet.{CheckedSet}
use Rattle.fast_tree.specs.meaning.Nodes.{instructions_from, template_data}
use Rattle.fast_tree.specs.meaning.Tree.{Tree}

-- the tree of its nodes and templates
abbrev pub tree_of_set : CheckedSet → Tree
tree_of_set s = record { templates = map (template_data (instructions_from 0 s.nodes.items)) s.templates.items; entries = s.entries }
