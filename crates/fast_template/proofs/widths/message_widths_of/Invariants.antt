use Rattle.std.proofs.Common.{◌≡◌, ℕ, ◌<◌, Some, length}
use Rattle.std.specs.Prelude.{slice_get, slice_index}
use Rattle.fast_tree.specs.declared.instructions.Template.{Template}
use Rattle.fast_tree.specs.meaning.Tree.{message_bits}
use Rattle.fast_tree.specs.meaning.Nodes.{instructions_from, template_data}
use Rattle.fast_template.proofs.widths.message_widths_of.Given as goal

-- the widths of the templates so far
abbrev pub invariant-loop-template : goal.invariant-loop-template
invariant-loop-template l = record {
  long : length l.widths.items ≡ l.template-index;
  each : (k : ℕ) (t : Template) → k < l.template-index → slice_get l.templates k ≡ Some t
      → slice_index l.widths.items k ≡ message_bits (template_data (instructions_from 0 l.nodes) t);
}
