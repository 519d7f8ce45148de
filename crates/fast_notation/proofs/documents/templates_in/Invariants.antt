use Rattle.std.proofs.Common.{◌≡◌, ◌<◌, ◌≤◌, ℕ, drop, get_or, length, map, Some}
use Rattle.std.specs.Prelude.{IsSome}
use Rattle.toml.specs.Data.{Data, get_item}
use Rattle.toml.specs.View.{items_view}
use Rattle.toml.specs.declared.value.Value.{Value}
use Rattle.fast_notation.specs.device.Reading.{template_in, all_templates}
use Rattle.fast_notation.specs.device.WrittenSets.{written_data}
use Rattle.fast_notation.proofs.lists.TemplateLists.{front}
use Rattle.fast_notation.proofs.documents.templates_in.Given as goal

-- what is not read yet is as it was
abbrev pub invariant-loop-k : goal.invariant-loop-k
invariant-loop-k l = record {
  all : front (map written_data l.templates.items) (all_templates (items_view (drop l.k l.initial.items))) ≡ all_templates (items_view l.initial.items);
  read : (j : ℕ) (d : Data) → j < l.k → get_item j (items_view l.initial.items) ≡ Some d → IsSome (template_in d);
  left : (j : ℕ) (v : Value) → l.k ≤ j → get_or l.items j v ≡ get_or l.initial.items j v;
  count : length l.items ≡ length l.initial.items;
}
