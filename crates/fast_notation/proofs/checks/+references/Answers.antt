use Rattle.std.proofs.Common.{◌≡◌, sym, ap, ◌∙◌, string_bytes}
use Rattle.std.specs.Prelude.{is_some}
use Rattle.std.specs.List.{list_all}
use Rattle.std.specs.Option.{option_copied}
use Rattle.std.specs.HashMap.{get_by_text}
use Rattle.fast_tree.specs.meaning.AsWritten.{references}
use Rattle.fast_notation.specs.device.WrittenSets.{instruction_data}
use Rattle.fast_notation.proofs.lists.ReferenceLists.{one_known}
use Rattle.fast_notation.proofs.checks.+references.Goals as goal

pub is_known-returns-in-Reference : goal.is_known-returns-in-Reference
is_known-returns-in-Reference t c =
    let look = get_by_text c.args.names.now in
    let found : option_copied c.get.result ≡ look (string_bytes c.in-Reference.name) = rw c.as_str.ensures.value at c.get.ensures.value in
    c.is_some.ensures ∙ one_known look c.get.result c.in-Reference.name found
    ∙ sym (ap (λ i. list_all (λ q. is_some (look q)) (references (instruction_data i))) c.in-Reference.is)
