use Rattle.std.proofs.Common.{ap, sym, ◌∙◌}
use Rattle.std.specs.Prelude.{option_map}
use Rattle.fast_value.specs.meaning.Values.{value_data}
use Rattle.fast_lines.specs.meaning.Lines.{written}
use Rattle.fast_text.proofs.Writing.{writes_both, writes_same}
use Rattle.fast_command.specs.meaning.Listing.{initial_words}
use Rattle.fast_command.proofs.list.put_initial.Goals as goal

pub returns-in-Some : goal.returns-in-Some
returns-in-Some g c =
    let value = writes_same (ap written c.as_scalar.ensures) c.put_value.ensures in
    writes_same (ap (λ v. initial_words (option_map value_data v)) (sym c.in-Some.is)) (writes_both c.put.ensures value)
