-- The op's field is the one that was looked at, which has no initial value.
use Rattle.std.proofs.Common.{◌≡◌, ◌∙◌, sym, ap}
use Rattle.std.specs.Prelude.{None, option_map}
use Rattle.fast_value.specs.meaning.Values.{value_data}
use Rattle.fast_tree.specs.meaning.Nodes.{field_data}
use Rattle.fast_loop.proofs.arms.Fields.{same_field}
use Rattle.fast_loop.proofs.text_arms.first_tail.Goals as goal

pub returns-in_ok-bytes-in-None-clause-unit : goal.returns-in_ok-bytes-in-None-clause-unit
returns-in_ok-bytes-in-None-clause-unit c optional x i strict b found shape room said serves =
    let same : i ≡ c.in_ok-field.field.now = same_field i c.in_ok-field.field.now (sym shape ∙ c.in_ok-field.ensures x found) in
    let none : (field_data i).initial ≡ None = ap (λ f. option_map value_data f.initial) same ∙ ap (option_map value_data) c.in-None.is in
    c.in_ok-bytes-in-None.ensures.unit optional (field_data i) strict b none room said serves
