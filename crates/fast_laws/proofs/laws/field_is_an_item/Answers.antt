use Rattle.fast_laws.proofs.fields.FieldsFound.{found_is_spelled, spelled_is_found}
use Rattle.fast_laws.proofs.fields.ItemsRead.{item_read_back}
use Rattle.fast_laws.proofs.fields.ItemsSpelled.{item_spelled}
use Rattle.fast_laws.proofs.laws.field_is_an_item.Goals as goal
use Rattle.fast_stream.specs.meaning.Fields.{field_phrase}
use Rattle.std.proofs.Common.{sym, subst}
use Rattle.std.specs.Prelude.{List}
use Rattle.fast_stream.specs.meaning.Events.{EventData}
use Rattle.fast_stream.specs.meaning.Grammar.{phrase_of}
use Rattle.fast_stream.specs.meaning.Messages.{field_in}
use Rattle.fast_stream.specs.meaning.Phrases.{whole}
use Rattle.fast_value.specs.meaning.Limits.{bounds}

pub returns-clause-item : goal.returns-clause-item
returns-clause-item c = λ l f p bit v next w. (item_read_back l f p bit w v next, λ (x, s, op). item_spelled l f p bit x v next w s op)

pub returns-clause-found : goal.returns-clause-found
returns-clause-found c = λ l f s w es r. (
  found_is_spelled l f s w es r,
  λ (e, h). subst (λ (z : List EventData). phrase_of l.strict (field_in (bounds l) f s) w z (whole r)) (sym e) (spelled_is_found l f s w r h),
)
