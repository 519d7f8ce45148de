-- A clear bit is the field, where the operator gives its value.
use Rattle.std.proofs.Common.{◌∷◌, [], refl, ap, sym, subst, ◌∙◌, ℕ}
use Rattle.std.specs.Prelude.{Bool, false, if◌then◌else◌, Some}
use Rattle.std.proofs.lemmas.List.{append-nil}
use Rattle.fast_value.specs.meaning.Values.{scalar_data}
use Rattle.fast_tree.specs.meaning.Tree.{FieldData}
use Rattle.fast_tree.specs.meaning.Nodes.{field_data}
use Rattle.fast_dict.specs.meaning.Dictionary.{previous_at}
use Rattle.fast_dict.specs.meaning.Operators.{nothing}
use Rattle.fast_spelling.specs.device.Places.{field_there}
use Rattle.fast_spelling.specs.device.Fields.{IsSuited}
use Rattle.fast_spelling.proofs.rules.FieldsWritten.{field_done}
use Rattle.fast_spelling.proofs.fields.leave_out.Goals as goal

pub returns-clause-ok : goal.returns-clause-ok
returns-clause-ok c = λ l same.
    let f : FieldData = field_data (field_there c.args.at.place) in
    let v = Some (scalar_data c.args.value) in
    let one = false ∷ [] in
    let suited = subst (λ (m : ℕ). IsSuited m f v) (sym same) c.requires.suited in (
      one,
      [],
      c.in_ok-push_bit.ensures.bits,
      c.push_bit.ensures.bytes ∙ sym (append-nil c.args.draft.now.bytes.items),
      field_done l f c.args.ledger.now.now (previous_at f.entry c.args.ledger.now.now) v false nothing one [] c.keep.new.ledger.now
          refl c.requires.served.usable.tail suited c.requires.ruled tt refl
          (ap (λ (u : Bool). if u then one else []) (sym c.requires.ruled.0.1)) c.in_ok-keep.ensures.now,
    )
