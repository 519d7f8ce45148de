use Rattle.std.proofs.Common.{◌≡◌, ◌≢◌, ℕ, List, map, take, sym, ◌∙◌, subst, Some, inl, inr}
use Rattle.std.specs.Prelude.{All, AllPairs, IfSome, IsSome, nat_eq}
use Rattle.std.specs.HashMap.{get, get_by_text}
use Rattle.std.proofs.lemmas.Result.{err_from_is_err_and}
use Rattle.toml.specs.Parse.{parse_document}
use Rattle.fast_notation.specs.declared.codes.StaticCode.TheVariants.{C1, C2, D8}
use Rattle.fast_tree.specs.meaning.AsWritten.{all_uses, all_references}
use Rattle.fast_notation.specs.meaning.Faults.{IsFaultAt}
use Rattle.fast_notation.specs.meaning.Firsts.{pass_of}
use Rattle.fast_tree.specs.device.Places.{place_of_name, place_of_id}
use Rattle.fast_notation.specs.device.References.{KnowsReferences}
use Rattle.fast_notation.specs.device.Sound.{IsSound}
use Rattle.fast_notation.specs.device.WrittenSets.{written_data}
use Rattle.fast_notation.proofs.outcomes.Firsts.{names_first, ids_first, uses_first, references_first, written_first, unwritten_first}
use Rattle.fast_notation.proofs.passes.read_set.Goals as goal

pub returns-clause-set : goal.returns-clause-set
returns-clause-set c =
    let w = c.in_ok-templates.ensures.written in
    record {
      document = w.0;
      reads = w.1;
      shape = w.2;
      names = subst (λ ts. AllPairs (λ a b. a.name ≢ b.name) (map written_data ts)) c.deref.ensures.value c.in_ok-names.ensures.names;
      ids = subst (λ ts. AllPairs (λ a b. (id : ℕ) → a.id ≡ Some id → b.id ≢ Some id) (map written_data ts)) c.deref-2.ensures.value c.in_ok-ids.ensures.ids;
      sound = subst (λ ts. All (λ t. All IsSound (all_uses t.fields)) (map written_data ts)) c.deref-3.ensures.value c.in_ok-check_uses.ensures.sound;
      known = subst (λ ts. KnowsReferences (map written_data ts)) c.deref-4.ensures.value c.in_ok-check_references.ensures.known;
    }

pub returns-in_err-templates-clause-first : goal.returns-in_err-templates-clause-first
returns-in_err-templates-clause-first c =
    let e = c.in_err-templates.field-0.0 in
    let r = err_from_is_err_and c.from_residual.result c.from_residual.ensures.1 in
    rw (r.1, r.2) (unwritten_first (parse_document c.args.text.now) e.code e.template c.in_err-templates.ensures.first)

pub returns-in_err-names-clause-first : goal.returns-in_err-names-clause-first
returns-in_err-names-clause-first c =
    let w = c.in_ok-templates.ensures.written in
    let ts = map written_data c.in_ok-templates.templates.items in
    let e = c.in_err-names.field-0.0 in
    let same = c.deref.ensures.value in
    let fault = subst (λ us. IsFaultAt (map written_data us) e.code e.template) same c.in_err-names.ensures.fault in
    let first = subst (λ us. IfSome e.template (λ k. (e.code ≡ C1) × AllPairs (λ a b. a.name ≢ b.name) (take k (map written_data us))))
    same c.in_err-names.ensures.first in
    let r = err_from_is_err_and c.from_residual-in_err-names.result c.from_residual-in_err-names.ensures.1 in
    rw (r.1, r.2) (written_first (parse_document c.args.text.now) w.0 ts e.code e.template w.1 w.2 fault (names_first ts e.code e.template first))

pub returns-in_err-ids-clause-first : goal.returns-in_err-ids-clause-first
returns-in_err-ids-clause-first c =
    let w = c.in_ok-templates.ensures.written in
    let ts = map written_data c.in_ok-templates.templates.items in
    let e = c.in_err-ids.field-0.0 in
    let same = c.deref-2.ensures.value in
    let fault = subst (λ us. IsFaultAt (map written_data us) e.code e.template) same c.in_err-ids.ensures.fault in
    let names = subst (λ us. AllPairs (λ a b. a.name ≢ b.name) (map written_data us)) c.deref.ensures.value c.in_ok-names.ensures.names in
    let first = subst (λ us. IfSome e.template (λ k. (e.code ≡ C2)
    × AllPairs (λ a b. (id : ℕ) → a.id ≡ Some id → b.id ≢ Some id) (take k (map written_data us)))) same c.in_err-ids.ensures.first in
    let r = err_from_is_err_and c.from_residual-in_err-ids.result c.from_residual-in_err-ids.ensures.1 in
    rw (r.1, r.2) (written_first (parse_document c.args.text.now) w.0 ts e.code e.template w.1 w.2 fault (ids_first ts e.code e.template names first))

pub returns-in_err-check_uses-clause-first : goal.returns-in_err-check_uses-clause-first
returns-in_err-check_uses-clause-first c =
    let w = c.in_ok-templates.ensures.written in
    let ts = map written_data c.in_ok-templates.templates.items in
    let e = c.in_err-check_uses.field-0.0 in
    let same = c.deref-3.ensures.value in
    let fault = subst (λ us. IsFaultAt (map written_data us) e.code e.template) same c.in_err-check_uses.ensures.fault in
    let names = subst (λ us. AllPairs (λ a b. a.name ≢ b.name) (map written_data us)) c.deref.ensures.value c.in_ok-names.ensures.names in
    let ids = subst (λ us. AllPairs (λ a b. (id : ℕ) → a.id ≡ Some id → b.id ≢ Some id) (map written_data us)) c.deref-2.ensures.value
    c.in_ok-ids.ensures.ids in
    let first = subst (λ us. IfSome e.template (λ k. (pass_of e.code ≡ 3)
    × All (λ t. All IsSound (all_uses t.fields)) (take k (map written_data us)))) same c.in_err-check_uses.ensures.first in
    let r = err_from_is_err_and c.from_residual-in_err-check_uses.result c.from_residual-in_err-check_uses.ensures.1 in
    rw (r.1, r.2) (written_first (parse_document c.args.text.now) w.0 ts e.code e.template w.1 w.2 fault (uses_first ts e.code e.template names ids first))

pub returns-in_err-check_references-clause-first : goal.returns-in_err-check_references-clause-first
returns-in_err-check_references-clause-first c =
    let w = c.in_ok-templates.ensures.written in
    let ts = map written_data c.in_ok-templates.templates.items in
    let e = c.in_err-check_references.field-0.0 in
    let same = c.deref-4.ensures.value in
    let fault = subst (λ us. IsFaultAt (map written_data us) e.code e.template) same c.in_err-check_references.ensures.fault in
    let names = subst (λ us. AllPairs (λ a b. a.name ≢ b.name) (map written_data us)) c.deref.ensures.value c.in_ok-names.ensures.names in
    let ids = subst (λ us. AllPairs (λ a b. (id : ℕ) → a.id ≡ Some id → b.id ≢ Some id) (map written_data us)) c.deref-2.ensures.value
    c.in_ok-ids.ensures.ids in
    let sound = subst (λ us. All (λ t. All IsSound (all_uses t.fields)) (map written_data us)) c.deref-3.ensures.value c.in_ok-check_uses.ensures.sound in
    let first = subst (λ us. IfSome e.template (λ k. (e.code ≡ D8)
    × All (λ t. All (λ name. IsSome (place_of_name name (map written_data us))) (all_references t.fields))
    (take k (map written_data us)))) same c.in_err-check_references.ensures.first in
    let r = err_from_is_err_and c.from_residual-in_err-check_references.result c.from_residual-in_err-check_references.ensures.1 in
    rw (r.1, r.2) (written_first (parse_document c.args.text.now) w.0 ts e.code e.template w.1 w.2 fault (references_first ts e.code e.template (record {
      names = names;
      ids = ids;
      sound = sound;
    }) first))

pub returns-in_err-templates-clause-set : goal.returns-in_err-templates-clause-set
returns-in_err-templates-clause-set c = rw ((err_from_is_err_and c.from_residual.result c.from_residual.ensures.1).1) tt

pub returns-in_err-templates-clause-names : goal.returns-in_err-templates-clause-names
returns-in_err-templates-clause-names c = rw ((err_from_is_err_and c.from_residual.result c.from_residual.ensures.1).1) tt

pub returns-in_err-templates-clause-ids : goal.returns-in_err-templates-clause-ids
returns-in_err-templates-clause-ids c = rw ((err_from_is_err_and c.from_residual.result c.from_residual.ensures.1).1) tt

pub returns-in_err-templates-clause-fault : goal.returns-in_err-templates-clause-fault
returns-in_err-templates-clause-fault c =
    let r = err_from_is_err_and c.from_residual.result c.from_residual.ensures.1 in
    rw (r.1, r.2) (inl c.in_err-templates.ensures.fault)

pub returns-in_err-names-clause-set : goal.returns-in_err-names-clause-set
returns-in_err-names-clause-set c = rw ((err_from_is_err_and c.from_residual-in_err-names.result c.from_residual-in_err-names.ensures.1).1) tt

pub returns-in_err-names-clause-names : goal.returns-in_err-names-clause-names
returns-in_err-names-clause-names c = rw ((err_from_is_err_and c.from_residual-in_err-names.result c.from_residual-in_err-names.ensures.1).1) tt

pub returns-in_err-names-clause-ids : goal.returns-in_err-names-clause-ids
returns-in_err-names-clause-ids c = rw ((err_from_is_err_and c.from_residual-in_err-names.result c.from_residual-in_err-names.ensures.1).1) tt

pub returns-in_err-names-clause-fault : goal.returns-in_err-names-clause-fault
returns-in_err-names-clause-fault c =
    let w = c.in_ok-templates.ensures.written in
    let ts = map written_data c.in_ok-templates.templates.items in
    let e = c.in_err-names.field-0.0 in
    let fault = subst (λ us. IsFaultAt (map written_data us) e.code e.template) c.deref.ensures.value c.in_err-names.ensures.fault in
    let r = err_from_is_err_and c.from_residual-in_err-names.result c.from_residual-in_err-names.ensures.1 in
    rw (r.1, r.2) (inr (record { document = w.0; written = ts; reads = w.1; shape = w.2; stands = fault }))

pub returns-in_err-ids-clause-set : goal.returns-in_err-ids-clause-set
returns-in_err-ids-clause-set c = rw ((err_from_is_err_and c.from_residual-in_err-ids.result c.from_residual-in_err-ids.ensures.1).1) tt

pub returns-in_err-ids-clause-names : goal.returns-in_err-ids-clause-names
returns-in_err-ids-clause-names c = rw ((err_from_is_err_and c.from_residual-in_err-ids.result c.from_residual-in_err-ids.ensures.1).1) tt

pub returns-in_err-ids-clause-ids : goal.returns-in_err-ids-clause-ids
returns-in_err-ids-clause-ids c = rw ((err_from_is_err_and c.from_residual-in_err-ids.result c.from_residual-in_err-ids.ensures.1).1) tt

pub returns-in_err-ids-clause-fault : goal.returns-in_err-ids-clause-fault
returns-in_err-ids-clause-fault c =
    let w = c.in_ok-templates.ensures.written in
    let ts = map written_data c.in_ok-templates.templates.items in
    let e = c.in_err-ids.field-0.0 in
    let fault = subst (λ us. IsFaultAt (map written_data us) e.code e.template) c.deref-2.ensures.value c.in_err-ids.ensures.fault in
    let r = err_from_is_err_and c.from_residual-in_err-ids.result c.from_residual-in_err-ids.ensures.1 in
    rw (r.1, r.2) (inr (record { document = w.0; written = ts; reads = w.1; shape = w.2; stands = fault }))

pub returns-in_err-check_uses-clause-set : goal.returns-in_err-check_uses-clause-set
returns-in_err-check_uses-clause-set c = rw ((err_from_is_err_and c.from_residual-in_err-check_uses.result c.from_residual-in_err-check_uses.ensures.1).1) tt

pub returns-in_err-check_uses-clause-names : goal.returns-in_err-check_uses-clause-names
returns-in_err-check_uses-clause-names c = rw ((err_from_is_err_and c.from_residual-in_err-check_uses.result c.from_residual-in_err-check_uses.ensures.1).1) tt

pub returns-in_err-check_uses-clause-ids : goal.returns-in_err-check_uses-clause-ids
returns-in_err-check_uses-clause-ids c = rw ((err_from_is_err_and c.from_residual-in_err-check_uses.result c.from_residual-in_err-check_uses.ensures.1).1) tt

pub returns-in_err-check_uses-clause-fault : goal.returns-in_err-check_uses-clause-fault
returns-in_err-check_uses-clause-fault c =
    let w = c.in_ok-templates.ensures.written in
    let ts = map written_data c.in_ok-templates.templates.items in
    let e = c.in_err-check_uses.field-0.0 in
    let fault = subst (λ us. IsFaultAt (map written_data us) e.code e.template) c.deref-3.ensures.value c.in_err-check_uses.ensures.fault in
    let r = err_from_is_err_and c.from_residual-in_err-check_uses.result c.from_residual-in_err-check_uses.ensures.1 in
    rw (r.1, r.2) (inr (record { document = w.0; written = ts; reads = w.1; shape = w.2; stands = fault }))

pub returns-in_err-check_references-clause-set : goal.returns-in_err-check_references-clause-set
returns-in_err-check_references-clause-set c = rw ((err_from_is_err_and c.from_residual-in_err-check_references.result
    c.from_residual-in_err-check_references.ensures.1).1) tt

pub returns-in_err-check_references-clause-names : goal.returns-in_err-check_references-clause-names
returns-in_err-check_references-clause-names c = rw ((err_from_is_err_and c.from_residual-in_err-check_references.result
    c.from_residual-in_err-check_references.ensures.1).1) tt

pub returns-in_err-check_references-clause-ids : goal.returns-in_err-check_references-clause-ids
returns-in_err-check_references-clause-ids c = rw ((err_from_is_err_and c.from_residual-in_err-check_references.result
    c.from_residual-in_err-check_references.ensures.1).1) tt

pub returns-in_err-check_references-clause-fault : goal.returns-in_err-check_references-clause-fault
returns-in_err-check_references-clause-fault c =
    let w = c.in_ok-templates.ensures.written in
    let ts = map written_data c.in_ok-templates.templates.items in
    let e = c.in_err-check_references.field-0.0 in
    let fault = subst (λ us. IsFaultAt (map written_data us) e.code e.template) c.deref-4.ensures.value c.in_err-check_references.ensures.fault in
    let r = err_from_is_err_and c.from_residual-in_err-check_references.result c.from_residual-in_err-check_references.ensures.1 in
    rw (r.1, r.2) (inr (record { document = w.0; written = ts; reads = w.1; shape = w.2; stands = fault }))

pub check_references-requires-clause-index : goal.check_references-requires-clause-index
check_references-requires-clause-index c =
    let same = c.deref.ensures.value ∙ sym c.deref-4.ensures.value in
    subst (λ us. (q : List ℕ) → get_by_text c.in_ok-names.names q ≡ place_of_name q (map written_data us)) same c.in_ok-names.ensures.index

pub returns-clause-names : goal.returns-clause-names
returns-clause-names c =
    subst (λ us. (q : List ℕ) → get_by_text c.in_ok-names.names q ≡ place_of_name q (map written_data us)) c.deref.ensures.value c.in_ok-names.ensures.index

pub returns-clause-ids : goal.returns-clause-ids
returns-clause-ids c =
    subst (λ us. (q : ℕ) → get nat_eq c.in_ok-ids.ids q ≡ place_of_id q (map written_data us)) c.deref-2.ensures.value c.in_ok-ids.ensures.index

pub returns-clause-fault : goal.returns-clause-fault
returns-clause-fault c = tt

pub returns-clause-first : goal.returns-clause-first
returns-clause-first c = tt
