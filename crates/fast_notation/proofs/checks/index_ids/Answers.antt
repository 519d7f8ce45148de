use Rattle.std.proofs.Common.{◌≡◌, ◌≢◌, ◌+◌, ℕ, map, take, length, refl, sym, ap, ◌∙◌, Some, None, subst, ◌++◌, ◌∷◌, []}
use Rattle.std.specs.Prelude.{AllPairs, nat_eq}
use Rattle.std.specs.HashMap.{get}
use Rattle.std.proofs.lemmas.List.{map_more, take_all, take-map, length-map, length-take-le}
use Rattle.std.proofs.lemmas.Option.{slice_get_read}
use Rattle.fast_tree.specs.device.Places.{place_of_id}
use Rattle.fast_notation.specs.device.WrittenSets.{written_data}
use Rattle.fast_notation.proofs.lists.Lists.{mapped_get}
use Rattle.fast_notation.proofs.lists.PlaceLists.{ids_more, ids_same, ids_apart, id_before, found_value, found_nothing}
use Rattle.fast_notation.proofs.checks.index_ids.Goals as goal

pub returns-clause-ids : goal.returns-clause-ids
returns-clause-ids c =
    subst (λ ts. AllPairs (λ a b. (id : ℕ) → a.id ≡ Some id → b.id ≢ Some id) (map written_data ts))
    (take_all c.loop-k.k c.args.templates.now c.loop-k-test.false) c.loop-k.invariant.ids

pub loop-k-preserved-in_default : goal.loop-k-preserved-in_default
loop-k-preserved-in_default c =
    let ts = c.args.templates.now in
    let k = c.loop-k.k in
    let t = c.index-templates-k.result in
    let us = map written_data (take k ts) in
    let more : map written_data (take (k + 1) ts) ≡ us ++ written_data t ∷ [] = map_more written_data ts k t c.loop-k-test.true
    ∙ ap (λ u. us ++ written_data u ∷ []) (sym c.index-templates-k.is) in
    record {
      index = λ q. ids_same (get nat_eq c.loop-k.ids) us (written_data t) c.in_default.is c.loop-k.invariant.index q ∙ ap (place_of_id q) (sym more);
      ids = subst (AllPairs (λ a b. (id : ℕ) → a.id ≡ Some id → b.id ≢ Some id)) (sym more)
          (ids_apart us (written_data t) (λ id has. cc (c.in_default.is, has)) c.loop-k.invariant.ids);
    }

pub returns-then-is_some-clause-fault : goal.returns-then-is_some-clause-fault
returns-then-is_some-clause-fault c =
    let ts = c.args.templates.now in
    let k = c.loop-k.k in
    let t = c.index-templates-k.result in
    let id = c.in-Some.id in
    let read = slice_get_read ts (length ts) k t refl c.loop-k-test.true c.index-templates-k.is in
    let j = found_value c.get.result (get nat_eq c.loop-k.ids id) c.get.ensures.value c.if-is_some.ensures in
    let here : place_of_id id (take k (map written_data ts)) ≡ Some j.0 = ap (place_of_id id) (take-map written_data k ts)
    ∙ sym (c.loop-k.invariant.index id) ∙ j.1 in
    rw c.fault_at.ensures (id_before (map written_data ts) k j.0 id (written_data t) (mapped_get written_data ts k t read) c.in-Some.is here)

pub returns-then-is_some-clause-first : goal.returns-then-is_some-clause-first
returns-then-is_some-clause-first c =
    rw c.fault_at.ensures (
      refl,
      subst (AllPairs (λ a b. (id : ℕ) → a.id ≡ Some id → b.id ≢ Some id)) (sym (take-map written_data c.loop-k.k c.args.templates.now)) c.loop-k.invariant.ids,
    )

pub loop-k-preserved : goal.loop-k-preserved
loop-k-preserved c =
    let ts = c.args.templates.now in
    let k = c.loop-k.k in
    let t = c.index-templates-k.result in
    let id = c.in-Some.id in
    let us = map written_data (take k ts) in
    let none = found_nothing c.get.result (get nat_eq c.loop-k.ids id) c.get.ensures.value c.if-is_some.ensures in
    let more : map written_data (take (k + 1) ts) ≡ us ++ written_data t ∷ [] = map_more written_data ts k t c.loop-k-test.true
    ∙ ap (λ u. us ++ written_data u ∷ []) (sym c.index-templates-k.is) in
    let long : k ≡ length us = sym (length-map (take k ts) written_data ∙ length-take-le k ts c.loop-k.auto.k-end) in
    let placeless = sym (c.loop-k.invariant.index id) ∙ none in
    record {
      index = λ q. ids_more (get nat_eq c.loop-k.ids) (get nat_eq c.insert.new.self) us
          (written_data t) id k c.in-Some.is long c.loop-k.invariant.index none c.in-Ok.ensures.updates.0 q ∙ ap (place_of_id q) (sym more);
      ids = subst (AllPairs (λ a b. (id : ℕ) → a.id ≡ Some id → b.id ≢ Some id)) (sym more)
          (ids_apart us (written_data t) (λ other has. subst (λ i. place_of_id i us ≡ None) (some_same (sym c.in-Some.is ∙ has)) placeless)
          c.loop-k.invariant.ids);
    }
  where
    some_same : {a b : ℕ} → Some a ≡ Some b → a ≡ b
    some_same h = cc
