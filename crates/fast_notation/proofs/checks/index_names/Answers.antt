use Rattle.std.proofs.Common.{◌≡◌, ◌≢◌, ◌+◌, ℕ, List, map, take, length, refl, sym, ap, ◌∙◌, Some, subst, string_bytes, ◌++◌, ◌∷◌, []}
use Rattle.std.specs.Prelude.{AllPairs, if◌then◌else◌}
use Rattle.std.specs.Str.{bytes_eq}
use Rattle.std.specs.HashMap.{get_by_text}
use Rattle.std.specs.Option.{option_copied}
use Rattle.std.proofs.lemmas.Map.Text.{hash_map_updates_text}
use Rattle.std.proofs.lemmas.List.{map_more, take_all, take-map, length-map, length-take-le}
use Rattle.std.proofs.lemmas.Option.{slice_get_read}
use Rattle.fast_tree.specs.device.Places.{place_of_name}
use Rattle.fast_notation.specs.device.WrittenSets.{written_data}
use Rattle.fast_notation.proofs.lists.Lists.{mapped_get}
use Rattle.fast_notation.proofs.lists.PlaceLists.{names_more, names_apart, name_before, found_value, found_nothing}
use Rattle.fast_notation.proofs.checks.index_names.Goals as goal

pub returns-clause-names : goal.returns-clause-names
returns-clause-names c =
    subst (λ ts. AllPairs (λ a b. a.name ≢ b.name) (map written_data ts))
    (take_all c.loop-k.k c.args.templates.now c.loop-k-test.false) c.loop-k.invariant.names

pub returns-then-is_some-clause-fault : goal.returns-then-is_some-clause-fault
returns-then-is_some-clause-fault c =
    let ts = c.args.templates.now in
    let k = c.loop-k.k in
    let t = c.index-templates-k.result in
    let read = slice_get_read ts (length ts) k t refl c.loop-k-test.true c.index-templates-k.is in
    let found : option_copied c.get.result ≡ get_by_text c.loop-k.names (string_bytes t.name) = rw c.as_str.ensures.value at c.get.ensures.value in
    let j = found_value c.get.result (get_by_text c.loop-k.names (string_bytes t.name)) found c.if-is_some.ensures in
    let here : place_of_name (string_bytes t.name) (take k (map written_data ts)) ≡ Some j.0 =
    ap (place_of_name (string_bytes t.name)) (take-map written_data k ts) ∙ sym (c.loop-k.invariant.index (string_bytes t.name)) ∙ j.1 in
    rw c.fault_at.ensures (name_before (map written_data ts) k j.0 (written_data t) (mapped_get written_data ts k t read) here)

pub returns-then-is_some-clause-first : goal.returns-then-is_some-clause-first
returns-then-is_some-clause-first c =
    rw c.fault_at.ensures (
      refl,
      subst (AllPairs (λ a b. a.name ≢ b.name))
          (sym (take-map written_data c.loop-k.k c.args.templates.now)) c.loop-k.invariant.names,
    )

pub loop-k-preserved : goal.loop-k-preserved
loop-k-preserved c =
    let ts = c.args.templates.now in
    let k = c.loop-k.k in
    let t = c.index-templates-k.result in
    let us = map written_data (take k ts) in
    let found : option_copied c.get.result ≡ get_by_text c.loop-k.names (string_bytes t.name) = rw c.as_str.ensures.value at c.get.ensures.value in
    let none = found_nothing c.get.result (get_by_text c.loop-k.names (string_bytes t.name)) found c.if-is_some.ensures in
    let more : map written_data (take (k + 1) ts) ≡ us ++ written_data t ∷ [] = map_more written_data ts k t c.loop-k-test.true
    ∙ ap (λ u. us ++ written_data u ∷ []) (sym c.index-templates-k.is) in
    let long : k ≡ length us = sym (length-map (take k ts) written_data ∙ length-take-le k ts c.loop-k.auto.k-end) in
    let name : string_bytes c.in-Ok.name ≡ string_bytes t.name = c.in-Ok.ensures.ok ∙ c.as_str-in-loop-k.ensures.value in
    let updated = λ (q : List ℕ).
    hash_map_updates_text (string_bytes c.in-Ok.name) c.loop-k.names c.insert.new.self (Some k) c.in-Ok-insert.ensures.updates q
    ∙ ap (λ s. if bytes_eq s q then Some k else get_by_text c.loop-k.names q) name in
    record {
      index = λ q. names_more (get_by_text c.loop-k.names) (get_by_text c.insert.new.self) us
          (written_data t) k long c.loop-k.invariant.index none updated q ∙ ap (place_of_name q) (sym more);
      names = subst (AllPairs (λ a b. a.name ≢ b.name)) (sym more)
          (names_apart us (written_data t) (sym (c.loop-k.invariant.index (string_bytes t.name)) ∙ none) c.loop-k.invariant.names);
    }
