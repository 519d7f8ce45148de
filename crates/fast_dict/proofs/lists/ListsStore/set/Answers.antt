-- The entry of that number changes alone.
use Rattle.std.proofs.Common.{◌<◌, ◌≤◌, ◌∙◌, ℕ, ap, arith, length, true}
use Rattle.std.specs.Prelude.{slice_set}
use Rattle.std.proofs.lemmas.List.{map-set, length-map, length-set}
use Rattle.fast_value.specs.meaning.Kinds.{text_of}
use Rattle.fast_value.specs.meaning.Values.{scalar_data, value_data}
use Rattle.fast_dict.specs.meaning.Dictionary.{assigned}
use Rattle.fast_dict.specs.meaning.Stores.{Terms}
use Rattle.fast_dict.specs.meaning.Held.{held_data}
use Rattle.fast_dict.specs.declared.held.Held.TheVariants.{Assigned}
use Rattle.fast_dict.specs.meaning.Lists.{lists_dictionary, lists_terms}
use Rattle.fast_dict.proofs.Listed.{set_fits}
use Rattle.fast_dict.proofs.Slotted.{storable}
use Rattle.fast_dict.proofs.lists.ListsStore.set.Goals as goal

pub index_mut-requires : goal.index_mut-requires
index_mut-requires c =
    let here : c.args.entry < length (lists_dictionary c.args.self.now) = c.requires.there in
    let same = length-map c.args.self.now.entries.items held_data in
    omega (arith, here, same, c.args.self.now.entries.ok.0)

pub invariant_of-self : goal.invariant_of-self
invariant_of-self c =
    let short : length (text_of (value_data c.in_ok-value.value)) ≤ c.args.self.now.max_text =
    rw c.in_ok-value.ensures.value (storable (lists_terms c.args.self.now) c.args.entry
    (scalar_data c.args.scalar) c.requires.room).0 in
    record {
      fitting = set_fits c.args.self.now.entries.items c.args.entry
          (Assigned c.args.kind c.in_ok-value.value) c.args.self.now.max_text c.args.self.now.fitting short;
    }

pub returns-clause-ok : goal.returns-clause-ok
returns-clause-ok c = map-set held_data c.args.self.now.entries.items c.args.entry _
    ∙ ap (λ v. slice_set (lists_dictionary c.args.self.now) c.args.entry (assigned c.args.kind v)) c.in_ok-value.ensures.value

pub returns-clause-same : goal.returns-clause-same
returns-clause-same c =
    let terms : ℕ → Terms = λ n. record { entries = n; max_text = c.args.self.now.max_text; takes_text = λ e. true; can_refuse = true } in
    ap terms (length-set c.args.self.now.entries.items c.args.entry _)
