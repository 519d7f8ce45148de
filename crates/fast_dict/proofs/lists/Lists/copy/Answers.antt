-- The copies hold the same texts.
use Rattle.std.proofs.Common.{rules, ◌∙◌, ℕ, ap, sym, map, length, true}
use Rattle.std.proofs.lemmas.List.{length-map}
use Rattle.fast_dict.specs.meaning.Stores.{Terms}
use Rattle.fast_dict.specs.meaning.Held.{held_data}
use Rattle.fast_dict.proofs.Listed.{same_fit}
use Rattle.fast_dict.proofs.lists.Lists.copy.Goals as goal

pub invariant_of-result : goal.invariant_of-result
invariant_of-result c = record {
  fitting = same_fit c.args.self.now.entries.items c.in_ok-copied_entries.field-0.items
      c.args.self.now.max_text (c.in_ok-copied_entries.ensures ∙ ap (map held_data) c.deref.ensures.value) c.args.self.now.fitting;
}

pub returns-in_err-copied_entries-clause-terms : goal.returns-in_err-copied_entries-clause-terms
returns-in_err-copied_entries-clause-terms c = search rules

pub returns-clause-entries : goal.returns-clause-entries
returns-clause-entries c = c.in_ok-copied_entries.ensures ∙ ap (map held_data) c.deref.ensures.value

pub returns-clause-terms : goal.returns-clause-terms
returns-clause-terms c =
    let terms : ℕ → Terms = λ n. record { entries = n; max_text = c.args.self.now.max_text; takes_text = λ e. true; can_refuse = true } in
    ap terms (sym (length-map c.in_ok-copied_entries.field-0.items held_data)
    ∙ ap length (c.in_ok-copied_entries.ensures ∙ ap (map held_data) c.deref.ensures.value)
    ∙ length-map c.args.self.now.entries.items held_data)
