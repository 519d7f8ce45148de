use Rattle.std.proofs.Common.{◌<◌, ◌≢◌, ℕ, get_or, get_or-set_other, ◌≡◌, ◌+◌, ◌++◌, ◌∷◌, [], List, map, drop, sym, ap, ◌∙◌, Some, Err, arith}
use Rattle.std.specs.Prelude.{IsSome}
use Rattle.std.proofs.lemmas.List.{length-set}
use Rattle.toml.specs.Data.{Data, get_item}
use Rattle.toml.specs.View.{view, items_view}
use Rattle.toml.specs.declared.value.Value.{Value}
use Rattle.toml.proofs.Views.{get_item_within}
use Rattle.fast_notation.specs.device.Reading.{template_in, all_templates}
use Rattle.fast_notation.specs.device.WrittenSets.{written_data}
use Rattle.fast_notation.specs.declared.written.WrittenTemplate.{WrittenTemplate}
use Rattle.fast_notation.proofs.lists.TemplateLists.{front, front_more, unread_fault, unread_first, read_more}
use Rattle.fast_notation.proofs.documents.templates_in.Goals as goal

pub loop-k-preserved : goal.loop-k-preserved
loop-k-preserved c =
    let k = c.loop-k.k in
    let vs = c.args.items.now in
    let d = c.index-items-k.result in
    let found = get_item_within vs k d c.loop-k-test.true in
    let at_k : c.replace-item.result ≡ get_or vs k d = c.replace-item.ensures.value ∙ c.loop-k.invariant.left k d (omega arith) in
    let pushed : c.push.new.self.items ≡ c.loop-k.templates.items ++ c.in-Ok.template ∷ [] = c.in-Ok-push.ensures.items in
    let read = ap (λ (v : Value). template_in (view v)) (sym at_k) ∙ c.in-Ok.ensures.template in
    record {
      all = ap (λ (ws : List WrittenTemplate). front (map written_data ws) (all_templates (items_view (drop (k + 1) vs)))) pushed
          ∙ front_more c.loop-k.templates.items c.in-Ok.template vs k d (all_templates (items_view vs)) c.loop-k-test.true read c.loop-k.invariant.all;
      read = read_more (items_view vs) k (view (get_or vs k d)) (written_data c.in-Ok.template) (sym found) read c.loop-k.invariant.read;
      left = λ j v below. let ne : j ≢ k = omega (arith, below) in rw get_or-set_other (c.loop-k.invariant.left j v (omega (arith, below)));
      count = length-set c.loop-k.items k c.replace-item.new.dest ∙ c.loop-k.invariant.count;
    }

pub returns-in-Err-clause-fault : goal.returns-in-Err-clause-fault
returns-in-Err-clause-fault c =
    let k = c.loop-k.k in
    let vs = c.args.items.now in
    let d = c.index-items-k.result in
    let at_k : c.replace-item.result ≡ get_or vs k d = c.replace-item.ensures.value ∙ c.loop-k.invariant.left k d (omega arith) in
    let found = ap (λ (v : Value). Some (view v)) at_k ∙ get_item_within vs k d c.loop-k-test.true in
    unread_fault c.in-Err.fault c.fault_at.result (items_view vs) k (view c.replace-item.result) c.fault_at.ensures.shape c.fault_at.ensures.memory (sym found)
    (λ e. c.in-Err.ensures.shape (ap Err e))

pub returns-in-Err-clause-first : goal.returns-in-Err-clause-first
returns-in-Err-clause-first c =
    unread_first c.in-Err.fault c.fault_at.result c.loop-k.k
    (λ k. (j : ℕ) (d : Data) → j < k → get_item j (items_view c.args.items.now) ≡ Some d → IsSome (template_in d))
    c.fault_at.ensures.shape c.fault_at.ensures.memory
    c.loop-k.invariant.read
