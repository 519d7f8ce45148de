-- One entry more holds what it held before.
use Rattle.std.proofs.Common.{◌≡◌, ◌∙◌, ap, sym, subst, length, get_or, arith}
use Rattle.std.specs.Prelude.{slice_set}
use Rattle.std.proofs.lemmas.List.{length-set, length-map, map-set}
use Rattle.std.proofs.lemmas.List.Elements.{All-set}
use Rattle.fast_dict.specs.meaning.Dictionary.{Dictionary}
use Rattle.fast_spelling.specs.meaning.Entries.{entry_now, entry_before}
use Rattle.fast_spelling.specs.meaning.Ledgers.{all_now, all_before, IsKept}
use Rattle.fast_spelling.proofs.bytes.Ledgers.{same_at, front_more, at_map, unchanged}
use Rattle.fast_spelling.proofs.ledger.take_all_back.Goals as goal

pub loop-i-preserved : goal.loop-i-preserved
loop-i-preserved c =
    let i = c.loop-i.invariant in
    let old = c.index_mut.result.now in
    let new = c.take_back.new.self in
    let here : old ≡ get_or c.loop-i.entries.items c.loop-i.i old = c.index_mut.ensures.value in
    let long : length (all_now c.args.entries.now.items) ≡ length c.loop-i.entries.items = length-map c.args.entries.now.items entry_now ∙ sym i.long in
    let still : entry_before c.args.epoch new ≡ entry_before c.args.epoch old =
    unchanged c.args.epoch new (λ same. let none = c.take_back.ensures.epoch.0 same in omega (arith, none)) ∙ c.take_back.ensures.now in
    record {
      now = map-set entry_now c.loop-i.entries.items c.loop-i.i new ∙ ap (λ (d : Dictionary). slice_set d c.loop-i.i (entry_now new)) i.now
          ∙ front_more (all_before c.args.epoch c.args.entries.now.items) (all_now c.args.entries.now.items) c.loop-i.i (entry_now new)
          (length-map c.args.entries.now.items (entry_before c.args.epoch) ∙ sym (length-map c.args.entries.now.items entry_now))
          (omega (arith, long))
          (c.take_back.ensures.now ∙ at_map (entry_before c.args.epoch) c.loop-i.entries.items c.loop-i.i old (entry_now new)
          (omega arith) here ∙ ap (λ (d : Dictionary). get_or d c.loop-i.i (entry_now new)) i.before);
      before = same_at (entry_before c.args.epoch) c.loop-i.entries.items c.loop-i.i old new here still ∙ i.before;
      kept = λ m h. All-set (IsKept c.args.epoch m) c.loop-i.entries.items c.loop-i.i new
          (let (short, past) = subst (IsKept c.args.epoch m) (sym here) (i.kept m h c.loop-i.i old (omega arith)) in
          (c.take_back.ensures.short m short, let less = c.take_back.ensures.epoch.1 in omega (arith, past, less))) (i.kept m h);
      long = length-set c.loop-i.entries.items c.loop-i.i new ∙ i.long;
    }
