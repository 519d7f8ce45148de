-- One entry more is undefined.
use Rattle.std.proofs.Common.{◌≡◌, ◌∙◌, ap, sym, subst, length, get_or, arith}
use Rattle.std.specs.Prelude.{slice_set}
use Rattle.std.proofs.lemmas.List.{length-set, length-map, map-set}
use Rattle.std.proofs.lemmas.List.Elements.{All-set}
use Rattle.fast_dict.specs.meaning.Dictionary.{Dictionary, undefined}
use Rattle.fast_spelling.specs.meaning.Entries.{entry_now, entry_before}
use Rattle.fast_spelling.specs.meaning.Ledgers.{all_now, IsKept}
use Rattle.fast_spelling.proofs.bytes.Ledgers.{same_at, behind_more}
use Rattle.fast_spelling.proofs.ledger.undefine_from.Goals as goal

pub loop-i-preserved : goal.loop-i-preserved
loop-i-preserved c =
    let i = c.loop-i.invariant in
    let old = c.index_mut-slot.result.now in
    let new = c.undefine.new.self in
    let here : old ≡ get_or c.loop-i.entries.items c.loop-i.i old = c.index_mut-slot.ensures.value in
    let still : entry_before c.args.epoch new ≡ entry_before c.args.epoch old =
    c.undefine.ensures.before c.args.epoch (sym c.touch.ensures.epoch) ∙ c.touch.ensures.before in
    let long : length (all_now c.args.entries.now.items) ≡ length c.loop-i.entries.items = length-map c.args.entries.now.items entry_now ∙ sym i.long in
    record {
      now = map-set entry_now c.loop-i.entries.items c.loop-i.i new ∙ ap (λ (d : Dictionary). slice_set d c.loop-i.i (entry_now new)) i.now
          ∙ ap (slice_set _ c.loop-i.i) c.undefine.ensures.now
          ∙ behind_more undefined c.args.first (all_now c.args.entries.now.items) c.loop-i.i c.loop-i.auto.i (omega (arith, long));
      before = same_at (entry_before c.args.epoch) c.loop-i.entries.items c.loop-i.i old new here still ∙ i.before;
      kept = λ m h. All-set (IsKept c.args.epoch m) c.loop-i.entries.items c.loop-i.i new
          (let (short, past) = subst (IsKept c.args.epoch m) (sym here) (i.kept m h c.loop-i.i old (omega arith)) in (
            c.undefine.ensures.short m (c.touch.ensures.short m short),
            let same = c.undefine.ensures.epoch ∙ c.touch.ensures.epoch in
                omega (arith, same),
          )) (i.kept m h);
      long = length-set c.loop-i.entries.items c.loop-i.i new ∙ i.long;
    }
