-- One entry more is of no message.
use Rattle.std.proofs.Common.{◌∙◌, sym, subst, arith}
use Rattle.std.proofs.lemmas.List.{length-set}
use Rattle.std.proofs.lemmas.List.Elements.{All-set}
use Rattle.fast_spelling.specs.meaning.Entries.{entry_now, IsShort}
use Rattle.fast_spelling.proofs.bytes.Ledgers.{same_at, settled_more}
use Rattle.fast_spelling.proofs.ledger.settle_all.Goals as goal

pub loop-i-preserved : goal.loop-i-preserved
loop-i-preserved c =
    let i = c.loop-i.invariant in
    record {
      now = same_at entry_now c.loop-i.entries.items c.loop-i.i c.index_mut.result.now c.settle.new.self c.index_mut.ensures.value c.settle.ensures.now ∙ i.now;
      short = λ m h. All-set (IsShort m) c.loop-i.entries.items c.loop-i.i c.settle.new.self
          (c.settle.ensures.short m (subst (IsShort m) (sym c.index_mut.ensures.value)
          (i.short m h c.loop-i.i c.index_mut.result.now (omega arith)))) (i.short m h);
      settled = settled_more c.loop-i.entries.items c.loop-i.i c.settle.new.self (omega arith) c.settle.ensures.epoch i.settled;
      long = length-set c.loop-i.entries.items c.loop-i.i c.settle.new.self ∙ i.long;
    }
