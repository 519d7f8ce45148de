-- Each message is encoded from the dictionary that those before it have left.
use Rattle.std.proofs.Common.{◌≡◌, ◌∙◌, rules, inr, get_or, sym}
use Rattle.std.specs.Prelude.{IsTrue}
use Rattle.fast_spelling.specs.declared.faults.EncodeFault.TheVariants as Fault
use Rattle.fast_encoder.specs.meaning.Encoders.{tree}
use Rattle.fast_command.proofs.Showing.{at_good, at_error}
use Rattle.fast_convert.proofs.Coded.{coded_from, refused_from, so_more, so_cut, so_without, so_refused}
use Rattle.fast_convert.proofs.convert.write_messages.Goals as goal

pub returns-in-Err-Memory-clause-written : goal.returns-in-Err-Memory-clause-written
returns-in-Err-Memory-clause-written g c =
    let e = c.args.encoder.now in
    so_without (tree e) e.limits c.args.hex e.dictionary c.args.messages.now c.loop-number.number _ _ c.loop-number.encoder.dictionary
    (IsTrue (g.T.Target.has_failed c.loop-number.writer)) c.loop-number.invariant.so

pub returns-in-Err : goal.returns-in-Err
returns-in-Err g c =
    let e = c.args.encoder.now in
    let m = c.index-messages-number.result in
    let there : get_or c.args.messages.now c.loop-number.number m ≡ m = search rules in
    let other : ¬ (c.in-Err.fault ≡ Fault.Memory) = search (rules, c.in-Err.is) in
    let refused = refused_from e c.loop-number.encoder _ c.in-Err.fault c.loop-number.invariant.set c.loop-number.invariant.limits other c.in-Err.ensures.err in
    record {
      written = so_refused (tree e) e.limits c.args.hex e.dictionary c.args.messages.now c.loop-number.number _ _ _ m c.in-Err.fault
          (IsTrue (g.T.Target.has_failed c.loop-number.writer)) c.loop-number-test.true there c.loop-number.invariant.so refused;
      told = inr c.loop-number.invariant.stays;
    }

pub returns-then-is_err-clause-written : goal.returns-then-is_err-clause-written
returns-then-is_err-clause-written g c =
    let e = c.args.encoder.now in
    let m = c.index-messages-number.result in
    let there : get_or c.args.messages.now c.loop-number.number m ≡ m = search rules in
    let one = coded_from e c.loop-number.encoder c.encode.new.self _ _ _ c.loop-number.invariant.set c.loop-number.invariant.limits
    c.clear.ensures.items (rw c.deref.ensures.value at c.write_bytes.ensures.bytes) c.in-Ok.ensures.ok in
    let part = rw c.deref.ensures.value at (at_error c.write_bytes.result (sym c.if-is_err.ensures.value) c.write_bytes.ensures.part) in
    let failed = at_error c.write_bytes.result (sym c.if-is_err.ensures.value) c.write_bytes.ensures.fails in
    so_cut (tree e) e.limits c.args.hex e.dictionary c.args.messages.now c.loop-number.number _ _ _ _ _ m c.encode.new.out.items _
    c.loop-number-test.true there c.loop-number.invariant.so one part failed

pub loop-number-preserved : goal.loop-number-preserved
loop-number-preserved g c =
    let e = c.args.encoder.now in
    let m = c.index-messages-number.result in
    let there : get_or c.args.messages.now c.loop-number.number m ≡ m = search rules in
    let one = coded_from e c.loop-number.encoder c.encode.new.self _ _ _ c.loop-number.invariant.set c.loop-number.invariant.limits
    c.clear.ensures.items (rw c.deref.ensures.value at c.write_bytes.ensures.bytes) c.in-Ok.ensures.ok in
    let written = rw c.deref.ensures.value at (at_good c.write_bytes.result (sym c.if-is_err.ensures.value) c.write_bytes.ensures.written) in
    let stays = at_good c.write_bytes.result (sym c.if-is_err.ensures.value) c.write_bytes.ensures.stays in
    record {
      so = so_more (tree e) e.limits c.args.hex e.dictionary c.args.messages.now c.loop-number.number _ _ _ _ _ m c.encode.new.out.items
          c.loop-number-test.true there c.loop-number.invariant.so one written;
      set = c.encode.ensures.same_set.0 ∙ c.loop-number.invariant.set;
      limits = c.encode.ensures.same_set.1 ∙ c.loop-number.invariant.limits;
      stays = stays ∙ c.loop-number.invariant.stays;
    }
