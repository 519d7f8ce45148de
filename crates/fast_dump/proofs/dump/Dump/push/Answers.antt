use Rattle.std.proofs.Common.{[], ◌∷◌}
use Rattle.fast_lines.specs.meaning.Lines.{lines}
use Rattle.fast_command.proofs.Progressing.{no_fault, this_fault}
use Rattle.fast_dump.proofs.Dumping.{cut_keep, progress_more, cut_settle, fault_ends}
use Rattle.fast_dump.proofs.dump.Dump.push.Goals as goal

pub returns-in-Err : goal.returns-in-Err
returns-in-Err g c first t l b es p counted =
    cut_keep _ _ first t l _ c.keep.new.self b (c.args.byte ∷ []) es p (c.in-Err.ensures.torn first.held first.had_failed t b (lines t es) p.page counted)

pub returns-in-Ok-settle : goal.returns-in-Ok-settle
returns-in-Ok-settle g c first t l b es p counted =
    let page = c.in-Ok.ensures.gains first.held first.had_failed t b (lines t es) p.page in
    progress_more _ _ first t l c.args.self.now (record {
      decoder = c.push-fed.new.self;
      page = c.settle.new.self;
    }) c.keep.new.self c.push-fed.new.sink b (c.args.byte ∷ []) es p page c.push-fed.ensures.same_set
    (no_fault _ tt c.in-Ok-fed.ensures.answer) (c.in-Ok-fed.ensures.carried b es p.so) c.in-Ok-settle.ensures

pub returns-in-Err-settle : goal.returns-in-Err-settle
returns-in-Err-settle g c first t l b es p counted =
    let page = c.in-Ok.ensures.gains first.held first.had_failed t b (lines t es) p.page in
    cut_settle _ _ first t l c.args.self.now c.push-fed.new.self c.keep.new.self c.push-fed.new.sink c.settle.new.self b
    (c.args.byte ∷ []) es _ p page c.push-fed.ensures.same_set (no_fault _ tt c.in-Ok-fed.ensures.answer)
    (c.in-Ok-fed.ensures.carried b es p.so) c.in-Err-settle.ensures

pub returns-in-Err-fed : goal.returns-in-Err-fed
returns-in-Err-fed g c first t l b es p counted =
    let page = c.in-Ok.ensures.gains first.held first.had_failed t b (lines t es) p.page in
    fault_ends _ _ first t l c.args.self.now c.push-fed.new.self c.keep.new.self c.push-fed.new.sink c.close.new.self.page b c.args.byte es
    c.in-Err-fed.fault c.close.result p counted page c.push-fed.ensures.same_set (this_fault _ _ c.in-Err-fed.ensures.answer)
    (c.in-Err-fed.ensures.carried b es p.so) c.close.ensures.closes
