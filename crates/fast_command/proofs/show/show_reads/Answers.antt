use Rattle.std.proofs.Common.{◌≡◌, ◌⊎◌, ℕ, ◌<◌, ◌≤◌, List, [], refl, sym, ap, inl, inr, length, length-take, take, arith, ◌∙◌}
use Rattle.std.specs.Prelude.{IsTrue}
use Rattle.std.specs.Io.KnownBytes.{IsAtEnd}
use Rattle.fast_template.specs.meaning.Flat.{tree_of}
use Rattle.fast_text.proofs.Writing.{reads_none}
use Rattle.fast_command.specs.meaning.Showing.{IsRefusal}
use Rattle.fast_command.proofs.Showing.{at_good, round_has_room, told_on, at_error, not_flushed, round_flushed, read_no_more, no_round}
use Rattle.fast_command.proofs.Showing.{run_ended, round_counts, round_more, ended_there}
use Rattle.fast_command.proofs.show.show_reads.Goals as goal

pub loop-read-init : goal.loop-read-init
loop-read-init g c = record {
  round = no_round (tree_of c.args.templates.now) c.args.limits c.args.hex c.args.show.now (g.S.Source.left c.args.reader.now)
      (g.T.Target.written c.args.writer.now) c.requires.made;
  writer_stays = refl;
  reader_stays = refl;
}

pub returns-then-is_err-clause-shown : goal.returns-then-is_err-clause-shown
returns-then-is_err-clause-shown g c =
    let failed = at_error c.flush.result (sym c.if-is_err.ensures.value) c.flush.ensures.fails in
    not_flushed (tree_of c.args.templates.now) c.args.limits c.args.hex (IsRefusal c.args.templates.now c.args.limits) c.loop-read.show c.loop-read._read
    (IsAtEnd (g.S.Source.left c.loop-read.reader)) (IsTrue (g.T.Target.has_failed c.flush.new.self))
    (λ (text : List ℕ). IsTrue (g.S.Source.has_failed c.loop-read.reader) ⊎ (c.args.max_reads ≤ length text)) _ _ _ _ _
    c.loop-read.invariant.round c.flush.ensures.kept failed

pub returns-in-Err-clause-shown : goal.returns-in-Err-clause-shown
returns-in-Err-clause-shown g c =
    read_no_more (tree_of c.args.templates.now) c.args.limits c.args.hex (IsRefusal c.args.templates.now c.args.limits) c.loop-read.show c.loop-read._read
    (IsAtEnd (g.S.Source.left c.read.new.self)) (IsTrue (g.T.Target.has_failed c.flush.new.self))
    (λ (text : List ℕ). IsTrue (g.S.Source.has_failed c.read.new.self) ⊎ (c.args.max_reads ≤ length text)) _ _ _ _ _
    (round_flushed c.flush.ensures.kept c.loop-read.invariant.round) c.in-Err.ensures.kept (inl c.in-Err.ensures.fails)

pub returns-then-count-eq0-clause-shown : goal.returns-then-count-eq0-clause-shown
returns-then-count-eq0-clause-shown g c =
    let h = round_flushed c.flush.ensures.kept c.loop-read.invariant.round in
    let none : take c.in-Ok.count c.read.new.buf ≡ [] = ap (λ (n : ℕ). take n c.read.new.buf) c.if-count-eq0.true in
    let given = rw none at c.in-Ok.ensures.bytes in
    let room : 0 < length c.read.new.buf = omega (arith, c.read.auto.buf) in
    let over = c.in-Ok.ensures.end c.if-count-eq0.true room in
    let w = c.end.ensures (tree_of c.args.templates.now) c.args.limits c.args.hex h.text h.bytes h.events h.progress in
    run_ended (tree_of c.args.templates.now) c.args.limits c.args.hex
    (IsRefusal c.args.templates.now c.args.limits) c.loop-read.show c.loop-read._read (Unit {0})
    (IsAtEnd (g.S.Source.left c.read.new.self)) (IsTrue (g.T.Target.has_failed c.end.new.writer))
    (λ (text : List ℕ). IsTrue (g.S.Source.has_failed c.read.new.self) ⊎ (c.args.max_reads ≤ length text)) _ _ _ _ _
    [] c.end.result h given (λ _. over) (λ failed. failed) (ended_there w)

pub take-requires-clause-counted : goal.take-requires-clause-counted
take-requires-clause-counted g c =
    let small : length (take c.in-Ok.count c.read.new.buf) ≤ 4096 = omega (arith, length-take c.in-Ok.count c.read.new.buf, c.read.auto.buf) in
    round_counts (tree_of c.args.templates.now) c.args.limits c.args.hex c.loop-read.show c.loop-read._read c.args.max_reads _ _ _ _ _
    c.loop-read.invariant.round c.loop-read-test.true c.requires.few small

pub returns-in-Some-clause-shown : goal.returns-in-Some-clause-shown
returns-in-Some-clause-shown g c =
    let h = round_flushed c.flush.ensures.kept c.loop-read.invariant.round in
    let piece = take c.in-Ok.count c.read.new.buf in
    let w = c.in-Some.ensures (tree_of c.args.templates.now) c.args.limits c.args.hex h.text h.bytes h.events h.progress in
    run_ended (tree_of c.args.templates.now) c.args.limits c.args.hex (IsRefusal c.args.templates.now c.args.limits) c.loop-read.show c.loop-read._read ⊥
    (IsAtEnd (g.S.Source.left c.read.new.self)) (IsTrue (g.T.Target.has_failed c.take.new.writer))
    (λ (text : List ℕ). IsTrue (g.S.Source.has_failed c.read.new.self) ⊎ (c.args.max_reads ≤ length text)) _ _ _ _ _ piece c.in-Some.result
    h c.in-Ok.ensures.bytes (λ never. absurd never) (λ failed. failed) w

pub loop-read-preserved : goal.loop-read-preserved
loop-read-preserved g c =
    let h = round_flushed c.flush.ensures.kept c.loop-read.invariant.round in
    let piece = take c.in-Ok.count c.read.new.buf in
    let on = c.in_default.ensures (tree_of c.args.templates.now) c.args.limits c.args.hex h.text h.bytes h.events h.progress in
    let some : 0 < length (take c.in-Ok.count c.read.new.buf) = omega (arith, length-take c.in-Ok.count c.read.new.buf, c.in-Ok.ensures.count) in
    let small : length (take c.in-Ok.count c.read.new.buf) ≤ 4096 = omega (arith, length-take c.in-Ok.count c.read.new.buf, c.read.auto.buf) in
    record {
      round = round_more (tree_of c.args.templates.now) c.args.limits c.args.hex c.loop-read.show c.take.new.self c.loop-read._read _ _ _ _
          _ piece h c.in-Ok.ensures.bytes some small on;
      writer_stays = on.as_before ∙ at_good c.flush.result (sym c.if-is_err.ensures.value) c.flush.ensures.stays ∙ c.loop-read.invariant.writer_stays;
      reader_stays = c.in-Ok.ensures.stays ∙ c.loop-read.invariant.reader_stays;
    }

pub returns-clause-shown : goal.returns-clause-shown
returns-clause-shown g c =
    let h = c.loop-read.invariant.round in
    let many : c.args.max_reads ≤ length h.text = let all = h.many in omega arith in
    read_no_more (tree_of c.args.templates.now) c.args.limits c.args.hex (IsRefusal c.args.templates.now c.args.limits) c.loop-read.show c.loop-read._read
    (IsAtEnd (g.S.Source.left c.loop-read.reader)) (IsTrue (g.T.Target.has_failed c.loop-read.writer))
    (λ (text : List ℕ). IsTrue (g.S.Source.has_failed c.loop-read.reader) ⊎ (c.args.max_reads ≤ length text)) _ _ _ _ _ h (reads_none _) (inr many)

pub take-requires-clause-room : goal.take-requires-clause-room
take-requires-clause-room g c =
    let small : length (take c.in-Ok.count c.read.new.buf) ≤ 4096 = omega (arith, length-take c.in-Ok.count c.read.new.buf, c.read.auto.buf) in
    round_has_room (tree_of c.args.templates.now) c.args.limits c.args.hex c.loop-read.show c.loop-read._read c.args.max_reads _ _ _ _ _
    c.loop-read.invariant.round c.loop-read-test.true c.requires.few small

pub returns-then-count-eq0-clause-writer_told : goal.returns-then-count-eq0-clause-writer_told
returns-then-count-eq0-clause-writer_told g c =
    let h = round_flushed c.flush.ensures.kept c.loop-read.invariant.round in
    let w = c.end.ensures (tree_of c.args.templates.now) c.args.limits c.args.hex h.text h.bytes h.events h.progress in
    told_on w.told (at_good c.flush.result (sym c.if-is_err.ensures.value) c.flush.ensures.stays ∙ c.loop-read.invariant.writer_stays)

pub returns-in-Some-clause-writer_told : goal.returns-in-Some-clause-writer_told
returns-in-Some-clause-writer_told g c =
    let h = round_flushed c.flush.ensures.kept c.loop-read.invariant.round in
    let w = c.in-Some.ensures (tree_of c.args.templates.now) c.args.limits c.args.hex h.text h.bytes h.events h.progress in
    told_on w.told (at_good c.flush.result (sym c.if-is_err.ensures.value) c.flush.ensures.stays ∙ c.loop-read.invariant.writer_stays)

pub returns-then-is_err-clause-writer_told : goal.returns-then-is_err-clause-writer_told
returns-then-is_err-clause-writer_told g c = inl refl

pub returns-then-is_err-clause-reader_told : goal.returns-then-is_err-clause-reader_told
returns-then-is_err-clause-reader_told g c = inr c.loop-read.invariant.reader_stays

pub returns-in-Err-clause-writer_told : goal.returns-in-Err-clause-writer_told
returns-in-Err-clause-writer_told g c = inr (at_good c.flush.result (sym c.if-is_err.ensures.value) c.flush.ensures.stays ∙ c.loop-read.invariant.writer_stays)

pub returns-in-Err-clause-reader_told : goal.returns-in-Err-clause-reader_told
returns-in-Err-clause-reader_told g c = inl refl

pub returns-then-count-eq0-clause-reader_told : goal.returns-then-count-eq0-clause-reader_told
returns-then-count-eq0-clause-reader_told g c = inr (c.in-Ok.ensures.stays ∙ c.loop-read.invariant.reader_stays)

pub take-requires-clause-few : goal.take-requires-clause-few
take-requires-clause-few g c = omega (arith, length-take c.in-Ok.count c.read.new.buf, c.read.auto.buf)

pub returns-in-Some-clause-reader_told : goal.returns-in-Some-clause-reader_told
returns-in-Some-clause-reader_told g c = inr (c.in-Ok.ensures.stays ∙ c.loop-read.invariant.reader_stays)

pub returns-clause-writer_told : goal.returns-clause-writer_told
returns-clause-writer_told g c = inr c.loop-read.invariant.writer_stays

pub returns-clause-reader_told : goal.returns-clause-reader_told
returns-clause-reader_told g c = inl refl
