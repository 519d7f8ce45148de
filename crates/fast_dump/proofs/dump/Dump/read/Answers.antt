use Rattle.std.proofs.Common.{◌≡◌, ◌⊎◌, ◌∙◌, ℕ, ◌<◌, ◌≤◌, [], ◌++◌, refl, ap, inl, inr, length, length-take, take, arith}
use Rattle.std.specs.Prelude.{IsTrue}
use Rattle.std.specs.Io.KnownBytes.{IsAtEnd}
use Rattle.fast_decoder.specs.meaning.Decoding.{tree}
use Rattle.fast_text.proofs.Writing.{reads_both, reads_no_more}
use Rattle.fast_dump.specs.declared.dump.Dump.{Dump}
use Rattle.fast_dump.specs.device.Progress.{Rows, start_at}
use Rattle.fast_dump.proofs.Rounds.{no_round, round_flushed, round_more, round_counts, stopped_read, stopped_bad, bad_stands}
use Rattle.fast_dump.proofs.Rounds.{ends_inside_piece, flush_cut, dumped_more}
use Rattle.fast_dump.proofs.dump.Dump.read.Goals as goal

pub loop-read-init : goal.loop-read-init
loop-read-init g c = no_round _ _ _ _ _ c.args.self.now c.args.unhexer.now _ c.requires.begun c.requires.taken

pub returns : goal.returns
returns g c =
    let h = c.loop-read.invariant in
    let many : c.args.max_reads ≤ length h.text = let all = h.many in omega (arith, all, c.loop-read-test.false) in (
      h.text,
      h.read,
      stopped_read _ _ _ _ _ _ _ _ c.loop-read.self c.loop-read.unhexer c.stop-2.new.self.page h.text h.bytes h.events
          c.stop-2.result h.progress h.hex_is h.taken (inr many) (c.stop-2.ensures _ _ _ h.bytes h.events h.progress),
    )

pub returns-in-Err : goal.returns-in-Err
returns-in-Err g c =
    let h = c.loop-read.invariant in (
      h.text,
      h.read,
      flush_cut _ _ _ _ _ _ (Unit {0}) (Unit {0}) c.loop-read.self c.loop-read.unhexer c.flush.new.self h.text h.bytes
          h.events _ h.progress h.hex_is h.taken c.in-Err.ensures,
    )

pub returns-in-Err-read : goal.returns-in-Err-read
returns-in-Err-read g c =
    let s : Dump _ = record { decoder = c.loop-read.self.decoder; page = c.flush.new.self } in
    let f = round_flushed _ _ _ _ _ _ c.loop-read.self s c.loop-read.unhexer _ _ _ refl c.in-Ok.ensures c.loop-read.invariant in (
      f.text,
      reads_no_more _ _ _ f.text f.read c.in-Err-read.ensures.kept,
      stopped_read _ _ _ _ _ _ _ _ s c.loop-read.unhexer c.stop.new.self.page f.text f.bytes f.events c.stop.result f.progress f.hex_is
          f.taken (inl c.in-Err-read.ensures.fails) (c.stop.ensures _ _ _ f.bytes f.events f.progress),
    )

pub returns-then-count-eq0 : goal.returns-then-count-eq0
returns-then-count-eq0 g c =
    let s : Dump _ = record { decoder = c.loop-read.self.decoder; page = c.flush.new.self } in
    let f = round_flushed _ _ _ _ _ _ c.loop-read.self s c.loop-read.unhexer _ _ _ refl c.in-Ok.ensures c.loop-read.invariant in
    let none : take c.in-Ok-read.count c.read.new.buf ≡ [] = ap (λ (n : ℕ). take n c.read.new.buf) c.if-count-eq0.true in
    let given = rw none at c.in-Ok-read.ensures.bytes in
    let room : 0 < length c.read.new.buf = omega (arith, c.read.auto.buf) in
    let over = c.in-Ok-read.ensures.end c.if-count-eq0.true room in (
      f.text,
      reads_no_more _ _ _ f.text f.read given,
      dumped_more _ _ _ (Unit {0}) ⊥ (IsAtEnd (g.S.Source.left c.read.new.self))
          (IsTrue (g.S.Source.has_failed c.read.new.self) ⊎ (c.args.max_reads ≤ length f.text))
          (Rows g.T.Target.written g.T.Target.has_failed (start_at g.T.Target.written g.T.Target.has_failed c.args.self.now.page.target)
          (tree c.args.self.now.decoder) c.end.new.self.page.target) f.text c.end.result (λ u. over) (λ x. absurd x)
          (rw f.hex_is at (c.end.ensures _ _ _ f.text f.bytes f.events f.progress f.taken)),
    )

pub returns-in-Some : goal.returns-in-Some
returns-in-Some g c =
    let s : Dump _ = record { decoder = c.loop-read.self.decoder; page = c.flush.new.self } in
    let f = round_flushed _ _ _ _ _ _ c.loop-read.self s c.loop-read.unhexer _ _ _ refl c.in-Ok.ensures c.loop-read.invariant in
    let piece = take c.in-Ok-read.count c.read.new.buf in
    let bytes = c.bytes_of-bytes.result.now in
    let small : length bytes ≤ 4096 = omega (arith, length-take c.in-Ok-read.count c.read.new.buf, c.read.auto.buf, c.bytes_of-bytes.ensures.few) in
    let counted = round_counts _ _ _ _ _ _ s c.loop-read.unhexer _ c.args.max_reads (length bytes) _ _ f c.loop-read-test.true c.requires.few small in
    let goes = rw c.in-Some.is at (c.take.ensures _ _ _ f.bytes f.events f.progress counted) in (
      f.text ++ piece,
      reads_both _ _ _ f.text piece f.read c.in-Ok-read.ensures.bytes,
      ends_inside_piece _ _ _ _ _ _ c.bytes_of-bytes.new.unhexer (f.text ++ piece) (f.bytes ++ bytes) c.in-Some.ending
          (c.bytes_of-bytes.ensures.same ∙ f.hex_is) (c.bytes_of-bytes.ensures.taken f.text f.bytes f.taken) goes,
    )

pub returns-in-Some-bad_character : goal.returns-in-Some-bad_character
returns-in-Some-bad_character g c =
    let s : Dump _ = record { decoder = c.loop-read.self.decoder; page = c.flush.new.self } in
    let f = round_flushed _ _ _ _ _ _ c.loop-read.self s c.loop-read.unhexer _ _ _ refl c.in-Ok.ensures c.loop-read.invariant in
    let piece = take c.in-Ok-read.count c.read.new.buf in
    let bytes = c.bytes_of-bytes.result.now in
    let few : length piece ≤ 4096 = omega (arith, length-take c.in-Ok-read.count c.read.new.buf, c.read.auto.buf) in
    let some : 0 < length piece = omega (arith, length-take c.in-Ok-read.count c.read.new.buf, c.in-Ok-read.ensures.count, c.if-count-eq0.false) in
    let small : length bytes ≤ 4096 = omega (arith, few, c.bytes_of-bytes.ensures.few) in
    let counted = round_counts _ _ _ _ _ _ s c.loop-read.unhexer _ c.args.max_reads (length bytes) _ _ f c.loop-read-test.true c.requires.few small in
    let goes = rw c.in_default.is at (c.take.ensures _ _ _ f.bytes f.events f.progress counted) in
    let r = round_more _ _ _ _ _ _ s c.take.new.self c.loop-read.unhexer c.bytes_of-bytes.new.unhexer _ _ _ _ piece bytes f
    c.in-Ok-read.ensures.bytes some few c.bytes_of-bytes.ensures.same (c.bytes_of-bytes.ensures.taken f.text f.bytes f.taken) goes in (
      r.text,
      r.read,
      stopped_bad _ _ _ _ _ _ _ _ c.take.new.self c.stop-in-Some-bad_character.new.self.page r.text r.bytes r.events
          c.in-Some-bad_character.place c.stop-in-Some-bad_character.result r.progress
          (bad_stands _ c.bytes_of-bytes.new.unhexer r.text r.bytes c.in-Some-bad_character.place r.hex_is
          c.in-Some-bad_character.ensures.found r.taken) (c.stop-in-Some-bad_character.ensures _ _ _ r.bytes r.events r.progress),
    )

pub loop-read-preserved : goal.loop-read-preserved
loop-read-preserved g c =
    let s : Dump _ = record { decoder = c.loop-read.self.decoder; page = c.flush.new.self } in
    let f = round_flushed _ _ _ _ _ _ c.loop-read.self s c.loop-read.unhexer _ _ _ refl c.in-Ok.ensures c.loop-read.invariant in
    let piece = take c.in-Ok-read.count c.read.new.buf in
    let bytes = c.bytes_of-bytes.result.now in
    let few : length piece ≤ 4096 = omega (arith, length-take c.in-Ok-read.count c.read.new.buf, c.read.auto.buf) in
    let some : 0 < length piece = omega (arith, length-take c.in-Ok-read.count c.read.new.buf, c.in-Ok-read.ensures.count, c.if-count-eq0.false) in
    let small : length bytes ≤ 4096 = omega (arith, few, c.bytes_of-bytes.ensures.few) in
    let counted = round_counts _ _ _ _ _ _ s c.loop-read.unhexer _ c.args.max_reads (length bytes) _ _ f c.loop-read-test.true c.requires.few small in
    let goes = rw c.in_default.is at (c.take.ensures _ _ _ f.bytes f.events f.progress counted) in
    round_more _ _ _ _ _ _ s c.take.new.self c.loop-read.unhexer c.bytes_of-bytes.new.unhexer _ _ _ _ piece bytes f
    c.in-Ok-read.ensures.bytes some few c.bytes_of-bytes.ensures.same (c.bytes_of-bytes.ensures.taken f.text f.bytes f.taken) goes
