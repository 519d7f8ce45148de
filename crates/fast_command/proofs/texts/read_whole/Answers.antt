use Rattle.std.proofs.Common.{◌≡◌, ◌<◌, ◌++◌, ◌∙◌, refl, ap, inl, inr, length, take, rules, []}
use Rattle.fast_text.proofs.Writing.{reads_none, reads_both, reads_no_more}
use Rattle.std.proofs.Common.{arith}
use Rattle.std.proofs.lemmas.Grind.{common_steps}
use Rattle.fast_command.proofs.texts.read_whole.Goals as goal

pub loop-read-init : goal.loop-read-init
loop-read-init g c = record { bytes = search (rules, reads_none); many = search rules; few = search rules; stays = refl }

pub loop-read-preserved : goal.loop-read-preserved
loop-read-preserved g c = record {
  bytes = let h = reads_both _ _ _ _ _ c.loop-read.invariant.bytes c.in-Ok.ensures.bytes in search (rules, h);
  many = search rules;
  few = search rules;
  stays = c.in-Ok.ensures.stays ∙ c.loop-read.invariant.stays;
}

pub returns-then-count-eq0-clause-whole : goal.returns-then-count-eq0-clause-whole
returns-then-count-eq0-clause-whole g c =
    let none : take c.in-Ok.count c.read.new.buf ≡ [] = ap (λ n. take n c.read.new.buf) c.if-count-eq0.true in
    reads_no_more _ _ _ _ c.loop-read.invariant.bytes (rw none at c.in-Ok.ensures.bytes)

pub returns-then-len-limit-clause-unread : goal.returns-then-len-limit-clause-unread
returns-then-len-limit-clause-unread g c =
    let text = c.loop-read.text.items in
    let piece = take c.in-Ok.count c.read.new.buf in
    let long : c.args.limit < length (text ++ piece) = search rules in
    inr (text ++ piece, reads_both _ _ _ text piece c.loop-read.invariant.bytes c.in-Ok.ensures.bytes, long)

pub returns-in_default-clause-told : goal.returns-in_default-clause-told
returns-in_default-clause-told g c = inl refl

pub returns-then-count-eq0-clause-told : goal.returns-then-count-eq0-clause-told
returns-then-count-eq0-clause-told g c = inr (c.in-Ok.ensures.stays ∙ c.loop-read.invariant.stays)

pub returns-then-count-eq0-clause-short : goal.returns-then-count-eq0-clause-short
returns-then-count-eq0-clause-short g c = c.loop-read.invariant.few

pub returns-then-is_err-clause-told : goal.returns-then-is_err-clause-told
returns-then-is_err-clause-told g c = inr (c.in-Ok.ensures.stays ∙ c.loop-read.invariant.stays)

pub returns-then-len-limit-clause-told : goal.returns-then-len-limit-clause-told
returns-then-len-limit-clause-told g c = inl refl

pub returns-clause-told : goal.returns-clause-told
returns-clause-told g c = inl refl

pub returns-in_default-clause-unread : goal.returns-in_default-clause-unread
returns-in_default-clause-unread g c = inl c.in_default.ensures.fails

pub returns-then-count-eq0-clause-end : goal.returns-then-count-eq0-clause-end
returns-then-count-eq0-clause-end g c = let room : 0 < length c.read.new.buf = omega (arith, c.read.auto.buf) in c.in-Ok.ensures.end c.if-count-eq0.true room

pub returns-clause-unread : goal.returns-clause-unread
returns-clause-unread g c = grind (arith, common_steps) steps 2000000

pub overflow_step-read : goal.overflow_step-read
overflow_step-read g c = omega arith

pub loop-read-smaller : goal.loop-read-smaller
loop-read-smaller g c = omega arith
