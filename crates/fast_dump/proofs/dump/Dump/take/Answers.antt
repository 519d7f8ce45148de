use Rattle.std.proofs.Common.{◌≡◌, ◌+◌, ◌<◌, [], ◌++◌, length, take, drop, append-nil, take_all, arith}
use Rattle.fast_dump.proofs.Dumping.{ends_more, progress_same, byte_more, bytes_after, byte_counts}
use Rattle.fast_dump.proofs.dump.Dump.take.Goals as goal

pub loop-k-init : goal.loop-k-init
loop-k-init g c first t s b es p counted = ([], rw (append-nil b, append-nil es) p)

pub loop-k-preserved : goal.loop-k-preserved
loop-k-preserved g c first t s b es p counted =
    let bytes = c.args.bytes.now in
    let h = c.loop-k.invariant first t s b es p counted in
    let more : c.loop-k.k < length bytes = omega (arith, c.loop-k-test.true, c.loop-k.auto.k-end) in
    let step = rw c.in_default.is at (c.push.ensures first t s (b ++ take c.loop-k.k bytes) (es ++ h.0) h.1 (byte_counts b bytes c.loop-k.k more counted)) in
    (h.0 ++ step.0, progress_same _ _ first t s c.push.new.self _ (b ++ take (c.loop-k.k + 1) bytes) es h.0 step.0 (byte_more b bytes c.loop-k.k _ more) step.1)

pub returns-in-Some : goal.returns-in-Some
returns-in-Some g c first t s b es p counted =
    let bytes = c.args.bytes.now in
    let h = c.loop-k.invariant first t s b es p counted in
    let more : c.loop-k.k < length bytes = omega (arith, c.loop-k-test.true, c.loop-k.auto.k-end) in
    let step = rw c.in-Some.is at (c.push.ensures first t s (b ++ take c.loop-k.k bytes) (es ++ h.0) h.1 (byte_counts b bytes c.loop-k.k more counted)) in
    ends_more t s _ _ (drop (c.loop-k.k + 1) bytes) (b ++ bytes) c.in-Some.ending (bytes_after b bytes c.loop-k.k _ more) step

pub returns : goal.returns
returns g c first t s b es p counted =
    let bytes = c.args.bytes.now in
    let h = c.loop-k.invariant first t s b es p counted in
    let all : take c.loop-k.k bytes ≡ bytes = take_all c.loop-k.k bytes c.loop-k-test.false in
    (h.0, rw all at h.1)
