use Rattle.std.proofs.Common.{refl, arith}
use Rattle.fast_dump.proofs.Paging.{page_gains}
use Rattle.fast_dump.proofs.Closing.{end_of}
use Rattle.fast_dump.proofs.page.Page.keep.Goals as goal

pub returns-clause-gains : goal.returns-clause-gains
returns-clause-gains g c held had t b ls h = page_gains _ _ held had t _ _ b ls _
    (c.in_ok-make_room.ensures.rows held had t b ls h) refl c.push.ensures.kept c.push.ensures.place refl refl

pub returns-then-end-eq18446744073709551615-clause-torn : goal.returns-then-end-eq18446744073709551615-clause-torn
returns-then-end-eq18446744073709551615-clause-torn g c held had t b ls h small =
    let page = c.in_ok-make_room.ensures.rows held had t b ls h in
    let all = end_of _ _ held had t _ b ls page (omega (arith, c.in_ok-make_room.ensures.room)) in
    let at = c.end.ensures in
    absurd (omega (arith, all, at, small, c.if-end-eq18446744073709551615.true))
