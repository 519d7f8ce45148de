use Rattle.std.proofs.Common.{refl}
use Rattle.fast_dump.proofs.Paging.{flush_keeps}
use Rattle.fast_dump.proofs.page.Page.flush.Goals as goal

pub returns : goal.returns
returns g c = flush_keeps _ _ c.args.self.now _ c.flush.result c.flush.ensures.kept c.flush.ensures.stays c.flush.ensures.fails refl refl refl
