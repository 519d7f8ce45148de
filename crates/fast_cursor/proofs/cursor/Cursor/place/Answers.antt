use Rattle.std.proofs.Common.{subst, take, drop, length, ◌-◌}
use Rattle.fast_cursor.specs.device.Cursors.{CursorData}
use Rattle.fast_cursor.specs.device.MapPlaces.{IsWord}
use Rattle.fast_cursor.specs.device.Places.{IsAhead}
use Rattle.fast_cursor.proofs.Runs.{ahead-at}
use Rattle.fast_cursor.proofs.cursor.Cursor.place.Goals as goal

pub returns-clause-place : goal.returns-clause-place
returns-clause-place c =
    let i = c.self.inside in
    let ahead = take (length i.ops.now - i.ip) (drop i.ip i.ops.now) in
    record {
      ahead = subst (λ (d : CursorData). IsAhead d.ops ahead) c.self.view_is (ahead-at i.ops.now i.ip c.self.invariant.run);
      word = subst (λ (d : CursorData). IsWord d.map d.ends i.map.word) c.self.view_is c.self.invariant.place.is;
    }
