use Rattle.std.proofs.Common.{ap, sym, subst, ◌∙◌, List, ℕ}
use Rattle.fast_program.specs.device.Runs.{run_nodes}
use Rattle.fast_cursor.specs.device.MapPlaces.{used_at}
use Rattle.fast_cursor.specs.device.Places.{IsAhead}
use Rattle.fast_cursor.proofs.Runs.{nodes-past, from_on, ahead-next}
use Rattle.fast_cursor.proofs.place.Place.advance.Goals as goal

pub returns-clause-left : goal.returns-clause-left
returns-clause-left c d =
    let ahead = c.args.self.now.ahead.now in
    ap (λ (ns : List ℕ). record d {
      left = ns;
      used = used_at d.map d.ends c.args.self.now.word;
    }) (ap run_nodes (from_on 1 ahead) ∙ nodes-past ahead c.requires)

pub returns-clause-place : goal.returns-clause-place
returns-clause-place c d h =
    let ahead = c.args.self.now.ahead.now in
    record { ahead = subst (IsAhead d.ops) (sym (from_on 1 ahead)) (ahead-next d.ops ahead c.requires h.ahead); word = h.word }
