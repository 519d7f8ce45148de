use Rattle.std.proofs.Common.{◌-◌, ◌<◌, All, length, drop, subst, sym, arith}
use Rattle.std.proofs.lemmas.List.{take_all, length-drop}
use Rattle.fast_fronts.specs.device.Fronts.{IsTail}
use Rattle.std.proofs.lemmas.List.Elements.{All-drop}
use Rattle.fast_fronts.proofs.stop_bits.Tails.{skipped}
use Rattle.fast_fronts.proofs.rest.Rest.skip.Goals as goal

pub invariant_of-result : goal.invariant_of-result
invariant_of-result c =
    let w = c.args.self.bytes.now in
    let n = c.args.count in
    let all = take_all (length w - n) (drop n w) (omega (arith, length-drop n w)) in
    record {
      numbers = subst (All (λ byte. byte < 256)) (sym all) (All-drop (λ byte. byte < 256) n w c.args.self.numbers);
      last = subst (IsTail c.args.self.tail) (sym all) (skipped c.args.self.tail n w c.args.self.numbers c.requires c.args.self.last);
    }
