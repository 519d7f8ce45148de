use Rattle.std.proofs.Common.{◌≤◌, ◌<◌, ◌∙◌, ◌⊎◌, inl, inr, ap, length, get_or, subst, arith}
use Rattle.std.specs.Prelude.{bit_and}
use Rattle.std.proofs.Math.ListN.{get_or-eq_default}
use Rattle.std.proofs.lemmas.Bool.{cases_lt}
use Rattle.fast_fronts.proofs.stop_bits.ShortEntities.{one_byte}
use Rattle.fast_fronts.proofs.words.byte_in.Goals as goal

pub returns : goal.returns
returns c =
    let bytes = c.args.bytes.now in
    let stop : 128 ≤ get_or bytes 0 0 = subst (λ n. 128 ≤ n) c.first_in-byte.ensures c.if-byte-lt128.false in
    one_byte bytes c.from.result (some stop (cases_lt 0 (length bytes))) stop
    (c.from.ensures ∙ ap (λ n. bit_and n 127) c.first_in-byte.ensures)
  where
    some : 128 ≤ get_or c.args.bytes.now 0 0 → (0 < length c.args.bytes.now) ⊎ (length c.args.bytes.now ≤ 0) → 0 < length c.args.bytes.now
    some stop (inl h) = h
    some stop (inr h) = absurd (omega (arith, stop, get_or-eq_default c.args.bytes.now 0 h))
