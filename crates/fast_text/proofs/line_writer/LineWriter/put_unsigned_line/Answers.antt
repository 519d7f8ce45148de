use Rattle.std.proofs.Common.{rules, ◌≡◌, ◌≤◌, ◌<◌, ◌+◌, ◌-◌, ℕ, suc, length, drop, ap, ◌∙◌, decimal, arith}
use Rattle.std.proofs.lemmas.Fmt.{length-decimal-le}
use Rattle.fast_text.proofs.Cells.{value_cells}
use Rattle.fast_text.proofs.Writing.{writes_same}
use Rattle.fast_text.proofs.line_writer.LineWriter.put_unsigned_line.Goals as goal

pub write_digits-start-requires : goal.write_digits-start-requires
write_digits-start-requires g c = let few : length (decimal c.args.number) ≤ 20 = search (rules, length-decimal-le 20) in (omega (arith, few), omega arith)

pub overflow_sub-at : goal.overflow_sub-at
overflow_sub-at g c = let few : length (decimal c.args.number) ≤ 20 = search (rules, length-decimal-le 20) in
    omega (arith, few, c.write_digits-start.ensures.start)

pub put_front-requires : goal.put_front-requires
put_front-requires g c =
    let few : length (decimal c.args.number) ≤ 20 = search (rules, length-decimal-le 20) in
    grind (arith, few, c.write_digits-start.ensures.start, c.write_digits-start.auto.buf)

pub returns : goal.returns
returns g c =
    let few : length (decimal c.args.number) ≤ 20 = search (rules, length-decimal-le 20) in
    let start = c.write_digits-start.ensures.start in
    let n : c.write_digits-start.result - 2 + 1 + 1 ≡ c.write_digits-start.result = omega (arith, few, start) in
    let long : c.write_digits-start.result - 2 + 1 < length c.write_digits-start.new.buf = omega (arith, few, start, c.write_digits-start.auto.buf) in
    let count : 23 - (c.write_digits-start.result - 2) ≡ suc (suc (length (decimal c.args.number) + 1)) = omega (arith, few, start) in
    let room : 23 - (c.write_digits-start.result - 2) ≤ c.write_digits-start.result - 2 + 24 - (c.write_digits-start.result - 2) = omega (arith, few, start) in
    writes_same (value_cells c.write_digits-start.new.buf (decimal c.args.number) _ (c.write_digits-start.result - 2) 117 32 10 _ _ long
    (ap (λ (k : ℕ). drop k c.write_digits-start.new.buf) n ∙ c.write_digits-start.ensures.written) count room) c.put_front.ensures
