use Rattle.std.proofs.Common.{◌≤◌, length, refl, arith, rules, le-leb}
use Rattle.std.specs.Prelude.{All}
use Rattle.std.proofs.lemmas.Bool.Decides.{nat_tests}
use Rattle.fast_tree.specs.meaning.AsWritten.{IsNameByte}
use Rattle.fast_notation.proofs.lists.Lists.{all_taken}
use Rattle.fast_notation.proofs.texts.NameTests.{bytes_pass}
use Rattle.fast_notation.proofs.names.is_name.Goals as goal

pub returns-then-not-is_empty-clause-test : goal.returns-then-not-is_empty-clause-test
returns-then-not-is_empty-clause-test c =
    let s = c.args.name.now in
    let all : All IsNameByte s = search (rules, all_taken IsNameByte s c.loop-b.b-index) in
    let some : 1 ≤ length s = grind (arith, nat_tests) in
    rw (bytes_pass s all, le-leb 1 (length s) some) refl
