use Rattle.std.proofs.Common.{◌≡◌, suc, true, refl, subst, arith}
use Rattle.std.specs.Prelude.{pos, option_map}
use Rattle.fast_wire.specs.meaning.Entities.{number}
use Rattle.fast_wire.specs.meaning.Integers.{Means}
use Rattle.fast_wire.proofs.numbers.Judging.{not_so, above_top}
use Rattle.fast_wire.proofs.reads.judge_nullable_unsigned.Goals as goal

pub returns-then-is_refused_unsigned-clause-overlong : goal.returns-then-is_refused_unsigned-clause-overlong
returns-then-is_refused_unsigned-clause-overlong c = (λ _. c.if-is_refused_unsigned.ensures.0 refl, λ _. refl)

pub returns-then-x-from-clause-outside : goal.returns-then-x-from-clause-outside
returns-then-x-from-clause-outside c =
    let sent : pos (number c.args.w.now) ≡ pos (suc c.in-Some.x) =
    subst (λ x. Means true (pos (number c.args.w.now)) (option_map pos x)) c.in-Some.is c.requires.meaning in
    λ _. above_top c.args.strict c.args.top c.in-Some.x c.args.w.now
    (record {
      entity = c.requires.entity;
      short = c.requires.short;
      shortest = λ s o. not_so _ _ c.is_refused_unsigned.ensures c.if-is_refused_unsigned.false (s, o);
    })
    (cc) (omega arith)
