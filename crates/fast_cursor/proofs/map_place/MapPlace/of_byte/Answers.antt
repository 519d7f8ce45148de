use Rattle.std.proofs.Common.{refl, ◌≡◌, arith, subst, ◌*◌, ◌%◌}
use Rattle.std.specs.Prelude.{◌+◌, [], ◌∷◌, ℕ, List, Bool, ◌++◌}
use Rattle.std.proofs.lemmas.List.{append-nil}
use Rattle.fast_wire.specs.meaning.Maps.{bits}
use Rattle.fast_cursor.specs.device.MapPlaces.{HasTop, left_in}
use Rattle.fast_cursor.proofs.MapWords.{top-word}
use Rattle.fast_cursor.proofs.MapMarks.{word-whole, marked-left, used-none}
use Rattle.fast_cursor.proofs.map_place.MapPlace.of_byte.Goals as goal

left : (n : ℕ) → left_in (n * 144115188075855872 % 18446744073709551616 + 128) ≡ 56
left n = marked-left (n * 562949953421312) _ (omega arith)

pub returns-clause-place : goal.returns-clause-place
returns-clause-place c =
    let b : ℕ = c.args.byte in
    let n : ℕ = c.from.result in
    let word : ℕ = n * 144115188075855872 % 18446744073709551616 + 128 in
    let value : word ≡ ((b % 128) * 1 + 0) * 562949953421312 % 18446744073709551616 * 256 % 18446744073709551616 + 128 = omega (arith, c.from.ensures) in
    let top : HasTop 56 word (bits (b ∷ []) ++ []) = top-word (b ∷ []) ((b % 128) * 1 + 0) word [] (omega arith) refl value (λ _. refl) in
    record {
      short = omega arith;
      is = word-whole (b ∷ []) 8 word (omega arith) (λ _. refl) (subst (λ (bs : List Bool). HasTop 56 word bs) (append-nil (bits (b ∷ []))) top);
    }

pub returns-clause-left : goal.returns-clause-left
returns-clause-left c = left c.from.result

pub returns-clause-used : goal.returns-clause-used
returns-clause-used c map = used-none map _ (left c.from.result)
