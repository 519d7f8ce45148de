-- The characters, with the stop bit on the last.
use Rattle.std.proofs.Common.{◌≡◌, ◌≢◌, ◌+◌, ◌-◌, ◌≤◌, ◌<◌, ◌++◌, ◌∷◌, [], suc, List, ℕ, refl, ◌∙◌, ap, arith, length, take, get_or}
use Rattle.std.specs.Prelude.{slice_set}
use Rattle.std.proofs.lemmas.List.{set_split, set-append_right, drop_all, length-append}
use mathlib.Core.List.{not-mem-nil}
use Rattle.fast_spelling.proofs.bytes.Spelling.{ascii_spelled, some_left}
use Rattle.fast_spelling.proofs.items.write_ascii.Goals as goal

-- the last of what is appended is replaced
last_replaced : (old t : List ℕ) (i n x : ℕ) → i ≡ length old + n → length t ≡ suc n → slice_set (old ++ t) i x ≡ old ++ (take n t ++ x ∷ [])
last_replaced old t i n x is long =
    let behind : length old ≤ i = omega (arith, is) in
    let place : i - length old ≡ n = omega (arith, is) in
    let inside : n < length t = omega (arith, long) in
    let past : length t ≤ suc n = omega (arith, long) in
    set-append_right old t (length old) i x refl behind ∙ ap (λ (k : ℕ). old ++ slice_set t k x) place
    ∙ ap (λ (w : List ℕ). old ++ w) (set_split t n x inside ∙ ap (λ (w : List ℕ). take n t ++ x ∷ w) (drop_all (suc n) t past))

pub returns-clause-ok : goal.returns-clause-ok
returns-clause-ok c =
    let old : List ℕ = c.args.bytes.now.items in
    let t : List ℕ = c.args.text.now in
    let n = length t - 1 in
    let x = get_or t n 0 + 128 in
    let i = c.len-last.result - 1 in
    let some : length t ≡ suc n = some_left t c.if-is_empty.ensures in
    let other : get_or t 0 0 ≢ 0 = omega arith in
    let whole = c.in_ok-extend_from_slice-2.ensures.items in
    let all : length c.extend_from_slice-2.new.self.items ≡ length old + length t = ap length whole ∙ length-append old t in
    let long : c.len-last.result ≡ length c.extend_from_slice-2.new.self.items = c.len-last.ensures ∙ c.extend_from_slice-2.new.self.ok.0 in
    let place : i ≡ length old + n = omega (arith, long, all, some) in (
      take n t ++ (x ∷ []),
      ap (λ (w : List ℕ). slice_set w i x) whole ∙ last_replaced old t i n x place some,
      λ room h. ascii_spelled t c.args.nullable room n c.requires some other h,
    )

pub is_empty-requires : goal.is_empty-requires
is_empty-requires c κs = λ a m. absurd (not-mem-nil m)

pub extend_from_slice-requires : goal.extend_from_slice-requires
extend_from_slice-requires c κs = (λ a m. absurd (not-mem-nil m), λ a m. absurd (not-mem-nil m))

pub branch-extend_from_slice-requires : goal.branch-extend_from_slice-requires
branch-extend_from_slice-requires c κs = (λ a m. absurd (not-mem-nil m), λ a m. absurd (not-mem-nil m))

pub from_residual-requires : goal.from_residual-requires
from_residual-requires c κs = (λ a m. absurd (not-mem-nil m), (λ a m. absurd (not-mem-nil m), λ a m. absurd (not-mem-nil m)))

pub from_residual-requires-in_err-extend_from_slice-2 : goal.from_residual-requires-in_err-extend_from_slice-2
from_residual-requires-in_err-extend_from_slice-2 c κs = (λ a m. absurd (not-mem-nil m), (λ a m. absurd (not-mem-nil m), λ a m. absurd (not-mem-nil m)))

pub extend_from_slice-requires-2 : goal.extend_from_slice-requires-2
extend_from_slice-requires-2 c κs = (λ a m. absurd (not-mem-nil m), λ a m. absurd (not-mem-nil m))

pub branch-extend_from_slice-requires-2 : goal.branch-extend_from_slice-requires-2
branch-extend_from_slice-requires-2 c κs = (λ a m. absurd (not-mem-nil m), λ a m. absurd (not-mem-nil m))

pub len-last-requires : goal.len-last-requires
len-last-requires c κs = (λ a m. absurd (not-mem-nil m), λ a m. absurd (not-mem-nil m))
