-- The piece goes in between what stands before the place and what stands behind it.
use Rattle.std.proofs.Common.{◌≡◌, ◌<◌, ◌≤◌, ◌+◌, ◌∷◌, ◌++◌, [], ℕ, List, take, drop, length, get_or, ap, sym, ◌∙◌, arith}
use Rattle.std.specs.Prelude.{vec_len}
use Rattle.std.proofs.Math.Seq.{take-append_seam, drop-append_seam}
use Rattle.std.proofs.lemmas.List.{append-nil, append_assoc, length-append, length-take-le, take-append-drop, take_all, take_more}
use mathlib.Core.List.{not-mem-nil}
use Rattle.fast_spelling.proofs.encodings.Progress.{on_handed_on}
use Rattle.fast_spelling.proofs.draft.insert.Goals as goal

module _ (p i : ℕ) (xs ys zs : List ℕ) (low : p ≤ length xs) (less : i < length ys) (so_far : zs ≡ (take p xs ++ take i ys) ++ drop p xs) where
  abbrev front : List ℕ
  front = take p xs ++ take i ys

  front_long : length front ≡ p + i
  front_long = length-append (take p xs) (take i ys) ∙ ap (λ n. n + length (take i ys)) (length-take-le p xs low)
      ∙ ap (λ n. p + n) (length-take-le i ys (omega (arith, less)))

  reaches : p + i ≤ length zs
  reaches =
      let all = ap length so_far ∙ length-append front (drop p xs) in
      let long = front_long in
      omega (arith, all, long)

  grown : (new : List ℕ) → new ≡ take (p + i) zs ++ get_or ys i 0 ∷ drop (p + i) zs → new ≡ (take p xs ++ take (i + 1) ys) ++ drop p xs
  grown new h =
      let back = drop p xs in
      let y = get_or ys i 0 in
      let t : take (p + i) zs ≡ front = ap (λ n. take n zs) (sym front_long) ∙ ap (take (length front)) so_far ∙ take-append_seam front back in
      let d : drop (p + i) zs ≡ back = ap (λ n. drop n zs) (sym front_long) ∙ ap (drop (length front)) so_far ∙ drop-append_seam front back in
      h ∙ ap (λ z. z ++ y ∷ drop (p + i) zs) t ∙ ap (λ z. front ++ y ∷ z) d ∙ sym (append_assoc front (y ∷ []) back)
      ∙ ap (λ z. z ++ back) (append_assoc (take p xs) (take i ys) (y ∷ []) ∙ ap (λ z. take p xs ++ z) (sym (take_more ys i 0 less)))

pub loop-i-init : goal.loop-i-init
loop-i-init c =
    let p = c.args.place in
    let xs = c.args.bytes.now.items in
    sym (ap (λ z. z ++ drop p xs) (append-nil (take p xs)) ∙ take-append-drop p xs)

pub insert-requires : goal.insert-requires
insert-requires c =
    let b = c.args.bytes.now in
    let now = c.loop-i.bytes in
    let place = c.requires in
    let old : vec_len b ≡ length b.items = b.ok.0 in
    let new : vec_len now ≡ length now.items = now.ok.0 in
    let low : c.args.place ≤ length b.items = omega (arith, place, old) in
    let far = reaches c.args.place c.loop-i.i b.items c.args.piece.now now.items low c.loop-i-test.true c.loop-i.invariant in
    omega (arith, far, new)

pub branch-insert-requires : goal.branch-insert-requires
branch-insert-requires c κs = (λ a m. absurd (not-mem-nil m), λ a m. absurd (not-mem-nil m))

pub from_residual-requires : goal.from_residual-requires
from_residual-requires c κs = (λ a m. absurd (not-mem-nil m), (λ a m. absurd (not-mem-nil m), λ a m. absurd (not-mem-nil m)))

pub returns-in_err-insert : goal.returns-in_err-insert
returns-in_err-insert c = on_handed_on _ _ c.from_residual.result c.from_residual.ensures.1

pub loop-i-preserved : goal.loop-i-preserved
loop-i-preserved c =
    let b = c.args.bytes.now in
    let place = c.requires in
    let old : vec_len b ≡ length b.items = b.ok.0 in
    let low : c.args.place ≤ length b.items = omega (arith, place, old) in
    grown c.args.place c.loop-i.i b.items c.args.piece.now c.loop-i.bytes.items low c.loop-i-test.true c.loop-i.invariant
    c.insert.new.self.items c.in_ok-insert.ensures.items

pub returns : goal.returns
returns c =
    let p = c.args.place in
    let xs = c.args.bytes.now.items in
    c.loop-i.invariant ∙ ap (λ z. (take p xs ++ z) ++ drop p xs) (take_all c.loop-i.i c.args.piece.now c.loop-i-test.false)
