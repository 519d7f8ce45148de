-- The byte goes, and a map is put in its place.
use Rattle.std.proofs.Common.{◌≡◌, ◌<◌, ◌+◌, ◌++◌, ℕ, List, take, drop, length, ap, sym, subst, ◌∙◌, arith}
use Rattle.std.specs.Prelude.{true, vec_len, IfSome}
use Rattle.std.proofs.Math.Seq.{take-append_seam, drop-append_seam}
use Rattle.std.proofs.lemmas.List.{append_assoc, length-take-le}
use mathlib.Core.List.{not-mem-nil}
use Rattle.fast_wire.specs.meaning.Maps.{bits, IsMap}
use Rattle.fast_spelling.specs.meaning.Encoding.{SameBits}
use Rattle.fast_spelling.proofs.encodings.Progress.{on_handed_on}
use Rattle.fast_spelling.proofs.draft.widen.Goals as goal

replaced : (p : ℕ) (xs ys piece new : List ℕ) → p < length xs → ys ≡ take p xs ++ drop (p + 1) xs → new ≡ (take p ys ++ piece) ++ drop p ys
    → new ≡ take p xs ++ (piece ++ drop (p + 1) xs)
replaced p xs ys piece new low gone put =
    let front = take p xs in
    let back = drop (p + 1) xs in
    let long : length front ≡ p = length-take-le p xs (omega (arith, low)) in
    let t : take p ys ≡ front = ap (λ n. take n ys) (sym long) ∙ ap (take (length front)) gone ∙ take-append_seam front back in
    let d : drop p ys ≡ back = ap (λ n. drop n ys) (sym long) ∙ ap (drop (length front)) gone ∙ drop-append_seam front back in
    put ∙ ap (λ z. (z ++ piece) ++ drop p ys) t ∙ ap (λ z. (front ++ piece) ++ z) d ∙ append_assoc front piece back

pub remove-requires : goal.remove-requires
remove-requires c = c.requires.place

pub insert-requires : goal.insert-requires
insert-requires c =
    let place = c.requires.place in
    let one_less = c.remove.ensures.len in
    omega (arith, place, one_less)

pub branch-insert-requires : goal.branch-insert-requires
branch-insert-requires c κs = (λ a m. absurd (not-mem-nil m), λ a m. absurd (not-mem-nil m))

pub from_residual-requires : goal.from_residual-requires
from_residual-requires c κs = (λ a m. absurd (not-mem-nil m), (λ a m. absurd (not-mem-nil m), λ a m. absurd (not-mem-nil m)))

pub returns-in_err-insert-in-Some : goal.returns-in_err-insert-in-Some
returns-in_err-insert-in-Some c = on_handed_on _ _ c.from_residual-in_err-insert-in-Some.result c.from_residual-in_err-insert-in-Some.ensures.1

pub returns-in_ok-insert-in-Some : goal.returns-in_ok-insert-in-Some
returns-in_ok-insert-in-Some c =
    let b = c.args.bytes.now in
    let p = c.args.mark.bytes in
    let piece = c.in-Some.map.items in
    let set = (drop c.args.mark.bits c.args.presence.now) in
    let place = c.requires.place in
    let old : vec_len b ≡ length b.items = b.ok.0 in
    let low : p < length b.items = omega (arith, place, old) in
    let ys = c.remove.new.self.items in
    let put = c.in_ok-insert-in-Some.ensures ∙ ap (λ z. (take p ys ++ z) ++ drop p ys) c.as_slice.ensures.value in
    let form : IsMap true piece = subst (λ (r : _). IfSome r (λ m. IsMap true m.items)) c.in-Some.is c.in_ok-map.ensures.map in
    let same : SameBits (bits piece) set = subst (λ (r : _). IfSome r (λ m. SameBits (bits m.items) set)) c.in-Some.is c.in_ok-map.ensures.bits in
    (piece, (form, same), replaced p b.items ys piece c.insert.new.bytes.items low c.remove.ensures.by_index.2 put)
