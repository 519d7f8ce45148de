-- Two bytes take the place of one.
use Rattle.std.proofs.Common.{◌≡◌, ℕ, suc, ◌+◌, ◌<◌, List, [], ◌∷◌, ◌++◌, length, take, drop, ap, sym, ◌∙◌, arith}
use Rattle.std.specs.Prelude.{slice_set}
use Rattle.std.proofs.Math.Seq.{take-append_seam, drop-append_seam}
use Rattle.std.proofs.lemmas.List.{append_assoc, length-append, length-take-le, set_split}
use Rattle.fast_spelling.proofs.draft.put_wide_map.Goals as goal

put_pair : (p a b : ℕ) (xs new : List ℕ) → p < length xs → new ≡ (take (p + 1) (slice_set xs p a) ++ b ∷ []) ++ drop (p + 1) (slice_set xs p a)
    → new ≡ take p xs ++ (a ∷ b ∷ drop (p + 1) xs)
put_pair p a b xs new low put =
    let ys = slice_set xs p a in
    let front = take p xs ++ a ∷ [] in
    let back = drop (p + 1) xs in
    let next : suc p ≡ p + 1 = omega arith in
    let set : ys ≡ front ++ back = set_split xs p a low ∙ ap (λ (n : ℕ). take p xs ++ (a ∷ drop n xs)) next ∙ sym (append_assoc (take p xs) (a ∷ []) back) in
    let long : length front ≡ p + 1 = length-append (take p xs) (a ∷ []) ∙ ap (λ (n : ℕ). n + 1) (length-take-le p xs (omega (arith, low))) in
    let t : take (p + 1) ys ≡ front = ap (λ (n : ℕ). take n ys) (sym long) ∙ ap (take (length front)) set ∙ take-append_seam front back in
    let d : drop (p + 1) ys ≡ back = ap (λ (n : ℕ). drop n ys) (sym long) ∙ ap (drop (length front)) set ∙ drop-append_seam front back in
    put ∙ ap (λ (z : List ℕ). (z ++ b ∷ []) ++ drop (p + 1) ys) t ∙ ap (λ (z : List ℕ). (front ++ b ∷ []) ++ z) d
    ∙ append_assoc front (b ∷ []) back ∙ append_assoc (take p xs) (a ∷ []) (b ∷ back)

pub insert-requires : goal.insert-requires
insert-requires c = let low = c.requires.place in omega (arith, low)

pub returns-in_ok-insert-in-Some : goal.returns-in_ok-insert-in-Some
returns-in_ok-insert-in-Some c =
    let known = c.requires.place in
    let size = c.args.bytes.now.ok.0 in
    let inside : c.args.mark.bytes < length c.args.bytes.now.items = omega (arith, known, size) in (
      c.in-Some.pair.0 ∷ c.in-Some.pair.1 ∷ [],
      (c.in-Some.ensures.map, c.in-Some.ensures.bits),
      put_pair c.args.mark.bytes c.in-Some.pair.0 c.in-Some.pair.1 c.args.bytes.now.items c.insert.new.bytes.items inside c.in_ok-insert-in-Some.ensures,
    )
