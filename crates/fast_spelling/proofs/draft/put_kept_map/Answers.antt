-- A map of one byte is put in place of one.
use Rattle.std.proofs.Common.{◌≡◌, ℕ, suc, ◌+◌, ◌<◌, List, [], ◌∷◌, ◌++◌, length, take, drop, ap, ◌∙◌, arith}
use Rattle.std.specs.Prelude.{slice_set}
use Rattle.std.proofs.lemmas.List.{set_split}
use Rattle.fast_spelling.proofs.draft.put_kept_map.Goals as goal

put_in_place : (l : List ℕ) (i a : ℕ) → i < length l → slice_set l i a ≡ take i l ++ (a ∷ drop (i + 1) l)
put_in_place l i a inside = let next : suc i ≡ i + 1 = omega arith in set_split l i a inside ∙ ap (λ (n : ℕ). take i l ++ (a ∷ drop n l)) next

pub returns-in-Some : goal.returns-in-Some
returns-in-Some c =
    let known = c.requires.place in
    let size = c.args.bytes.now.ok.0 in
    let inside : c.args.mark.bytes < length c.args.bytes.now.items = omega (arith, known, size) in
    (c.in-Some.byte ∷ [], (c.in-Some.ensures.map, c.in-Some.ensures.bits), put_in_place c.args.bytes.now.items c.args.mark.bytes c.in-Some.byte inside)
