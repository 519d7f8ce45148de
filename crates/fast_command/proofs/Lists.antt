-- The templates and nodes of a set, one after the other.
use Rattle.std.proofs.Common.{◌≡◌, ℕ, zero, suc, ◌+◌, ◌<◌, ◌≤◌, List, [], ◌∷◌, ◌++◌, Option, Some, refl, ap, sym, ◌∙◌, arith, length, drop, map, slice_get}
use Rattle.std.specs.Prelude.{slice_index_or}
use Rattle.fast_tree.specs.declared.instructions.Shape.{Shape}
use Rattle.fast_tree.specs.declared.instructions.Node.{Node}
use Rattle.fast_tree.specs.meaning.Tree.{TemplateData}
use Rattle.fast_tree.specs.meaning.Nodes.{label_of, no_instruction, instruction_of, instructions_from}
use Rattle.fast_tree.specs.meaning.Numbers.{numbers_of, AreBetween}
use Rattle.fast_notation.proofs.nodes.Walks.{instruction_of_node, instruction_of_later}
use Rattle.fast_command.specs.meaning.Listing.{lines_of_template, lines_from}

-- what was found twice is the same
pub same_found : {X : Type 0} {x y : X} → Some x ≡ Some y → x ≡ y
same_found h = cc

-- something is at each number below the length
pub found_at : {X : Type 0} (xs : List X) (n : ℕ) → n < length xs → (x : X) × (slice_get xs n ≡ Some x)
found_at [] n h = absurd (omega (arith, h))
found_at (x ∷ xs) zero h = (x, refl)
found_at (x ∷ xs) (suc n) h = found_at xs n (omega (arith, h))

-- what is found is mapped
pub found_mapped : {X Y : Type 0} (f : X → Y) (xs : List X) (n : ℕ) (x : X) → slice_get xs n ≡ Some x → slice_get (map f xs) n ≡ Some (f x)
found_mapped f [] n x h = absurd (cc)
found_mapped f (y ∷ xs) zero x h = ap (λ z. Some (f z)) (same_found h)
found_mapped f (y ∷ xs) (suc n) x h = found_mapped f xs n x h

-- the instruction of a node that was found, by its shape
pub node_found : (ns : List Node) (n : ℕ) (v : Node) (s : Shape) → slice_get ns n ≡ Some v → AreBetween n (length ns) (numbers_of v.shape) → v.shape ≡ s
    → slice_index_or (instructions_from 0 ns) n no_instruction ≡ instruction_of (label_of n v) 0 (instructions_from 0 ns) s
node_found ns n v s found later is =
    instruction_of_node n ns v no_instruction found
    ∙ instruction_of_later n (length ns) ns (label_of n v) v.shape later
    ∙ ap (instruction_of (label_of n v) 0 (instructions_from 0 ns)) is

-- the lines begin with those of the next template
lines_here : (m n : ℕ) (us : List TemplateData) (u : TemplateData) → slice_get us n ≡ Some u
    → lines_from m (drop n us) ≡ lines_of_template m u ++ lines_from (suc m) (drop (suc n) us)
lines_here m n [] u h = absurd (cc)
lines_here m zero (x ∷ us) u h = ap (λ y. lines_of_template m y ++ lines_from (suc m) us) (same_found h)
lines_here m (suc n) (x ∷ us) u h = lines_here m n us u h

pub lines_next : (n : ℕ) (us : List TemplateData) (u : TemplateData) → slice_get us n ≡ Some u
    → lines_from n (drop n us) ≡ lines_of_template n u ++ lines_from (n + 1) (drop (n + 1) us)
lines_next n us u h = lines_here n n us u h ∙ ap (λ k. lines_of_template n u ++ lines_from k (drop k us)) (let e : suc n ≡ n + 1 = omega arith in e)

-- no template is left
pub lines_end : (m n : ℕ) (us : List TemplateData) → length us ≤ n → lines_from m (drop n us) ≡ []
lines_end m zero [] h = refl
lines_end m (suc n) [] h = refl
lines_end m zero (u ∷ us) h = absurd (omega (arith, h))
lines_end m (suc n) (u ∷ us) h = lines_end m n us (omega (arith, h))
