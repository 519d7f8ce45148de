use Rattle.std.proofs.Common.{◌≡◌, ℕ, zero, suc, List, [], ◌∷◌, ◌++◌, length, refl, ap, sym, ◌∙◌, subst, arith}
use Rattle.std.proofs.Math.Seq.{get_or-append_seam, set-append_seam}
use Rattle.std.proofs.lemmas.List.{append_assoc, length-append}
use Rattle.std.specs.Prelude.{true, false, pos, codes, decimal, replicate, slice_set, slice_index_or, Some, None}
use Rattle.fast_value.specs.declared.kinds.Kind.TheVariants.{UInt32}
use Rattle.fast_value.specs.declared.codes.Code.TheVariants.{D5}
use Rattle.fast_value.specs.meaning.Kinds.{U, unsigned_range}
use Rattle.fast_tree.specs.declared.operators.Operator.TheVariants.{Copy}
use Rattle.fast_tree.specs.meaning.Tree.{FieldData, identifier, field}
use Rattle.fast_dict.specs.meaning.Dictionary.{Dictionary, PreviousData, undefined, empty, assigned, fresh, previous_at}
use Rattle.fast_dict.specs.meaning.Operators.{nothing, value, decide}
use Rattle.fast_spelling.specs.meaning.Encoding.{EncodesField, EncodesBody, Encodes}
use Rattle.fast_examples.specs.meaning.Vectors.{lenient, at, with_entry, template}
use Rattle.fast_examples.specs.meaning.Asked.{message, only}
use Rattle.fast_examples.specs.meaning.Wide.{copies, wide, all_absent}
use Rattle.fast_examples.proofs.Encoded.{integer_read, fits, a_fault, another, unsent, sent, identified, more, alone, encoded, reading}
use Rattle.fast_examples.proofs.encodings.wide_encoded.Goals as goal

abbrev f : ℕ → FieldData
f k = with_entry UInt32 true Copy (suc k)

abbrev five : PreviousData
five = assigned UInt32 (U 5)

-- a field has the entry after those of the fields before it
there : (k : ℕ) (front : List PreviousData) (p : PreviousData) (rest : List PreviousData) → length front ≡ suc k
    → slice_index_or (front ++ p ∷ rest) (suc k) undefined ≡ p
there k front p rest e = ap (λ (n : ℕ). slice_index_or (front ++ p ∷ rest) n undefined) (sym e) ∙ get_or-append_seam front p rest undefined

changed : (k : ℕ) (front : List PreviousData) (p q : PreviousData) (rest : List PreviousData) → length front ≡ suc k
    → slice_set (front ++ p ∷ rest) (suc k) q ≡ front ++ q ∷ rest
changed k front p q rest e = ap (λ (n : ℕ). slice_set (front ++ p ∷ rest) n q) (sym e) ∙ set-append_seam front p rest q

-- a field of which nothing was kept is absent by a clear bit, and its entry is empty then; or it is 5
left_out : (k : ℕ) (front rest : List PreviousData) → length front ≡ suc k
    → EncodesField lenient (f k) (front ++ undefined ∷ rest) None (false ∷ []) [] (front ++ empty ∷ rest)
left_out k front rest e =
    subst (EncodesField lenient (f k) (front ++ undefined ∷ rest) None (false ∷ []) []) (changed k front undefined empty rest e)
    (unsent lenient (f k) (front ++ undefined ∷ rest) None empty refl refl
    (ap (λ (p : PreviousData). decide (f k) p false nothing) (there k front undefined rest e)))

last : (k : ℕ) (front : List PreviousData) → length front ≡ suc k
    → EncodesField lenient (f k) (front ++ undefined ∷ []) (Some (U 5)) (true ∷ []) (0x86 ∷ []) (front ++ five ∷ [])
unfolding reading
last k front e =
    let p : PreviousData = previous_at (Some (suc k)) (front ++ undefined ∷ []) in
    subst (EncodesField lenient (f k) (front ++ undefined ∷ []) (Some (U 5)) (true ∷ []) (0x86 ∷ [])) (changed k front undefined five [] e)
    (sent lenient (f k) (front ++ undefined ∷ []) (Some (U 5)) (value (U 5)) five (0x86 ∷ [])
    (another (f k) p (U 5) _ (ap (λ (p : PreviousData). decide (f k) p false nothing) (there k front undefined [] e)) refl refl)
    refl (pos 5, refl, integer_read _ _ _ _ refl (refl, refl, refl)) ((pos 5, fits (unsigned_range 32) (pos 5) refl, refl), refl))

all_left_out : (n k : ℕ) (front : List PreviousData) → length front ≡ suc k
    → EncodesBody lenient (copies k (suc n)) (front ++ replicate (suc n) undefined) (all_absent n (only (U 5)))
    (replicate n false ++ true ∷ []) (0x86 ∷ []) (front ++ (replicate n empty ++ five ∷ []))
unfolding Encodes
all_left_out zero k front e = alone lenient (at k (codes "f" ++ decimal k)) (f k) (front ++ undefined ∷ []) (front ++ five ∷ [])
    (Some (U 5)) (true ∷ []) (0x86 ∷ []) (last k front e)
all_left_out (suc n) k front e =
    let longer : length (front ++ empty ∷ []) ≡ suc (suc k) = length-append front (empty ∷ []) ∙ omega (arith, e) in
    let step_back : (rest : List PreviousData) → (front ++ empty ∷ []) ++ rest ≡ front ++ empty ∷ rest = λ rest. append_assoc front (empty ∷ []) rest in
    let later = all_left_out n (suc k) (front ++ empty ∷ []) longer in
    let later' = subst (λ (d : Dictionary). EncodesBody lenient (copies (suc k) (suc n)) d (all_absent n (only (U 5)))
    (replicate n false ++ true ∷ []) (0x86 ∷ []) ((front ++ empty ∷ []) ++ (replicate n empty ++ five ∷ [])))
    (step_back (replicate (suc n) undefined)) later in
    let later'' = subst (EncodesBody lenient (copies (suc k) (suc n)) (front ++ empty ∷ replicate (suc n) undefined)
    (all_absent n (only (U 5))) (replicate n false ++ true ∷ []) (0x86 ∷ [])) (step_back (replicate n empty ++ five ∷ [])) later' in
    more lenient (field (at k (codes "f" ++ decimal k)) (f k)) (copies (suc k) (suc n)) (front ++ replicate (suc (suc n)) undefined)
    (front ++ empty ∷ replicate (suc n) undefined) (front ++ (replicate (suc n) empty ++ five ∷ []))
    None (all_absent n (only (U 5))) (false ∷ []) (replicate n false ++ true ∷ []) [] (0x86 ∷ []) (left_out k front (replicate (suc n) undefined) e) later''

pub returns : goal.returns
unfolding reading
returns c = encoded wide lenient (fresh 301) (assigned UInt32 (U 1) ∷ replicate 300 undefined)
    (assigned UInt32 (U 1) ∷ replicate 299 empty ++ five ∷ []) (message 0 (all_absent 299 (only (U 5))))
    (template (codes "Wide") 1 (copies 0 300)) 1
    (true ∷ []) (replicate 299 false ++ true ∷ []) (0x40 ∷ replicate 41 0x00 ++ 0x81 ∷ []) (0x81 ∷ []) (0x86 ∷ []) refl refl
    (identified lenient (fresh 301) 1 (0x81 ∷ []) (a_fault identifier undefined (Some (U 1)) D5 refl) refl (integer_read _ _ _ _ refl (refl, refl, refl)))
    (all_left_out 299 0 (assigned UInt32 (U 1) ∷ []) refl)
    refl (refl, refl, refl) refl
