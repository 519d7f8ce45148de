-- The numbers of the templates that instructions refer to.
use Rattle.std.proofs.Common.{◌≡◌, ℕ, ◌+◌, ◌<◌, List, [], ◌∷◌, ◌++◌, length, drop, get_or, refl, ap, sym, ◌∙◌, Option, Some, None}
use Rattle.std.proofs.Common.{string_bytes, rules, String, Global}
use Rattle.std.specs.List.{filter_map}
use Rattle.std.specs.Option.{option_copied}
use Rattle.std.specs.Borrow.{Bor}
use Rattle.std.proofs.lemmas.List.{drop_more}
use Rattle.std.proofs.lemmas.List.Elements.{filter_map-append}
use Rattle.fast_notation.specs.declared.written.WrittenInstruction.{WrittenInstruction, the_lemmas}
use Rattle.fast_notation.specs.declared.written.WrittenInstruction.TheVariants as V
use Rattle.fast_tree.specs.meaning.AsWritten.{reference, references}
use Rattle.fast_notation.specs.device.References.{references_in}
use Rattle.fast_notation.specs.device.WrittenSets.{instruction_data}

-- what is left begins with the numbers of one instruction
pub targets_left : (index : List ℕ → Option ℕ) (fs : List WrittenInstruction) (i : ℕ) (d : WrittenInstruction) → i < length fs
    → filter_map index (references_in (drop i fs)) ≡ filter_map index (references (instruction_data (get_or fs i d)))
    ++ filter_map index (references_in (drop (i + 1) fs))
targets_left index fs i d inside =
    ap (λ gs. filter_map index (references_in gs)) (drop_more fs i d inside)
    ∙ filter_map-append index (references (instruction_data (get_or fs i d))) (references_in (drop (i + 1) fs))

-- the references of a reference
references_of_reference : (name : String Global) → references (instruction_data (V.Reference name)) ≡ string_bytes name ∷ []
references_of_reference name =
    let e : instruction_data (V.Reference name) ≡ reference (string_bytes name) = search (rules, the_lemmas) in
    ap references e

-- a reference to a template
pub one_target : (index : List ℕ → Option ℕ) (name : String Global) (number : Bor ℕ) → option_copied (Some number) ≡ index (string_bytes name)
    → number.now ∷ [] ≡ filter_map index (references (instruction_data (V.Reference name)))
one_target index name number found = of_index (index (string_bytes name)) refl found ∙ ap (filter_map index) (sym (references_of_reference name))
  where
    of_index : (o : Option ℕ) → index (string_bytes name) ≡ o → Some number.now ≡ index (string_bytes name)
        → number.now ∷ [] ≡ filter_map index (string_bytes name ∷ [])
    of_index o at is = rw (sym is) refl

-- a reference to no template
pub no_target : (index : List ℕ → Option ℕ) (name : String Global) → index (string_bytes name) ≡ None
    → filter_map index (references (instruction_data (V.Reference name))) ≡ []
no_target index name none = ap (filter_map index) (references_of_reference name) ∙ rw none refl
