use Rattle.std.proofs.Common.{refl}
use Rattle.std.specs.Prelude.{[], ◌∷◌, codes, true, false, pos, negsuc, Some, None}
use Rattle.fast_value.specs.declared.codes.Code.TheVariants.{D5}
use Rattle.fast_value.specs.declared.kinds.Kind.TheVariants.{UInt32}
use Rattle.fast_value.specs.meaning.Kinds.{U, I, signed_range}
use Rattle.fast_value.specs.meaning.Messages.{one, present}
use Rattle.fast_tree.specs.meaning.Tree.{identifier, field, Body, end, step}
use Rattle.fast_dict.specs.meaning.Dictionary.{Dictionary, undefined, assigned, fresh}
use Rattle.fast_dict.specs.meaning.Operators.{nothing, value}
use Rattle.fast_spelling.specs.meaning.Encoding.{Encodes, EncodesMessage}
use Rattle.fast_examples.specs.meaning.Vectors.{lenient, at, template}
use Rattle.fast_examples.specs.meaning.Asked.{message, none, behind}
use Rattle.fast_examples.specs.meaning.Initials.{initials, seven, minus_three, absent_by_default, with_seven, with_two}
use Rattle.fast_examples.proofs.Encoded.{integer_read, fits, another, a_fault, unsent, sent, identified, more, alone, encoded, reading}
use Rattle.fast_examples.proofs.initials.initials_encoded.Goals as goal

-- the dictionary, which has the identifier's entry alone
abbrev d : Dictionary
d = behind 1 (fresh 1)

abbrev last : Body
last = step (field (at 2 (codes "e")) absent_by_default) end

abbrev later : Body
later = step (field (at 1 (codes "d")) minus_three) last

first_message : EncodesMessage initials lenient (fresh 1) (message 0 with_seven) (0xE0 ∷ 0x81 ∷ []) d
unfolding reading Encodes
first_message = encoded initials lenient (fresh 1) d d (message 0 with_seven)
    (template (codes "V") 1 (step (field (at 0 (codes "c")) seven) later)) 1 (true ∷ []) (true ∷ false ∷ false ∷ []) (0xE0 ∷ [])
    (0x81 ∷ []) [] refl refl
    (identified lenient (fresh 1) 1 (0x81 ∷ []) (a_fault identifier undefined (Some (U 1)) D5 refl) refl (integer_read _ _ _ _ refl (refl, refl, refl)))
    (more lenient (field (at 0 (codes "c")) seven) later d d d (Some (one (U 7))) (present (one (I (negsuc 2))) none) (true ∷ []) (false ∷ false ∷ []) [] []
    (sent lenient seven d (Some (U 7)) nothing undefined [] (another seven undefined (U 7) _ refl refl refl) (refl, refl) refl (refl, refl))
    (more lenient (field (at 1 (codes "d")) minus_three) last d d d (Some (one (I (negsuc 2)))) none (false ∷ []) (false ∷ []) [] []
    (unsent lenient minus_three d (Some (I (negsuc 2))) undefined refl refl refl)
    (alone lenient (at 2 (codes "e")) absent_by_default d d None (false ∷ []) [] (unsent lenient absent_by_default d None undefined refl refl refl))))
    refl (refl, refl, refl) refl

second_message : EncodesMessage initials lenient d (message 0 with_two) (0x90 ∷ 0x82 ∷ []) d
unfolding reading Encodes
second_message = encoded initials lenient d d d (message 0 with_two)
    (template (codes "V") 1 (step (field (at 0 (codes "c")) seven) later)) 1 (false ∷ []) (false ∷ true ∷ false ∷ []) (0x90 ∷ []) []
    (0x82 ∷ []) refl refl
    (unsent lenient identifier d (Some (U 1)) (assigned UInt32 (U 1)) refl refl refl)
    (more lenient (field (at 0 (codes "c")) seven) later d d d None (present (one (I (pos 2))) none) (false ∷ []) (true ∷ false ∷ []) [] (0x82 ∷ [])
    (unsent lenient seven d None undefined refl refl refl)
    (more lenient (field (at 1 (codes "d")) minus_three) last d d d (Some (one (I (pos 2)))) none (true ∷ []) (false ∷ []) (0x82 ∷ []) []
    (sent lenient minus_three d (Some (I (pos 2))) (value (I (pos 2))) undefined (0x82 ∷ [])
    (another minus_three undefined (I (pos 2)) _ refl refl refl) refl (pos 2, refl, integer_read _ _ _ _ refl (refl, refl, refl))
    ((pos 2, fits (signed_range 31) (pos 2) refl, refl), refl))
    (alone lenient (at 2 (codes "e")) absent_by_default d d None (false ∷ []) [] (unsent lenient absent_by_default d None undefined refl refl refl))))
    refl (refl, refl, refl) refl

pub returns : goal.returns
returns c = (first_message, second_message)
