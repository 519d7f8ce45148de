use Rattle.std.proofs.Common.{refl}
use Rattle.std.specs.Prelude.{[], ◌∷◌, codes, true, false, pos, Some, None}
use Rattle.fast_value.specs.declared.codes.Code.TheVariants.{D5}
use Rattle.fast_value.specs.declared.kinds.Kind.TheVariants.{UInt32, Int32}
use Rattle.fast_value.specs.meaning.Kinds.{U, I}
use Rattle.fast_tree.specs.declared.operators.Operator.TheVariants.{Delta}
use Rattle.fast_tree.specs.meaning.Tree.{FieldData, identifier}
use Rattle.fast_dict.specs.meaning.Dictionary.{undefined, assigned}
use Rattle.fast_dict.specs.meaning.Operators.{null, integer_delta}
use Rattle.fast_spelling.specs.meaning.Encoding.{EncodesMessage}
use Rattle.fast_examples.specs.meaning.Vectors.{vectors, lenient, at, with_entry, t16}
use Rattle.fast_examples.specs.meaning.Asked.{message, only, none, start, behind}
use Rattle.fast_examples.proofs.Encoded.{integer_read, no_bit, a_fault, unsent, sent, identified, alone, encoded, reading}
use Rattle.fast_examples.specs.meaning.Encodings.{after_delta}
use Rattle.fast_examples.proofs.encodings.optional_delta_encoded.Goals as goal

abbrev f : FieldData
f = with_entry Int32 true Delta 11

five : EncodesMessage vectors lenient start (message 15 (only (I (pos 5)))) (0xC0 ∷ 0x90 ∷ 0x86 ∷ []) (after_delta (pos 5))
unfolding reading
five = encoded vectors lenient start (behind 16 start) (after_delta (pos 5)) (message 15 (only (I (pos 5)))) t16 16 (true ∷ []) []
    (0xC0 ∷ []) (0x90 ∷ []) (0x86 ∷ []) refl refl
    (identified lenient start 16 (0x90 ∷ []) (a_fault identifier undefined (Some (U 16)) D5 refl) refl (integer_read _ _ _ _ refl (refl, refl, refl)))
    (alone lenient (at 21 (codes "v")) f (behind 16 start) (after_delta (pos 5)) (Some (I (pos 5))) [] (0x86 ∷ [])
    (sent lenient f (behind 16 start) (Some (I (pos 5))) (integer_delta (pos 5)) (assigned Int32 (I (pos 5))) (0x86 ∷ [])
    (no_bit f undefined _ refl) (I (pos 0), refl, refl) (integer_read _ _ _ _ refl (refl, refl, refl)) (tt, refl)))
    refl (refl, refl, refl) refl

absence : EncodesMessage vectors lenient (after_delta (pos 5)) (message 15 none) (0x80 ∷ 0x80 ∷ []) (after_delta (pos 5))
unfolding reading
absence = encoded vectors lenient (after_delta (pos 5)) (after_delta (pos 5)) (after_delta (pos 5)) (message 15 none) t16 16 (false ∷ [])
    [] (0x80 ∷ []) [] (0x80 ∷ []) refl refl
    (unsent lenient identifier (after_delta (pos 5)) (Some (U 16)) (assigned UInt32 (U 16)) refl refl refl)
    (alone lenient (at 21 (codes "v")) f (after_delta (pos 5)) (after_delta (pos 5)) None [] (0x80 ∷ [])
    (sent lenient f (after_delta (pos 5)) None null (assigned Int32 (I (pos 5))) (0x80 ∷ []) (no_bit f _ _ refl) refl
    (integer_read _ _ _ _ refl (refl, refl, refl)) (refl, refl)))
    refl (refl, refl, refl) refl

six : EncodesMessage vectors lenient (after_delta (pos 5)) (message 15 (only (I (pos 6)))) (0x80 ∷ 0x82 ∷ []) (after_delta (pos 6))
unfolding reading
six = encoded vectors lenient (after_delta (pos 5)) (after_delta (pos 5)) (after_delta (pos 6)) (message 15 (only (I (pos 6)))) t16 16
    (false ∷ []) [] (0x80 ∷ []) [] (0x82 ∷ []) refl refl
    (unsent lenient identifier (after_delta (pos 5)) (Some (U 16)) (assigned UInt32 (U 16)) refl refl refl)
    (alone lenient (at 21 (codes "v")) f (after_delta (pos 5)) (after_delta (pos 6)) (Some (I (pos 6))) [] (0x82 ∷ [])
    (sent lenient f (after_delta (pos 5)) (Some (I (pos 6))) (integer_delta (pos 1)) (assigned Int32 (I (pos 6))) (0x82 ∷ [])
    (no_bit f _ _ refl) (I (pos 5), refl, refl) (integer_read _ _ _ _ refl (refl, refl, refl)) (tt, refl)))
    refl (refl, refl, refl) refl

pub returns : goal.returns
returns c = (five, absence, six)
