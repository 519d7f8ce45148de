use Rattle.std.proofs.Common.{refl}
use Rattle.std.specs.Prelude.{[], ◌∷◌, codes, true, false, pos, Some, None}
use Rattle.fast_value.specs.declared.codes.Code.TheVariants.{D5}
use Rattle.fast_value.specs.declared.kinds.Kind.TheVariants.{UInt32}
use Rattle.fast_value.specs.meaning.Kinds.{U, unsigned_range}
use Rattle.fast_tree.specs.declared.operators.Operator.TheVariants.{Copy}
use Rattle.fast_tree.specs.meaning.Tree.{FieldData, identifier}
use Rattle.fast_dict.specs.meaning.Dictionary.{Dictionary, undefined, empty, assigned}
use Rattle.fast_dict.specs.meaning.Operators.{value}
use Rattle.fast_spelling.specs.meaning.Encoding.{EncodesMessage}
use Rattle.fast_examples.specs.meaning.Vectors.{vectors, lenient, at, with_entry, t6, t9}
use Rattle.fast_examples.specs.meaning.Asked.{message, only, none, start, behind}
use Rattle.fast_examples.proofs.Encoded.{integer_read, fits, a_fault, another, unsent, sent, identified, nothing_more, alone, encoded, reading}
use Rattle.fast_value.specs.meaning.Messages.{no_slots}
use Rattle.fast_examples.specs.meaning.Encodings.{after_copy}
use Rattle.fast_examples.proofs.encodings.reset_encoded.Goals as goal

abbrev f : FieldData
f = with_entry UInt32 true Copy 4

abbrev zero_there : Dictionary
zero_there = after_copy (assigned UInt32 (U 0))

zero_encoded : EncodesMessage vectors lenient start (message 5 (only (U 0))) (0xE0 ∷ 0x86 ∷ 0x81 ∷ []) zero_there
unfolding reading
zero_encoded = encoded vectors lenient start (behind 6 start) zero_there (message 5 (only (U 0))) t6 6 (true ∷ []) (true ∷ []) (0xE0 ∷ [])
    (0x86 ∷ []) (0x81 ∷ []) refl refl
    (identified lenient start 6 (0x86 ∷ []) (a_fault identifier undefined (Some (U 6)) D5 refl) refl (integer_read _ _ _ _ refl (refl, refl, refl)))
    (alone lenient (at 6 (codes "x")) f (behind 6 start) zero_there (Some (U 0)) (true ∷ []) (0x81 ∷ [])
    (sent lenient f (behind 6 start) (Some (U 0)) (value (U 0)) (assigned UInt32 (U 0)) (0x81 ∷ [])
    (another f undefined (U 0) _ refl refl refl) refl (pos 0, refl, integer_read _ _ _ _ refl (refl, refl, refl))
    ((pos 0, fits (unsigned_range 32) (pos 0) refl, refl), refl)))
    refl (refl, refl, refl) refl

reset_once : EncodesMessage vectors lenient zero_there (message 8 no_slots) (0xC0 ∷ 0x89 ∷ []) (behind 9 start)
unfolding reading
reset_once = encoded vectors lenient zero_there (behind 9 zero_there) (behind 9 start) (message 8 no_slots) t9 9 (true ∷ []) [] (0xC0 ∷ [])
    (0x89 ∷ []) [] refl refl
    (identified lenient zero_there 9 (0x89 ∷ []) (another identifier (assigned UInt32 (U 6)) (U 9) _ refl refl refl) refl
    (integer_read _ _ _ _ refl (refl, refl, refl)))
    (nothing_more lenient (behind 9 start))
    refl (refl, refl, refl) refl

reset_twice : EncodesMessage vectors lenient (behind 9 start) (message 8 no_slots) (0x80 ∷ []) (behind 9 start)
unfolding reading
reset_twice = encoded vectors lenient (behind 9 start) (behind 9 start) (behind 9 start) (message 8 no_slots) t9 9 (false ∷ []) [] (0x80 ∷ []) [] [] refl refl
    (unsent lenient identifier (behind 9 start) (Some (U 9)) (assigned UInt32 (U 9)) refl refl refl)
    (nothing_more lenient (behind 9 start))
    refl (refl, refl, refl) refl

absent_after : EncodesMessage vectors lenient (behind 9 start) (message 5 none) (0xC0 ∷ 0x86 ∷ []) (after_copy empty)
unfolding reading
absent_after = encoded vectors lenient (behind 9 start) (behind 6 start) (after_copy empty) (message 5 none) t6 6 (true ∷ []) (false ∷ [])
    (0xC0 ∷ []) (0x86 ∷ []) [] refl refl
    (identified lenient (behind 9 start) 6 (0x86 ∷ []) (another identifier (assigned UInt32 (U 9)) (U 6) _ refl refl refl) refl
    (integer_read _ _ _ _ refl (refl, refl, refl)))
    (alone lenient (at 6 (codes "x")) f (behind 6 start) (after_copy empty) None (false ∷ []) [] (unsent lenient f (behind 6 start) None empty refl refl refl))
    refl (refl, refl, refl) refl

pub returns : goal.returns
returns c = (zero_encoded, reset_once, reset_twice, absent_after)
