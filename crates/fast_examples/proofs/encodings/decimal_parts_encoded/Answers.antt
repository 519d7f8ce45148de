use Rattle.std.proofs.Common.{refl}
use Rattle.std.specs.Prelude.{[], ◌∷◌, codes, true, false, pos, negsuc, Some, None}
use Rattle.fast_value.specs.declared.codes.Code.TheVariants.{D5}
use Rattle.fast_value.specs.declared.kinds.Kind.TheVariants.{UInt32, Int32, Int64}
use Rattle.fast_value.specs.meaning.Kinds.{U, I, Dec, unsigned_range, signed_range}
use Rattle.fast_tree.specs.declared.operators.Operator.TheVariants.{Copy}
use Rattle.fast_tree.specs.meaning.Tree.{FieldData, identifier}
use Rattle.fast_dict.specs.meaning.Dictionary.{Dictionary, PreviousData, undefined, empty, assigned}
use Rattle.fast_dict.specs.meaning.Operators.{value}
use Rattle.fast_spelling.specs.meaning.Encoding.{EncodesField, EncodesMessage}
use Rattle.fast_examples.specs.meaning.Vectors.{vectors, lenient, at, with_entry, t7}
use Rattle.fast_examples.specs.meaning.Asked.{message, only, start, holding, behind}
use Rattle.fast_examples.proofs.Encoded.{integer_read, fits, a_fault, another, unsent, sent, identified, more, alone, encoded, reading}
use Rattle.fast_value.specs.meaning.Messages.{one, absent, present}
use Rattle.fast_tree.specs.meaning.Tree.{parts}
use Rattle.fast_examples.specs.meaning.Vectors.{one_field}
use Rattle.fast_examples.specs.meaning.Encodings.{after_parts}
use Rattle.fast_spelling.specs.meaning.Encoding.{Encodes}
use Rattle.fast_examples.proofs.encodings.decimal_parts_encoded.Goals as goal

abbrev e : FieldData
e = with_entry Int32 true Copy 5

abbrev m : FieldData
m = with_entry Int64 false Copy 6

abbrev y : FieldData
y = with_entry UInt32 false Copy 7

-- the dictionaries between the parts and y
abbrev between : PreviousData → PreviousData → Dictionary
between p q = holding 6 q (holding 5 p (behind 7 start))

abbrev exponent : PreviousData
exponent = assigned Int32 (I (negsuc 0))

abbrev mantissa : PreviousData
mantissa = assigned Int64 (I (pos 15))

-- y is 5 in both
five : (p q : PreviousData) → EncodesField lenient y (between p q) (Some (U 5)) (true ∷ []) (0x85 ∷ []) (after_parts p q)
unfolding reading
five p q = sent lenient y (between p q) (Some (U 5)) (value (U 5)) (assigned UInt32 (U 5)) (0x85 ∷ [])
    (a_fault y undefined (Some (U 5)) D5 refl) refl (pos 5, refl, integer_read _ _ _ _ refl (refl, refl, refl))
    ((pos 5, fits (unsigned_range 32) (pos 5) refl, refl), refl)

identifier_is : EncodesField lenient identifier start (Some (U 7)) (true ∷ []) (0x87 ∷ []) (behind 7 start)
unfolding reading
identifier_is = identified lenient start 7 (0x87 ∷ []) (a_fault identifier undefined (Some (U 7)) D5 refl) refl (integer_read _ _ _ _ refl (refl, refl, refl))

no_decimal : EncodesMessage vectors lenient start (message 6 (absent (only (U 5)))) (0xD0 ∷ 0x87 ∷ 0x85 ∷ []) (after_parts empty undefined)
unfolding reading Encodes
no_decimal = encoded vectors lenient start (behind 7 start) (after_parts empty undefined) (message 6 (absent (only (U 5)))) t7 7
    (true ∷ []) (false ∷ true ∷ []) (0xD0 ∷ []) (0x87 ∷ []) (0x85 ∷ []) refl refl identifier_is
    (more lenient (parts (at 7 (codes "p")) e m) (one_field 8 (codes "y") y) (behind 7 start) (between empty undefined)
    (after_parts empty undefined) None (only (U 5)) (false ∷ []) (true ∷ []) [] (0x85 ∷ [])
    (unsent lenient e (behind 7 start) None empty refl refl refl)
    (alone lenient (at 8 (codes "y")) y (between empty undefined) (after_parts empty undefined) (Some (U 5)) (true ∷ []) (0x85 ∷ []) (five empty undefined)))
    refl (refl, refl, refl) refl

exponent_is : EncodesField lenient e (behind 7 start) (Some (I (negsuc 0))) (true ∷ []) (0xFF ∷ []) (holding 5 exponent (behind 7 start))
unfolding reading
exponent_is = sent lenient e (behind 7 start) (Some (I (negsuc 0))) (value (I (negsuc 0))) exponent (0xFF ∷ [])
    (another e undefined (I (negsuc 0)) _ refl refl refl) refl (negsuc 0, refl, integer_read _ _ _ _ refl (refl, refl, refl))
    ((negsuc 0, fits (signed_range 31) (negsuc 0) refl, refl), refl)

mantissa_is : EncodesField lenient m (holding 5 exponent (behind 7 start)) (Some (I (pos 15))) (true ∷ []) (0x8F ∷ []) (between exponent mantissa)
unfolding reading
mantissa_is = sent lenient m (holding 5 exponent (behind 7 start)) (Some (I (pos 15))) (value (I (pos 15))) mantissa (0x8F ∷ [])
    (a_fault m undefined (Some (I (pos 15))) D5 refl) refl (pos 15, refl, integer_read _ _ _ _ refl (refl, refl, refl))
    ((pos 15, fits (signed_range 63) (pos 15) refl, refl), refl)

a_decimal : EncodesMessage vectors lenient start (message 6 (present (one (Dec (negsuc 0) (pos 15))) (only (U 5))))
    (0xF8 ∷ 0x87 ∷ 0xFF ∷ 0x8F ∷ 0x85 ∷ []) (after_parts exponent mantissa)
unfolding reading Encodes
a_decimal = encoded vectors lenient start (behind 7 start) (after_parts exponent mantissa)
    (message 6 (present (one (Dec (negsuc 0) (pos 15))) (only (U 5)))) t7 7 (true ∷ []) (true ∷ true ∷ true ∷ []) (0xF8 ∷ []) (0x87 ∷ [])
    (0xFF ∷ 0x8F ∷ 0x85 ∷ []) refl refl identifier_is
    (more lenient (parts (at 7 (codes "p")) e m) (one_field 8 (codes "y") y) (behind 7 start) (between exponent mantissa)
    (after_parts exponent mantissa) (Some (one (Dec (negsuc 0) (pos 15)))) (only (U 5)) (true ∷ true ∷ []) (true ∷ [])
    (0xFF ∷ 0x8F ∷ []) (0x85 ∷ [])
    (true ∷ [], true ∷ [], 0xFF ∷ [], 0x8F ∷ [], holding 5 exponent (behind 7 start), exponent_is, mantissa_is, refl, refl)
    (alone lenient (at 8 (codes "y")) y (between exponent mantissa) (after_parts exponent mantissa) (Some (U 5)) (true ∷ []) (0x85 ∷ [])
    (five exponent mantissa)))
    refl (refl, refl, refl) refl

pub returns : goal.returns
returns c = (no_decimal, a_decimal)
