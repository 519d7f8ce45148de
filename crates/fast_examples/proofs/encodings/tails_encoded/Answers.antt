use Rattle.std.proofs.Common.{refl, inl}
use Rattle.std.specs.Prelude.{[], ◌∷◌, codes, true, false, Some}
use Rattle.fast_value.specs.declared.kinds.Kind.TheVariants.{UInt32}
use Rattle.fast_value.specs.meaning.Kinds.{U, AsciiText}
use Rattle.fast_tree.specs.meaning.Tree.{identifier}
use Rattle.fast_dict.specs.meaning.Dictionary.{assigned}
use Rattle.fast_dict.specs.meaning.Operators.{value}
use Rattle.fast_spelling.specs.meaning.Encoding.{EncodesMessage}
use Rattle.fast_examples.specs.meaning.Vectors.{vectors, lenient, at, t3}
use Rattle.fast_examples.specs.meaning.Encodings.{tail, after_tail}
use Rattle.fast_examples.proofs.Encoded.{text_read, another, unsent, sent, alone, encoded, reading}
use Rattle.fast_examples.proofs.Tails.{tail_field, holds, whole_text, refused}
use Rattle.fast_examples.proofs.encodings.tails_encoded.Goals as goal

another_tail : EncodesMessage vectors lenient (after_tail (codes "ABCDE")) (tail (codes "ABCXY")) (0xA0 ∷ 0x58 ∷ 0xD9 ∷ []) (after_tail (codes "ABCXY"))
unfolding reading
another_tail = encoded vectors lenient (after_tail (codes "ABCDE")) (after_tail (codes "ABCDE")) (after_tail (codes "ABCXY"))
    (tail (codes "ABCXY")) t3 3 (false ∷ []) (true ∷ []) (0xA0 ∷ []) [] (0x58 ∷ 0xD9 ∷ []) refl refl
    (unsent lenient identifier (after_tail (codes "ABCDE")) (Some (U 3)) (assigned UInt32 (U 3)) refl refl refl)
    (alone lenient (at 3 (codes "t")) tail_field (after_tail (codes "ABCDE")) (after_tail (codes "ABCXY"))
    (Some (AsciiText (codes "ABCXY"))) (true ∷ []) (0x58 ∷ 0xD9 ∷ [])
    (sent lenient tail_field (after_tail (codes "ABCDE")) (Some (AsciiText (codes "ABCXY"))) (value (AsciiText (codes "XY")))
    (holds (codes "ABCXY")) (0x58 ∷ 0xD9 ∷ []) (another tail_field (holds (codes "ABCDE")) (AsciiText (codes "ABCXY")) _ refl refl refl)
    (AsciiText (codes "ABCDE"), codes "XY", refl, inl (refl, refl), refl)
    (codes "XY", refl, text_read false 1024 (Some (codes "XY")) (0x58 ∷ 0xD9 ∷ []) refl (refl, refl, refl)) ((codes "XY", refl), refl)))
    refl (refl, refl, refl) refl

same_text : EncodesMessage vectors lenient (after_tail (codes "ABCXY")) (tail (codes "ABCXY")) (0x80 ∷ []) (after_tail (codes "ABCXY"))
unfolding reading
same_text = encoded vectors lenient (after_tail (codes "ABCXY")) (after_tail (codes "ABCXY")) (after_tail (codes "ABCXY"))
    (tail (codes "ABCXY")) t3 3 (false ∷ []) (false ∷ []) (0x80 ∷ []) [] [] refl refl
    (unsent lenient identifier (after_tail (codes "ABCXY")) (Some (U 3)) (assigned UInt32 (U 3)) refl refl refl)
    (alone lenient (at 3 (codes "t")) tail_field (after_tail (codes "ABCXY")) (after_tail (codes "ABCXY")) (Some (AsciiText (codes "ABCXY"))) (false ∷ []) []
    (unsent lenient tail_field (after_tail (codes "ABCXY")) (Some (AsciiText (codes "ABCXY"))) (holds (codes "ABCXY")) refl refl refl))
    refl (refl, refl, refl) refl

pub returns : goal.returns
returns c = (whole_text, another_tail, same_text, refused (codes "ABCXY") refl refl)
