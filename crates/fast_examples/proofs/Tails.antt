-- Messages of a text under tail: one that is sent whole, and one that has no tail.
use Rattle.std.proofs.Common.{refl, ap, sym, ◌∙◌, arith, inl, inr}
use Rattle.std.specs.Prelude.{◌≡◌, ℕ, Bool, true, false, List, [], ◌∷◌, length, codes, Some, Result, Ok, Err}
use Rattle.fast_value.specs.declared.codes.Code.{Code}
use Rattle.fast_value.specs.declared.codes.Code.TheVariants.{D5}
use Rattle.fast_value.specs.declared.kinds.Kind.TheVariants.{UInt32, Ascii}
use Rattle.fast_value.specs.meaning.Kinds.{ScalarData, U, AsciiText, text_of}
use Rattle.fast_value.specs.meaning.Messages.{one, no_slots}
use Rattle.fast_tree.specs.declared.operators.Operator.TheVariants.{Tail}
use Rattle.fast_tree.specs.meaning.Tree.{FieldData, identifier}
use Rattle.fast_dict.specs.meaning.Dictionary.{PreviousData, undefined, assigned}
use Rattle.fast_dict.specs.meaning.Operators.{Sent, value}
use Rattle.fast_dict.specs.meaning.Rule.{IsTail, Rule}
use Rattle.fast_spelling.specs.declared.faults.EncodeFault.TheVariants.{E3}
use Rattle.fast_spelling.specs.meaning.Encoding.{EncodesMessage}
use Rattle.fast_spelling.specs.meaning.Refusals.{Refuses, RefusesBody, IsRefused}
use Rattle.fast_examples.specs.meaning.Vectors.{vectors, lenient, at, with_entry, t3}
use Rattle.fast_examples.specs.meaning.Asked.{start, behind}
use Rattle.fast_examples.specs.meaning.Encodings.{tail, after_tail}
use Rattle.fast_examples.proofs.Computed.{at_most}
use Rattle.fast_examples.proofs.Encoded.{integer_read, text_read, a_fault, is_value, another, unsent, sent, identified, alone, encoded, reading}

-- the field, and what its entry holds
abbrev pub tail_field : FieldData
tail_field = with_entry Ascii false Tail 1

abbrev pub holds : List ℕ → PreviousData
holds text = assigned Ascii (AsciiText text)

pub whole_text : EncodesMessage vectors lenient start (tail (codes "ABCDE")) (0xE0 ∷ 0x83 ∷ 0x41 ∷ 0x42 ∷ 0x43 ∷ 0x44 ∷ 0xC5 ∷ []) (after_tail (codes "ABCDE"))
unfolding reading
whole_text = encoded vectors lenient start (behind 3 start) (after_tail (codes "ABCDE")) (tail (codes "ABCDE")) t3 3 (true ∷ [])
    (true ∷ []) (0xE0 ∷ []) (0x83 ∷ []) (0x41 ∷ 0x42 ∷ 0x43 ∷ 0x44 ∷ 0xC5 ∷ []) refl refl
    (identified lenient start 3 (0x83 ∷ []) (a_fault identifier undefined (Some (U 3)) D5 refl) refl (integer_read _ _ _ _ refl (refl, refl, refl)))
    (alone lenient (at 3 (codes "t")) tail_field (behind 3 start) (after_tail (codes "ABCDE")) (Some (AsciiText (codes "ABCDE")))
    (true ∷ []) (0x41 ∷ 0x42 ∷ 0x43 ∷ 0x44 ∷ 0xC5 ∷ [])
    (sent lenient tail_field (behind 3 start) (Some (AsciiText (codes "ABCDE"))) (value (AsciiText (codes "ABCDE")))
    (holds (codes "ABCDE")) (0x41 ∷ 0x42 ∷ 0x43 ∷ 0x44 ∷ 0xC5 ∷ [])
    (a_fault tail_field undefined (Some (AsciiText (codes "ABCDE"))) D5 refl)
    (AsciiText [], codes "ABCDE", refl, inr (omega arith, refl), refl)
    (codes "ABCDE", refl, text_read false 1024 (Some (codes "ABCDE")) (0x41 ∷ 0x42 ∷ 0x43 ∷ 0x44 ∷ 0xC5 ∷ []) refl (refl, refl, refl))
    ((codes "ABCDE", refl), refl)))
    refl (refl, refl, refl) refl

-- a tail of five characters makes a text of five or more
no_tail : (base part : List ℕ) → length base ≡ 5 → IsTail base (codes "AB") part → ⊥
no_tail base part e (inl (same, _)) = absurd (omega (arith, e, same))
no_tail base part e (inr (longer, _)) = absurd (omega (arith, e, longer))

-- the length of a text, if there is one
abbrev kept : Result ScalarData Code → ℕ
kept (Ok v) = length (text_of v)
kept (Err c) = 0

no_rule : (text : List ℕ) → length text ≡ 5 → is_value (AsciiText (codes "AB")) (Some (AsciiText text)) ≡ false
    → (bit : Bool) (item : Sent) → ¬ (Rule tail_field (holds text) (Some (AsciiText (codes "AB"))) bit item)
no_rule text five differs false item (clear, e) = another tail_field (holds text) (AsciiText (codes "AB")) _ refl differs refl clear
no_rule text five differs true item (n, (base, part, q, cut, e)) = no_tail (text_of base) part (ap kept (sym q) ∙ five) cut

-- AB is refused after a text of five characters
pub refused : (text : List ℕ) → length text ≡ 5 → is_value (AsciiText (codes "AB")) (Some (AsciiText text)) ≡ false
    → IsRefused vectors lenient (after_tail text) (tail (codes "AB")) E3
unfolding Refuses RefusesBody
refused text five differs = (
  (t3, 3, refl, refl),
  (t3, refl, ((2, (omega arith, at_most 127 (codes "AB") refl)), tt)),
  ((omega arith, tt), omega arith),
  (
    t3,
    3,
    false ∷ [],
    [],
    after_tail text,
    refl,
    refl,
    unsent lenient identifier (after_tail text) (Some (U 3)) (assigned UInt32 (U 3)) refl refl refl,
    inl (Some (one (AsciiText (codes "AB"))), no_slots, refl, inl (no_rule text five differs)),
  ),
)
