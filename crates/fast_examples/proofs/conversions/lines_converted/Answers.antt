use Rattle.std.proofs.Common.{◌≡◌, refl, sym, subst, arith}
use Rattle.std.proofs.lemmas.List.Elements.{All-cons, All-nil}
use Rattle.std.specs.Fmt.{digits}
use Rattle.std.specs.Prelude.{ℕ, ◌≤◌, ◌<◌, All, false, List, [], ◌∷◌, ◌++◌, length, codes, flat_map, true, pos, Some, Result, Ok, Err}
use Rattle.fast_value.specs.declared.codes.Code.TheVariants.{D5}
use Rattle.fast_value.specs.declared.kinds.Kind.TheVariants.{UInt32}
use Rattle.fast_value.specs.meaning.Kinds.{U, unsigned_range}
use Rattle.fast_value.specs.meaning.Messages.{MessageData}
use Rattle.fast_tree.specs.meaning.Tree.{identifier, Tree, HasDistinctIds}
use Rattle.fast_template.specs.declared.sets.Templates.{Templates}
use Rattle.fast_template.specs.meaning.Flat.{tree_of}
use Rattle.fast_template.proofs.SetTrees.{distinct_ids}
use Rattle.fast_dict.specs.meaning.Dictionary.{undefined}
use Rattle.fast_dict.specs.meaning.Operators.{value}
use Rattle.fast_stream.specs.meaning.Events.{item_events, body_events}
use Rattle.fast_spelling.specs.declared.faults.EncodeFault.TheVariants.{E3}
use Rattle.fast_spelling.specs.meaning.Encoding.{EncodesMessage}
use Rattle.fast_spelling.specs.meaning.Suiting.{SuitsTemplate, FitsLimits}
use Rattle.fast_spelling.proofs.encodings.Encoded.{encoded_is_spelled}
use Rattle.fast_messages.specs.meaning.Reading.{Says}
use Rattle.fast_command.specs.declared.faults.RunFault.{RunFault}
use Rattle.fast_command.specs.declared.faults.RunFault.TheVariants.{Encode}
use Rattle.fast_convert.specs.meaning.Converting.{line_limit, IsCoded, AreWritten, IsTurned}
use Rattle.fast_examples.specs.meaning.Vectors.{vectors, lenient, at, plain, t1, t3}
use Rattle.fast_examples.specs.meaning.Asked.{message, only, start, behind}
use Rattle.fast_examples.specs.meaning.Encodings.{tail, after_tail}
use Rattle.fast_examples.specs.meaning.Lines.{with_lf}
use Rattle.fast_examples.proofs.Computed.{at_most}
use Rattle.fast_examples.proofs.Encoded.{integer_read, fits, no_bit, a_fault, sent, identified, alone, encoded, reading}
use Rattle.fast_examples.proofs.Tails.{whole_text, refused}
use Rattle.fast_examples.proofs.conversions.lines_converted.Goals as goal

-- the message of T1
abbrev one : MessageData
one = message 0 (only (U 942755))

one_suits : SuitsTemplate vectors one
one_suits = (t1, refl, ((0, omega arith), tt))

one_encoded : EncodesMessage vectors lenient start one (0xC0 ∷ 0x81 ∷ 0x39 ∷ 0x45 ∷ 0xA3 ∷ []) (behind 1 start)
unfolding reading
one_encoded = encoded vectors lenient start (behind 1 start) (behind 1 start) one t1 1 (true ∷ []) [] (0xC0 ∷ []) (0x81 ∷ [])
    (0x39 ∷ 0x45 ∷ 0xA3 ∷ []) refl refl
    (identified lenient start 1 (0x81 ∷ []) (a_fault identifier undefined (Some (U 1)) D5 refl) refl (integer_read _ _ _ _ refl (refl, refl, refl)))
    (alone lenient (at 0 (codes "x")) (plain UInt32 false) (behind 1 start) (behind 1 start) (Some (U 942755)) [] (0x39 ∷ 0x45 ∷ 0xA3 ∷ [])
    (sent lenient (plain UInt32 false) (behind 1 start) (Some (U 942755)) (value (U 942755)) undefined (0x39 ∷ 0x45 ∷ 0xA3 ∷ [])
    (no_bit (plain UInt32 false) undefined (Some (U 942755)) refl) refl
    (pos 942755, refl, integer_read _ _ _ _ refl (refl, refl, refl)) ((pos 942755, fits (unsigned_range 32) (pos 942755) refl, refl), refl)))
    refl (refl, refl, refl) refl

one_coded : HasDistinctIds vectors → IsCoded vectors lenient start one (0xC0 ∷ 0x81 ∷ 0x39 ∷ 0x45 ∷ 0xA3 ∷ []) (behind 1 start)
one_coded distinct =
    let few : FitsLimits lenient one.slots = ((omega arith, tt), omega arith) in
    record {
      suits = one_suits;
      fits = few;
      ruled = one_encoded;
      spelled = encoded_is_spelled vectors lenient start one _ _ distinct one_suits few one_encoded;
      bytes = at_most 255 (0xC0 ∷ 0x81 ∷ 0x39 ∷ 0x45 ∷ 0xA3 ∷ []) refl;
    }

-- a message of T3 with five characters or with two
tail_suits : (text : List ℕ) → All (λ c. c < 128) text → SuitsTemplate vectors (tail text)
tail_suits text small = (t3, refl, ((length text, (omega arith, small)), tt))

tail_coded : HasDistinctIds vectors → IsCoded vectors lenient start (tail (codes "ABCDE"))
    (0xE0 ∷ 0x83 ∷ 0x41 ∷ 0x42 ∷ 0x43 ∷ 0x44 ∷ 0xC5 ∷ []) (after_tail (codes "ABCDE"))
tail_coded distinct =
    let suits = tail_suits (codes "ABCDE") (at_most 127 (codes "ABCDE") refl) in
    let few : FitsLimits lenient (tail (codes "ABCDE")).slots = ((omega arith, tt), omega arith) in
    record {
      suits = suits;
      fits = few;
      ruled = whole_text;
      spelled = encoded_is_spelled vectors lenient start (tail (codes "ABCDE")) _ _ distinct suits few whole_text;
      bytes = at_most 255 (0xE0 ∷ 0x83 ∷ 0x41 ∷ 0x42 ∷ 0x43 ∷ 0x44 ∷ 0xC5 ∷ []) refl;
    }

-- the lines of both
one_said : Says vectors (flat_map with_lf (codes "message T1" ∷ codes "field 0 x u 942755" ∷ codes "end message" ∷ [])) (one ∷ [])
unfolding digits item_events body_events
one_said = record { suit = All-cons (SuitsTemplate vectors) one [] one_suits (All-nil (SuitsTemplate vectors)); same = refl }

abbrev two_texts : List (List ℕ)
two_texts = codes "message T3" ∷ codes "field 3 t a \"ABCDE\"" ∷ codes "end message" ∷ codes "message T3" ∷ codes "field 3 t a \"AB\""
    ∷ codes "end message" ∷ []

two_said : Says vectors (flat_map with_lf two_texts) (tail (codes "ABCDE") ∷ tail (codes "AB") ∷ [])
unfolding digits item_events body_events
two_said = record {
  suit = All-cons (SuitsTemplate vectors) (tail (codes "ABCDE")) (tail (codes "AB") ∷ []) (tail_suits (codes "ABCDE") (at_most 127 (codes "ABCDE") refl))
      (All-cons (SuitsTemplate vectors) (tail (codes "AB")) [] (tail_suits (codes "AB") (at_most 127 (codes "AB") refl)) (All-nil (SuitsTemplate vectors)));
  same = refl;
}

-- what is written of a text that was read whole
abbrev Turned : List (List ℕ) → List ℕ → Result (Unit {0}) RunFault → Tree → Type 0
Turned text written r t = IsTurned t lenient true (Some (flat_map with_lf text)) (Some []) (Some []) (Some written) ⊥ r

turned : (text : List (List ℕ)) (ms : List MessageData) (written : List ℕ) (r : Result (Unit {0}) RunFault)
    → flat_map with_lf text ≡ flat_map with_lf text ++ [] → length (flat_map with_lf text) ≤ line_limit
    → Says vectors (flat_map with_lf text) ms
    → AreWritten vectors lenient true start ms (Some []) (Some written) ⊥ r → Turned text written r vectors
turned text ms written r e short says w = record {
  text = flat_map with_lf text;
  messages = ms;
  whole = record { read = record { before = e }; end = refl; short = short };
  says = says;
  written = w;
}

abbrev one_text : List (List ℕ)
one_text = codes "message T1" ∷ codes "field 0 x u 942755" ∷ codes "end message" ∷ []

one_written : HasDistinctIds vectors → Turned one_text (codes "c0813945a3\n") (Ok tt) vectors
one_written distinct = turned one_text (one ∷ []) (codes "c0813945a3\n") (Ok tt) refl (omega arith) one_said
    ((0xC0 ∷ 0x81 ∷ 0x39 ∷ 0x45 ∷ 0xA3 ∷ []) ∷ [], behind 1 start, (behind 1 start, one_coded distinct, refl), record { after = refl })

two_written : HasDistinctIds vectors → Turned two_texts (codes "e08341424344c5\n") (Err (Encode 1 E3)) vectors
two_written distinct = turned two_texts (tail (codes "ABCDE") ∷ tail (codes "AB") ∷ []) (codes "e08341424344c5\n") (Err (Encode 1 E3)) refl
    (omega arith) two_said (
      tail (codes "ABCDE") ∷ [],
      [],
      tail (codes "AB"),
      (0xE0 ∷ 0x83 ∷ 0x41 ∷ 0x42 ∷ 0x43 ∷ 0x44 ∷ 0xC5 ∷ []) ∷ [],
      after_tail (codes "ABCDE"),
      record { all_are = refl; coded = (after_tail (codes "ABCDE"), tail_coded distinct, refl) },
      refl,
      refused (codes "ABCDE") refl refl,
      record { after = refl },
    )

-- so of a set that is the built-in one
of_set : (text : List (List ℕ)) (written : List ℕ) (r : Result (Unit {0}) RunFault)
    → (HasDistinctIds vectors → Turned text written r vectors) → (set : Templates) → tree_of set ≡ vectors
    → Turned text written r (tree_of set)
of_set text written r h set e = subst (Turned text written r) (sym e) (h (subst HasDistinctIds e (distinct_ids set)))

pub returns : goal.returns
returns c = (of_set one_text (codes "c0813945a3\n") (Ok tt) one_written, of_set two_texts (codes "e08341424344c5\n") (Err (Encode 1 E3)) two_written)
