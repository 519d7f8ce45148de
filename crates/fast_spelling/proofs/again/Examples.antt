-- Texts that are read, and of which a part that begins with U+0000 would be sent.
use Rattle.std.proofs.Common.{refl, ap, inl, arith}
use Rattle.std.specs.Prelude.{◌≡◌, ◌<◌, ◌≤◌, ℕ, pos, Bool, nat_le, if◌then◌else◌, Result, Ok, true, false, List, [], ◌∷◌, ◌++◌, None, Some}
use Rattle.std.specs.Str.{is_utf8, chars}
use Rattle.fast_value.specs.meaning.Kinds.{ScalarData, AsciiText}
use Rattle.fast_value.specs.declared.codes.Code.{Code}
use Rattle.fast_value.specs.declared.kinds.Kind.TheVariants.{Ascii}
use Rattle.fast_tree.specs.declared.operators.Operator.TheVariants.{Delta, Tail}
use Rattle.fast_dict.specs.meaning.Dictionary.{PreviousData, assigned}
use Rattle.fast_dict.specs.meaning.Operators.{Outcome, text_delta, value}
use Rattle.fast_stream.specs.meaning.Streams.{Stream, between, AreBytes}
use Rattle.fast_stream.specs.device.Running.{message_begun}
use Rattle.fast_stream.specs.meaning.Fields.{field_term}
use Rattle.fast_stream.specs.device.Continuations.{message_then, message_of_then, body_then}
use Rattle.fast_stream.specs.device.GrammarReaders.{judged, judged_map, integer_reader, presence_map_reader, ascii_text_reader}
use Rattle.fast_stream.proofs.streams.Reading.{reading-sound}
use Rattle.fast_spelling.specs.meaning.Refused.{ascii_field, set_of, wide, text_events, IsReadButRefused}
use Rattle.fast_spelling.specs.meaning.Refusals.{RefusesField}
use Rattle.fast_spelling.specs.declared.faults.EncodeFault.TheVariants.{R9}
use Rattle.std.proofs.lemmas.List.Elements.{All-cons, All-nil}
use Rattle.fast_spelling.proofs.again.Sound.{same_ok}
use Rattle.std.proofs.lemmas.Bool.{leb-true}

-- all are below 256, by computation
abbrev are_small : List ℕ → Bool
are_small [] = true
are_small (b ∷ w) = if nat_le b 255 then are_small w else false

small : (w : List ℕ) → are_small w ≡ true → AreBytes w
small [] h = All-nil (λ b. b < 256)
small (b ∷ w) h = by (nat_le b 255) refl h (small w)
  where
    by : (c : Bool) → nat_le b 255 ≡ c → (if c then are_small w else false) ≡ true → (are_small w ≡ true → AreBytes w) → AreBytes (b ∷ w)
    by true e h next = let i : b ≤ 255 = leb-true b 255 e in All-cons (λ b. b < 256) b w (omega (arith, i)) (next h)
    by false e h next = absurd (cc h)

delta_read : Stream (set_of (ascii_field Delta false None)) wide (0xC0 ∷ 0x81 ∷ 0x80 ∷ 0x41 ∷ 0xC3 ∷ 0x80 ∷ 0x82 ∷ 0x41 ∷ 0x00 ∷ 0xC2 ∷ [])
    (text_events (0x41 ∷ 0x43 ∷ []) ++ text_events (0x41 ∷ 0x00 ∷ 0x42 ∷ [])) between
unfolding message_begun message_then message_of_then body_then field_term integer_reader ascii_text_reader presence_map_reader judged judged_map is_utf8 chars
delta_read = reading-sound (set_of (ascii_field Delta false None)) wide
    (0xC0 ∷ 0x81 ∷ 0x80 ∷ 0x41 ∷ 0xC3 ∷ 0x80 ∷ 0x82 ∷ 0x41 ∷ 0x00 ∷ 0xC2 ∷ [])
    (small (0xC0 ∷ 0x81 ∷ 0x80 ∷ 0x41 ∷ 0xC3 ∷ 0x80 ∷ 0x82 ∷ 0x41 ∷ 0x00 ∷ 0xC2 ∷ []) refl)

delta_refused : (p : PreviousData) → RefusesField (ascii_field Delta false None) (p ∷ assigned Ascii (AsciiText (0x41 ∷ 0x43 ∷ [])) ∷ [])
    (Some (AsciiText (0x41 ∷ 0x00 ∷ 0x42 ∷ []))) R9
delta_refused p = (
  true,
  text_delta (pos 1) (0x00 ∷ 0x42 ∷ []),
  ((λ (next, u, _). absurd (cc u)), (AsciiText (0x41 ∷ 0x43 ∷ []), refl, inl (omega arith, refl))),
  (0x42 ∷ [], refl),
)

tail_read : Stream (set_of (ascii_field Tail false None)) wide (0xE0 ∷ 0x81 ∷ 0x41 ∷ 0x41 ∷ 0xC3 ∷ 0xA0 ∷ 0x41 ∷ 0x00 ∷ 0xC2 ∷ [])
    (text_events (0x41 ∷ 0x41 ∷ 0x43 ∷ []) ++ text_events (0x41 ∷ 0x00 ∷ 0x42 ∷ [])) between
unfolding message_begun message_then message_of_then body_then field_term integer_reader ascii_text_reader presence_map_reader judged judged_map is_utf8 chars
tail_read = reading-sound (set_of (ascii_field Tail false None)) wide (0xE0 ∷ 0x81 ∷ 0x41 ∷ 0x41 ∷ 0xC3 ∷ 0xA0 ∷ 0x41 ∷ 0x00 ∷ 0xC2 ∷ [])
    (small (0xE0 ∷ 0x81 ∷ 0x41 ∷ 0x41 ∷ 0xC3 ∷ 0xA0 ∷ 0x41 ∷ 0x00 ∷ 0xC2 ∷ []) refl)

tail_refused : (p : PreviousData) → RefusesField (ascii_field Tail false None)
    (p ∷ assigned Ascii (AsciiText (0x41 ∷ 0x41 ∷ 0x43 ∷ [])) ∷ []) (Some (AsciiText (0x41 ∷ 0x00 ∷ 0x42 ∷ []))) R9
tail_refused p = (
  true,
  value (AsciiText (0x00 ∷ 0x42 ∷ [])),
  ((λ (next, u, (i, e)). other next e), (AsciiText (0x41 ∷ 0x41 ∷ 0x43 ∷ []), 0x00 ∷ 0x42 ∷ [], refl, inl (refl, refl), refl)),
  (0x42 ∷ [], refl),
)
  where
    first : ScalarData
    first = AsciiText (0x41 ∷ 0x41 ∷ 0x43 ∷ [])

    second : ScalarData
    second = AsciiText (0x41 ∷ 0x00 ∷ 0x42 ∷ [])

    other : (next : PreviousData) → ◌≡◌ {A = Result Outcome Code} (Ok (record {
      value = Some first;
      next = assigned Ascii first;
    })) (Ok (record { value = Some second; next = next })) → ⊥
    other next e =
        let same : Some first ≡ Some second = ap (λ (o : Outcome). o.value) (same_ok (record {
          value = Some first;
          next = assigned Ascii first;
        }) (record { value = Some second; next = next }) e) in
        absurd (cc same)

pub delta_example : IsReadButRefused Delta (0xC0 ∷ 0x81 ∷ 0x80 ∷ 0x41 ∷ 0xC3 ∷ 0x80 ∷ 0x82 ∷ 0x41 ∷ 0x00 ∷ 0xC2 ∷ []) (0x41 ∷ 0x43 ∷ [])
    (0x41 ∷ 0x00 ∷ 0x42 ∷ [])
delta_example = (delta_read, delta_refused)

pub tail_example : IsReadButRefused Tail (0xE0 ∷ 0x81 ∷ 0x41 ∷ 0x41 ∷ 0xC3 ∷ 0xA0 ∷ 0x41 ∷ 0x00 ∷ 0xC2 ∷ []) (0x41 ∷ 0x41 ∷ 0x43 ∷ []) (0x41 ∷ 0x00 ∷ 0x42 ∷ [])
tail_example = (tail_read, tail_refused)
