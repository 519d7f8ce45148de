-- What was written of lines is shown as these lines.
use Rattle.std.proofs.Common.{◌≡◌, ℕ, ◌/◌, ◌%◌, ◌<◌, inl, inr, Bool, true, false, ◌||◌, not, nat_eq, List, [], ◌∷◌, ◌++◌, Option, Some}
use Rattle.std.proofs.Common.{None, refl, sym, ap, subst, ◌∙◌, append_assoc, append-nil, arith}
use Rattle.std.specs.Prelude.{All, flat_map, Result, Ok, Err}
use Rattle.std.specs.Io.KnownBytes.{IsAtEnd}
use Rattle.std.proofs.lemmas.Bool.Decides.{nat_tests}
use Rattle.std.proofs.lemmas.Grind.{flat_map-append}
use Rattle.std.proofs.lemmas.List.Elements.{All-nil, All-cons, All-head, All-tail, All-append}
use Rattle.fast_value.specs.declared.settings.Limits.{Limits}
use Rattle.fast_value.specs.meaning.Initial.{IsHex}
use Rattle.fast_value.specs.meaning.Limits.{in_mode}
use Rattle.fast_value.specs.meaning.Messages.{MessageData}
use Rattle.fast_tree.specs.meaning.Tree.{Tree}
use Rattle.fast_template.specs.declared.sets.Templates.{Templates}
use Rattle.fast_template.specs.meaning.Flat.{tree_of}
use Rattle.fast_dict.specs.meaning.Dictionary.{Dictionary, fresh}
use Rattle.fast_stream.specs.declared.faults.MakeError.{MakeError}
use Rattle.fast_stream.specs.declared.faults.MakeError.TheVariants as Why
use Rattle.fast_stream.specs.meaning.Events.{EventData, events}
use Rattle.fast_stream.specs.meaning.Streams.{End, Stream, Chain, between, AreBytes}
use Rattle.fast_stream.proofs.streams.Reading.{one_answer, read_back}
use Rattle.fast_decoder.specs.meaning.Decoding.{AreBadLimits}
use Rattle.fast_lines.specs.meaning.Hex.{IsHexOrBlank, digits_in}
use Rattle.fast_lines.specs.meaning.Lines.{hex_digit, hex_byte, lines}
use Rattle.fast_lines.proofs.HexDigits.{digit_is_hex, written_is_hex}
use Rattle.fast_lines.proofs.OneHex.{one_unhexed}
use Rattle.fast_messages.specs.meaning.Reading.{closed}
use Rattle.fast_command.specs.declared.faults.ShowEnd.{ShowEnd}
use Rattle.fast_command.specs.declared.faults.ShowEnd.TheVariants.{Good, Faulted, Truncated}
use Rattle.fast_command.specs.declared.faults.RunFault.{RunFault}
use Rattle.fast_command.specs.declared.faults.RunFault.TheVariants.{Read, Write, BadHex, Templates as Refused, Make, Text, Encode, Memory}
use Rattle.fast_command.specs.meaning.Showing.{StandsFor, IsRefusal, IsClosing}
use Rattle.fast_convert.specs.meaning.Converting.{form, AreCoded}
use Rattle.fast_convert.specs.meaning.ThereAndBack.{IsShownAgain, IsRunOfShow, IsAnswerOfConvert, IsBack}

-- messages that are encoded one after the other, behind others
coded_chain : (t : Tree) (l : Limits) (mode : Bool) (d : Dictionary) (ms : List MessageData) (ws : List (List ℕ)) (next : Dictionary)
    (w : List ℕ) (es : List EventData) → AreCoded t l d ms ws next
    → Chain t (in_mode mode l) w es d → Chain t (in_mode mode l) (w ++ flat_map (form false) ws) (es ++ flat_map (events t) ms) next
coded_chain t l mode d [] [] next w es same chain =
    subst (λ (z : Dictionary). Chain t (in_mode mode l) (w ++ []) (es ++ []) z) (sym same)
    (subst (λ (z : List ℕ). Chain t (in_mode mode l) z (es ++ []) d) (sym (append-nil w))
    (subst (λ (z : List EventData). Chain t (in_mode mode l) w z d) (sym (append-nil es)) chain))
coded_chain t l mode d [] (v ∷ ws) next w es never chain = absurd never
coded_chain t l mode d (m ∷ ms) [] next w es never chain = absurd never
coded_chain t l mode d (m ∷ ms) (v ∷ ws) next w es (mid, one, rest) chain =
    let more = (read_back t (in_mode mode l) w v es m d mid chain one.spelled).1 in
    let all = coded_chain t l mode mid ms ws next (w ++ v) (es ++ events t m) rest more in
    subst (λ (z : List ℕ). Chain t (in_mode mode l) z (es ++ (events t m ++ flat_map (events t) ms)) next) (append_assoc w v (flat_map (form false) ws))
    (subst (λ (z : List EventData). Chain t (in_mode mode l) ((w ++ v) ++ flat_map (form false) ws) z next)
    (append_assoc es (events t m) (flat_map (events t) ms)) all)

-- all that was written is a stream between messages
coded_stream : (t : Tree) (l : Limits) (mode : Bool) (ms : List MessageData) (ws : List (List ℕ)) (next : Dictionary)
    → AreCoded t l (fresh t.entries) ms ws next
    → Stream t (in_mode mode l) (flat_map (form false) ws) (flat_map (events t) ms) between
unfolding Stream
coded_stream t l mode ms ws next coded = (next, coded_chain t l mode (fresh t.entries) ms ws next [] [] coded ([], (refl, refl), refl))

same_lines : (t : Tree) (l : Limits) (w b : List ℕ) (es fs : List EventData) (text out : List ℕ) → Stream t l w es between → (e : End)
    → Stream t l b fs e → b ≡ w → closed text ≡ lines t es → out ≡ lines t fs → out ≡ closed text
same_lines t l w b es fs text out stream e other is same written =
    let one = one_answer t l w fs es e between (subst (λ (z : List ℕ). Stream t l z fs e) is other) stream in
    written ∙ ap (lines t) one.0 ∙ sym same

no_other_end : (t : Tree) (l : Limits) (w b : List ℕ) (es fs : List EventData) → Stream t l w es between → (e : End) → Stream t l b fs e → b ≡ w → e ≡ between
no_other_end t l w b es fs stream e other is = (one_answer t l w fs es e between (subst (λ (z : List ℕ). Stream t l z fs e) is other) stream).1

-- where the writer fails: the stream has no closing line
front_lines : (t : Tree) (l : Limits) (AtEnd : Type 0) (w b : List ℕ) (es fs : List EventData) (text out line rest : List ℕ)
    (place : Option ℕ) → Stream t l w es between → (e : End) → Stream t l b fs e → b ≡ w → closed text ≡ lines t es
    → IsClosing AtEnd place b e line → lines t fs ++ line ≡ out ++ rest → closed text ≡ out ++ rest
front_lines t l AtEnd w b es fs text out line rest place stream e other is same closes written =
    let one = one_answer t l w fs es e between (subst (λ (z : List ℕ). Stream t l z fs e) is other) stream in
    let none : line ≡ [] = subst (λ (z : End). IsClosing AtEnd place b z line) one.1 closes in
    same ∙ ap (lines t) (sym one.0) ∙ sym (append-nil (lines t fs)) ∙ ap (λ (z : List ℕ). lines t fs ++ z) (sym none) ∙ written

-- ---- what the digits of bytes stand for

-- a digit is no blank
digit_stays : (n : ℕ) → not (nat_eq (hex_digit n) 0x20 || nat_eq (hex_digit n) 0x09 || nat_eq (hex_digit n) 0x0D || nat_eq (hex_digit n) 0x0A) ≡ true
digit_stays n = grind (arith, nat_tests)

one_digit : (n : ℕ) (text : List ℕ) → digits_in (hex_digit n ∷ text) ≡ hex_digit n ∷ digits_in text
one_digit n text = rw (digit_stays n) refl

bytes_stay : (w text : List ℕ) → digits_in (flat_map hex_byte w ++ text) ≡ flat_map hex_byte w ++ digits_in text
bytes_stay [] text = refl
bytes_stay (c ∷ w) text =
    one_digit (c / 16) (hex_digit (c % 16) ∷ (flat_map hex_byte w ++ text))
    ∙ ap (λ (z : List ℕ). hex_digit (c / 16) ∷ z) (one_digit (c % 16) (flat_map hex_byte w ++ text)
    ∙ ap (λ (z : List ℕ). hex_digit (c % 16) ∷ z) (bytes_stay w text))

digits_of : (ws : List (List ℕ)) → digits_in (flat_map (form true) ws) ≡ flat_map hex_byte (flat_map (form false) ws)
digits_of [] = refl
digits_of (w ∷ ws) =
    ap digits_in (append_assoc (flat_map hex_byte w) (0x0A ∷ []) (flat_map (form true) ws)) ∙ bytes_stay w (0x0A ∷ flat_map (form true) ws)
    ∙ ap (λ (z : List ℕ). flat_map hex_byte w ++ z) (digits_of ws) ∙ sym (flat_map-append hex_byte w (flat_map (form false) ws))

-- the bytes of messages are bytes
coded_bytes : (t : Tree) (l : Limits) (d : Dictionary) (ms : List MessageData) (ws : List (List ℕ)) (next : Dictionary)
    → AreCoded t l d ms ws next → All AreBytes ws
coded_bytes t l d [] [] next same = All-nil AreBytes
coded_bytes t l d [] (w ∷ ws) next never = absurd never
coded_bytes t l d (m ∷ ms) [] next never = absurd never
coded_bytes t l d (m ∷ ms) (w ∷ ws) next (mid, one, rest) = All-cons AreBytes w ws one.bytes (coded_bytes t l mid ms ws next rest)

all_are_bytes : (ws : List (List ℕ)) → All AreBytes ws → AreBytes (flat_map (form false) ws)
all_are_bytes [] h = All-nil (λ b. b < 256)
all_are_bytes (w ∷ ws) h = All-append (λ b. b < 256) w (flat_map (form false) ws) (All-head AreBytes w ws h) (all_are_bytes ws (All-tail AreBytes w ws h))

-- digits and line feeds
bytes_are_hex : (w : List ℕ) → AreBytes w → All IsHexOrBlank (flat_map hex_byte w)
bytes_are_hex [] h = All-nil IsHexOrBlank
bytes_are_hex (c ∷ w) h =
    let small = All-head (λ b. b < 256) c w h in
    let rest = bytes_are_hex w (All-tail (λ b. b < 256) c w h) in
    let high : IsHexOrBlank (hex_digit (c / 16)) = inr (c / 16, (digit_is_hex (c / 16) (omega (arith, small))).0) in
    let low : IsHexOrBlank (hex_digit (c % 16)) = inr (c % 16, (digit_is_hex (c % 16) (omega arith)).0) in
    All-cons IsHexOrBlank (hex_digit (c / 16)) (hex_digit (c % 16) ∷ flat_map hex_byte w) high
    (All-cons IsHexOrBlank (hex_digit (c % 16)) (flat_map hex_byte w) low rest)

all_are_hex : (ws : List (List ℕ)) → All AreBytes ws → All IsHexOrBlank (flat_map (form true) ws)
all_are_hex [] h = All-nil IsHexOrBlank
all_are_hex (w ∷ ws) h =
    let feed = All-cons IsHexOrBlank 0x0A [] (inl (inr (inr (inr refl)))) (All-nil IsHexOrBlank) in
    let line = All-append IsHexOrBlank (flat_map hex_byte w) (0x0A ∷ []) (bytes_are_hex w (All-head AreBytes w ws h)) feed in
    All-append IsHexOrBlank (flat_map hex_byte w ++ 0x0A ∷ []) (flat_map (form true) ws) line (all_are_hex ws (All-tail AreBytes w ws h))

-- What is written of bytes stands for them, and for nothing else.
stands_alone : (hex : Bool) (ws : List (List ℕ)) (b : List ℕ) (place : Option ℕ) → All AreBytes ws
    → StandsFor hex (flat_map (form hex) ws) b place → (b ≡ flat_map (form false) ws) × (place ≡ None)
stands_alone false ws b place bytes h = h
stands_alone true ws b place bytes h =
    let all = flat_map (form false) ws in
    let digits : IsHex (digits_in (flat_map (form true) ws)) all =
    subst (λ (z : List ℕ). IsHex z all) (sym (digits_of ws)) (written_is_hex all (all_are_bytes ws bytes)).0 in
    one_unhexed (flat_map (form true) ws) b all place None h (all_are_hex ws bytes, digits)

-- ---- what show makes of it

-- no cause to refuse the limits, in either mode
none_refused : (set : Templates) (l : Limits) (mode : Bool) (u : Unit {0}) → (AreBadLimits l → Ok u ≡ Err (Make Why.BadLimits))
    → (IsRefusal set l Why.InitialTooLong → Ok u ≡ Err (Make Why.InitialTooLong)) → (cause : MakeError)
    → IsRefusal set (in_mode mode l) cause → ⊥
none_refused set l mode u bad long Why.BadLimits h = let e = bad h in absurd (cc (e))
none_refused set l mode u bad long Why.InitialTooLong h = let e = long h in absurd (cc (e))
none_refused set l mode u bad long Why.Memory h = h

-- so it is shown again
shown_again : (set : Templates) (l : Limits) (hex : Bool) (left : Option (List ℕ)) (max_reads : ℕ) (reader_failed writer_failed : Bool)
    (stream w : List ℕ) (es : List EventData) (text out : List ℕ) (r : Result ShowEnd RunFault)
    → Stream (tree_of set) l w es between → closed text ≡ lines (tree_of set) es
    → ((b : List ℕ) (place : Option ℕ) → StandsFor hex stream b place → (b ≡ w) × (place ≡ None))
    → ((cause : MakeError) → IsRefusal set l cause → ⊥)
    → IsRunOfShow set l hex left max_reads reader_failed writer_failed stream out r → IsShownAgain text out r
shown_again set l hex left max_reads rf wf stream w es text out (Ok Good) spelled same alone fit (b, fs, of, is, end) =
    same_lines (tree_of set) l w b es fs text out spelled between of.stream (alone b None of.bytes).0 same is
shown_again set l hex left max_reads rf wf stream w es text out (Ok (Faulted f)) spelled same alone fit (place, b, fs, c, of, code, is) =
    let e = no_other_end (tree_of set) l w b es fs spelled _ of.stream (alone b place of.bytes).0 in absurd (cc (e))
shown_again set l hex left max_reads rf wf stream w es text out (Ok (Truncated n)) spelled same alone fit (b, fs, of, long, is, end) =
    let e = no_other_end (tree_of set) l w b es fs spelled _ of.stream (alone b None of.bytes).0 in absurd (cc (e))
shown_again set l hex left max_reads rf wf stream w es text out (Err (BadHex n)) spelled same alone fit (b, fs, e, of, good, is, end) =
    let none = (alone b (Some n) of.bytes).1 in absurd (cc (none))
shown_again set l hex left max_reads rf wf stream w es text out (Err Read) spelled same alone fit (place, b, fs, e, of, good, is, more) =
    same_lines (tree_of set) l w b es fs text out spelled e of.stream (alone b place of.bytes).0 same is
shown_again set l hex left max_reads rf wf stream w es text out (Err Write) spelled same alone fit
    (place, b, fs, e, line, rest, stands, found, closes, is, failed) = (
      rest,
      front_lines (tree_of set) l (IsAtEnd left) w b es fs text out line rest place spelled e found
          (alone b place stands).0 same closes is,
    )
shown_again set l hex left max_reads rf wf stream w es text out (Err (Refused fault)) spelled same alone fit h = h
shown_again set l hex left max_reads rf wf stream w es text out (Err (Text line kind)) spelled same alone fit h = h
shown_again set l hex left max_reads rf wf stream w es text out (Err (Encode message fault)) spelled same alone fit h = h
shown_again set l hex left max_reads rf wf stream w es text out (Err (Make cause)) spelled same alone fit h = fit cause h.2
shown_again set l hex left max_reads rf wf stream w es text out (Err Memory) spelled same alone fit h = h.1

pub is_back : (set : Templates) (l : Limits) (hex : Bool) (left_old left_new held holds : Option (List ℕ)) (reader_failed writer_failed : Bool) (u : Unit {0})
    → IsAnswerOfConvert set l hex left_old left_new held holds reader_failed writer_failed (Ok u) → IsBack set l hex left_old left_new held holds
is_back set l hex left_old left_new held holds rf wf u h =
    let all = h.converted in
    let (ws, next, coded, written) = all.written in
    record {
      text = all.text;
      stream = flat_map (form hex) ws;
      whole = all.whole;
      written = written;
      shown = λ mode left max_reads reader_failed writer_failed out r run.
          shown_again set (in_mode mode l) hex left max_reads reader_failed writer_failed (flat_map (form hex) ws)
          (flat_map (form false) ws) (flat_map (events (tree_of set)) all.messages) all.text out r
          (coded_stream (tree_of set) l mode all.messages ws next coded) all.says.same
          (λ b place. stands_alone hex ws b place (coded_bytes (tree_of set) l (fresh (tree_of set).entries) all.messages ws next coded))
          (none_refused set l mode u h.bad_limits h.long_initial) run;
    }
