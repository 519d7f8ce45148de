-- An entity in front of a slice, of one byte or taken by a word.
use Rattle.std.proofs.Common.{◌≡◌, ◌≢◌, ℕ, ◌+◌, ◌*◌, ◌-◌, ◌/◌, ◌^◌, ◌<◌, ◌≤◌, List, [], ◌∷◌, ◌++◌, refl, ap, sym, subst, ◌∙◌, length, take}
use Rattle.std.proofs.Common.{drop, get_or, replicate, arith, lit<, length-append, append_assoc}
use Rattle.std.specs.Prelude.{ℤ, bit_and}
use Rattle.std.specs.Int.{w8, w32, w64, from_be_bytes, from_le_bytes}
use lib.Count.{count_trailing_zeros}
use mir.Val.{Fits}
use Rattle.std.proofs.lemmas.List.{take_at, take-append-drop, length-replicate, length-take-le, get_or_default}
use Rattle.std.proofs.lemmas.List.Elements.{All-nil, All-append, All-replicate, All-take}
use Rattle.std.proofs.lemmas.Nat.{and_mask}
use Rattle.fast_wire.specs.meaning.Entities.{IsEntity, number, signed}
use Rattle.fast_wire.specs.device.Words.{word_of, IsShortEntity, IsSpread}
use Rattle.fast_wire.proofs.stop_bits.FirstStop.{AreBytes, entity_is_long, Told, told, told_short, stops_of, short_stops_of}
use Rattle.fast_wire.proofs.stop_bits.FirstStop.{front_are_bytes, word-loaded, word-loaded_short, word-zeros, number-zeros}

-- what is known of a slice of bytes
pub are_bytes : (w : List ℕ) → ((i : ℕ) → Fits w8 (get_or w i 0)) → AreBytes w
are_bytes w fits = λ k d h. subst (λ n. n < 256) (get_or_default w k 0 d h) (fits k).fits

pub one_byte : (w : List ℕ) (n : ℕ) → 0 < length w → 128 ≤ get_or w 0 0 → n ≡ bit_and (get_or w 0 0) 127 → IsShortEntity n 1 w
one_byte [] n h stop e = absurd (omega arith)
one_byte (x ∷ w) n h stop e = record {
  whole = omega arith;
  short = omega arith;
  entity = ([], x, refl, All-nil (λ byte. byte < 128), stop);
  value = e ∙ and_mask x 7 ∙ omega arith;
}

-- an entity in front, and how long it is
in_front : (k : ℕ) (bytes front rest : List ℕ) → take k bytes ≡ front ++ rest → take (length front) bytes ≡ front
in_front k bytes front rest e =
    let s : bytes ≡ front ++ (rest ++ drop k bytes) = sym (take-append-drop k bytes) ∙ ap (λ v. v ++ drop k bytes) e ∙ append_assoc front rest (drop k bytes) in
    ap (λ v. take (length front) v) s ∙ take_at front (rest ++ drop k bytes) (length front) refl

-- eight bytes with an entity in front, as the number of a word's upper bytes says
pub by_word : (bytes : List ℕ) (le be n : ℕ) → AreBytes bytes → 8 ≤ length bytes → le ≡ from_le_bytes w64 (take 8 bytes)
    → be ≡ from_be_bytes w64 (take 8 bytes) → stops_of le ≢ 0
    → ((w : List ℕ) → length w ≡ 8 → AreBytes w → be / 2 ^ (64 - (count_trailing_zeros 64 (stops_of le) + 1)) ≡ word_of w → n ≡ number w)
    → IsShortEntity n ((count_trailing_zeros 64 (stops_of le) + 1) / 8) bytes
by_word bytes le be n are enough le_is is_be some sum =
    by (subst (λ x. Told (take 8 bytes) (count_trailing_zeros 64 (stops_of x))) (sym le_is)
    (told (take 8 bytes) (length-take-le 8 bytes enough) (All-take (λ byte. byte < 256) 8 bytes are)
    (λ e. some (ap stops_of le_is ∙ e))))
  where
    by : Told (take 8 bytes) (count_trailing_zeros 64 (stops_of le)) → IsShortEntity n ((count_trailing_zeros 64 (stops_of le) + 1) / 8) bytes
    by t =
        let eight : length (take 8 bytes) ≡ 8 = length-take-le 8 bytes enough in
        let lengths : length t.front + length t.rest ≡ 8 = sym (length-append t.front t.rest) ∙ ap length (sym t.whole) ∙ eight in
        let behind : 64 - (count_trailing_zeros 64 (stops_of le) + 1) ≡ 8 * length t.rest = omega (arith, t.count) in
        let len : (count_trailing_zeros 64 (stops_of le) + 1) / 8 ≡ length t.front = omega (arith, t.count) in
        let front : AreBytes t.front = front_are_bytes t.front t.rest (subst AreBytes t.whole (All-take (λ byte. byte < 256) 8 bytes are)) in
        let padded : List ℕ = replicate (length t.rest) 0 ++ t.front in
        let long : length padded ≡ 8 = length-append (replicate (length t.rest) 0) t.front ∙ rw (length-replicate {A = ℕ} (length t.rest) 0) (omega arith) in
        let word : be ≡ word_of (take 8 bytes) = is_be ∙ word-loaded (take 8 bytes) eight in
        let value : n ≡ number padded = sum padded long (All-append (λ byte. byte < 256) (replicate (length t.rest) 0) t.front
        (All-replicate (λ byte. byte < 256) (length t.rest) 0 (lit< tt)) front)
        (ap (λ (k : ℕ). be / 2 ^ k) behind ∙ ap (λ (x : ℕ). x / 2 ^ (8 * length t.rest)) word ∙ t.word ∙ sym (word-zeros (length t.rest) t.front)) in
        let taken = in_front 8 bytes t.front t.rest t.whole in
        subst (λ k. IsShortEntity n k bytes) (sym len) (record {
          whole = omega (arith, enough);
          short = omega arith;
          entity = subst IsEntity (sym taken) t.entity;
          value = value ∙ number-zeros (length t.rest) t.front ∙ ap number (sym taken);
        })

-- four bytes with an entity in front, as the number of a word's upper bytes says
pub by_short_word : (bytes : List ℕ) (le be n : ℕ) → AreBytes bytes → 4 ≤ length bytes → le ≡ from_le_bytes w32 (take 4 bytes)
    → be ≡ from_be_bytes w32 (take 4 bytes) → short_stops_of le ≢ 0
    → ((w : List ℕ) → length w ≡ 8 → AreBytes w → be / 2 ^ (32 - (count_trailing_zeros 32 (short_stops_of le) + 1)) ≡ word_of w → n ≡ number w)
    → IsShortEntity n ((count_trailing_zeros 32 (short_stops_of le) + 1) / 8) bytes
by_short_word bytes le be n are enough le_is is_be some sum =
    by (subst (λ x. Told (take 4 bytes) (count_trailing_zeros 32 (short_stops_of x))) (sym le_is)
    (told_short (take 4 bytes) (length-take-le 4 bytes enough) (All-take (λ byte. byte < 256) 4 bytes are)
    (λ e. some (ap short_stops_of le_is ∙ e))))
  where
    by : Told (take 4 bytes) (count_trailing_zeros 32 (short_stops_of le)) → IsShortEntity n ((count_trailing_zeros 32 (short_stops_of le) + 1) / 8) bytes
    by t =
        let four : length (take 4 bytes) ≡ 4 = length-take-le 4 bytes enough in
        let lengths : length t.front + length t.rest ≡ 4 = sym (length-append t.front t.rest) ∙ ap length (sym t.whole) ∙ four in
        let behind : 32 - (count_trailing_zeros 32 (short_stops_of le) + 1) ≡ 8 * length t.rest = omega (arith, t.count) in
        let len : (count_trailing_zeros 32 (short_stops_of le) + 1) / 8 ≡ length t.front = omega (arith, t.count) in
        let front : AreBytes t.front = front_are_bytes t.front t.rest (subst AreBytes t.whole (All-take (λ byte. byte < 256) 4 bytes are)) in
        let padded : List ℕ = replicate (4 + length t.rest) 0 ++ t.front in
        let long : length padded ≡ 8 = length-append (replicate (4 + length t.rest) 0) t.front
        ∙ rw (length-replicate {A = ℕ} (4 + length t.rest) 0) (omega arith) in
        let word : be ≡ word_of (take 4 bytes) = is_be ∙ word-loaded_short (take 4 bytes) four in
        let value : n ≡ number padded = sum padded long (All-append (λ byte. byte < 256) (replicate (4 + length t.rest) 0) t.front
        (All-replicate (λ byte. byte < 256) (4 + length t.rest) 0 (lit< tt)) front)
        (ap (λ (k : ℕ). be / 2 ^ k) behind ∙ ap (λ (x : ℕ). x / 2 ^ (8 * length t.rest)) word ∙ t.word ∙ sym (word-zeros (4 + length t.rest) t.front)) in
        let taken = in_front 4 bytes t.front t.rest t.whole in
        subst (λ k. IsShortEntity n k bytes) (sym len) (record {
          whole = omega (arith, enough);
          short = omega arith;
          entity = subst IsEntity (sym taken) t.entity;
          value = value ∙ number-zeros (4 + length t.rest) t.front ∙ ap number (sym taken);
        })

-- what the stop bits of the first four bytes tell
pub told_in_four : (bytes : List ℕ) (le : ℕ) → AreBytes bytes → 8 ≤ length bytes → le ≡ from_le_bytes w32 (take 4 bytes)
    → short_stops_of le ≢ 0 → Told (take 4 bytes) (count_trailing_zeros 32 (short_stops_of le))
told_in_four bytes le are enough is some =
    subst (λ x. Told (take 4 bytes) (count_trailing_zeros 32 (short_stops_of x))) (sym is)
    (told_short (take 4 bytes) (length-take-le 4 bytes (omega arith)) (All-take (λ byte. byte < 256) 4 bytes are)
    (λ e. some (ap short_stops_of is ∙ e)))

-- four bytes with an entity in front, which stands for an integer in two's complement
pub by_signed_word : (bytes : List ℕ) (le be : ℕ) (value : ℤ) → AreBytes bytes → 8 ≤ length bytes → le ≡ from_le_bytes w32 (take 4 bytes)
    → be ≡ from_be_bytes w32 (take 4 bytes) → short_stops_of le ≢ 0
    → ((front rest : List ℕ) → count_trailing_zeros 32 (short_stops_of le) + 1 ≡ 8 * length front → length (front ++ rest) ≡ 4
    → AreBytes (front ++ rest) → be ≡ word_of (front ++ rest) → value ≡ signed front)
    → (len : ℕ) → len ≡ (count_trailing_zeros 32 (short_stops_of le) + 1) / 8
    → IsShortEntity (number (take len bytes)) len bytes × (value ≡ signed (take len bytes))
by_signed_word bytes le be value are enough is_le is_be some means len count = by (told_in_four bytes le are enough is_le some)
  where
    by : Told (take 4 bytes) (count_trailing_zeros 32 (short_stops_of le))
        → IsShortEntity (number (take len bytes)) len bytes × (value ≡ signed (take len bytes))
    by t =
        let long : length (take 4 bytes) ≡ 4 = length-take-le 4 bytes (omega arith) in
        let lengths : length t.front + length t.rest ≡ 4 = sym (length-append t.front t.rest) ∙ ap length (sym t.whole) ∙ long in
        let is : len ≡ length t.front = count ∙ omega (arith, t.count) in
        let taken : take len bytes ≡ t.front = ap (λ k. take k bytes) is ∙ in_front 4 bytes t.front t.rest t.whole in
        let word : be ≡ word_of (take 4 bytes) = is_be ∙ word-loaded_short (take 4 bytes) long in (
          record {
            whole = omega arith;
            short = omega arith;
            entity = subst IsEntity (sym taken) t.entity;
            value = refl;
          },
          means t.front t.rest t.count (ap length (sym t.whole) ∙ long)
              (subst AreBytes t.whole (All-take (λ byte. byte < 256) 4 bytes are)) (word ∙ ap word_of t.whole) ∙ ap signed (sym taken),
        )

-- how many bits the entity has
pub bits_in_four : (bytes : List ℕ) (le : ℕ) → AreBytes bytes → 8 ≤ length bytes → le ≡ from_le_bytes w32 (take 4 bytes) → short_stops_of le ≢ 0
    → (8 ≤ count_trailing_zeros 32 (short_stops_of le) + 1) × (count_trailing_zeros 32 (short_stops_of le) + 1 ≤ 32)
bits_in_four bytes le are enough is some = by (told_in_four bytes le are enough is some)
  where
    by : Told (take 4 bytes) (count_trailing_zeros 32 (short_stops_of le))
        → (8 ≤ count_trailing_zeros 32 (short_stops_of le) + 1) × (count_trailing_zeros 32 (short_stops_of le) + 1 ≤ 32)
    by t =
        let long : length (take 4 bytes) ≡ 4 = length-take-le 4 bytes (omega arith) in
        let lengths : length t.front + length t.rest ≡ 4 = sym (length-append t.front t.rest) ∙ ap length (sym t.whole) ∙ long in
        let one : 0 < length t.front = entity_is_long t.front t.entity in
        (omega (arith, t.count), omega (arith, t.count))

-- the integer, by the word with its sign spread and the bytes of that packed
pub spread_means : (value : ℤ) (low sum : ℕ) (front : List ℕ) → IsSpread low front
    → ((w : List ℕ) → length w ≡ 8 → AreBytes w → low ≡ word_of w → sum ≡ number w)
    → ((w : List ℕ) → length w ≡ 4 → sum ≡ number w → value ≡ signed w) → value ≡ signed front
spread_means value low sum front (w, l, are, is, same) packed extended =
    let padded : List ℕ = replicate 4 0 ++ w in
    let long : length padded ≡ 8 = length-append (replicate 4 0) w ∙ omega arith in
    let n : sum ≡ number padded = packed padded long (All-append (λ byte. byte < 256) (replicate 4 0) w
    (All-replicate (λ byte. byte < 256) 4 0 (lit< tt)) are) (is ∙ sym (word-zeros 4 w)) in
    extended w l (n ∙ number-zeros 4 w) ∙ same
