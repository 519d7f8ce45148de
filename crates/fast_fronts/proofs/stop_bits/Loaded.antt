-- A word in front of bytes, with zeros for those that are missing: no entity ends among the zeros.
use Rattle.std.proofs.Common.{◌≡◌, ℕ, zero, suc, ◌+◌, ◌*◌, ◌^◌, ◌<◌, ◌≤◌, ◌⊎◌, inl, inr, List, [], ◌∷◌, ◌++◌, refl, ap, sym, subst, ◌∙◌}
use Rattle.std.proofs.Common.{length, take, drop, get_or, replicate, arith, length-append}
use Rattle.std.specs.Prelude.{All}
use Rattle.std.specs.Int.{w32, w64, from_le_bytes}
use Rattle.std.proofs.lemmas.Bool.{cases_lt}
use Rattle.std.proofs.lemmas.List.{get_or_push, get_or-take, length-take-le, take-append-le}
use Rattle.std.proofs.Math.ListN.{get_or-eq_default}
use Rattle.std.proofs.lemmas.List.Elements.{All-nil, All-cons, All-head, All-tail, All-append, All-replicate}
use Rattle.fast_wire.specs.meaning.Entities.{IsEntity, number}
use Rattle.fast_wire.specs.device.Words.{IsShortEntity}
use Rattle.fast_fronts.specs.device.Fronts.{IsLoaded}
use Rattle.fast_wire.proofs.stop_bits.FirstStop.{AreBytes, turned_of, turned-loaded, turned-loaded_short}

abbrev pub AreZeros : List ℕ → Type 0
AreZeros w = All (λ byte. byte ≡ 0) w

zero_at : (zeros : List ℕ) → AreZeros zeros → (i : ℕ) → get_or zeros i 0 ≡ 0
zero_at [] none i = refl
zero_at (z ∷ zeros) none zero = All-head (λ byte. byte ≡ 0) z zeros none
zero_at (z ∷ zeros) none (suc i) = zero_at zeros (All-tail (λ byte. byte ≡ 0) z zeros none) i

zeros_are : (zeros : List ℕ) → AreZeros zeros → AreBytes zeros
zeros_are [] none = All-nil (λ byte. byte < 256)
zeros_are (z ∷ zeros) none =
    All-cons (λ byte. byte < 256) z zeros (omega (arith, All-head (λ byte. byte ≡ 0) z zeros none))
    (zeros_are zeros (All-tail (λ byte. byte ≡ 0) z zeros none))

-- a missing byte counts as zero
pub byte_at : (bytes zeros : List ℕ) → AreZeros zeros → (i : ℕ) → get_or (bytes ++ zeros) i 0 ≡ get_or bytes i 0
byte_at [] zeros none i = zero_at zeros none i
byte_at (b ∷ bytes) zeros none zero = refl
byte_at (b ∷ bytes) zeros none (suc i) = byte_at bytes zeros none i

pub padded_are : (bytes zeros : List ℕ) → AreBytes bytes → AreZeros zeros → AreBytes (bytes ++ zeros)
padded_are bytes zeros are none = All-append (λ byte. byte < 256) bytes zeros are (zeros_are zeros none)

-- The last byte of an entity is no zero.
ends_within : (bytes zeros : List ℕ) (len : ℕ) → AreZeros zeros → len ≤ length (bytes ++ zeros) → IsEntity (take len (bytes ++ zeros)) → len ≤ length bytes
ends_within bytes zeros len none within (front, last, whole, unstopped, stop) = by (cases_lt (length bytes) len)
  where
    long : len ≡ length front + 1
    long = sym (length-take-le len (bytes ++ zeros) within) ∙ ap length whole ∙ length-append front (last ∷ [])

    at : last ≡ get_or bytes (length front) 0
    at = sym (get_or_push front last 0 (length front) refl) ∙ ap (λ w. get_or w (length front) 0) (sym whole)
        ∙ get_or-take len (bytes ++ zeros) (length front) 0 (omega (arith, long)) ∙ byte_at bytes zeros none (length front)

    by : (length bytes < len) ⊎ (len ≤ length bytes) → len ≤ length bytes
    by (inr h) = h
    by (inl h) =
        let out : get_or bytes (length front) 0 ≡ 0 = get_or-eq_default bytes 0 (omega (arith, long, h)) in
        absurd (omega (arith, at, out, stop))

-- the entity that was read with the zeros
pub unpadded : (bytes zeros : List ℕ) (n len : ℕ) → AreZeros zeros → IsShortEntity n len (bytes ++ zeros)
    → IsShortEntity n len bytes × (take len (bytes ++ zeros) ≡ take len bytes)
unpadded bytes zeros n len none e =
    let within : len ≤ length bytes = ends_within bytes zeros len none e.whole e.entity in
    let same : take len (bytes ++ zeros) ≡ take len bytes = take-append-le len bytes zeros within in (
      record {
        whole = within;
        short = e.short;
        entity = subst IsEntity same e.entity;
        value = e.value ∙ ap number same;
      },
      same,
    )

-- two halves as one word
pub halves : (low high : List ℕ) → length low ≡ 4 → length high ≡ 4
    → from_le_bytes w32 low + from_le_bytes w32 high * 2 ^ 32 ≡ from_le_bytes w64 (low ++ high)
halves low high l h =
    let long : length (low ++ high) ≡ 8 = length-append low high ∙ omega arith in
    rw (turned-loaded_short low l, turned-loaded_short high h, turned-loaded (low ++ high) long) (joined low high l)
  where
    joined : (low high : List ℕ) → length low ≡ 4 → turned_of low + turned_of high * 2 ^ 32 ≡ turned_of (low ++ high)
    joined [] high l = absurd (omega arith)
    joined (a ∷ []) high l = absurd (omega arith)
    joined (a ∷ b ∷ []) high l = absurd (omega arith)
    joined (a ∷ b ∷ c ∷ []) high l = absurd (omega arith)
    joined (a ∷ b ∷ c ∷ d ∷ []) high l = omega arith
    joined (a ∷ b ∷ c ∷ d ∷ e ∷ w) high l = absurd (omega arith)

-- fewer than four bytes, and zeros for the others
pub few_bytes : (bytes : List ℕ) → length bytes < 4 → take 4 (bytes ++ replicate 4 0) ++ replicate 4 0 ≡ take 8 (bytes ++ replicate 8 0)
few_bytes [] h = refl
few_bytes (a ∷ []) h = refl
few_bytes (a ∷ b ∷ []) h = refl
few_bytes (a ∷ b ∷ c ∷ []) h = refl
few_bytes (a ∷ b ∷ c ∷ d ∷ bytes) h = absurd (omega (arith, h))

-- four bytes and fewer than four others, and zeros for those that are missing
pub more_bytes : (bytes : List ℕ) → 4 ≤ length bytes → length bytes < 8
    → take 4 bytes ++ take 4 (drop 4 bytes ++ replicate 4 0) ≡ take 8 (bytes ++ replicate 8 0)
more_bytes [] h k = absurd (omega (arith, h))
more_bytes (a ∷ []) h k = absurd (omega (arith, h))
more_bytes (a ∷ b ∷ []) h k = absurd (omega (arith, h))
more_bytes (a ∷ b ∷ c ∷ []) h k = absurd (omega (arith, h))
more_bytes (a ∷ b ∷ c ∷ d ∷ []) h k = refl
more_bytes (a ∷ b ∷ c ∷ d ∷ e ∷ []) h k = refl
more_bytes (a ∷ b ∷ c ∷ d ∷ e ∷ f ∷ []) h k = refl
more_bytes (a ∷ b ∷ c ∷ d ∷ e ∷ f ∷ g ∷ []) h k = refl
more_bytes (a ∷ b ∷ c ∷ d ∷ e ∷ f ∷ g ∷ i ∷ bytes) h k = absurd (omega (arith, k))

-- fewer than eight bytes as one word
pub padded : (bytes : List ℕ) (word : ℕ) → word ≡ from_le_bytes w64 (take 8 (bytes ++ replicate 8 0)) → IsLoaded word bytes
padded bytes word is = record {
  zeros = replicate 8 0;
  none = All-replicate (λ byte. byte ≡ 0) 8 0 refl;
  front = record {
    enough = omega (arith, length-append bytes (replicate 8 0));
    same = is;
  };
}
