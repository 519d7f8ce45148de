-- Eight bytes in front as one word, whose lower parts are the first of them.
use Rattle.std.proofs.Common.{◌≡◌, ℕ, zero, suc, ◌/◌, ◌%◌, ◌<◌, ◌≤◌, List, [], ◌∷◌, refl, ap, ◌∙◌, length, take, get_or, arith, lit<}
use Rattle.std.specs.Int.{w32, w64, from_be_bytes, from_le_bytes, to_le_bytes}
use Rattle.std.proofs.lemmas.List.{length-take-le}
use Rattle.std.proofs.lemmas.List.Elements.{All-head, All-tail, All-take}
use Rattle.std.proofs.lemmas.Nat.{le_bytes_4, le_bytes_8}
use Rattle.fast_wire.specs.device.Words.{IsFrontWord}
use Rattle.fast_wire.proofs.stop_bits.FirstStop.{AreBytes, turned_of, turned-loaded, turned-loaded_short}

-- the word as a number to the base 256, the first byte the lowest digit
turned : (word : ℕ) (bytes : List ℕ) → IsFrontWord word bytes → word ≡ turned_of (take 8 bytes)
turned word bytes front = front.same ∙ turned-loaded (take 8 bytes) (length-take-le 8 bytes front.enough)

-- the first byte
pub first_is : (word : ℕ) (bytes : List ℕ) → AreBytes bytes → IsFrontWord word bytes → word % 256 ≡ get_or bytes 0 0
first_is word [] are front = absurd (omega (arith, front.enough))
first_is word (a ∷ bytes) are front =
    let t : word ≡ turned_of (take 8 (a ∷ bytes)) = turned word (a ∷ bytes) front in
    let h : a < 256 = All-head (λ byte. byte < 256) a bytes are in
    omega arith

-- the second byte
pub second_is : (word : ℕ) (bytes : List ℕ) → AreBytes bytes → IsFrontWord word bytes → word / 256 % 256 ≡ get_or bytes 1 0
second_is word [] are front = absurd (omega (arith, front.enough))
second_is word (a ∷ []) are front = absurd (omega (arith, front.enough))
second_is word (a ∷ b ∷ bytes) are front =
    let t : word ≡ turned_of (take 8 (a ∷ b ∷ bytes)) = turned word (a ∷ b ∷ bytes) front in
    let h : a < 256 = All-head (λ byte. byte < 256) a (b ∷ bytes) are in
    let i : b < 256 = All-head (λ byte. byte < 256) b bytes (All-tail (λ byte. byte < 256) a (b ∷ bytes) are) in
    omega arith

-- the first four bytes
pub four_are : (word : ℕ) (bytes : List ℕ) → AreBytes bytes → IsFrontWord word bytes → word % 4294967296 ≡ from_le_bytes w32 (take 4 bytes)
four_are word [] are front = absurd (omega (arith, front.enough))
four_are word (a ∷ []) are front = absurd (omega (arith, front.enough))
four_are word (a ∷ b ∷ []) are front = absurd (omega (arith, front.enough))
four_are word (a ∷ b ∷ c ∷ []) are front = absurd (omega (arith, front.enough))
four_are word (a ∷ b ∷ c ∷ d ∷ bytes) are front =
    let t : word ≡ turned_of (take 8 (a ∷ b ∷ c ∷ d ∷ bytes)) = turned word (a ∷ b ∷ c ∷ d ∷ bytes) front in
    let s : from_le_bytes w32 (a ∷ b ∷ c ∷ d ∷ []) ≡ turned_of (a ∷ b ∷ c ∷ d ∷ []) = turned-loaded_short (a ∷ b ∷ c ∷ d ∷ []) refl in
    let are1 : AreBytes (b ∷ c ∷ d ∷ bytes) = All-tail (λ byte. byte < 256) a (b ∷ c ∷ d ∷ bytes) are in
    let are2 : AreBytes (c ∷ d ∷ bytes) = All-tail (λ byte. byte < 256) b (c ∷ d ∷ bytes) are1 in
    let are3 : AreBytes (d ∷ bytes) = All-tail (λ byte. byte < 256) c (d ∷ bytes) are2 in
    let h0 : a < 256 = All-head (λ byte. byte < 256) a (b ∷ c ∷ d ∷ bytes) are in
    let h1 : b < 256 = All-head (λ byte. byte < 256) b (c ∷ d ∷ bytes) are1 in
    let h2 : c < 256 = All-head (λ byte. byte < 256) c (d ∷ bytes) are2 in
    let h3 : d < 256 = All-head (λ byte. byte < 256) d bytes are3 in
    omega arith

bytes_in : (w : List ℕ) → AreBytes w → (i : ℕ) → get_or w i 0 < 256
bytes_in [] are i = lit< tt
bytes_in (b ∷ w) are zero = All-head (λ byte. byte < 256) b w are
bytes_in (b ∷ w) are (suc i) = bytes_in w (All-tail (λ byte. byte < 256) b w are) i

-- with their bytes turned round, the word and its lower half are what the bytes are as a number with the first one the highest digit
pub word_turned : (word : ℕ) (bytes : List ℕ) → AreBytes bytes → IsFrontWord word bytes
    → from_be_bytes w64 (to_le_bytes w64 word) ≡ from_be_bytes w64 (take 8 bytes)
word_turned word bytes are front =
    ap (from_be_bytes w64) (le_bytes_8 (take 8 bytes) word (length-take-le 8 bytes front.enough)
    (bytes_in (take 8 bytes) (All-take (λ byte. byte < 256) 8 bytes are)) front.same)

pub four_turned : (four : ℕ) (bytes : List ℕ) → AreBytes bytes → 8 ≤ length bytes → four ≡ from_le_bytes w32 (take 4 bytes)
    → from_be_bytes w32 (to_le_bytes w32 four) ≡ from_be_bytes w32 (take 4 bytes)
four_turned four bytes are enough is =
    ap (from_be_bytes w32) (le_bytes_4 (take 4 bytes) four (length-take-le 4 bytes (omega arith))
    (bytes_in (take 4 bytes) (All-take (λ byte. byte < 256) 4 bytes are)) is)
