-- Eight bytes of a word become the seven-bit digits of a number, by pairs, fours and eights.
use Rattle.std.proofs.Common.{◌≡◌, ℕ, ◌+◌, ◌*◌, ◌-◌, ◌%◌, ◌/◌, ◌^◌, ◌<◌, ◌≤◌, List, [], ◌∷◌, ap, ◌∙◌, length, arith, lit<}
use Rattle.std.specs.Prelude.{All, bit_and}
use Rattle.std.proofs.lemmas.Nat.{and_mask, and_block}
use Rattle.std.proofs.Math.Nat.{mod-eq_of_lt}
use Rattle.fast_wire.specs.meaning.Entities.{number}
use Rattle.fast_wire.specs.device.Words.{word_of}

-- A mask upon two blocks of k bits.
by_blocks : (k a m y b n z : ℕ) → b < 2 ^ k → n < 2 ^ k → bit_and a m ≡ y → bit_and b n ≡ z → bit_and (a * 2 ^ k + b) (m * 2 ^ k + n) ≡ y * 2 ^ k + z
by_blocks k a m y b n z p q e f = and_block k a m b n p q ∙ ap (λ (x : ℕ). x * 2 ^ k + bit_and b n) e ∙ ap (λ (x : ℕ). y * 2 ^ k + x) f

seven : (a : ℕ) → bit_and a 127 ≡ a % 128
seven a = and_mask a 7

none : (a : ℕ) → bit_and a 0 ≡ 0
none a = and_mask a 0 ∙ omega arith

-- what stays of a number below 2 ^ k under k ones
all_of : (a k : ℕ) → a < 2 ^ k → bit_and a (2 ^ k - 1) ≡ a
all_of a k h = and_mask a k ∙ mod-eq_of_lt h

sevens_of : (a b c d e f g h : ℕ) → a < 256 → b < 256 → c < 256 → d < 256 → e < 256 → f < 256 → g < 256 → h < 256
    → bit_and (((((((a * 256 + b) * 256 + c) * 256 + d) * 256 + e) * 256 + f) * 256 + g) * 256 + h) 0x7f7f_7f7f_7f7f_7f7f
    ≡ ((((((a % 128 * 256 + b % 128) * 256 + c % 128) * 256 + d % 128) * 256 + e % 128) * 256 + f % 128) * 256 + g % 128) * 256 + h % 128
sevens_of a b c d e f g h a8 b8 c8 d8 e8 f8 g8 h8 =
    by_blocks 8 _ 0x7f_7f7f_7f7f_7f7f _ h 127 _ h8 (lit< tt)
    (by_blocks 8 _ 0x7f7f_7f7f_7f7f _ g 127 _ g8 (lit< tt)
    (by_blocks 8 _ 0x7f_7f7f_7f7f _ f 127 _ f8 (lit< tt)
    (by_blocks 8 _ 0x7f7f_7f7f _ e 127 _ e8 (lit< tt)
    (by_blocks 8 _ 0x7f_7f7f _ d 127 _ d8 (lit< tt)
    (by_blocks 8 _ 0x7f7f _ c 127 _ c8 (lit< tt) (by_blocks 8 a 127 _ b 127 _ b8 (lit< tt) (seven a) (seven b)) (seven c)) (seven d))
    (seven e)) (seven f)) (seven g)) (seven h)

-- the upper one of two digits
upper : (a b : ℕ) → a < 128 → b < 128 → bit_and (a * 256 + b) 0x7f00 ≡ a * 256
upper a b p q = by_blocks 8 a 127 a b 0 0 (omega arith) (lit< tt) (all_of a 7 p) (none b) ∙ omega arith

pairs_of : (a b c d e f g h s : ℕ) → a < 128 → b < 128 → c < 128 → d < 128 → e < 128 → f < 128 → g < 128 → h < 128
    → s ≡ ((((((a * 256 + b) * 256 + c) * 256 + d) * 256 + e) * 256 + f) * 256 + g) * 256 + h
    → s - bit_and s 0x7f00_7f00_7f00_7f00 / 2 ≡ (((a * 128 + b) * 65536 + (c * 128 + d)) * 65536 + (e * 128 + f)) * 65536 + (g * 128 + h)
pairs_of a b c d e f g h s a7 b7 c7 d7 e7 f7 g7 h7 is =
    let lanes : s ≡ (((a * 256 + b) * 65536 + (c * 256 + d)) * 65536 + (e * 256 + f)) * 65536 + (g * 256 + h) = omega arith in
    let m : bit_and s 0x7f00_7f00_7f00_7f00 ≡ ((a * 256 * 65536 + c * 256) * 65536 + e * 256) * 65536 + g * 256 =
    ap (λ (n : ℕ). bit_and n 0x7f00_7f00_7f00_7f00) lanes
    ∙ by_blocks 16 _ 0x7f00_7f00_7f00 _ (g * 256 + h) 0x7f00 _ (omega arith) (lit< tt)
    (by_blocks 16 _ 0x7f00_7f00 _ (e * 256 + f) 0x7f00 _ (omega arith) (lit< tt)
    (by_blocks 16 _ 0x7f00 _ (c * 256 + d) 0x7f00 _ (omega arith) (lit< tt) (upper a b a7 b7) (upper c d c7 d7)) (upper e f e7 f7)) (upper g h g7 h7) in
    omega arith

-- the upper one of two pairs
upper_pair : (p q : ℕ) → p < 16384 → q < 16384 → bit_and (p * 65536 + q) 0x3fff_0000 ≡ p * 65536
upper_pair p q h k = by_blocks 16 p 0x3fff p q 0 0 (omega arith) (lit< tt) (all_of p 14 h) (none q) ∙ omega arith

fours_of : (p q r s x : ℕ) → p < 16384 → q < 16384 → r < 16384 → s < 16384
    → x ≡ ((p * 65536 + q) * 65536 + r) * 65536 + s
    → x - bit_and x 0x3fff_0000_3fff_0000 / 4 * 3 ≡ (p * 16384 + q) * 4294967296 + (r * 16384 + s)
fours_of p q r s x hp hq hr hs is =
    let lanes : x ≡ (p * 65536 + q) * 4294967296 + (r * 65536 + s) = omega arith in
    let m : bit_and x 0x3fff_0000_3fff_0000 ≡ p * 65536 * 4294967296 + r * 65536 =
    ap (λ (n : ℕ). bit_and n 0x3fff_0000_3fff_0000) lanes
    ∙ by_blocks 32 _ 0x3fff_0000 _ (r * 65536 + s) 0x3fff_0000 _ (omega arith) (lit< tt) (upper_pair p q hp hq) (upper_pair r s hr hs) in
    omega arith

eight_of : (p q x : ℕ) → p < 268435456 → q < 268435456 → x ≡ p * 4294967296 + q → x - x / 4294967296 * 4026531840 ≡ p * 268435456 + q
eight_of p q x hp hq is = omega arith

-- the steps of the code
abbrev pub sevens : ℕ → ℕ
sevens x = bit_and x 0x7f7f_7f7f_7f7f_7f7f

abbrev pub pairs : ℕ → ℕ
pairs s = s - bit_and s 0x7f00_7f00_7f00_7f00 / 2

abbrev pub fours : ℕ → ℕ
fours p = p - bit_and p 0x3fff_0000_3fff_0000 / 4 * 3

abbrev pub eights : ℕ → ℕ
eights f = f - f / 4294967296 * 4026531840

steps : (a b c d e f g h x : ℕ) → a < 256 → b < 256 → c < 256 → d < 256 → e < 256 → f < 256 → g < 256 → h < 256
    → x ≡ ((((((a * 256 + b) * 256 + c) * 256 + d) * 256 + e) * 256 + f) * 256 + g) * 256 + h
    → eights (fours (pairs (sevens x))) ≡ number (a ∷ b ∷ c ∷ d ∷ e ∷ f ∷ g ∷ h ∷ [])
steps a b c d e f g h x a8 b8 c8 d8 e8 f8 g8 h8 is =
    let by_sevens = ap sevens is ∙ sevens_of a b c d e f g h a8 b8 c8 d8 e8 f8 g8 h8 in
    let by_pairs = pairs_of (a % 128) (b % 128) (c % 128) (d % 128) (e % 128) (f % 128) (g % 128) (h % 128) (sevens x)
    (omega arith) (omega arith) (omega arith) (omega arith) (omega arith) (omega arith) (omega arith) (omega arith) by_sevens in
    let by_fours = fours_of (a % 128 * 128 + b % 128) (c % 128 * 128 + d % 128) (e % 128 * 128 + f % 128) (g % 128 * 128 + h % 128) (pairs (sevens x))
    (omega arith) (omega arith) (omega arith) (omega arith) by_pairs in
    eight_of ((a % 128 * 128 + b % 128) * 16384 + (c % 128 * 128 + d % 128))
    ((e % 128 * 128 + f % 128) * 16384 + (g % 128 * 128 + h % 128)) (fours (pairs (sevens x)))
    (omega arith) (omega arith) by_fours
    ∙ omega arith

pub packed_is : (w : List ℕ) (x : ℕ) → length w ≡ 8 → All (λ byte. byte < 256) w → x ≡ word_of w → eights (fours (pairs (sevens x))) ≡ number w
packed_is [] x l bytes is = absurd (omega arith)
packed_is (a ∷ []) x l bytes is = absurd (omega arith)
packed_is (a ∷ b ∷ []) x l bytes is = absurd (omega arith)
packed_is (a ∷ b ∷ c ∷ []) x l bytes is = absurd (omega arith)
packed_is (a ∷ b ∷ c ∷ d ∷ []) x l bytes is = absurd (omega arith)
packed_is (a ∷ b ∷ c ∷ d ∷ e ∷ []) x l bytes is = absurd (omega arith)
packed_is (a ∷ b ∷ c ∷ d ∷ e ∷ f ∷ []) x l bytes is = absurd (omega arith)
packed_is (a ∷ b ∷ c ∷ d ∷ e ∷ f ∷ g ∷ []) x l bytes is = absurd (omega arith)
packed_is (a ∷ b ∷ c ∷ d ∷ e ∷ f ∷ g ∷ h ∷ []) x l bytes is =
    steps a b c d e f g h x (bytes 0 0 (omega arith)) (bytes 1 0 (omega arith)) (bytes 2 0 (omega arith)) (bytes 3 0 (omega arith)) (bytes 4 0 (omega arith))
    (bytes 5 0 (omega arith)) (bytes 6 0 (omega arith)) (bytes 7 0 (omega arith)) (is ∙ omega arith)
packed_is (a ∷ b ∷ c ∷ d ∷ e ∷ f ∷ g ∷ h ∷ i ∷ w) x l bytes is = absurd (omega arith)

-- The same where the upper four bytes are zero.
low_sevens_of : (e f g h : ℕ) → f < 256 → g < 256 → h < 256
    → bit_and (((e * 256 + f) * 256 + g) * 256 + h) 0x7f7f_7f7f ≡ ((e % 128 * 256 + f % 128) * 256 + g % 128) * 256 + h % 128
low_sevens_of e f g h f8 g8 h8 =
    by_blocks 8 _ 0x7f_7f7f _ h 127 _ h8 (lit< tt)
    (by_blocks 8 _ 0x7f7f _ g 127 _ g8 (lit< tt) (by_blocks 8 e 127 _ f 127 _ f8 (lit< tt) (seven e) (seven f)) (seven g)) (seven h)

low_pairs_of : (e f g h s : ℕ) → e < 128 → f < 128 → g < 128 → h < 128 → s ≡ ((e * 256 + f) * 256 + g) * 256 + h
    → s - bit_and s 0x7f00_7f00 / 2 ≡ (e * 128 + f) * 65536 + (g * 128 + h)
low_pairs_of e f g h s e7 f7 g7 h7 is =
    let lanes : s ≡ (e * 256 + f) * 65536 + (g * 256 + h) = omega arith in
    let m : bit_and s 0x7f00_7f00 ≡ e * 256 * 65536 + g * 256 =
    ap (λ (n : ℕ). bit_and n 0x7f00_7f00) lanes
    ∙ by_blocks 16 _ 0x7f00 _ (g * 256 + h) 0x7f00 _ (omega arith) (lit< tt) (upper e f e7 f7) (upper g h g7 h7) in
    omega arith

four_of : (p q x : ℕ) → p < 16384 → q < 16384 → x ≡ p * 65536 + q → x - x / 65536 * 49152 ≡ p * 16384 + q
four_of p q x hp hq is = omega arith

-- the steps of the code
abbrev pub low_sevens : ℕ → ℕ
low_sevens x = bit_and x 0x7f7f_7f7f

abbrev pub low_pairs : ℕ → ℕ
low_pairs s = s - bit_and s 0x7f00_7f00 / 2

abbrev pub low_fours : ℕ → ℕ
low_fours p = p - p / 65536 * 49152

-- the lower four of eight digits
lower : (a b c d e f g h x : ℕ) → x ≤ 4294967295 → x ≡ ((((((a * 256 + b) * 256 + c) * 256 + d) * 256 + e) * 256 + f) * 256 + g) * 256 + h
    → (a ≡ 0) × (b ≡ 0) × (c ≡ 0) × (d ≡ 0) × (x ≡ ((e * 256 + f) * 256 + g) * 256 + h)
lower a b c d e f g h x small is = (
  omega (arith, small, is),
  omega (arith, small, is),
  omega (arith, small, is),
  omega (arith, small, is),
  omega (arith, small, is),
)

low_steps : (a b c d e f g h x : ℕ) → e < 256 → f < 256 → g < 256 → h < 256 → x ≤ 4294967295
    → x ≡ ((((((a * 256 + b) * 256 + c) * 256 + d) * 256 + e) * 256 + f) * 256 + g) * 256 + h
    → low_fours (low_pairs (low_sevens x)) ≡ number (a ∷ b ∷ c ∷ d ∷ e ∷ f ∷ g ∷ h ∷ [])
low_steps a b c d e f g h x e8 f8 g8 h8 small is =
    let (a0, b0, c0, d0, low) = lower a b c d e f g h x small is in
    let by_sevens = ap low_sevens low ∙ low_sevens_of e f g h f8 g8 h8 in
    let by_pairs = low_pairs_of (e % 128) (f % 128) (g % 128) (h % 128) (low_sevens x) (omega arith) (omega arith) (omega arith) (omega arith) by_sevens in
    four_of (e % 128 * 128 + f % 128) (g % 128 * 128 + h % 128) (low_pairs (low_sevens x)) (omega arith) (omega arith) by_pairs
    ∙ omega (arith, a0, b0, c0, d0)

pub packed_low_is : (w : List ℕ) (x : ℕ) → length w ≡ 8 → All (λ byte. byte < 256) w → x ≡ word_of w → x ≤ 4294967295
    → low_fours (low_pairs (low_sevens x)) ≡ number w
packed_low_is [] x l bytes is small = absurd (omega arith)
packed_low_is (a ∷ []) x l bytes is small = absurd (omega arith)
packed_low_is (a ∷ b ∷ []) x l bytes is small = absurd (omega arith)
packed_low_is (a ∷ b ∷ c ∷ []) x l bytes is small = absurd (omega arith)
packed_low_is (a ∷ b ∷ c ∷ d ∷ []) x l bytes is small = absurd (omega arith)
packed_low_is (a ∷ b ∷ c ∷ d ∷ e ∷ []) x l bytes is small = absurd (omega arith)
packed_low_is (a ∷ b ∷ c ∷ d ∷ e ∷ f ∷ []) x l bytes is small = absurd (omega arith)
packed_low_is (a ∷ b ∷ c ∷ d ∷ e ∷ f ∷ g ∷ []) x l bytes is small = absurd (omega arith)
packed_low_is (a ∷ b ∷ c ∷ d ∷ e ∷ f ∷ g ∷ h ∷ []) x l bytes is small =
    low_steps a b c d e f g h x (bytes 4 0 (omega arith)) (bytes 5 0 (omega arith)) (bytes 6 0 (omega arith)) (bytes 7 0 (omega arith)) small (is ∙ omega arith)
packed_low_is (a ∷ b ∷ c ∷ d ∷ e ∷ f ∷ g ∷ h ∷ i ∷ w) x l bytes is small = absurd (omega arith)
