-- The last seven bytes of a piece as a word.
use Rattle.std.proofs.Common.{◌≡◌, ℕ, zero, suc, ◌+◌, ◌-◌, ◌*◌, ◌/◌, ◌%◌, ◌^◌, ◌<◌, ◌≤◌, List, [], ◌∷◌, ◌++◌, refl, ap, sym, ◌∙◌, lit<, pow_pos}
use Rattle.std.proofs.Common.{length, take, drop, replicate, arith, length-append}
use Rattle.std.specs.Int.{w64, from_le_bytes}
use Rattle.std.proofs.lemmas.Nat.{shr-shr, shl-shr, pow-add}
use Rattle.std.proofs.Math.Nat.{mul-lt-mul_of_pos_right, mod-eq_of_lt}
use Rattle.std.proofs.lemmas.List.{drop-drop, length-drop, length-take-le}
use Rattle.std.proofs.lemmas.List.Elements.{All-head, All-tail, All-drop}
use Rattle.fast_fronts.specs.device.Fronts.{IsLoaded, IsTail, little}
use Rattle.fast_fronts.proofs.stop_bits.Loaded.{AreZeros, padded}
use Rattle.fast_wire.proofs.stop_bits.FirstStop.{AreBytes, turned_of, turned-loaded}

little_is : (w : List ℕ) → little w ≡ turned_of w
little_is [] = refl
little_is (b ∷ w) = ap (λ (n : ℕ). n * 2 ^ 8 + b) (little_is w)

-- without the lowest bytes
dropped : (k : ℕ) (w : List ℕ) → AreBytes w → little w / 2 ^ (8 * k) ≡ little (drop k w)
dropped zero w are = omega arith
dropped (suc k) [] are = omega arith
dropped (suc k) (b ∷ w) are =
    let more : 8 * suc k ≡ 8 + 8 * k = omega arith in
    let one : (little w * 2 ^ 8 + b) / 2 ^ 8 ≡ little w = omega (arith, All-head (λ byte. byte < 256) b w are) in
    ap (λ i. little (b ∷ w) / 2 ^ i) more ∙ sym (shr-shr (little (b ∷ w)) 8 (8 * k)) ∙ ap (λ (n : ℕ). n / 2 ^ (8 * k)) one
    ∙ dropped k w (All-tail (λ byte. byte < 256) b w are)

small : (w : List ℕ) → AreBytes w → little w < 2 ^ (8 * length w)
small [] are = lit< tt
small (b ∷ w) are =
    let more : 8 * suc (length w) ≡ 8 * length w + 8 = omega arith in
    let power : 2 ^ (8 * length w + 8) ≡ 2 ^ (8 * length w) * 256 = pow-add 2 (8 * length w) 8 in
    rw (more, power) (omega (arith, small w (All-tail (λ byte. byte < 256) b w are), All-head (λ byte. byte < 256) b w are))

-- after some of the bytes
pub skipped : (tail n : ℕ) (w : List ℕ) → AreBytes w → n ≤ length w → IsTail tail w → IsTail tail (drop n w)
skipped tail n w are within is =
    let left : length (drop n w) ≡ length w - n = length-drop n w in
    let j : ℕ = (7 - (length w - n)) - (7 - length w) in
    let shift : 56 - 8 * (length w - n) ≡ (56 - 8 * length w) + 8 * j = omega (arith, within) in
    let from : (length w - 7) + j ≡ n + ((length w - n) - 7) = omega (arith, within) in
    ap (λ i. tail / 2 ^ (56 - 8 * i)) left ∙ ap (λ i. tail / 2 ^ i) shift ∙ sym (shr-shr tail (56 - 8 * length w) (8 * j))
    ∙ ap (λ (m : ℕ). m / 2 ^ (8 * j)) is ∙ dropped j (drop (length w - 7) w) (All-drop (λ byte. byte < 256) (length w - 7) w are)
    ∙ ap little (drop-drop j (length w - 7) w ∙ ap (λ i. drop i w) from ∙ sym (drop-drop ((length w - n) - 7) n w)
    ∙ ap (λ i. drop (i - 7) (drop n w)) (sym left))

short : (w : List ℕ) → length w < 8 → little w ≡ turned_of (take 8 (w ++ replicate 8 0))
short [] h = refl
short (a ∷ []) h = refl
short (a ∷ b ∷ []) h = refl
short (a ∷ b ∷ c ∷ []) h = refl
short (a ∷ b ∷ c ∷ d ∷ []) h = refl
short (a ∷ b ∷ c ∷ d ∷ e ∷ []) h = refl
short (a ∷ b ∷ c ∷ d ∷ e ∷ f ∷ []) h = refl
short (a ∷ b ∷ c ∷ d ∷ e ∷ f ∷ g ∷ []) h = refl
short (a ∷ b ∷ c ∷ d ∷ e ∷ f ∷ g ∷ i ∷ w) h = absurd (omega (arith, h))

all_left : (w : List ℕ) → length w < 8 → little (drop (length w - 7) w) ≡ little w
all_left w h =
    let none : length w - 7 ≡ 0 = omega (arith, h) in
    ap (λ i. little (drop i w)) none

-- fewer than eight bytes in front of which others were
pub loaded : (tail : ℕ) (w : List ℕ) → length w < 8 → IsTail tail w → IsLoaded (tail / 2 ^ (56 - 8 * length w)) w
loaded tail w h is =
    let eight : length (take 8 (w ++ replicate 8 0)) ≡ 8 = length-take-le 8 (w ++ replicate 8 0) (omega (arith, length-append w (replicate 8 0))) in
    padded w (tail / 2 ^ (56 - 8 * length w)) (is ∙ all_left w h ∙ short w h ∙ sym (turned-loaded (take 8 (w ++ replicate 8 0)) eight))

no_zeros : (n : ℕ) (w zeros : List ℕ) → AreZeros zeros → length w ≤ n → turned_of (take n (w ++ zeros)) ≡ little w
no_zeros zero [] zeros none h = refl
no_zeros zero (b ∷ w) zeros none h = absurd (omega (arith, h))
no_zeros (suc n) [] [] none h = refl
no_zeros (suc n) [] (z ∷ zeros) none h =
    omega (arith, All-head (λ byte. byte ≡ 0) z zeros none, no_zeros n [] zeros (All-tail (λ byte. byte ≡ 0) z zeros none) (omega arith))
no_zeros (suc n) (b ∷ w) zeros none h = ap (λ (m : ℕ). m * 2 ^ 8 + b) (no_zeros n w zeros none (omega (arith, h)))

-- fewer than eight bytes that are the whole piece
pub raised : (word : ℕ) (w : List ℕ) → AreBytes w → length w < 8 → IsLoaded word w → IsTail (word * 2 ^ (56 - 8 * length w) % 2 ^ 64) w
raised word w are h on =
    let k : ℕ = 56 - 8 * length w in
    let all = take 8 (w ++ on.zeros) in
    let is : word ≡ little w = on.front.same ∙ turned-loaded all (length-take-le 8 (w ++ on.zeros) on.front.enough) ∙ no_zeros 8 w on.zeros on.none
    (omega (arith, h)) in
    let sum : 8 * length w + k ≡ 56 = omega (arith, h) in
    let power : 2 ^ (8 * length w) * 2 ^ k ≡ 2 ^ 56 = sym (pow-add 2 (8 * length w) k) ∙ ap (λ i. 2 ^ i) sum in
    let less : little w * 2 ^ k < 2 ^ (8 * length w) * 2 ^ k = mul-lt-mul_of_pos_right (small w are) (pow_pos k) in
    let low : little w * 2 ^ k < 2 ^ 64 = omega (arith, less, power) in
    let whole : little w * 2 ^ k % 2 ^ 64 ≡ little w * 2 ^ k = mod-eq_of_lt low in
    ap (λ (m : ℕ). m * 2 ^ k % 2 ^ 64 / 2 ^ k) is ∙ ap (λ (m : ℕ). m / 2 ^ k) whole ∙ shl-shr (little w) k ∙ sym (all_left w h)

-- the last eight bytes
pub lowered : (word : ℕ) (w : List ℕ) → AreBytes w → 8 ≤ length w → word ≡ from_le_bytes w64 (drop (length w - 8) w) → IsTail (word / 256) w
lowered word w are h is =
    let last = drop (length w - 8) w in
    let eight : length last ≡ 8 = length-drop (length w - 8) w ∙ omega (arith, h) in
    let none : 56 - 8 * length w ≡ 0 = omega (arith, h) in
    let next : (length w - 8) + 1 ≡ length w - 7 = omega (arith, h) in
    let number : word ≡ little last = is ∙ turned-loaded last eight ∙ sym (little_is last) in
    ap (λ i. word / 256 / 2 ^ i) none ∙ omega arith ∙ ap (λ (m : ℕ). m / 256) number
    ∙ dropped 1 last (All-drop (λ byte. byte < 256) (length w - 8) w are)
    ∙ ap little (drop-drop 1 (length w - 8) w ∙ ap (λ i. drop i w) next)
