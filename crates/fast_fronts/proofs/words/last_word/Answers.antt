use Rattle.std.proofs.Common.{◌≡◌, ◌+◌, ◌-◌, ◌*◌, ◌<◌, ◌%◌, ◌++◌, ◌∙◌, ℕ, refl, sym, subst, ap, length, take, drop, replicate, length-append, arith}
use Rattle.std.specs.Int.{w32, w64, from_le_bytes}
use Rattle.std.proofs.lemmas.List.{take_all, length-drop, length-take-le}
use Rattle.fast_fronts.proofs.stop_bits.Loaded.{few_bytes, more_bytes, halves, padded}
use Rattle.fast_fronts.proofs.words.last_word.Goals as goal

pub returns-in_default : goal.returns-in_default
returns-in_default c =
    let bytes = c.args.bytes.now in
    let low = take 4 (bytes ++ replicate 4 0) in
    let four : length low ≡ 4 = length-take-le 4 (bytes ++ replicate 4 0) (omega (arith, length-append bytes (replicate 4 0))) in
    let is : c.from.result ≡ from_le_bytes w32 low = c.from.ensures ∙ c.last_half.ensures in
    let joined = halves low (replicate 4 0) four refl in
    padded bytes c.from.result (omega (arith, is, joined) ∙ ap (from_le_bytes w64) (few_bytes bytes c.in_default.ensures.cases))

pub returns : goal.returns
returns c =
    let bytes = c.args.bytes.now in
    let first = c.in-Some.ensures.cases in
    let rest = drop 4 bytes in
    let high = take 4 (rest ++ replicate 4 0) in
    let all : take (length bytes - 4) rest ≡ rest = take_all (length bytes - 4) rest (omega (arith, length-drop 4 bytes)) in
    let lower : c.from-2.result ≡ from_le_bytes w32 (take 4 bytes) = c.from-2.ensures ∙ c.from_le_bytes.ensures ∙ ap (from_le_bytes w32) first.same in
    let upper : c.from-high.result ≡ from_le_bytes w32 high = c.from-high.ensures ∙ c.last_half-2.ensures
    ∙ ap (λ w. from_le_bytes w32 (take 4 (w ++ replicate 4 0))) all in
    let small : c.from-high.result < 4294967296 = subst (λ n. n < 4294967296) (sym c.from-high.ensures) c.last_half-2.type_inv in
    let four : length (take 4 bytes) ≡ 4 = length-take-le 4 bytes first.enough in
    let other : length high ≡ 4 = length-take-le 4 (rest ++ replicate 4 0) (omega (arith, length-append rest (replicate 4 0))) in
    let joined = halves (take 4 bytes) high four other in
    let word : c.from-2.result + c.from-high.result * 4294967296 % 18446744073709551616
    ≡ c.from-2.result + c.from-high.result * 4294967296 = omega (arith, small) in
    padded bytes (c.from-2.result + c.from-high.result * 4294967296 % 18446744073709551616)
    (word ∙ ap (λ (n : ℕ). n + c.from-high.result * 4294967296) lower ∙ ap (λ (n : ℕ). from_le_bytes w32 (take 4 bytes) + n * 4294967296) upper
    ∙ joined ∙ ap (from_le_bytes w64) (more_bytes bytes first.enough c.requires.few))
