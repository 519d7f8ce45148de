-- Numbers in decimal digits as texts.
use Rattle.std.proofs.Common.{◌≡◌, ℕ, ◌<◌, ◌^◌, List, ℤ, pos, negsuc, Result, Ok, Err, arith, w64}
use Rattle.std.specs.Prelude.{IsUtf8, decimal}
use Rattle.std.specs.Fmt.{signed_decimal}
use Rattle.std.specs.Str.Parse.{ParsesUnsigned, ParsesSigned}
use Rattle.std.proofs.lemmas.Fmt.{IsAscii-decimal, IsAscii-signed, parse-decimal, parse-signed_decimal}
use Rattle.std.proofs.lemmas.Int.{ints}
use Rattle.std.proofs.lemmas.Str.{IsUtf8-from_ascii}
use lib.Signed.{mag}
use Rattle.fast_value.specs.meaning.Kinds.{IsWithin, signed_range}

-- an integer of 64 bits is small
pub small_from_range : (x : ℤ) → IsWithin (signed_range 63) x → mag x < 2 ^ 63
small_from_range (pos n) h = let high = h.1 in omega (arith, ints, high)
small_from_range (negsuc n) h = let low = h.0 in omega (arith, ints, low)

-- digits are a text
pub decimal_is_utf8 : (text : List ℕ) (n : ℕ) → n < 2 ^ 64 → text ≡ decimal n → IsUtf8 text
decimal_is_utf8 text n small e = rw e (IsUtf8-from_ascii (decimal n) (IsAscii-decimal n small))

-- digits behind a minus are a text
pub signed_is_utf8 : (text : List ℕ) (x : ℤ) → IsWithin (signed_range 63) x → text ≡ signed_decimal x → IsUtf8 text
signed_is_utf8 text x range e = rw e (IsUtf8-from_ascii (signed_decimal x) (IsAscii-signed x (small_from_range x range)))

-- digits are parsed as their number
pub parsed_is : (text : List ℕ) (n m : ℕ) → n < 2 ^ 64 → text ≡ decimal n → ParsesUnsigned {E = ℕ} 64 10 text (Ok m) → m ≡ n
parsed_is text n m small e parsed =
    let same : ◌≡◌ {A = Result ℕ ℕ} (Ok m) (Ok n) = parse-decimal 64 n text (Ok m) small small e parsed in
    cc same

-- digits are parsed
pub decimal_is_parsed : (text : List ℕ) (n : ℕ) → n < 2 ^ 64 → text ≡ decimal n → ParsesUnsigned {E = ℕ} 64 10 text (Err 0) → ⊥
decimal_is_parsed text n small e parsed =
    let same : ◌≡◌ {A = Result ℕ ℕ} (Err 0) (Ok n) = parse-decimal 64 n text (Err 0) small small e parsed in
    cc same

-- the same behind a minus
pub signed_parsed_is : (text : List ℕ) (x y : ℤ) → IsWithin (signed_range 63) x → text ≡ signed_decimal x → ParsesSigned {E = ℕ} w64 10 text (Ok y) → y ≡ x
signed_parsed_is text x y range e parsed =
    let small = small_from_range x range in
    let same : ◌≡◌ {A = Result ℤ ℕ} (Ok y) (Ok x) = parse-signed_decimal w64 x text (Ok y) (record { sfits = small }) small e parsed in
    cc same

pub signed_is_parsed : (text : List ℕ) (x : ℤ) → IsWithin (signed_range 63) x → text ≡ signed_decimal x → ParsesSigned {E = ℕ} w64 10 text (Err 0) → ⊥
signed_is_parsed text x range e parsed =
    let small = small_from_range x range in
    let same : ◌≡◌ {A = Result ℤ ℕ} (Err 0) (Ok x) = parse-signed_decimal w64 x text (Err 0) (record { sfits = small }) small e parsed in
    cc same

-- an integer of 32 bits is small
pub small_from_narrow : (x : ℤ) → IsWithin (signed_range 31) x → mag x < 2 ^ 63
small_from_narrow (pos n) h = let high = h.1 in omega (arith, ints, high)
small_from_narrow (negsuc n) h = let low = h.0 in omega (arith, ints, low)
