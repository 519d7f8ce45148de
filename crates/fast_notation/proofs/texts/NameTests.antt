-- Names, as facts and as tests.
use Rattle.std.proofs.Common.{◌≡◌, ℕ, true, ◌&&◌, nat_le, List, [], ◌∷◌, length, refl, arith, le-leb}
use Rattle.std.specs.Prelude.{All}
use Rattle.std.specs.List.{list_all}
use Rattle.std.proofs.lemmas.Bool.{and_parts}
use Rattle.std.proofs.lemmas.Bool.Decides.{nat_tests}
use Rattle.std.proofs.lemmas.List.Elements.{All-head, All-tail, All-nil, All-cons}
use Rattle.fast_tree.specs.meaning.AsWritten.{IsName, IsNameByte}
use Rattle.fast_notation.specs.device.Reading.{is_name, is_name_byte}

-- one byte
byte_passes : (c : ℕ) → IsNameByte c → is_name_byte c ≡ true
byte_passes c h = grind (arith, nat_tests)

passed_byte : (c : ℕ) → is_name_byte c ≡ true → IsNameByte c
passed_byte c h = grind (arith, nat_tests)

-- all bytes
pub bytes_pass : (s : List ℕ) → All IsNameByte s → list_all is_name_byte s ≡ true
bytes_pass [] h = refl
bytes_pass (c ∷ s) h = rw (byte_passes c (All-head IsNameByte c s h), bytes_pass s (All-tail IsNameByte c s h)) refl

passed_bytes : (s : List ℕ) → list_all is_name_byte s ≡ true → All IsNameByte s
passed_bytes [] h = All-nil IsNameByte
passed_bytes (c ∷ s) h =
    let (here, rest) = and_parts (is_name_byte c) (list_all is_name_byte s) h in
    All-cons IsNameByte c s (passed_byte c here) (passed_bytes s rest)

-- a name passes the test
pub name_passes : (s : List ℕ) → IsName s → is_name s ≡ true
name_passes s h = rw (bytes_pass s h.0, le-leb 1 (length s) h.1, le-leb (length s) 64 h.2) refl

-- what passes the test is a name
pub passed_name : (s : List ℕ) → is_name s ≡ true → IsName s
passed_name s h =
    let (front, short) = and_parts (list_all is_name_byte s && nat_le 1 (length s)) (nat_le (length s) 64) h in
    let (bytes, some) = and_parts (list_all is_name_byte s) (nat_le 1 (length s)) front in
    (passed_bytes s bytes, grind (arith, nat_tests), grind (arith, nat_tests))
