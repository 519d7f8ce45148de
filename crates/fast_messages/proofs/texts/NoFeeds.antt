-- There is no LF within a line.
use Rattle.std.proofs.Common.{◌≡◌, ◌≢◌, ◌⊎◌, ℕ, ◌<◌, ◌≤◌, ◌^◌, ◌/◌, ◌%◌, Bool, true, not, ◌&&◌, List, [], ◌∷◌, ◌++◌, codes, length, refl, inl, inr, ℤ, arith}
use Rattle.std.specs.Prelude.{decimal, nat_eq, flat_map, slice_get, Some}
use Rattle.std.specs.Fmt.{signed_decimal}
use Rattle.std.proofs.lemmas.Bool.Decides.{nat_tests}
use Rattle.std.proofs.lemmas.List.Elements.{All-nil, All-cons, All-append, All-weaker}
use Rattle.fast_value.specs.meaning.Kinds.{ScalarData, U, I, Dec, AsciiText, UnicodeText, ByteVector, IsWithin, signed_range}
use Rattle.fast_tree.specs.meaning.AsWritten.{IsNameByte, IsName}
use Rattle.fast_tree.specs.meaning.Tree.{TemplateData, Tree}
use Rattle.fast_stream.specs.meaning.Events.{EventData, MessageStart, FieldValue, GroupStart, GroupEnd, SequenceStart, ElementStart}
use Rattle.fast_stream.specs.meaning.Events.{ElementEnd, SequenceEnd, MessageEnd}
use Rattle.fast_lines.specs.meaning.Lines.{hex_digit, hex_byte, escaped, quoted, written, node, node_name, template_name, line_of}
use Rattle.fast_lines.specs.meaning.Values.{Lacks}
use Rattle.fast_lines.specs.meaning.Forms.{IsWord}
use Rattle.fast_lines.proofs.Splits.{decimal_lacks, signed_lacks}
use Rattle.fast_lines.proofs.Numerals.{small_from_range, small_from_narrow}
use Rattle.fast_lines.proofs.Escapes.{IsEscape, byte_escape}
use Rattle.fast_messages.specs.meaning.Lined.{IsTold, IsNamed, IsLined}

-- what is no LF
abbrev IsOther : ℕ → Type 0
IsOther c = c ≢ 0x0A

-- a text is tested for LF
abbrev lacks_feed : List ℕ → Bool
lacks_feed [] = true
lacks_feed (c ∷ cs) = not (nat_eq c 0x0A) && lacks_feed cs

both_tests : (c : ℕ) (b : Bool) → not (nat_eq c 0x0A) && b ≡ true → (c ≢ 0x0A) × (b ≡ true)
both_tests c b h = grind (arith, nat_tests)

tested : (text : List ℕ) → lacks_feed text ≡ true → Lacks 0x0A text
tested [] h = All-nil IsOther
tested (c ∷ cs) h = let t = both_tests c (lacks_feed cs) h in All-cons IsOther c cs t.0 (tested cs t.1)

join : (xs ys : List ℕ) → Lacks 0x0A xs → Lacks 0x0A ys → Lacks 0x0A (xs ++ ys)
join xs ys h k = All-append IsOther xs ys h k

-- names have letters, digits and three marks
name_byte : (x : ℕ) → (x ≡ 0x20) ⊎ (x ≡ 0x0A) → (c : ℕ) → IsNameByte c → c ≢ x
name_byte x which c h e = grind (arith, which, h, e)

name_lacks : (x : ℕ) → (x ≡ 0x20) ⊎ (x ≡ 0x0A) → (name : List ℕ) → IsName name → Lacks x name
name_lacks x which name h = All-weaker IsNameByte (λ c. c ≢ x) (name_byte x which) name h.0

pub name_is_word : (name : List ℕ) → IsName name → IsWord name
name_is_word name h = record {
  some = λ (e : name ≡ []). let long : 1 ≤ length name = h.1 in let none : 1 ≤ 0 = rw (e) at long in omega (arith, none);
  whole = name_lacks 0x20 (inl refl) name h;
}

digit_is_other : (n : ℕ) → hex_digit n ≢ 0x0A
digit_is_other n e = grind (arith, nat_tests)

byte_lacks : (c : ℕ) → Lacks 0x0A (hex_byte c)
byte_lacks c = All-cons IsOther (hex_digit (c / 16)) (hex_digit (c % 16) ∷ []) (digit_is_other (c / 16))
    (All-cons IsOther (hex_digit (c % 16)) [] (digit_is_other (c % 16)) (All-nil IsOther))

bytes_lack : (v : List ℕ) → Lacks 0x0A (flat_map hex_byte v)
bytes_lack [] = All-nil IsOther
bytes_lack (c ∷ v) = join (hex_byte c) (flat_map hex_byte v) (byte_lacks c) (bytes_lack v)

single : (c : ℕ) → c ≢ 0x0A → Lacks 0x0A (c ∷ [])
single c h = All-cons IsOther c [] h (All-nil IsOther)

escape_lacks : (c : ℕ) (e : List ℕ) → IsEscape c e → Lacks 0x0A e
escape_lacks c e (inl (inl m, is)) = rw (is) (join (codes "\\") (c ∷ []) (tested (codes "\\") refl) (single c (λ k. omega (arith, m, k))))
escape_lacks c e (inl (inr m, is)) = rw (is) (join (codes "\\") (c ∷ []) (tested (codes "\\") refl) (single c (λ k. omega (arith, m, k))))
escape_lacks c e (inr (inl (m, is))) = rw (is) (join (codes "\\x") (hex_byte c) (tested (codes "\\x") refl) (byte_lacks c))
escape_lacks c e (inr (inr (m, is))) = let big : 0x20 ≤ c = m.0 in rw (is) (single c (λ k. omega (arith, big, k)))

escaped_lack : (v : List ℕ) → Lacks 0x0A (flat_map escaped v)
escaped_lack [] = All-nil IsOther
escaped_lack (c ∷ v) = join (escaped c) (flat_map escaped v) (escape_lacks c (escaped c) (byte_escape c)) (escaped_lack v)

quoted_lacks : (v : List ℕ) → Lacks 0x0A (quoted v)
quoted_lacks v = join (codes "\"") (flat_map escaped v ++ codes "\"")
    (tested (codes "\"") refl) (join (flat_map escaped v) (codes "\"") (escaped_lack v) (tested (codes "\"") refl))

signed_is_other : (x : ℤ) → IsWithin (signed_range 63) x → Lacks 0x0A (signed_decimal x)
signed_is_other x h = signed_lacks 0x0A x (small_from_range x h) (inl (omega arith))

written_lacks : (v : ScalarData) → IsTold v → Lacks 0x0A (written v)
written_lacks (U n) h = join (codes "u ") (decimal n) (tested (codes "u ") refl) (decimal_lacks 0x0A n h (inl (omega arith)))
written_lacks (I x) h = join (codes "i ") (signed_decimal x) (tested (codes "i ") refl) (signed_is_other x h)
written_lacks (Dec e m) h =
    join (codes "d " ++ signed_decimal m ++ codes "e") (signed_decimal e)
    (join (codes "d " ++ signed_decimal m) (codes "e") (join (codes "d ") (signed_decimal m) (tested (codes "d ") refl)
    (signed_is_other m h.1)) (tested (codes "e") refl))
    (signed_lacks 0x0A e (small_from_narrow e h.0) (inl (omega arith)))
written_lacks (AsciiText v) h = join (codes "a ") (quoted v) (tested (codes "a ") refl) (quoted_lacks v)
written_lacks (UnicodeText v) h = join (codes "s ") (quoted v) (tested (codes "s ") refl) (quoted_lacks v)
written_lacks (ByteVector v) h = join (codes "b ") (flat_map hex_byte v) (tested (codes "b ") refl) (bytes_lack v)

number_lacks : (n : ℕ) → n < 2 ^ 32 → Lacks 0x0A (decimal n)
number_lacks n small = decimal_lacks 0x0A n (omega (arith, small)) (inl (omega arith))

node_lacks : (t : Tree) (n : ℕ) → IsNamed t n → Lacks 0x0A (node t n)
node_lacks t n h = join (decimal n ++ codes " ") (node_name t n)
    (join (decimal n) (codes " ") (number_lacks n h.0) (tested (codes " ") refl)) (name_lacks 0x0A (inr refl) (node_name t n) h.1)

-- a keyword, a node, and what stands behind them
behind_node : (t : Tree) (n : ℕ) (key text : List ℕ) → Lacks 0x0A key → IsNamed t n → Lacks 0x0A text → Lacks 0x0A (key ++ node t n ++ codes " " ++ text)
behind_node t n key text lacks h none = join (key ++ node t n ++ codes " ") text
    (join (key ++ node t n) (codes " ") (join key (node t n) lacks (node_lacks t n h)) (tested (codes " ") refl)) none

-- the name of a template that is there
pub name_is : (t : Tree) (n : ℕ) (u : TemplateData) → slice_get t.templates n ≡ Some u → template_name t n ≡ u.name
name_is t n u found = rw (found) refl

pub line_lacks : (t : Tree) (e : EventData) → IsLined t e → Lacks 0x0A (line_of t e)
line_lacks t (MessageStart n) (u, found, h) = join (codes "message ") (template_name t n) (tested (codes "message ") refl)
    (rw (name_is t n u found) (name_lacks 0x0A (inr refl) u.name h))
line_lacks t (FieldValue n v) h = behind_node t n (codes "field ") (written v) (tested (codes "field ") refl) h.0 (written_lacks v h.1)
line_lacks t (GroupStart n) h = join (codes "group ") (node t n) (tested (codes "group ") refl) (node_lacks t n h)
line_lacks t GroupEnd h = tested (codes "end group") refl
line_lacks t (SequenceStart n count) h = behind_node t n (codes "sequence ") (decimal count) (tested (codes "sequence ") refl) h.0 (number_lacks count h.1)
line_lacks t ElementStart h = tested (codes "element") refl
line_lacks t ElementEnd h = tested (codes "end element") refl
line_lacks t SequenceEnd h = tested (codes "end sequence") refl
line_lacks t MessageEnd h = tested (codes "end message") refl
