-- The lines of events whose values can be read back are UTF-8.
use Rattle.std.proofs.Common.{◌≡◌, ℕ, ◌<◌, ◌^◌, Bool, true, ◌&&◌, List, [], ◌∷◌, ◌++◌, codes, refl, arith}
use Rattle.std.specs.Prelude.{All, IsUtf8, decimal, nat_lt}
use Rattle.std.proofs.lemmas.Bool.Decides.{nat_tests}
use Rattle.std.proofs.lemmas.Fmt.{IsAscii-decimal}
use Rattle.std.proofs.lemmas.List.Elements.{All-nil, All-cons, All-weaker}
use Rattle.std.proofs.lemmas.Str.{IsUtf8-append, IsUtf8-from_ascii}
use Rattle.std.proofs.lemmas.Str.Ascii.{IsAscii-from_all}
use Rattle.fast_tree.specs.meaning.AsWritten.{IsNameByte, IsName}
use Rattle.fast_tree.specs.meaning.Tree.{Tree}
use Rattle.fast_stream.specs.meaning.Events.{EventData, MessageStart, FieldValue, GroupStart, GroupEnd, SequenceStart, ElementStart}
use Rattle.fast_stream.specs.meaning.Events.{ElementEnd, SequenceEnd, MessageEnd}
use Rattle.fast_lines.specs.meaning.Forms.{text_of_line, line_of_event}
use Rattle.fast_lines.specs.meaning.Lines.{node_name, written}
use Rattle.fast_messages.specs.meaning.Lined.{IsNamed, IsLined, IsShown}
use Rattle.fast_messages.proofs.texts.NoFeeds.{name_is}

-- a text is tested for ASCII
abbrev pub are_low : List ℕ → Bool
are_low [] = true
are_low (c ∷ cs) = nat_lt c 128 && are_low cs

both_tests : (c : ℕ) (b : Bool) → nat_lt c 128 && b ≡ true → (c < 128) × (b ≡ true)
both_tests c b h = grind (arith, nat_tests)

all_low : (text : List ℕ) → are_low text ≡ true → All (λ c. c < 128) text
all_low [] h = All-nil (λ c. c < 128)
all_low (c ∷ cs) h = let t = both_tests c (are_low cs) h in All-cons (λ c. c < 128) c cs t.0 (all_low cs t.1)

pub word : (text : List ℕ) → are_low text ≡ true → IsUtf8 text
word text h = IsUtf8-from_ascii text (IsAscii-from_all text (all_low text h))

name_byte_low : (c : ℕ) → IsNameByte c → c < 128
name_byte_low c h = grind (arith, h)

pub named : (text : List ℕ) → IsName text → IsUtf8 text
named text h = IsUtf8-from_ascii text (IsAscii-from_all text (All-weaker IsNameByte (λ c. c < 128) name_byte_low text h.0))

number : (n : ℕ) → n < 2 ^ 32 → IsUtf8 (decimal n)
number n h = let small : n < 2 ^ 64 = omega (arith, h) in IsUtf8-from_ascii (decimal n) (IsAscii-decimal n small)

node : (t : Tree) (n : ℕ) → IsNamed t n → IsUtf8 (decimal n ++ codes " " ++ node_name t n)
node t n h = IsUtf8-append (decimal n ++ codes " ") (node_name t n)
    (IsUtf8-append (decimal n) (codes " ") (number n h.0) (word (codes " ") refl)) (named (node_name t n) h.1)

-- a keyword and a node, a space, and what follows it
behind_node : (t : Tree) (keyword : List ℕ) (n : ℕ) (rest : List ℕ) → IsUtf8 keyword → IsNamed t n → IsUtf8 rest
    → IsUtf8 (keyword ++ (decimal n ++ codes " " ++ node_name t n) ++ codes " " ++ rest)
behind_node t keyword n rest h k r =
    let at : List ℕ = decimal n ++ codes " " ++ node_name t n in
    IsUtf8-append (keyword ++ at ++ codes " ") rest (IsUtf8-append (keyword ++ at) (codes " ") (IsUtf8-append keyword at h (node t n k))
    (word (codes " ") refl)) r

pub line_utf8 : (t : Tree) (e : EventData) → IsLined t e → IsShown e → IsUtf8 (text_of_line (line_of_event t e))
line_utf8 t (MessageStart n) (u, found, h) k = rw (name_is t n u found)
    (IsUtf8-append (codes "message ") u.name (word (codes "message ") refl) (named u.name h))
line_utf8 t (FieldValue n v) h k = behind_node t (codes "field ") n (written v) (word (codes "field ") refl) h.0 k.1
line_utf8 t (GroupStart n) h k = IsUtf8-append (codes "group ") (decimal n ++ codes " " ++ node_name t n) (word (codes "group ") refl) (node t n h)
line_utf8 t GroupEnd h k = word (codes "end group") refl
line_utf8 t (SequenceStart n count) h k = behind_node t (codes "sequence ") n (decimal count) (word (codes "sequence ") refl) h.0 (number count h.1)
line_utf8 t ElementStart h k = word (codes "element") refl
line_utf8 t ElementEnd h k = word (codes "end element") refl
line_utf8 t SequenceEnd h k = word (codes "end sequence") refl
line_utf8 t MessageEnd h k = word (codes "end message") refl
