-- The words of lines.
use Rattle.std.proofs.Common.{◌≡◌, ◌≢◌, ℕ, ◌<◌, ◌^◌, Bool, true, not, ◌&&◌, List, [], ◌∷◌, ◌++◌, codes, refl, sym, ◌∙◌, inl, append_assoc, arith}
use Rattle.std.specs.Prelude.{decimal, nat_eq, Option, Some, None, IfSome, IfNone}
use Rattle.std.proofs.lemmas.Bool.Decides.{nat_tests}
use Rattle.std.proofs.lemmas.List.Elements.{All-nil, All-cons}
use Rattle.fast_lines.specs.meaning.Values.{Lacks}
use Rattle.fast_lines.specs.declared.forms.Keyword.TheVariants as Key
use Rattle.fast_lines.specs.declared.forms.Line.{Line}
use Rattle.fast_lines.specs.meaning.Forms.{LineData, message, field, group, group_end, sequence, element, element_end, sequence_end}
use Rattle.fast_lines.specs.meaning.Forms.{message_end, text_of_line, IsWord, IsForm, keyword_of, IsNoForm, Gives, line_data}
use Rattle.fast_lines.proofs.Splits.{first_split, no_split, decimal_lacks}

-- a node's number and name, and what stands behind them
abbrev pub node_words : ℕ → List ℕ → List ℕ
node_words n name = decimal n ++ codes " " ++ name

-- the number of a node has no space
pub number_lacks : (n : ℕ) → n < 2 ^ 32 → Lacks 0x20 (decimal n)
number_lacks n small = decimal_lacks 0x20 n (omega (arith, small)) (inl (omega arith))

-- the words with the space as one character
pub node_as_words : (n : ℕ) (name : List ℕ) → node_words n name ≡ decimal n ++ 0x20 ∷ name
node_as_words n name = append_assoc (decimal n) (codes " ") name

pub more_as_words : (n : ℕ) (name rest : List ℕ) → node_words n name ++ codes " " ++ rest ≡ decimal n ++ 0x20 ∷ (name ++ 0x20 ∷ rest)
more_as_words n name rest = simp append_assoc

-- a node's words split at the space
pub node_split : (number others : List ℕ) (n : ℕ) (name : List ℕ) → Lacks 0x20 number → n < 2 ^ 32
    → number ++ 0x20 ∷ others ≡ node_words n name → (number ≡ decimal n) × (others ≡ name)
node_split number others n name lacks small h = first_split 0x20 number (decimal n) others name lacks (number_lacks n small) (h ∙ node_as_words n name)

pub more_split : (number others : List ℕ) (n : ℕ) (name rest : List ℕ) → Lacks 0x20 number → n < 2 ^ 32
    → number ++ 0x20 ∷ others ≡ node_words n name ++ codes " " ++ rest
    → (number ≡ decimal n) × (others ≡ name ++ 0x20 ∷ rest)
more_split number others n name rest lacks small h = first_split 0x20 number (decimal n) others (name ++ 0x20 ∷ rest) lacks
    (number_lacks n small) (h ∙ more_as_words n name rest)

-- the same behind a node's words
pub same_behind : (m n : ℕ) (name other xs ys : List ℕ) → m < 2 ^ 32 → n < 2 ^ 32 → IsWord name → IsWord other
    → node_words m name ++ codes " " ++ xs ≡ node_words n other ++ codes " " ++ ys → xs ≡ ys
same_behind m n name other xs ys small little first second h =
    let words = more_split (decimal m) (name ++ 0x20 ∷ xs) n other ys (number_lacks m small) little (sym (more_as_words m name xs) ∙ h) in
    (first_split 0x20 name other xs ys first.whole second.whole words.1).1

-- a text is tested for spaces
abbrev pub lacks_space : List ℕ → Bool
lacks_space [] = true
lacks_space (c ∷ cs) = not (nat_eq c 0x20) && lacks_space cs

both_tests : (c : ℕ) (b : Bool) → not (nat_eq c 0x20) && b ≡ true → (c ≢ 0x20) × (b ≡ true)
both_tests c b h = grind (arith, nat_tests)

tested : (text : List ℕ) → lacks_space text ≡ true → Lacks 0x20 text
tested [] h = All-nil (λ c. c ≢ 0x20)
tested (c ∷ cs) h = let t = both_tests c (lacks_space cs) h in All-cons (λ c. c ≢ 0x20) c cs t.0 (tested cs t.1)

-- A text of one word is no line but that of an element.
pub one_word : (text : List ℕ) → Lacks 0x20 text → text ≢ codes "element" → (d : LineData) → text ≢ text_of_line d
one_word text lacks other (message name) h = no_split 0x20 text (codes "message") name lacks h
one_word text lacks other (field n name value) h = no_split 0x20 text (codes "field") (node_words n name ++ codes " " ++ value) lacks h
one_word text lacks other (group n name) h = no_split 0x20 text (codes "group") (node_words n name) lacks h
one_word text lacks other group_end h = no_split 0x20 text (codes "end") (codes "group") lacks h
one_word text lacks other (sequence n name count) h = no_split 0x20 text (codes "sequence") (node_words n name ++ codes " " ++ decimal count) lacks h
one_word text lacks other element h = other h
one_word text lacks other element_end h = no_split 0x20 text (codes "end") (codes "element") lacks h
one_word text lacks other sequence_end h = no_split 0x20 text (codes "end") (codes "sequence") lacks h
one_word text lacks other message_end h = no_split 0x20 text (codes "end") (codes "message") lacks h

-- what stands behind the keyword
behind : (key word rest others : List ℕ) → lacks_space key ≡ true → Lacks 0x20 word → word ++ 0x20 ∷ rest ≡ key ++ 0x20 ∷ others
    → IsNoForm (keyword_of word) rest → IsNoForm (keyword_of key) others
behind key word rest others test lacks h none =
    let words = first_split 0x20 word key rest others lacks (tested key test) h in
    rw (words.0, words.1) at none

-- Where no form fits behind the keyword, the text is no line.
pub no_such_line : (word rest : List ℕ) → Lacks 0x20 word → IsNoForm (keyword_of word) rest → (d : LineData) → IsForm d → word ++ 0x20 ∷ rest ≢ text_of_line d
no_such_line word rest lacks none (message name) form h = behind (codes "message") word rest name refl lacks h none name form refl
no_such_line word rest lacks none (field n name value) form h =
    behind (codes "field") word rest (node_words n name ++ codes " " ++ value) refl lacks h none n name value form.0 form.1 refl
no_such_line word rest lacks none (group n name) form h = behind (codes "group") word rest (node_words n name) refl lacks h none n name form.0 form.1 refl
no_such_line word rest lacks none group_end form h = (behind (codes "end") word rest (codes "group") refl lacks h none).0 refl
no_such_line word rest lacks none (sequence n name count) form h =
    behind (codes "sequence") word rest (node_words n name ++ codes " " ++ decimal count) refl lacks h none n name count form.0 form.1
    form.2 refl
no_such_line word rest lacks none element form h = no_split 0x20 (codes "element") word rest (tested (codes "element") refl) (sym h)
no_such_line word rest lacks none element_end form h = (behind (codes "end") word rest (codes "element") refl lacks h none).1 refl
no_such_line word rest lacks none sequence_end form h = (behind (codes "end") word rest (codes "sequence") refl lacks h none).2 refl
no_such_line word rest lacks none message_end form h = (behind (codes "end") word rest (codes "message") refl lacks h none).3 refl

-- A text that begins with `message` is no line where no name stands behind it.
pub no_message : (o : Option Line) (text rest : List ℕ) → text ≡ codes "message " ++ rest → IfNone o (IsNoForm Key.Message rest)
    → IfNone o ((d : LineData) → IsForm d → text ≢ text_of_line d)
no_message (Some line) text rest is none = tt
no_message None text rest is none = λ d form h. no_such_line (codes "message") rest (tested (codes "message") refl) none d form (sym is ∙ h)

-- the line that is read behind a keyword
pub given_line : (o : Option Line) (words text rest : List ℕ) → text ≡ words ++ rest → IfSome o (Gives words rest)
    → IfSome o (λ l. text ≡ text_of_line (line_data l))
given_line None words text rest is h = tt
given_line (Some line) words text rest is h = is ∙ h.0

pub given_form : (o : Option Line) (words rest : List ℕ) → IfSome o (Gives words rest) → IfSome o (λ l. IsForm (line_data l))
given_form None words rest h = tt
given_form (Some line) words rest h = h.1

-- Where none is read behind a keyword, the text is no line.
pub no_line : (o : Option Line) (word text rest : List ℕ) → text ≡ word ++ 0x20 ∷ rest → Lacks 0x20 word
    → IfNone o (IsNoForm (keyword_of word) rest) → IfNone o ((d : LineData) → IsForm d → text ≢ text_of_line d)
no_line (Some line) word text rest is lacks none = tt
no_line None word text rest is lacks none = λ d form h. no_such_line word rest lacks none d form (sym is ∙ h)

pub no_key : (o : Option Line) (key text rest : List ℕ) → lacks_space key ≡ true → text ≡ key ++ 0x20 ∷ rest
    → IfNone o (IsNoForm (keyword_of key) rest) → IfNone o ((d : LineData) → IsForm d → text ≢ text_of_line d)
no_key o key text rest test is none = no_line o key text rest is (tested key test) none
