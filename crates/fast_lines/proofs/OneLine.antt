-- What a line says is found in its text.
use Rattle.std.proofs.Common.{◌≡◌, ◌≢◌, ℕ, ◌<◌, ◌^◌, List, [], ◌∷◌, ◌++◌, codes, if◌then◌else◌, refl, ap, sym, ◌∙◌, arith}
use Rattle.std.specs.Prelude.{decimal, nat_eq}
use Rattle.std.specs.Str.{bytes_eq}
use Rattle.std.specs.Str.Parse.{digits_value}
use Rattle.std.proofs.lemmas.Fmt.{decimal_is_IsNumeral}
use Rattle.std.proofs.lemmas.Bool.{ne_eqb}
use Rattle.std.proofs.lemmas.List.Elements.{All-head, All-tail}
use Rattle.fast_lines.specs.declared.forms.Keyword.{Keyword}
use Rattle.fast_lines.specs.declared.forms.Keyword.TheVariants as Key
use Rattle.fast_lines.specs.meaning.Values.{Lacks}
use Rattle.fast_lines.specs.meaning.Forms.{LineData, message, field, group, group_end, sequence, element, element_end, sequence_end}
use Rattle.fast_lines.specs.meaning.Forms.{message_end, text_of_line, IsForm, keyword_of}
use Rattle.fast_lines.proofs.Words.{node_as_words, more_as_words, number_lacks}

-- what stands before the first space, and behind it
abbrev before : List ℕ → List ℕ
before [] = []
before (c ∷ cs) = if nat_eq c 0x20 then [] else c ∷ before cs

abbrev after : List ℕ → List ℕ
after [] = []
after (c ∷ cs) = if nat_eq c 0x20 then cs else after cs

-- the end of what
abbrev ended : List ℕ → LineData
ended word = if bytes_eq word (codes "group") then group_end else if bytes_eq word (codes "element") then element_end else if bytes_eq word
    (codes "sequence") then sequence_end else message_end

-- the line with this behind its keyword
abbrev behind_keyword : Keyword → List ℕ → LineData
behind_keyword Key.Message text = message text
behind_keyword Key.Field text = field (digits_value 10 (before text)) (before (after text)) (after (after text))
behind_keyword Key.Group text = group (digits_value 10 (before text)) (after text)
behind_keyword Key.Sequence text = sequence (digits_value 10 (before text)) (before (after text)) (digits_value 10 (after (after text)))
behind_keyword Key.End text = ended text
behind_keyword Key.Other text = element

-- what a line says
abbrev said : List ℕ → LineData
said text = behind_keyword (keyword_of (before text)) (after text)

before_space : (word rest : List ℕ) → Lacks 0x20 word → before (word ++ 0x20 ∷ rest) ≡ word
before_space [] rest lacks = refl
before_space (c ∷ word) rest lacks = rw (
  ne_eqb c 0x20 (All-head (λ c. c ≢ 0x20) c word lacks),
  before_space word rest (All-tail (λ c. c ≢ 0x20) c word lacks),
) refl

after_space : (word rest : List ℕ) → Lacks 0x20 word → after (word ++ 0x20 ∷ rest) ≡ rest
after_space [] rest lacks = refl
after_space (c ∷ word) rest lacks = rw (
  ne_eqb c 0x20 (All-head (λ c. c ≢ 0x20) c word lacks),
  after_space word rest (All-tail (λ c. c ≢ 0x20) c word lacks),
) refl

-- a number's digits have its value
number_said : (n : ℕ) → n < 2 ^ 32 → digits_value 10 (decimal n) ≡ n
number_said n small = (decimal_is_IsNumeral n (omega (arith, small))).1

-- the text of a line says what the line says
line_said : (d : LineData) → IsForm d → said (text_of_line d) ≡ d
line_said (message name) form = refl
line_said (field n name value) form =
    let lacks = number_lacks n form.0 in
    rw (
      more_as_words n name value,
      before_space (decimal n) (name ++ 0x20 ∷ value) lacks,
      after_space (decimal n) (name ++ 0x20 ∷ value) lacks,
      before_space name value form.1.whole,
      after_space name value form.1.whole,
      number_said n form.0,
    ) refl
line_said (group n name) form =
    let lacks = number_lacks n form.0 in
    rw (node_as_words n name, before_space (decimal n) name lacks, after_space (decimal n) name lacks, number_said n form.0) refl
line_said group_end form = refl
line_said (sequence n name count) form =
    let lacks = number_lacks n form.0 in
    rw (
      more_as_words n name (decimal count),
      before_space (decimal n) (name ++ 0x20 ∷ decimal count) lacks,
      after_space (decimal n) (name ++ 0x20 ∷ decimal count) lacks,
      before_space name (decimal count) form.1.whole,
      after_space name (decimal count) form.1.whole,
      number_said n form.0,
      number_said count form.2,
    ) refl
line_said element form = refl
line_said element_end form = refl
line_said sequence_end form = refl
line_said message_end form = refl

pub same_line : (d e : LineData) → IsForm d → IsForm e → text_of_line d ≡ text_of_line e → d ≡ e
same_line d e first second h = sym (line_said d first) ∙ ap said h ∙ line_said e second
