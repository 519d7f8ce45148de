use Rattle.std.proofs.lemmas.Grind.{common_steps}
use Rattle.std.proofs.Common.{arith, rules, ◌≡◌, ℕ, ◌-◌, List, length, take, drop, ◌∷◌, slice_index_or, ap, ◌∙◌}
use Rattle.std.proofs.lemmas.Result.{err_from_is_err_and}
use Rattle.std.specs.Prelude.{decimal, flat_map}
use Rattle.std.specs.Fmt.{signed_decimal}
use Rattle.fast_value.specs.meaning.Values.{value_data}
use Rattle.fast_lines.specs.meaning.Lines.{written, quoted, hex_byte}
use Rattle.fast_value.specs.declared.values.Value.TheVariants as Value
use Rattle.fast_lines.proofs.Arms.{behind_two, mapped, mapped_none, no_unsigned, no_signed, no_decimal, no_ascii, no_unicode, no_bytes}
use Rattle.fast_lines.proofs.values.parse_value.Goals as goal

pub returns-in_default-clause-value : goal.returns-in_default-clause-value
returns-in_default-clause-value c = tt

pub returns-in_err-unquote-in-97-clause-value : goal.returns-in_err-unquote-in-97-clause-value
returns-in_err-unquote-in-97-clause-value c = rw ((err_from_is_err_and c.from_residual.result c.from_residual.ensures.1).1) tt

pub returns-in_err-unquote-in-97-clause-none : goal.returns-in_err-unquote-in-97-clause-none
returns-in_err-unquote-in-97-clause-none c = rw ((err_from_is_err_and c.from_residual.result c.from_residual.ensures.1).1) tt

pub returns-in_err-unquote-in-115-clause-value : goal.returns-in_err-unquote-in-115-clause-value
returns-in_err-unquote-in-115-clause-value c = rw ((err_from_is_err_and c.from_residual-in_err-unquote-in-115.result
    c.from_residual-in_err-unquote-in-115.ensures.1).1) tt

pub returns-in_err-unquote-in-115-clause-none : goal.returns-in_err-unquote-in-115-clause-none
returns-in_err-unquote-in-115-clause-none c = rw ((err_from_is_err_and c.from_residual-in_err-unquote-in-115.result
    c.from_residual-in_err-unquote-in-115.ensures.1).1) tt

pub returns-in_err-parse_bytes-in-98-clause-value :
    goal.returns-in_err-parse_bytes-in-98-clause-value
returns-in_err-parse_bytes-in-98-clause-value c = rw ((err_from_is_err_and c.from_residual-in_err-parse_bytes-in-98.result
    c.from_residual-in_err-parse_bytes-in-98.ensures.1).1) tt

pub returns-in_err-parse_bytes-in-98-clause-none :
    goal.returns-in_err-parse_bytes-in-98-clause-none
returns-in_err-parse_bytes-in-98-clause-none c = rw ((err_from_is_err_and c.from_residual-in_err-parse_bytes-in-98.result
    c.from_residual-in_err-parse_bytes-in-98.ensures.1).1) tt

pub returns-in-117-clause-value : goal.returns-in-117-clause-value
returns-in-117-clause-value c =
    let space : slice_index_or c.args.text.now 1 0 ≡ 32 = search rules in
    let is = behind_two c.args.text.now 117 32 c.in-32.len_at_least c.in-117.is space in
    let rest : List ℕ = take (length c.args.text.now - 2) (drop 2 c.args.text.now) in
    mapped c.parse_unsigned.result c.map.result Value.U (λ n. rest ≡ decimal n)
    (λ v. c.args.text.now ≡ written (value_data v)) c.map.ensures.cases c.parse_unsigned.ensures.number
    (λ n e. is ∙ ap (λ (s : List ℕ). 117 ∷ 32 ∷ s) e)

pub returns-in-117-clause-none : goal.returns-in-117-clause-none
returns-in-117-clause-none c =
    let space : slice_index_or c.args.text.now 1 0 ≡ 32 = search rules in
    let is = behind_two c.args.text.now 117 32 c.in-32.len_at_least c.in-117.is space in
    mapped_none _ _ _ _ c.map.ensures.variant c.parse_unsigned.ensures.none (λ none. no_unsigned c.args.text.now _ is none)

pub returns-in-105-clause-value : goal.returns-in-105-clause-value
returns-in-105-clause-value c =
    let space : slice_index_or c.args.text.now 1 0 ≡ 32 = search rules in
    let is = behind_two c.args.text.now 105 32 c.in-32.len_at_least c.in-105.is space in
    let rest : List ℕ = take (length c.args.text.now - 2) (drop 2 c.args.text.now) in
    mapped c.parse_signed.result c.map-in-105.result Value.I (λ n. rest ≡ signed_decimal n)
    (λ v. c.args.text.now ≡ written (value_data v)) c.map-in-105.ensures.cases c.parse_signed.ensures.number
    (λ n e. is ∙ ap (λ (s : List ℕ). 105 ∷ 32 ∷ s) e)

pub returns-in-105-clause-none : goal.returns-in-105-clause-none
returns-in-105-clause-none c =
    let space : slice_index_or c.args.text.now 1 0 ≡ 32 = search rules in
    let is = behind_two c.args.text.now 105 32 c.in-32.len_at_least c.in-105.is space in
    mapped_none _ _ _ _ c.map-in-105.ensures.variant c.parse_signed.ensures.none (λ none. no_signed c.args.text.now _ is none)

pub returns-in-100-clause-value : goal.returns-in-100-clause-value
returns-in-100-clause-value c = grind (arith, common_steps)

pub returns-in-100-clause-none : goal.returns-in-100-clause-none
returns-in-100-clause-none c =
    let space : slice_index_or c.args.text.now 1 0 ≡ 32 = search rules in
    let is = behind_two c.args.text.now 100 32 c.in-32.len_at_least c.in-100.is space in
    mapped_none _ _ _ _ c.map-in-100.ensures.variant c.parse_decimal.ensures.none (λ none. no_decimal c.args.text.now _ is none)

pub returns-in_ok-unquote-in-97-clause-value : goal.returns-in_ok-unquote-in-97-clause-value
returns-in_ok-unquote-in-97-clause-value c =
    let space : slice_index_or c.args.text.now 1 0 ≡ 32 = search rules in
    let is = behind_two c.args.text.now 97 32 c.in-32.len_at_least c.in-97.is space in
    let rest : List ℕ = take (length c.args.text.now - 2) (drop 2 c.args.text.now) in
    mapped c.in_ok-unquote-in-97.field-0 c.map-in-97.result Value.Ascii (λ n. rest ≡ quoted n.items)
    (λ v. c.args.text.now ≡ written (value_data v)) c.map-in-97.ensures.cases c.in_ok-unquote-in-97.ensures.value
    (λ n e. is ∙ ap (λ (s : List ℕ). 97 ∷ 32 ∷ s) e)

pub returns-in_ok-unquote-in-97-clause-none : goal.returns-in_ok-unquote-in-97-clause-none
returns-in_ok-unquote-in-97-clause-none c =
    let space : slice_index_or c.args.text.now 1 0 ≡ 32 = search rules in
    let is = behind_two c.args.text.now 97 32 c.in-32.len_at_least c.in-97.is space in
    mapped_none _ _ _ _ c.map-in-97.ensures.variant c.in_ok-unquote-in-97.ensures.none (λ none. no_ascii c.args.text.now _ is none)

pub returns-in_ok-unquote-in-115-clause-value : goal.returns-in_ok-unquote-in-115-clause-value
returns-in_ok-unquote-in-115-clause-value c =
    let space : slice_index_or c.args.text.now 1 0 ≡ 32 = search rules in
    let is = behind_two c.args.text.now 115 32 c.in-32.len_at_least c.in-115.is space in
    let rest : List ℕ = take (length c.args.text.now - 2) (drop 2 c.args.text.now) in
    mapped c.in_ok-unquote-in-115.field-0 c.map-in-115.result Value.Unicode (λ n. rest ≡ quoted n.items)
    (λ v. c.args.text.now ≡ written (value_data v)) c.map-in-115.ensures.cases c.in_ok-unquote-in-115.ensures.value
    (λ n e. is ∙ ap (λ (s : List ℕ). 115 ∷ 32 ∷ s) e)

pub returns-in_ok-unquote-in-115-clause-none : goal.returns-in_ok-unquote-in-115-clause-none
returns-in_ok-unquote-in-115-clause-none c =
    let space : slice_index_or c.args.text.now 1 0 ≡ 32 = search rules in
    let is = behind_two c.args.text.now 115 32 c.in-32.len_at_least c.in-115.is space in
    mapped_none _ _ _ _ c.map-in-115.ensures.variant c.in_ok-unquote-in-115.ensures.none (λ none. no_unicode c.args.text.now _ is none)

pub returns-in_ok-parse_bytes-in-98-clause-value :
    goal.returns-in_ok-parse_bytes-in-98-clause-value
returns-in_ok-parse_bytes-in-98-clause-value c =
    let space : slice_index_or c.args.text.now 1 0 ≡ 32 = search rules in
    let is = behind_two c.args.text.now 98 32 c.in-32.len_at_least c.in-98.is space in
    let rest : List ℕ = take (length c.args.text.now - 2) (drop 2 c.args.text.now) in
    mapped c.in_ok-parse_bytes-in-98.field-0 c.map-in-98.result Value.Bytes (λ n. rest ≡ flat_map hex_byte n.items)
    (λ v. c.args.text.now ≡ written (value_data v)) c.map-in-98.ensures.cases c.in_ok-parse_bytes-in-98.ensures.value
    (λ n e. is ∙ ap (λ (s : List ℕ). 98 ∷ 32 ∷ s) e)

pub returns-in_ok-parse_bytes-in-98-clause-none : goal.returns-in_ok-parse_bytes-in-98-clause-none
returns-in_ok-parse_bytes-in-98-clause-none c =
    let space : slice_index_or c.args.text.now 1 0 ≡ 32 = search rules in
    let is = behind_two c.args.text.now 98 32 c.in-32.len_at_least c.in-98.is space in
    mapped_none _ _ _ _ c.map-in-98.ensures.variant c.in_ok-parse_bytes-in-98.ensures.none (λ none. no_bytes c.args.text.now _ is none)

pub returns-in_default-letter-clause-value : goal.returns-in_default-letter-clause-value
returns-in_default-letter-clause-value c = tt
