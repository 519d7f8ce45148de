-- A text that is UTF-8 is so on both sides of an LF.
use Rattle.std.proofs.Common.{◌≡◌, ◌<◌, ◌+◌, ℕ, List, ◌∷◌, ◌++◌, length, take, drop, subst, sym, refl, ap, ◌∙◌, arith}
use Rattle.std.specs.Prelude.{IsUtf8}
use Rattle.std.proofs.Math.ListN.{get_or}
use Rattle.std.proofs.lemmas.List.{length-append, get_or_at, take_at, drop_at, drop-drop}
use Rattle.std.proofs.lemmas.Str.{IsUtf8-take, IsUtf8-drop, IsCharBoundary-before_ascii, IsCharBoundary-after_ascii}

module _ (line rest : List ℕ) (whole : IsUtf8 (line ++ 0x0A ∷ rest)) where
  abbrev all : List ℕ
  all = line ++ 0x0A ∷ rest

  within : length line < length all
  within = let long = length-append line (0x0A ∷ rest) in omega (arith, long)

  feed : get_or all (length line) 0 < 128
  feed = let is = get_or_at line 0x0A rest 0 (length line) refl in omega (arith, is)

  rest_is : drop (length line + 1) all ≡ rest
  rest_is = sym (drop-drop 1 (length line) all) ∙ ap (drop 1) (drop_at line (0x0A ∷ rest) (length line) refl)

  parts : IsUtf8 line × IsUtf8 rest
  parts = (
    subst IsUtf8 (take_at line (0x0A ∷ rest) (length line) refl)
        (IsUtf8-take all (length line) whole (IsCharBoundary-before_ascii all (length line) within feed)),
    subst IsUtf8 rest_is (IsUtf8-drop all (length line + 1) whole (IsCharBoundary-after_ascii all (length line) whole within feed)),
  )

pub utf8_parts : (text line rest : List ℕ) → text ≡ line ++ 0x0A ∷ rest → IsUtf8 text → IsUtf8 line × IsUtf8 rest
utf8_parts text line rest is whole = parts line rest (subst IsUtf8 is whole)
