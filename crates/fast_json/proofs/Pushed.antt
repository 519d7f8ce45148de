-- One bracket less, and brackets and marks that are there.
use Rattle.std.proofs.Common.{◌≡◌, ℕ, ◌+◌, ◌<◌, ◌≤◌, Bool, true, false, List, [], ◌∷◌, ◌++◌, length, drop, refl, ap, sym, ◌∙◌, arith}
use Rattle.std.specs.Prelude.{if◌then◌else◌, codes, decimal}
use Rattle.std.proofs.lemmas.Bool.{lt-ltb}
use Rattle.std.proofs.lemmas.List.{drop-drop, drop_all}
use Rattle.fast_json.specs.meaning.Json.{Nesting, ended, before_last, json_incomplete, repeat_mark}

-- no item precedes the next one, or some do, with the same brackets
same_brackets : (b : Bool) (xs ys : List ℕ) → xs ≡ ys → ◌≡◌ {A = Nesting} (record { is_first = b; brackets = xs }) (record { is_first = b; brackets = ys })
same_brackets b xs ys e = rw e refl

-- one bracket less
pub popped : (b : Bool) (cells : List ℕ) (start : ℕ) → ◌≡◌ {A = Nesting} (record {
  is_first = false;
  brackets = drop (start + 1) cells;
}) (ended (record { is_first = b; brackets = drop start cells }))
popped b cells start = same_brackets false (drop (start + 1) cells) (drop 1 (drop start cells)) (sym (drop-drop 1 start cells))

-- there is none
pub none_left : (b : Bool) (cells : List ℕ) (start : ℕ) → length cells ≤ start → ◌≡◌ {A = Nesting} (record {
  is_first = false;
  brackets = drop start cells;
}) (ended (record { is_first = b; brackets = drop start cells }))
none_left b cells start all =
    let none : drop start cells ≡ [] = drop_all start cells all in
    same_brackets false (drop start cells) (drop 1 (drop start cells)) (none ∙ sym (ap (drop 1) none))

-- some are open
pub before_some : (bs : List ℕ) → 0 < length bs → before_last bs ≡ bs ++ codes ","
before_some [] h = absurd (omega arith)
before_some (b ∷ bs) h = refl

-- a message is open
pub incomplete_some : (bs : List ℕ) → 0 < length bs → json_incomplete bs ≡ bs ++ codes ",\"incomplete\":true}\n"
incomplete_some [] h = absurd (omega arith)
incomplete_some (b ∷ bs) h = refl

-- the number of a name that is not the first
pub mark_more : (k : ℕ) → 1 < k → codes "#" ++ decimal k ≡ repeat_mark k
mark_more k h = sym (ap (λ (b : Bool). if b then codes "#" ++ decimal k else []) (lt-ltb 1 k h))
