-- Where a limit on elements is passed.
use Rattle.std.specs.Prelude.{◌≡◌, ℕ, ◌+◌, ◌<◌, ◌≤◌, Bool, true, false, List, ◌∷◌, ◌++◌, take}
use Rattle.fast_value.specs.declared.codes.Code.{Code}
use Rattle.fast_value.specs.declared.codes.Code.TheVariants.{L2, L5}
use Rattle.fast_value.specs.declared.settings.Limits.{Limits}
use Rattle.fast_tree.specs.meaning.Tree.{Tree}
use Rattle.fast_stream.specs.meaning.Events.{EventData, SequenceStart}
use Rattle.fast_stream.specs.meaning.Streams.{End, between, inside, faulted, Stream}
use Rattle.fast_laws.specs.meaning.Counting.{counted}

-- the codes of the two limits on elements
abbrev pub is_count_code : Code → Bool
is_count_code L2 = true
is_count_code L5 = true
is_count_code c = false

-- the stream ends otherwise
abbrev pub IsOtherEnd : End → Type 0
IsOtherEnd between = Unit {0}
IsOtherEnd inside = Unit {0}
IsOtherEnd (faulted c place) = is_count_code c ≡ false

-- the same limits, with room for more elements
abbrev pub with_room : ℕ → ℕ → Limits → Limits
with_room elements total l = record l { max_elements = elements; max_total = total }

-- A sequence of n elements behind k others of the message passes a limit: that on one sequence, or else that on all.
abbrev pub Passes : Limits → ℕ → ℕ → Code → Type 0
Passes l k n L2 = l.max_elements < n
Passes l k n L5 = (n ≤ l.max_elements) × (l.max_total < k + n)
Passes l k n c = ⊥

-- The bytes up to the place announce a sequence that passes the limit of the code: with room for its elements they give its start next,
-- behind the same events.
pub record IsPassed (t : Tree) (l : Limits) (w : List ℕ) (es : List EventData) (c : Code) (place : ℕ) : Type 0 where
  pub node : ℕ
  pub elements : ℕ
  pub passes : Passes l (counted es) elements c
  pub announced : (m n : ℕ) → l.max_elements ≤ m → l.max_total ≤ n → elements ≤ m → counted es + elements ≤ n
      → (more : List EventData) × (e : End) × Stream t (with_room m n l) (take place w) (es ++ SequenceStart node elements ∷ more) e
