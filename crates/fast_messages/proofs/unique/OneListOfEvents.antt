-- Lines are those of one list of events.
use Rattle.std.proofs.Common.{◌≡◌, List, [], ◌∷◌, ◌++◌, refl, sym, ◌∙◌, append_assoc}
use Rattle.std.specs.Prelude.{All}
use Rattle.std.proofs.lemmas.List.Elements.{All-head, All-tail}
use Rattle.fast_tree.specs.meaning.Tree.{Tree}
use Rattle.fast_stream.specs.meaning.Events.{EventData}
use Rattle.fast_lines.specs.meaning.Lines.{line_of, lines}
use Rattle.fast_lines.proofs.Splits.{first_split}
use Rattle.fast_messages.specs.meaning.Lined.{IsLined, HasDistinctNames}
use Rattle.fast_messages.proofs.texts.NoFeeds.{line_lacks}
use Rattle.fast_messages.proofs.unique.OneEvent.{same_event}

-- the lines begin with that of the first event
lines_are : (t : Tree) (e : EventData) (es : List EventData) → lines t (e ∷ es) ≡ line_of t e ++ 0x0A ∷ lines t es
lines_are t e es = append_assoc (line_of t e) (0x0A ∷ []) (lines t es)

no_line : {A : Type 0} (a b : List A) (x : A) → [] ≡ a ++ x ∷ b → ⊥
no_line [] b x h = absurd (cc (h))
no_line (c ∷ a) b x h = absurd (cc (h))

pub same_events : (t : Tree) (es fs : List EventData) → HasDistinctNames t → All (IsLined t) es → All (IsLined t) fs → lines t es ≡ lines t fs → es ≡ fs
same_events t [] [] d a b h = refl
same_events t [] (f ∷ fs) d a b h = absurd (no_line (line_of t f) (lines t fs) 0x0A (h ∙ lines_are t f fs))
same_events t (e ∷ es) [] d a b h = absurd (no_line (line_of t e) (lines t es) 0x0A (sym h ∙ lines_are t e es))
same_events t (e ∷ es) (f ∷ fs) d a b h =
    let first = All-head (IsLined t) e es a in
    let other = All-head (IsLined t) f fs b in
    let split = first_split 0x0A (line_of t e) (line_of t f) (lines t es) (lines t fs) (line_lacks t e first) (line_lacks t f other)
    (sym (lines_are t e es) ∙ h ∙ lines_are t f fs) in
    cc (same_event t e f d first other split.0, same_events t es fs d (All-tail (IsLined t) e es a) (All-tail (IsLined t) f fs b) split.1)
