-- What no slots, no item, no elements and no message have as the text ahead, where a line of theirs is at fault.
use Rattle.std.specs.Prelude.{◌≡◌, ℕ, List, ◌∷◌, ◌++◌, All, Some, flat_map}
use Rattle.fast_value.specs.meaning.Messages.{ItemData, Slots, Elements, count, MessageData}
use Rattle.fast_tree.specs.meaning.Tree.{Instruction, Body, Tree}
use Rattle.fast_notation.specs.meaning.Labels.{labels, body_labels}
use Rattle.fast_stream.specs.meaning.Events.{EventData, SequenceEnd, element_events, item_events, body_events, events}
use Rattle.fast_spelling.specs.meaning.Suiting.{AreRight, Suits, SuitsBody, SuitsTemplate}
use Rattle.fast_messages.specs.declared.cursors.Cursor.{Cursor}
use Rattle.fast_messages.specs.declared.endings.Ending.{Ending}
use Rattle.fast_messages.specs.meaning.Distinct.{IsDistinct, AreDistinct}
use Rattle.fast_messages.specs.meaning.Lined.{IsNamed, HasDistinctNames, HasNames, IsShown}
use Rattle.fast_messages.specs.device.Naming.{end_event}
use Rattle.fast_messages.specs.meaning.Reading.{Says}
use Rattle.fast_messages.specs.device.Refusing.{IsDue}

-- the numbers of a body's nodes are different, and have names
pub record IsPlainBody (t : Tree) (b : Body) : Type 0 where
  pub templates : HasDistinctNames t
  pub distinct : AreDistinct b
  pub named : All (λ l. IsNamed t l.node) (body_labels b)

-- so in an instruction
pub record IsPlainItem (t : Tree) (i : Instruction) : Type 0 where
  pub templates : HasDistinctNames t
  pub distinct : IsDistinct i
  pub named : All (λ l. IsNamed t l.node) (labels i)

-- What may be due of a whole body at one place, up to its end, may be due of the rest at the next.
pub record IsLeft (t : Tree) (whole rest : Body) (c next : Cursor) : Type 0 where
  pub back : (vs : Slots) (ending : Ending) (es : List EventData) → SuitsBody whole vs
      → IsDue t (body_events whole vs ++ end_event ending ∷ es) c
      → (ws : Slots) × SuitsBody rest ws × IsDue t (body_events rest ws ++ end_event ending ∷ es) next

-- No slots that suit the body have the text ahead, up to the body's end.
abbrev pub HasNoBody : Tree → Body → Ending → Cursor → Type 0
HasNoBody t b ending c = IsPlainBody t b → (vs : Slots) (es : List EventData) → SuitsBody b vs → ¬ (IsDue t (body_events b vs ++ end_event ending ∷ es) c)

-- no item of the instruction
abbrev pub HasNoItem : Tree → Instruction → Cursor → Type 0
HasNoItem t i c = IsPlainItem t i → (x : ItemData) (es : List EventData) → Suits i (Some x) → ¬ (IsDue t (item_events i x ++ es) c)

-- not so many elements, up to the sequence's end
abbrev pub HasNoRows : Tree → Body → ℕ → Cursor → Type 0
HasNoRows t b n c = IsPlainBody t b → (rows : Elements) (es : List EventData) → AreRight (SuitsBody b) rows → count rows ≡ n
    → ¬ (IsDue t (element_events (body_events b) rows ++ SequenceEnd ∷ es) c)

-- no message
abbrev pub HasNoMessage : Tree → Cursor → Type 0
HasNoMessage t c = HasDistinctNames t → HasNames t → (m : MessageData) (es : List EventData) → SuitsTemplate t m → ¬ (IsDue t (events t m ++ es) c)

-- No messages whose values can be read back have the text as their lines.
abbrev pub SaysNothing : Tree → List ℕ → Type 0
SaysNothing t text = HasDistinctNames t → HasNames t → (ms : List MessageData) → All IsShown (flat_map (events t) ms) → ¬ (Says t text ms)
