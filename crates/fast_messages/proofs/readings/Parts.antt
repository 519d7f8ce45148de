-- The parts of a message, each by its lines.
use Rattle.std.proofs.Common.{◌≡◌, ℕ, ◌<◌, List, [], ◌∷◌, ◌++◌, refl, ap, sym, subst, ◌∙◌}
use Rattle.std.specs.Prelude.{◌^◌, Bool, Some, option_map}
use Rattle.fast_value.specs.declared.values.Value.{Value}
use Rattle.fast_value.specs.meaning.Kinds.{ScalarData}
use Rattle.fast_value.specs.meaning.Values.{value_data}
use Rattle.fast_value.specs.meaning.Messages.{ItemData, one, group as group_item, sequence as sequence_item, Slots, Elements, count}
use Rattle.fast_tree.specs.meaning.Tree.{Label, FieldData, Instruction, field, parts, group, sequence, Body, Tree}
use Rattle.fast_stream.specs.meaning.Events.{FieldValue, GroupStart, GroupEnd, SequenceStart, SequenceEnd, element_events, item_events, body_events}
use Rattle.fast_lines.specs.meaning.Forms.{field as field_line, sequence as sequence_line, line_data}
use Rattle.fast_lines.specs.meaning.Lines.{node_name, written}
use Rattle.fast_spelling.specs.meaning.Suiting.{Suits}
use Rattle.fast_messages.specs.declared.cursors.Cursor.{Cursor}
use Rattle.fast_messages.specs.declared.endings.Ending.TheVariants as Ends
use Rattle.fast_messages.specs.device.Cursors.{Advances}
use Rattle.fast_messages.specs.meaning.Distinct.{number}
use Rattle.fast_messages.specs.device.Naming.{IsValue, IsGroup, IsSequence, Names}
use Rattle.fast_messages.specs.device.Runs.{IsBodyRead, IsItemRead, AreRowsRead}
use Rattle.fast_messages.proofs.names.Named.{value_ahead, group_ahead, sequence_ahead}
use Rattle.fast_messages.proofs.readings.Said.{said_one, said_both, said_as}

pub value_events_are : (i : Instruction) (v : ScalarData) → IsValue i → item_events i (one v) ≡ FieldValue (number i) v ∷ []
unfolding item_events
value_events_are (field l f) v h = refl
value_events_are (parts l e m) v h = refl
value_events_are (group l optional body) v h = absurd h
value_events_are (sequence l length body) v h = absurd h

pub group_events_are : (l : Label) (optional : Bool) (body : Body) (vs : Slots)
    → item_events (group l optional body) (group_item vs) ≡ GroupStart l.node ∷ body_events body vs ++ GroupEnd ∷ []
unfolding item_events
group_events_are l optional body vs = refl

pub sequence_events_are : (l : Label) (f : FieldData) (body : Body) (rows : Elements)
    → item_events (sequence l f body) (sequence_item rows) ≡ SequenceStart l.node (count rows) ∷ element_events (body_events body) rows
    ++ SequenceEnd ∷ []
unfolding item_events
sequence_events_are l f body rows = refl

-- a field
pub value_read : (t : Tree) (n : ℕ) (i : Instruction) (v : Value) (x : ItemData) (c next : Cursor) → IsValue i → number i ≡ n
    → x ≡ one (value_data v) → c.value ≡ Some v → Names t n i (option_map line_data c.line) → Advances c next → Suits i (Some x)
    → IsItemRead t i x c next
value_read t n i v x c next h is item has named a suits =
    let (text, line) = value_ahead t n i c.line a.line a.was named h in
    let told : text ≡ written (value_data v) = c.told n (node_name t n) text v (a.was ∙ ap Some line) has in
    let event : FieldValue n (value_data v) ∷ [] ≡ item_events i x = ap (λ (m : ℕ). FieldValue m (value_data v) ∷ []) (sym is)
    ∙ sym (value_events_are i (value_data v) h) ∙ ap (item_events i) (sym item) in
    record {
      suits = suits;
      said = said_as t (FieldValue n (value_data v) ∷ []) (item_events i x) c next event
          (said_one t (FieldValue n (value_data v)) c next a (line ∙ ap (field_line n (node_name t n)) told));
    }

-- a group
pub group_read : (t : Tree) (n : ℕ) (i : Instruction) (l : Label) (optional : Bool) (body : Body) (vs : Slots) (x : ItemData)
    (c mid next : Cursor) → i ≡ group l optional body → l.node ≡ n → x ≡ group_item vs → Names t n i (option_map line_data c.line)
    → Advances c mid → IsBodyRead t body Ends.Group vs mid next → IsItemRead t i x c next
group_read t n i l optional body vs x c mid next is own item named a inner =
    let line = group_ahead t n i c.line a.line a.was named (subst IsGroup (sym is) tt) in
    let events : GroupStart n ∷ (body_events body vs ++ GroupEnd ∷ []) ≡ item_events i x =
    ap (λ (m : ℕ). GroupStart m ∷ (body_events body vs ++ GroupEnd ∷ [])) (sym own) ∙ sym (group_events_are l optional body vs)
    ∙ ap (λ (z : Instruction). item_events z (group_item vs)) (sym is) ∙ ap (item_events i) (sym item) in
    record {
      suits = subst (λ (z : ItemData). Suits i (Some z)) (sym item) (subst (λ (z : Instruction). Suits z (Some (group_item vs))) (sym is) inner.suits);
      said = said_as t (GroupStart n ∷ (body_events body vs ++ GroupEnd ∷ [])) (item_events i x) c next events
          (said_both t (GroupStart n ∷ []) (body_events body vs ++ GroupEnd ∷ []) c mid next
          (said_one t (GroupStart n) c mid a line) inner.said);
    }

-- a sequence
pub sequence_read : (t : Tree) (n : ℕ) (i : Instruction) (l : Label) (f : FieldData) (body : Body) (rows : Elements) (many : ℕ)
    (x : ItemData) (c mid next : Cursor) → i ≡ sequence l f body → l.node ≡ n → x ≡ sequence_item rows → many < 2 ^ 32
    → ((m : ℕ) (name : List ℕ) (k : ℕ) → option_map line_data c.line ≡ Some (sequence_line m name k) → many ≡ k)
    → Names t n i (option_map line_data c.line) → Advances c mid → AreRowsRead t body many rows mid next → IsItemRead t i x c next
sequence_read t n i l f body rows many x c mid next is own item few counts named a inner =
    let (k, line) = sequence_ahead t n i c.line a.line a.was named (subst IsSequence (sym is) tt) in
    let all : k ≡ count rows = sym (counts n (node_name t n) k (a.was ∙ ap Some line)) ∙ sym inner.counted in
    let events : SequenceStart n (count rows) ∷ (element_events (body_events body) rows ++ SequenceEnd ∷ []) ≡ item_events i x =
    ap (λ (m : ℕ). SequenceStart m (count rows) ∷ (element_events (body_events body) rows ++ SequenceEnd ∷ [])) (sym own)
    ∙ sym (sequence_events_are l f body rows) ∙ ap (λ (z : Instruction). item_events z (sequence_item rows)) (sym is)
    ∙ ap (item_events i) (sym item) in
    record {
      suits = subst (λ (z : ItemData). Suits i (Some z)) (sym item)
          (subst (λ (z : Instruction). Suits z (Some (sequence_item rows))) (sym is)
          (inner.right, subst (λ (z : ℕ). z < 2 ^ 32) (sym inner.counted) few));
      said = said_as t (SequenceStart n (count rows) ∷ (element_events (body_events body) rows ++ SequenceEnd ∷ [])) (item_events i x) c next events
          (said_both t (SequenceStart n (count rows) ∷ []) (element_events (body_events body) rows ++ SequenceEnd ∷ []) c mid next
          (said_one t (SequenceStart n (count rows)) c mid a (line ∙ ap (sequence_line n (node_name t n)) all)) inner.said);
    }
