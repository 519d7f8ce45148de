-- What is not due of a body and of elements, where a line of theirs is at fault.
use Rattle.std.proofs.Common.{◌≡◌, ℕ, ◌+◌, ◌<◌, List, ◌∷◌, ◌++◌, length, refl, sym, ap, subst, ◌∙◌, arith}
use Rattle.std.specs.Prelude.{Option, Some, None, option_map}
use Rattle.std.specs.declared.vec.Vec.{Vec}
use Rattle.std.specs.declared.alloc.Global.{Global}
use Rattle.fast_value.specs.declared.messages.Item.{Item}
use Rattle.fast_value.specs.meaning.Messages.{Slots, no_slots, absent, present, Elements, no_elements, element, count}
use Rattle.fast_value.specs.meaning.Views.{elements_data}
use Rattle.fast_value.proofs.ItemViews.{count-elements_data}
use Rattle.fast_tree.specs.meaning.Tree.{Instruction, Body, end, step, Tree}
use Rattle.fast_stream.specs.meaning.Events.{EventData, ElementStart, ElementEnd, SequenceEnd, element_events, body_events}
use Rattle.fast_lines.specs.meaning.Forms.{line_data, line_of_event, element as element_line, sequence_end}
use Rattle.fast_spelling.specs.meaning.Suiting.{AreRight, Suits, SuitsBody}
use Rattle.fast_messages.specs.declared.cursors.Cursor.{Cursor}
use Rattle.fast_messages.specs.declared.endings.Ending.{Ending}
use Rattle.fast_messages.specs.declared.endings.Ending.TheVariants as Ends
use Rattle.fast_messages.specs.device.Cursors.{Advances}
use Rattle.fast_messages.specs.meaning.Distinct.{number}
use Rattle.fast_messages.specs.device.Naming.{Names, end_event, end_line}
use Rattle.fast_messages.specs.device.Progress.{IsReadTo, AreReadTo}
use Rattle.fast_messages.specs.device.Refusing.{IsDue, HasNoNext}
use Rattle.fast_messages.specs.meaning.Unsaid.{IsPlainBody, HasNoBody, HasNoItem, HasNoRows}
use Rattle.fast_messages.proofs.refusals.Due.{due_behind, due_line}
use Rattle.fast_messages.proofs.refusals.Left.{ended, grouped, passed, not_lacking, no_item_due}
use Rattle.fast_messages.proofs.names.LinedEvents.{body_lined, rows_lined}
use Rattle.fast_messages.proofs.unique.OneBody.{OneChoice, past, same_body, element_is}
use Rattle.fast_messages.proofs.refusals.Plain.{plain_first}
use Rattle.fast_messages.proofs.refusals.Refused.{due_next, none_due}

-- What of the rest is due is none, so nothing of the whole is.
refuse : (t : Tree) (whole rest : Body) (xs : List (Option Item)) (ending : Ending) (c a : Cursor) → IsReadTo t whole xs rest c a
    → HasNoBody t rest ending a → HasNoBody t whole ending c
refuse t whole rest xs ending c a r none plain vs es h due = let w = (r.left plain).back vs ending es h due in none (r.plain plain) w.0 es w.1 w.2

-- no item of the next node, though the line names it
no_first : (t : Tree) (i : Instruction) (is : Body) (ending : Ending) (a : Cursor) → Names t (number i) i (option_map line_data a.line)
    → HasNoItem t i a → HasNoBody t (step i is) ending a
no_first t i is ending a named none plain no_slots es h due = absurd h
no_first t i is ending a named none plain (absent ws) es h due =
    not_lacking t (number i) i a (body_events is ws ++ end_event ending ∷ es) named (passed t i is ws (end_event ending ∷ es) a due)
    (past (number i) is ws (end_event ending ∷ es) plain.distinct.1 h.1 (ended ending es))
no_first t i is ending a named none plain (present y ws) es h due =
    none (plain_first t i is plain) y (body_events is ws ++ end_event ending ∷ es) h.0 (grouped t i y is ws (end_event ending ∷ es) a due)

pub item_refused : (t : Tree) (whole : Body) (xs : List (Option Item)) (i : Instruction) (is : Body) (ending : Ending) (c a : Cursor)
    → IsReadTo t whole xs (step i is) c a → Names t (number i) i (option_map line_data a.line) → HasNoItem t i a
    → HasNoBody t whole ending c
item_refused t whole xs i is ending c a r named none = refuse t whole (step i is) xs ending c a r (no_first t i is ending a named none)

-- a mandatory node, which the line doesn't name
no_mandatory : (t : Tree) (i : Instruction) (is : Body) (ending : Ending) (a : Cursor)
    → ¬ (Names t (number i) i (option_map line_data a.line)) → ¬ (Suits i None) → HasNoBody t (step i is) ending a
no_mandatory t i is ending a never wanted plain no_slots es h due = absurd h
no_mandatory t i is ending a never wanted plain (absent ws) es h due = wanted h.0
no_mandatory t i is ending a never wanted plain (present y ws) es h due =
    no_item_due t i y (body_events is ws ++ end_event ending ∷ es) a h.0 never (grouped t i y is ws (end_event ending ∷ es) a due)

pub mandatory_refused : (t : Tree) (whole : Body) (xs : List (Option Item)) (i : Instruction) (is : Body) (ending : Ending) (c a : Cursor)
    → IsReadTo t whole xs (step i is) c a → ¬ (Names t (number i) i (option_map line_data a.line)) → ¬ (Suits i None)
    → HasNoBody t whole ending c
mandatory_refused t whole xs i is ending c a r never wanted = refuse t whole (step i is) xs ending c a r (no_mandatory t i is ending a never wanted)

end_line_of : (t : Tree) (ending : Ending) → line_of_event t (end_event ending) ≡ end_line ending
end_line_of t Ends.Message = refl
end_line_of t Ends.Group = refl
end_line_of t Ends.Element = refl

-- the end, which the line isn't
no_end : (t : Tree) (ending : Ending) (a : Cursor) → ¬ (option_map line_data a.line ≡ Some (end_line ending)) → HasNoBody t end ending a
unfolding body_events
no_end t ending a never plain no_slots es h due = due_line t (end_event ending) es a due
    (λ (line : option_map line_data a.line ≡ Some (line_of_event t (end_event ending))). never (line ∙ ap Some (end_line_of t ending)))
no_end t ending a never plain (absent ws) es h due = absurd h
no_end t ending a never plain (present x ws) es h due = absurd h

pub end_refused : (t : Tree) (whole : Body) (xs : List (Option Item)) (ending : Ending) (c a : Cursor) → IsReadTo t whole xs end c a
    → ¬ (option_map line_data a.line ≡ Some (end_line ending)) → HasNoBody t whole ending c
end_refused t whole xs ending c a r never = refuse t whole end xs ending c a r (no_end t ending a never)

pub place_refused : (t : Tree) (whole rest : Body) (xs : List (Option Item)) (ending : Ending) (c a : Cursor)
    → IsReadTo t whole xs rest c a → HasNoNext a → HasNoBody t whole ending c
place_refused t whole rest xs ending c a r none = refuse t whole rest xs ending c a r
    (λ plain vs es h due. none_due t (body_events rest vs) (end_event ending) es a none due)

-- What is left of the elements, behind those that were read.
rows_left : (right : Slots → Type 0) (events : Slots → List EventData) → OneChoice right events
    → (rows all : Elements) (more es : List EventData) → AreRight right rows → AreRight right all
    → element_events events rows ++ more ≡ element_events events all ++ SequenceEnd ∷ es
    → (rest : Elements) × AreRight right rest × (count all ≡ count rows + count rest) × (more ≡ element_events events rest ++ SequenceEnd ∷ es)
rows_left right events choice no_elements all more es h k e = (all, k, omega (arith), e)
rows_left right events choice (element vs rows) no_elements more es h k e = absurd (cc e)
rows_left right events choice (element vs rows) (element ws all) more es h k e =
    let both : ElementStart ∷ (events vs ++ ElementEnd ∷ (element_events events rows ++ more)) ≡ ElementStart
    ∷ (events ws ++ ElementEnd ∷ (element_events events all ++ SequenceEnd ∷ es)) =
    sym (element_is events vs rows more) ∙ e ∙ element_is events ws all (SequenceEnd ∷ es) in
    let within : events vs ++ ElementEnd ∷ (element_events events rows ++ more) ≡ events ws
    ++ ElementEnd ∷ (element_events events all ++ SequenceEnd ∷ es) = cc (both) in
    let one = choice vs ws (ElementEnd ∷ (element_events events rows ++ more))
    (ElementEnd ∷ (element_events events all ++ SequenceEnd ∷ es)) h.0 k.0 (λ n x. x) (λ n x. x) within in
    let behind : element_events events rows ++ more ≡ element_events events all ++ SequenceEnd ∷ es = cc (one.1) in
    let (rest, right_rest, many, is) = rows_left right events choice rows all more es h.1 k.1 behind in
    (rest, right_rest, omega (arith, many), is)

-- Of so many elements, the rest is due.
module _ (t : Tree) (body : Body) (rs : List (Vec (Option Item) Global)) (n : ℕ) (c a : Cursor) (r : AreReadTo t body rs c a) where
  refuse_rows : ((plain : IsPlainBody t body) (rest : Elements) (es : List EventData) → AreRight (SuitsBody body) rest
      → length rs + count rest ≡ n → ¬ (IsDue t (element_events (body_events body) rest ++ SequenceEnd ∷ es) a)) → HasNoRows t body n c
  refuse_rows none plain all es h many due =
      let read = element_events (body_events body) (elements_data rs) in
      let (fs, is, later) = due_behind t read (element_events (body_events body) all ++ SequenceEnd ∷ es) c a plain.templates
      (rows_lined t (SuitsBody body) (body_events body) (λ vs k. body_lined t body vs plain.named k) (elements_data rs) r.right) r.said
      due in
      let (rest, right, counted, left) = rows_left (SuitsBody body) (body_events body) (same_body body plain.distinct)
      (elements_data rs) all fs es r.right h (sym is) in
      let long = count-elements_data rs in
      let whole : length rs + count rest ≡ n = omega (arith, many, counted, long) in
      none plain rest es right whole (subst (λ (z : List EventData). IsDue t z a) left later)

  -- no line follows
  pub rows_next : HasNoNext a → HasNoRows t body n c
  rows_next none = refuse_rows (λ plain rest es h many due. none_due t (element_events (body_events body) rest) SequenceEnd es a none due)

  -- the line is of no element
  not_element : ¬ (option_map line_data a.line ≡ Some element_line) → (vs : Slots) (rest : Elements) (es : List EventData)
      → ¬ (IsDue t (element_events (body_events body) (element vs rest) ++ SequenceEnd ∷ es) a)
  not_element never vs rest es due = due_line t ElementStart
      (body_events body vs ++ ElementEnd ∷ (element_events (body_events body) rest ++ SequenceEnd ∷ es)) a
      (subst (λ (z : List EventData). IsDue t z a) (element_is (body_events body) vs rest (SequenceEnd ∷ es)) due) never

  -- the line is no end
  not_ended : ¬ (option_map line_data a.line ≡ Some sequence_end) → (es : List EventData) → ¬ (IsDue t (SequenceEnd ∷ es) a)
  not_ended never es due = due_line t SequenceEnd es a due never

  no_both : option_map line_data a.line ≡ Some element_line → ¬ (option_map line_data a.line ≡ Some sequence_end)
  no_both line other = let both : Some element_line ≡ Some sequence_end = sym line ∙ other in absurd (cc (both))

  -- one element too many
  pub rows_surplus : option_map line_data a.line ≡ Some element_line → length rs ≡ n → HasNoRows t body n c
  rows_surplus line all = refuse_rows by
    where
      by : (plain : IsPlainBody t body) (rest : Elements) (es : List EventData) → AreRight (SuitsBody body) rest
          → length rs + count rest ≡ n → ¬ (IsDue t (element_events (body_events body) rest ++ SequenceEnd ∷ es) a)
      by plain no_elements es h many due = not_ended (no_both line) es due
      by plain (element vs rest) es h many due = omega (arith, many, all)

  -- an element at fault
  pub rows_element : (mid : Cursor) → option_map line_data a.line ≡ Some element_line → Advances a mid → HasNoBody t body Ends.Element mid
      → HasNoRows t body n c
  rows_element mid line on none = refuse_rows by
    where
      by : (plain : IsPlainBody t body) (rest : Elements) (es : List EventData) → AreRight (SuitsBody body) rest
          → length rs + count rest ≡ n → ¬ (IsDue t (element_events (body_events body) rest ++ SequenceEnd ∷ es) a)
      by plain no_elements es h many due = not_ended (no_both line) es due
      by plain (element vs rest) es h many due =
          let behind = element_events (body_events body) rest ++ SequenceEnd ∷ es in
          due_next t ElementStart (body_events body vs ++ ElementEnd ∷ behind) a mid on
          (subst (λ (z : List EventData). IsDue t z a) (element_is (body_events body) vs rest (SequenceEnd ∷ es)) due)
          (λ later. none plain vs behind h.0 later)

  -- neither an element nor the end
  pub rows_misplaced : ¬ (option_map line_data a.line ≡ Some element_line) → ¬ (option_map line_data a.line ≡ Some sequence_end) → HasNoRows t body n c
  rows_misplaced never other = refuse_rows by
    where
      by : (plain : IsPlainBody t body) (rest : Elements) (es : List EventData) → AreRight (SuitsBody body) rest
          → length rs + count rest ≡ n → ¬ (IsDue t (element_events (body_events body) rest ++ SequenceEnd ∷ es) a)
      by plain no_elements es h many due = not_ended other es due
      by plain (element vs rest) es h many due = not_element never vs rest es due

  -- too few elements
  pub rows_missing : ¬ (option_map line_data a.line ≡ Some element_line) → length rs < n → HasNoRows t body n c
  rows_missing never few = refuse_rows by
    where
      by : (plain : IsPlainBody t body) (rest : Elements) (es : List EventData) → AreRight (SuitsBody body) rest
          → length rs + count rest ≡ n → ¬ (IsDue t (element_events (body_events body) rest ++ SequenceEnd ∷ es) a)
      by plain no_elements es h many due = omega (arith, many, few)
      by plain (element vs rest) es h many due = not_element never vs rest es due
