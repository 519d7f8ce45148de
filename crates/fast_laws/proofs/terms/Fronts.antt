-- What was read of an instruction, and what one that is cut short or wrong is the beginning of.
use Rattle.std.proofs.Common.{◌≡◌, ◌⊎◌, inl, inr, ℕ, zero, suc, ◌+◌, ◌≤◌, List, [], ◌∷◌, ◌++◌, refl, ap, sym, subst, ◌∙◌, arith, append_assoc, append-nil}
use Rattle.std.specs.Prelude.{Bool, true, false, nat_le, nat_abs, if◌then◌else◌, ℤ, Option, Some, None, Ok, Err}
use Rattle.std.proofs.lemmas.Bool.{leb-true}
use Rattle.fast_wire.specs.meaning.Integers.{IsWithin, signed_range, exponent_range}
use Rattle.fast_wire.specs.meaning.Maps.{first_bit, later_bits}
use Rattle.fast_value.specs.declared.kinds.Kind.{Kind}
use Rattle.fast_value.specs.declared.kinds.Kind.TheVariants.{UInt32, Int64}
use Rattle.fast_value.specs.declared.settings.Limits.{Limits}
use Rattle.fast_value.specs.declared.codes.Code.TheVariants.{R1, L2, L5}
use Rattle.fast_value.specs.meaning.Limits.{Bounds, bounds}
use Rattle.fast_value.specs.meaning.Kinds.{ScalarData, I, Dec, integer_of, IsOfKind}
use Rattle.fast_value.specs.meaning.Messages.{ItemData, one, group as group_item, sequence as sequence_item, Slots, no_slots, Elements}
use Rattle.fast_value.specs.meaning.Messages.{no_elements, element, count, total, rows_total}
use Rattle.fast_tree.specs.meaning.Tree.{Label, FieldData, uses_bit, Instruction, field, parts, group, sequence, Body, end, step, bits_of, has_map}
use Rattle.fast_dict.specs.meaning.Dictionary.{previous_at}
use Rattle.fast_dict.specs.meaning.Operators.{ranged}
use Rattle.fast_stream.specs.meaning.Events.{EventData, FieldValue, GroupStart, GroupEnd, SequenceStart, ElementStart, ElementEnd}
use Rattle.fast_stream.specs.meaning.Events.{SequenceEnd, element_events, item_events, body_events}
use Rattle.fast_stream.specs.meaning.Grammar.{give, hand, ◌>>=◌}
use Rattle.fast_stream.specs.meaning.Fields.{field_term}
use Rattle.fast_stream.specs.meaning.Phrases.{whole}
use Rattle.fast_stream.specs.meaning.Grammar.{phrase_of}
use Rattle.fast_stream.specs.meaning.Messages.{Context, State, found, Found, field_in, Read, ReadAll, with_slot, handed, signed_of}
use Rattle.fast_stream.specs.meaning.Messages.{decimal_with, mantissa_after, own_bits, Segment, segment, elements, group_from, group_if}
use Rattle.fast_stream.specs.meaning.Messages.{group_in, within_limits, length_in, count_more, sequence_from, instruction, body_term}
use Rattle.fast_stream.proofs.terms.Quiet.{IsQuiet, quiet-bind, quiet-field, quiet-map_bits}
use Rattle.fast_spelling.specs.meaning.Again.{IsSound, IsGranted, Grants, GrantsBody}
use Rattle.fast_spelling.specs.meaning.Suiting.{AreRight, Suits, SuitsBody, AreWithinLimits, RowsWithinLimits}
use Rattle.fast_spelling.proofs.encodings.Encoded.{option_total, IsWithinOption}
use Rattle.fast_spelling.proofs.again.BodiesAgain.{uint32_is}
use Rattle.fast_spelling.proofs.again.FieldsAgain.{FoundBack, found_back}
use Rattle.fast_spelling.proofs.again.Resending.{ranged_is}
use Rattle.fast_spelling.proofs.again.Sound.{same_ok, right_of, short_of}
use Rattle.fast_laws.proofs.terms.Defaults.{default_item, default_slots, default_rows, no_total, no_totals, rows_count, no_rows_total}
use Rattle.fast_laws.proofs.terms.Defaults.{default_suits, defaults_suit, default_fits, defaults_fit, rows_suit, rows_fit}
use Rattle.fast_laws.proofs.terms.Turns.{Whole, Left, LeftTurn, whole_turn, left_turn, whole_give, left_give, whole_result, left_result}
use Rattle.fast_laws.proofs.terms.Turns.{whole_hand, left_hand, whole_quiet, left_quiet}

-- the events of an item, if it is there
abbrev pub of_item : Instruction → Option ItemData → List EventData
of_item i None = []
of_item i (Some x) = item_events i x

-- how the events of a group and of a sequence come about
group_event : (at : Label) (optional : Bool) (body : Body) (vs : Slots)
    → of_item (group at optional body) (Some (group_item vs)) ≡ GroupStart at.node ∷ (body_events body vs ++ GroupEnd ∷ [])
unfolding item_events body_events
group_event at optional body vs = refl

sequence_event : (at : Label) (f : FieldData) (body : Body) (rows : Elements)
    → of_item (sequence at f body) (Some (sequence_item rows)) ≡ SequenceStart at.node
    (count rows) ∷ (element_events (body_events body) rows ++ SequenceEnd ∷ [])
unfolding item_events body_events
sequence_event at f body rows = refl

field_event : (at : Label) (f : FieldData) (v : ScalarData) → of_item (field at f) (Some (one v)) ≡ FieldValue at.node v ∷ []
unfolding item_events body_events
field_event at f v = refl

parts_event : (at : Label) (e m : FieldData) (v : ScalarData) → of_item (parts at e m) (Some (one v)) ≡ FieldValue at.node v ∷ []
unfolding item_events body_events
parts_event at e m v = refl

end_event : (vs : Slots) → body_events end vs ≡ []
unfolding item_events body_events
end_event vs = refl

step_event : (i : Instruction) (is : Body) (x : Option ItemData) (vs : Slots) → body_events (step i is) (with_slot x vs) ≡ of_item i x ++ body_events is vs
unfolding item_events body_events
step_event i is None vs = refl
step_event i is (Some x) vs = refl

-- one list behind another, and a third that completes the second
completes : (es fs gs rest all : List EventData) → es ≡ fs ++ gs → gs ++ rest ≡ all → es ++ rest ≡ fs ++ all
completes es fs gs rest all e h = ap (λ (z : List EventData). z ++ rest) e ∙ append_assoc fs gs rest ∙ ap (λ (z : List EventData). fs ++ z) h

int64_within : (l : Limits) (kind : Kind) (v : ScalarData) → kind ≡ Int64 → IsOfKind l kind v → IsWithin (signed_range 63) (signed_of v)
int64_within l kind v e h = by v (subst (λ (k : Kind). IsOfKind l k v) e h)
  where
    by : (v : ScalarData) → IsOfKind l Int64 v → IsWithin (signed_range 63) (signed_of v)
    by (I x) h = h
    by v h = absurd h

pub quiet_found : (l : Bounds) (f : FieldData) (st : State) → IsQuiet (field_in l f st)
quiet_found l f st =
    let bit = if uses_bit f then first_bit st.bits else true in
    quiet-bind (field_term l f (previous_at f.entry st.context.dictionary) bit) (λ o. give (found f st o))
    (quiet-field l f (previous_at f.entry st.context.dictionary) bit) (λ o. tt)

module _ (l : Limits) (s : Bool) where
  abbrev B : Bounds
  B = bounds l

  -- What was read of an instruction, from a context on.
  pub record IsRead (i : Instruction) (c : Context) (es : List EventData) (r : Read) : Type 0 where
    pub suited : Suits i r.0
    pub fits : IsWithinOption l r.0
    pub sound : IsSound l r.1.context.dictionary
    pub counted : r.1.context.counted ≡ c.counted + option_total r.0
    pub bounded : c.counted ≤ l.max_total → r.1.context.counted ≤ l.max_total
    pub handed_over : es ≡ of_item i r.0

  -- What it may become if it is left: an item whose first events these are.
  pub record IsBegun (i : Instruction) (c : Context) (es : List EventData) : Type 0 where
    pub item : Option ItemData
    pub rest : List EventData
    pub suited : Suits i item
    pub fits : IsWithinOption l item
    pub bounded : c.counted + option_total item ≤ l.max_total
    pub handed_over : es ++ rest ≡ of_item i item

  -- the same of the slots of a body
  pub record AreRead (body : Body) (c : Context) (es : List EventData) (vs : Slots) (d : Context) : Type 0 where
    pub suited : SuitsBody body vs
    pub fits : AreWithinLimits l vs
    pub sound : IsSound l d.dictionary
    pub counted : d.counted ≡ c.counted + total vs
    pub bounded : c.counted ≤ l.max_total → d.counted ≤ l.max_total
    pub handed_over : es ≡ body_events body vs

  pub record AreBegun (body : Body) (c : Context) (es : List EventData) : Type 0 where
    pub slots : Slots
    pub rest : List EventData
    pub suited : SuitsBody body slots
    pub fits : AreWithinLimits l slots
    pub bounded : c.counted + total slots ≤ l.max_total
    pub handed_over : es ++ rest ≡ body_events body slots

  -- nothing was handed over yet
  none_yet : (i : Instruction) (c : Context) (es : List EventData) → Grants l i → c.counted ≤ l.max_total → es ≡ [] → IsBegun i c es
  none_yet i c es granted fit e = record {
    item = Some (default_item i);
    rest = of_item i (Some (default_item i));
    suited = default_suits l i granted;
    fits = default_fits l i granted;
    bounded = omega (arith, fit, no_total i);
    handed_over = ap (λ (z : List EventData). z ++ of_item i (Some (default_item i))) e;
  }

  none_yet_in : (body : Body) (c : Context) (es : List EventData) → GrantsBody l body → c.counted ≤ l.max_total → es ≡ [] → AreBegun body c es
  none_yet_in body c es granted fit e = record {
    slots = default_slots body;
    rest = body_events body (default_slots body);
    suited = defaults_suit l body granted;
    fits = defaults_fit l body granted;
    bounded = omega (arith, fit, no_totals body);
    handed_over = ap (λ (z : List EventData). z ++ body_events body (default_slots body)) e;
  }

  -- a value that is handed over
  whole_none : (n : ℕ) (st : State) (es : List EventData) (r : Read) → Whole s (handed n None st) es r → (es ≡ []) × (r ≡ (None, st))
  whole_none n st es r h = whole_give s (None, st) es r h

  whole_value : (n : ℕ) (v : ScalarData) (st : State) (es : List EventData) (r : Read) → Whole s (handed n (Some v) st) es r
      → (es ≡ FieldValue n v ∷ []) × (r ≡ (Some (one v), st))
  whole_value n v st es r h =
      let (gs, e, j) = whole_hand s (FieldValue n v) (give (Some (one v), st)) es r h in
      let k = whole_give s (Some (one v), st) gs r j in
      (e ∙ ap (λ (z : List EventData). FieldValue n v ∷ z) k.0, k.1)

  left_value : (n : ℕ) (x : Option ScalarData) (st : State) (es : List EventData) → Left s (handed n x st) es → ⊥
  left_value n None st es h = left_give s (None, st) es h
  left_value n (Some v) st es h = let (gs, e, j) = left_hand s (FieldValue n v) (give (Some (one v), st)) es h in left_give s (Some (one v), st) gs j

  -- fields
  read_field : (at : Label) (f : FieldData) (st : State) (es : List EventData) (r : Read) → IsSound l st.context.dictionary → IsGranted l f
      → Whole s (field_in B f st >>= (λ r. handed at.node r.0 r.1)) es r → IsRead (field at f) st.context es r
  read_field at f st es r sound granted h = on (whole_quiet s (field_in B f st) (λ r. handed at.node r.0 r.1) es r (quiet_found B f st) h)
    where
      on : (w : List ℕ) × (a : Found) × ((fs : List EventData) × phrase_of s (field_in B f st) w fs (whole a))
          × Whole s (handed at.node a.0 a.1) es r → IsRead (field at f) st.context es r
      on (w, (None, st'), i, j) =
          let b = found_back l s f st w (None, st') sound granted i in
          let k = whole_none at.node st' es r j in
          subst (IsRead (field at f) st.context es) (sym k.1) (record {
            suited = b.right;
            fits = tt;
            sound = b.sound;
            counted = b.counted ∙ omega arith;
            bounded = λ n. omega (arith, n, b.counted);
            handed_over = k.0;
          })
      on (w, (Some v, st'), i, j) =
          let b = found_back l s f st w (Some v, st') sound granted i in
          let k = whole_value at.node v st' es r j in
          subst (IsRead (field at f) st.context es) (sym k.1) (record {
            suited = right_of l f.kind v b.right;
            fits = short_of l f.kind v b.right;
            sound = b.sound;
            counted = b.counted ∙ omega arith;
            bounded = λ n. omega (arith, n, b.counted);
            handed_over = k.0 ∙ sym (field_event at f v);
          })

  begun_field : (at : Label) (f : FieldData) (st : State) (es : List EventData) → IsGranted l f → st.context.counted ≤ l.max_total
      → Left s (field_in B f st >>= (λ r. handed at.node r.0 r.1)) es → IsBegun (field at f) st.context es
  begun_field at f st es granted fit h = on (left_quiet s (field_in B f st) (λ r. handed at.node r.0 r.1) es (quiet_found B f st) h)
    where
      on : (es ≡ []) ⊎ ((w : List ℕ) × (a : Found) × ((fs : List EventData) × phrase_of s (field_in B f st) w fs (whole a))
          × Left s (handed at.node a.0 a.1) es) → IsBegun (field at f) st.context es
      on (inl e) = none_yet (field at f) st.context es granted fit e
      on (inr (w, a, i, j)) = absurd (left_value at.node a.0 a.1 es j)

  -- decimals by parts
  read_parts : (at : Label) (e m : FieldData) (st : State) (es : List EventData) (r : Read) → IsSound l st.context.dictionary
      → Grants l (parts at e m) → Whole s (field_in B e st >>= mantissa_after B at.node m) es r → IsRead (parts at e m) st.context es r
  read_parts at e m st es r sound (granted, granted', e_kind, m_kind, there) h =
      on (whole_quiet s (field_in B e st) (mantissa_after B at.node m) es r (quiet_found B e st) h)
    where
      behind : (w : List ℕ) (v : ScalarData) (st' : State) (x : ℤ) → FoundBack l e st w (Some v, st') → IsWithin exponent_range x
          → (u : List ℕ) × (a : Found) × ((fs : List EventData) × phrase_of s (field_in B m st') u fs (whole a))
          × Whole s (handed at.node (decimal_with x a.0) a.1) es r → IsRead (parts at e m) st.context es r
      behind w v st' x b within (u, (None, st''), i, j) =
          let c = found_back l s m st' u (None, st'') b.sound granted' i in
          let clash : true ≡ false = sym c.right ∙ there in
          absurd (cc clash)
      behind w v st' x b within (u, (Some n, st''), i, j) =
          let c = found_back l s m st' u (Some n, st'') b.sound granted' i in
          let k = whole_value at.node (Dec x (signed_of n)) st'' es r j in
          subst (IsRead (parts at e m) st.context es) (sym k.1) (record {
            suited = (within, int64_within l m.kind n m_kind c.right);
            fits = omega arith;
            sound = c.sound;
            counted = c.counted ∙ b.counted ∙ omega arith;
            bounded = λ n. omega (arith, n, c.counted, b.counted);
            handed_over = k.0 ∙ sym (parts_event at e m (Dec x (signed_of n)));
          })

      on : (w : List ℕ) × (a : Found) × ((fs : List EventData) × phrase_of s (field_in B e st) w fs (whole a))
          × Whole s (mantissa_after B at.node m a) es r → IsRead (parts at e m) st.context es r
      on (w, (None, st'), i, j) =
          let b = found_back l s e st w (None, st') sound granted i in
          let k = whole_give s (None, st') es r j in
          subst (IsRead (parts at e m) st.context es) (sym k.1) (record {
            suited = b.right;
            fits = tt;
            sound = b.sound;
            counted = b.counted ∙ omega arith;
            bounded = λ n. omega (arith, n, b.counted);
            handed_over = k.0;
          })
      on (w, (Some v, st'), i, j) =
          let b = found_back l s e st w (Some v, st') sound granted i in
          let (x, r_is, k) = whole_result s (ranged exponent_range R1 (integer_of v))
          (λ x. field_in B m st' >>= (λ q. handed at.node (decimal_with x q.0) q.1)) es r j in
          behind w v st' x b (ranged_is l exponent_range R1 (integer_of v) x r_is).0
          (whole_quiet s (field_in B m st') (λ q. handed at.node (decimal_with x q.0) q.1) es r (quiet_found B m st') k)

  begun_parts : (at : Label) (e m : FieldData) (st : State) (es : List EventData) → Grants l (parts at e m)
      → st.context.counted ≤ l.max_total → Left s (field_in B e st >>= mantissa_after B at.node m) es → IsBegun (parts at e m) st.context es
  begun_parts at e m st es granted fit h = on (left_quiet s (field_in B e st) (mantissa_after B at.node m) es (quiet_found B e st) h)
    where
      behind : (x : ℤ) (st' : State) → (es ≡ []) ⊎ ((u : List ℕ) × (a : Found)
          × ((fs : List EventData) × phrase_of s (field_in B m st') u fs (whole a)) × Left s (handed at.node (decimal_with x a.0) a.1) es)
          → es ≡ []
      behind x st' (inl e) = e
      behind x st' (inr (u, a, i, j)) = absurd (left_value at.node (decimal_with x a.0) a.1 es j)

      ranged_left : (v : ScalarData) (st' : State) → (es ≡ [])
          ⊎ ((x : ℤ) × (ranged exponent_range R1 (integer_of v) ≡ Ok x)
          × Left s (field_in B m st' >>= (λ q. handed at.node (decimal_with x q.0) q.1)) es) → es ≡ []
      ranged_left v st' (inl e) = e
      ranged_left v st' (inr (x, r_is, k)) = behind x st' (left_quiet s (field_in B m st')
          (λ q. handed at.node (decimal_with x q.0) q.1) es (quiet_found B m st') k)

      on : (es ≡ []) ⊎ ((w : List ℕ) × (a : Found) × ((fs : List EventData) × phrase_of s (field_in B e st) w fs (whole a))
          × Left s (mantissa_after B at.node m a) es) → IsBegun (parts at e m) st.context es
      on (inl q) = none_yet (parts at e m) st.context es granted fit q
      on (inr (w, (None, st'), i, j)) = absurd (left_give s (None, st') es j)
      on (inr (w, (Some v, st'), i, j)) =
          none_yet (parts at e m) st.context es granted fit (ranged_left v st'
          (left_result s (ranged exponent_range R1 (integer_of v))
          (λ x. field_in B m st' >>= (λ q. handed at.node (decimal_with x q.0) q.1)) es j))

  -- What is known of the segments of a body.
  module _ (body : Body) (seg : Segment) (granted : GrantsBody l body)
      (read : (c : Context) (es : List EventData) (r : Slots × Context) → IsSound l c.dictionary → Whole s (seg c) es r → AreRead body c es r.0 r.1)
      (begun : (c : Context) (es : List EventData) → IsSound l c.dictionary → c.counted ≤ l.max_total → Left s (seg c) es → AreBegun body c es) where
    -- groups
    read_group_from : (at : Label) (optional : Bool) (st : State) (es : List EventData) (r : Read) → IsSound l st.context.dictionary
        → Whole s (group_from at.node seg st) es r → IsRead (group at optional body) st.context es r
    read_group_from at optional st es r sound h =
        let (fs, e, i) = whole_hand s (GroupStart at.node) (seg st.context >>=
        (λ r. hand GroupEnd (give (Some (group_item r.0), record st { context = r.1 })))) es r h in
        let (gs, hs, (vs, c), j, k, d) = whole_turn s (seg st.context)
        (λ r. hand GroupEnd (give (Some (group_item r.0), record st { context = r.1 }))) fs r i in
        let (ks, q, n) = whole_hand s GroupEnd (give (Some (group_item vs), record st { context = c })) hs r k in
        let z = whole_give s (Some (group_item vs), record st { context = c }) ks r n in
        let b = read st.context gs (vs, c) sound j in
        subst (IsRead (group at optional body) st.context es) (sym z.1) (record {
          suited = b.suited;
          fits = b.fits;
          sound = b.sound;
          counted = b.counted;
          bounded = b.bounded;
          handed_over = e ∙ ap (λ (x : List EventData). GroupStart at.node ∷ x)
              (d ∙ ap (λ (x : List EventData). gs ++ x) (q ∙ ap (λ (x : List EventData). GroupEnd ∷ x) z.0)
              ∙ ap (λ (x : List EventData). x ++ GroupEnd ∷ []) b.handed_over)
              ∙ sym (group_event at optional body vs);
        })

    begun_group_from : (at : Label) (optional : Bool) (st : State) (es : List EventData) → IsSound l st.context.dictionary
        → st.context.counted ≤ l.max_total → Left s (group_from at.node seg st) es → IsBegun (group at optional body) st.context es
    begun_group_from at optional st es sound fit h =
        let (fs, e, i) = left_hand s (GroupStart at.node) (seg st.context >>=
        (λ r. hand GroupEnd (give (Some (group_item r.0), record st { context = r.1 })))) es h in
        on fs e (left_turn s (seg st.context) (λ r. hand GroupEnd (give (Some (group_item r.0), record st { context = r.1 }))) fs i)
      where
        on : (fs : List EventData) → es ≡ GroupStart at.node ∷ fs
            → LeftTurn {B = Read} s (phrase_of s (seg st.context))
            (λ r. hand GroupEnd (give (Some (group_item r.0), record st { context = r.1 }))) fs
            → IsBegun (group at optional body) st.context es
        on fs e (inl h) =
            let b = begun st.context fs sound fit h in
            record {
              item = Some (group_item b.slots);
              rest = b.rest ++ GroupEnd ∷ [];
              suited = b.suited;
              fits = b.fits;
              bounded = b.bounded;
              handed_over = ap (λ (x : List EventData). x ++ (b.rest ++ GroupEnd ∷ [])) e
                  ∙ ap (λ (x : List EventData). GroupStart at.node ∷ x)
                  (sym (append_assoc fs b.rest (GroupEnd ∷ [])) ∙ ap (λ (x : List EventData). x ++ GroupEnd ∷ []) b.handed_over)
                  ∙ sym (group_event at optional body b.slots);
            }
        on fs e (inr (gs, hs, (vs, c), j, k, d)) =
            let (ks, q, n) = left_hand s GroupEnd (give (Some (group_item vs), record st { context = c })) hs k in
            absurd (left_give s (Some (group_item vs), record st { context = c }) ks n)

    read_group : (at : Label) (optional : Bool) (st : State) (es : List EventData) (r : Read) → IsSound l st.context.dictionary
        → Whole s (group_in optional at.node seg st) es r → IsRead (group at optional body) st.context es r
    read_group at false st es r sound h = read_group_from at false st es r sound h
    read_group at true st es r sound h = by (first_bit st.bits) h
      where
        by : (b : Bool) → Whole s (group_if b at.node seg (record st { bits = later_bits st.bits })) es r → IsRead (group at true body) st.context es r
        by true k = read_group_from at true (record st { bits = later_bits st.bits }) es r sound k
        by false k =
            let q = whole_give s (None, record st { bits = later_bits st.bits }) es r k in
            subst (IsRead (group at true body) st.context es) (sym q.1) (record {
              suited = refl;
              fits = tt;
              sound = sound;
              counted = omega arith;
              bounded = λ n. n;
              handed_over = q.0;
            })

    begun_group : (at : Label) (optional : Bool) (st : State) (es : List EventData) → IsSound l st.context.dictionary
        → st.context.counted ≤ l.max_total → Left s (group_in optional at.node seg st) es → IsBegun (group at optional body) st.context es
    begun_group at false st es sound fit h = begun_group_from at false st es sound fit h
    begun_group at true st es sound fit h = by (first_bit st.bits) h
      where
        by : (b : Bool) → Left s (group_if b at.node seg (record st { bits = later_bits st.bits })) es → IsBegun (group at true body) st.context es
        by true k = begun_group_from at true (record st { bits = later_bits st.bits }) es sound fit k
        by false k = absurd (left_give s (None, record st { bits = later_bits st.bits }) es k)

    -- elements
    record RowsRead (n : ℕ) (c : Context) (es : List EventData) (rows : Elements) (d : Context) : Type 0 where
      pub number : count rows ≡ n
      pub suited : AreRight (SuitsBody body) rows
      pub fits : RowsWithinLimits l rows
      pub sound : IsSound l d.dictionary
      pub counted : d.counted ≡ c.counted + rows_total rows
      pub bounded : c.counted ≤ l.max_total → d.counted ≤ l.max_total
      pub handed_over : es ≡ element_events (body_events body) rows

    record RowsBegun (n : ℕ) (c : Context) (es : List EventData) : Type 0 where
      pub rows : Elements
      pub rest : List EventData
      pub number : count rows ≡ n
      pub suited : AreRight (SuitsBody body) rows
      pub fits : RowsWithinLimits l rows
      pub bounded : c.counted + rows_total rows ≤ l.max_total
      pub handed_over : es ++ rest ≡ element_events (body_events body) rows

    read_rows : (n : ℕ) (c : Context) (es : List EventData) (r : Elements × Context) → IsSound l c.dictionary
        → Whole s (elements seg n c) es r → RowsRead n c es r.0 r.1
    read_rows zero c es r sound h =
        let k = whole_give s (no_elements, c) es r h in
        subst (λ (z : Elements × Context). RowsRead zero c es z.0 z.1) (sym k.1) (record {
          number = refl;
          suited = tt;
          fits = tt;
          sound = sound;
          counted = omega arith;
          bounded = λ n. n;
          handed_over = k.0;
        })
    read_rows (suc n) c es r sound h =
        let (fs, e, i) = whole_hand s ElementStart (seg c >>=
        (λ r. hand ElementEnd (elements seg n r.1 >>= (λ rest. give (element r.0 rest.0, rest.1))))) es r h in
        let (gs, hs, (vs, c1), j, k, d) = whole_turn s (seg c)
        (λ r. hand ElementEnd (elements seg n r.1 >>= (λ rest. give (element r.0 rest.0, rest.1)))) fs r i in
        let (ks, q, m) = whole_hand s ElementEnd (elements seg n c1 >>= (λ rest. give (element vs rest.0, rest.1))) hs r k in
        let (ms, ns, (rows, c2), x, y, p) = whole_turn s (elements seg n c1) (λ rest. give (element vs rest.0, rest.1)) ks r m in
        let z = whole_give s (element vs rows, c2) ns r y in
        let a = read c gs (vs, c1) sound j in
        let b = read_rows n c1 ms (rows, c2) a.sound x in
        let tail : ks ≡ element_events (body_events body) rows = p ∙ ap (λ (q : List EventData). ms ++ q) z.0 ∙ append-nil ms ∙ b.handed_over in
        subst (λ (z : Elements × Context). RowsRead (suc n) c es z.0 z.1) (sym z.1) (record {
          number = ap suc b.number;
          suited = (a.suited, b.suited);
          fits = (a.fits, b.fits);
          sound = b.sound;
          counted = b.counted ∙ omega (arith, a.counted);
          bounded = λ n. b.bounded (a.bounded n);
          handed_over = e ∙ ap (λ (q : List EventData). ElementStart ∷ q)
              (d ∙ ap (λ (x : List EventData). x ++ hs) a.handed_over
              ∙ ap (λ (x : List EventData). body_events body vs ++ x) (q ∙ ap (λ (x : List EventData). ElementEnd ∷ x) tail));
        })

    -- The first of n + 1 elements is left, or another behind it.
    first_begun : (n : ℕ) (c : Context) (es fs : List EventData) → c.counted ≤ l.max_total → es ≡ ElementStart ∷ fs → AreBegun body c fs
        → RowsBegun (suc n) c es
    first_begun n c es fs fit e b =
        let others = ElementEnd ∷ element_events (body_events body) (default_rows body n) in
        record {
          rows = element b.slots (default_rows body n);
          rest = b.rest ++ others;
          number = ap suc (rows_count body n);
          suited = (b.suited, rows_suit l body n granted);
          fits = (b.fits, rows_fit l body n granted);
          bounded = omega (arith, b.bounded, no_rows_total body n);
          handed_over = ap (λ (z : List EventData). z ++ (b.rest ++ others)) e
              ∙ ap (λ (z : List EventData). ElementStart ∷ z) (sym (append_assoc fs b.rest others)
              ∙ ap (λ (z : List EventData). z ++ others) b.handed_over);
        }

    later_begun : (n : ℕ) (c c1 : Context) (es fs gs hs ks : List EventData) (vs : Slots) → es ≡ ElementStart ∷ fs → fs ≡ gs ++ hs
        → hs ≡ ElementEnd ∷ ks → AreRead body c gs vs c1 → RowsBegun n c1 ks → RowsBegun (suc n) c es
    later_begun n c c1 es fs gs hs ks vs e d q a b = record {
      rows = element vs b.rows;
      rest = b.rest;
      number = ap suc b.number;
      suited = (a.suited, b.suited);
      fits = (a.fits, b.fits);
      bounded = omega (arith, b.bounded, a.counted);
      handed_over = ap (λ (z : List EventData). z ++ b.rest) e ∙ ap (λ (z : List EventData). ElementStart ∷ z)
          (completes fs gs hs b.rest (ElementEnd ∷ element_events (body_events body) b.rows) d
          (ap (λ (z : List EventData). z ++ b.rest) q ∙ ap (λ (z : List EventData). ElementEnd ∷ z) b.handed_over)
          ∙ ap (λ (z : List EventData). z ++ ElementEnd ∷ element_events (body_events body) b.rows) a.handed_over);
    }

    begun_rows : (n : ℕ) (c : Context) (es : List EventData) → IsSound l c.dictionary → c.counted ≤ l.max_total
        → Left s (elements seg n c) es → RowsBegun n c es
    begun_rows zero c es sound fit h = absurd (left_give s (no_elements, c) es h)
    begun_rows (suc n) c es sound fit h =
        let (fs, e, i) = left_hand s ElementStart (seg c >>=
        (λ r. hand ElementEnd (elements seg n r.1 >>= (λ rest. give (element r.0 rest.0, rest.1))))) es h in
        on (begun_rows n) fs e (left_turn s (seg c) (λ r. hand ElementEnd (elements seg n r.1 >>= (λ rest. give (element r.0 rest.0, rest.1)))) fs i)
      where
        later : ((c : Context) (es : List EventData) → IsSound l c.dictionary → c.counted ≤ l.max_total → Left s (elements seg n c) es → RowsBegun n c es)
            → (fs gs hs ks : List EventData) (vs : Slots) (c1 : Context) → es ≡ ElementStart ∷ fs → fs ≡ gs ++ hs → hs ≡ ElementEnd ∷ ks
            → AreRead body c gs vs c1
            → LeftTurn {B = Elements × Context} s (phrase_of s (elements seg n c1)) (λ rest. give (element vs rest.0, rest.1)) ks → RowsBegun (suc n) c es
        later next fs gs hs ks vs c1 e d q a (inr (ms, ns, (rows, c2), x, y, p)) = absurd (left_give s (element vs rows, c2) ns y)
        later next fs gs hs ks vs c1 e d q a (inl x) = later_begun n c c1 es fs gs hs ks vs e d q a (next c1 ks a.sound (a.bounded fit) x)

        on : ((c : Context) (es : List EventData) → IsSound l c.dictionary → c.counted ≤ l.max_total → Left s (elements seg n c) es → RowsBegun n c es)
            → (fs : List EventData) → es ≡ ElementStart ∷ fs → LeftTurn {B = Elements × Context} s (phrase_of s (seg c))
            (λ r. hand ElementEnd (elements seg n r.1 >>= (λ rest. give (element r.0 rest.0, rest.1)))) fs → RowsBegun (suc n) c es
        on next fs e (inl h) = first_begun n c es fs fit e (begun c fs sound fit h)
        on next fs e (inr (gs, hs, (vs, c1), j, k, d)) =
            let (ks, q, m) = left_hand s ElementEnd (elements seg n c1 >>= (λ rest. give (element vs rest.0, rest.1))) hs k in
            later next fs gs hs ks vs c1 e d q (read c gs (vs, c1) sound j) (left_turn s (elements seg n c1) (λ rest. give (element vs rest.0, rest.1)) ks m)

    -- sequences
    within_is : (before n k : ℕ) → within_limits B before n ≡ Ok k → (n ≡ k) × (n ≤ l.max_elements) × (before + n ≤ l.max_total)
    within_is before n k e = on (nat_le n l.max_elements) refl (nat_le (before + n) l.max_total) refl e
      where
        on : (a : Bool) → nat_le n l.max_elements ≡ a → (b : Bool) → nat_le (before + n) l.max_total ≡ b
            → (if a then (if b then Ok n else Err L5) else Err L2) ≡ Ok k → (n ≡ k) × (n ≤ l.max_elements) × (before + n ≤ l.max_total)
        on true g true h i = (same_ok n k i, leb-true n l.max_elements g, leb-true (before + n) l.max_total h)
        on true g false h i = absurd (cc i)
        on false g b h i = absurd (cc i)

    -- the rows as they are counted
    counted_sequence : (at : Label) (f : FieldData) (st st' : State) (w : List ℕ) (v : ScalarData) (k : ℕ) (rows : Elements)
        (es gs hs : List EventData) (d : Context) → f.kind ≡ UInt32 → FoundBack l f st w (Some v, st')
        → (nat_abs (integer_of v) ≡ k) × (nat_abs (integer_of v) ≤ l.max_elements)
        × (st'.context.counted + nat_abs (integer_of v) ≤ l.max_total) → RowsRead k (count_more k st'.context) gs rows d
        → es ≡ SequenceStart at.node k ∷ (gs ++ SequenceEnd ∷ [])
        → IsRead (sequence at f body) st.context es (Some (sequence_item rows), record st' { context = d })
    counted_sequence at f st st' w v k rows es gs hs d kind a (k_is, few, fit) b e =
        let small = (uint32_is l v (subst (λ (q : Kind). IsOfKind l q v) kind a.right)).1 in
        record {
          suited = (b.suited, omega (arith, small, k_is, b.number));
          fits = (omega (arith, few, k_is, b.number), b.fits);
          sound = b.sound;
          counted = b.counted ∙ omega (arith, a.counted, b.number);
          bounded = λ n. b.bounded (omega (arith, fit, k_is));
          handed_over = e ∙ ap (λ (z : List EventData). SequenceStart at.node k ∷ (z ++ SequenceEnd ∷ [])) b.handed_over
              ∙ ap (λ (n : ℕ). SequenceStart at.node n ∷ (element_events (body_events body) rows ++ SequenceEnd ∷ [])) (sym b.number)
              ∙ sym (sequence_event at f body rows);
        }

    read_sequence : (at : Label) (f : FieldData) (st : State) (es : List EventData) (r : Read) → IsSound l st.context.dictionary
        → IsGranted l f → f.kind ≡ UInt32 → Whole s (field_in B f st >>= sequence_from B at.node seg) es r
        → IsRead (sequence at f body) st.context es r
    read_sequence at f st es r sound granted_f kind h = on (whole_quiet s (field_in B f st) (sequence_from B at.node seg) es r (quiet_found B f st) h)
      where
        on : (w : List ℕ) × (a : Found) × ((fs : List EventData) × phrase_of s (field_in B f st) w fs (whole a))
            × Whole s (sequence_from B at.node seg a) es r → IsRead (sequence at f body) st.context es r
        on (w, (None, st'), i, j) =
            let b = found_back l s f st w (None, st') sound granted_f i in
            let k = whole_give s (None, st') es r j in
            subst (IsRead (sequence at f body) st.context es) (sym k.1) (record {
              suited = b.right;
              fits = tt;
              sound = b.sound;
              counted = b.counted ∙ omega arith;
              bounded = λ n. omega (arith, n, b.counted);
              handed_over = k.0;
            })
        on (w, (Some v, st'), i, j) =
            let a = found_back l s f st w (Some v, st') sound granted_f i in
            let (k, k_is, j1) = whole_result s (length_in B st'.context v)
            (λ a. hand (SequenceStart at.node a) (elements seg a (count_more a st'.context) >>=
            (λ r. hand SequenceEnd (give (Some (sequence_item r.0), record st' { context = r.1 }))))) es r j in
            let (fs, e, j2) = whole_hand s (SequenceStart at.node k)
            (elements seg k (count_more k st'.context) >>= (λ r. hand SequenceEnd
            (give (Some (sequence_item r.0), record st' { context = r.1 })))) es r j1 in
            let (gs, hs, (rows, d), j3, j4, parted) = whole_turn s (elements seg k (count_more k st'.context))
            (λ r. hand SequenceEnd (give (Some (sequence_item r.0), record st' { context = r.1 }))) fs r j2 in
            let (ks, q, j5) = whole_hand s SequenceEnd (give (Some (sequence_item rows), record st' { context = d })) hs r j4 in
            let z = whole_give s (Some (sequence_item rows), record st' { context = d }) ks r j5 in
            let b = read_rows k (count_more k st'.context) gs (rows, d) a.sound j3 in
            let split : es ≡ SequenceStart at.node k ∷ (gs ++ SequenceEnd ∷ []) = e
            ∙ ap (λ (x : List EventData). SequenceStart at.node k ∷ x)
            (parted ∙ ap (λ (x : List EventData). gs ++ x) (q ∙ ap (λ (x : List EventData). SequenceEnd ∷ x) z.0)) in
            subst (IsRead (sequence at f body) st.context es) (sym z.1)
            (counted_sequence at f st st' w v k rows es gs hs d kind a
            (within_is st'.context.counted (nat_abs (integer_of v)) k k_is) b split)

    begun_sequence : (at : Label) (f : FieldData) (st : State) (es : List EventData) → IsSound l st.context.dictionary
        → Grants l (sequence at f body) → st.context.counted ≤ l.max_total → Left s (field_in B f st >>= sequence_from B at.node seg) es
        → IsBegun (sequence at f body) st.context es
    begun_sequence at f st es sound grants fit h = on (left_quiet s (field_in B f st) (sequence_from B at.node seg) es (quiet_found B f st) h)
      where
        begun_behind : (w : List ℕ) (v : ScalarData) (st' : State) (k : ℕ) (fs : List EventData) → FoundBack l f st w (Some v, st')
            → (nat_abs (integer_of v) ≡ k) × (nat_abs (integer_of v) ≤ l.max_elements)
            × (st'.context.counted + nat_abs (integer_of v) ≤ l.max_total) → es ≡ SequenceStart at.node k ∷ fs
            → RowsBegun k (count_more k st'.context) fs → IsBegun (sequence at f body) st.context es
        begun_behind w v st' k fs a (k_is, few, enough) e b =
            let small = (uint32_is l v (subst (λ (q : Kind). IsOfKind l q v) grants.1 a.right)).1 in
            record {
              item = Some (sequence_item b.rows);
              rest = b.rest ++ SequenceEnd ∷ [];
              suited = (b.suited, omega (arith, small, k_is, b.number));
              fits = (omega (arith, few, k_is, b.number), b.fits);
              bounded = omega (arith, b.bounded, a.counted, b.number);
              handed_over = ap (λ (z : List EventData). z ++ (b.rest ++ SequenceEnd ∷ [])) e
                  ∙ ap (λ (z : List EventData). SequenceStart at.node k ∷ z)
                  (sym (append_assoc fs b.rest (SequenceEnd ∷ [])) ∙ ap (λ (z : List EventData). z ++ SequenceEnd ∷ []) b.handed_over)
                  ∙ ap (λ (n : ℕ). SequenceStart at.node n ∷ (element_events (body_events body) b.rows ++ SequenceEnd ∷ [])) (sym b.number)
                  ∙ sym (sequence_event at f body b.rows);
            }

        turned : (w : List ℕ) (v : ScalarData) (st' : State) (k : ℕ) (fs : List EventData) → FoundBack l f st w (Some v, st')
            → (nat_abs (integer_of v) ≡ k) × (nat_abs (integer_of v) ≤ l.max_elements)
            × (st'.context.counted + nat_abs (integer_of v) ≤ l.max_total) → es ≡ SequenceStart at.node k ∷ fs
            → LeftTurn {B = Read} s (phrase_of s (elements seg k (count_more k st'.context)))
            (λ r. hand SequenceEnd (give (Some (sequence_item r.0), record st' { context = r.1 }))) fs
            → IsBegun (sequence at f body) st.context es
        turned w v st' k fs a fits e (inl h) = begun_behind w v st' k fs a fits e
            (begun_rows k (count_more k st'.context) fs a.sound (omega (arith, fits.2, fits.0)) h)
        turned w v st' k fs a fits e (inr (gs, hs, (rows, d), i, j, p)) =
            let (ks, q, n) = left_hand s SequenceEnd (give (Some (sequence_item rows), record st' { context = d })) hs j in
            absurd (left_give s (Some (sequence_item rows), record st' { context = d }) ks n)

        behind : (w : List ℕ) (v : ScalarData) (st' : State) → FoundBack l f st w (Some v, st')
            → (es ≡ []) ⊎ ((k : ℕ) × (length_in B st'.context v ≡ Ok k)
            × Left {A = Read} s (hand (SequenceStart at.node k)
            (elements seg k (count_more k st'.context) >>= (λ r. hand SequenceEnd
            (give (Some (sequence_item r.0), record st' { context = r.1 }))))) es)
            → IsBegun (sequence at f body) st.context es
        behind w v st' a (inl e) = none_yet (sequence at f body) st.context es grants fit e
        behind w v st' a (inr (k, k_is, j)) =
            let (fs, e, i) = left_hand s (SequenceStart at.node k)
            (elements seg k (count_more k st'.context) >>= (λ r. hand SequenceEnd
            (give (Some (sequence_item r.0), record st' { context = r.1 })))) es j in
            turned w v st' k fs a (within_is st'.context.counted (nat_abs (integer_of v)) k k_is) e
            (left_turn s (elements seg k (count_more k st'.context))
            (λ r. hand SequenceEnd (give (Some (sequence_item r.0), record st' { context = r.1 }))) fs i)

        on : (es ≡ []) ⊎ ((w : List ℕ) × (a : Found) × ((fs : List EventData) × phrase_of s (field_in B f st) w fs (whole a))
            × Left s (sequence_from B at.node seg a) es) → IsBegun (sequence at f body) st.context es
        on (inl e) = none_yet (sequence at f body) st.context es grants fit e
        on (inr (w, (None, st'), i, j)) = absurd (left_give s (None, st') es j)
        on (inr (w, (Some v, st'), i, j)) =
            behind w v st' (found_back l s f st w (Some v, st') sound grants.0 i)
            (left_result s (length_in B st'.context v) (λ a. hand (SequenceStart at.node a)
            (elements seg a (count_more a st'.context) >>= (λ r. hand SequenceEnd
            (give (Some (sequence_item r.0), record st' { context = r.1 }))))) es j)

  -- segments, by their maps
  read_segment : (body : Body) → ((st : State) (es : List EventData) (r : ReadAll) → IsSound l st.context.dictionary
      → Whole s (body_term B body st) es r → AreRead body st.context es r.0 r.1.context)
      → (c : Context) (es : List EventData) (r : Slots × Context) → IsSound l c.dictionary
      → Whole s (segment body (body_term B body) c) es r → AreRead body c es r.0 r.1
  read_segment body f c es r sound h =
      let (w, b, i, j) = whole_quiet s (own_bits body) (λ b. body_term B body (record {
        context = c;
        bits = b;
      }) >>= (λ r. give (r.0, r.1.context))) es r (quiet-map_bits (bits_of body) (has_map body)) h in
      let (fs, gs, (vs, st'), k, m, e) = whole_turn s (body_term B body (record { context = c; bits = b })) (λ r. give (r.0, r.1.context)) es r j in
      let z = whole_give s (vs, st'.context) gs r m in
      let all : es ≡ fs = e ∙ ap (λ (x : List EventData). fs ++ x) z.0 ∙ append-nil fs in
      subst (λ (q : Slots × Context). AreRead body c es q.0 q.1) (sym z.1)
      (subst (λ (x : List EventData). AreRead body c x vs st'.context) (sym all) (f (record {
        context = c;
        bits = b;
      }) fs (vs, st') sound k))

  begun_segment : (body : Body) → GrantsBody l body → ((st : State) (es : List EventData) → IsSound l st.context.dictionary
      → st.context.counted ≤ l.max_total → Left s (body_term B body st) es → AreBegun body st.context es)
      → (c : Context) (es : List EventData) → IsSound l c.dictionary → c.counted ≤ l.max_total
      → Left s (segment body (body_term B body) c) es → AreBegun body c es
  begun_segment body granted f c es sound fit h = on (left_quiet s (own_bits body) (λ b. body_term B body (record {
    context = c;
    bits = b;
  }) >>= (λ r. give (r.0, r.1.context))) es (quiet-map_bits (bits_of body) (has_map body)) h)
    where
      turned : (b : List Bool) → LeftTurn {B = Slots × Context} s (phrase_of s (body_term B body (record {
        context = c;
        bits = b;
      }))) (λ r. give (r.0, r.1.context)) es → AreBegun body c es
      turned b (inl k) = f (record { context = c; bits = b }) es sound fit k
      turned b (inr (fs, gs, (vs, st'), k, m, e)) = absurd (left_give s (vs, st'.context) gs m)

      on : (es ≡ []) ⊎ ((w : List ℕ) × (b : List Bool) × ((fs : List EventData) × phrase_of s (own_bits body) w fs (whole b))
          × Left {A = Slots × Context} s (body_term B body (record {
            context = c;
            bits = b;
          }) >>= (λ r. give (r.0, r.1.context))) es) → AreBegun body c es
      on (inl e) = none_yet_in body c es granted fit e
      on (inr (w, b, i, j)) = turned b (left_turn s (body_term B body (record { context = c; bits = b })) (λ r. give (r.0, r.1.context)) es j)

  -- slots
  suited_slot : (i : Instruction) (is : Body) (x : Option ItemData) (vs : Slots) → Suits i x → SuitsBody is vs → SuitsBody (step i is) (with_slot x vs)
  suited_slot i is None vs h k = (h, k)
  suited_slot i is (Some x) vs h k = (h, k)

  within_slot : (x : Option ItemData) (vs : Slots) → IsWithinOption l x → AreWithinLimits l vs → AreWithinLimits l (with_slot x vs)
  within_slot None vs h k = k
  within_slot (Some x) vs h k = (h, k)

  total_slot : (x : Option ItemData) (vs : Slots) → total (with_slot x vs) ≡ option_total x + total vs
  total_slot None vs = omega arith
  total_slot (Some x) vs = refl

  -- A body is left in its first instruction, or behind it.
  body_turn : (i : Instruction) (is : Body) (st : State) (es : List EventData) → GrantsBody l (step i is) → st.context.counted ≤ l.max_total
      → (Left s (instruction B i st) es → IsBegun i st.context es)
      → ((fs : List EventData) (x : Option ItemData) (st1 : State) → Whole s (instruction B i st) fs (x, st1) → IsRead i st.context fs (x, st1))
      → ((st1 : State) (gs : List EventData) → IsSound l st1.context.dictionary → st1.context.counted ≤ l.max_total
      → Left s (body_term B is st1) gs → AreBegun is st1.context gs)
      → LeftTurn {B = ReadAll} s (phrase_of s (instruction B i st))
      (λ r. body_term B is r.1 >>= (λ rest. give (with_slot r.0 rest.0, rest.1))) es → AreBegun (step i is) st.context es
  body_turn i is st es granted fit first whole_first second (inl h) =
      let b = first h in
      let others = body_events is (default_slots is) in
      record {
        slots = with_slot b.item (default_slots is);
        rest = b.rest ++ others;
        suited = suited_slot i is b.item (default_slots is) b.suited (defaults_suit l is granted.1);
        fits = within_slot b.item (default_slots is) b.fits (defaults_fit l is granted.1);
        bounded = omega (arith, b.bounded, total_slot b.item (default_slots is), no_totals is);
        handed_over = sym (append_assoc es b.rest others) ∙ ap (λ (z : List EventData). z ++ others) b.handed_over
            ∙ sym (step_event i is b.item (default_slots is));
      }
  body_turn i is st es granted fit first whole_first second (inr (fs, gs, (x, st1), j, k, e)) =
      on (left_turn s (body_term B is st1) (λ rest. give (with_slot x rest.0, rest.1)) gs k)
    where
      a : IsRead i st.context fs (x, st1)
      a = whole_first fs x st1 j

      on : LeftTurn {B = ReadAll} s (phrase_of s (body_term B is st1)) (λ rest. give (with_slot x rest.0, rest.1)) gs → AreBegun (step i is) st.context es
      on (inr (hs, ks, (vs, st2), m, n, d)) = absurd (left_give s (with_slot x vs, st2) ks n)
      on (inl m) =
          let b = second st1 gs a.sound (a.bounded fit) m in
          record {
            slots = with_slot x b.slots;
            rest = b.rest;
            suited = suited_slot i is x b.slots a.suited b.suited;
            fits = within_slot x b.slots a.fits b.fits;
            bounded = omega (arith, b.bounded, a.counted, total_slot x b.slots);
            handed_over = completes es fs gs b.rest (body_events is b.slots) e b.handed_over
                ∙ ap (λ (z : List EventData). z ++ body_events is b.slots) a.handed_over ∙ sym (step_event i is x b.slots);
          }

  mutual
    unfolding instruction body_term

    read_instruction : (i : Instruction) (st : State) (es : List EventData) (r : Read) → IsSound l st.context.dictionary → Grants l i
        → Whole s (instruction B i st) es r → IsRead i st.context es r
    read_instruction (field at f) st es r sound granted h = read_field at f st es r sound granted h
    read_instruction (parts at e m) st es r sound granted h = read_parts at e m st es r sound granted h
    read_instruction (group at optional body) st es r sound granted h =
        read_group body (segment body (body_term B body)) granted
        (read_segment body (λ st es r sound h. read_body body st es r sound granted h))
        (begun_segment body granted (λ st es sound fit h. begun_body body st es sound granted fit h)) at optional st es r sound h
    read_instruction (sequence at f body) st es r sound granted h =
        read_sequence body (segment body (body_term B body)) granted.2
        (read_segment body (λ st es r sound h. read_body body st es r sound granted.2 h))
        (begun_segment body granted.2 (λ st es sound fit h. begun_body body st es sound granted.2 fit h))
        at f st es r sound granted.0 granted.1 h

    begun_instruction : (i : Instruction) (st : State) (es : List EventData) → IsSound l st.context.dictionary → Grants l i
        → st.context.counted ≤ l.max_total → Left s (instruction B i st) es → IsBegun i st.context es
    begun_instruction (field at f) st es sound granted fit h = begun_field at f st es granted fit h
    begun_instruction (parts at e m) st es sound granted fit h = begun_parts at e m st es granted fit h
    begun_instruction (group at optional body) st es sound granted fit h =
        begun_group body (segment body (body_term B body)) granted
        (read_segment body (λ st es r sound h. read_body body st es r sound granted h))
        (begun_segment body granted (λ st es sound fit h. begun_body body st es sound granted fit h)) at optional st es sound fit h
    begun_instruction (sequence at f body) st es sound granted fit h =
        begun_sequence body (segment body (body_term B body)) granted.2
        (read_segment body (λ st es r sound h. read_body body st es r sound granted.2 h))
        (begun_segment body granted.2 (λ st es sound fit h. begun_body body st es sound granted.2 fit h))
        at f st es sound granted fit h

    pub read_body : (body : Body) (st : State) (es : List EventData) (r : ReadAll) → IsSound l st.context.dictionary → GrantsBody l body
        → Whole s (body_term B body st) es r → AreRead body st.context es r.0 r.1.context
    read_body end st es r sound granted h =
        let k = whole_give s (no_slots, st) es r h in
        subst (λ (q : ReadAll). AreRead end st.context es q.0 q.1.context) (sym k.1) (record {
          suited = tt;
          fits = tt;
          sound = sound;
          counted = omega arith;
          bounded = λ n. n;
          handed_over = k.0 ∙ sym (end_event no_slots);
        })
    read_body (step i is) st es r sound granted h =
        let (fs, gs, (x, st1), j, k, e) = whole_turn s (instruction B i st)
        (λ r. body_term B is r.1 >>= (λ rest. give (with_slot r.0 rest.0, rest.1))) es r h in
        let (hs, ks, (vs, st2), m, n, d) = whole_turn s (body_term B is st1) (λ rest. give (with_slot x rest.0, rest.1)) gs r k in
        let z = whole_give s (with_slot x vs, st2) ks r n in
        let a = read_instruction i st fs (x, st1) sound granted.0 j in
        let b = read_body is st1 hs (vs, st2) a.sound granted.1 m in
        let tail : gs ≡ body_events is vs = d ∙ ap (λ (q : List EventData). hs ++ q) z.0 ∙ append-nil hs ∙ b.handed_over in
        subst (λ (q : ReadAll). AreRead (step i is) st.context es q.0 q.1.context) (sym z.1) (record {
          suited = suited_slot i is x vs a.suited b.suited;
          fits = within_slot x vs a.fits b.fits;
          sound = b.sound;
          counted = b.counted ∙ omega (arith, a.counted, total_slot x vs);
          bounded = λ n. b.bounded (a.bounded n);
          handed_over = e ∙ ap (λ (q : List EventData). q ++ gs) a.handed_over ∙ ap (λ (q : List EventData). of_item i x ++ q) tail
              ∙ sym (step_event i is x vs);
        })

    pub begun_body : (body : Body) (st : State) (es : List EventData) → IsSound l st.context.dictionary → GrantsBody l body
        → st.context.counted ≤ l.max_total → Left s (body_term B body st) es → AreBegun body st.context es
    begun_body end st es sound granted fit h = absurd (left_give s (no_slots, st) es h)
    begun_body (step i is) st es sound granted fit h =
        body_turn i is st es granted fit
        (λ k. begun_instruction i st es sound granted.0 fit k)
        (λ fs x st1 j. read_instruction i st fs (x, st1) sound granted.0 j)
        (λ st1 gs sound1 fit1 k. begun_body is st1 gs sound1 granted.1 fit1 k)
        (left_turn s (instruction B i st) (λ r. body_term B is r.1 >>= (λ rest. give (with_slot r.0 rest.0, rest.1))) es h)
