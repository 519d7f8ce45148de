-- What suits a body is encoded or refused: at each instruction, from the dictionary that those before it leave.
use Rattle.std.proofs.Common.{◌≡◌, ◌⊎◌, inl, inr, ℕ, ◌≤◌, List, [], ◌∷◌, ◌++◌, refl, sym, subst, arith}
use Rattle.std.specs.Prelude.{Bool, true, false, if◌then◌else◌, Option, Some, None}
use Rattle.fast_value.specs.declared.kinds.Kind.TheVariants.{UInt32}
use Rattle.fast_value.specs.declared.settings.Limits.{Limits}
use Rattle.fast_value.specs.meaning.Kinds.{U, I, Dec}
use Rattle.fast_value.specs.meaning.Messages.{ItemData, one, group as group_item, sequence as sequence_item, Slots, no_slots, absent}
use Rattle.fast_value.specs.meaning.Messages.{present, Elements, no_elements, element, count}
use Rattle.fast_tree.specs.meaning.Tree.{Label, FieldData, Instruction, field, parts, group, sequence, Body, end, step, has_map}
use Rattle.fast_dict.specs.meaning.Dictionary.{Dictionary}
use Rattle.fast_stream.specs.meaning.Messages.{with_slot}
use Rattle.fast_spelling.specs.declared.faults.EncodeFault.{EncodeFault}
use Rattle.fast_spelling.specs.declared.faults.EncodeFault.TheVariants.{E3}
use Rattle.fast_spelling.specs.meaning.Again.{IsSound, IsGranted, Grants, GrantsBody}
use Rattle.fast_spelling.specs.meaning.Encoding.{Encoder, EncodesField, ShortestMap, EncodesSegment, EncodesElements, EncodesScalar}
use Rattle.fast_spelling.specs.meaning.Encoding.{EncodesDecimal, EncodesGroup, EncodesSequence, Encodes, EncodesBody}
use Rattle.fast_spelling.specs.meaning.Refusals.{HaveNoMap, RefusesField, Refuser, RefusesScalar, RefusesDecimal, RefusesSegment}
use Rattle.fast_spelling.specs.meaning.Refusals.{RefusesElements, RefusesGroup, RefusesSequence, Refuses, RefusesBody}
use Rattle.fast_spelling.specs.meaning.Suiting.{AreRight, IsRightScalar, IsRightDecimal, IsRightGroup, IsRightSequence, Suits, SuitsBody}
use Rattle.fast_spelling.specs.meaning.Suiting.{AreWithinLimits, RowsWithinLimits}
use Rattle.fast_spelling.proofs.encodings.Encoded.{IsWithinOption}
use Rattle.fast_laws.proofs.settling.Fields.{Settled, field_settled}
use Rattle.fast_laws.proofs.settling.Keeping.{right_length, right_exponent, right_mantissa, field_keeps, KeepsSlots, instruction_keeps, segment_keeps}
use Rattle.fast_laws.proofs.settling.Maps.{some_map}

-- The same without bits.
abbrev SettledBytes : (List ℕ → Dictionary → Type 0) → (EncodeFault → Type 0) → Type 0
SettledBytes encodes refuses = ((w : List ℕ) × (d : Dictionary) × encodes w d) ⊎ ((c : EncodeFault) × refuses c)

segment_settled : (body : Body) (inside : Encoder Slots) (refuses : Refuser) (d : Dictionary) (vs : Slots) → Settled (inside d vs) (refuses d vs)
    → SettledBytes (EncodesSegment body inside d vs) (RefusesSegment body inside refuses d vs)
segment_settled body inside refuses d vs (inr (c, h)) = inr (c, inl h)
segment_settled body inside refuses d vs (inl (b, v, d', h)) = by (has_map body) refl (some_map b)
  where
    encoded : (m : List ℕ) → ShortestMap (has_map body) b m → SettledBytes (EncodesSegment body inside d vs) (RefusesSegment body inside refuses d vs)
    encoded m s = inl (m ++ v, d', (b, m, v, h, s, refl))

    by : (has : Bool) → has_map body ≡ has → ((m : List ℕ) × ShortestMap true b m) ⊎ HaveNoMap b
        → SettledBytes (EncodesSegment body inside d vs) (RefusesSegment body inside refuses d vs)
    by false e s = encoded [] (subst (λ (z : Bool). ShortestMap z b []) (sym e) refl)
    by true e (inl (m, s)) = encoded m (subst (λ (z : Bool). ShortestMap z b m) (sym e) s)
    by true e (inr none) = inr (E3, inr (b, v, d', h, e, none, refl))

module _ (l : Limits) (small : l.max_text ≤ 1048576) where
  scalar_settled : (f : FieldData) (d : Dictionary) (x : Option ItemData) → IsSound l d → IsGranted l f → IsRightScalar f x
      → IsWithinOption l x → Settled (EncodesScalar l f d x) (RefusesScalar f d x)
  scalar_settled f d None sound granted h fits = field_settled l small f d None sound granted h
  scalar_settled f d (Some (one v)) sound granted h fits = field_settled l small f d (Some v) sound granted (h, fits)
  scalar_settled f d (Some other) sound granted h fits = absurd h

  decimal_settled : (at : Label) (e m : FieldData) (d : Dictionary) (x : Option ItemData) → IsSound l d → Grants l (parts at e m)
      → IsRightDecimal e x → Settled (EncodesDecimal l e m d x) (RefusesDecimal l e m d x)
  decimal_settled at e m d None sound granted h = field_settled l small e d None sound granted.0 h
  decimal_settled at e m d (Some (one (Dec x y))) sound (granted, granted', e_kind, m_kind, there) h =
      by (field_settled l small e d (Some (I x)) sound granted (right_exponent e x e_kind h.0, omega arith))
    where
      Told : Type 0
      Told = Settled (EncodesDecimal l e m d (Some (one (Dec x y)))) (RefusesDecimal l e m d (Some (one (Dec x y))))

      on : (b : List Bool) (u : List ℕ) (mid : Dictionary) → EncodesField l e d (Some (I x)) b u mid
          → Settled (EncodesField l m mid (Some (I y))) (RefusesField m mid (Some (I y))) → Told
      on b u mid i (inl (b', v, d', j)) = inl (b ++ b', u ++ v, d', (b, b', u, v, mid, i, j, refl, refl))
      on b u mid i (inr (c, j)) = inr (c, inr (b, u, mid, i, j))

      by : Settled (EncodesField l e d (Some (I x))) (RefusesField e d (Some (I x))) → Told
      by (inl (b, u, mid, i)) =
          let kept = field_keeps l e d (Some (I x)) b u mid sound granted (right_exponent e x e_kind h.0, omega arith) i in
          on b u mid i (field_settled l small m mid (Some (I y)) kept granted' (right_mantissa m y m_kind h.1, omega arith))
      by (inr (c, i)) = inr (c, inl i)
  decimal_settled at e m d (Some other) sound granted h = absurd h

  -- groups and sequences of slots, by what is told of these
  module _ (encodes : Dictionary → Slots → List ℕ → Dictionary → Type 0) (refuses : Refuser) (right : Slots → Type 0)
      (settled : (d : Dictionary) (vs : Slots) → IsSound l d → right vs → AreWithinLimits l vs
      → SettledBytes (encodes d vs) (refuses d vs)) (keeps : KeepsSlots l encodes right) where
    group_settled : (optional : Bool) (d : Dictionary) (x : Option ItemData) → IsSound l d → IsRightGroup optional right x
        → IsWithinOption l x → Settled (EncodesGroup optional encodes d x) (RefusesGroup refuses d x)
    group_settled optional d None sound h fits = inl (false ∷ [], [], d, (h, refl, refl, refl))
    group_settled optional d (Some (group_item vs)) sound h fits = by (settled d vs sound h fits)
      where
        by : SettledBytes (encodes d vs) (refuses d vs) → Settled (EncodesGroup optional encodes d (Some (group_item vs)))
            (RefusesGroup refuses d (Some (group_item vs)))
        by (inl (w, d', i)) = inl (if optional then true ∷ [] else [], w, d', (refl, i))
        by (inr z) = inr z
    group_settled optional d (Some other) sound h fits = absurd h

    rows_settled : (rows : Elements) (d : Dictionary) → IsSound l d → AreRight right rows → RowsWithinLimits l rows
        → SettledBytes (EncodesElements encodes d rows) (RefusesElements encodes refuses d rows)
    rows_settled no_elements d sound h fits = inl ([], d, (refl, refl))
    rows_settled (element vs rows) d sound h fits = by (settled d vs sound h.0 fits.0) (λ mid s. rows_settled rows mid s h.1 fits.1)
      where
        on : (u : List ℕ) (mid : Dictionary) → encodes d vs u mid → SettledBytes (EncodesElements encodes mid rows) (RefusesElements encodes refuses mid rows)
            → SettledBytes (EncodesElements encodes d (element vs rows)) (RefusesElements encodes refuses d (element vs rows))
        on u mid i (inl (v, d', j)) = inl (u ++ v, d', (u, v, mid, i, j, refl))
        on u mid i (inr (c, j)) = inr (c, inr (u, mid, i, j))

        by : SettledBytes (encodes d vs) (refuses d vs) → ((mid : Dictionary) → IsSound l mid
            → SettledBytes (EncodesElements encodes mid rows) (RefusesElements encodes refuses mid rows))
            → SettledBytes (EncodesElements encodes d (element vs rows)) (RefusesElements encodes refuses d (element vs rows))
        by (inl (u, mid, i)) rest = on u mid i (rest mid (keeps d vs u mid sound h.0 fits.0 i))
        by (inr (c, i)) rest = inr (c, inl i)

    sequence_settled : (g : FieldData) → IsGranted l g → g.kind ≡ UInt32 → (d : Dictionary) (x : Option ItemData) → IsSound l d
        → IsRightSequence g right x → IsWithinOption l x
        → Settled (EncodesSequence l g encodes d x) (RefusesSequence l g encodes refuses d x)
    sequence_settled g granted kind d None sound h fits = field_settled l small g d None sound granted h
    sequence_settled g granted kind d (Some (sequence_item rows)) sound h fits =
        by (field_settled l small g d (Some (U (count rows))) sound granted (right_length g (count rows) kind h.1, omega arith))
      where
        Told : Type 0
        Told = Settled (EncodesSequence l g encodes d (Some (sequence_item rows))) (RefusesSequence l g encodes refuses d (Some (sequence_item rows)))

        on : (b : List Bool) (u : List ℕ) (mid : Dictionary) → EncodesField l g d (Some (U (count rows))) b u mid
            → SettledBytes (EncodesElements encodes mid rows) (RefusesElements encodes refuses mid rows) → Told
        on b u mid i (inl (v, d', j)) = inl (b, u ++ v, d', (u, v, mid, i, j, refl))
        on b u mid i (inr (c, j)) = inr (c, inr (b, u, mid, i, j))

        by : Settled (EncodesField l g d (Some (U (count rows)))) (RefusesField g d (Some (U (count rows)))) → Told
        by (inl (b, u, mid, i)) =
            let kept = field_keeps l g d (Some (U (count rows))) b u mid sound granted (right_length g (count rows) kind h.1, omega arith) i in
            on b u mid i (rows_settled rows mid kept h.0 fits.1)
        by (inr (c, i)) = inr (c, inl i)
    sequence_settled g granted kind d (Some other) sound h fits = absurd h

  -- a first slot, and the others
  slot_settled : (i : Instruction) (is : Body) (d : Dictionary) (x : Option ItemData) (vs : Slots) → Settled (Encodes l i d x) (Refuses l i d x)
      → ((b : List Bool) (u : List ℕ) (mid : Dictionary) → Encodes l i d x b u mid → Settled (EncodesBody l is mid vs) (RefusesBody l is mid vs))
      → Settled (EncodesBody l (step i is) d (with_slot x vs)) (RefusesBody l (step i is) d (with_slot x vs))
  unfolding Encodes Refuses
  slot_settled i is d x vs (inr (c, h)) rest = inr (c, (x, vs, refl, inl h))
  slot_settled i is d x vs (inl (b, u, mid, h)) rest = by (rest b u mid h)
    where
      by : Settled (EncodesBody l is mid vs) (RefusesBody l is mid vs)
          → Settled (EncodesBody l (step i is) d (with_slot x vs)) (RefusesBody l (step i is) d (with_slot x vs))
      by (inl (b', v, d', j)) = inl (b ++ b', u ++ v, d', (x, vs, b, b', u, v, mid, h, j, refl, refl, refl))
      by (inr (c, j)) = inr (c, (x, vs, refl, inr (b, u, mid, h, j)))

  mutual
    unfolding Encodes Refuses

    instruction_settled : (i : Instruction) (d : Dictionary) (x : Option ItemData) → IsSound l d → Grants l i → Suits i x
        → IsWithinOption l x → Settled (Encodes l i d x) (Refuses l i d x)
    instruction_settled (field at f) d x sound granted h fits = scalar_settled f d x sound granted h fits
    instruction_settled (parts at e m) d x sound granted h fits = decimal_settled at e m d x sound granted h
    instruction_settled (group at optional body) d x sound granted h fits =
        group_settled (EncodesSegment body (EncodesBody l body)) (RefusesSegment body (EncodesBody l body) (RefusesBody l body)) (SuitsBody body)
        (λ d vs sound h fits. segment_settled body (EncodesBody l body) (RefusesBody l body) d vs
        (body_settled body d vs sound granted h fits)) (segment_keeps l body granted) optional d x sound h fits
    instruction_settled (sequence at g body) d x sound granted h fits =
        sequence_settled (EncodesSegment body (EncodesBody l body)) (RefusesSegment body (EncodesBody l body) (RefusesBody l body)) (SuitsBody body)
        (λ d vs sound h fits. segment_settled body (EncodesBody l body) (RefusesBody l body) d vs
        (body_settled body d vs sound granted.2 h fits)) (segment_keeps l body granted.2) g granted.0 granted.1 d x sound h fits

    pub body_settled : (body : Body) (d : Dictionary) (vs : Slots) → IsSound l d → GrantsBody l body → SuitsBody body vs
        → AreWithinLimits l vs → Settled (EncodesBody l body d vs) (RefusesBody l body d vs)
    body_settled end d no_slots sound granted h fits = inl ([], [], d, (refl, refl, refl, refl))
    body_settled end d (absent vs) sound granted h fits = absurd h
    body_settled end d (present x vs) sound granted h fits = absurd h
    body_settled (step i is) d no_slots sound granted h fits = absurd h
    body_settled (step i is) d (absent vs) sound granted h fits =
        slot_settled i is d None vs (instruction_settled i d None sound granted.0 h.0 tt)
        (λ b u mid e. body_settled is mid vs (instruction_keeps l i granted.0 d None b u mid sound h.0 tt e) granted.1 h.1 fits)
    body_settled (step i is) d (present x vs) sound granted h fits =
        slot_settled i is d (Some x) vs (instruction_settled i d (Some x) sound granted.0 h.0 fits.0)
        (λ b u mid e. body_settled is mid vs (instruction_keeps l i granted.0 d (Some x) b u mid sound h.0 fits.0 e) granted.1 h.1 fits.1)
