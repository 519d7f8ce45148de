-- What was read of a segment is encoded again, or some ASCII text is refused.
use Rattle.std.proofs.Common.{append-nil, ◌≡◌, ◌⊎◌, inl, inr, ℕ, zero, suc, ◌+◌, ◌<◌, ◌≤◌, ◌^◌, List, [], ◌∷◌, ◌++◌, length, refl, ap, sym, subst, ◌∙◌, arith}
use Rattle.std.specs.Prelude.{Bool, true, false, nat_le, nat_abs, if◌then◌else◌, ℤ, Option, Some, None, Ok, Err}
use Rattle.std.proofs.lemmas.Bool.{leb-true}
use Rattle.std.proofs.lemmas.List.{length-append}
use Rattle.fast_wire.specs.meaning.Integers.{IsWithin, signed_range}
use Rattle.fast_wire.specs.meaning.Maps.{bits, first_bit, later_bits}
use Rattle.fast_value.specs.declared.kinds.Kind.{Kind}
use Rattle.fast_value.specs.declared.kinds.Kind.TheVariants.{UInt32, Int32, Int64}
use Rattle.fast_value.specs.declared.settings.Limits.{Limits}
use Rattle.fast_value.specs.declared.codes.Code.TheVariants.{R1, L2, L5}
use Rattle.fast_value.specs.meaning.Limits.{Bounds, bounds}
use Rattle.fast_value.specs.meaning.Kinds.{ScalarData, U, I, Dec, texts, family, integer_of, exponent_range, IsOfKind}
use Rattle.fast_value.specs.meaning.Messages.{ItemData, one, group as group_item, sequence as sequence_item, Slots, no_slots, Elements}
use Rattle.fast_value.specs.meaning.Messages.{no_elements, element, count, total, rows_total}
use Rattle.fast_tree.specs.meaning.Tree.{Label, FieldData, Instruction, field, parts, group, sequence, Body, end, step, bits_of, has_map}
use Rattle.fast_dict.specs.meaning.Dictionary.{Dictionary}
use Rattle.fast_dict.specs.meaning.Operators.{ranged}
use Rattle.fast_stream.specs.meaning.Events.{FieldValue, GroupStart, GroupEnd, SequenceStart, ElementStart, ElementEnd, SequenceEnd}
use Rattle.fast_stream.specs.meaning.Grammar.{give, hand, narrow, ◌>>=◌}
use Rattle.fast_stream.specs.meaning.Messages.{Context, State, field_in, Read, ReadAll, with_slot, handed, signed_of, decimal_with}
use Rattle.fast_stream.specs.meaning.Messages.{mantissa_after, map_bits, own_bits, Segment, segment, elements, group_from, group_if}
use Rattle.fast_stream.specs.meaning.Messages.{group_in, within_limits, length_in, count_more, sequence_from, instruction, body_term}
use Rattle.fast_spelling.specs.meaning.Again.{IsSound, IsGranted, Grants, GrantsBody, HasPlainLength, ArePlain, ArePlainIn}
use Rattle.fast_spelling.specs.meaning.Encoding.{EncodesField, ShortestMap, EncodesSegment, EncodesElements, EncodesScalar, EncodesDecimal}
use Rattle.fast_spelling.specs.meaning.Encoding.{EncodesGroup, EncodesSequence, Encodes, EncodesBody}
use Rattle.fast_spelling.specs.meaning.Refusals.{RefusesField, RefusesScalar, RefusesDecimal, RefusesSegment, RefusesElements, RefusesGroup}
use Rattle.fast_spelling.specs.meaning.Refusals.{RefusesSequence, Refuses, RefusesBody}
use Rattle.fast_spelling.specs.meaning.Suiting.{AreRight, IsRightScalar, IsRightDecimal, IsRightGroup, IsRightSequence, Suits, SuitsBody}
use Rattle.fast_spelling.specs.meaning.Suiting.{AreWithinLimits, RowsWithinLimits}
use Rattle.fast_spelling.specs.declared.faults.EncodeFault.{EncodeFault}
use Rattle.fast_spelling.specs.declared.faults.EncodeFault.TheVariants.{R9}
use Rattle.fast_spelling.proofs.encodings.Encoded.{option_total, IsWithinOption}
use Rattle.fast_spelling.proofs.again.FieldsAgain.{Uses, uses_more, Again, FoundBack, found_back}
use Rattle.fast_spelling.proofs.again.MapsAgain.{map_again}
use Rattle.fast_spelling.proofs.again.Resent.{Says, InTurn, in_turn, given, resulted, handed_over, map_read, narrowed}
use Rattle.fast_spelling.proofs.again.Resending.{ranged_is}
use Rattle.fast_spelling.proofs.again.Sound.{same_ok, right_of, short_of}

-- the bytes of two parts
pub two_lengths : (u v w : List ℕ) → w ≡ u ++ v → length w ≡ length u + length v
two_lengths u v w e = ap length e ∙ length-append u v

pub first_all : (u v w : List ℕ) → w ≡ u ++ v → v ≡ [] → length w ≡ length u
first_all u v w e n = two_lengths u v w e ∙ omega (arith, ap length n)

-- A part that is encoded again from more bytes, and one that is another's.
again_from : {encodes other : List Bool → List ℕ → Type 0} {refuses against plain plainly : Type 0} (left left' : List Bool) (v w : List ℕ)
    → length v ≤ length w → ((b : List Bool) (u : List ℕ) → encodes b u → other b u) → (refuses → against) → (plainly → plain)
    → Again encodes refuses plain left left' v → Again other against plainly left left' w
again_from left left' v w h f g p (inl (b, u, e, uses, short)) = inl (b, u, f b u e, uses, λ q. omega (arith, h, short (p q)))
again_from left left' v w h f g p (inr r) = inr (g r)

-- One part behind another.
again_then : {first second both : List Bool → List ℕ → Type 0} {refuses against all : Type 0} {plain plainly : Type 0} {third : Type 0}
    (left mid left' : List Bool) (u v w : List ℕ) → w ≡ u ++ v
    → ((b c : List Bool) (x y : List ℕ) → first b x → second c y → both (b ++ c) (x ++ y)) → (refuses → all)
    → ((b : List Bool) (x : List ℕ) → first b x → against → all) → (third → plain × plainly)
    → Again first refuses plain left mid u → Again second against plainly mid left' v → Again both all third left left' w
again_then left mid left' u v w e f g k p (inl (b, x, i, uses, short)) (inl (c, y, j, uses', brief)) =
    inl (
      b ++ c,
      x ++ y,
      f b c x y i j,
      uses_more b c left mid left' uses uses',
      λ q. let r = p q in
          omega (arith, length-append x y, two_lengths u v w e, short r.0, brief r.1),
    )
again_then left mid left' u v w e f g k p (inl (b, x, i, uses, short)) (inr r) = inr (k b x i r)
again_then left mid left' u v w e f g k p (inr r) h = inr (g r)

-- fields of kinds that are no texts
pub plain_of : (f : FieldData) (kind : Kind) → f.kind ≡ kind → (family kind ≡ texts → ⊥) → HasPlainLength f
plain_of f kind e n = (λ _ t. absurd (n (ap family (sym e) ∙ t)), λ _ a. absurd (n (ap family (sym e ∙ a))))

-- a value of a kind of integers
int32_is : (l : Limits) (v : ScalarData) → IsOfKind l Int32 v → v ≡ I (integer_of v)
int32_is l (I x) h = refl
int32_is l v h = absurd h

int64_is : (l : Limits) (v : ScalarData) → IsOfKind l Int64 v → (v ≡ I (signed_of v)) × IsWithin (signed_range 63) (signed_of v)
int64_is l (I x) h = (refl, h)
int64_is l v h = absurd h

pub uint32_is : (l : Limits) (v : ScalarData) → IsOfKind l UInt32 v → (v ≡ U (nat_abs (integer_of v))) × (nat_abs (integer_of v) < 2 ^ 32)
uint32_is l (U n) h = (refl, h)
uint32_is l v h = absurd h

exponent_is : (l : Limits) (x y : ℤ) → ranged exponent_range R1 x ≡ Ok y → IsWithin exponent_range y × (x ≡ y)
exponent_is l x y e = ranged_is l exponent_range R1 x y e

module _ (l : Limits) (s : Bool) where
  abbrev B : Bounds
  B = bounds l

  -- What is told of an instruction at a state.
  pub record Back (suits : Option ItemData → Type 0) (encodes : Dictionary → Option ItemData → List Bool → List ℕ → Dictionary → Type 0)
      (refuses : Dictionary → Option ItemData → Type 0) (plain : Type 0) (st : State) (w : List ℕ) (r : Read) : Type 0 where
    pub suited : suits r.0
    pub fits : IsWithinOption l r.0
    pub sound : IsSound l r.1.context.dictionary
    pub counted : r.1.context.counted ≡ st.context.counted + option_total r.0
    pub bounded : st.context.counted ≤ l.max_total → r.1.context.counted ≤ l.max_total
    pub again : Again (λ b u. encodes st.context.dictionary r.0 b u r.1.context.dictionary) (refuses st.context.dictionary r.0) plain st.bits r.1.bits w

  none_handed : (st : State) (v : List ℕ) (r : Read) → Says s (give (None, st)) v r → (v ≡ []) × (r ≡ (None, st))
  none_handed st v r h = given s (None, st) v r h

  value_handed : (n : ℕ) (x : ScalarData) (st : State) (v : List ℕ) (r : Read) → Says s (handed n (Some x) st) v r → (v ≡ []) × (r ≡ (Some (one x), st))
  value_handed n x st v r h = given s (Some (one x), st) v r (handed_over s (FieldValue n x) (give (Some (one x), st)) v r h)

  scalar_back : (at : Label) (f : FieldData) (st : State) (w : List ℕ) (r : Read) → IsSound l st.context.dictionary → IsGranted l f
      → Says s (field_in B f st >>= (λ r. handed at.node r.0 r.1)) w r
      → Back (IsRightScalar f) (EncodesScalar l f) (λ d x. RefusesScalar f d x R9) (HasPlainLength f) st w r
  scalar_back at f st w r sound granted h = on (in_turn s (field_in B f st) (λ r. handed at.node r.0 r.1) w r h)
    where
      on : InTurn s (field_in B f st) (λ r. handed at.node r.0 r.1) w r
          → Back (IsRightScalar f) (EncodesScalar l f) (λ d x. RefusesScalar f d x R9) (HasPlainLength f) st w r
      on (u, v, (None, st'), i, j, e) =
          let b = found_back l s f st u (None, st') sound granted i in
          let k = none_handed st' v r j in
          subst (Back (IsRightScalar f) (EncodesScalar l f) (λ d x. RefusesScalar f d x R9) (HasPlainLength f) st w) (sym k.1) (record {
            suited = b.right;
            fits = tt;
            sound = b.sound;
            counted = b.counted ∙ omega arith;
            bounded = λ n. omega (arith, n, b.counted);
            again = again_from st.bits st'.bits u w (omega (arith, first_all u v w e k.0)) (λ b u c. c) (λ c. c) (λ c. c) b.again;
          })
      on (u, v, (Some x, st'), i, j, e) =
          let b = found_back l s f st u (Some x, st') sound granted i in
          let k = value_handed at.node x st' v r j in
          subst (Back (IsRightScalar f) (EncodesScalar l f) (λ d x. RefusesScalar f d x R9) (HasPlainLength f) st w) (sym k.1) (record {
            suited = right_of l f.kind x b.right;
            fits = short_of l f.kind x b.right;
            sound = b.sound;
            counted = b.counted ∙ omega arith;
            bounded = λ n. omega (arith, n, b.counted);
            again = again_from st.bits st'.bits u w (omega (arith, first_all u v w e k.0)) (λ b u c. c) (λ c. c) (λ c. c) b.again;
          })

  decimal_back : (at : Label) (e m : FieldData) (st : State) (w : List ℕ) (r : Read) → IsSound l st.context.dictionary
      → Grants l (parts at e m) → Says s (field_in B e st >>= mantissa_after B at.node m) w r
      → Back (IsRightDecimal e) (EncodesDecimal l e m) (λ d x. RefusesDecimal l e m d x R9) (Unit {0}) st w r
  decimal_back at e m st w r sound (granted, granted', e_kind, m_kind, there) h = on (in_turn s (field_in B e st) (mantissa_after B at.node m) w r h)
    where
      Told : Read → Type 0
      Told r = Back (IsRightDecimal e) (EncodesDecimal l e m) (λ d x. RefusesDecimal l e m d x R9) (Unit {0}) st w r

      plain_e : HasPlainLength e
      plain_e = plain_of e Int32 e_kind (λ q. cc q)

      plain_m : HasPlainLength m
      plain_m = plain_of m Int64 m_kind (λ q. cc q)

      both : (u v y z : List ℕ) (v' : ScalarData) (st' st'' : State) (x : ℤ) (n : ScalarData) → FoundBack l e st u (Some v', st')
          → FoundBack l m st' y (Some n, st'') → IsWithin exponent_range x × (integer_of v' ≡ x) → w ≡ u ++ v → v ≡ y ++ z → z ≡ []
          → Told (Some (one (Dec x (signed_of n))), st'')
      both u v y z v' st' st'' x n b c (within, is) split parted none =
          let v_is : v' ≡ I x = int32_is l v' (subst (λ (k : Kind). IsOfKind l k v') e_kind b.right) ∙ ap I is in
          let (n_is, n_within) = int64_is l n (subst (λ (k : Kind). IsOfKind l k n) m_kind c.right) in
          let y_is : v ≡ y = parted ∙ ap (λ (q : List ℕ). y ++ q) none ∙ append-nil y in
          let first : Again (λ b u. EncodesField l e st.context.dictionary (Some (I x)) b u st'.context.dictionary)
          (RefusesField e st.context.dictionary (Some (I x)) R9) (HasPlainLength e) st.bits st'.bits u =
          subst (λ (q : ScalarData). Again (λ b u. EncodesField l e st.context.dictionary (Some q) b u st'.context.dictionary)
          (RefusesField e st.context.dictionary (Some q) R9) (HasPlainLength e) st.bits st'.bits u) v_is b.again in
          let second : Again (λ b u. EncodesField l m st'.context.dictionary (Some (I (signed_of n))) b u st''.context.dictionary)
          (RefusesField m st'.context.dictionary (Some (I (signed_of n))) R9) (HasPlainLength m) st'.bits st''.bits y =
          subst (λ (q : ScalarData). Again (λ b u. EncodesField l m st'.context.dictionary (Some q) b u st''.context.dictionary)
          (RefusesField m st'.context.dictionary (Some q) R9) (HasPlainLength m) st'.bits st''.bits y) n_is c.again in
          record {
            suited = (within, n_within);
            fits = omega arith;
            sound = c.sound;
            counted = c.counted ∙ b.counted ∙ omega arith;
            bounded = λ k. omega (arith, k, c.counted, b.counted);
            again = again_then st.bits st'.bits st''.bits u y w (split ∙ ap (λ (q : List ℕ). u ++ q) y_is)
                (λ b1 b2 x1 x2 i j. (b1, b2, x1, x2, st'.context.dictionary, i, j, refl, refl)) inl
                (λ b1 x1 i k. inr (b1, x1, st'.context.dictionary, i, k)) (λ _. (plain_e, plain_m)) first second;
          }

      behind : (u v : List ℕ) (v' : ScalarData) (st' : State) (x : ℤ) → FoundBack l e st u (Some v', st')
          → IsWithin exponent_range x × (integer_of v' ≡ x) → w ≡ u ++ v
          → InTurn s (field_in B m st') (λ q. handed at.node (decimal_with x q.0) q.1) v r → Told r
      behind u v v' st' x b is split (y, z, (None, st''), i, j, parted) =
          let c = found_back l s m st' y (None, st'') b.sound granted' i in
          let clash : true ≡ false = sym c.right ∙ there in
          absurd (cc clash)
      behind u v v' st' x b is split (y, z, (Some n, st''), i, j, parted) =
          let c = found_back l s m st' y (Some n, st'') b.sound granted' i in
          let k = value_handed at.node (Dec x (signed_of n)) st'' z r j in
          subst Told (sym k.1) (both u v y z v' st' st'' x n b c is split parted k.0)

      on : InTurn s (field_in B e st) (mantissa_after B at.node m) w r → Told r
      on (u, v, (None, st'), i, j, split) =
          let b = found_back l s e st u (None, st') sound granted i in
          let k = none_handed st' v r j in
          subst Told (sym k.1) (record {
            suited = b.right;
            fits = tt;
            sound = b.sound;
            counted = b.counted ∙ omega arith;
            bounded = λ n. omega (arith, n, b.counted);
            again = again_from st.bits st'.bits u w (omega (arith, first_all u v w split k.0)) (λ b u c. c) (λ c. c) (λ _. plain_e) b.again;
          })
      on (u, v, (Some v', st'), i, j, split) =
          let b = found_back l s e st u (Some v', st') sound granted i in
          let (x, r_is, k) = resulted s (ranged exponent_range R1 (integer_of v'))
          (λ x. field_in B m st' >>= (λ q. handed at.node (decimal_with x q.0) q.1)) v r j in
          behind u v v' st' x b (exponent_is l (integer_of v') x r_is) split (in_turn s (field_in B m st') (λ q. handed at.node (decimal_with x q.0) q.1) v r k)

  -- What is told of a body at a state, and of a segment at a context.
  pub record BodyBack (body : Body) (st : State) (w : List ℕ) (r : ReadAll) : Type 0 where
    pub suited : SuitsBody body r.0
    pub fits : AreWithinLimits l r.0
    pub sound : IsSound l r.1.context.dictionary
    pub counted : r.1.context.counted ≡ st.context.counted + total r.0
    pub bounded : st.context.counted ≤ l.max_total → r.1.context.counted ≤ l.max_total
    pub again : Again (λ b u. EncodesBody l body st.context.dictionary r.0 b u r.1.context.dictionary)
        (RefusesBody l body st.context.dictionary r.0 R9) (ArePlainIn body) st.bits r.1.bits w

  abbrev Bytes : (List ℕ → Type 0) → Type 0 → Type 0 → List ℕ → Type 0
  Bytes encodes refuses plain w = ((u : List ℕ) × encodes u × (plain → length u ≤ length w)) ⊎ refuses

  pub record SegmentBack (right : Slots → Type 0) (encodes : Dictionary → Slots → List ℕ → Dictionary → Type 0)
      (refuses : Dictionary → Slots → Type 0) (plain : Type 0) (c : Context) (w : List ℕ) (r : Slots × Context) : Type 0 where
    pub suited : right r.0
    pub fits : AreWithinLimits l r.0
    pub sound : IsSound l r.1.dictionary
    pub counted : r.1.counted ≡ c.counted + total r.0
    pub bounded : c.counted ≤ l.max_total → r.1.counted ≤ l.max_total
    pub again : Bytes (λ u. encodes c.dictionary r.0 u r.1.dictionary) (refuses c.dictionary r.0) plain w

  -- the bits of a segment's own map, and a map of those that are used
  own_read : (has : Bool) (n : ℕ) (u : List ℕ) (b0 : List Bool) → Says s (map_bits n has) u b0 → (b left' : List Bool) → Uses b b0 left'
      → (m : List ℕ) × ShortestMap has b m × (length m ≤ length u)
  own_read false n u b0 h b left' uses = ([], refl, omega arith)
  own_read true n u b0 h b left' uses =
      let (m, v, form, j, e) = map_read s (λ m. narrow n m (give (bits m))) u b0 h in
      let k = given s (bits m) v b0 (narrowed s n m (give (bits m)) v b0 j) in
      let (m', form', same, short) = map_again s m b left' form (subst (λ (z : List Bool). Uses b z left') k.1 uses) in
      (m', (form', same), omega (arith, short, first_all m v u e k.0))

  segment_back : (body : Body) → ((st : State) (w : List ℕ) (r : ReadAll) → IsSound l st.context.dictionary
      → Says s (body_term B body st) w r → BodyBack body st w r)
      → (c : Context) (w : List ℕ) (r : Slots × Context) → IsSound l c.dictionary → Says s (segment body (body_term B body) c) w r
      → SegmentBack (SuitsBody body) (EncodesSegment body (EncodesBody l body))
      (λ d vs. RefusesSegment body (EncodesBody l body) (RefusesBody l body) d vs R9) (ArePlainIn body) c w r
  segment_back body f c w r sound h =
      let (u, v, b0, i, j, e) = in_turn s (own_bits body) (λ b. body_term B body (record { context = c; bits = b }) >>= (λ r. give (r.0, r.1.context))) w r h in
      let (y, z, (vs, st'), k, n, g) = in_turn s (body_term B body (record { context = c; bits = b0 })) (λ r. give (r.0, r.1.context)) v r j in
      let q = given s (vs, st'.context) z r n in
      let b = f (record { context = c; bits = b0 }) y (vs, st') sound k in
      let all : length w ≡ length u + length y = two_lengths u v w e ∙ ap (λ (n : ℕ). length u + n) (first_all y z v g q.0) in
      subst (SegmentBack (SuitsBody body) (EncodesSegment body (EncodesBody l body))
      (λ d vs. RefusesSegment body (EncodesBody l body) (RefusesBody l body) d vs R9) (ArePlainIn body) c w) (sym q.1) (record {
        suited = b.suited;
        fits = b.fits;
        sound = b.sound;
        counted = b.counted;
        bounded = b.bounded;
        again = by u y b0 vs st' i all b.again;
      })
    where
      by : (u y : List ℕ) (b0 : List Bool) (vs : Slots) (st' : State) → Says s (own_bits body) u b0 → length w ≡ length u + length y
          → Again (λ b u. EncodesBody l body c.dictionary vs b u st'.context.dictionary) (RefusesBody l body c.dictionary vs R9) (ArePlainIn body) b0 st'.bits y
          → Bytes (λ u. EncodesSegment body (EncodesBody l body) c.dictionary vs u st'.context.dictionary)
          (RefusesSegment body (EncodesBody l body) (RefusesBody l body) c.dictionary vs R9) (ArePlainIn body) w
      by u y b0 vs st' i all (inr z) = inr (inl z)
      by u y b0 vs st' i all (inl (b, x, enc, uses, short)) =
          let (m, map, brief) = own_read (has_map body) (bits_of body) u b0 i b st'.bits uses in
          inl (m ++ x, (b, m, x, enc, map, refl), λ p. omega (arith, length-append m x, brief, short p, all))

  module _ (seg : Segment) (right : Slots → Type 0) (enc : Dictionary → Slots → List ℕ → Dictionary → Type 0)
      (ref : Dictionary → Slots → EncodeFault → Type 0) (plain : Type 0)
      (f : (c : Context) (w : List ℕ) (r : Slots × Context) → IsSound l c.dictionary → Says s (seg c) w r
      → SegmentBack right enc (λ d vs. ref d vs R9) plain c w r) where
    record RowsBack (n : ℕ) (c : Context) (w : List ℕ) (r : Elements × Context) : Type 0 where
      pub number : count r.0 ≡ n
      pub suited : AreRight right r.0
      pub fits : RowsWithinLimits l r.0
      pub sound : IsSound l r.1.dictionary
      pub counted : r.1.counted ≡ c.counted + rows_total r.0
      pub bounded : c.counted ≤ l.max_total → r.1.counted ≤ l.max_total
      pub again : Bytes (λ u. EncodesElements enc c.dictionary r.0 u r.1.dictionary) (RefusesElements enc ref c.dictionary r.0 R9) plain w

    elements_back : (n : ℕ) (c : Context) (w : List ℕ) (r : Elements × Context) → IsSound l c.dictionary → Says s (elements seg n c) w r → RowsBack n c w r
    elements_back zero c w r sound h =
        let k = given s (no_elements, c) w r h in
        subst (RowsBack zero c w) (sym k.1) (record {
          number = refl;
          suited = tt;
          fits = tt;
          sound = sound;
          counted = omega arith;
          bounded = λ n. n;
          again = inl ([], (refl, refl), λ _. omega arith);
        })
    elements_back (suc n) c w r sound h =
        let (u, v, (vs, c1), i, j, e) = in_turn s (seg c) (λ r. hand ElementEnd
        (elements seg n r.1 >>= (λ rest. give (element r.0 rest.0, rest.1)))) w r
        (handed_over s ElementStart (seg c >>= (λ r. hand ElementEnd
        (elements seg n r.1 >>= (λ rest. give (element r.0 rest.0, rest.1))))) w r h) in
        let (y, z, (rows, c2), k, m, g) = in_turn s (elements seg n c1) (λ rest. give (element vs rest.0, rest.1)) v r
        (handed_over s ElementEnd (elements seg n c1 >>= (λ rest. give (element vs rest.0, rest.1))) v r j) in
        let q = given s (element vs rows, c2) z r m in
        let a = f c u (vs, c1) sound i in
        let b = elements_back n c1 y (rows, c2) a.sound k in
        let all : length w ≡ length u + length y = two_lengths u v w e ∙ ap (λ (n : ℕ). length u + n) (first_all y z v g q.0) in
        subst (RowsBack (suc n) c w) (sym q.1) (record {
          number = ap suc b.number;
          suited = (a.suited, b.suited);
          fits = (a.fits, b.fits);
          sound = b.sound;
          counted = b.counted ∙ omega (arith, a.counted);
          bounded = λ n. b.bounded (a.bounded n);
          again = by u y vs rows c1 c2 all a.again b.again;
        })
      where
        by : (u y : List ℕ) (vs : Slots) (rows : Elements) (c1 c2 : Context) → length w ≡ length u + length y
            → Bytes (λ u. enc c.dictionary vs u c1.dictionary) (ref c.dictionary vs R9) plain u
            → Bytes (λ u. EncodesElements enc c1.dictionary rows u c2.dictionary) (RefusesElements enc ref c1.dictionary rows R9) plain y
            → Bytes (λ u. EncodesElements enc c.dictionary (element vs rows) u c2.dictionary)
            (RefusesElements enc ref c.dictionary (element vs rows) R9) plain w
        by u y vs rows c1 c2 all (inr z) h = inr (inl z)
        by u y vs rows c1 c2 all (inl (a, i, short)) (inr z) = inr (inr (a, c1.dictionary, i, z))
        by u y vs rows c1 c2 all (inl (a, i, short)) (inl (b, j, brief)) =
            inl (a ++ b, (a, b, c1.dictionary, i, j, refl), λ p. omega (arith, length-append a b, short p, brief p, all))

    abbrev GroupBack : Bool → State → List ℕ → Read → Type 0
    GroupBack optional st w r = Back (IsRightGroup optional right) (EncodesGroup optional enc) (λ d x. RefusesGroup ref d x R9) plain st w r

    group_there : (optional : Bool) (n : ℕ) (st st1 : State) (w : List ℕ) (r : Read) → st1.context ≡ st.context
        → Uses (if optional then true ∷ [] else []) st.bits st1.bits → IsSound l st.context.dictionary → Says s (group_from n seg st1) w r
        → GroupBack optional st w r
    group_there optional n st st1 w r same uses sound h =
        let (u, v, (vs, c), i, j, e) = in_turn s (seg st1.context)
        (λ r. hand GroupEnd (give (Some (group_item r.0), record st1 { context = r.1 }))) w r
        (handed_over s (GroupStart n) (seg st1.context >>= (λ r. hand GroupEnd
        (give (Some (group_item r.0), record st1 { context = r.1 })))) w r h) in
        let k = given s (Some (group_item vs), record st1 { context = c }) v r
        (handed_over s GroupEnd (give (Some (group_item vs), record st1 { context = c })) v r j) in
        let b = f st.context u (vs, c) sound (subst (λ (z : Context). Says s (seg z) u (vs, c)) same i) in
        subst (GroupBack optional st w) (sym k.1) (record {
          suited = b.suited;
          fits = b.fits;
          sound = b.sound;
          counted = b.counted;
          bounded = b.bounded;
          again = by u vs c (first_all u v w e k.0) b.again;
        })
      where
        by : (u : List ℕ) (vs : Slots) (c : Context) → length w ≡ length u
            → Bytes (λ u. enc st.context.dictionary vs u c.dictionary) (ref st.context.dictionary vs R9) plain u
            → Again (λ b u. EncodesGroup optional enc st.context.dictionary (Some (group_item vs)) b u c.dictionary)
            (RefusesGroup ref st.context.dictionary (Some (group_item vs)) R9) plain st.bits st1.bits w
        by u vs c all (inr z) = inr z
        by u vs c all (inl (x, i, short)) = inl (if optional then true ∷ [] else [], x, (refl, i), uses, λ p. omega (arith, short p, all))

    group_back : (optional : Bool) (n : ℕ) (st : State) (w : List ℕ) (r : Read) → IsSound l st.context.dictionary
        → Says s (group_in optional n seg st) w r → GroupBack optional st w r
    group_back false n st w r sound h = group_there false n st st w r refl refl sound h
    group_back true n st w r sound h = on (first_bit st.bits) refl h
      where
        on : (b : Bool) → first_bit st.bits ≡ b → Says s (group_if b n seg (record st { bits = later_bits st.bits })) w r → GroupBack true st w r
        on true e k = group_there true n st (record st { bits = later_bits st.bits }) w r refl ((λ _. e), refl) sound k
        on false e k =
            let q = none_handed (record st { bits = later_bits st.bits }) w r k in
            subst (GroupBack true st w) (sym q.1) (record {
              suited = refl;
              fits = tt;
              sound = sound;
              counted = omega arith;
              bounded = λ n. n;
              again = inl (false ∷ [], [], (refl, refl, refl, refl), ((λ c. absurd (cc c)), refl), λ _. omega arith);
            })

    abbrev SequenceBack : FieldData → State → List ℕ → Read → Type 0
    SequenceBack g st w r = Back (IsRightSequence g right) (EncodesSequence l g enc) (λ d x. RefusesSequence l g enc ref d x R9) plain st w r

    within_is : (before n k : ℕ) → within_limits B before n ≡ Ok k → (n ≡ k) × (n ≤ l.max_elements) × (before + n ≤ l.max_total)
    within_is before n k e = on (nat_le n l.max_elements) refl (nat_le (before + n) l.max_total) refl e
      where
        on : (a : Bool) → nat_le n l.max_elements ≡ a → (b : Bool) → nat_le (before + n) l.max_total ≡ b
            → (if a then (if b then Ok n else Err L5) else Err L2) ≡ Ok k → (n ≡ k) × (n ≤ l.max_elements) × (before + n ≤ l.max_total)
        on true g true h i = (same_ok n k i, leb-true n l.max_elements g, leb-true (before + n) l.max_total h)
        on true g false h i = absurd (cc i)
        on false g b h i = absurd (cc i)

    sequence_back : (n : ℕ) (g : FieldData) (st : State) (w : List ℕ) (r : Read) → IsSound l st.context.dictionary → IsGranted l g
        → g.kind ≡ UInt32 → Says s (field_in B g st >>= sequence_from B n seg) w r → SequenceBack g st w r
    sequence_back n g st w r sound granted kind h = on (in_turn s (field_in B g st) (sequence_from B n seg) w r h)
      where
        plain_g : HasPlainLength g
        plain_g = plain_of g UInt32 kind (λ q. cc q)

        rows_back : (u v y z : List ℕ) (x : ScalarData) (st' : State) (k : ℕ) (rows : Elements) (c : Context)
            → FoundBack l g st u (Some x, st') → RowsBack k (count_more k st'.context) y (rows, c)
            → (nat_abs (integer_of x) ≡ k) × (nat_abs (integer_of x) ≤ l.max_elements)
            × (st'.context.counted + nat_abs (integer_of x) ≤ l.max_total) → w ≡ u ++ v → v ≡ y ++ z → z ≡ []
            → SequenceBack g st w (Some (sequence_item rows), record st' { context = c })
        rows_back u v y z x st' k rows c a b (k_is, few, fit) split parted none =
            let (x_is, small) = uint32_is l x (subst (λ (q : Kind). IsOfKind l q x) kind a.right) in
            let number : nat_abs (integer_of x) ≡ count rows = k_is ∙ sym b.number in
            let value : x ≡ U (count rows) = x_is ∙ ap U number in
            let first : Again (λ b u. EncodesField l g st.context.dictionary (Some (U (count rows))) b u st'.context.dictionary)
            (RefusesField g st.context.dictionary (Some (U (count rows))) R9) (HasPlainLength g) st.bits st'.bits u =
            subst (λ (q : ScalarData). Again (λ b u. EncodesField l g st.context.dictionary (Some q) b u st'.context.dictionary)
            (RefusesField g st.context.dictionary (Some q) R9) (HasPlainLength g) st.bits st'.bits u) value a.again in
            let all : length w ≡ length u + length y = two_lengths u v w split ∙ ap (λ (n : ℕ). length u + n) (first_all y z v parted none) in
            record {
              suited = (b.suited, omega (arith, small, number));
              fits = (omega (arith, few, number), b.fits);
              sound = b.sound;
              counted = b.counted ∙ omega (arith, a.counted, k_is, number);
              bounded = λ i. b.bounded (omega (arith, fit, k_is));
              again = by first b.again all;
            }
          where
            by : Again (λ b u. EncodesField l g st.context.dictionary (Some (U (count rows))) b u st'.context.dictionary)
                (RefusesField g st.context.dictionary (Some (U (count rows))) R9) (HasPlainLength g) st.bits st'.bits u
                → Bytes (λ u. EncodesElements enc st'.context.dictionary rows u c.dictionary)
                (RefusesElements enc ref st'.context.dictionary rows R9) plain y → length w ≡ length u + length y
                → Again (λ b u. EncodesSequence l g enc st.context.dictionary (Some (sequence_item rows)) b u c.dictionary)
                (RefusesSequence l g enc ref st.context.dictionary (Some (sequence_item rows)) R9) plain st.bits st'.bits w
            by (inr p) q all = inr (inl p)
            by (inl (b1, x1, i, uses, short)) (inr q) all = inr (inr (b1, x1, st'.context.dictionary, i, q))
            by (inl (b1, x1, i, uses, short)) (inl (x2, j, brief)) all =
                inl (
                  b1,
                  x1 ++ x2,
                  (x1, x2, st'.context.dictionary, i, j, refl),
                  uses,
                  λ p. omega (arith, length-append x1 x2, short plain_g, brief p, all),
                )

        on : InTurn s (field_in B g st) (sequence_from B n seg) w r → SequenceBack g st w r
        on (u, v, (None, st'), i, j, split) =
            let b = found_back l s g st u (None, st') sound granted i in
            let k = none_handed st' v r j in
            subst (SequenceBack g st w) (sym k.1) (record {
              suited = b.right;
              fits = tt;
              sound = b.sound;
              counted = b.counted ∙ omega arith;
              bounded = λ n. omega (arith, n, b.counted);
              again = again_from st.bits st'.bits u w (omega (arith, first_all u v w split k.0)) (λ b u c. c) (λ c. c) (λ _. plain_g) b.again;
            })
        on (u, v, (Some x, st'), i, j, split) =
            let a = found_back l s g st u (Some x, st') sound granted i in
            let (k, k_is, j1) = resulted s (length_in B st'.context x)
            (λ a. hand (SequenceStart n a) (elements seg a (count_more a st'.context) >>=
            (λ r. hand SequenceEnd (give (Some (sequence_item r.0), record st' { context = r.1 }))))) v r j in
            let (y, z, (rows, c), j2, j3, parted) = in_turn s (elements seg k (count_more k st'.context))
            (λ r. hand SequenceEnd (give (Some (sequence_item r.0), record st' { context = r.1 }))) v r
            (handed_over s (SequenceStart n k) (elements seg k (count_more k st'.context) >>=
            (λ r. hand SequenceEnd (give (Some (sequence_item r.0), record st' { context = r.1 })))) v r j1) in
            let q = given s (Some (sequence_item rows), record st' { context = c }) z r
            (handed_over s SequenceEnd (give (Some (sequence_item rows), record st' { context = c })) z r j3) in
            let b = elements_back k (count_more k st'.context) y (rows, c) a.sound j2 in
            subst (SequenceBack g st w) (sym q.1) (rows_back u v y z x st' k rows c a b
            (within_is st'.context.counted (nat_abs (integer_of x)) k k_is) split parted q.0)

  abbrev InstructionBack : Instruction → State → List ℕ → Read → Type 0
  InstructionBack i st w r = Back (Suits i) (Encodes l i) (λ d x. Refuses l i d x R9) (ArePlain i) st w r

  suited_slot : (i : Instruction) (is : Body) (x : Option ItemData) (vs : Slots) → Suits i x → SuitsBody is vs → SuitsBody (step i is) (with_slot x vs)
  suited_slot i is None vs h k = (h, k)
  suited_slot i is (Some x) vs h k = (h, k)

  within_slot : (x : Option ItemData) (vs : Slots) → IsWithinOption l x → AreWithinLimits l vs → AreWithinLimits l (with_slot x vs)
  within_slot None vs h k = k
  within_slot (Some x) vs h k = (h, k)

  total_slot : (x : Option ItemData) (vs : Slots) → total (with_slot x vs) ≡ option_total x + total vs
  total_slot None vs = omega arith
  total_slot (Some x) vs = refl

  mutual
    unfolding Encodes Refuses instruction body_term

    pub instruction_back : (i : Instruction) (st : State) (w : List ℕ) (r : Read) → IsSound l st.context.dictionary → Grants l i
        → Says s (instruction B i st) w r → InstructionBack i st w r
    instruction_back (field at f) st w r sound granted h = scalar_back at f st w r sound granted h
    instruction_back (parts at e m) st w r sound granted h = decimal_back at e m st w r sound granted h
    instruction_back (group at optional body) st w r sound granted h =
        group_back (segment body (body_term B body)) (SuitsBody body) (EncodesSegment body (EncodesBody l body))
        (RefusesSegment body (EncodesBody l body) (RefusesBody l body)) (ArePlainIn body)
        (segment_back body (λ st w r sound h. body_back body st w r sound granted h)) optional at.node st w r sound h
    instruction_back (sequence at g body) st w r sound granted h =
        sequence_back (segment body (body_term B body)) (SuitsBody body) (EncodesSegment body (EncodesBody l body))
        (RefusesSegment body (EncodesBody l body) (RefusesBody l body)) (ArePlainIn body)
        (segment_back body (λ st w r sound h. body_back body st w r sound granted.2 h)) at.node g st w r sound granted.0 granted.1 h

    pub body_back : (body : Body) (st : State) (w : List ℕ) (r : ReadAll) → IsSound l st.context.dictionary → GrantsBody l body
        → Says s (body_term B body st) w r → BodyBack body st w r
    body_back end st w r sound granted h =
        let k = given s (no_slots, st) w r h in
        subst (BodyBack end st w) (sym k.1) (record {
          suited = tt;
          fits = tt;
          sound = sound;
          counted = omega arith;
          bounded = λ n. n;
          again = inl ([], [], (refl, refl, refl, refl), refl, λ _. omega arith);
        })
    body_back (step i is) st w r sound granted h =
        let (u, v, (x, st1), j, k, e) = in_turn s (instruction B i st) (λ r. body_term B is r.1 >>= (λ rest. give (with_slot r.0 rest.0, rest.1))) w r h in
        let (y, z, (vs, st2), m, n, g) = in_turn s (body_term B is st1) (λ rest. give (with_slot x rest.0, rest.1)) v r k in
        let q = given s (with_slot x vs, st2) z r n in
        let a = instruction_back i st u (x, st1) sound granted.0 j in
        let b = body_back is st1 y (vs, st2) a.sound granted.1 m in
        let all : v ≡ y = g ∙ ap (λ (p : List ℕ). y ++ p) q.0 ∙ append-nil y in
        subst (BodyBack (step i is) st w) (sym q.1) (record {
          suited = suited_slot i is x vs a.suited b.suited;
          fits = within_slot x vs a.fits b.fits;
          sound = b.sound;
          counted = b.counted ∙ omega (arith, a.counted, total_slot x vs);
          bounded = λ n. b.bounded (a.bounded n);
          again = again_then st.bits st1.bits st2.bits u y w (e ∙ ap (λ (p : List ℕ). u ++ p) all)
              (λ b1 b2 x1 x2 c d. (x, vs, b1, b2, x1, x2, st1.context.dictionary, c, d, refl, refl, refl))
              (λ c. (x, vs, refl, inl c)) (λ b1 x1 c d. (x, vs, refl, inr (b1, x1, st1.context.dictionary, c, d))) (λ p. p) a.again b.again;
        })
