-- A field that was read is encoded again, or it is an ASCII text of which a part that begins with U+0000 would be sent.
use Rattle.std.proofs.Common.{◌≡◌, ◌⊎◌, inl, inr, ℕ, ◌≤◌, List, [], ◌∷◌, ◌++◌, length, refl, ap, sym, subst, ◌∙◌, arith}
use Rattle.std.specs.Prelude.{Bool, true, false, if◌then◌else◌, Option, Some, None, Result, Ok, Err, IfSome}
use Rattle.std.proofs.lemmas.List.{length-append}
use Rattle.fast_wire.specs.meaning.Maps.{first_bit, later_bits}
use Rattle.fast_value.specs.declared.codes.Code.{Code}
use Rattle.fast_value.specs.declared.settings.Limits.{Limits}
use Rattle.fast_value.specs.meaning.Limits.{Bounds, bounds}
use Rattle.fast_value.specs.meaning.Kinds.{ScalarData, Family, integers, decimals, texts, family, IsOfKind}
use Rattle.fast_tree.specs.declared.operators.Operator.{Operator}
use Rattle.fast_tree.specs.declared.operators.Operator.TheVariants.{None as no_operator, Constant, Default, Copy, Increment, Delta, Tail}
use Rattle.fast_tree.specs.meaning.Tree.{FieldData, uses_bit, operator_uses_bit}
use Rattle.fast_notation.specs.meaning.Uses.{suits}
use Rattle.fast_dict.specs.meaning.Dictionary.{Dictionary, PreviousData, previous_at, write_at}
use Rattle.fast_dict.specs.meaning.Operators.{Outcome, Sent, nothing, Op, IsItemBy, decide, decide_by}
use Rattle.fast_dict.specs.meaning.Rule.{GoesUnsent, Rule}
use Rattle.fast_stream.specs.meaning.Grammar.{give}
use Rattle.fast_stream.specs.meaning.Fields.{field_term}
use Rattle.fast_stream.specs.meaning.Messages.{State, Found, found, field_in}
use Rattle.fast_spelling.specs.meaning.Again.{IsSoundEntry, IsSound, IsGranted, HasPlainLength}
use Rattle.fast_spelling.specs.meaning.Encoding.{EncodesField, SpellsSentBy}
use Rattle.fast_spelling.specs.meaning.Refusals.{HasZeroInFront, RefusesField}
use Rattle.fast_spelling.specs.declared.faults.EncodeFault.TheVariants.{R9}
use Rattle.fast_spelling.proofs.again.Resent.{Says, in_turn, given, Resent, field_read}
use Rattle.fast_spelling.proofs.again.Resending.{BytesOf, Resends, resends, same_option, fixed_is}
use Rattle.fast_spelling.proofs.rules.Ruled.{IsFit, right_fits, rule_gives, unsent_next}
use Rattle.fast_spelling.proofs.again.Sound.{IsSoundValue, same_ok, right_of, unsent_right, next_sound, sound_write, sound_previous}

-- Bits that are used, of which none is set that wasn't there.
abbrev pub Uses : List Bool → List Bool → List Bool → Type 0
Uses [] left left' = left' ≡ left
Uses (x ∷ b) left left' = (x ≡ true → first_bit left ≡ true) × Uses b (later_bits left) left'

pub uses_more : (b c : List Bool) (left mid left' : List Bool) → Uses b left mid → Uses c mid left' → Uses (b ++ c) left left'
uses_more [] c left mid left' h i = subst (λ (z : List Bool). Uses c z left') h i
uses_more (x ∷ b) c left mid left' h i = (h.0, uses_more b c (later_bits left) mid left' h.1 i)

-- It is encoded again, from bits to those behind, with no more bytes where all is plain; or refused.
abbrev pub Again : (List Bool → List ℕ → Type 0) → Type 0 → Type 0 → List Bool → List Bool → List ℕ → Type 0
Again encodes refuses plain left left' w = ((b : List Bool) × (u : List ℕ) × encodes b u × Uses b left left' × (plain → length u ≤ length w)) ⊎ refuses

-- nothing stands where the bit is clear
clear_item : (o : Operator) (f : FieldData) → operator_uses_bit o f.optional ≡ true → IsItemBy o false f nothing
clear_item no_operator f u = absurd (cc u)
clear_item Delta f u = absurd (cc u)
clear_item Constant f u = refl
clear_item Default f u = refl
clear_item Copy f u = refl
clear_item Increment f u = refl
clear_item Tail f u = refl

clear_nothing : (o : Operator) (f : FieldData) (x : Sent) → operator_uses_bit o f.optional ≡ true → IsItemBy o false f x → x ≡ nothing
clear_nothing no_operator f x u h = absurd (cc u)
clear_nothing Delta f x u h = absurd (cc u)
clear_nothing Constant f x u h = h
clear_nothing Default f x u h = h
clear_nothing Copy f x u h = h
clear_nothing Increment f x u h = h
clear_nothing Tail f x u h = h

-- Nothing sent will do, or it won't.
pub goes_unsent : (f : FieldData) (p : PreviousData) (v : Option ScalarData) → GoesUnsent f p v ⊎ (GoesUnsent f p v → ⊥)
goes_unsent f p v = by (uses_bit f) refl (decide f p false nothing) refl
  where
    one_way : (o n : Outcome) → o ≡ n → n.value ≡ v → o.value ≡ v
    one_way o n e h = ap (λ (z : Outcome). z.value) e ∙ h

    told : (out : Outcome) → uses_bit f ≡ true → decide f p false nothing ≡ Ok out → (out.value ≡ v) ⊎ (out.value ≡ v → ⊥)
        → GoesUnsent f p v ⊎ (GoesUnsent f p v → ⊥)
    told out u e (inl same) = inl (
      out.next,
      u,
      (
        clear_item f.operator f u,
        e ∙ ap (λ (z : Option ScalarData). Ok (record {
          value = z;
          next = out.next;
        })) same,
      ),
    )
    told out u e (inr other) = inr (λ (next, _, (_, d)). other (one_way out (record {
      value = v;
      next = next;
    }) (same_ok out (record { value = v; next = next }) (sym e ∙ d)) refl))

    by : (u : Bool) → uses_bit f ≡ u → (r : Result Outcome Code) → decide f p false nothing ≡ r → GoesUnsent f p v ⊎ (GoesUnsent f p v → ⊥)
    by false h r e = inr (λ (_, u, _). absurd (cc (h, u)))
    by true h (Err c) e = inr (λ (next, _, (_, d)). absurd (cc (e, d)))
    by true h (Ok out) e = told out h e (same_option out.value v)

module _ (l : Limits) where
  abbrev B : Bounds
  B = bounds l

  -- where the bit is clear
  default_right : (f : FieldData) → IsGranted l f → f.operator ≡ Default → (i : Option ScalarData) → f.initial ≡ i → IsSoundValue l f i
  default_right f g o (Some v) e = subst (λ (z : Option ScalarData). IfSome z (IsOfKind l f.kind)) e g.initial
  default_right f g o None e = by f.optional refl
    where
      by : (b : Bool) → f.optional ≡ b → f.optional ≡ true
      by true h = h
      by false h = absurd (g.default o h e)

  clear_right : (o : Operator) (f : FieldData) (p : PreviousData) (out : Outcome) → f.operator ≡ o → operator_uses_bit o f.optional ≡ true
      → IsSoundEntry l p → IsGranted l f → decide_by o false f p nothing ≡ Ok out → IsSoundValue l f out.value
  clear_right no_operator f p out q u h g e = absurd (cc u)
  clear_right Delta f p out q u h g e = absurd (cc u)
  clear_right Constant f p out q u h g e = subst (λ (z : Outcome). IsSoundValue l f z.value) (same_ok (record { value = None; next = p }) out e) u
  clear_right Default f p out q u h g e = let (v, n) = fixed_is l f.initial p out e in subst (IsSoundValue l f) (sym v) (default_right f g q f.initial refl)
  clear_right Copy f p out q u h g e = unsent_right l f p out g.suited h g.initial e
  clear_right Increment f p out q u h g e = unsent_right l f p out g.suited h g.initial e
  clear_right Tail f p out q u h g e = unsent_right l f p out g.suited h g.initial e

  pub fit_of : (f : FieldData) (v : Option ScalarData) → IsSoundValue l f v → IsFit f v
  fit_of f None h = h
  fit_of f (Some v) h = right_fits f.kind v (right_of l f.kind v h)

  pub tail_texts : (f : FieldData) → suits f.operator (family f.kind) ≡ true → f.operator ≡ Tail → family f.kind ≡ texts
  tail_texts f s o = by (family f.kind) (subst (λ (z : Operator). suits z (family f.kind) ≡ true) o s)
    where
      by : (k : Family) → suits Tail k ≡ true → k ≡ texts
      by (integers range) s = absurd (cc s)
      by decimals s = absurd (cc s)
      by texts s = refl

  -- What is told of a field at a dictionary.
  pub record FieldBack (f : FieldData) (d : Dictionary) (bit : Bool) (w : List ℕ) (out : Outcome) : Type 0 where
    pub right : IsSoundValue l f out.value
    pub sound : IsSoundEntry l out.next
    pub again : ((b : Bool) × (u : List ℕ) × EncodesField l f d out.value (if uses_bit f then b ∷ [] else []) u
        (write_at f.entry out.next d) × (b ≡ true → bit ≡ true) × (HasPlainLength f → length u ≤ length w))
        ⊎ RefusesField f d out.value R9

  unsent_back : (f : FieldData) (d : Dictionary) (bit : Bool) (w : List ℕ) (v : Option ScalarData) (next : PreviousData)
      → GoesUnsent f (previous_at f.entry d) v → Op f (previous_at f.entry d) false nothing v next
      → (b : Bool) × (u : List ℕ) × EncodesField l f d v (if uses_bit f then b ∷ [] else []) u (write_at f.entry next d)
      × (b ≡ true → bit ≡ true) × (HasPlainLength f → length u ≤ length w)
  unsent_back f d bit w v next goes op = (false, [], (false, nothing, next, (goes, refl), refl, op, refl, refl), (λ e. absurd (cc e)), λ _. omega arith)

  -- where the bit is set
  set_back : (f : FieldData) (d : Dictionary) (w : List ℕ) (out : Outcome) (x : Sent) (u : List ℕ) → IsSound l d → IsGranted l f
      → IsItemBy f.operator true f x → decide f (previous_at f.entry d) true x ≡ Ok out
      → SpellsSentBy f.operator l f (previous_at f.entry d) x u → length u ≤ length w → FieldBack f d true w out
  set_back f d w out x u sound granted suited decided spelled short = record {
    right = h.right;
    sound = subst (IsSoundEntry l) (sym h.next) (next_sound l f.operator f p out.value (sound_previous l f.entry d sound) h.right);
    again = by (goes_unsent f p out.value);
  }
    where
      p : PreviousData
      p = previous_at f.entry d

      h : Resends l f.operator f p u out
      h = resends l f.operator f p refl (sound_previous l f.entry d sound) granted x u out suited spelled decided

      gives : Rule f p out.value true h.item → Op f p true h.item out.value out.next
      gives r = subst (λ (z : PreviousData). Op f p true h.item out.value z) (sym h.next)
          (rule_gives f p out.value true h.item (tail_texts f granted.suited) (fit_of f out.value h.right) r)

      by : GoesUnsent f p out.value ⊎ (GoesUnsent f p out.value → ⊥)
          → ((b : Bool) × (u : List ℕ) × EncodesField l f d out.value (if uses_bit f then b ∷ [] else []) u (write_at f.entry out.next d)
          × (b ≡ true → true ≡ true) × (HasPlainLength f → length u ≤ length w)) ⊎ RefusesField f d out.value R9
      by (inl goes) =
          let (n, uses, op) = goes in
          let same : n ≡ out.next = unsent_next f.operator f p out.value n uses op.1 ∙ sym h.next in
          inl (unsent_back f d true w out.value out.next goes (subst (λ (z : PreviousData). Op f p false nothing out.value z) same op))
      by (inr must) = on h.sent
        where
          on : BytesOf f.operator l f p h.item u ⊎ HasZeroInFront f.kind h.item
              → ((b : Bool) × (u : List ℕ) × EncodesField l f d out.value (if uses_bit f then b ∷ [] else []) u
              (write_at f.entry out.next d) × (b ≡ true → true ≡ true) × (HasPlainLength f → length u ≤ length w))
              ⊎ RefusesField f d out.value R9
          on (inr z) = inr (true, h.item, (must, h.ruled), z)
          on (inl (v, s, i)) = inl (
            true,
            v,
            (true, h.item, out.next, (must, h.ruled), s, gives (must, h.ruled), refl, refl),
            (λ _. refl),
            λ plain. omega (arith, i plain, short),
          )

  -- where it is clear
  clear_back : (f : FieldData) (d : Dictionary) (w : List ℕ) (out : Outcome) (x : Sent) → IsSound l d → IsGranted l f → uses_bit f ≡ true
      → IsItemBy f.operator false f x → decide f (previous_at f.entry d) false x ≡ Ok out → FieldBack f d false w out
  clear_back f d w out x sound granted uses suited decided =
      let p = previous_at f.entry d in
      let none = clear_nothing f.operator f x uses suited in
      let decided' : decide f p false nothing ≡ Ok out = subst (λ (z : Sent). decide f p false z ≡ Ok out) none decided in
      let right = clear_right f.operator f p out refl uses (sound_previous l f.entry d sound) granted decided' in
      let next = unsent_next f.operator f p out.value out.next uses decided' in
      let op : Op f p false nothing out.value out.next = (clear_item f.operator f uses, decided') in
      record {
        right = right;
        sound = subst (IsSoundEntry l) (sym next) (next_sound l f.operator f p out.value (sound_previous l f.entry d sound) right);
        again = inl (unsent_back f d false w out.value out.next (out.next, uses, op) op);
      }

  field_back : (s : Bool) (f : FieldData) (d : Dictionary) (bit : Bool) (w : List ℕ) (out : Outcome) → IsSound l d → IsGranted l f
      → (uses_bit f ≡ false → bit ≡ true) → Says s (field_term B f (previous_at f.entry d) bit) w out → FieldBack f d bit w out
  field_back s f d bit w out sound granted clear h = by bit clear (field_read s l f (previous_at f.entry d) bit w out h)
    where
      on_use : (u : Bool) → uses_bit f ≡ u → (uses_bit f ≡ false → false ≡ true) → uses_bit f ≡ true
      on_use true e c = e
      on_use false e c = absurd (cc (c e))

      by : (b : Bool) → (uses_bit f ≡ false → b ≡ true) → Resent s l f (previous_at f.entry d) b w out → FieldBack f d b w out
      by true c r = set_back f d w out r.item r.bytes sound granted r.suited r.decided r.spelled r.short
      by false c r = clear_back f d w out r.item sound granted (on_use (uses_bit f) refl c) r.suited r.decided

  -- A field at a state.
  pub record FoundBack (f : FieldData) (st : State) (w : List ℕ) (r : Found) : Type 0 where
    pub right : IsSoundValue l f r.0
    pub sound : IsSound l r.1.context.dictionary
    pub counted : r.1.context.counted ≡ st.context.counted
    pub again : Again (λ b u. EncodesField l f st.context.dictionary r.0 b u r.1.context.dictionary)
        (RefusesField f st.context.dictionary r.0 R9) (HasPlainLength f) st.bits r.1.bits w

  pub found_back : (s : Bool) (f : FieldData) (st : State) (w : List ℕ) (r : Found) → IsSound l st.context.dictionary → IsGranted l f
      → Says s (field_in B f st) w r → FoundBack f st w r
  found_back s f st w r sound granted h =
      let bit = if uses_bit f then first_bit st.bits else true in
      let (u, v, out, i, j, e) = in_turn s (field_term B f (previous_at f.entry st.context.dictionary) bit) (λ o. give (found f st o)) w r h in
      let k = given s (found f st out) v r j in
      let all : length w ≡ length u = ap length e ∙ length-append u v ∙ omega (arith, ap length k.0) in
      let b = field_back s f st.context.dictionary bit u out sound granted (set_without (uses_bit f)) i in
      subst (FoundBack f st w) (sym k.1) (record {
        right = b.right;
        sound = sound_write l f.entry out.next st.context.dictionary sound b.sound;
        counted = refl;
        again = by (length u) all out b.again;
      })
    where
      set_without : (u : Bool) → u ≡ false → (if u then first_bit st.bits else true) ≡ true
      set_without true e = absurd (cc e)
      set_without false e = refl

      used : (u b : Bool) → (b ≡ true → (if u then first_bit st.bits else true) ≡ true)
          → Uses (if u then b ∷ [] else []) st.bits (if u then later_bits st.bits else st.bits)
      used true b h = (h, refl)
      used false b h = refl

      by : (n : ℕ) → length w ≡ n → (out : Outcome)
          → ((b : Bool) × (u : List ℕ) × EncodesField l f st.context.dictionary out.value (if uses_bit f then b ∷ [] else []) u
          (write_at f.entry out.next st.context.dictionary)
          × (b ≡ true → (if uses_bit f then first_bit st.bits else true) ≡ true) × (HasPlainLength f → length u ≤ n))
          ⊎ RefusesField f st.context.dictionary out.value R9
          → Again (λ b u. EncodesField l f st.context.dictionary out.value b u (write_at f.entry out.next st.context.dictionary))
          (RefusesField f st.context.dictionary out.value R9) (HasPlainLength f) st.bits (found f st out).1.bits w
      by n all out (inr z) = inr z
      by n all out (inl (b, u, enc, set, short)) = inl (
        if uses_bit f then b ∷ [] else [],
        u,
        enc,
        used (uses_bit f) b set,
        λ plain. omega (arith, all, short plain),
      )
