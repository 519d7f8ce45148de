-- The item that a field's bytes are.
use Rattle.std.proofs.Common.{◌≡◌, ℕ, ◌+◌, ◌-◌, ◌≤◌, List, [], ◌++◌, length, refl, ap, sym, subst, ◌∙◌, arith, append_assoc, append-nil}
use Rattle.std.specs.Prelude.{Bool, true, false, nat_le, if◌then◌else◌, ℤ, pos, negsuc, Option, Some, None, Result, Ok, Err}
use Rattle.std.proofs.lemmas.Int.{ints}
use Rattle.std.proofs.lemmas.Bool.{leb-true}
use Rattle.std.proofs.lemmas.List.{length-append}
use Rattle.fast_wire.specs.meaning.Integers.{Range, unsigned_range, signed_range, exponent_range, delta_range, SpellsInt}
use Rattle.fast_wire.specs.meaning.Texts.{SpellsAscii, SpellsVector}
use Rattle.fast_wire.specs.meaning.Maps.{IsMap}
use Rattle.fast_value.specs.declared.kinds.Kind.{Kind}
use Rattle.fast_value.specs.declared.kinds.Kind.TheVariants.{UInt32, Int32, UInt64, Int64, Decimal, Ascii, Unicode, Bytes}
use Rattle.fast_value.specs.meaning.Kinds.{ScalarData, Dec, Family, integers, decimals, texts, family}
use Rattle.fast_value.specs.declared.settings.Limits.{Limits}
use Rattle.fast_value.specs.meaning.Limits.{Bounds, bounds}
use Rattle.fast_value.specs.declared.codes.Code.{Code}
use Rattle.fast_value.specs.declared.codes.Code.TheVariants.{D2, D7, L1, R1}
use Rattle.fast_tree.specs.declared.operators.Operator.{Operator}
use Rattle.fast_tree.specs.declared.operators.Operator.TheVariants.{None as no_operator, Constant, Default, Copy, Increment, Delta, Tail}
use Rattle.fast_tree.specs.meaning.Tree.{FieldData}
use Rattle.fast_dict.specs.meaning.Dictionary.{PreviousData}
use Rattle.fast_dict.specs.meaning.Operators.{Op, Outcome, Sent, nothing, null, value, integer_delta, decimal_delta, text_delta, Kept}
use Rattle.fast_dict.specs.meaning.Operators.{kept_length, IsValueIn, IsPlainItem, IsDeltaIn, IsItemBy, decide, decide_by, sent_delta}
use Rattle.fast_dict.specs.meaning.Operators.{gives_none, integer_step, exponent_step, mantissa_step, subtraction_step, text_step}
use Rattle.fast_stream.specs.meaning.Events.{EventData}
use Rattle.fast_stream.specs.meaning.Phrases.{whole, Phrase, gives, hands, settles, ◌followed_by◌}
use Rattle.fast_stream.specs.meaning.Units
use Rattle.fast_stream.specs.meaning.Grammar.{Grammar, give, fault, hand, integer, ascii_text, raw, presence_map, narrow, ◌>>=◌, of_result, phrase_of}
use Rattle.fast_stream.specs.meaning.Fields.{field_phrase, sized, text, sent_integer, sent_text, sent_decimal, decimal_from, item_in, item}
use Rattle.fast_stream.specs.meaning.Fields.{integer_change, mantissa_change, decimal_change, part_change, text_change, change_in, sent}
use Rattle.fast_stream.specs.meaning.Fields.{not_sent, field_by, field_term}
use Rattle.fast_spelling.proofs.again.Resent.{Says, InTurn, in_turn, given, resulted, result_is, integer_read, is_nullable}
use Rattle.fast_laws.specs.meaning.Items.{SpellsText, SpellsNull, SpellsNoDelta, SpellsValue, SpellsItemBy, SpellsItem, IsByItem}

-- a part, and nothing behind it
all_first : (u v w : List ℕ) → v ≡ [] → w ≡ u ++ v → u ≡ w
all_first u v w e d = sym (d ∙ ap (λ (z : List ℕ). u ++ z) e ∙ append-nil u)

module _ (s : Bool) (l : Limits) where
  abbrev B : Bounds
  B = bounds l

  alone : (P : List ℕ → Type 0) (u v w : List ℕ) → v ≡ [] → w ≡ u ++ v → P u → P w
  alone P u v w e d h = subst P (all_first u v w e d) h

  ascii_read : (nullable : Bool) (room : ℕ) (w : List ℕ) (t : Option (List ℕ)) → Says s (ascii_text nullable room give) w t → SpellsAscii nullable room t w
  unfolding ◌followed_by◌ gives
  ascii_read nullable room w t (es, (u, v, fs, gs, x, i, j, d, q)) =
      alone (SpellsAscii nullable room t) u v w j.0 d (subst (λ (z : Option (List ℕ)). SpellsAscii nullable room z u) (sym j.2) i.0)

  raw_read : (n : ℕ) (w : List ℕ) (t : Option (List ℕ)) → Says s (raw n (λ v. give (Some v))) w t → (t ≡ Some w) × (length w ≡ n)
  unfolding ◌followed_by◌ gives
  raw_read n w t (es, (u, v, fs, gs, x, i, j, d, q)) =
      let all : w ≡ u = d ∙ ap (λ (z : List ℕ). u ++ z) j.0 ∙ append-nil u in
      (j.2 ∙ ap Some (i.0 ∙ sym all), ap length all ∙ i.1)

  fits_room : (n room size : ℕ) → (if nat_le n room then Ok n else Err L1) ≡ Ok size → (size ≡ n) × (n ≤ room)
  fits_room n room size e = by (nat_le n room) refl e
    where
      by : (b : Bool) → nat_le n room ≡ b → (if b then Ok n else Err L1) ≡ Ok size → (size ≡ n) × (n ≤ room)
      by true k g = (cc g, leb-true n room k)
      by false k g = absurd (cc g)

  vector_read : (nullable : Bool) (room : ℕ) (w : List ℕ) (t : Option (List ℕ))
      → Says s (integer (unsigned_range 32) nullable D2 (sized room)) w t → SpellsVector s nullable room t w
  vector_read nullable room w t h = by (integer_read s (unsigned_range 32) nullable D2 (sized room) w t h)
    where
      by : (u v : List ℕ) × (x : Option ℤ) × SpellsInt s (unsigned_range 32) nullable x u × Says s (sized room x) v t × (w ≡ u ++ v)
          → SpellsVector s nullable room t w
      by (u, v, None, i, j, d) =
          let k = given s None v t j in
          alone (SpellsVector s nullable room t) u v w k.0 d (subst (λ (z : Option (List ℕ)). SpellsVector s nullable room z u) (sym k.1) i)
      by (u, v, Some (negsuc n), i, j, d) = absurd (omega (arith, ints, i.fits))
      by (u, v, Some (pos n), i, j, d) =
          let (size, e, k) = resulted s (if nat_le n room then Ok n else Err L1) (λ size. raw size (λ v. give (Some v))) v t j in
          let fits = fits_room n room size e in
          let all = raw_read size v t k in
          let long : length v ≡ n = all.1 ∙ fits.0 in
          subst (λ (z : Option (List ℕ)). SpellsVector s nullable room z w) (sym all.0)
          (u, subst (λ (z : ℕ). SpellsInt s (unsigned_range 32) nullable (Some (pos z)) u) (sym long) i, d, omega (arith, long, fits.1))

  text_read : (kind : Kind) (nullable : Bool) (room : ℕ) (w : List ℕ) (t : Option (List ℕ)) → Says s (text kind nullable room) w t
      → SpellsText s kind nullable room t w
  text_read Ascii nullable room w t h = ascii_read nullable room w t h
  text_read UInt32 nullable room w t h = vector_read nullable room w t h
  text_read Int32 nullable room w t h = vector_read nullable room w t h
  text_read UInt64 nullable room w t h = vector_read nullable room w t h
  text_read Int64 nullable room w t h = vector_read nullable room w t h
  text_read Decimal nullable room w t h = vector_read nullable room w t h
  text_read Unicode nullable room w t h = vector_read nullable room w t h
  text_read Bytes nullable room w t h = vector_read nullable room w t h

  text_nullable : (kind : Kind) (nullable : Bool) (room : ℕ) (w : List ℕ) → SpellsText s kind nullable room None w → nullable ≡ true
  text_nullable kind true room w h = refl
  text_nullable Ascii false room w h = absurd (cc h.0)
  text_nullable UInt32 false room w h = absurd h.meaning
  text_nullable Int32 false room w h = absurd h.meaning
  text_nullable UInt64 false room w h = absurd h.meaning
  text_nullable Int64 false room w h = absurd h.meaning
  text_nullable Decimal false room w h = absurd h.meaning
  text_nullable Unicode false room w h = absurd h.meaning
  text_nullable Bytes false room w h = absurd h.meaning

  -- An item that stands in the stream as it is.
  abbrev PlainOf : Family → FieldData → Sent → List ℕ → Type 0
  PlainOf k f null w = (f.optional ≡ true) × SpellsNull s l.max_text f k w
  PlainOf k f (value v) w = IsValueIn k f.kind v × SpellsValue s l.max_text f k v w
  PlainOf k f other w = ⊥

  integer_plain : (range : Range) (f : FieldData) (o : Option ℤ) (w : List ℕ) → SpellsInt s range f.optional o w
      → PlainOf (integers range) f (sent_integer f.kind o) w
  integer_plain range f None w h = (is_nullable s range f.optional w h, h)
  integer_plain range f (Some x) w h = ((x, h.fits, refl), (x, refl, h))

  text_plain : (f : FieldData) (t : Option (List ℕ)) (w : List ℕ) → SpellsText s f.kind f.optional l.max_text t w → PlainOf texts f (sent_text f.kind t) w
  text_plain f None w h = (text_nullable f.kind f.optional l.max_text w h, h)
  text_plain f (Some t) w h = ((t, refl), (t, refl, h))

  item_read : (k : Family) (f : FieldData) (w : List ℕ) (x : Sent) → Says s (item_in k B f) w x → PlainOf k f x w
  item_read (integers range) f w x h =
      let (u, v, o, i, j, d) = integer_read s range f.optional D2 (λ x. give (sent_integer f.kind x)) w x h in
      let k = given s (sent_integer f.kind o) v x j in
      alone (PlainOf (integers range) f x) u v w k.0 d (subst (λ (z : Sent). PlainOf (integers range) f z u) (sym k.1) (integer_plain range f o u i))
  item_read texts f w x h =
      let (u, v, t, i, j, d) = in_turn s (text f.kind f.optional l.max_text) (λ v. give (sent_text f.kind v)) w x h in
      let k = given s (sent_text f.kind t) v x j in
      alone (PlainOf texts f x) u v w k.0 d (subst (λ (z : Sent). PlainOf texts f z u) (sym k.1)
      (text_plain f t u (text_read f.kind f.optional l.max_text u t i)))
  item_read decimals f w x h = by (integer_read s exponent_range f.optional R1 decimal_from w x h)
    where
      behind : (u v : List ℕ) (e : ℤ) → SpellsInt s exponent_range f.optional (Some e) u → w ≡ u ++ v
          → (y z : List ℕ) × (m : Option ℤ) × SpellsInt s (signed_range 63) false m y × Says s (give (sent_decimal e m)) z x × (v ≡ y ++ z)
          → PlainOf decimals f x w
      behind u v e i d (y, z, None, j, k, c) = absurd j.meaning
      behind u v e i d (y, z, Some m, j, k, c) =
          let g = given s (value (Dec e m)) z x k in
          subst (λ (a : Sent). PlainOf decimals f a w) (sym g.1)
          ((e, m, i.fits, j.fits, refl), (e, m, refl, (u, y, i, j, d ∙ ap (λ (q : List ℕ). u ++ q) (sym (all_first y z v g.0 c)))))

      by : (u v : List ℕ) × (e : Option ℤ) × SpellsInt s exponent_range f.optional e u × Says s (decimal_from e) v x × (w ≡ u ++ v) → PlainOf decimals f x w
      by (u, v, None, i, j, d) =
          let k = given s null v x j in
          alone (PlainOf decimals f x) u v w k.0 d (subst (λ (z : Sent). PlainOf decimals f z u) (sym k.1) (is_nullable s exponent_range f.optional u i, i))
      by (u, v, Some e, i, j, d) = behind u v e i d (integer_read s (signed_range 63) false R1 (λ m. give (sent_decimal e m)) v x j)

  -- A delta of a family, and what it comes to.
  abbrev ChangeOf : Family → FieldData → PreviousData → Outcome → List ℕ → Type 0
  ChangeOf k f p o w = (x : Sent) × IsDeltaIn k f.optional x × (sent_delta f p x ≡ Ok o) × SpellsItemBy s l.max_text Delta f p x w

  -- a step, and then another
  joined_steps : {A C : Type 0} (r : Result A Code) (k : A → Result C Code) (a : A) (c : C) → r ≡ Ok a → k a ≡ Ok c
      → Rattle.fast_dict.specs.meaning.Operators.◌>>=◌ r k ≡ Ok c
  joined_steps r k a c e h = rw e h

  null_change_read : (k : Family) (f : FieldData) (q : family f.kind ≡ k) (p : PreviousData) (o : Outcome) (w u v : List ℕ) (r : Range)
      → SpellsNoDelta s f k ≡ SpellsInt s r f.optional None
      → (f.optional ≡ true → IsDeltaIn k f.optional null) → SpellsInt s r f.optional None u → Says s (of_result (gives_none p)) v o
      → w ≡ u ++ v → ChangeOf k f p o w
  null_change_read k f q p o w u v r same delta i j d =
      let g = result_is s (gives_none p) v o j in
      let spelled : SpellsNoDelta s f (family f.kind) u = subst (λ (z : Family). SpellsNoDelta s f z u) (sym q)
      (subst (λ (z : List ℕ → Type 0). z u) (sym same) i) in
      (null, delta (is_nullable s r f.optional u i), g.1, alone (SpellsItemBy s l.max_text Delta f p null) u v w g.0 d spelled)

  integer_change_read : (range : Range) (f : FieldData) → family f.kind ≡ integers range → (p : PreviousData) (w : List ℕ) (o : Outcome)
      → Says s (change_in (integers range) B f p) w o → ChangeOf (integers range) f p o w
  integer_change_read range f q p w o h = by (integer_read s delta_range f.optional D2 (integer_change f p) w o h)
    where
      by : (u v : List ℕ) × (x : Option ℤ) × SpellsInt s delta_range f.optional x u × Says s (integer_change f p x) v o × (w ≡ u ++ v)
          → ChangeOf (integers range) f p o w
      by (u, v, None, i, j, d) = null_change_read (integers range) f q p o w u v delta_range refl (λ t. t) i j d
      by (u, v, Some k, i, j, d) =
          let g = result_is s (integer_step f p k) v o j in
          (integer_delta k, tt, g.1, alone (SpellsItemBy s l.max_text Delta f p (integer_delta k)) u v w g.0 d i)

  decimal_change_read : (f : FieldData) → family f.kind ≡ decimals → (p : PreviousData) (w : List ℕ) (o : Outcome)
      → Says s (change_in decimals B f p) w o → ChangeOf decimals f p o w
  decimal_change_read f q p w o h = by (integer_read s delta_range f.optional D2 (decimal_change f p) w o h)
    where
      behind : (u v : List ℕ) (k e : ℤ) → exponent_step f p k ≡ Ok e → SpellsInt s delta_range f.optional (Some k) u → w ≡ u ++ v
          → (y z : List ℕ) × (m : Option ℤ) × SpellsInt s delta_range false m y × Says s (mantissa_change f p e m) z o × (v ≡ y ++ z)
          → ChangeOf decimals f p o w
      behind u v k e step i d (y, z, None, j, n, c) = absurd j.meaning
      behind u v k e step i d (y, z, Some m, j, n, c) =
          let g = result_is s (mantissa_step f p e m) z o n in (
            decimal_delta k m,
            tt,
            joined_steps (exponent_step f p k) (λ e. mantissa_step f p e m) e o step g.1,
            (u, y, i, j, d ∙ ap (λ (q : List ℕ). u ++ q) (sym (all_first y z v g.0 c))),
          )

      by : (u v : List ℕ) × (x : Option ℤ) × SpellsInt s delta_range f.optional x u × Says s (decimal_change f p x) v o × (w ≡ u ++ v)
          → ChangeOf decimals f p o w
      by (u, v, None, i, j, d) = null_change_read decimals f q p o w u v delta_range refl (λ t. t) i j d
      by (u, v, Some k, i, j, d) =
          let (e, step, n) = resulted s (exponent_step f p k) (λ e. integer delta_range false D2 (mantissa_change f p e)) v o j in
          behind u v k e step i d (integer_read s delta_range false D2 (mantissa_change f p e) v o n)

  text_change_read : (f : FieldData) → family f.kind ≡ texts → (p : PreviousData) (w : List ℕ) (o : Outcome)
      → Says s (change_in texts B f p) w o → ChangeOf texts f p o w
  text_change_read f q p w o h = by (integer_read s (signed_range 31) f.optional D7 (text_change B f p) w o h)
    where
      behind : (u v : List ℕ) (k : ℤ) (kept : Kept) → subtraction_step f p k ≡ Ok kept → SpellsInt s (signed_range 31) f.optional (Some k) u → w ≡ u ++ v
          → InTurn s (text f.kind false (l.max_text - kept_length kept)) (part_change f p kept) v o → ChangeOf texts f p o w
      behind u v k kept step i d (y, z, None, j, n, c) = absurd
          (cc (text_nullable f.kind false (l.max_text - kept_length kept) y
          (text_read f.kind false (l.max_text - kept_length kept) y None j)))
      behind u v k kept step i d (y, z, Some part, j, n, c) =
          let g = result_is s (text_step f kept part) z o n in (
            text_delta k part,
            tt,
            joined_steps (subtraction_step f p k) (λ kept. text_step f kept part) kept o step g.1,
            (
              kept,
              u,
              y,
              step,
              i,
              text_read f.kind false (l.max_text - kept_length kept) y (Some part) j,
              d
                  ∙ ap (λ (q : List ℕ). u ++ q) (sym (all_first y z v g.0 c)),
            ),
          )

      by : (u v : List ℕ) × (x : Option ℤ) × SpellsInt s (signed_range 31) f.optional x u × Says s (text_change B f p x) v o × (w ≡ u ++ v)
          → ChangeOf texts f p o w
      by (u, v, None, i, j, d) = null_change_read texts f q p o w u v (signed_range 31) refl (λ t. t) i j d
      by (u, v, Some k, i, j, d) =
          let (kept, step, n) = resulted s (subtraction_step f p k)
          (λ kept. text f.kind false (l.max_text - kept_length kept) >>= part_change f p kept) v o j in
          behind u v k kept step i d (in_turn s (text f.kind false (l.max_text - kept_length kept)) (part_change f p kept) v o n)

  change_read : (k : Family) (f : FieldData) → family f.kind ≡ k → (p : PreviousData) (w : List ℕ) (o : Outcome)
      → Says s (change_in k B f p) w o → ChangeOf k f p o w
  change_read (integers range) f q p w o h = integer_change_read range f q p w o h
  change_read decimals f q p w o h = decimal_change_read f q p w o h
  change_read texts f q p w o h = text_change_read f q p w o h

  abbrev ItemBy : Operator → FieldData → PreviousData → Bool → List ℕ → Outcome → Type 0
  ItemBy o f p bit w out = (x : Sent) × IsItemBy o bit f x × (decide_by o bit f p x ≡ Ok out) × SpellsItemBy s l.max_text o f p x w

  abbrev IsNoDelta : Operator → Type 0
  IsNoDelta Delta = ⊥
  IsNoDelta o = Unit {0}

  plain_spelled : (o : Operator) → IsNoDelta o → (f : FieldData) (p : PreviousData) (x : Sent) (w : List ℕ) → PlainOf (family f.kind) f x w
      → SpellsItemBy s l.max_text o f p x w × IsPlainItem f x
  plain_spelled Delta n f p x w h = absurd n
  plain_spelled no_operator n f p null w h = (h.1, h.0)
  plain_spelled Constant n f p null w h = (h.1, h.0)
  plain_spelled Default n f p null w h = (h.1, h.0)
  plain_spelled Copy n f p null w h = (h.1, h.0)
  plain_spelled Increment n f p null w h = (h.1, h.0)
  plain_spelled Tail n f p null w h = (h.1, h.0)
  plain_spelled o n f p (value v) w h = (h.1, h.0)
  plain_spelled o n f p other w h = absurd h

  sent_read : (o : Operator) → IsNoDelta o → (f : FieldData) (p : PreviousData) (w : List ℕ) (out : Outcome) → f.operator ≡ o → Says s (sent B f p) w out
      → (x : Sent) × IsPlainItem f x × (decide_by o true f p x ≡ Ok out) × SpellsItemBy s l.max_text o f p x w
  sent_read o n f p w out q h =
      let (u, v, x, i, j, d) = in_turn s (item B f) (λ x. of_result (decide f p true x)) w out h in
      let g = result_is s (decide f p true x) v out j in
      let (spelled, plain) = plain_spelled o n f p x u (item_read (family f.kind) f u x i) in
      (x, plain, subst (λ (z : Operator). decide_by z true f p x ≡ Ok out) q g.1, alone (SpellsItemBy s l.max_text o f p x) u v w g.0 d spelled)

  unsent_read : (o : Operator) (bit : Bool) (f : FieldData) (p : PreviousData) (w : List ℕ) (out : Outcome) → f.operator ≡ o
      → Says s (not_sent f p bit) w out → (decide_by o bit f p nothing ≡ Ok out) × (w ≡ [])
  unsent_read o bit f p w out q h =
      let g = result_is s (decide f p bit nothing) w out h in
      (subst (λ (z : Operator). decide_by z bit f p nothing ≡ Ok out) q g.1, g.0)

  read_by : (o : Operator) (bit : Bool) (f : FieldData) (p : PreviousData) (w : List ℕ) (out : Outcome) → f.operator ≡ o
      → Says s (field_by o bit B f p) w out → ItemBy o f p bit w out
  read_by no_operator bit f p w out q h = sent_read no_operator tt f p w out q h
  read_by Constant bit f p w out q h = let g = unsent_read Constant bit f p w out q h in (nothing, refl, g.0, g.1)
  read_by Delta bit f p w out q h = change_read (family f.kind) f refl p w out h
  read_by Default true f p w out q h = sent_read Default tt f p w out q h
  read_by Copy true f p w out q h = sent_read Copy tt f p w out q h
  read_by Increment true f p w out q h = sent_read Increment tt f p w out q h
  read_by Tail true f p w out q h = sent_read Tail tt f p w out q h
  read_by Default false f p w out q h = let g = unsent_read Default false f p w out q h in (nothing, refl, g.0, g.1)
  read_by Copy false f p w out q h = let g = unsent_read Copy false f p w out q h in (nothing, refl, g.0, g.1)
  read_by Increment false f p w out q h = let g = unsent_read Increment false f p w out q h in (nothing, refl, g.0, g.1)
  read_by Tail false f p w out q h = let g = unsent_read Tail false f p w out q h in (nothing, refl, g.0, g.1)

pub item_read_back : (l : Limits) (f : FieldData) (p : PreviousData) (bit : Bool) (w : List ℕ) (v : Option ScalarData)
    (next : PreviousData) → field_phrase l f p bit w [] (whole (record {
      value = v;
      next = next;
    })) → IsByItem l f p bit v next w
unfolding field_term
item_read_back l f p bit w v next h =
    let (x, suited, decided, spelled) = read_by l.strict l f.operator bit f p w (record { value = v; next = next }) refl ([], h) in
    (x, spelled, (suited, decided))
