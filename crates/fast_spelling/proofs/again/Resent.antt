-- The item that a field's bytes are, with its bytes in strict mode.
use Rattle.std.proofs.Common.{◌≡◌, ℕ, ◌+◌, ◌-◌, ◌≤◌, List, [], ◌++◌, length, refl, ap, sym, subst, ◌∙◌, arith, append_assoc, append-nil}
use Rattle.std.specs.Prelude.{Bool, true, false, nat_le, if◌then◌else◌, ℤ, pos, negsuc, Option, Some, None, Result, Ok, Err}
use Rattle.std.proofs.lemmas.Int.{ints}
use Rattle.std.proofs.lemmas.Bool.{leb-true}
use Rattle.std.proofs.lemmas.List.{length-append}
use Rattle.fast_wire.specs.meaning.Integers.{Range, unsigned_range, signed_range, exponent_range, delta_range, SpellsInt}
use Rattle.fast_wire.specs.meaning.Texts.{SpellsAscii, SpellsVector}
use Rattle.fast_wire.specs.meaning.Maps.{IsMap}
use Rattle.fast_value.specs.declared.kinds.Kind.{Kind}
use Rattle.fast_value.specs.declared.kinds.Kind.TheVariants.{UInt32, Int32, UInt64, Int64, Decimal, Ascii, Unicode, Bytes}
use Rattle.fast_value.specs.meaning.Kinds.{Dec, Family, integers, decimals, texts, family}
use Rattle.fast_value.specs.declared.settings.Limits.{Limits}
use Rattle.fast_value.specs.meaning.Limits.{Bounds, bounds}
use Rattle.fast_value.specs.declared.codes.Code.{Code}
use Rattle.fast_value.specs.declared.codes.Code.TheVariants.{D2, D7, L1, R1}
use Rattle.fast_tree.specs.declared.operators.Operator.{Operator}
use Rattle.fast_tree.specs.declared.operators.Operator.TheVariants.{None as no_operator, Constant, Default, Copy, Increment, Delta, Tail}
use Rattle.fast_tree.specs.meaning.Tree.{FieldData}
use Rattle.fast_dict.specs.meaning.Dictionary.{PreviousData}
use Rattle.fast_dict.specs.meaning.Operators.{Op, Outcome, Sent, nothing, null, value, integer_delta, decimal_delta, text_delta, Kept}
use Rattle.fast_dict.specs.meaning.Operators.{kept_length, IsValueIn, IsPlainItem, IsDeltaIn, IsItemBy, decide, decide_by, sent_delta}
use Rattle.fast_dict.specs.meaning.Operators.{gives_none, integer_step, exponent_step, mantissa_step, subtraction_step, text_step}
use Rattle.fast_stream.specs.meaning.Events.{EventData}
use Rattle.fast_stream.specs.meaning.Phrases.{whole, Phrase, gives, hands, settles, ◌followed_by◌}
use Rattle.fast_stream.specs.meaning.Units
use Rattle.fast_stream.specs.meaning.Grammar.{Grammar, give, fault, hand, integer, ascii_text, raw, presence_map, narrow, ◌>>=◌, of_result, phrase_of}
use Rattle.fast_stream.specs.meaning.Fields.{sized, text, sent_integer, sent_text, sent_decimal, decimal_from, item_in, item}
use Rattle.fast_stream.specs.meaning.Fields.{integer_change, mantissa_change, decimal_change, part_change, text_change, change_in, sent}
use Rattle.fast_stream.specs.meaning.Fields.{not_sent, field_by, field_term}
use Rattle.fast_spelling.specs.meaning.Encoding.{Shortest, ShortestText, ShortestNull, ShortestNoDelta, ShortestValue, SpellsSentBy}
use Rattle.fast_spelling.proofs.bytes.Respelled.{respelled}

-- The bytes are the term whole, with some events.
abbrev pub Says : {A : Type 0} → Bool → Grammar A → List ℕ → A → Type 0
Says s g w a = (es : List EventData) × phrase_of s g w es (whole a)

-- The bytes of two terms in a row.
abbrev pub InTurn : {A B : Type 0} → Bool → Grammar A → (A → Grammar B) → List ℕ → B → Type 0
InTurn {A} s g k w b = (u v : List ℕ) × (a : A) × Says s g u a × Says s (k a) v b × (w ≡ u ++ v)

-- behind a unit
unit_first : {X A B : Type 0} (s : Bool) (p : Phrase X) (q : X → Grammar A) (m : X → Grammar B) (k : A → Grammar B) (b : B)
    → ((x : X) (v : List ℕ) → Says s (m x) v b → InTurn s (q x) k v b) → (w : List ℕ) (es : List EventData)
    → ◌followed_by◌ p (λ x. phrase_of s (m x)) w es (whole b)
    → (u v : List ℕ) × (a : A) × ((fs : List EventData) × ◌followed_by◌ p (λ x. phrase_of s (q x)) u fs (whole a)) × Says s (k a) v b × (w ≡ u ++ v)
unfolding ◌followed_by◌
unit_first s p q m k b f w es (u, v, fs, gs, x, i, j, d, e) =
    let (u', v', a, h, n, r) = f x v (gs, j) in
    (u ++ u', v', a, (fs ++ h.0, (u, u', fs, h.0, x, i, h.1, refl, refl)), n, d ∙ ap (λ (z : List ℕ). u ++ z) r ∙ sym (append_assoc u u' v'))

pub in_turn : {A B : Type 0} (s : Bool) (g : Grammar A) (k : A → Grammar B) (w : List ℕ) (b : B) → Says s (g >>= k) w b → InTurn s g k w b
unfolding gives settles
in_turn s (give a) k w b h = ([], w, a, ([], (refl, refl, refl)), h, refl)
in_turn s (fault c) k w b (es, h) = absurd h
in_turn s (hand e g) k w b (es, h) = unit_first s (hands e) (λ _. g) (λ _. g >>= k) k b (λ _ v. in_turn s g k v b) w es h
in_turn s (integer range nullable c g) k w b (es, h) = unit_first s (Units.integer s range nullable c) g (λ x. g x >>= k) k b
    (λ x v. in_turn s (g x) k v b) w es h
in_turn s (ascii_text nullable room g) k w b (es, h) = unit_first s (Units.ascii_text nullable room) g (λ x. g x >>= k) k b
    (λ x v. in_turn s (g x) k v b) w es h
in_turn s (raw n g) k w b (es, h) = unit_first s (Units.raw n) g (λ x. g x >>= k) k b (λ x v. in_turn s (g x) k v b) w es h
in_turn s (presence_map g) k w b (es, h) = unit_first s (Units.presence_map s) g (λ x. g x >>= k) k b (λ x v. in_turn s (g x) k v b) w es h
in_turn s (narrow n m g) k w b (es, h) = unit_first s (settles (Units.width_checked s n m)) (λ _. g) (λ _. g >>= k) k b (λ _ v. in_turn s g k v b) w es h

pub given : {A : Type 0} (s : Bool) (a : A) (w : List ℕ) (b : A) → Says s (give a) w b → (w ≡ []) × (b ≡ a)
unfolding gives
given s a w b (es, h) = (h.0, h.2)

pub resulted : {A B : Type 0} (s : Bool) (r : Result A Code) (k : A → Grammar B) (w : List ℕ) (b : B) → Says s (of_result r >>= k) w b
    → (a : A) × (r ≡ Ok a) × Says s (k a) w b
unfolding settles
resulted s (Ok a) k w b h = (a, refl, h)
resulted s (Err c) k w b (es, h) = absurd h

pub result_is : {A : Type 0} (s : Bool) (r : Result A Code) (w : List ℕ) (a : A) → Says s (of_result r) w a → (w ≡ []) × (r ≡ Ok a)
unfolding gives settles
result_is s (Ok b) w a (es, h) = (h.0, ap Ok (sym h.2))
result_is s (Err c) w a (es, h) = absurd h

pub handed_over : {A : Type 0} (s : Bool) (e : EventData) (g : Grammar A) (w : List ℕ) (a : A) → Says s (hand e g) w a → Says s g w a
unfolding ◌followed_by◌ hands
handed_over s e g w a (es, (u, v, fs, gs, x, i, j, d, q)) = subst (λ (z : List ℕ). Says s g z a) (sym (d ∙ ap (λ (z : List ℕ). z ++ v) i.0)) (gs, j)

pub integer_read : {A : Type 0} (s : Bool) (range : Range) (nullable : Bool) (c : Code) (g : Option ℤ → Grammar A) (w : List ℕ) (a : A)
    → Says s (integer range nullable c g) w a
    → (u v : List ℕ) × (x : Option ℤ) × SpellsInt s range nullable x u × Says s (g x) v a × (w ≡ u ++ v)
unfolding ◌followed_by◌
integer_read s range nullable c g w a (es, (u, v, fs, gs, x, i, j, d, q)) = (u, v, x, i.0, (gs, j), d)

pub map_read : {A : Type 0} (s : Bool) (g : List ℕ → Grammar A) (w : List ℕ) (a : A) → Says s (presence_map g) w a
    → (u v : List ℕ) × IsMap s u × Says s (g u) v a × (w ≡ u ++ v)
unfolding ◌followed_by◌
map_read s g w a (es, (u, v, fs, gs, x, i, j, d, q)) = (u, v, i.0, subst (λ (z : List ℕ). Says s (g z) v a) i.1 (gs, j), d)

pub narrowed : {A : Type 0} (s : Bool) (n : ℕ) (m : List ℕ) (g : Grammar A) (w : List ℕ) (a : A) → Says s (narrow n m g) w a → Says s g w a
unfolding ◌followed_by◌ settles gives
narrowed s n m g w a (es, (u, v, fs, gs, x, i, j, d, q)) = by (Units.width_checked s n m) i
  where
    by : (r : Result (Unit {0}) Code) → settles r u fs (whole x) → Says s g w a
    by (Ok z) k = subst (λ (z : List ℕ). Says s g z a) (sym (d ∙ ap (λ (z : List ℕ). z ++ v) k.0)) (gs, j)
    by (Err c) k = absurd k

-- where NULL was read, it may be
pub is_nullable : (s : Bool) (range : Range) (nullable : Bool) (w : List ℕ) → SpellsInt s range nullable None w → nullable ≡ true
is_nullable s range true w h = refl
is_nullable s range false w h = absurd h.meaning

-- a value, and bytes that are no more than these
abbrev pub Shorter : (List ℕ → Type 0) → List ℕ → Type 0
Shorter P w = (v : List ℕ) × P v × (length v ≤ length w)

alone : (P : List ℕ → Type 0) (u v w : List ℕ) → v ≡ [] → w ≡ u ++ v → Shorter P u → Shorter P w
alone P u v w e d (x, h, i) = (x, h, omega (arith, i, ap length d, length-append u v))

module _ (s : Bool) (l : Limits) where
  abbrev B : Bounds
  B = bounds l

  ascii_read : (nullable : Bool) (room : ℕ) (w : List ℕ) (t : Option (List ℕ)) → Says s (ascii_text nullable room give) w t
      → Shorter (SpellsAscii nullable room t) w
  unfolding ◌followed_by◌ gives
  ascii_read nullable room w t (es, (u, v, fs, gs, x, i, j, d, q)) =
      alone (SpellsAscii nullable room t) u v w j.0 d (
        u,
        subst (λ (z : Option (List ℕ)). SpellsAscii nullable room z u) (sym j.2) i.0,
        omega arith,
      )

  raw_read : (n : ℕ) (w : List ℕ) (t : Option (List ℕ)) → Says s (raw n (λ v. give (Some v))) w t → (t ≡ Some w) × (length w ≡ n)
  unfolding ◌followed_by◌ gives
  raw_read n w t (es, (u, v, fs, gs, x, i, j, d, q)) =
      let all : w ≡ u = d ∙ ap (λ (z : List ℕ). u ++ z) j.0 ∙ append-nil u in
      (j.2 ∙ ap Some (i.0 ∙ sym all), ap length all ∙ i.1)

  fits_room : (n room size : ℕ) → (if nat_le n room then Ok n else Err L1) ≡ Ok size → (size ≡ n) × (n ≤ room)
  fits_room n room size e = by (nat_le n room) refl e
    where
      by : (b : Bool) → nat_le n room ≡ b → (if b then Ok n else Err L1) ≡ Ok size → (size ≡ n) × (n ≤ room)
      by true k g = (cc g, leb-true n room k)
      by false k g = absurd (cc g)

  vector_read : (nullable : Bool) (room : ℕ) (w : List ℕ) (t : Option (List ℕ))
      → Says s (integer (unsigned_range 32) nullable D2 (sized room)) w t → Shorter (SpellsVector true nullable room t) w
  vector_read nullable room w t h = by (integer_read s (unsigned_range 32) nullable D2 (sized room) w t h)
    where
      by : (u v : List ℕ) × (x : Option ℤ) × SpellsInt s (unsigned_range 32) nullable x u × Says s (sized room x) v t × (w ≡ u ++ v)
          → Shorter (SpellsVector true nullable room t) w
      by (u, v, None, i, j, d) =
          let k = given s None v t j in
          alone (SpellsVector true nullable room t) u v w k.0 d
          (subst (λ (z : Option (List ℕ)). Shorter (SpellsVector true nullable room z) u) (sym k.1)
          (respelled s (unsigned_range 32) nullable None u i))
      by (u, v, Some (negsuc n), i, j, d) = absurd (omega (arith, ints, i.fits))
      by (u, v, Some (pos n), i, j, d) =
          let (size, e, k) = resulted s (if nat_le n room then Ok n else Err L1) (λ size. raw size (λ v. give (Some v))) v t j in
          let fits = fits_room n room size e in
          let all = raw_read size v t k in
          let long : length v ≡ n = all.1 ∙ fits.0 in
          let (u', i', short) = respelled s (unsigned_range 32) nullable (Some (pos n)) u i in
          subst (λ (z : Option (List ℕ)). Shorter (SpellsVector true nullable room z) w) (sym all.0) (
            u' ++ v,
            (
              u',
              subst (λ (z : ℕ). SpellsInt true (unsigned_range 32) nullable (Some (pos z)) u') (sym long) i',
              refl,
              omega (arith, long, fits.1),
            ),
            omega (arith, ap length d, length-append u v, length-append u' v, short),
          )

  text_read : (kind : Kind) (nullable : Bool) (room : ℕ) (w : List ℕ) (t : Option (List ℕ)) → Says s (text kind nullable room) w t
      → Shorter (ShortestText kind nullable room t) w
  text_read Ascii nullable room w t h = ascii_read nullable room w t h
  text_read UInt32 nullable room w t h = vector_read nullable room w t h
  text_read Int32 nullable room w t h = vector_read nullable room w t h
  text_read UInt64 nullable room w t h = vector_read nullable room w t h
  text_read Int64 nullable room w t h = vector_read nullable room w t h
  text_read Decimal nullable room w t h = vector_read nullable room w t h
  text_read Unicode nullable room w t h = vector_read nullable room w t h
  text_read Bytes nullable room w t h = vector_read nullable room w t h

  text_nullable : (kind : Kind) (nullable : Bool) (room : ℕ) (w : List ℕ) → ShortestText kind nullable room None w → nullable ≡ true
  text_nullable kind true room w h = refl
  text_nullable Ascii false room w h = absurd (cc h.0)
  text_nullable UInt32 false room w h = absurd h.meaning
  text_nullable Int32 false room w h = absurd h.meaning
  text_nullable UInt64 false room w h = absurd h.meaning
  text_nullable Int64 false room w h = absurd h.meaning
  text_nullable Decimal false room w h = absurd h.meaning
  text_nullable Unicode false room w h = absurd h.meaning
  text_nullable Bytes false room w h = absurd h.meaning

  -- An item that stands in the stream as it is.
  abbrev PlainOf : Family → FieldData → Sent → List ℕ → Type 0
  PlainOf k f null w = (f.optional ≡ true) × ShortestNull l f k w
  PlainOf k f (value v) w = IsValueIn k f.kind v × ShortestValue l f k v w
  PlainOf k f other w = ⊥

  integer_plain : (range : Range) (f : FieldData) (o : Option ℤ) (w : List ℕ) → SpellsInt true range f.optional o w
      → PlainOf (integers range) f (sent_integer f.kind o) w
  integer_plain range f None w h = (is_nullable true range f.optional w h, h)
  integer_plain range f (Some x) w h = ((x, h.fits, refl), (x, refl, h))

  text_plain : (f : FieldData) (t : Option (List ℕ)) (w : List ℕ) → ShortestText f.kind f.optional l.max_text t w → PlainOf texts f (sent_text f.kind t) w
  text_plain f None w h = (text_nullable f.kind f.optional l.max_text w h, h)
  text_plain f (Some t) w h = ((t, refl), (t, refl, h))

  item_read : (k : Family) (f : FieldData) (w : List ℕ) (x : Sent) → Says s (item_in k B f) w x → Shorter (PlainOf k f x) w
  item_read (integers range) f w x h =
      let (u, v, o, i, j, d) = integer_read s range f.optional D2 (λ x. give (sent_integer f.kind x)) w x h in
      let k = given s (sent_integer f.kind o) v x j in
      let (u', i', short) = respelled s range f.optional o u i in
      alone (PlainOf (integers range) f x) u v w k.0 d (subst (λ (z : Sent). Shorter (PlainOf (integers range) f z) u) (sym k.1)
      (u', integer_plain range f o u' i', short))
  item_read texts f w x h =
      let (u, v, t, i, j, d) = in_turn s (text f.kind f.optional l.max_text) (λ v. give (sent_text f.kind v)) w x h in
      let k = given s (sent_text f.kind t) v x j in
      let (u', i', short) = text_read f.kind f.optional l.max_text u t i in
      alone (PlainOf texts f x) u v w k.0 d (subst (λ (z : Sent). Shorter (PlainOf texts f z) u) (sym k.1) (u', text_plain f t u' i', short))
  item_read decimals f w x h = by (integer_read s exponent_range f.optional R1 decimal_from w x h)
    where
      behind : (u v : List ℕ) (e : ℤ) → SpellsInt s exponent_range f.optional (Some e) u → w ≡ u ++ v
          → (y z : List ℕ) × (m : Option ℤ) × SpellsInt s (signed_range 63) false m y × Says s (give (sent_decimal e m)) z x × (v ≡ y ++ z)
          → Shorter (PlainOf decimals f x) w
      behind u v e i d (y, z, None, j, k, c) = absurd j.meaning
      behind u v e i d (y, z, Some m, j, k, c) =
          let g = given s (value (Dec e m)) z x k in
          let (u', i', short) = respelled s exponent_range f.optional (Some e) u i in
          let (y', j', brief) = respelled s (signed_range 63) false (Some m) y j in
          let all : length w ≡ length u + (length y + length z) = ap length d ∙ length-append u v
          ∙ ap (λ (n : ℕ). length u + n) (ap length c ∙ length-append y z) in
          subst (λ (a : Sent). Shorter (PlainOf decimals f a) w) (sym g.1) (
            u' ++ y',
            ((e, m, i.fits, j.fits, refl), (e, m, refl, (u', y', i', j', refl))),
            omega (arith, all, length-append u' y', short, brief),
          )

      by : (u v : List ℕ) × (e : Option ℤ) × SpellsInt s exponent_range f.optional e u × Says s (decimal_from e) v x × (w ≡ u ++ v)
          → Shorter (PlainOf decimals f x) w
      by (u, v, None, i, j, d) =
          let k = given s null v x j in
          let (u', i', short) = respelled s exponent_range f.optional None u i in
          alone (PlainOf decimals f x) u v w k.0 d (subst (λ (z : Sent). Shorter (PlainOf decimals f z) u) (sym k.1)
          (u', (is_nullable true exponent_range f.optional u' i', i'), short))
      by (u, v, Some e, i, j, d) = behind u v e i d (integer_read s (signed_range 63) false R1 (λ m. give (sent_decimal e m)) v x j)

  -- A delta of a family, and what it comes to.
  abbrev ChangeOf : Family → FieldData → PreviousData → Outcome → List ℕ → Type 0
  ChangeOf k f p o w = (x : Sent) × IsDeltaIn k f.optional x × (sent_delta f p x ≡ Ok o) × Shorter (SpellsSentBy Delta l f p x) w

  -- a step, and then another
  joined_steps : {A C : Type 0} (r : Result A Code) (k : A → Result C Code) (a : A) (c : C) → r ≡ Ok a → k a ≡ Ok c
      → Rattle.fast_dict.specs.meaning.Operators.◌>>=◌ r k ≡ Ok c
  joined_steps r k a c e h = rw e h

  null_change_read : (k : Family) (f : FieldData) (q : family f.kind ≡ k) (p : PreviousData) (o : Outcome) (w u v : List ℕ) (r : Range)
      → ShortestNoDelta f k ≡ Shortest r f.optional None
      → (f.optional ≡ true → IsDeltaIn k f.optional null) → SpellsInt s r f.optional None u → Says s (of_result (gives_none p)) v o
      → w ≡ u ++ v → ChangeOf k f p o w
  null_change_read k f q p o w u v r same delta i j d =
      let g = result_is s (gives_none p) v o j in
      let (u', i', short) = respelled s r f.optional None u i in
      let spelled : ShortestNoDelta f (family f.kind) u' = subst (λ (z : Family). ShortestNoDelta f z u') (sym q)
      (subst (λ (z : List ℕ → Type 0). z u') (sym same) i') in
      (null, delta (is_nullable true r f.optional u' i'), g.1, alone (SpellsSentBy Delta l f p null) u v w g.0 d (u', spelled, short))

  integer_change_read : (range : Range) (f : FieldData) → family f.kind ≡ integers range → (p : PreviousData) (w : List ℕ) (o : Outcome)
      → Says s (change_in (integers range) B f p) w o → ChangeOf (integers range) f p o w
  integer_change_read range f q p w o h = by (integer_read s delta_range f.optional D2 (integer_change f p) w o h)
    where
      by : (u v : List ℕ) × (x : Option ℤ) × SpellsInt s delta_range f.optional x u × Says s (integer_change f p x) v o × (w ≡ u ++ v)
          → ChangeOf (integers range) f p o w
      by (u, v, None, i, j, d) = null_change_read (integers range) f q p o w u v delta_range refl (λ t. t) i j d
      by (u, v, Some k, i, j, d) =
          let g = result_is s (integer_step f p k) v o j in
          let (u', i', short) = respelled s delta_range f.optional (Some k) u i in
          (integer_delta k, tt, g.1, alone (SpellsSentBy Delta l f p (integer_delta k)) u v w g.0 d (u', i', short))

  decimal_change_read : (f : FieldData) → family f.kind ≡ decimals → (p : PreviousData) (w : List ℕ) (o : Outcome)
      → Says s (change_in decimals B f p) w o → ChangeOf decimals f p o w
  decimal_change_read f q p w o h = by (integer_read s delta_range f.optional D2 (decimal_change f p) w o h)
    where
      behind : (u v : List ℕ) (k e : ℤ) → exponent_step f p k ≡ Ok e → SpellsInt s delta_range f.optional (Some k) u → w ≡ u ++ v
          → (y z : List ℕ) × (m : Option ℤ) × SpellsInt s delta_range false m y × Says s (mantissa_change f p e m) z o × (v ≡ y ++ z)
          → ChangeOf decimals f p o w
      behind u v k e step i d (y, z, None, j, n, c) = absurd j.meaning
      behind u v k e step i d (y, z, Some m, j, n, c) =
          let g = result_is s (mantissa_step f p e m) z o n in
          let (u', i', short) = respelled s delta_range f.optional (Some k) u i in
          let (y', j', brief) = respelled s delta_range false (Some m) y j in
          let all : length w ≡ length u + (length y + length z) = ap length d ∙ length-append u v
          ∙ ap (λ (n : ℕ). length u + n) (ap length c ∙ length-append y z) in (
            decimal_delta k m,
            tt,
            joined_steps (exponent_step f p k) (λ e. mantissa_step f p e m) e o step g.1,
            (u' ++ y', (u', y', i', j', refl), omega (arith, all, length-append u' y', short, brief)),
          )

      by : (u v : List ℕ) × (x : Option ℤ) × SpellsInt s delta_range f.optional x u × Says s (decimal_change f p x) v o × (w ≡ u ++ v)
          → ChangeOf decimals f p o w
      by (u, v, None, i, j, d) = null_change_read decimals f q p o w u v delta_range refl (λ t. t) i j d
      by (u, v, Some k, i, j, d) =
          let (e, step, n) = resulted s (exponent_step f p k) (λ e. integer delta_range false D2 (mantissa_change f p e)) v o j in
          behind u v k e step i d (integer_read s delta_range false D2 (mantissa_change f p e) v o n)

  text_change_read : (f : FieldData) → family f.kind ≡ texts → (p : PreviousData) (w : List ℕ) (o : Outcome)
      → Says s (change_in texts B f p) w o → ChangeOf texts f p o w
  text_change_read f q p w o h = by (integer_read s (signed_range 31) f.optional D7 (text_change B f p) w o h)
    where
      behind : (u v : List ℕ) (k : ℤ) (kept : Kept) → subtraction_step f p k ≡ Ok kept → SpellsInt s (signed_range 31) f.optional (Some k) u → w ≡ u ++ v
          → InTurn s (text f.kind false (l.max_text - kept_length kept)) (part_change f p kept) v o → ChangeOf texts f p o w
      behind u v k kept step i d (y, z, None, j, n, c) =
          let (y', j', brief) = text_read f.kind false (l.max_text - kept_length kept) y None j in
          absurd (cc (text_nullable f.kind false (l.max_text - kept_length kept) y' j'))
      behind u v k kept step i d (y, z, Some part, j, n, c) =
          let g = result_is s (text_step f kept part) z o n in
          let (u', i', short) = respelled s (signed_range 31) f.optional (Some k) u i in
          let (y', j', brief) = text_read f.kind false (l.max_text - kept_length kept) y (Some part) j in
          let all : length w ≡ length u + (length y + length z) = ap length d ∙ length-append u v
          ∙ ap (λ (n : ℕ). length u + n) (ap length c ∙ length-append y z) in (
            text_delta k part,
            tt,
            joined_steps (subtraction_step f p k) (λ kept. text_step f kept part) kept o step g.1,
            (u' ++ y', (kept, u', y', step, i', j', refl), omega (arith, all, length-append u' y', short, brief)),
          )

      by : (u v : List ℕ) × (x : Option ℤ) × SpellsInt s (signed_range 31) f.optional x u × Says s (text_change B f p x) v o × (w ≡ u ++ v)
          → ChangeOf texts f p o w
      by (u, v, None, i, j, d) = null_change_read texts f q p o w u v (signed_range 31) refl (λ t. t) i j d
      by (u, v, Some k, i, j, d) =
          let (kept, step, n) = resulted s (subtraction_step f p k)
          (λ kept. text f.kind false (l.max_text - kept_length kept) >>= part_change f p kept) v o j in
          behind u v k kept step i d (in_turn s (text f.kind false (l.max_text - kept_length kept)) (part_change f p kept) v o n)

  change_read : (k : Family) (f : FieldData) → family f.kind ≡ k → (p : PreviousData) (w : List ℕ) (o : Outcome)
      → Says s (change_in k B f p) w o → ChangeOf k f p o w
  change_read (integers range) f q p w o h = integer_change_read range f q p w o h
  change_read decimals f q p w o h = decimal_change_read f q p w o h
  change_read texts f q p w o h = text_change_read f q p w o h

  -- The item of a field's bytes.
  pub record Resent (f : FieldData) (p : PreviousData) (bit : Bool) (w : List ℕ) (out : Outcome) : Type 0 where
    pub item : Sent
    pub suited : IsItemBy f.operator bit f item
    pub decided : decide f p bit item ≡ Ok out
    pub bytes : List ℕ
    pub spelled : SpellsSentBy f.operator l f p item bytes
    pub short : length bytes ≤ length w

  abbrev ResentBy : Operator → FieldData → PreviousData → Bool → List ℕ → Outcome → Type 0
  ResentBy o f p bit w out = (x : Sent) × IsItemBy o bit f x × (decide_by o bit f p x ≡ Ok out) × Shorter (SpellsSentBy o l f p x) w

  abbrev IsNoDelta : Operator → Type 0
  IsNoDelta Delta = ⊥
  IsNoDelta o = Unit {0}

  plain_spelled : (o : Operator) → IsNoDelta o → (f : FieldData) (p : PreviousData) (x : Sent) (w : List ℕ) → PlainOf (family f.kind) f x w
      → SpellsSentBy o l f p x w × IsPlainItem f x
  plain_spelled Delta n f p x w h = absurd n
  plain_spelled no_operator n f p null w h = (h.1, h.0)
  plain_spelled Constant n f p null w h = (h.1, h.0)
  plain_spelled Default n f p null w h = (h.1, h.0)
  plain_spelled Copy n f p null w h = (h.1, h.0)
  plain_spelled Increment n f p null w h = (h.1, h.0)
  plain_spelled Tail n f p null w h = (h.1, h.0)
  plain_spelled o n f p (value v) w h = (h.1, h.0)
  plain_spelled o n f p other w h = absurd h

  sent_read : (o : Operator) → IsNoDelta o → (f : FieldData) (p : PreviousData) (w : List ℕ) (out : Outcome) → f.operator ≡ o → Says s (sent B f p) w out
      → (x : Sent) × IsPlainItem f x × (decide_by o true f p x ≡ Ok out) × Shorter (SpellsSentBy o l f p x) w
  sent_read o n f p w out q h =
      let (u, v, x, i, j, d) = in_turn s (item B f) (λ x. of_result (decide f p true x)) w out h in
      let g = result_is s (decide f p true x) v out j in
      let (u', i', short) = item_read (family f.kind) f u x i in
      let (spelled, plain) = plain_spelled o n f p x u' i' in
      (x, plain, subst (λ (z : Operator). decide_by z true f p x ≡ Ok out) q g.1, alone (SpellsSentBy o l f p x) u v w g.0 d (u', spelled, short))

  unsent_read : (o : Operator) (bit : Bool) (f : FieldData) (p : PreviousData) (w : List ℕ) (out : Outcome) → f.operator ≡ o
      → Says s (not_sent f p bit) w out → (decide_by o bit f p nothing ≡ Ok out) × Shorter (SpellsSentBy o l f p nothing) w
  unsent_read o bit f p w out q h =
      let g = result_is s (decide f p bit nothing) w out h in
      (subst (λ (z : Operator). decide_by z bit f p nothing ≡ Ok out) q g.1, ([], refl, omega arith))

  read_by : (o : Operator) (bit : Bool) (f : FieldData) (p : PreviousData) (w : List ℕ) (out : Outcome) → f.operator ≡ o
      → Says s (field_by o bit B f p) w out → ResentBy o f p bit w out
  read_by no_operator bit f p w out q h = sent_read no_operator tt f p w out q h
  read_by Constant bit f p w out q h = let g = unsent_read Constant bit f p w out q h in (nothing, refl, g.0, g.1)
  read_by Delta bit f p w out q h = change_read (family f.kind) f refl p w out h
  read_by Default true f p w out q h = sent_read Default tt f p w out q h
  read_by Copy true f p w out q h = sent_read Copy tt f p w out q h
  read_by Increment true f p w out q h = sent_read Increment tt f p w out q h
  read_by Tail true f p w out q h = sent_read Tail tt f p w out q h
  read_by Default false f p w out q h = let g = unsent_read Default false f p w out q h in (nothing, refl, g.0, g.1)
  read_by Copy false f p w out q h = let g = unsent_read Copy false f p w out q h in (nothing, refl, g.0, g.1)
  read_by Increment false f p w out q h = let g = unsent_read Increment false f p w out q h in (nothing, refl, g.0, g.1)
  read_by Tail false f p w out q h = let g = unsent_read Tail false f p w out q h in (nothing, refl, g.0, g.1)

  pub field_read : (f : FieldData) (p : PreviousData) (bit : Bool) (w : List ℕ) (out : Outcome) → Says s (field_term B f p bit) w out → Resent f p bit w out
  unfolding field_term
  field_read f p bit w out h =
      let (x, suited, decided, (u, spelled, short)) = read_by f.operator bit f p w out refl h in
      record { item = x; suited = suited; decided = decided; bytes = u; spelled = spelled; short = short }
