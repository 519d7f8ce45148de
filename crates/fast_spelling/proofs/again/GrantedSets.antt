-- What a set's text grants of the fields of its tree.
use Rattle.std.proofs.Common.{◌≡◌, inl, inr, ℕ, suc, ◌≤◌, List, [], ◌∷◌, ◌++◌, length, refl, ap, sym, subst, ◌∙◌, arith}
use Rattle.std.specs.Prelude.{Bool, All, Option, Some, None, IfSome, slice_get}
use Rattle.std.proofs.lemmas.Int.{ints}
use Rattle.std.proofs.lemmas.Bool.{true_from_ne_false}
use Rattle.std.proofs.lemmas.List.Elements.{All-nil, All-cons, All-get_or}
use Rattle.std.proofs.lemmas.Option.{slice_get_within, get_or_from_slice_get}
use Rattle.toml.specs.Data.{Members}
use Rattle.fast_wire.specs.meaning.Integers.{IsWithin, unsigned_range, signed_range, exponent_range}
use Rattle.fast_value.specs.declared.kinds.Kind.{Kind}
use Rattle.fast_value.specs.declared.kinds.Kind.TheVariants.{UInt32, Int32, UInt64, Int64, Decimal, Ascii, Unicode, Bytes}
use Rattle.fast_value.specs.declared.settings.Limits.{Limits}
use Rattle.fast_value.specs.meaning.Initial.{IsInitial, IsDecimal}
use Rattle.fast_value.specs.meaning.Kinds.{ScalarData, family, text_of, IsOfKind}
use Rattle.fast_tree.specs.meaning.AsWritten.{Written, DeclaredList, DeclaredTemplate, Use, scalar_use, exponent_use, mantissa_use, length_use, all_uses}
use Rattle.fast_tree.specs.meaning.Entries.{Entry, Scope, scope_of, in_scope, uses_from}
use Rattle.fast_tree.specs.meaning.Tree.{FieldData, Body, end, step, TemplateData, Tree}
use Rattle.fast_notation.specs.meaning.Checked.{IsTree}
use Rattle.fast_notation.specs.meaning.InPlace.{◌then◌, InPlace, nothing, a_field, some_parts, a_group, a_sequence, a_reference, AreInPlace}
use Rattle.fast_notation.specs.meaning.Uses.{suits, IsInitialOf, IsS2, IsS4, IsS5, IsField}
use Rattle.fast_notation.proofs.nodes.BuildingNeeds.{all_left, all_right, all_first, all_but_first}
use Rattle.fast_spelling.specs.meaning.Again.{IsGranted, GrantsBody, IsGrantedTree, HasShortInitial, HaveShortInitialsIn, IsShortTree}
use Rattle.fast_spelling.proofs.again.Sound.{integer_right}

-- the use has none of these faults
abbrev IsFaultless : Use → Type 0
IsFaultless u = ¬ (IsS2 u) × ¬ (IsS4 u) × ¬ (IsS5 u)

module _ (l : Limits) where
  initial_right : (kind : Kind) (text : List ℕ) (v : ScalarData) → IsInitial kind text v → length (text_of v) ≤ l.max_text → IsOfKind l kind v
  initial_right UInt32 text v (x, (ds, n, h, _), e) s = subst (IsOfKind l UInt32) (sym e) (integer_right l UInt32 (unsigned_range 32) refl x h)
  initial_right Int32 text v (x, (ds, n, h, _), e) s = subst (IsOfKind l Int32) (sym e) h
  initial_right UInt64 text v (x, (ds, n, h, _), e) s = subst (IsOfKind l UInt64) (sym e) (integer_right l UInt64 (unsigned_range 64) refl x h)
  initial_right Int64 text v (x, (ds, n, h, _), e) s = subst (IsOfKind l Int64) (sym e) h
  initial_right Decimal text v (x, y, d, e) s = subst (IsOfKind l Decimal) (sym e) (by d)
    where
      by : IsDecimal text x y → IsWithin exponent_range x × IsWithin (signed_range 63) y
      by (inl ((ds, n, h, _), z)) = (rw z (omega (arith, ints), omega (arith, ints)), h)
      by (inr (front, back, _, (ds, n, h, _), (es, m, i, _))) = (i, h)
  initial_right Ascii text v (a, e) s = subst (IsOfKind l Ascii) (sym e) (subst (λ (z : ScalarData). length (text_of z) ≤ l.max_text) e s, a)
  initial_right Unicode text v (a, e) s = subst (IsOfKind l Unicode) (sym e) (subst (λ (z : ScalarData). length (text_of z) ≤ l.max_text) e s, a)
  initial_right Bytes text v (w, a, e) s = subst (IsOfKind l Bytes) (sym e) (subst (λ (z : ScalarData). length (text_of z) ≤ l.max_text) e s)

  of_initial : (u : Use) (text : Option (List ℕ)) (i : Option ScalarData) → IsInitialOf u text i
      → IfSome i (λ v. length (text_of v) ≤ l.max_text) → IfSome i (IsOfKind l u.kind)
  of_initial u text None h s = tt
  of_initial u None (Some v) h s = absurd h
  of_initial u (Some text) (Some v) h s = initial_right u.kind text v h.0 s

  no_text : (u : Use) (text : Option (List ℕ)) (i : Option ScalarData) → IsInitialOf u text i → i ≡ None → text ≡ None
  no_text u None i h e = refl
  no_text u (Some text) None h e = absurd h
  no_text u (Some text) (Some v) h e = absurd (cc e)

  granted_field : {entries : List Entry} {s : Scope} {u : Use} {f : FieldData} → IsFaultless u → IsField entries s u f → HasShortInitial l f → IsGranted l f
  granted_field {entries = entries} {s = s} {u = u} {f = f} (suited, constant, default) h short = record {
    suited = ap (λ o. suits o (family f.kind)) h.operator ∙ ap (λ k. suits u.written.operator (family k)) h.kind
        ∙ true_from_ne_false (suits u.written.operator (family u.kind)) suited;
    initial = subst (λ (k : Kind). IfSome f.initial (IsOfKind l k)) (sym h.kind) (of_initial u u.written.value f.initial h.initial short);
    constant = λ o e. constant (sym h.operator ∙ o, no_text u u.written.value f.initial h.initial e);
    default = λ o b e. default (sym h.operator ∙ o, sym h.optional ∙ b, no_text u u.written.value f.initial h.initial e);
  }

  length_kind : (name : List ℕ) (optional : Bool) (own : Option (List ℕ)) (w : Written) → (length_use name optional own w).kind ≡ UInt32
  length_kind name optional None w = refl
  length_kind name optional (Some own) w = refl

  granted_then : (a b : Body) → GrantsBody l a → GrantsBody l b → GrantsBody l (a then b)
  granted_then end b h i = i
  granted_then (step k ks) b h i = (h.0, granted_then ks b h.1 i)

  short_then : (a b : Body) → HaveShortInitialsIn l (a then b) → HaveShortInitialsIn l a × HaveShortInitialsIn l b
  short_then end b h = (tt, h)
  short_then (step k ks) b h = let r = short_then ks b h.1 in ((h.0, r.0), r.1)

  granted_body : {ts : List DeclaredTemplate} {entries : List Entry} {chain : ℕ} {s : Scope} {ds : DeclaredList} {n m : ℕ} {b : Body}
      → All (λ t. All IsFaultless (all_uses t.fields)) ts → All IsFaultless (all_uses ds)
      → InPlace ts entries chain s ds n b m → HaveShortInitialsIn l b → GrantsBody l b
  granted_body all here nothing short = tt
  granted_body all here (a_field {name = name} {optional = optional} {kind = kind} {w = w} {ds = ds} is_field rest) short =
      let u = scalar_use name optional kind w in (
        granted_field (all_first IsFaultless u (all_uses ds) here) is_field short.0,
        granted_body all (all_but_first IsFaultless u (all_uses ds) here) rest short.1,
      )
  granted_body all here (some_parts {name = name} {optional = optional} {v = v} {w = w} {ds = ds} is_exponent is_mantissa rest) short =
      let u = exponent_use name optional v in
      let m = mantissa_use name w in
      let later = all_but_first IsFaultless u (m ∷ all_uses ds) here in (
        (
          granted_field (all_first IsFaultless u (m ∷ all_uses ds) here) is_exponent short.0.0,
          granted_field (all_first IsFaultless m (all_uses ds) later) is_mantissa short.0.1,
          is_exponent.kind,
          is_mantissa.kind,
          is_mantissa.optional,
        ),
        granted_body all (all_but_first IsFaultless m (all_uses ds) later) rest short.1,
      )
  granted_body all here (a_group {inner = inner} {ds = ds} within rest) short = (
    granted_body all (all_left IsFaultless (all_uses inner) (all_uses ds) here) within short.0,
    granted_body all (all_right IsFaultless (all_uses inner) (all_uses ds) here) rest short.1,
  )
  granted_body all here (a_sequence {name = name} {optional = optional} {own = own} {w = w} {inner = inner} {ds = ds} is_length within rest) short =
      let u = length_use name optional own w in
      let later = all_but_first IsFaultless u (all_uses inner ++ all_uses ds) here in (
        (
          granted_field (all_first IsFaultless u (all_uses inner ++ all_uses ds) here) is_length short.0.0,
          is_length.kind ∙ length_kind name optional own w,
          granted_body all (all_left IsFaultless (all_uses inner) (all_uses ds) later) within short.0.1,
        ),
        granted_body all (all_right IsFaultless (all_uses inner) (all_uses ds) later) rest short.1,
      )
  granted_body {ts = ts} all here (a_reference {body = body} {is = is} number t found same within rest) short =
      let parts = short_then body is short in
      granted_then body is (granted_body all (at ts number t found all) within parts.0) (granted_body all here rest parts.1)
    where
      at : (ts : List DeclaredTemplate) (k : ℕ) (t : DeclaredTemplate) → slice_get ts k ≡ Some t
          → All (λ t. All IsFaultless (all_uses t.fields)) ts → All IsFaultless (all_uses t.fields)
      at ts k t found h = subst (λ (x : DeclaredTemplate). All IsFaultless (all_uses x.fields)) (get_or_from_slice_get ts k t t found)
          (All-get_or (λ x. All IsFaultless (all_uses x.fields)) ts k t (slice_get_within ts k t found) h)

  granted_templates : (all : List DeclaredTemplate) (entries : List Entry) (k : ℕ) (ts : List DeclaredTemplate) (n m : ℕ)
      (us : List TemplateData) → All (λ t. All IsFaultless (all_uses t.fields)) all → All (λ t. All IsFaultless (all_uses t.fields)) ts
      → AreInPlace all entries k ts n us m → All (λ u. HaveShortInitialsIn l u.body) us → All (λ u. GrantsBody l u.body) us
  granted_templates all entries k [] n m [] sound here h short = All-nil (λ u. GrantsBody l u.body)
  granted_templates all entries k [] n m (u ∷ us) sound here h short = absurd h
  granted_templates all entries k (t ∷ ts) n m [] sound here h short = absurd h
  granted_templates all entries k (t ∷ ts) n m (u ∷ us) sound here (mid, name, id, reset, body, rest) short =
      All-cons (λ u. GrantsBody l u.body) u us (granted_body sound (all_first (λ t. All IsFaultless (all_uses t.fields)) t ts here) body
      (all_first (λ u. HaveShortInitialsIn l u.body) u us short))
      (granted_templates all entries (suc k) ts mid m us sound (all_but_first (λ t. All IsFaultless (all_uses t.fields)) t ts here) rest
      (all_but_first (λ u. HaveShortInitialsIn l u.body) u us short))

-- uses out of their scopes
faultless_in : (s : Scope) (us : List Use) → All (λ u. IsFaultless u.1) (in_scope s us) → All IsFaultless us
faultless_in s [] h = All-nil IsFaultless
faultless_in s (u ∷ us) h = All-cons IsFaultless u us (all_first (λ u. IsFaultless u.1) (s, u) (in_scope s us) h)
    (faultless_in s us (all_but_first (λ u. IsFaultless u.1) (s, u) (in_scope s us) h))

faultless_from : (k : ℕ) (ts : List DeclaredTemplate) → All (λ u. IsFaultless u.1) (uses_from k ts) → All (λ t. All IsFaultless (all_uses t.fields)) ts
faultless_from k [] h = All-nil (λ t. All IsFaultless (all_uses t.fields))
faultless_from k (t ∷ ts) h =
    let here = in_scope (scope_of k t) (all_uses t.fields) in
    All-cons (λ t. All IsFaultless (all_uses t.fields)) t ts
    (faultless_in (scope_of k t) (all_uses t.fields) (all_left (λ u. IsFaultless u.1) here (uses_from (suc k) ts) h))
    (faultless_from (suc k) ts (all_right (λ u. IsFaultless u.1) here (uses_from (suc k) ts) h))

pub read_is_granted : (document : Members) (t : Tree) (l : Limits) → IsTree document t → IsShortTree l t → IsGrantedTree l t
read_is_granted document t l h short =
    let sound = faultless_from 0 h.written h.suited in
    granted_templates l h.written h.entries 0 h.written 0 h.nodes t.templates sound sound h.in_place short
