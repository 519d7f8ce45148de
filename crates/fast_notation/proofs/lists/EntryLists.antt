-- Entries, each once, in the order of their first uses.
use Rattle.std.proofs.Common.{rules, ◌≡◌, ◌≢◌, ◌⊎◌, inl, inr, ℕ, ◌+◌, suc, zero, ◌<◌, ◌≤◌, Bool, true, false, List, [], ◌∷◌, ◌++◌, length}
use Rattle.std.proofs.Common.{refl, ap, sym, ◌∙◌, subst, map, take, slice_get, get_or, Option, Some, None, IfSome, IfNone, arith}
use Rattle.std.proofs.Common.{append_assoc, append-nil, nat_lt, add-zero}
use Rattle.std.specs.Prelude.{Contains, All, if◌then◌else◌, is_some, codes, unwrap_or}
use Rattle.std.specs.Str.{bytes_eq}
use Rattle.std.specs.List.{list_any, position, position_or_len}
use Rattle.std.proofs.lemmas.Bool.{cases_Bool, false≢true}
use Rattle.std.proofs.lemmas.Bool.Decides.{nat_tests}
use Rattle.std.proofs.lemmas.List.{get_or_append_left, length-append, map-append, map_more, length-map, length-take-le}
use Rattle.std.proofs.lemmas.Option.{slice_get_within, get_or_from_slice_get}
use Rattle.fast_notation.specs.declared.entries.EntryKey.{EntryKey}
use Rattle.fast_notation.specs.contracts.entries.EntryKeyPartialEq.TheImpl.{eq-value}
use Rattle.fast_notation.specs.declared.written.WrittenInstruction.{WrittenInstruction}
use Rattle.fast_notation.specs.declared.written.WrittenTemplate.{WrittenTemplate}
use Rattle.fast_tree.specs.meaning.AsWritten.{DeclaredTemplate, Use, uses, all_uses}
use Rattle.fast_tree.specs.meaning.Entries.{Place, Entry, Scope, IsPlace, IsUnderKey, IsEntry, keeps_value, Collects, in_scope, uses_from, scope_of}
use Rattle.fast_notation.specs.device.EntryKeys.{key_data, HasEntry}
use Rattle.fast_notation.specs.device.Sound.{uses_in}
use Rattle.fast_notation.specs.device.WrittenSets.{instruction_data, written_data}
use Rattle.fast_notation.proofs.lists.Lists.{mapped_get}
use Rattle.fast_notation.proofs.texts.SoundUses.{uses_in-more}
use Rattle.fast_notation.proofs.texts.ReadingPieces.{same_text, text_same}
use Rattle.std.proofs.Math.Seq.{get_or-append_seam}
use Rattle.std.proofs.lemmas.List.Elements.{All-nil, All-cons}

-- equal keys are one entry
key_same : (a b : EntryKey) → (eq-value).it a b ≡ true → key_data a ≡ key_data b
key_same a b h = search rules

same_key : (a b : EntryKey) → key_data a ≡ key_data b → (eq-value).it a b ≡ true
same_key a b h = search rules

-- a key among others
any_contains : (k : EntryKey) (ks : List EntryKey) → list_any ((eq-value).it k) ks ≡ true → Contains (map key_data ks) (key_data k)
any_contains k [] h = absurd (false≢true h)
any_contains k (x ∷ ks) h = elim (cases_Bool ((eq-value).it k x)) [
  | inl same ↦ (0, omega arith, sym (key_same k x same))
  | inr other ↦
      let r = any_contains k ks (rw other at h) in
      (suc r.0, (let i = r.1 in omega (arith, i)), r.2)
]

contains_any : (k : EntryKey) (ks : List EntryKey) → Contains (map key_data ks) (key_data k) → list_any ((eq-value).it k) ks ≡ true
contains_any k [] (n, inside, at) = absurd (omega arith)
contains_any k (x ∷ ks) (zero, inside, at) = rw (same_key k x (sym at)) refl
contains_any k (x ∷ ks) (suc n, inside, at) = elim (cases_Bool ((eq-value).it k x)) [
  | inl same ↦ rw same refl
  | inr other ↦ rw other (contains_any k ks (n, omega (arith, inside), at))
]

-- what is added, or is there
pub added : (k : EntryKey) (ks new : List EntryKey) → new ≡ (if list_any ((eq-value).it k) ks then ks else ks ++ k ∷ [])
    → Contains (map key_data ks) (key_data k) × (map key_data new ≡ map key_data ks) ⊎ ¬ (Contains (map key_data ks) (key_data k))
    × (map key_data new ≡ map key_data ks ++ key_data k ∷ [])
added k ks new is = elim (cases_Bool (list_any ((eq-value).it k) ks)) [
  | inl here ↦ inl (any_contains k ks here, ap (map key_data) (rw here at is))
  | inr other ↦ inr (λ h. false≢true (sym other ∙ contains_any k ks h), ap (map key_data) (rw other at is) ∙ map-append key_data ks (k ∷ []))
]

-- the first key of a list that passes
placed_at : (p : EntryKey → Bool) (ks : List EntryKey) (n : ℕ) → n ≡ position_or_len p ks → n < length ks
    → (x : EntryKey) × (slice_get ks n ≡ Some x) × (p x ≡ true)
placed_at p [] n is inside = absurd (omega arith)
placed_at p (x ∷ ks) n is inside = elim (cases_Bool (p x)) [
  | inl here ↦
      let z : n ≡ 0 = is ∙ rw here refl in
      subst (λ m. (y : EntryKey) × (slice_get (x ∷ ks) m ≡ Some y) × (p y ≡ true)) (sym z) (x, refl, here)
  | inr other ↦
      let z : n ≡ 1 + position_or_len p ks = is ∙ rw other refl in
      let r = placed_at p ks (position_or_len p ks) refl (omega (arith, z, inside)) in
      subst (λ m. (y : EntryKey) × (slice_get (x ∷ ks) m ≡ Some y) × (p y ≡ true))
      (let e : suc (position_or_len p ks) ≡ n = omega (arith, z) in e) (r.0, r.1, r.2)
]

pub place_found : (k : EntryKey) (ks : List EntryKey) (r : Option ℕ) → r ≡ position ((eq-value).it k) ks
    → IfSome r (λ n. slice_get (map key_data ks) n ≡ Some (key_data k))
place_found k ks None is = tt
place_found k ks (Some n) is = elim (cases_Bool (nat_lt (position_or_len ((eq-value).it k) ks) (length ks))) [
  | inl inside ↦
      let here : n ≡ position_or_len ((eq-value).it k) ks = some_is (rw inside at is) in
      let r = placed_at ((eq-value).it k) ks n here (below n ks here inside) in
      mapped_get key_data ks n r.0 r.1 ∙ ap Some (sym (key_same k r.0 r.2))
  | inr outside ↦ absurd (some_none (rw outside at is))
]
  where
    some_is : {a b : ℕ} → Some a ≡ Some b → a ≡ b
    some_is h = cc

    some_none : {a : ℕ} → Some a ≡ None → ⊥
    some_none h = cc

    below : (n : ℕ) (ks : List EntryKey) → n ≡ position_or_len ((eq-value).it k) ks
        → nat_lt (position_or_len ((eq-value).it k) ks) (length ks) ≡ true → n < length ks
    below n ks here inside = grind (arith, nat_tests, here, inside)

pub place_missing : (k : EntryKey) (ks : List EntryKey) (r : Option ℕ) → is_some r ≡ list_any ((eq-value).it k) ks
    → IfNone r (¬ (Contains (map key_data ks) (key_data k)))
place_missing k ks None none = λ h. false≢true (none ∙ contains_any k ks h)
place_missing k ks (Some n) none = tt

-- ---- what is collected

-- first these uses, and then those
pub collects_both : (a b c : List Entry) (us vs : List (Scope × Use)) → Collects a us b → Collects b vs c → Collects a (us ++ vs) c
collects_both a b c [] vs h more = subst (λ s. Collects s vs c) h more
collects_both a b c (u ∷ us) vs (inl (not_kept, h)) more = inl (not_kept, collects_both a b c us vs h more)
collects_both a b c (u ∷ us) vs (inr (inl (e, kept, is, seen, h))) more = inr (inl (e, kept, is, seen, collects_both a b c us vs h more))
collects_both a b c (u ∷ us) vs (inr (inr (e, kept, is, new, h))) more = inr (inr (e, kept, is, new, collects_both (a ++ e ∷ []) b c us vs h more))

pub in_scope-append : (s : Scope) (us vs : List Use) → in_scope s (us ++ vs) ≡ in_scope s us ++ in_scope s vs
in_scope-append s [] vs = refl
in_scope-append s (u ∷ us) vs = ap (λ ps. (s, u) ∷ ps) (in_scope-append s us vs)

-- one template more
uses_from-push : (n : ℕ) (ts : List DeclaredTemplate) (t : DeclaredTemplate)
    → uses_from n (ts ++ t ∷ []) ≡ uses_from n ts ++ in_scope (scope_of (n + length ts) t) (all_uses t.fields)
uses_from-push n [] t = append-nil (in_scope (scope_of n t) (all_uses t.fields)) ∙ ap (λ m. in_scope (scope_of m t) (all_uses t.fields)) (sym (add-zero n))
uses_from-push n (u ∷ ts) t =
    ap (λ ps. in_scope (scope_of n u) (all_uses u.fields) ++ ps) (uses_from-push (suc n) ts t)
    ∙ sym (append_assoc (in_scope (scope_of n u) (all_uses u.fields)) (uses_from (suc n) ts) (in_scope (scope_of (suc n + length ts) t) (all_uses t.fields)))
    ∙ ap (λ m. (in_scope (scope_of n u) (all_uses u.fields) ++ uses_from (suc n) ts) ++ in_scope (scope_of m t) (all_uses t.fields))
    (let e : suc n + length ts ≡ n + suc (length ts) = omega arith in e)

-- the uses of one instruction more
pub collects_more : (a b c : List Entry) (s : Scope) (fs : List WrittenInstruction) (i : ℕ) (d : WrittenInstruction) → i < length fs
    → Collects a (in_scope s (uses_in (take i fs))) b → Collects b (in_scope s (uses (instruction_data (get_or fs i d)))) c
    → Collects a (in_scope s (uses_in (take (i + 1) fs))) c
collects_more a b c s fs i d inside before here =
    subst (λ us. Collects a us c) (sym (ap (in_scope s) (uses_in-more fs i d inside)
    ∙ in_scope-append s (uses_in (take i fs)) (uses (instruction_data (get_or fs i d)))))
    (collects_both a b c (in_scope s (uses_in (take i fs))) (in_scope s (uses (instruction_data (get_or fs i d)))) before here)

-- the uses of one template more
pub collects_template : (a b c : List Entry) (ts : List WrittenTemplate) (k : ℕ) (t : WrittenTemplate) → slice_get ts k ≡ Some t
    → Collects a (uses_from 0 (map written_data (take k ts))) b → Collects b (in_scope (scope_of k (written_data t)) (uses_in t.fields.items)) c
    → Collects a (uses_from 0 (map written_data (take (k + 1) ts))) c
collects_template a b c ts k t found before here =
    let inside = slice_get_within ts k t found in
    let us = map written_data (take k ts) in
    let long : length us ≡ k = length-map (take k ts) written_data ∙ length-take-le k ts (let e : k ≤ length ts = omega (arith, inside) in e) in
    let more : map written_data (take (k + 1) ts) ≡ us ++ written_data t ∷ [] = map_more written_data ts k t inside
    ∙ ap (λ u. us ++ written_data u ∷ []) (get_or_from_slice_get ts k t t found) in
    subst (λ ps. Collects a ps c) (sym (ap (uses_from 0) more ∙ uses_from-push 0 us (written_data t)))
    (collects_both a b c (uses_from 0 us) (in_scope (scope_of (0 + length us) (written_data t)) (uses_in t.fields.items)) before
    (subst (λ m. Collects b (in_scope (scope_of m (written_data t)) (uses_in t.fields.items)) c) (let e : k ≡ 0 + length us = omega (arith, long) in e) here))

-- ---- the entry of a use

-- a name stands for one dictionary
one_place : (s : Scope) (name : List ℕ) (p q : Place) → IsPlace s name p → IsPlace s name q → p ≡ q
one_place s name p q h i = elim (cases_Bool (bytes_eq name (codes "global"))) [
  | inl is_global ↦
      let e = same_text name (codes "global") is_global in
      h.is_global e ∙ sym (i.is_global e)
  | inr no_global ↦
      elim (cases_Bool (bytes_eq name (codes "template"))) [
        | inl is_template ↦
            let e = same_text name (codes "template") is_template in
            h.is_template e ∙ sym (i.is_template e)
        | inr no_template ↦
            let a = other_text name (codes "global") no_global in
            let b = other_text name (codes "template") no_template in
            h.is_named a b ∙ sym (i.is_named a b)
      ]
]
  where
    other_text : (a b : List ℕ) → bytes_eq a b ≡ false → a ≢ b
    other_text a b h e = false≢true (sym h ∙ ap (λ s. bytes_eq a s) (sym e) ∙ text_same a)

-- a use has one entry
pub one_entry : (s : Scope) (u : Use) (e f : Entry) → IsEntry s u e → IsEntry s u f → e ≡ f
one_entry s u e f h i =
    let place = one_place s (unwrap_or u.written.dictionary s.dictionary) e.place f.place h.0 i.0 in
    let under = one_key u.written.key h.1 i.1 in
    same e f place under.0 under.1
  where
    same : (e f : Entry) → e.place ≡ f.place → e.key ≡ f.key → e.part ≡ f.part → e ≡ f
    same e f place key part = ap (λ p. record {
      place = p;
      key = e.key;
      part = e.part;
    }) place ∙ ap (λ k. record { place = f.place; key = k; part = e.part }) key ∙ ap (λ p. record { place = f.place; key = f.key; part = p }) part

    one_key : (o : Option (List ℕ)) → IsUnderKey o u e → IsUnderKey o u f → (e.key ≡ f.key) × (e.part ≡ f.part)
    one_key None a b = (a.0 ∙ sym b.0, a.1 ∙ sym b.1)
    one_key (Some key) a b = (a.0 ∙ sym b.0, a.1 ∙ sym b.1)

-- the entry that a use has is there
pub is_there : (entries : List Entry) (s : Scope) (u : Use) (e : Entry) → keeps_value u.written.operator ≡ true → IsEntry s u e
    → HasEntry entries s u → Contains entries e
is_there entries s u e keeps is there =
    let h = there keeps in
    subst (Contains entries) (one_entry s u h.0 e h.1 is) h.2

-- what was collected has an entry for each use
kept_seen : (seen entries : List Entry) (us : List (Scope × Use)) → Collects seen us entries → (rest : List Entry) × (entries ≡ seen ++ rest)
kept_seen seen entries [] h = ([], h ∙ sym (append-nil seen))
kept_seen seen entries (u ∷ us) (inl (not_kept, h)) = kept_seen seen entries us h
kept_seen seen entries (u ∷ us) (inr (inl (e, kept, is, there, h))) = kept_seen seen entries us h
kept_seen seen entries (u ∷ us) (inr (inr (e, kept, is, new, h))) =
    let r = kept_seen (seen ++ e ∷ []) entries us h in
    (e ∷ r.0, r.1 ∙ append_assoc seen (e ∷ []) r.0)

contains_left : (xs ys : List Entry) (e : Entry) → Contains xs e → Contains (xs ++ ys) e
contains_left xs ys e (k, inside, at) =
    let l = length-append xs ys in
    (k, omega (arith, inside, l), get_or_append_left xs ys e k inside ∙ at)

pub collected_has : (seen entries : List Entry) (us : List (Scope × Use)) → Collects seen us entries → All (λ p. HasEntry entries p.0 p.1) us
collected_has seen entries [] h = All-nil (λ p. HasEntry entries p.0 p.1)
collected_has seen entries (u ∷ us) (inl (not_kept, h)) =
    All-cons (λ p. HasEntry entries p.0 p.1) u us (λ keeps. absurd (false≢true (sym not_kept ∙ keeps))) (collected_has seen entries us h)
collected_has seen entries (u ∷ us) (inr (inl (e, kept, is, there, h))) =
    let r = kept_seen seen entries us h in
    All-cons (λ p. HasEntry entries p.0 p.1) u us (λ keeps.
    (e, is, subst (λ es. Contains es e) (sym r.1) (contains_left seen r.0 e there))) (collected_has seen entries us h)
collected_has seen entries (u ∷ us) (inr (inr (e, kept, is, new, h))) =
    let r = kept_seen (seen ++ e ∷ []) entries us h in
    let here : Contains (seen ++ e ∷ []) e = (let l = length-append seen (e ∷ []) in (length seen, omega (arith, l), get_or-append_seam seen e [] e)) in
    All-cons (λ p. HasEntry entries p.0 p.1) u us (λ keeps.
    (e, is, subst (λ es. Contains es e) (sym r.1) (contains_left (seen ++ e ∷ []) r.0 e here)))
    (collected_has (seen ++ e ∷ []) entries us h)

-- no more entries than uses
pub collected_few : (seen entries : List Entry) (us : List (Scope × Use)) → Collects seen us entries → length entries ≤ length seen + length us
collected_few seen entries [] h = let e = ap length h in omega (arith, e)
collected_few seen entries (u ∷ us) (inl (not_kept, h)) = let r = collected_few seen entries us h in omega (arith, r)
collected_few seen entries (u ∷ us) (inr (inl (e, kept, is, there, h))) = let r = collected_few seen entries us h in omega (arith, r)
collected_few seen entries (u ∷ us) (inr (inr (e, kept, is, new, h))) =
    let r = collected_few (seen ++ e ∷ []) entries us h in
    let l = length-append seen (e ∷ []) in
    omega (arith, r, l)
