-- A message that suits its template and keeps to the limits is encoded or refused.
use Rattle.std.proofs.Common.{◌≡◌, ◌⊎◌, inl, inr, ℕ, zero, suc, ◌<◌, ◌^◌, List, [], ◌∷◌, ◌++◌, refl, subst, arith}
use Rattle.std.specs.Prelude.{Bool, true, All, if◌then◌else◌, slice_get, Option, Some, IfSome}
use Rattle.fast_value.specs.declared.settings.Limits.{Limits}
use Rattle.fast_value.specs.meaning.Kinds.{U}
use Rattle.fast_value.specs.meaning.Messages.{MessageData}
use Rattle.fast_tree.specs.meaning.Tree.{identifier, TemplateData, Tree}
use Rattle.fast_dict.specs.meaning.Dictionary.{Dictionary, reset}
use Rattle.fast_spelling.specs.declared.faults.EncodeFault.{EncodeFault}
use Rattle.fast_spelling.specs.declared.faults.EncodeFault.TheVariants.{E1, E2, E3, E4, R9}
use Rattle.fast_spelling.specs.meaning.Again.{IsSound, GrantsBody}
use Rattle.fast_spelling.specs.meaning.Encoding.{EncodesField, EncodesBody, ShortestMap, EncodesMessage}
use Rattle.fast_spelling.specs.meaning.Refusals.{HaveNoMap, RefusesField, RefusesBody, RefusesMessage, IsRefused}
use Rattle.fast_spelling.specs.meaning.Suiting.{IsKnown, SuitsBody, SuitsTemplate, FitsLimits}
use Rattle.fast_spelling.proofs.again.MessagesAgain.{granted_at, identifier_granted}
use Rattle.fast_spelling.proofs.encodings.Late.{message_late}
use Rattle.fast_spelling.proofs.encodings.Whole.{identifier_goes}
use Rattle.fast_laws.specs.meaning.Settling.{CanEncode, HasEncoding}
use Rattle.fast_laws.proofs.settling.Bodies.{body_settled}
use Rattle.fast_laws.proofs.settling.Deciding.{Decided, known_decided, template_decided, limits_decided}
use Rattle.fast_laws.proofs.settling.Fields.{Settled, field_settled}
use Rattle.fast_laws.proofs.settling.Keeping.{field_keeps, body_keeps, sound_if}
use Rattle.fast_laws.proofs.settling.Maps.{some_map}

short_at : (us : List TemplateData) (n : ℕ) (u : TemplateData) (id : ℕ) → All (λ u. IfSome u.id (λ id. id < 2 ^ 32)) us
    → slice_get us n ≡ Some u → u.id ≡ Some id → id < 2 ^ 32
short_at [] n u id h e own = absurd (cc e)
short_at (x ∷ us) zero u id h e own =
    let same : x ≡ u = cc e in
    let here : IfSome u.id (λ id. id < 2 ^ 32) = subst (λ (z : TemplateData). IfSome z.id (λ id. id < 2 ^ 32)) same (h 0 x (omega arith)) in
    subst (λ (z : Option ℕ). IfSome z (λ id. id < 2 ^ 32)) own here
short_at (x ∷ us) (suc n) u id h e own = short_at us n u id (λ k d i. h (suc k) d (omega (arith, i))) e own

module _ (t : Tree) (l : Limits) (d : Dictionary) (m : MessageData) (can : CanEncode t l d) where
  -- after the identifier
  module _ (u : TemplateData) (id : ℕ) (at : slice_get t.templates m.template ≡ Some u) (own : u.id ≡ Some id)
      (right : SuitsBody u.body m.slots) (fits : FitsLimits l m.slots) where
    abbrev Told : Type 0
    Told = HasEncoding t l d m ⊎ ((c : EncodeFault) × RefusesMessage t l d m c)

    small : id < 2 ^ 32
    small = short_at t.templates m.template u id can.short_ids at own

    granted : GrantsBody l u.body
    granted = granted_at l t.templates m.template u can.granted at

    module _ (b1 : List Bool) (x : List ℕ) (mid : Dictionary) (i : EncodesField l identifier d (Some (U id)) b1 x mid) where
      abbrev after : Dictionary
      after = if u.reset then reset mid else mid

      sound : IsSound l after
      sound = sound_if l u.reset mid (field_keeps l identifier d (Some (U id)) b1 x mid can.sound (identifier_granted l) ((0, small), omega arith) i)

      on : (b2 : List Bool) (v : List ℕ) (d' : Dictionary) → EncodesBody l u.body after m.slots b2 v d'
          → ((map : List ℕ) × ShortestMap true (b1 ++ b2) map) ⊎ HaveNoMap (b1 ++ b2) → Told
      unfolding EncodesMessage
      on b2 v d' j (inl (map, s)) = inl (map ++ x ++ v, d', (u, id, b1, b2, map, x, v, mid, at, own, i, j, s, refl))
      on b2 v d' j (inr none) = inr (E3, (u, id, b1, x, mid, at, own, i, inr (b2, v, d', j, none, refl)))

      by_body : Settled (EncodesBody l u.body after m.slots) (RefusesBody l u.body after m.slots) → Told
      by_body (inl (b2, v, d', j)) = on b2 v d' j (some_map (b1 ++ b2))
      by_body (inr (c, j)) = inr (c, (u, id, b1, x, mid, at, own, i, inl j))

      body_told : Told
      body_told = by_body (body_settled l can.small u.body after m.slots sound granted right fits.0)

    by_field : Settled (EncodesField l identifier d (Some (U id))) (RefusesField identifier d (Some (U id))) → Told
    by_field (inl (b1, x, mid, i)) = body_told b1 x mid i
    by_field (inr (c, z)) = absurd (identifier_goes d id c z)

    told : Told
    told = by_field (field_settled l can.small identifier d (Some (U id)) can.sound (identifier_granted l) ((0, small), omega arith))

  pub some_encoding : IsKnown t m → SuitsTemplate t m → FitsLimits l m.slots → HasEncoding t l d m ⊎ (IsRefused t l d m E3 ⊎ IsRefused t l d m R9)
  some_encoding (u, id, at, own) (u', at', right) fits =
      let same : u' ≡ u = cc (at', at) in
      by (told u id at own (subst (λ (q : TemplateData). SuitsBody q.body m.slots) same right) fits)
    where
      late : (c : EncodeFault) → (c ≡ E3) ⊎ (c ≡ R9) → RefusesMessage t l d m c → IsRefused t l d m E3 ⊎ IsRefused t l d m R9
      late c (inl e) h = inl ((u, id, at, own), (u', at', right), fits, subst (RefusesMessage t l d m) e h)
      late c (inr e) h = inr ((u, id, at, own), (u', at', right), fits, subst (RefusesMessage t l d m) e h)

      by : HasEncoding t l d m ⊎ ((c : EncodeFault) × RefusesMessage t l d m c) → HasEncoding t l d m ⊎ (IsRefused t l d m E3 ⊎ IsRefused t l d m R9)
      by (inl h) = inl h
      by (inr (c, h)) = inr (late c (message_late t l d m c h) h)

  next_is_sound : (w : List ℕ) (d' : Dictionary) → SuitsTemplate t m → FitsLimits l m.slots → EncodesMessage t l d m w d' → IsSound l d'
  unfolding EncodesMessage
  next_is_sound w d' (u', at', right) fits (u, id, b1, b2, map, x, v, mid, at, own, i, j, s, e) =
      let same : u' ≡ u = cc (at', at) in
      let here = subst (λ (q : TemplateData). SuitsBody q.body m.slots) same right in
      let kept = sound_if l u.reset mid (field_keeps l identifier d (Some (U id)) b1 x mid can.sound (identifier_granted l)
      ((0, short_at t.templates m.template u id can.short_ids at own), omega arith) i) in
      body_keeps l u.body (granted_at l t.templates m.template u can.granted at) (if u.reset then reset mid else mid) m.slots b2 v d' kept here fits.0 j

-- Any message is encoded or refused.
pub any_settled : (t : Tree) (l : Limits) (d : Dictionary) (m : MessageData) → CanEncode t l d
    → (SuitsTemplate t m × FitsLimits l m.slots × HasEncoding t l d m) ⊎ ((c : EncodeFault) × IsRefused t l d m c)
any_settled t l d m can = by_known (known_decided t m)
  where
    Told : Type 0
    Told = (SuitsTemplate t m × FitsLimits l m.slots × HasEncoding t l d m) ⊎ ((c : EncodeFault) × IsRefused t l d m c)

    late : SuitsTemplate t m → FitsLimits l m.slots → HasEncoding t l d m ⊎ (IsRefused t l d m E3 ⊎ IsRefused t l d m R9) → Told
    late suits fits (inl h) = inl (suits, fits, h)
    late suits fits (inr (inl h)) = inr (E3, h)
    late suits fits (inr (inr h)) = inr (R9, h)

    by_limits : IsKnown t m → SuitsTemplate t m → Decided (FitsLimits l m.slots) → Told
    by_limits known suits (inl fits) = late suits fits (some_encoding t l d m can known suits fits)
    by_limits known suits (inr never) = inr (E4, (known, suits, never))

    by_template : IsKnown t m → Decided (SuitsTemplate t m) → Told
    by_template known (inl suits) = by_limits known suits (limits_decided l m.slots)
    by_template known (inr never) = inr (E2, (known, never))

    by_known : Decided (IsKnown t m) → Told
    by_known (inl known) = by_template known (template_decided t m)
    by_known (inr never) = inr (E1, never)

-- After a message the same holds.
pub next_can_encode : (t : Tree) (l : Limits) (d : Dictionary) (m : MessageData) (w : List ℕ) (d' : Dictionary) → CanEncode t l d
    → SuitsTemplate t m → FitsLimits l m.slots → EncodesMessage t l d m w d' → CanEncode t l d'
next_can_encode t l d m w d' can suits fits h = record {
  granted = can.granted;
  distinct_ids = can.distinct_ids;
  short_ids = can.short_ids;
  small = can.small;
  sound = next_is_sound t l d m can w d' suits fits h;
}
