-- An entity of which some bytes are in hand, in front of what is read behind it.
use Rattle.std.proofs.Common.{sym, ap, ◌∙◌, subst, arith, inl, inr, append_assoc, length-append}
use Rattle.std.specs.Prelude.{◌≡◌, ℕ, suc, ◌+◌, ◌-◌, ◌<◌, ◌≤◌, false, nat_le, List, [], ◌∷◌, ◌++◌, length}
use Rattle.std.proofs.lemmas.List.Elements.{All-head, All-tail, All-nil, All-cons}
use Rattle.std.proofs.lemmas.Bool.{le-leb}
use Rattle.std.proofs.lemmas.Bool.Decides.{leb_tells}
use Rattle.fast_wire.specs.meaning.Entities.{HaveNoStop, IsEntity}
use Rattle.fast_value.specs.declared.codes.Code.{Code}
use Rattle.fast_dict.specs.meaning.Dictionary.{Dictionary}
use Rattle.fast_stream.specs.device.Readers.{Reader, Stop, bind}
use Rattle.fast_stream.specs.device.GrammarReaders.{entity_reader}
use Rattle.fast_stream.specs.device.Machine.{after_bytes}
use Rattle.fast_machine.specs.device.Handing.{Waits, Quiet}
use Rattle.fast_stream.proofs.readers.Binds.{All-front}
use Rattle.fast_stream.proofs.streams.Stepping.{after-more, entity-stays, entity-ends, entity-full}

-- Bytes in front of an entity's last one have no stop bit.
pub front_open : (front : List ℕ) (b : ℕ) (w f : List ℕ) (last : ℕ) → front ++ b ∷ w ≡ f ++ last ∷ [] → HaveNoStop f → HaveNoStop front
front_open [] b w f last e h = All-nil (λ x. x < 128)
front_open (c ∷ front) b w [] last e h = let k : front ++ b ∷ w ≡ [] = cc e in
    absurd (let n : length (front ++ b ∷ w) ≡ 0 = ap length k in omega (arith, n, length-append front (b ∷ w)))
front_open (c ∷ front) b w (d ∷ f) last e h =
    let i : c ≡ d = cc e in
    let k : front ++ b ∷ w ≡ f ++ last ∷ [] = cc e in
    All-cons (λ x. x < 128) c front (subst (λ x. x < 128) (sym i) (All-head (λ x. x < 128) d f h))
    (front_open front b w f last k (All-tail (λ x. x < 128) d f h))

-- The bytes behind the front come one after the other, and before each of them there is no stop bit.
abbrev pub IsOpenBefore : List ℕ → List ℕ → Type 0
IsOpenBefore front [] = Unit {0}
IsOpenBefore front (b ∷ w) = HaveNoStop front × IsOpenBefore (front ++ b ∷ []) w

shifted : (front : List ℕ) (b : ℕ) (w : List ℕ) → (front ++ b ∷ []) ++ w ≡ front ++ b ∷ w
shifted front b w = append_assoc front (b ∷ []) w

pub open_in_entity : (front w : List ℕ) → IsEntity (front ++ w) → IsOpenBefore front w
open_in_entity front [] h = tt
open_in_entity front (b ∷ w) h = (front_open front b w h.0 h.1 h.2 h.3, open_in_entity (front ++ b ∷ []) w (subst IsEntity (sym (shifted front b w)) h))

pub open_in_open : (front w : List ℕ) → HaveNoStop (front ++ w) → IsOpenBefore front w
open_in_open front [] h = tt
open_in_open front (b ∷ w) h = ((All-front (λ x. x < 128) front (b ∷ w) h).0, open_in_open (front ++ b ∷ []) w (subst HaveNoStop (sym (shifted front b w)) h))

-- a byte without a stop bit, as the readers test it
pub no_stop : (b : ℕ) → b < 128 → nat_le 128 b ≡ false
no_stop b h = elim (leb_tells 128 b) [ inl t ↦ absurd (let far : 128 ≤ b = t.1 in omega arith) | inr t ↦ t.0 ]

module _ (c : Code) (n : ℕ) (k : List ℕ → Reader Dictionary) where
  -- an entity of at most n bytes, and what is read behind it
  abbrev pub entity_then : Reader Dictionary
  entity_then = bind (entity_reader c n []) k

  -- Bytes without a stop are in hand, and there is room.
  pub open_waits : (w : List ℕ) → HaveNoStop w → length w < n → Waits (after_bytes entity_then w)
  open_waits w h short =
      let m : ℕ = n - length w - 1 in
      let e : n ≡ length w + suc m = omega arith in
      (_, entity-stays c k w n m [] e h)

  -- The entity is whole.
  pub whole_gives : (w : List ℕ) → IsEntity w → length w ≤ n → after_bytes entity_then w ≡ k w
  whole_gives w (f, last, e, h, stop) short =
      let len : length w ≡ length f + 1 = ap length e ∙ length-append f (last ∷ []) in
      let m : ℕ = n - length f - 1 in
      let room : n ≡ length f + suc m = omega arith in
      ap (after_bytes entity_then) e ∙ entity-ends c k f last n m room h (le-leb 128 last stop) ∙ ap k (sym e)

  -- There is no stop bit among as many bytes as there may be.
  pub full_stops : (front : List ℕ) (b : ℕ) → HaveNoStop (front ++ b ∷ []) → length (front ++ b ∷ []) ≡ n → after_bytes entity_then (front ++ b ∷ []) ≡ Stop c
  full_stops front b h len =
      let room : n ≡ length front + 1 = sym len ∙ length-append front (b ∷ []) in
      let small : b < 128 = All-head (λ x. x < 128) b [] (All-front (λ x. x < 128) front (b ∷ []) h).1 in
      entity-full c k front b n room (All-front (λ x. x < 128) front (b ∷ []) h).0 (no_stop b small)

  -- The bytes behind those in hand hand nothing over before the last.
  pub takes_quietly : (front w : List ℕ) → IsOpenBefore front w → length (front ++ w) ≤ n → Quiet (after_bytes entity_then front) w
  takes_quietly front [] h short = tt
  takes_quietly front (b ∷ w) h short =
      let len : length (front ++ b ∷ w) ≡ length front + length (b ∷ w) = length-append front (b ∷ w) in
      let room : length front < n = omega arith in (
        open_waits front h.0 room,
        subst (λ r. Quiet r w) (after-more entity_then front b) (takes_quietly (front ++ b ∷ []) w h.1 (rw (shifted front b w) short)),
      )
