-- How a machine takes the bytes of an entity, of which some are in hand.
use Rattle.std.proofs.Common.{refl, sym, ap, ◌∙◌, subst, arith, length-append}
use Rattle.std.specs.Prelude.{◌≡◌, ℕ, ◌+◌, ◌<◌, ◌≤◌, List, [], ◌∷◌, ◌++◌, length, take, Result, Ok, Err}
use Rattle.std.proofs.lemmas.List.{take_all, length-take-le}
use Rattle.fast_wire.specs.meaning.Entities.{HaveNoStop}
use Rattle.fast_wire.specs.meaning.Maps.{map_limit}
use Rattle.fast_value.specs.declared.settings.Limits.{Limits}
use Rattle.fast_value.specs.meaning.Limits.{bounds}
use Rattle.fast_value.specs.declared.codes.Code.{Code}
use Rattle.fast_value.specs.declared.codes.Code.TheVariants.{L3}
use Rattle.fast_tree.specs.meaning.Tree.{Tree}
use Rattle.fast_dict.specs.meaning.Dictionary.{Dictionary}
use Rattle.fast_stream.specs.declared.faults.FaultCode.{FaultCode}
use Rattle.fast_stream.specs.declared.faults.FaultCode.TheVariants as Why
use Rattle.fast_stream.specs.meaning.Events.{EventData}
use Rattle.fast_stream.specs.device.Readers.{Reader}
use Rattle.fast_stream.specs.device.GrammarReaders.{reader_of}
use Rattle.fast_stream.specs.device.Continuations.{message_then}
use Rattle.fast_stream.specs.device.Machine.{after_bytes}
use Rattle.fast_stream.specs.device.Running.{after_byte}
use Rattle.fast_machine.specs.device.Handing.{Hands, due, Waits, Quiet, IsTaken}
use Rattle.fast_machine.specs.device.Positions.{Set, tree_in, behind_map, mapped_reader, map_reader}
use Rattle.fast_machine.proofs.units.Hanging.{hands_waits, hands_fault, hands_as}
use Rattle.fast_machine.proofs.units.InHand.{entity_then, IsOpenBefore, open_in_open, open_waits, full_stops, takes_quietly}
use Rattle.fast_stream.proofs.streams.Stepping.{map-entity}

-- Bytes in two runs.
pub after-append : (r : Reader Dictionary) (u v : List ℕ) → after_bytes r (u ++ v) ≡ after_bytes (after_bytes r u) v
after-append r [] v = refl
after-append r (b ∷ u) v = after-append (after_byte r b) u v

-- What waits is due as it is.
pub due-waits : (t : Tree) (l : Limits) (r : Reader Dictionary) → Waits r → due t l r ≡ r
due-waits t l r (f, e) = rw e refl

-- Bytes that are not empty end in one.
pub last_of : (w : List ℕ) → 0 < length w → (front : List ℕ) × (b : ℕ) × (w ≡ front ++ b ∷ [])
last_of [] h = absurd (omega (arith, h))
last_of (b ∷ []) h = ([], b, refl)
last_of (a ∷ b ∷ w) h = let (front, c, e) = last_of (b ∷ w) (omega arith) in (a ∷ front, c, ap (λ t. a ∷ t) e)

module _ {S : Type 0} (takes stops : S → EventData → S → Type 0) (t : Tree) (l : Limits) where
  -- by other names of the readers
  pub taken_as : {from from' to to' : Reader Dictionary} (rest : List ℕ) (s : S) (n : ℕ) (r : Result Unit FaultCode) (s' : S) → from ≡ from' → to ≡ to'
      → IsTaken takes stops t l from' rest s n r s' to' → IsTaken takes stops t l from rest s n r s' to
  taken_as {from} {from'} {to} {to'} rest s n r s' e i h =
      subst (λ (p : Reader Dictionary). IsTaken takes stops t l p rest s n r s' to) (sym e)
      (subst (λ (q : Reader Dictionary). IsTaken takes stops t l from' rest s n r s' q) (sym i) h)

  module _ (c : Code) (room : ℕ) (k : List ℕ → Reader Dictionary) (from : Reader Dictionary) (front rest : List ℕ)
      (here : due t l from ≡ after_bytes (entity_then c room k) front) where
    -- Some bytes of the rest are taken.
    pub taken_by : (n : ℕ) (s : S) (r : Result Unit FaultCode) (s' : S) (to : Reader Dictionary) → 0 < n → n ≤ length rest
        → IsOpenBefore front (take n rest) → length (front ++ take n rest) ≤ room
        → Hands takes stops (after_bytes (entity_then c room k) (front ++ take n rest)) s r s' to → IsTaken takes stops t l from rest s n r s' to
    taken_by n s r s' to some within before short h = record {
      some = some;
      within = within;
      quiet = subst (λ (p : Reader Dictionary). Quiet p (take n rest)) (sym here) (takes_quietly c room k front (take n rest) before short);
      hands = hands_as takes stops s r s' to (ap (λ (p : Reader Dictionary). after_bytes p (take n rest)) here
          ∙ sym (after-append (entity_then c room k) front (take n rest))) h;
    }

    -- All of the rest is taken, and the entity is cut.
    pub taken_cut : (s : S) → 0 < length rest → HaveNoStop (front ++ rest) → length (front ++ rest) < room
        → IsTaken takes stops t l from rest s (length rest) (Ok tt) s (after_bytes (entity_then c room k) (front ++ rest))
    taken_cut s some no_stop short =
        let all : take (length rest) rest ≡ rest = take_all (length rest) rest (omega arith) in
        taken_by (length rest) s (Ok tt) s (after_bytes (entity_then c room k) (front ++ rest)) some (omega arith)
        (open_in_open front (take (length rest) rest) (subst (λ (w : List ℕ). HaveNoStop (front ++ w)) (sym all) no_stop))
        (rw all (omega arith))
        (hands_as takes stops s (Ok tt) s (after_bytes (entity_then c room k) (front ++ rest))
        (ap (λ (w : List ℕ). after_bytes (entity_then c room k) (front ++ w)) all)
        (hands_waits takes stops (after_bytes (entity_then c room k) (front ++ rest)) s (open_waits c room k (front ++ rest) no_stop short)))

    -- There is no stop bit among as many bytes as there may be.
    pub taken_full : (n : ℕ) (s : S) (to : Reader Dictionary) → 0 < n → n ≤ length rest → HaveNoStop (front ++ take n rest)
        → length (front ++ take n rest) ≡ room
        → IsTaken takes stops t l from rest s n (Err (Why.Stream c)) s to
    taken_full n s to some within no_stop full =
        let len : length (take n rest) ≡ n = length-take-le n rest within in
        let sum : length (front ++ take n rest) ≡ length front + length (take n rest) = length-append front (take n rest) in
        let (before, b, e) = last_of (front ++ take n rest) (omega arith) in
        taken_by n s (Err (Why.Stream c)) s to some within (open_in_open front (take n rest) no_stop) (omega arith)
        (hands_fault takes stops s to (ap (after_bytes (entity_then c room k)) e
        ∙ full_stops c room k before b (subst HaveNoStop e no_stop) (ap length (sym e) ∙ full)))

-- the map of a message, of which these bytes have come
pub map-reader : (set : Set) (l : Limits) (d : Dictionary)
    → reader_of l.strict (message_then (tree_in set) (bounds l) d) ≡ entity_then L3 map_limit (mapped_reader set l d)
unfolding message_then
map-reader set l d = map-entity l.strict (behind_map set (bounds l) d)

pub map_reader-some : (set : Set) (l : Limits) (d : Dictionary) (w : List ℕ) → 0 < length w
    → map_reader set l d w ≡ after_bytes (entity_then L3 map_limit (mapped_reader set l d)) w
map_reader-some set l d [] h = absurd (omega (arith, h))
map_reader-some set l d (b ∷ w) h = ap (λ r. after_bytes r (b ∷ w)) (map-reader set l d)

pub due-map : (set : Set) (l : Limits) (d : Dictionary) (w : List ℕ) → HaveNoStop w → length w < map_limit
    → due (tree_in set) l (map_reader set l d w) ≡ after_bytes (entity_then L3 map_limit (mapped_reader set l d)) w
due-map set l d [] h short = map-reader set l d
due-map set l d (b ∷ w) h short =
    let e = map_reader-some set l d (b ∷ w) (omega arith) in
    due-waits (tree_in set) l (map_reader set l d (b ∷ w)) (subst Waits (sym e) (open_waits L3 map_limit (mapped_reader set l d) (b ∷ w) h short)) ∙ e

-- a machine that waits in an entity is due as it is
pub due-entity : (t : Tree) (l : Limits) (c : Code) (n : ℕ) (k : List ℕ → Reader Dictionary) (r : Reader Dictionary) (front : List ℕ)
    → r ≡ entity_then c n k → HaveNoStop front → length front < n
    → due t l (after_bytes r front) ≡ after_bytes (entity_then c n k) front
due-entity t l c n k r front e h short =
    let i : after_bytes r front ≡ after_bytes (entity_then c n k) front = ap (λ p. after_bytes p front) e in
    ap (due t l) i ∙ due-waits t l (after_bytes (entity_then c n k) front) (open_waits c n k front h short)
