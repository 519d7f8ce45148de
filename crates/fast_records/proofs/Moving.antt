-- Records are added one behind the other, and what waits moves into the buffers.
use Rattle.std.proofs.Common.{◌≡◌, inl, inr, ℕ, ◌+◌, ◌-◌, List, [], ◌∷◌, ◌++◌, length, map, drop, Some, Bor, sym, ap, subst, ◌∙◌}
use Rattle.std.proofs.Common.{length-append, arith, add-zero}
use Rattle.std.specs.Slice.{IsItemAt}
use Rattle.std.proofs.lemmas.List.{flat_map_more, map-append}
use Rattle.fast_stream.specs.meaning.Events.{EventData}
use Rattle.fast_records.specs.declared.records.Record.{Record}
use Rattle.fast_records.specs.declared.room.Room.{Room}
use Rattle.fast_records.specs.declared.waiting.Waiting.{Waiting}
use Rattle.fast_records.specs.meaning.Records.{record_of, unplaced, event_text, records_of, texts_of}
use Rattle.fast_records.specs.device.Room.{records_in, texts_in, IsOpen, LacksRoom, IsFull, Adds, IsAsFilled}
use Rattle.fast_records.specs.device.Waiting.{Holds, Moves}
use Rattle.fast_records.specs.declared.waiting.Kept.{Kept}
use Rattle.fast_records.specs.meaning.Waiting.{pending, kept_data}
use Rattle.fast_records.specs.meaning.Feeding.{HasNoRoom}

-- the records of one event more
pub records_of-append : (p : ℕ) (es : List EventData) (e : EventData)
    → records_of p (es ++ e ∷ []) ≡ records_of p es ++ record_of (p + length (texts_of es)) e ∷ []
records_of-append p [] e = ap (λ (n : ℕ). record_of n e ∷ []) (sym (add-zero p))
records_of-append p (x ∷ es) e =
    let at : (p + length (event_text x)) + length (texts_of es) ≡ p + length (event_text x ++ texts_of es) =
    omega (arith, length-append (event_text x) (texts_of es)) in
    ap (λ (rs : List Record). record_of p x ∷ rs) (records_of-append (p + length (event_text x)) es e)
    ∙ ap (λ (n : ℕ). record_of p x ∷ (records_of (p + length (event_text x)) es ++ record_of n e ∷ [])) at

-- their texts
pub texts_of-append : (es : List EventData) (e : EventData) → texts_of (es ++ e ∷ []) ≡ texts_of es ++ event_text e
texts_of-append es e = sym (flat_map_more event_text [] es e)

-- with its record, a room holds one event more
pub holds_more : (r r' : Room) (es : List EventData) (e : EventData) (p : ℕ) (next : Record) (t : List ℕ) → Holds r es
    → p ≡ length (texts_in r) → unplaced next ≡ record_of p e → t ≡ event_text e → Adds next t r r' → Holds r' (es ++ e ∷ [])
holds_more r r' es e p next t h at is text adds =
    let place : p ≡ length (texts_of es) = at ∙ ap length h.texts_are in
    let one : unplaced next ≡ record_of (0 + length (texts_of es)) e = is ∙ ap (λ (n : ℕ). record_of n e) (omega (arith, place)) in
    record {
      records_are = ap (map unplaced) adds.records ∙ map-append unplaced (records_in r) (next ∷ [])
          ∙ ap (λ (rs : List Record). rs ++ unplaced next ∷ []) h.records_are
          ∙ ap (λ (x : Record). records_of 0 es ++ x ∷ []) one ∙ sym (records_of-append 0 es e);
      texts_are = adds.texts ∙ ap (λ (ts : List ℕ). ts ++ t) h.texts_are ∙ ap (λ (ts : List ℕ). texts_of es ++ ts) text ∙ sym (texts_of-append es e);
    }

-- a room that is filled as another holds the same events
pub holds_same : (r r' : Room) (es : List EventData) → IsAsFilled r r' → Holds r es → Holds r' es
holds_same r r' es same h = record { records_are = ap (map unplaced) same.records ∙ h.records_are; texts_are = same.texts ∙ h.texts_are }

-- what stands at the front of a list
pub front_is : (xs : List Kept) (x : Bor Kept) → IsItemAt xs 0 (Some x) → xs ≡ x.now ∷ drop 1 xs
front_is [] x h = cc h.0
front_is (y ∷ ys) x h = ap (λ (z : Kept). z ∷ ys) (sym h.1)

-- the first that waits has no room in one that is open
pub full_first : (r : Room) (w : Waiting) (x : Kept) (rest : List Kept) (e : EventData) (t : List ℕ) → w.events.items ≡ x ∷ rest
    → e ≡ kept_data x → t ≡ event_text e → LacksRoom t r → IsOpen r → IsFull r (pending w)
full_first r w x rest e t items is text lacks unclosed some =
    subst (λ (es : List EventData). HasNoRoom (length r.records.now - r.filled) (length r.texts.now - r.used) es)
    (sym (ap (map kept_data) items)) (by lacks)
  where
    by : LacksRoom t r → HasNoRoom (length r.records.now - r.filled) (length r.texts.now - r.used) (kept_data x ∷ map kept_data rest)
    by (inl none) = inl (omega (arith, none, unclosed))
    by (inr long) = inr (let same = ap length (text ∙ ap event_text is) in omega (arith, long, same))

-- the first that waited went into the room
pub moves_first : (r r' : Room) (w w' : Waiting) (x : Kept) (e : EventData) (p : ℕ) (next : Record) (t : List ℕ)
    → w.events.items ≡ x ∷ w'.events.items → e ≡ kept_data x → p ≡ length (texts_in r)
    → unplaced next ≡ record_of p e → t ≡ event_text e → Adds next t r r' → Moves r w r' w'
moves_first r r' w w' x e p next t items is at record_is text adds es h =
    (e ∷ [], ap (map kept_data) items ∙ ap (λ (z : EventData). z ∷ pending w') (sym is), holds_more r r' es e p next t h at record_is text adds)
