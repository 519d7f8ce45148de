-- One record more tells one event more.
use Rattle.std.proofs.Common.{◌≡◌, ℕ, zero, suc, ◌+◌, ◌<◌, List, [], ◌∷◌, ◌++◌, length, map, take, refl, ap, subst, sym, arith}
use Rattle.std.proofs.Math.ListN.{get_or}
use Rattle.std.proofs.lemmas.List.{take_more, length-map}
use Rattle.fast_stream.specs.meaning.Events.{EventData}
use Rattle.fast_records.specs.declared.records.Record.{Record}
use Rattle.std.specs.Prelude.{Result, Ok, Err, IfErr}
use Rattle.fast_value.specs.declared.messages.Message.{Message}
use Rattle.fast_stream.specs.declared.events.Event.{Event}
use Rattle.fast_stream.specs.meaning.Handed.{event_data}
use Rattle.fast_records.specs.declared.putting.PutFault.{PutFault}
use Rattle.fast_records.specs.declared.putting.PutFault.TheVariants as Put
use Rattle.fast_records.specs.meaning.Lent.{Tells, AreTold}
use Rattle.fast_records.specs.meaning.Putting.{OnMisplacedAt, IsPlaced, IsWithin}

told_more : (texts : List ℕ) (rs : List Record) (r : Record) (es : List EventData) (e : EventData) → AreTold texts rs es → Tells texts r e
    → AreTold texts (rs ++ r ∷ []) (es ++ e ∷ [])
told_more texts [] r [] e told one = (one, tt)
told_more texts [] r (d ∷ es) e told one = absurd told
told_more texts (q ∷ rs) r [] e told one = absurd told
told_more texts (q ∷ rs) r (d ∷ es) e told one = (told.0, told_more texts rs r es e told.1 one)

pub one_told : (texts : List ℕ) (rs : List Record) (i : ℕ) (d : Record) (es : List EventData) (e : EventData) → i < length rs
    → AreTold texts (take i rs) es → Tells texts (get_or rs i d) e → AreTold texts (take (i + 1) rs) (es ++ e ∷ [])
one_told texts rs i d es e inside told one = subst (λ (z : List Record). AreTold texts z (es ++ e ∷ [])) (sym (take_more rs i d inside))
    (told_more texts (take i rs) (get_or rs i d) es e told one)

-- each of the records tells an event
pub told_at : (texts : List ℕ) (rs : List Record) (i : ℕ) (d : Record) (es : List EventData) → i < length rs → AreTold texts rs es
    → (e : EventData) × Tells texts (get_or rs i d) e
told_at texts [] i d es inside told = absurd (omega (arith, inside))
told_at texts (r ∷ rs) i d [] inside told = absurd told
told_at texts (r ∷ rs) zero d (e ∷ es) inside told = (e, told.0)
told_at texts (r ∷ rs) (suc i) d (e ∷ es) inside told = told_at texts rs i d es (omega (arith, inside)) told.1

-- A front of the records tells a front of the events.
told_front : (texts : List ℕ) (n : ℕ) (rs : List Record) (es : List EventData) → AreTold texts rs es → AreTold texts (take n rs) (take n es)
told_front texts zero rs es told = tt
told_front texts (suc n) [] [] told = tt
told_front texts (suc n) [] (e ∷ es) told = absurd told
told_front texts (suc n) (r ∷ rs) [] told = absurd told
told_front texts (suc n) (r ∷ rs) (e ∷ es) told = (told.0, told_front texts n rs es told.1)

told_long : (texts : List ℕ) (rs : List Record) (es : List EventData) → AreTold texts rs es → length es ≡ length rs
told_long texts [] [] told = refl
told_long texts [] (e ∷ es) told = absurd told
told_long texts (r ∷ rs) [] told = absurd told
told_long texts (r ∷ rs) (e ∷ es) told = ap suc (told_long texts rs es told.1)

-- Where all records tell events, the one that is not due has those before it.
placed_by : (texts : List ℕ) (rs : List Record) (es : List EventData) (f : PutFault) → AreTold texts rs es → IsWithin (length es) f
    → OnMisplacedAt (IsPlaced rs texts) f
placed_by texts rs es (Put.Misplaced n) told h = let long = told_long texts rs es told in record {
  within = omega (arith, long, h);
  before = take n es;
  told = told_front texts n rs es told;
}
placed_by texts rs es Put.Memory told h = tt

pub if_placed : (texts : List ℕ) (rs : List Record) (given : List Event) (r : Result Message PutFault)
    → AreTold texts rs (map event_data given) → IfErr r (IsWithin (length given)) → IfErr r (OnMisplacedAt (IsPlaced rs texts))
if_placed texts rs given (Ok m) told h = tt
if_placed texts rs given (Err f) told h = placed_by texts rs (map event_data given) f told
    (subst (λ (n : ℕ). IsWithin n f) (sym (length-map given event_data)) h)
