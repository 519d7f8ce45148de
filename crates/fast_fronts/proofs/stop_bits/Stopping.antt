-- Entities, and fronts of them.
use Rattle.std.proofs.Common.{ℕ, ◌+◌, ◌<◌, ◌≤◌, List, length, take, get_or, subst, sym}
use Rattle.std.proofs.lemmas.List.{take_more, take_all}
use Rattle.std.proofs.lemmas.List.Elements.{All-push, All-take}
use Rattle.fast_wire.specs.meaning.Entities.{HaveNoStop, IsEntity}

-- one more byte without the stop bit
pub unstopped_more : (w : List ℕ) (i : ℕ) → i < length w → HaveNoStop (take i w) → get_or w i 0 < 128 → HaveNoStop (take (i + 1) w)
unstopped_more w i h before small = subst HaveNoStop (sym (take_more w i 0 h)) (All-push (λ byte. byte < 128) (take i w) (get_or w i 0) before small)

-- The byte with the stop bit ends the entity.
pub entity_ends : (w : List ℕ) (i : ℕ) → i < length w → HaveNoStop (take i w) → 128 ≤ get_or w i 0 → IsEntity (take (i + 1) w)
entity_ends w i h before stop = (take i w, get_or w i 0, take_more w i 0 h, before, stop)

-- no stop in the whole, and so none in a front
pub unstopped_front : (w : List ℕ) (i n : ℕ) → length w ≤ i → HaveNoStop (take i w) → HaveNoStop (take n w)
unstopped_front w i n h none = All-take (λ byte. byte < 128) n w (subst HaveNoStop (take_all i w h) none)
