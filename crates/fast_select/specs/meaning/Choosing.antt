-- Which messages of a stream are chosen.
use Rattle.std.specs.Prelude.{ℕ, ◌-◌, ◌&&◌, ◌==◌, nat_eq, not, Bool, true, false, if◌then◌else◌, List, [], ◌∷◌, Option, Some, None}
use Rattle.std.specs.Borrow.{Bor}
use Rattle.std.specs.List.{list_any}
use Rattle.fast_stream.specs.meaning.Events.{EventData, MessageStart, MessageEnd}
use Rattle.fast_select.specs.declared.selected.Chooser.{Chooser}

-- as many messages were chosen as may be
abbrev pub is_none_left : Option ℕ → Bool
is_none_left None = false
is_none_left (Some n) = nat_eq n 0

-- the template is one of those chosen
abbrev pub is_among : Option (Bor (List ℕ)) → ℕ → Bool
is_among None n = true
is_among (Some only) n = list_any (λ m. m == n) only.now

-- a message of the template is chosen if it begins here
abbrev pub begins : Chooser → ℕ → Bool
begins c n = nat_eq c.skip 0 && not (is_none_left c.rest) && is_among c.only n

-- one message less, if one was chosen
abbrev pub less : Bool → Option ℕ → Option ℕ
less was None = None
less true (Some n) = Some (n - 1)
less false (Some n) = Some n

-- the event belongs to a chosen message
abbrev pub is_chosen : Chooser → EventData → Bool
is_chosen c (MessageStart n) = begins c n
is_chosen c e = c.is_in

-- the chooser after an event
abbrev pub after : Chooser → EventData → Chooser
after c (MessageStart n) = record c { skip = c.skip - 1; is_in = begins c n }
after c MessageEnd = record c { rest = less c.is_in c.rest; is_in = false }
after c e = c

-- the chooser after some events
abbrev pub after_all : Chooser → List EventData → Chooser
after_all c [] = c
after_all c (e ∷ es) = after_all (after c e) es

-- the events of the chosen messages
abbrev pub chosen : Chooser → List EventData → List EventData
chosen c [] = []
chosen c (e ∷ es) = if is_chosen c e then e ∷ chosen (after c e) es else chosen (after c e) es
