-- Events are those of one list of messages.
use Rattle.std.proofs.Common.{◌≡◌, List, [], ◌∷◌, ◌++◌, refl, ap, ap₂, sym, ◌∙◌, append_assoc}
use Rattle.std.specs.Prelude.{All, flat_map, slice_get, Some}
use Rattle.std.proofs.lemmas.List.Elements.{All-head, All-tail}
use Rattle.fast_value.specs.meaning.Messages.{MessageData}
use Rattle.fast_tree.specs.meaning.Tree.{TemplateData, Tree}
use Rattle.fast_stream.specs.meaning.Events.{EventData, MessageStart, MessageEnd, body_events, events}
use Rattle.fast_spelling.specs.meaning.Suiting.{SuitsBody, SuitsTemplate}
use Rattle.fast_messages.specs.meaning.Distinct.{HasDistinctBodies}
use Rattle.fast_messages.proofs.unique.OneBody.{same_body}

-- the events of a message whose template is there
pub events_are : (t : Tree) (m : MessageData) (u : TemplateData) (rest : List EventData) → slice_get t.templates m.template ≡ Some u
    → events t m ++ rest ≡ MessageStart m.template ∷ (body_events u.body m.slots ++ MessageEnd ∷ rest)
events_are t m u rest found = rw (found) (ap (λ z. MessageStart m.template ∷ z) (append_assoc (body_events u.body m.slots) (MessageEnd ∷ []) rest))

-- two messages, the first of each list
pub one_message : (t : Tree) (m n : MessageData) (rest more : List EventData) → HasDistinctBodies t → SuitsTemplate t m → SuitsTemplate t n
    → events t m ++ rest ≡ events t n ++ more → (m ≡ n) × (rest ≡ more)
one_message t m n rest more d (u, found, h) (w, other, k) e =
    let both : MessageStart m.template ∷ (body_events u.body m.slots ++ MessageEnd ∷ rest) ≡ MessageStart n.template
    ∷ (body_events w.body n.slots ++ MessageEnd ∷ more) = sym (events_are t m u rest found) ∙ e ∙ events_are t n w more other in
    let number : m.template ≡ n.template = cc (both) in
    let templates : Some u ≡ Some w = sym found ∙ ap (λ z. slice_get t.templates z) number ∙ other in
    let template : w ≡ u = cc (templates) in
    let within : body_events u.body m.slots ++ MessageEnd ∷ rest ≡ body_events u.body n.slots ++ MessageEnd ∷ more = cc (both, template) in
    let suits : SuitsBody u.body n.slots = rw (sym template) k in
    let one = same_body u.body (d m.template u found) m.slots n.slots (MessageEnd ∷ rest) (MessageEnd ∷ more) h suits (λ n x. x) (λ n x. x) within in
    (ap₂ (λ a b. record { template = a; slots = b }) number one.0, cc (one.1))

-- an event is there
pub some_event : (t : Tree) (m : MessageData) (rest : List EventData) → SuitsTemplate t m → [] ≡ events t m ++ rest → ⊥
some_event t m rest (u, found, h) e = let none : [] ≡ MessageStart m.template ∷ (body_events u.body m.slots ++ MessageEnd ∷ rest) = e
    ∙ events_are t m u rest found in absurd (cc (none))

pub same_messages : (t : Tree) (ms ns : List MessageData) → HasDistinctBodies t → All (SuitsTemplate t) ms → All (SuitsTemplate t) ns
    → flat_map (events t) ms ≡ flat_map (events t) ns → ms ≡ ns
same_messages t [] [] d hs ks e = refl
same_messages t [] (n ∷ ns) d hs ks e = absurd (some_event t n (flat_map (events t) ns) (All-head (SuitsTemplate t) n ns ks) e)
same_messages t (m ∷ ms) [] d hs ks e = absurd (some_event t m (flat_map (events t) ms) (All-head (SuitsTemplate t) m ms hs) (sym e))
same_messages t (m ∷ ms) (n ∷ ns) d hs ks e =
    let one = one_message t m n (flat_map (events t) ms) (flat_map (events t) ns) d (All-head (SuitsTemplate t) m ms hs)
    (All-head (SuitsTemplate t) n ns ks) e in
    cc (one.0, same_messages t ms ns d (All-tail (SuitsTemplate t) m ms hs) (All-tail (SuitsTemplate t) n ns ks) one.1)
