-- What a sink of prices knows.
use Rattle.std.proofs.Common.{◌≡◌, ℕ, List, [], ◌∷◌, false, ap, ◌∙◌, None, Ok, Err}
use Rattle.fast_value.specs.declared.settings.Limits.{Limits}
use Rattle.fast_tree.specs.meaning.Tree.{Tree}
use Rattle.fast_stream.specs.declared.faults.Fault.{Fault}
use Rattle.fast_stream.specs.meaning.Events.{EventData}
use Rattle.fast_stream.specs.meaning.Sinks.{Takes}
use Rattle.fast_decoder.specs.meaning.Decoding.{DecoderData, answer}
use Rattle.fast_decoder.specs.meaning.Feeding.{Follows, Followed}
use Rattle.fast_callers.specs.declared.prices.Columns.{Columns}
use Rattle.fast_callers.specs.declared.prices.LastPrice.{LastPrice}
use Rattle.fast_callers.specs.meaning.Callers.{TakesPrice, Known, known_by, learn, learn_all, IsStopped, HasLastPrice}
use Rattle.fast_callers.proofs.Counted.{fault_none, no_fault, fault_some, stopped_by}

pub priced : (c : Columns) (q : List ℕ) (s s' : LastPrice) (es : List EventData) → s.columns ≡ c → s.symbol.now ≡ q
    → Takes TakesPrice s es s' → known_by s' ≡ learn_all c q (known_by s) es
priced c q s s' [] columns symbol same = ap known_by same
priced c q s s' (e ∷ es) columns symbol h =
    let rest = priced c q h.0 s' es (h.1.columns ∙ columns) (h.1.symbol ∙ symbol) h.2 in
    rest ∙ ap (λ (k : Known). learn_all c q k es) (h.1.known ∙ ap (λ (d : Columns). learn d s.symbol.now (known_by s) e) columns
    ∙ ap (λ (v : List ℕ). learn c v (known_by s) e) symbol)

-- what a feed says to one who knows nothing yet
pub price_by : (t : Tree) (l : Limits) (c : Columns) (q w : List ℕ) (s s' : LastPrice) (u : Unit {0}) (new : DecoderData) → s.columns ≡ c
    → s.symbol.now ≡ q → s.is_ours ≡ false → s.price ≡ None → Ok u ≡ answer new.fault
    → Follows TakesPrice t l [] [] w s new s' → HasLastPrice t l c q w s'.price
price_by t l c q w s s' u new columns symbol none_ours none_yet is h =
    let all = priced c q s s' h.given columns symbol h.took in
    let start : known_by s ≡ record { is_ours = false; price = None } = cc (none_ours, none_yet) in (
      h.given,
      h.stream.0,
      h.stream.1,
      no_fault w h.stream.0 new (fault_none new.fault u is) h.stream.2,
      ap (λ (k : Known). k.price) (all ∙ ap (λ (k : Known). learn_all c q k h.given) start),
    )

-- why a feed stops
pub not_read : (t : Tree) (l : Limits) (w : List ℕ) (s s' : LastPrice) (f : Fault) (new : DecoderData) → Err f ≡ answer new.fault
    → Followed TakesPrice (λ (old : LastPrice) (e : EventData) (next : LastPrice). ⊥) t l [] [] w s (Err f) new s'
    → IsStopped t l w f.code f.place
not_read t l w s s' f new is h = stopped_by TakesPrice (λ (old : LastPrice) (e : EventData) (next : LastPrice). ⊥) t l w s s' f.place new
    (λ h. h.stopped) f.code (fault_some new.fault f is) h
