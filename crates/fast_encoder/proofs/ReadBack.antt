-- What an encoder wrote is read back by a decoder.
use Rattle.std.proofs.Common.{◌≡◌, ℕ, ◌+◌, ◌<◌, ◌≤◌, ◌^◌, List, [], ◌∷◌, ◌++◌, length, refl, ap, sym, subst, ◌∙◌, arith}
use Rattle.std.specs.Prelude.{true, Option, None, Result, Ok, Err}
use Rattle.fast_value.specs.declared.settings.Limits.{Limits}
use Rattle.fast_value.specs.meaning.Limits.{in_mode}
use Rattle.fast_value.specs.meaning.Messages.{MessageData}
use Rattle.fast_tree.specs.meaning.Tree.{Tree}
use Rattle.fast_dict.specs.meaning.Dictionary.{fresh}
use Rattle.fast_stream.specs.declared.faults.Fault.{Fault}
use Rattle.fast_stream.specs.declared.faults.FaultCode.{FaultCode}
use Rattle.fast_stream.specs.declared.faults.FaultCode.TheVariants as Why
use Rattle.fast_stream.specs.meaning.Events.{EventData, events}
use Rattle.fast_stream.specs.meaning.Messages.{SpellsMessage}
use Rattle.fast_stream.specs.meaning.Sinks.{Takes}
use Rattle.fast_stream.specs.meaning.Account.{account_at}
use Rattle.fast_stream.specs.meaning.Streams.{between, Stream, Chain}
use Rattle.fast_stream.proofs.streams.Reading.{one_answer, read_back}
use Rattle.fast_decoder.specs.meaning.Decoding.{DecoderData, HasRead, Carries, CarriesAt, Carried, answer, account, tree as decoded_tree}
use Rattle.fast_decoder.proofs.streams.Ends.{read-stream}
use Rattle.fast_encoder.specs.meaning.Encoders.{EncoderData, IsEncoded, tree}
use Rattle.fast_encoder.specs.meaning.ReadBack.{AreLevel, IsSinkStop, IsReadBack}

-- lists with the same front
pub same_back : {A : Type 0} (u v w : List A) → u ++ v ≡ u ++ w → v ≡ w
same_back [] v w h = h
same_back (x ∷ u) v w h = same_back u v w (cc h)

-- the message behind the chain
module _ (e : EncoderData) (d : DecoderData) (m : MessageData) (out : List ℕ) (f : EncoderData) (longer w : List ℕ) (es : List EventData)
    (level : AreLevel e d w es) (written : IsEncoded e m out f longer) where
  spelled : SpellsMessage (decoded_tree d) (in_mode true d.limits) e.dictionary m written.bytes f.dictionary
  spelled = subst (λ (t : Tree). SpellsMessage t (in_mode true d.limits) e.dictionary m written.bytes f.dictionary) (sym level.same_tree)
      (subst (λ (l : Limits). SpellsMessage (tree e) l e.dictionary m written.bytes f.dictionary) (sym level.same_limits) written.spelled)

  pub behind : Stream (decoded_tree d) d.limits (w ++ written.bytes) (es ++ events (decoded_tree d) m) between
      × Chain (decoded_tree d) d.limits (w ++ written.bytes) (es ++ events (decoded_tree d) m) f.dictionary
  behind = read_back (decoded_tree d) d.limits w written.bytes es m e.dictionary f.dictionary level.chain spelled

  -- What was read of the bytes, and where it has led.
  pub read : (g : DecoderData) (more : List EventData) → decoded_tree g ≡ decoded_tree d → g.limits ≡ d.limits
      → HasRead g (w ++ written.bytes) (es ++ more) → (more ≡ events (tree e) m) × (account g ≡ account_at (w ++ written.bytes) between)
  read g more same_tree same_limits so =
      let (ending, stream, stands) = read-stream g (w ++ written.bytes) (es ++ more) so in
      let here : Stream (decoded_tree d) d.limits (w ++ written.bytes) (es ++ more) ending
      = subst (λ (t : Tree). Stream t d.limits (w ++ written.bytes) (es ++ more) ending) same_tree
      (subst (λ (l : Limits). Stream (decoded_tree g) l (w ++ written.bytes) (es ++ more) ending) same_limits stream) in
      let one = one_answer (decoded_tree d) d.limits (w ++ written.bytes) (es ++ more) (es ++ events (decoded_tree d) m) ending between here behind.0 in
      (same_back es more (events (decoded_tree d) m) one.0 ∙ ap (λ (t : Tree). events t m) level.same_tree, stands ∙ ap (account_at (w ++ written.bytes)) one.1)

-- Behind a feed of the whole message the decoder has no fault, and the two are level again.
pub carried_on : {S : Type 0} (takes : S → EventData → S → Type 0) (e f : EncoderData) (d g : DecoderData) (m : MessageData)
    (out longer w : List ℕ) (es : List EventData) (s t : S) (level : AreLevel e d w es) (written : IsEncoded e m out f longer)
    → tree f ≡ tree e → f.limits ≡ e.limits → decoded_tree g ≡ decoded_tree d → g.limits ≡ d.limits
    → Carries takes w es written.bytes s g t → (g.fault ≡ None) × IsReadBack takes m written.bytes w es s f g t
carried_on takes e f d g m out longer w es s t level written kept_tree kept_limits same_tree same_limits carried =
    let (all, stands) = read e d m out f longer w es level written g carried.more same_tree same_limits carried.so in
    let whole : carried.more ≡ events (tree f) m = all ∙ ap (λ (z : Tree). events z m) (sym kept_tree) in
    let chain = (behind e d m out f longer w es level written).1 in
    let here : Chain (decoded_tree g) g.limits (w ++ written.bytes) (es ++ events (decoded_tree d) m) f.dictionary
    = subst (λ (z : Tree). Chain z g.limits (w ++ written.bytes) (es ++ events (decoded_tree d) m) f.dictionary) (sym same_tree)
    (subst (λ (l : Limits). Chain (decoded_tree d) l (w ++ written.bytes) (es ++ events (decoded_tree d) m) f.dictionary)
    (sym same_limits) chain) in (
      ap (λ z. z.fault) stands,
      record {
        took = subst (λ (xs : List EventData). Takes takes s xs t) whole carried.took;
        level = record {
          same_tree = same_tree ∙ level.same_tree ∙ sym kept_tree;
          same_limits = ap (in_mode true) same_limits ∙ level.same_limits ∙ ap (in_mode true) (sym kept_limits);
          so = subst (λ (xs : List EventData). HasRead g (w ++ written.bytes) (es ++ xs)) whole carried.so;
          is_between = ap (λ z. z.is_between) stands;
          chain = subst (λ (z : Tree). Chain (decoded_tree g) g.limits (w ++ written.bytes) (es ++ events z m) f.dictionary)
              (level.same_tree ∙ sym kept_tree) here;
        };
      },
    )

-- no answer tells a fault where there is none
pub none_told : {A : Type 0} (x : Fault) (o : Option Fault) → Err x ≡ answer o → o ≡ None → A
none_told x o told none = let wrong : Err x ≡ Ok tt = told ∙ ap answer none in absurd (cc wrong)

counted : (k n : ℕ) → k + n < 2 ^ 64 → 2 ^ 64 ≤ k + n → ⊥
counted k n below above = omega (arith, below, above)

pub reading_back : {S : Type 0} (takes stops : S → EventData → S → Type 0) (e f : EncoderData) (d g : DecoderData) (m : MessageData)
    (out longer w : List ℕ) (es : List EventData) (s t : S) (r : Result Unit Fault)
    → AreLevel e d w es → (written : IsEncoded e m out f longer) → tree f ≡ tree e → f.limits ≡ e.limits → ¬ (IsSinkStop r)
    → d.consumed + length written.bytes < 2 ^ 64
    → Carried takes stops d w es written.bytes s r g t → r ≡ answer g.fault → decoded_tree g ≡ decoded_tree d → g.limits ≡ d.limits
    → (r ≡ Ok tt) × IsReadBack takes m written.bytes w es s f g t
reading_back takes stops e f d g m out longer w es s t (Ok u) level written kept_tree kept_limits goes few carried told same_tree same_limits =
    (refl, (carried_on takes e f d g m out longer w es s t level written kept_tree kept_limits same_tree same_limits carried).1)
reading_back {S} takes stops e f d g m out longer w es s t
    (Err x) level written kept_tree kept_limits goes few carried told same_tree same_limits = absurd (by x.code refl carried)
  where
    by : (c : FaultCode) → c ≡ x.code → CarriesAt takes stops d w es written.bytes s c x.place g t → ⊥
    by (Why.Stream c) is h = none_told x g.fault told (carried_on takes e f d g m out longer w es s t level written kept_tree kept_limits
        same_tree same_limits h).0
    by Why.L4 is h = counted d.consumed (length written.bytes) few h.many
    by Why.SinkStopped is h = goes (sym is)

-- Nothing at all is a stream between messages.
new_chain : (t : Tree) (l : Limits) → Stream t l [] [] between
unfolding Stream
new_chain t l = (fresh t.entries, ([], (refl, refl), refl))

-- Two that were made or reset.
pub new_are_level : (e : EncoderData) (d : DecoderData) → HasRead d [] [] → decoded_tree d ≡ tree e
    → in_mode true d.limits ≡ in_mode true e.limits → e.dictionary ≡ fresh (tree e).entries → AreLevel e d [] []
new_are_level e d so same_tree same_limits none =
    let (ending, stream, stands) = read-stream d [] [] so in
    let one = one_answer (decoded_tree d) d.limits [] [] [] ending between stream (new_chain (decoded_tree d) d.limits) in
    record {
      same_tree = same_tree;
      same_limits = same_limits;
      so = so;
      is_between = ap (λ z. z.is_between) (stands ∙ ap (account_at []) one.1);
      chain = ([], (refl, none ∙ ap (λ (t : Tree). fresh t.entries) (sym same_tree)), refl);
    }
