-- What comes of messages that are encoded, and read at once.
use Rattle.std.proofs.Common.{◌≡◌, ℕ, ◌+◌, ◌-◌, ◌<◌, List, [], ◌∷◌, ◌++◌, length, length-append, length-take, map, take, drop, get_or, refl}
use Rattle.std.proofs.Common.{ap, sym, subst, ◌∙◌, append_assoc, append-nil, arith}
use Rattle.std.specs.Prelude.{flat_map, Option, Some, None, Err}
use Rattle.std.proofs.lemmas.List.{take_more, take_all, drop_at, take-append-drop, map-append, length-map}
use Rattle.std.proofs.lemmas.List.Elements.{All-append}
use Rattle.std.proofs.lemmas.Grind.{flat_map-append}
use Rattle.fast_value.specs.declared.settings.Limits.{Limits}
use Rattle.fast_value.specs.declared.messages.Message.{Message}
use Rattle.fast_value.specs.meaning.Messages.{MessageData}
use Rattle.fast_value.specs.meaning.Views.{message_data}
use Rattle.fast_tree.specs.meaning.Tree.{Tree}
use Rattle.fast_stream.specs.declared.faults.Fault.{Fault}
use Rattle.fast_stream.specs.declared.faults.FaultCode.{FaultCode}
use Rattle.fast_stream.specs.declared.faults.FaultCode.TheVariants as Why
use Rattle.fast_stream.specs.meaning.Events.{EventData, events}
use Rattle.fast_stream.specs.meaning.Sinks.{Takes, TakesUpTo}
use Rattle.fast_stream.specs.meaning.Streams.{End, Stream, AreBytes}
use Rattle.fast_stream.specs.device.Running.{run, message_begun, reading, end_of}
use Rattle.fast_stream.proofs.readers.Binds.{All-front}
use Rattle.fast_stream.proofs.streams.Reading.{one_answer, reading-append, reading-sound}
use Rattle.fast_decoder.specs.meaning.Decoding.{DecoderData, CarriesAt, answer, tree as decoded_tree}
use Rattle.fast_decoder.specs.meaning.Feeding.{StopsShort, FollowedAt}
use Rattle.fast_encoder.specs.meaning.Encoders.{EncoderData, IsEncoded, tree}
use Rattle.fast_encoder.specs.meaning.ReadBack.{AreLevel, IsReadBack}
use Rattle.fast_encoder.specs.meaning.RoundTrips.{EndsAt, AreEncoded, AreReadBack}
use Rattle.fast_encoder.proofs.ReadBack.{same_back, behind, carried_on, none_told}

-- What the front of a stream's bytes gives is the front of what all of them give.
front_gives : (t : Tree) (l : Limits) (u v : List ℕ) (xs ys : List EventData) (a b : End) → AreBytes (u ++ v) → Stream t l u xs a
    → Stream t l (u ++ v) ys b → (more : List EventData) × (ys ≡ xs ++ more)
front_gives t l u v xs ys a b bytes front whole =
    let here = one_answer t l u xs (reading t l u).0 a (end_of (reading t l u).1) front (reading-sound t l u (All-front (λ x. x < 256) u v bytes).0) in
    let all = one_answer t l (u ++ v) ys (reading t l (u ++ v)).0 b (end_of (reading t l (u ++ v)).1) whole (reading-sound t l (u ++ v) bytes) in
    let more = (run (message_begun t l) (length u) (reading t l u).1 v).0 in
    (more, all.0 ∙ (reading-append t l u v).0 ∙ ap (λ (x : List EventData). x ++ more) (sym here.0))

-- bytes in three parts: those before a byte, this one, and those after it
in_parts : (w before unread bytes : List ℕ) (byte : ℕ) → bytes ≡ before ++ byte ∷ unread → w ++ bytes ≡ (w ++ before ++ byte ∷ []) ++ unread
in_parts w before unread bytes byte e = ap (λ (v : List ℕ). w ++ v) e ∙ sym (append_assoc w before (byte ∷ unread))
    ∙ sym (append_assoc (w ++ before) (byte ∷ []) unread)

-- events in parts, of which the first stand on both sides
same_events : (es all earlier given later more : List EventData) (x : EventData)
    → es ++ all ≡ (es ++ earlier ++ given ++ x ∷ later) ++ more → all ≡ (earlier ++ given) ++ x ∷ (later ++ more)
same_events es all earlier given later more x e =
    same_back es all ((earlier ++ given) ++ x ∷ (later ++ more))
    (e ∙ append_assoc (es ++ earlier ++ given) (x ∷ later) more
    ∙ ap (λ (xs : List EventData). xs ++ x ∷ (later ++ more)) (append_assoc es earlier given)
    ∙ append_assoc es (earlier ++ given) (x ∷ (later ++ more)))

-- A sink that stops short within bytes took the front of what these give, and stopped at the next event.
up_to : {S : Type 0} (takes stops : S → EventData → S → Type 0) (t : Tree) (l : Limits) (bytes w : List ℕ) (es all : List EventData)
    (s : S) (place : ℕ) (g : DecoderData) (s' : S) (e : End)
    → AreBytes (w ++ bytes) → Stream t l (w ++ bytes) (es ++ all) e → StopsShort takes stops t l w es bytes s place g s' → TakesUpTo takes stops s all s'
up_to takes stops t l bytes w es all s place g s' e are_bytes stream h =
    let parts : w ++ bytes ≡ (w ++ h.before ++ h.byte ∷ []) ++ h.unread = in_parts w h.before h.unread bytes h.byte h.fed_is in
    let (more, split) = front_gives t l (w ++ h.before ++ h.byte ∷ []) h.unread (es ++ h.earlier ++ h.given ++ h.refused ∷ h.later) (es ++ all) h.end_after e
    (subst (λ (v : List ℕ). AreBytes v) parts are_bytes) h.through (subst (λ (v : List ℕ). Stream t l v (es ++ all) e) parts stream) in
    (h.earlier ++ h.given, h.later ++ more, h.refused, h.mid, same_events es all h.earlier h.given h.later more h.refused split, h.took, h.stopped)

-- the fault that is told is the decoder's
pub told_fault : (o : Option Fault) (x : Fault) → Err x ≡ answer o → o ≡ Some x
told_fault None x e = absurd (cc e)
told_fault (Some y) x e = let same : x ≡ y = cc e in ap (λ (z : Fault). Some z) (sym same)

-- The feed of a message's bytes ended at a fault.
pub ended : {S : Type 0} (takes stops : S → EventData → S → Type 0) (e f : EncoderData) (d g : DecoderData) (m : MessageData)
    (out longer w : List ℕ) (es : List EventData) (s t : S) (level : AreLevel e d w es) (written : IsEncoded e m out f longer)
    → tree f ≡ tree e → f.limits ≡ e.limits → decoded_tree g ≡ decoded_tree d → g.limits ≡ d.limits → AreBytes written.bytes → (x : Fault)
    → Err x ≡ answer g.fault
    → CarriesAt takes stops d w es written.bytes s x.code x.place g t
    → FollowedAt takes stops (decoded_tree d) d.limits w es written.bytes s x.code x.place g t
    → EndsAt takes stops d m written.bytes w es s x.code x.place g t
ended {S} takes stops e f d g m out longer w es s t level written kept_tree kept_limits same_tree same_limits bytes x told carried followed
    = by x.code carried followed
  where
    by : (c : FaultCode) → CarriesAt takes stops d w es written.bytes s c x.place g t
        → FollowedAt takes stops (decoded_tree d) d.limits w es written.bytes s c x.place g t
        → EndsAt takes stops d m written.bytes w es s c x.place g t
    by (Why.Stream c) h k = none_told x g.fault told (carried_on takes e f d g m out longer w es s t level written kept_tree kept_limits
        same_tree same_limits h).0
    by Why.L4 h k = h
    by Why.SinkStopped h k =
        let stream = (behind e d m out f longer w es level written).0 in
        let all = All-append (λ b. b < 256) w written.bytes level.so.bytes bytes in
        record { took = up_to takes stops (decoded_tree d) d.limits written.bytes w es (events (decoded_tree d) m) s x.place g t _ all stream k; short = k }

-- What is fed is what was appended.
pub appended_bytes : (out longer held bytes : List ℕ) (n : ℕ) → held ≡ longer → n ≡ length out → longer ≡ out ++ bytes
    → take (length held - n) (drop n held) ≡ bytes
appended_bytes out longer held bytes n same long appended =
    let rest : drop n held ≡ bytes = ap (λ (v : List ℕ). drop n v) (same ∙ appended) ∙ drop_at out bytes n (sym long) in
    let room : length held ≡ length out + length bytes = ap (λ (v : List ℕ). length v) (same ∙ appended) ∙ length-append out bytes in
    ap (λ (v : List ℕ). take (length held - n) v) rest ∙ take_all (length held - n) bytes (omega (arith, room, long))

pub are_bytes : (out longer bytes : List ℕ) → longer ≡ out ++ bytes → AreBytes longer → AreBytes bytes
are_bytes out longer bytes appended h = (All-front (λ b. b < 256) out bytes (subst (λ (v : List ℕ). AreBytes v) appended h)).1

-- What a sink takes of two lists.
both_taken : {S : Type 0} (takes : S → EventData → S → Type 0) (s mid s' : S) (es fs : List EventData) → Takes takes s es mid
    → Takes takes mid fs s' → Takes takes s (es ++ fs) s'
both_taken takes s mid s' [] fs h i = subst (λ x. Takes takes x fs s') h i
both_taken takes s mid s' (e ∷ es) fs (next, h, j) i = (next, h, both_taken takes next mid s' es fs j i)

-- one more message
encoded_more : (e mid f : EncoderData) (ms : List MessageData) (m : MessageData) (out between longer : List ℕ)
    → AreEncoded e ms out mid between → IsEncoded mid m between f longer → AreEncoded e (ms ++ m ∷ []) out f longer
encoded_more e mid f [] m out between longer (same, none) one =
    (f, longer, subst (λ (z : EncoderData). IsEncoded z m out f longer) same (subst (λ (v : List ℕ). IsEncoded mid m v f longer) none one), (refl, refl))
encoded_more e mid f (x ∷ ms) m out between longer (next, more, first, rest) one =
    (next, more, first, encoded_more next mid f ms m more between longer rest one)

module _ {S : Type 0} (takes stops : S → EventData → S → Type 0) (e : EncoderData) (out w : List ℕ) (es : List EventData) (s : S) where
  -- before the first message
  pub none_yet : (d : DecoderData) → AreLevel e d w es → AreReadBack takes e [] out w es s e d out s
  none_yet d level = record {
    bytes = [];
    appended = sym (append-nil out);
    encoded = (refl, refl);
    took = refl;
    level = subst (λ (v : List ℕ). AreLevel e d v (es ++ [])) (sym (append-nil w))
        (subst (λ (xs : List EventData). AreLevel e d w xs) (sym (append-nil es)) level);
  }

  pub one_more : (ms : List MessageData) (m : MessageData) (mid f : EncoderData) (n g : DecoderData) (between longer : List ℕ) (u t : S)
      → tree f ≡ tree e → (h : AreReadBack takes e ms out w es s mid n between u)
      → (written : IsEncoded mid m between f longer) → IsReadBack takes m written.bytes (w ++ h.bytes)
      (es ++ flat_map (events (tree e)) ms) u f g t → AreReadBack takes e (ms ++ m ∷ []) out w es s f g longer t
  one_more ms m mid f n g between longer u t kept h written back =
      let given = flat_map (events (tree e)) ms in
      let last : events (tree f) m ≡ events (tree e) m = ap (λ (z : Tree). events z m) kept in
      let all : given ++ events (tree f) m ≡ flat_map (events (tree e)) (ms ++ m ∷ [])
      = ap (λ (xs : List EventData). given ++ xs) (last ∙ sym (append-nil (events (tree e) m))) ∙ sym (flat_map-append (events (tree e)) ms (m ∷ [])) in
      record {
        bytes = h.bytes ++ written.bytes;
        appended = written.appended ∙ ap (λ (v : List ℕ). v ++ written.bytes) h.appended ∙ append_assoc out h.bytes written.bytes;
        encoded = encoded_more e mid f ms m out between longer h.encoded written;
        took = subst (λ (xs : List EventData). Takes takes s xs t) all (both_taken takes s u t given (events (tree f) m) h.took back.took);
        level = subst (λ (v : List ℕ). AreLevel f g v (es ++ flat_map (events (tree e)) (ms ++ m ∷ []))) (append_assoc w h.bytes written.bytes)
            (subst (λ (xs : List EventData). AreLevel f g (w ++ h.bytes ++ written.bytes) xs)
            (append_assoc es given (events (tree f) m) ∙ ap (λ (xs : List EventData). es ++ xs) all) back.level);
      }

-- the messages up to the next one
pub front_more : (ms : List Message) (n : ℕ) (m : Message) → n < length ms → get_or ms n m ≡ m
    → map message_data (take (n + 1) ms) ≡ map message_data (take n ms) ++ message_data m ∷ []
front_more ms n m inside there = ap (map message_data) (take_more ms n m inside ∙ ap (λ (z : Message). take n ms ++ z ∷ []) there)
    ∙ map-append message_data (take n ms) (m ∷ [])

-- those before it, this one, and those after it
pub around : (ms : List Message) (n : ℕ) (m : Message) → n < length ms → get_or ms n m ≡ m
    → map message_data ms ≡ map message_data (take n ms) ++ message_data m ∷ map message_data (drop (n + 1) ms)
around ms n m inside there =
    ap (map message_data) (sym (take-append-drop (n + 1) ms)) ∙ map-append message_data (take (n + 1) ms) (drop (n + 1) ms)
    ∙ ap (λ (z : List MessageData). z ++ map message_data (drop (n + 1) ms)) (front_more ms n m inside there)
    ∙ append_assoc (map message_data (take n ms)) (message_data m ∷ []) (map message_data (drop (n + 1) ms))

pub before_it : (ms : List Message) (n : ℕ) → n < length ms → n ≡ length (map message_data (take n ms))
before_it ms n inside = sym (length-map (take n ms) message_data ∙ (let long : length (take n ms) ≡ n = omega (arith, length-take n ms, inside) in long))
