-- Messages that are encoded one after the other.
use Rattle.std.proofs.Common.{◌≡◌, ◌<◌, ◌+◌, ℕ, Bool, List, [], ◌∷◌, ◌++◌, Option, refl, ap, sym, subst, ◌∙◌, length, length-take, map}
use Rattle.std.proofs.Common.{take, drop, append_assoc, append-nil, arith, get_or, inl, inr}
use Rattle.std.specs.Prelude.{flat_map, Err}
use Rattle.std.proofs.lemmas.List.{take_more, take-append-drop, map-append, length-map}
use Rattle.std.proofs.lemmas.Grind.{flat_map-append}
use Rattle.fast_value.specs.declared.settings.Limits.{Limits}
use Rattle.fast_value.specs.declared.messages.Message.{Message}
use Rattle.fast_value.specs.meaning.Messages.{MessageData}
use Rattle.fast_value.specs.meaning.Views.{message_data}
use Rattle.fast_tree.specs.meaning.Tree.{Tree}
use Rattle.fast_dict.specs.meaning.Dictionary.{Dictionary}
use Rattle.fast_stream.specs.meaning.Streams.{AreBytes}
use Rattle.fast_spelling.specs.declared.faults.EncodeFault.{EncodeFault}
use Rattle.fast_spelling.specs.declared.faults.EncodeFault.TheVariants as Fault
use Rattle.fast_spelling.specs.meaning.Refusals.{IsRefused}
use Rattle.fast_text.specs.meaning.Streams.{Appends, AppendsFront}
use Rattle.fast_text.proofs.Writing.{appends_both, front_of_second}
use Rattle.fast_command.specs.declared.faults.RunFault.TheVariants.{Write, Encode, Memory}
use Rattle.fast_machine.specs.device.Positions.{Set, tree_in}
use Rattle.fast_encoder.specs.meaning.Encoders.{EncoderData, IsEncoded, IsToldOf, tree}
use Rattle.fast_convert.specs.meaning.Converting.{form, IsCoded, AreCoded, AreWritten}

-- So many messages are encoded, and their bytes are written.
pub record IsSoFar (t : Tree) (l : Limits) (hex : Bool) (d : Dictionary) (ms : List Message) (n : ℕ) (held holds : Option (List ℕ))
    (next : Dictionary) : Type 0 where
  pub ws : List (List ℕ)
  pub coded : AreCoded t l d (map message_data (take n ms)) ws next
  pub written : Appends held holds (flat_map (form hex) ws)

-- one more message
coded_more : (t : Tree) (l : Limits) (d : Dictionary) (ms : List MessageData) (ws : List (List ℕ)) (mid next : Dictionary) (m : MessageData) (w : List ℕ)
    → AreCoded t l d ms ws mid → IsCoded t l mid m w next → AreCoded t l d (ms ++ m ∷ []) (ws ++ w ∷ []) next
coded_more t l d [] [] mid next m w same one = (next, subst (λ (z : Dictionary). IsCoded t l z m w next) same one, refl)
coded_more t l d [] (v ∷ ws) mid next m w never one = absurd never
coded_more t l d (x ∷ ms) [] mid next m w never one = absurd never
coded_more t l d (x ∷ ms) (v ∷ ws) mid next m w h one = (h.0, h.1, coded_more t l h.0 ms ws mid next m w h.2 one)

-- what is written of one more
written_more : (hex : Bool) (ws : List (List ℕ)) (w : List ℕ) → flat_map (form hex) ws ++ form hex w ≡ flat_map (form hex) (ws ++ w ∷ [])
written_more hex ws w = sym (flat_map-append (form hex) ws (w ∷ []) ∙ ap (λ (z : List ℕ). flat_map (form hex) ws ++ z) (append-nil (form hex w)))

-- the messages up to the next one
front_more : (ms : List Message) (n : ℕ) (m : Message) → n < length ms → get_or ms n m ≡ m
    → map message_data (take (n + 1) ms) ≡ map message_data (take n ms) ++ message_data m ∷ []
front_more ms n m inside there = ap (map message_data) (take_more ms n m inside ∙ ap (λ (z : Message). take n ms ++ z ∷ []) there)
    ∙ map-append message_data (take n ms) (m ∷ [])

-- the messages are those up to a place and those behind it
both_parts : (ms : List Message) (n : ℕ) → map message_data ms ≡ map message_data (take n ms) ++ map message_data (drop n ms)
both_parts ms n = ap (map message_data) (sym (take-append-drop n ms)) ∙ map-append message_data (take n ms) (drop n ms)

-- one more is encoded and written
pub so_more : (t : Tree) (l : Limits) (hex : Bool) (d : Dictionary) (ms : List Message) (n : ℕ) (held mid holds : Option (List ℕ))
    (now next : Dictionary) (m : Message) (w : List ℕ)
    → n < length ms → get_or ms n m ≡ m → IsSoFar t l hex d ms n held mid now → IsCoded t l now (message_data m) w next → Appends mid holds (form hex w)
    → IsSoFar t l hex d ms (n + 1) held holds next
so_more t l hex d ms n held mid holds now next m w inside there h one more = record {
  ws = h.ws ++ w ∷ [];
  coded = subst (λ (z : List MessageData). AreCoded t l d z (h.ws ++ w ∷ []) next) (sym (front_more ms n m inside there))
      (coded_more t l d (map message_data (take n ms)) h.ws now next (message_data m) w h.coded one);
  written = subst (λ (z : List ℕ). Appends held holds z) (written_more hex h.ws w) (appends_both held mid holds _ _ h.written more);
}

-- one more is encoded, and the target fails
pub so_cut : (t : Tree) (l : Limits) (hex : Bool) (d : Dictionary) (ms : List Message) (n : ℕ) (held mid holds : Option (List ℕ))
    (now next : Dictionary) (m : Message) (w : List ℕ) (HasFailed : Type 0)
    → n < length ms → get_or ms n m ≡ m → IsSoFar t l hex d ms n held mid now → IsCoded t l now (message_data m) w next
    → AppendsFront mid holds (form hex w) → HasFailed
    → AreWritten t l hex d (map message_data ms) held holds HasFailed (Err Write)
so_cut t l hex d ms n held mid holds now next m w HasFailed inside there h one part failed =
    let coded = subst (λ (z : List MessageData). AreCoded t l d z (h.ws ++ w ∷ []) next) (sym (front_more ms n m inside there))
    (coded_more t l d (map message_data (take n ms)) h.ws now next (message_data m) w h.coded one) in
    let written = subst (λ (z : List ℕ). AppendsFront held holds z) (written_more hex h.ws w) (front_of_second held mid holds _ _ h.written part) in (
      map message_data (take (n + 1) ms),
      map message_data (drop (n + 1) ms),
      h.ws ++ w ∷ [],
      next,
      record {
        all_are = both_parts ms (n + 1);
        coded = coded;
      },
      written,
      failed,
    )

-- there is no memory for the next one
pub so_without : (t : Tree) (l : Limits) (hex : Bool) (d : Dictionary) (ms : List Message) (n : ℕ) (held holds : Option (List ℕ))
    (now : Dictionary) (HasFailed : Type 0)
    → IsSoFar t l hex d ms n held holds now → AreWritten t l hex d (map message_data ms) held holds HasFailed (Err Memory)
so_without t l hex d ms n held holds now HasFailed h =
    (map message_data (take n ms), map message_data (drop n ms), h.ws, now, record { all_are = both_parts ms n; coded = h.coded }, h.written)

-- the next one is refused
pub so_refused : (t : Tree) (l : Limits) (hex : Bool) (d : Dictionary) (ms : List Message) (n : ℕ) (held holds : Option (List ℕ))
    (now : Dictionary) (m : Message) (fault : EncodeFault) (HasFailed : Type 0)
    → n < length ms → get_or ms n m ≡ m → IsSoFar t l hex d ms n held holds now → IsRefused t l now (message_data m) fault
    → AreWritten t l hex d (map message_data ms) held holds HasFailed (Err (Encode n fault))
so_refused t l hex d ms n held holds now m fault HasFailed inside there h refused =
    let parts = both_parts ms (n + 1) ∙ ap (λ (z : List MessageData). z ++ map message_data (drop (n + 1) ms))
    (front_more ms n m inside there) ∙ append_assoc (map message_data (take n ms)) (message_data m ∷ [])
    (map message_data (drop (n + 1) ms)) in
    let long : length (take n ms) ≡ n = omega (arith, length-take n ms, inside) in (
      map message_data (take n ms),
      map message_data (drop (n + 1) ms),
      message_data m,
      h.ws,
      now,
      record {
        all_are = parts;
        coded = h.coded;
      },
      sym (length-map (take n ms) message_data ∙ long),
      refused,
      h.written,
    )

-- what an encoder of the same set and limits has appended to nothing
pub coded_from : (e0 e f : EncoderData) (m : MessageData) (out longer : List ℕ) → e.set ≡ e0.set → e.limits ≡ e0.limits → out ≡ []
    → AreBytes longer → IsEncoded e m out f longer → IsCoded (tree e0) e0.limits e.dictionary m longer f.dictionary
coded_from e0 e f m out longer set limits none small h =
    let same : longer ≡ h.bytes = h.appended ∙ ap (λ (z : List ℕ). z ++ h.bytes) none in
    subst (λ (w : List ℕ). IsCoded (tree e0) e0.limits e.dictionary m w f.dictionary) (sym same)
    (subst (λ (s : Set). IsCoded (tree_in s) e0.limits e.dictionary m h.bytes f.dictionary) set
    (subst (λ (l : Limits). IsCoded (tree e) l e.dictionary m h.bytes f.dictionary) limits
    (record { suits = h.suits; fits = h.fits; ruled = h.ruled; spelled = h.spelled; bytes = subst AreBytes same small })))

-- what an encoder of the same set and limits refuses, where there was memory
pub refused_from : (e0 e : EncoderData) (m : MessageData) (fault : EncodeFault) → e.set ≡ e0.set → e.limits ≡ e0.limits
    → ¬ (fault ≡ Fault.Memory) → IsToldOf e m fault → IsRefused (tree e0) e0.limits e.dictionary m fault
refused_from e0 e m fault set limits other told =
    subst (λ (s : Set). IsRefused (tree_in s) e0.limits e.dictionary m fault) set
    (subst (λ (l : Limits). IsRefused (tree e) l e.dictionary m fault) limits
    (elim told [ inl none ↦ absurd (other none) | inr refused ↦ refused ]))
