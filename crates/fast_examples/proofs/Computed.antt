-- A stream by computing what the readers say of literal bytes.
use Rattle.std.proofs.Common.{refl, arith}
use Rattle.std.specs.Prelude.{◌≡◌, ℕ, suc, ◌<◌, ◌≤◌, All, Bool, true, false, if◌then◌else◌, nat_le, List, [], ◌∷◌}
use Rattle.std.specs.Str.{is_utf8, chars}
use Rattle.std.specs.Char.{encode_utf8}
use Rattle.std.proofs.lemmas.Bool.{leb-true}
use Rattle.std.proofs.lemmas.List.Elements.{All-cons, All-nil}
use Rattle.fast_value.specs.declared.settings.Limits.{Limits}
use Rattle.fast_tree.specs.meaning.Tree.{Tree}
use Rattle.fast_stream.specs.meaning.Events.{EventData}
use Rattle.fast_stream.specs.meaning.Streams.{End, Stream, AreBytes}
use Rattle.fast_stream.specs.device.Running.{reading, end_of, message_begun}
use Rattle.fast_stream.specs.meaning.Fields.{field_term}
use Rattle.fast_stream.specs.device.Continuations.{message_then, message_of_then, body_then}
use Rattle.fast_stream.specs.device.GrammarReaders.{judged, judged_map, integer_reader, presence_map_reader, ascii_text_reader}
use Rattle.fast_stream.proofs.streams.Reading.{reading-sound}

-- none is greater, by computation
abbrev pub are_at_most : ℕ → List ℕ → Bool
are_at_most n [] = true
are_at_most n (b ∷ w) = if nat_le b n then are_at_most n w else false

pub at_most : (n : ℕ) (w : List ℕ) → are_at_most n w ≡ true → All (λ b. b < suc n) w
at_most n [] h = All-nil (λ b. b < suc n)
at_most n (b ∷ w) h = by (nat_le b n) refl h (at_most n w)
  where
    by : (c : Bool) → nat_le b n ≡ c → (if c then are_at_most n w else false) ≡ true → (are_at_most n w ≡ true → All (λ b. b < suc n) w)
        → All (λ b. b < suc n) (b ∷ w)
    by true e h ih = let i : b ≤ n = leb-true b n e in All-cons (λ b. b < suc n) b w (omega (arith, i)) (ih h)
    by false e h ih = absurd (cc h)

-- so are bytes
abbrev pub are_small : List ℕ → Bool
are_small w = are_at_most 255 w

pub small : (w : List ℕ) → are_small w ≡ true → AreBytes w
small w h = at_most 255 w h

-- the events and the end that the readers come to
pub answered : (t : Tree) (l : Limits) (w : List ℕ) {es : List EventData} {e : End} → are_small w ≡ true → (reading t l w).0 ≡ es
    → end_of (reading t l w).1 ≡ e → Stream t l w es e
answered t l w h i j = rw (← i, ← j) (reading-sound t l w (small w h))

-- On an `unfolding` line this name lets the readers compute.
unfoldable pub computing : Unit {0}
unfolding message_begun message_then message_of_then body_then field_term integer_reader ascii_text_reader presence_map_reader judged
    judged_map is_utf8 chars encode_utf8
computing = tt
