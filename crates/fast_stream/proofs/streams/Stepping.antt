-- How a machine begins a message, takes one byte, and goes from one unit to the next.
use Rattle.std.proofs.Common.{refl, ap, ◌∙◌, arith, inl, inr, append_assoc, append-nil}
use Rattle.std.specs.Prelude.{◌≡◌, ◌≢◌, ◌⊎◌, ℕ, suc, ◌+◌, ◌-◌, ◌<◌, ◌≤◌, Bool, true, false, nat_le, nat_eq, if◌then◌else◌, List, [], ◌∷◌}
use Rattle.std.specs.Prelude.{◌++◌, length, ℤ, Option, Some}
use Rattle.std.proofs.lemmas.List.Elements.{All-head, All-tail}
use Rattle.std.proofs.lemmas.Bool.Decides.{leb_tells, eqb_tells}
use Rattle.fast_wire.specs.meaning.Entities.{HaveNoStop}
use Rattle.fast_wire.specs.meaning.Integers.{Range}
use Rattle.fast_wire.specs.meaning.Maps.{map_limit}
use Rattle.fast_value.specs.declared.settings.Limits.{Limits}
use Rattle.fast_value.specs.meaning.Limits.{Bounds}
use Rattle.fast_value.specs.declared.codes.Code.{Code}
use Rattle.fast_value.specs.declared.codes.Code.TheVariants.{D2, L3}
use Rattle.fast_tree.specs.meaning.Tree.{FieldData}
use Rattle.fast_dict.specs.meaning.Dictionary.{PreviousData}
use Rattle.fast_dict.specs.meaning.Operators.{Outcome, Sent, decide, exponent_step}
use Rattle.fast_stream.specs.meaning.Fields.{decimal_from, decimal_change}
use Rattle.fast_stream.specs.meaning.Grammar.{Grammar, integer, presence_map, ◌>>=◌, of_result}
use Rattle.fast_stream.specs.device.Readers.{Reader, Done, Stop, Byte, bind}
use Rattle.fast_stream.specs.device.GrammarReaders.{settles_reader, entity_reader, judged, integer_reader, judged_map, presence_map_reader}
use Rattle.fast_stream.specs.device.GrammarReaders.{characters_reader, after_zero_reader, bare_stop, first_character_reader, reader_of}
use Rattle.fast_stream.specs.device.Running.{after_byte}
use Rattle.fast_stream.specs.device.Machine.{behind_exponent, behind_exponent_delta, stage_term, after_bytes}
use Rattle.fast_stream.proofs.readers.Grammars.{bind-assoc}

-- One byte more.
pub after-more : {A : Type 0} (r : Reader A) (front : List ℕ) (b : ℕ) → after_bytes r (front ++ b ∷ []) ≡ after_byte (after_bytes r front) b
after-more r [] b = refl
after-more r (a ∷ front) b = after-more (after_byte r a) front b

-- One byte without a stop.
entity-more : {A : Type 0} (c : Code) (k : List ℕ → Reader A) (n : ℕ) (front : List ℕ) (b : ℕ) → b < 128
    → after_byte (bind (entity_reader c (suc n) front) k) b ≡ bind (entity_reader c n (front ++ b ∷ [])) k
entity-more {A} c k n front b l = by (leb_tells 128 b)
  where
    by : ((nat_le 128 b ≡ true) × (128 ≤ b)) ⊎ ((nat_le 128 b ≡ false) × (b < 128))
        → bind (if nat_le 128 b then Done (front ++ b ∷ []) else entity_reader c n (front ++ b ∷ [])) k ≡ bind
        (entity_reader c n (front ++ b ∷ [])) k
    by (inl t) = absurd (omega (arith, l, t.1))
    by (inr t) = rw t.0 refl

-- Bytes without a stop, with room for m + 1 bytes more.
pub entity-stays : {A : Type 0} (c : Code) (k : List ℕ → Reader A) (w : List ℕ) (n m : ℕ) (front : List ℕ) → n ≡ length w + suc m → HaveNoStop w
    → after_bytes (bind (entity_reader c n front) k) w ≡ bind (entity_reader c (suc m) (front ++ w)) k
entity-stays c k [] n m front e h = let i : n ≡ suc m = omega (arith, e) in rw (i, append-nil front) refl
entity-stays c k (b ∷ w) n m front e h =
    let i : n ≡ suc (length w + suc m) = omega (arith, e) in
    ap (λ z. after_bytes (after_byte (bind (entity_reader c z front) k) b) w) i
    ∙ ap (λ r. after_bytes r w) (entity-more c k (length w + suc m) front b (All-head (λ c. c < 128) b w h))
    ∙ entity-stays c k w (length w + suc m) m (front ++ b ∷ []) refl (All-tail (λ c. c < 128) b w h)
    ∙ ap (λ r. bind (entity_reader c (suc m) r) k) (append_assoc front (b ∷ []) w)

-- A last byte with the stop: the entity is whole.
pub entity-ends : {A : Type 0} (c : Code) (k : List ℕ → Reader A) (w : List ℕ) (b n m : ℕ) → n ≡ length w + suc m → HaveNoStop w → nat_le 128 b ≡ true
    → after_bytes (bind (entity_reader c n []) k) (w ++ b ∷ []) ≡ k (w ++ b ∷ [])
entity-ends c k w b n m e h t = after-more (bind (entity_reader c n []) k) w b ∙ ap (λ r. after_byte r b) (entity-stays c k w n m [] e h)
    ∙ ap (λ z. bind (if z then Done (w ++ b ∷ []) else entity_reader c m (w ++ b ∷ [])) k) t

-- A byte without a stop, for which there was room, and no room behind it.
pub entity-full : {A : Type 0} (c : Code) (k : List ℕ → Reader A) (w : List ℕ) (b n : ℕ) → n ≡ length w + 1 → HaveNoStop w → nat_le 128 b ≡ false
    → after_bytes (bind (entity_reader c n []) k) (w ++ b ∷ []) ≡ Stop c
entity-full c k w b n e h t = after-more (bind (entity_reader c n []) k) w b ∙ ap (λ r. after_byte r b) (entity-stays c k w n 0 [] e h)
    ∙ ap (λ z. bind (if z then Done (w ++ b ∷ []) else entity_reader c 0 (w ++ b ∷ [])) k) t

-- The reader of a term that begins with an integer, and of one that begins with a map, by their entity.
pub integer-entity : {A : Type 0} (s : Bool) (range : Range) (nullable : Bool) (c : Code) (g : Option ℤ → Grammar A)
    → reader_of s (integer range nullable c g) ≡ bind (entity_reader D2 10 [])
    (λ w. bind (settles_reader (judged s range nullable c w)) (λ x. reader_of s (g x)))
unfolding integer_reader
integer-entity s range nullable c g = bind-assoc (entity_reader D2 10 []) (λ w. settles_reader (judged s range nullable c w)) (λ x. reader_of s (g x))

pub map-entity : {A : Type 0} (s : Bool) (g : List ℕ → Grammar A)
    → reader_of s (presence_map g) ≡ bind (entity_reader L3 map_limit []) (λ w. bind (settles_reader (judged_map s w)) (λ m. reader_of s (g m)))
unfolding presence_map_reader
map-entity s g = bind-assoc (entity_reader L3 map_limit []) (λ w. settles_reader (judged_map s w)) (λ m. reader_of s (g m))

-- The characters of a text, without a stop and with room for m more behind them.
character-more : {A : Type 0} (k : Option (List ℕ) → Reader A) (n : ℕ) (front : List ℕ) (b : ℕ) → b < 128
    → bind (characters_reader (suc n) front b) k ≡ bind (Byte (characters_reader n (front ++ b ∷ []))) k
character-more {A} k n front b l = by (leb_tells 128 b)
  where
    by : ((nat_le 128 b ≡ true) × (128 ≤ b)) ⊎ ((nat_le 128 b ≡ false) × (b < 128))
        → bind (if nat_le 128 b then Done (Some (front ++ (b - 128) ∷ [])) else Byte (characters_reader n (front ++ b ∷ []))) k ≡ bind
        (Byte (characters_reader n (front ++ b ∷ []))) k
    by (inl t) = absurd (omega (arith, l, t.1))
    by (inr t) = rw t.0 refl

-- The first character is no zero, and has no stop.
first-character : {A : Type 0} (k : Option (List ℕ) → Reader A) (nullable : Bool) (room b : ℕ) → 0 < b → b < 128
    → bind (first_character_reader nullable room b) k ≡ bind (characters_reader room [] b) k
first-character {A} k nullable room b z l = by (eqb_tells b 0) (eqb_tells b 0x80)
  where
    by : ((nat_eq b 0 ≡ true) × (b ≡ 0)) ⊎ ((nat_eq b 0 ≡ false) × (b ≢ 0)) → ((nat_eq b 0x80 ≡ true) × (b ≡ 0x80)) ⊎ ((nat_eq b 0x80 ≡ false) × (b ≢ 0x80))
        → bind (if nat_eq b 0 then after_zero_reader nullable else if nat_eq b 0x80 then Done
        (bare_stop nullable) else characters_reader room [] b) k ≡ bind (characters_reader room [] b) k
    by (inl t) u = absurd (omega (arith, z, t.1))
    by (inr t) (inl u) = absurd (omega (arith, l, u.1))
    by (inr t) (inr u) = rw (t.0, u.0) refl

-- From one unit of a field to the next: a vector's bytes behind its size, a mantissa behind its exponent, and so in deltas.
abbrev pub decided : FieldData → PreviousData → Sent → Grammar Outcome
decided f p x = of_result (decide f p true x)

pub exponent-turn : (l : Bounds) (f : FieldData) (p : PreviousData) (e : ℤ) → decimal_from (Some e) >>= decided f p ≡ stage_term l f p (behind_exponent e)
unfolding stage_term
exponent-turn l f p e = refl

pub exponent-delta-turn : (l : Bounds) (f : FieldData) (p : PreviousData) (k : ℤ)
    → decimal_change f p (Some k) ≡ of_result (exponent_step f p k) >>= (λ e. stage_term l f p (behind_exponent_delta e))
unfolding stage_term
exponent-delta-turn l f p k = refl
