-- Deltas and tails of texts that are chosen by common fronts and backs are no longer than others.
use Rattle.std.proofs.Common.{◌≡◌, ◌≢◌, ◌⊎◌, inl, inr, ℕ, zero, suc, ◌+◌, ◌*◌, ◌-◌, ◌<◌, ◌≤◌, ◌^◌, List, [], ◌∷◌, ◌++◌, length, reverse}
use Rattle.std.proofs.Common.{take, drop, get_or, refl, ap, sym, subst, ◌∙◌, arith}
use Rattle.std.specs.Prelude.{Bool, true, false, All, nat_eq, nat_le, if◌then◌else◌, ℤ, pos, negsuc, Some, Ok, Err}
use Rattle.std.proofs.lemmas.Int.{ints}
use Rattle.std.proofs.lemmas.Bool.{cases_lt, le-leb, leb-true, lt-leb}
use Rattle.std.proofs.lemmas.Bool.Decides.{eqb_tells}
use Rattle.std.proofs.lemmas.List.{length-append, length-take, length-take-le, length-drop, length-reverse, reverse-append, reverse-reverse}
use Rattle.std.proofs.lemmas.List.Elements.{All-drop, All-take}
use lib.Signed.{mag}
use Rattle.fast_wire.specs.meaning.Integers.{IsWithin, signed_range}
use Rattle.fast_wire.specs.meaning.Texts.{SpellsAscii, SpellsVector}
use Rattle.fast_value.specs.declared.kinds.Kind.{Kind}
use Rattle.fast_value.specs.declared.kinds.Kind.TheVariants.{UInt32, Int32, UInt64, Int64, Decimal, Ascii, Unicode, Bytes}
use Rattle.fast_value.specs.declared.codes.Code.TheVariants.{D7}
use Rattle.fast_dict.specs.meaning.Operators.{text_delta, Kept, append_to, prepend_to, kept_of, kept_length, joined, with_tail}
use Rattle.fast_dict.specs.meaning.Rule.{common_front, common_back, IsTextDelta, IsTail}
use Rattle.fast_spelling.specs.meaning.Encoding.{Shortest, ShortestText}
use Rattle.fast_spelling.proofs.bytes.Respelled.{sent_for, shorter_signed, some_signed, shorter_unsigned}
use Rattle.fast_spelling.proofs.rules.Ruled.{front_base, front_text, drop_turned}
use Rattle.fast_spelling.proofs.bytes.Spelling.{ascii_spelled}

-- what is in front of both is in the common front
front_more : (b part : List ℕ) (m : ℕ) → m ≤ length b → m ≤ common_front b (take m b ++ part)
front_more b part zero h = omega arith
front_more [] part (suc m) h = absurd (omega (arith, h))
front_more (x ∷ b) part (suc m) h = by (eqb_tells x x) (front_more b part m (omega (arith, h)))
  where
    by : ((nat_eq x x ≡ true) × (x ≡ x)) ⊎ ((nat_eq x x ≡ false) × (x ≢ x)) → m ≤ common_front b (take m b ++ part)
        → suc m ≤ common_front (x ∷ b) (take (suc m) (x ∷ b) ++ part)
    by (inl t) k = rw t.0 (omega (arith, k))
    by (inr t) k = absurd (t.1 refl)

back_more : (b part : List ℕ) (j : ℕ) → j ≤ length b → length b - j ≤ common_back b (part ++ drop j b)
back_more b part j h =
    let n = length b - j in
    let j_is : length b - n ≡ j = omega (arith, h) in
    let turned : drop j b ≡ reverse (take n (reverse b)) = ap (λ (i : ℕ). drop i b) (sym j_is) ∙ drop_turned b n (omega arith) in
    let both : reverse (part ++ drop j b) ≡ take n (reverse b) ++ reverse part =
    reverse-append part (drop j b) ∙ ap (λ (z : List ℕ). z ++ reverse part) (ap reverse turned ∙ reverse-reverse (take n (reverse b))) in
    let few : n ≤ length (reverse b) = omega (arith, length-reverse b) in
    subst (λ (z : List ℕ). n ≤ common_front (reverse b) z) (sym both) (front_more (reverse b) (reverse part) n few)

-- How many items a subtraction length takes away.
abbrev pub takes : ℤ → ℕ
takes (pos j) = j
takes (negsuc j) = j

-- What is known of a text that was joined to what is kept.
pub record IsJoined (b : List ℕ) (k : ℤ) (part t : List ℕ) : Type 0 where
  pub few : takes k ≤ length b
  pub long : length t ≡ (length b - takes k) + length part
  pub common : (length b - takes k ≤ common_front b t) ⊎ (length b - takes k ≤ common_back b t)

pub is_joined : (b : List ℕ) (k : ℤ) (part : List ℕ) (kept : Kept) → kept_of b k ≡ Ok kept
    → IsJoined b k part (joined kept part) × (kept_length kept ≡ length b - takes k)
is_joined b (pos j) part kept e = by (nat_le j (length b)) refl e
  where
    by : (t : Bool) → nat_le j (length b) ≡ t → (if t then Ok (append_to (take (length b - j) b)) else Err D7) ≡ Ok kept
        → IsJoined b (pos j) part (joined kept part) × (kept_length kept ≡ length b - j)
    by true g h =
        let few : j ≤ length b = leb-true j (length b) g in
        let k : append_to (take (length b - j) b) ≡ kept = cc h in
        let long = length-take-le (length b - j) b (omega arith) in
        subst (λ (z : Kept). IsJoined b (pos j) part (joined z part) × (kept_length z ≡ length b - j)) k (
          record {
            few = few;
            long = length-append (take (length b - j) b) part ∙ ap (λ (n : ℕ). n + length part) long;
            common = inl (front_more b part (length b - j) (omega arith));
          },
          long,
        )
    by false g h = absurd (cc h)
is_joined b (negsuc j) part kept e = by (nat_le j (length b)) refl e
  where
    by : (t : Bool) → nat_le j (length b) ≡ t → (if t then Ok (prepend_to (drop j b)) else Err D7) ≡ Ok kept
        → IsJoined b (negsuc j) part (joined kept part) × (kept_length kept ≡ length b - j)
    by true g h =
        let few : j ≤ length b = leb-true j (length b) g in
        let k : prepend_to (drop j b) ≡ kept = cc h in
        let long = length-drop j b in
        subst (λ (z : Kept). IsJoined b (negsuc j) part (joined z part) × (kept_length z ≡ length b - j)) k (
          record { few = few; long = length-append part (drop j b) ∙ omega (arith, long); common = inr (back_more b part j few) },
          long,
        )
    by false g h = absurd (cc h)

-- What an encoder sends of such a text takes no more away, and its part is no longer.
pub record Chosen (b t : List ℕ) (k : ℤ) (part : List ℕ) : Type 0 where
  pub length_sent : ℤ
  pub part_sent : List ℕ
  pub kept : Kept
  pub chosen : IsTextDelta b t (text_delta length_sent part_sent)
  pub keeps : kept_of b length_sent ≡ Ok kept
  pub less : takes length_sent ≤ takes k
  pub shorter : length part_sent ≤ length part
  pub room : kept_length kept + length part_sent ≤ length t
  pub all : All (λ c. c < 128) t → All (λ c. c < 128) part_sent

pub choose : (b t : List ℕ) (k : ℤ) (part : List ℕ) → IsJoined b k part t → Chosen b t k part
choose b t k part h = by (cases_lt (common_front b t) (common_back b t)) h.common
  where
    front : ℕ
    front = common_front b t

    back : ℕ
    back = common_back b t

    front_fits : front ≤ length b
    front_fits = front_base b t

    front_in : front ≤ length t
    front_in = front_text b t

    back_fits : back ≤ length b
    back_fits = omega (arith, front_base (reverse b) (reverse t), length-reverse b)

    back_in : back ≤ length t
    back_in = omega (arith, front_text (reverse b) (reverse t), length-reverse t)

    in_front : back ≤ front → length b - takes k ≤ front → Chosen b t k part
    in_front le most = record {
      length_sent = pos (length b - front);
      part_sent = drop front t;
      kept = append_to (take (length b - (length b - front)) b);
      chosen = inl (le, refl);
      keeps = rw (le-leb (length b - front) (length b) (omega arith)) refl;
      less = omega (arith, most, h.few);
      shorter = omega (arith, length-drop front t, h.long, most, front_in);
      room = omega (arith, length-take (length b - (length b - front)) b, length-drop front t, front_fits, front_in);
      all = λ a. All-drop (λ c. c < 128) front t a;
    }

    at_back : front < back → length b - takes k ≤ back → Chosen b t k part
    at_back lt most = record {
      length_sent = negsuc (length b - back);
      part_sent = take (length t - back) t;
      kept = prepend_to (drop (length b - back) b);
      chosen = inr (lt, refl);
      keeps = rw (le-leb (length b - back) (length b) (omega arith)) refl;
      less = omega (arith, most, h.few);
      shorter = omega (arith, length-take (length t - back) t, h.long, most, back_in);
      room = omega (arith, length-drop (length b - back) b, length-take (length t - back) t, back_fits, back_in);
      all = λ a. All-take (λ c. c < 128) (length t - back) t a;
    }

    by : (front < back) ⊎ (back ≤ front) → (length b - takes k ≤ front) ⊎ (length b - takes k ≤ back) → Chosen b t k part
    by (inr le) (inl m) = in_front le m
    by (inr le) (inr m) = in_front le (omega (arith, le, m))
    by (inl lt) (inl m) = at_back lt (omega (arith, lt, m))
    by (inl lt) (inr m) = at_back lt m

-- The tail that an encoder sends is no longer.
pub record ChosenTail (b t part : List ℕ) : Type 0 where
  pub part_sent : List ℕ
  pub chosen : IsTail b t part_sent
  pub shorter : length part_sent ≤ length part
  pub all : All (λ c. c < 128) t → All (λ c. c < 128) part_sent

pub choose_tail : (b part t : List ℕ) → with_tail b part ≡ t → ChosenTail b t part × ((length t ≤ length b) ⊎ (length t ≤ length part))
choose_tail b part t e = by (cases_lt (length b) (length part))
  where
    by : (length b < length part) ⊎ (length part ≤ length b) → ChosenTail b t part × ((length t ≤ length b) ⊎ (length t ≤ length part))
    by (inl longer) =
        let is : t ≡ part = sym e ∙ rw (lt-leb (length part) (length b) longer) refl in
        let long : length t ≡ length part = ap length is in
        (record { part_sent = t; chosen = inr (omega (arith, long, longer), refl); shorter = omega (arith, long); all = λ a. a }, inr (omega (arith, long)))
    by (inr fits) =
        let n = length b - length part in
        let is : t ≡ take n b ++ part = sym e ∙ rw (le-leb (length part) (length b) fits) refl in
        let long : length t ≡ length b = ap length is ∙ length-append (take n b) part ∙ omega (arith, length-take n b, fits) in
        let front = common_front b t in
        let most : n ≤ front = subst (λ (z : List ℕ). n ≤ common_front b z) (sym is) (front_more b part n (omega arith)) in (
          record {
            part_sent = drop front t;
            chosen = inl (long, refl);
            shorter = omega (arith, length-drop front t, long, most, fits);
            all = λ a. All-drop (λ c. c < 128) front t a;
          },
          inl (omega (arith, long)),
        )

-- A zero in front of an ASCII text.
abbrev pub HasZero : Kind → List ℕ → Type 0
HasZero kind t = (kind ≡ Ascii) × ((rest : List ℕ) × (t ≡ 0 ∷ rest))

-- The bytes are a text's, and if it isn't a nullable ASCII text no more than these.
abbrev pub SpelledShorter : Kind → Bool → ℕ → List ℕ → List ℕ → Type 0
SpelledShorter kind nullable room t w = (v : List ℕ) × ShortestText kind nullable room (Some t) v × ((kind ≡ Ascii → nullable ≡ false) → length v ≤ length w)

ascii_some : (nullable : Bool) (room : ℕ) (t w : List ℕ) → SpellsAscii nullable room (Some t) w → (1 ≤ length w) × (length t ≤ length w)
ascii_some false room [] w h = rw h (omega arith, omega arith)
ascii_some true room [] w h = rw h (omega arith, omega arith)
ascii_some nullable room (c ∷ t) w (_, _, _, (front, last, e, f)) =
    let n : length w ≡ length front + 1 = ap length f ∙ length-append front ((last + 128) ∷ []) in
    let m : length (c ∷ t) ≡ length front + 1 = ap length e ∙ length-append front (last ∷ []) in
    (omega (arith, n), omega (arith, n, m))

ascii_shorter : (nullable : Bool) (room most : ℕ) (t part w : List ℕ) → SpellsAscii nullable room (Some part) w → length t ≤ length part
    → length t ≤ most → All (λ c. c < 128) t
    → SpelledShorter Ascii nullable most t w ⊎ HasZero Ascii t
ascii_shorter false room most [] part w s h r a = inl (0x80 ∷ [], refl, λ _. (ascii_some false room part w s).0)
ascii_shorter true room most [] part w s h r a = inl (0x00 ∷ 0x80 ∷ [], refl, λ p. absurd (cc (p refl)))
ascii_shorter nullable room most (c ∷ t) part w s h r a = by (eqb_tells c 0)
  where
    by : ((nat_eq c 0 ≡ true) × (c ≡ 0)) ⊎ ((nat_eq c 0 ≡ false) × (c ≢ 0)) → SpelledShorter Ascii nullable most (c ∷ t) w ⊎ HasZero Ascii (c ∷ t)
    by (inl z) = inr (refl, (t, ap (λ (n : ℕ). n ∷ t) z.1))
    by (inr z) =
        let long = ascii_some nullable room part w s in
        let v = take (length t) (c ∷ t) ++ (get_or (c ∷ t) (length t) 0 + 128) ∷ [] in
        let n : length v ≡ length t + 1 = length-append (take (length t) (c ∷ t)) _ ∙ omega (arith, length-take (length t) (c ∷ t)) in
        inl (v, ascii_spelled (c ∷ t) nullable most (length t) a refl z.1 r, λ _. omega (arith, n, h, long.1))

vector_shorter : (kind : Kind) → kind ≢ Ascii → (nullable : Bool) (room most : ℕ) (t part w : List ℕ)
    → SpellsVector true nullable room (Some part) w → length t ≤ length part → length t ≤ most
    → (v : List ℕ) × SpellsVector true nullable most (Some t) v × (length v ≤ length w)
vector_shorter kind other nullable room most t part w (u, s, e, _) h r =
    let (v, i, j) = shorter_unsigned true _ nullable (length t) (length part) u s h in
    (v ++ t, (v, i, refl, r), omega (arith, length-append v t, ap length e, length-append u part, j, h))

pub text_shorter : (kind : Kind) (nullable : Bool) (room most : ℕ) (t part w : List ℕ) → ShortestText kind nullable room (Some part) w
    → length t ≤ length part → length t ≤ most → (kind ≡ Ascii → All (λ c. c < 128) t)
    → SpelledShorter kind nullable most t w ⊎ HasZero kind t
text_shorter Ascii nullable room most t part w s h r a = ascii_shorter nullable room most t part w s h r (a refl)
text_shorter UInt32 nullable room most t part w s h r a = let k =
    vector_shorter UInt32 (λ e. absurd (cc e)) nullable room most t part w s h r in inl (k.0, k.1, λ _. k.2)
text_shorter Int32 nullable room most t part w s h r a = let k =
    vector_shorter Int32 (λ e. absurd (cc e)) nullable room most t part w s h r in inl (k.0, k.1, λ _. k.2)
text_shorter UInt64 nullable room most t part w s h r a = let k =
    vector_shorter UInt64 (λ e. absurd (cc e)) nullable room most t part w s h r in inl (k.0, k.1, λ _. k.2)
text_shorter Int64 nullable room most t part w s h r a = let k =
    vector_shorter Int64 (λ e. absurd (cc e)) nullable room most t part w s h r in inl (k.0, k.1, λ _. k.2)
text_shorter Decimal nullable room most t part w s h r a = let k =
    vector_shorter Decimal (λ e. absurd (cc e)) nullable room most t part w s h r in inl (k.0, k.1, λ _. k.2)
text_shorter Unicode nullable room most t part w s h r a = let k =
    vector_shorter Unicode (λ e. absurd (cc e)) nullable room most t part w s h r in inl (k.0, k.1, λ _. k.2)
text_shorter Bytes nullable room most t part w s h r a = let k =
    vector_shorter Bytes (λ e. absurd (cc e)) nullable room most t part w s h r in inl (k.0, k.1, λ _. k.2)

-- A subtraction length that takes no more away has a spelling, which is no longer unless it is nullable.
pub length_shorter : (nullable : Bool) (x k : ℤ) (w : List ℕ) → Shortest (signed_range 31) nullable (Some k) w → takes x ≤ takes k
    → (v : List ℕ) × Shortest (signed_range 31) nullable (Some x) v × (nullable ≡ false → length v ≤ length w)
length_shorter nullable x k w s h = by nullable s
  where
    within : (x k : ℤ) → IsWithin (signed_range 31) k → takes x ≤ takes k → IsWithin (signed_range 31) x
    within (pos i) (pos j) a b = (omega (arith, ints), omega (arith, ints, a, b))
    within (pos i) (negsuc j) a b = (omega (arith, ints), omega (arith, ints, a, b))
    within (negsuc i) (pos j) a b = (omega (arith, ints, a, b), omega (arith, ints))
    within (negsuc i) (negsuc j) a b = (omega (arith, ints, a, b), omega (arith, ints))

    small : (x : ℤ) → IsWithin (signed_range 31) x → mag (sent_for true x) < 64 * 128 ^ 4
    small (pos i) a = omega (arith, ints, a)
    small (negsuc i) a = omega (arith, ints, a)

    less : (x k : ℤ) → takes x ≤ takes k → mag (sent_for false x) ≤ mag (sent_for false k)
    less (pos i) (pos j) b = b
    less (pos i) (negsuc j) b = b
    less (negsuc i) (pos j) b = b
    less (negsuc i) (negsuc j) b = b

    by : (b : Bool) → Shortest (signed_range 31) b (Some k) w → (v : List ℕ) × Shortest (signed_range 31) b (Some x) v × (b ≡ false → length v ≤ length w)
    by true p = let (v, i) = some_signed 4 _ _ true x (omega arith) (within x k p.fits h) (small x (within x k p.fits h)) in (v, i, λ e. absurd (cc e))
    by false p = let (v, i, j) = shorter_signed true _ _ false x k w p (within x k p.fits h) (less x k h) in (v, i, λ e. j)
