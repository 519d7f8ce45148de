-- The readers of ASCII texts and of raw bytes answer as their phrases.
use Rattle.std.proofs.Common.{refl, sym, ap, ◌∙◌, subst, arith, inl, inr, append_assoc, append-nil, length-append}
use Rattle.std.specs.Prelude.{◌≡◌, ◌⊎◌, ℕ, zero, suc, ◌+◌, ◌-◌, ◌<◌, ◌≤◌, ◌≢◌, nat_eq, Bool, true, false, nat_le, if◌then◌else◌, List, []}
use Rattle.std.specs.Prelude.{◌∷◌, ◌++◌, length, Option, Some, None, All}
use Rattle.std.proofs.lemmas.Bool.Decides.{leb_tells, eqb_tells}
use Rattle.std.proofs.lemmas.List.Elements.{All-cons, All-nil, All-head, All-append}
use Rattle.fast_wire.specs.meaning.Entities.{HaveNoStop}
use Rattle.fast_wire.specs.meaning.Texts.{empty_ascii, SpellsAscii}
use Rattle.fast_value.specs.declared.codes.Code.TheVariants.{L1, R9}
use Rattle.fast_stream.specs.meaning.Events.{EventData}
use Rattle.fast_stream.specs.meaning.Phrases.{Reached, whole, cut, wrong}
use Rattle.fast_stream.specs.meaning.Units.{raw, ascii_text, HasLeadingZero}
use Rattle.fast_stream.specs.device.Readers.{Reader, Done, Stop, Byte, Runs, Reads}
use Rattle.fast_stream.specs.meaning.Streams.{AreBytes}
use Rattle.fast_stream.specs.device.GrammarReaders.{raw_reader, characters_reader, after_zero_reader, bare_stop, first_character_reader, ascii_text_reader}
use Rattle.fast_stream.proofs.readers.UnitReaders.{empty-length, below-head, below-rest, below-cons, below-nil}
use Rattle.fast_stream.proofs.readers.Fronts.{head_of, rest_of}
use Rattle.fast_stream.proofs.readers.Binds.{All-front}

-- so many bytes more, behind a front
abbrev raw_from : ℕ → List ℕ → List ℕ → List EventData → Reached (List ℕ) → Type 0
raw_from n front w es (whole v) = (v ≡ front ++ w) × (length w ≡ n) × (es ≡ [])
raw_from n front w es cut = (length w < n) × (es ≡ [])
raw_from n front w es (wrong c) = ⊥

raw-takes : (n : ℕ) (front w : List ℕ) (es : List EventData) (x : Reached (List ℕ)) → raw_from n front w es x → Runs (raw_reader n front) w es x
raw-takes zero front w es (whole v) h = let e : w ≡ [] = empty-length w h.1 in (e, h.2, h.0 ∙ ap (λ r. front ++ r) e ∙ append-nil front)
raw-takes zero front w es cut h = absurd (omega (arith, h.0))
raw-takes zero front w es (wrong c) h = absurd h
raw-takes (suc n) front [] es (whole v) h = absurd (omega (arith, h.1))
raw-takes (suc n) front [] es cut h = h.1
raw-takes (suc n) front [] es (wrong c) h = absurd h
raw-takes (suc n) front (b ∷ w) es (whole v) h = raw-takes n (front ++ b ∷ []) w es (whole v)
    (h.0 ∙ sym (append_assoc front (b ∷ []) w), omega (arith, h.1), h.2)
raw-takes (suc n) front (b ∷ w) es cut h = raw-takes n (front ++ b ∷ []) w es cut (omega (arith, h.0), h.1)
raw-takes (suc n) front (b ∷ w) es (wrong c) h = absurd h

raw-says : (n : ℕ) (front w : List ℕ) (es : List EventData) (x : Reached (List ℕ)) → Runs (raw_reader n front) w es x → raw_from n front w es x
raw-says zero front w es (whole v) h = (h.2 ∙ sym (ap (λ r. front ++ r) h.0 ∙ append-nil front), ap length h.0, h.1)
raw-says zero front w es cut h = absurd h
raw-says zero front w es (wrong c) h = absurd h
raw-says (suc n) front [] es (whole v) h = absurd h
raw-says (suc n) front [] es cut h = (omega arith, h)
raw-says (suc n) front [] es (wrong c) h = absurd h
raw-says (suc n) front (b ∷ w) es (whole v) h = let k = raw-says n (front ++ b ∷ []) w es (whole v) h in
    (k.0 ∙ append_assoc front (b ∷ []) w, omega (arith, k.1), k.2)
raw-says (suc n) front (b ∷ w) es cut h = let k = raw-says n (front ++ b ∷ []) w es cut h in (omega (arith, k.0), k.1)
raw-says (suc n) front (b ∷ w) es (wrong c) h = raw-says n (front ++ b ∷ []) w es (wrong c) h

raw-in : (n : ℕ) (w : List ℕ) (es : List EventData) (x : Reached (List ℕ)) → raw n w es x → raw_from n [] w es x
raw-in n w es (whole v) h = h
raw-in n w es cut h = h
raw-in n w es (wrong c) h = h

raw-out : (n : ℕ) (w : List ℕ) (es : List EventData) (x : Reached (List ℕ)) → raw_from n [] w es x → raw n w es x
raw-out n w es (whole v) h = h
raw-out n w es cut h = h
raw-out n w es (wrong c) h = h

pub reads-raw : (n : ℕ) → Reads (raw_reader n []) (raw n)
reads-raw n = record { takes = λ w es x h. raw-takes n [] w es x (raw-in n w es x h); says = λ w es x b h. raw-out n w es x (raw-says n [] w es x h) }

nil-snoc : (init : List ℕ) (last : ℕ) → [] ≡ init ++ last ∷ [] → ⊥
nil-snoc [] last d = absurd (cc d)
nil-snoc (a ∷ init) last d = absurd (cc d)

-- Characters up to a stop, with room for n, behind a front.
abbrev Characters : ℕ → List ℕ → List ℕ → List EventData → Reached (Option (List ℕ)) → Type 0
Characters n front w es (whole o) = (init : List ℕ) × (last : ℕ) × (w ≡ init ++ last ∷ []) × HaveNoStop init × (128 ≤ last)
    × (length init < n) × (o ≡ Some (front ++ (init ++ (last - 128) ∷ []))) × (es ≡ [])
Characters n front w es cut = HaveNoStop w × (length w ≤ n) × (es ≡ [])
Characters n front w es (wrong c) = (init : List ℕ) × (last : ℕ) × (w ≡ init ++ last ∷ []) × HaveNoStop init × (length init ≡ n) × (c ≡ L1) × (es ≡ [])

abbrev Alike : Reader (Option (List ℕ)) → (List ℕ → List EventData → Reached (Option (List ℕ)) → Type 0) → Type 0
Alike r p = (w : List ℕ) (es : List EventData) (x : Reached (Option (List ℕ))) → (p w es x → Runs r w es x) × (Runs r w es x → p w es x)

characters-zero : (front : List ℕ) → Alike (Byte (characters_reader zero front)) (Characters zero front)
characters-zero front w es x = (takes w x, says w x)
  where
    takes : (w : List ℕ) (x : Reached (Option (List ℕ))) → Characters zero front w es x → Runs (Byte (characters_reader zero front)) w es x
    takes w (whole o) (init, last, d, i, l, k, e, f) = absurd (omega (arith, k))
    takes [] cut h = h.2
    takes (b ∷ w) cut h = absurd (omega (arith, h.1))
    takes w (wrong c) (init, last, d, i, k, e, f) = rw (d, empty-length init k) (refl, f, e)

    says : (w : List ℕ) (x : Reached (Option (List ℕ))) → Runs (Byte (characters_reader zero front)) w es x → Characters zero front w es x
    says [] (whole o) h = absurd h
    says [] cut h = (below-nil, omega arith, h)
    says [] (wrong c) h = absurd h
    says (b ∷ w) (whole o) h = absurd h
    says (b ∷ w) cut h = absurd h
    says (b ∷ w) (wrong c) h = ([], b, ap (λ r. b ∷ r) h.0, below-nil, refl, h.2, h.1)

characters-suc : (n : ℕ) (front : List ℕ) → ((b : ℕ) → Alike (Byte (characters_reader n (front ++ b ∷ [])))
    (Characters n (front ++ b ∷ []))) → Alike (Byte (characters_reader (suc n) front)) (Characters (suc n) front)
characters-suc n front ih w es x = (takes w x, says w x)
  where
    Test : ℕ → Type 0
    Test b = ((nat_le 128 b ≡ true) × (128 ≤ b)) ⊎ ((nat_le 128 b ≡ false) × (b < 128))

    taken : (b : ℕ) (w : List ℕ) (x : Reached (Option (List ℕ))) → Characters (suc n) front (b ∷ w) es x → Test b
        → Runs (characters_reader (suc n) front b) w es x
    taken b w (whole o) ([], last, d, i, l, k, e, f) (inl t) =
        let g : b ≡ last = ap head_of d in
        rw t.0 (ap rest_of d, f, e ∙ ap (λ r. Some (front ++ (r - 128) ∷ [])) (sym g))
    taken b w (whole o) ([], last, d, i, l, k, e, f) (inr t) = let g : b ≡ last = ap head_of d in absurd (omega (arith, t.1))
    taken b w (whole o) (c ∷ init, last, d, i, l, k, e, f) (inl t) = let g : b ≡ c = ap head_of d in absurd (omega (arith, t.1, below-head c init i))
    taken b w (whole o) (c ∷ init, last, d, i, l, k, e, f) (inr t) =
        let g : b ≡ c = ap head_of d in
        rw t.0 ((ih b w es (whole o)).0 (
          init,
          last,
          ap rest_of d,
          below-rest c init i,
          l,
          omega (arith, k),
          e
              ∙ ap Some (ap (λ r. front ++ r ∷ (init ++ (last - 128) ∷ [])) (sym g)
              ∙ sym (append_assoc front (b ∷ []) (init ++ (last - 128) ∷ []))),
          f,
        ))
    taken b w cut h (inl t) = absurd (omega (arith, t.1, below-head b w h.0))
    taken b w cut h (inr t) = rw t.0 ((ih b w es cut).0 (below-rest b w h.0, omega (arith, h.1), h.2))
    taken b w (wrong c) ([], last, d, i, k, e, f) t = absurd (omega (arith, k))
    taken b w (wrong c) (a ∷ init, last, d, i, k, e, f) (inl t) = let g : b ≡ a = ap head_of d in absurd (omega (arith, t.1, below-head a init i))
    taken b w (wrong c) (a ∷ init, last, d, i, k, e, f) (inr t) =
        rw t.0 ((ih b w es (wrong c)).0 (init, last, ap rest_of d, below-rest a init i, omega (arith, k), e, f))

    takes : (w : List ℕ) (x : Reached (Option (List ℕ))) → Characters (suc n) front w es x → Runs (Byte (characters_reader (suc n) front)) w es x
    takes [] (whole o) (init, last, d, i, l, k, e, f) = absurd (nil-snoc init last d)
    takes [] cut h = h.2
    takes [] (wrong c) (init, last, d, i, k, e, f) = absurd (nil-snoc init last d)
    takes (b ∷ w) x h = taken b w x h (leb_tells 128 b)

    said : (b : ℕ) (w : List ℕ) (x : Reached (Option (List ℕ))) → Test b → Runs (characters_reader (suc n) front b) w es x
        → Characters (suc n) front (b ∷ w) es x
    said b w (whole o) (inl t) h = let k : Runs (Done (Some (front ++ (b - 128) ∷ []))) w es (whole o) = rw t.0 at h in
        ([], b, ap (λ r. b ∷ r) k.0, below-nil, t.1, omega arith, k.2, k.1)
    said b w cut (inl t) h = absurd (rw t.0 at h)
    said b w (wrong c) (inl t) h = absurd (rw t.0 at h)
    said b w (whole o) (inr t) h = on ((ih b w es (whole o)).1 (rw t.0 at h))
      where
        on : Characters n (front ++ b ∷ []) w es (whole o) → Characters (suc n) front (b ∷ w) es (whole o)
        on (init, last, d, i, l, k, e, f) = (
          b ∷ init,
          last,
          ap (λ r. b ∷ r) d,
          below-cons b init t.1 i,
          l,
          omega (arith, k),
          e
              ∙ ap Some (append_assoc front (b ∷ []) (init ++ (last - 128) ∷ [])),
          f,
        )
    said b w cut (inr t) h = let k = (ih b w es cut).1 (rw t.0 at h) in (below-cons b w t.1 k.0, omega (arith, k.1), k.2)
    said b w (wrong c) (inr t) h = on ((ih b w es (wrong c)).1 (rw t.0 at h))
      where
        on : Characters n (front ++ b ∷ []) w es (wrong c) → Characters (suc n) front (b ∷ w) es (wrong c)
        on (init, last, d, i, k, e, f) = (b ∷ init, last, ap (λ r. b ∷ r) d, below-cons b init t.1 i, omega (arith, k), e, f)

    says : (w : List ℕ) (x : Reached (Option (List ℕ))) → Runs (Byte (characters_reader (suc n) front)) w es x → Characters (suc n) front w es x
    says [] (whole o) h = absurd h
    says [] cut h = (below-nil, omega arith, h)
    says [] (wrong c) h = absurd h
    says (b ∷ w) x h = said b w x (leb_tells 128 b) h

all-characters : (n : ℕ) (front : List ℕ) → Alike (Byte (characters_reader n front)) (Characters n front)
all-characters zero front = characters-zero front
all-characters (suc n) front = characters-suc n front (λ b. all-characters n (front ++ b ∷ []))

module _ (nullable : Bool) (room : ℕ) where
  -- where the first byte is neither 0x00 nor 0x80
  plain-in : (b : ℕ) (w : List ℕ) (es : List EventData) (x : Reached (Option (List ℕ))) → b ≢ 0 → b ≢ 0x80
      → ascii_text nullable room (b ∷ w) es x → Characters room [] (b ∷ w) es x
  plain-in b w es (whole None) z s (h, f) = absurd (s (ap head_of h.1))
  plain-in b w es (whole (Some [])) z s (h, f) = by nullable h
    where
      by : (nullable : Bool) → b ∷ w ≡ empty_ascii nullable → Characters room [] (b ∷ w) es (whole (Some []))
      by false h = absurd (s (ap head_of h))
      by true h = absurd (z (ap head_of h))
  plain-in b w es (whole (Some (c ∷ v))) z s ((n, all, l, (init, last, d, e)), f) = (
    init,
    last + 128,
    e,
    (All-front (λ a. a < 128) init (last ∷ []) (subst (λ r. All (λ a. a < 128) r) d all)).0,
    omega arith,
    omega (arith, l, ap length d, length-append init (last ∷ [])),
    ap Some (d ∙ ap (λ r. init ++ r ∷ []) (omega arith)),
    f,
  )
  plain-in b w es cut z s (inl h, f) = (h.0, h.1, f)
  plain-in b w es cut z s (inr h, f) = absurd (z (ap head_of h.1))
  plain-in b w es (wrong c) z s (inl (h, i), f) = by nullable h
    where
      by : (nullable : Bool) → HasLeadingZero nullable (b ∷ w) → Characters room [] (b ∷ w) es (wrong c)
      by false h = absurd (z (ap head_of h))
      by true (byte, n, h) = absurd (z (ap head_of h))
  plain-in b w es (wrong c) z s (inr ((front, last, d, n, l, y, t), i), f) = (front, last, d, n, l, i, f)

  spelled : (b : ℕ) (w init : List ℕ) (last : ℕ) → b ≢ 0 → b ≢ 0x80 → b ∷ w ≡ init ++ last ∷ [] → HaveNoStop init → 128 ≤ last → last < 256 → length init < room
      → SpellsAscii nullable room (Some (init ++ (last - 128) ∷ [])) (b ∷ w)
  spelled b w [] last z s d i l t k =
      let e : b ≡ last = ap head_of d in (
        λ n. s (omega arith),
        All-cons (λ a. a < 128) (last - 128) [] (omega arith) (All-nil (λ a. a < 128)),
        omega arith,
        ([], last - 128, refl, d ∙ ap (λ r. r ∷ []) (omega arith)),
      )
  spelled b w (a ∷ init) last z s d i l t k =
      let e : b ≡ a = ap head_of d in (
        λ n. z (e ∙ n),
        All-append (λ a. a < 128) (a ∷ init) ((last - 128) ∷ []) i (All-cons (λ a. a < 128) (last - 128) [] (omega arith) (All-nil (λ a. a < 128))),
        omega (arith, k, length-append (a ∷ init) ((last - 128) ∷ [])),
        (a ∷ init, last - 128, refl, d ∙ ap (λ r. (a ∷ init) ++ r ∷ []) (omega arith)),
      )

  plain-out : (b : ℕ) (w : List ℕ) (es : List EventData) (x : Reached (Option (List ℕ))) → b ≢ 0 → b ≢ 0x80 → AreBytes (b ∷ w)
      → Characters room [] (b ∷ w) es x → ascii_text nullable room (b ∷ w) es x
  plain-out b w es (whole o) z s bs (init, last, d, i, l, k, e, f) =
      let t : last < 256 = All-head (λ a. a < 256) last [] (All-front (λ a. a < 256) init (last ∷ []) (subst (λ r. All (λ a. a < 256) r) d bs)).1 in
      (subst (λ r. SpellsAscii nullable room r (b ∷ w)) (sym e) (spelled b w init last z s d i l t k), f)
  plain-out b w es cut z s bs (i, k, f) = (inl (i, k, λ (rest, e). z (ap head_of e)), f)
  plain-out b w es (wrong c) z s bs (init, last, d, i, k, e, f) = (inr ((init, last, d, i, k, (λ (rest, e). z (ap head_of e)), (λ e. s (ap head_of e))), e), f)

apart : ◌≡◌ {A = ℕ} 0 128 → ⊥
apart e = absurd (omega arith)

apart' : ◌≡◌ {A = ℕ} 128 0 → ⊥
apart' e = absurd (omega arith)

zero-in : (nullable : Bool) (room : ℕ) (w : List ℕ) (es : List EventData) (x : Reached (Option (List ℕ)))
    → ascii_text nullable room (0 ∷ w) es x → Runs (after_zero_reader nullable) w es x
zero-in nullable room w es (whole None) (h, f) = absurd (apart (ap head_of h.1))
zero-in false room w es (whole (Some [])) (h, f) = absurd (apart (ap head_of h))
zero-in true room w es (whole (Some [])) (h, f) = let e : w ≡ 0x80 ∷ [] = ap rest_of h in rw e (refl, f, refl)
zero-in nullable room w es (whole (Some (c ∷ v))) ((n, all, l, ([], last, d, e)), f) = let k : 0 ≡ last + 128 = ap head_of e in absurd (omega arith)
zero-in nullable room w es (whole (Some (c ∷ v))) ((n, all, l, (a ∷ init, last, d, e)), f) = let k : 0 ≡ a = ap head_of e in
    let j : c ≡ a = ap head_of d in absurd (n (j ∙ sym k))
zero-in nullable room w es cut (inl (n, l, z), f) = absurd (z (w, refl))
zero-in false room w es cut (inr h, f) = absurd (grind arith)
zero-in true room w es cut (inr h, f) = let e : w ≡ [] = ap rest_of h.1 in rw e f
zero-in false room w es (wrong c) (inl (h, i), f) = (ap rest_of h, f, i)
zero-in true room w es (wrong c) (inl ((byte, n, h), i), f) = let e : w ≡ byte ∷ [] = ap rest_of h in rw e (by (eqb_tells byte 0x80))
  where
    by : ((nat_eq byte 0x80 ≡ true) × (byte ≡ 0x80)) ⊎ ((nat_eq byte 0x80 ≡ false) × (byte ≢ 0x80))
        → Runs {A = Option (List ℕ)} (if nat_eq byte 0x80 then Done (Some []) else Stop R9) [] es (wrong c)
    by (inl t) = absurd (n t.1)
    by (inr t) = rw t.0 (refl, f, i)
zero-in nullable room w es (wrong c) (inr ((front, last, d, n, l, z, t), i), f) = absurd (z (w, refl))

zero-out : (nullable : Bool) (room : ℕ) (w : List ℕ) (es : List EventData) (x : Reached (Option (List ℕ)))
    → Runs (after_zero_reader nullable) w es x → ascii_text nullable room (0 ∷ w) es x
zero-out false room w es (whole o) h = absurd h
zero-out false room w es cut h = absurd h
zero-out false room w es (wrong c) h = (inl (ap (λ r. 0 ∷ r) h.0, h.2), h.1)
zero-out true room [] es (whole o) h = absurd h
zero-out true room [] es cut h = (inr (refl, refl), h)
zero-out true room [] es (wrong c) h = absurd h
zero-out true room (b ∷ w) es x h = by x h (eqb_tells b 0x80)
  where
    by : (x : Reached (Option (List ℕ))) → Runs {A = Option (List ℕ)} (if nat_eq b 0x80 then Done (Some []) else Stop R9) w es x
        → ((nat_eq b 0x80 ≡ true) × (b ≡ 0x80)) ⊎ ((nat_eq b 0x80 ≡ false) × (b ≢ 0x80)) → ascii_text true room (0 ∷ b ∷ w) es x
    by (whole o) h (inl t) =
        let k : Runs {A = Option (List ℕ)} (Done (Some [])) w es (whole o) = rw t.0 at h in
        (subst (λ r. SpellsAscii true room r (0 ∷ b ∷ w)) (sym k.2) (rw (t.1, k.0) refl), k.1)
    by cut h (inl t) = absurd (rw t.0 at h)
    by (wrong c) h (inl t) = absurd (rw t.0 at h)
    by (whole o) h (inr t) = absurd (rw t.0 at h)
    by cut h (inr t) = absurd (rw t.0 at h)
    by (wrong c) h (inr t) =
        let k : Runs {A = Option (List ℕ)} (Stop R9) w es (wrong c) = rw t.0 at h in
        (inl ((b, t.1, ap (λ r. 0 ∷ b ∷ r) k.0), k.2), k.1)

stop-in : (nullable : Bool) (room : ℕ) (w : List ℕ) (es : List EventData) (x : Reached (Option (List ℕ)))
    → ascii_text nullable room (0x80 ∷ w) es x → Runs (Done (bare_stop nullable)) w es x
stop-in false room w es (whole None) (h, f) = absurd (grind arith)
stop-in true room w es (whole None) (h, f) = (ap rest_of h.1, f, refl)
stop-in false room w es (whole (Some [])) (h, f) = (ap rest_of h, f, refl)
stop-in true room w es (whole (Some [])) (h, f) = absurd (apart' (ap head_of h))
stop-in nullable room w es (whole (Some (c ∷ v))) ((n, all, l, ([], last, d, e)), f) = let k : 128 ≡ last + 128 = ap head_of e in
    let j : c ≡ last = ap head_of d in absurd (n (omega arith))
stop-in nullable room w es (whole (Some (c ∷ v))) ((n, all, l, (a ∷ init, last, d, e)), f) =
    let k : 128 ≡ a = ap head_of e in let j : c ≡ a = ap head_of d in let i : c < 128 = All-head (λ a. a < 128) c v all in absurd (omega arith)
stop-in nullable room w es cut (inl (n, l, z), f) = let i : 128 < 128 = below-head 0x80 w n in absurd (omega arith)
stop-in nullable room w es cut (inr h, f) = absurd (apart' (ap head_of h.1))
stop-in false room w es (wrong c) (inl (h, i), f) = absurd (apart' (ap head_of h))
stop-in true room w es (wrong c) (inl ((byte, n, h), i), f) = absurd (apart' (ap head_of h))
stop-in nullable room w es (wrong c) (inr (([], last, d, n, l, z, t), i), f) = absurd (t (ap (λ r. 0x80 ∷ r) (ap rest_of d)))
stop-in nullable room w es (wrong c) (inr ((a ∷ front, last, d, n, l, z, t), i), f) = let k : 128 ≡ a = ap head_of d in
    let i : a < 128 = below-head a front n in absurd (omega arith)

stop-out : (nullable : Bool) (room : ℕ) (w : List ℕ) (es : List EventData) (x : Reached (Option (List ℕ)))
    → Runs (Done (bare_stop nullable)) w es x → ascii_text nullable room (0x80 ∷ w) es x
stop-out false room w es (whole o) h = (subst (λ r. SpellsAscii false room r (0x80 ∷ w)) (sym h.2) (ap (λ r. 0x80 ∷ r) h.0), h.1)
stop-out true room w es (whole o) h = (subst (λ r. SpellsAscii true room r (0x80 ∷ w)) (sym h.2) (refl, ap (λ r. 0x80 ∷ r) h.0), h.1)
stop-out nullable room w es cut h = absurd h
stop-out nullable room w es (wrong c) h = absurd h

module _ (nullable : Bool) (room : ℕ) where
  Zero : ℕ → Type 0
  Zero b = ((nat_eq b 0 ≡ true) × (b ≡ 0)) ⊎ ((nat_eq b 0 ≡ false) × (b ≢ 0))

  Eighty : ℕ → Type 0
  Eighty b = ((nat_eq b 0x80 ≡ true) × (b ≡ 0x80)) ⊎ ((nat_eq b 0x80 ≡ false) × (b ≢ 0x80))

  first-in : (b : ℕ) (w : List ℕ) (es : List EventData) (x : Reached (Option (List ℕ))) → Zero b → Eighty b
      → ascii_text nullable room (b ∷ w) es x → Runs (first_character_reader nullable room b) w es x
  unfolding Zero Eighty
  first-in b w es x (inl z) s h = rw z.0 (zero-in nullable room w es x (subst (λ r. ascii_text nullable room (r ∷ w) es x) z.1 h))
  first-in b w es x (inr z) (inl s) h = rw (z.0, s.0) (stop-in nullable room w es x (subst (λ r. ascii_text nullable room (r ∷ w) es x) s.1 h))
  first-in b w es x (inr z) (inr s) h = rw (z.0, s.0) ((all-characters room [] (b ∷ w) es x).0 (plain-in nullable room b w es x z.1 s.1 h))

  first-out : (b : ℕ) (w : List ℕ) (es : List EventData) (x : Reached (Option (List ℕ))) → AreBytes (b ∷ w) → Zero b → Eighty b
      → Runs (first_character_reader nullable room b) w es x → ascii_text nullable room (b ∷ w) es x
  unfolding Zero Eighty
  first-out b w es x bs (inl z) s h = subst (λ r. ascii_text nullable room (r ∷ w) es x) (sym z.1) (zero-out nullable room w es x (rw z.0 at h))
  first-out b w es x bs (inr z) (inl s) h = subst (λ r. ascii_text nullable room (r ∷ w) es x) (sym s.1) (stop-out nullable room w es x (rw (z.0, s.0) at h))
  first-out b w es x bs (inr z) (inr s) h = plain-out nullable room b w es x z.1 s.1 bs ((all-characters room [] (b ∷ w) es x).1 (rw (z.0, s.0) at h))

  ascii-takes : (w : List ℕ) (es : List EventData) (x : Reached (Option (List ℕ))) → ascii_text nullable room w es x
      → Runs (Byte (first_character_reader nullable room)) w es x
  unfolding Zero Eighty
  ascii-takes [] es (whole None) (h, f) = absurd (cc h.1)
  ascii-takes [] es (whole (Some [])) (h, f) = by nullable h
    where
      by : (nullable : Bool) → [] ≡ empty_ascii nullable → ⊥
      by false h = absurd (cc h)
      by true h = absurd (cc h)
  ascii-takes [] es (whole (Some (c ∷ v))) ((n, all, l, (init, last, d, e)), f) = absurd (nil-snoc init (last + 128) e)
  ascii-takes [] es cut h = h.1
  ascii-takes [] es (wrong c) (inl (h, i), f) = by nullable h
    where
      by : (nullable : Bool) → HasLeadingZero nullable [] → ⊥
      by false h = absurd (cc h)
      by true (byte, n, h) = absurd (cc h)
  ascii-takes [] es (wrong c) (inr ((front, last, d, n, l, z, t), i), f) = absurd (nil-snoc front last d)
  ascii-takes (b ∷ w) es x h = first-in b w es x (eqb_tells b 0) (eqb_tells b 0x80) h

  ascii-says : (w : List ℕ) (es : List EventData) (x : Reached (Option (List ℕ))) → AreBytes w
      → Runs (Byte (first_character_reader nullable room)) w es x → ascii_text nullable room w es x
  unfolding Zero Eighty
  ascii-says [] es (whole o) bs h = absurd h
  ascii-says [] es cut bs h = (inl (below-nil, omega arith, λ (rest, e). cc e), h)
  ascii-says [] es (wrong c) bs h = absurd h
  ascii-says (b ∷ w) es x bs h = first-out b w es x bs (eqb_tells b 0) (eqb_tells b 0x80) h

  pub reads-ascii : Reads (ascii_text_reader nullable room) (ascii_text nullable room)
  unfolding ascii_text_reader
  reads-ascii = record { takes = ascii-takes; says = ascii-says }
