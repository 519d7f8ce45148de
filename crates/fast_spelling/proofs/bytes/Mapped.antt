-- Bits that are not too many have a map.
use Rattle.std.proofs.Common.{◌≡◌, ◌≢◌, ◌⊎◌, inl, inr, ℕ, suc, ◌+◌, ◌/◌, ◌%◌, ◌^◌, ◌<◌, ◌≤◌, max, List, ◌++◌, length, get_or, set}
use Rattle.std.proofs.Common.{replicate, refl, ap, sym, ◌∙◌, arith}
use Rattle.std.specs.Prelude.{zero, Bool, true, false, bit_or, Some}
use Rattle.std.proofs.lemmas.Bool.{cases_lt, cases_eq}
use Rattle.std.proofs.lemmas.List.{get_or-set_same, get_or-set_other, get_or_past, length-append}
use Rattle.fast_wire.specs.meaning.Maps.{bits, IsBuilt}
use Rattle.fast_wire.proofs.map_bits.Building.{built_blank, built_more, bit_set, some_bit}
use Rattle.fast_wire.proofs.map_bits.Finishing.{finished, finished_map, finished_bits}
use Rattle.fast_value.specs.meaning.Kinds.{U}
use Rattle.fast_value.specs.declared.settings.Limits.{Limits}
use Rattle.fast_value.specs.meaning.Messages.{Slots}
use Rattle.fast_tree.specs.meaning.Tree.{identifier, Body, bits_of, TemplateData, message_bits}
use Rattle.fast_dict.specs.meaning.Dictionary.{Dictionary}
use Rattle.fast_spelling.specs.meaning.Encoding.{EncodesField, EncodesBody}
use Rattle.fast_spelling.specs.meaning.Refusals.{HaveNoMap}
use Rattle.fast_spelling.proofs.bytes.Bits.{blank, length_bits}
use Rattle.fast_spelling.proofs.encodings.Encoded.{field-length, body-length}

-- Cells of a map that have the first so many bits, and no more.
record Built (b : List Bool) (k : ℕ) : Type 0 where
  pub cells : List ℕ
  pub len : ℕ
  pub built : IsBuilt cells len
  pub same : (i : ℕ) → i < k → get_or (bits cells) i false ≡ get_or b i false
  pub past : (i : ℕ) → k ≤ i → get_or (bits cells) i false ≡ false

none_built : (b : List Bool) → Built b 0
none_built b = record { cells = replicate 146 0; len = 1; built = built_blank; same = λ i h. absurd (omega (arith, h)); past = λ i h. blank 1022 i }

module _ (b : List Bool) (k : ℕ) (h : k < 1022) (m : Built b k) where
  clear : get_or b k false ≡ false → Built b (suc k)
  clear e = record { cells = m.cells; len = m.len; built = m.built; same = λ i l. by i (cases_eq i k) l; past = λ i l. m.past i (omega (arith, l)) }
    where
      by : (i : ℕ) → (i ≡ k) ⊎ (i ≡ k → ⊥) → i < suc k → get_or (bits m.cells) i false ≡ get_or b i false
      by i (inl q) l = m.past i (omega (arith, q)) ∙ sym (ap (λ (n : ℕ). get_or b n false) q ∙ e)
      by i (inr n) l = m.same i (omega (arith, l, n))

  abbrev cell : ℕ
  cell = bit_or (get_or m.cells (k / 7) 0) (64 / 2 ^ (k % 7))

  here : k / 7 < length m.cells
  here = omega (arith, h, m.built.count)

  now : bits (set m.cells (k / 7) cell) ≡ set (bits m.cells) k true
  now = bit_set m.cells k here

  within : k < length (bits m.cells)
  within = omega (arith, h, m.built.count, length_bits m.cells)

  other : (i : ℕ) → i ≢ k → get_or (bits (set m.cells (k / 7) cell)) i false ≡ get_or (bits m.cells) i false
  other i n = ap (λ (w : List Bool). get_or w i false) now ∙ get_or-set_other (bits m.cells) k i true false n

  own : get_or (bits (set m.cells (k / 7) cell)) k false ≡ true
  own = ap (λ (w : List Bool). get_or w k false) now ∙ get_or-set_same (bits m.cells) k true false within

  set_one : get_or b k false ≡ true → Built b (suc k)
  set_one e =
      let some = some_bit (k % 7) (omega arith) in
      record {
        cells = set m.cells (k / 7) cell;
        len = max m.len (k / 7 + 1);
        built = built_more m.cells m.len (k / 7) (64 / 2 ^ (k % 7)) m.built (omega (arith, h)) some.0 some.1;
        same = λ i l. by i (cases_eq i k) l;
        past = λ i l. let n : i ≢ k = omega (arith, l) in other i n ∙ m.past i (omega (arith, l));
      }
    where
      by : (i : ℕ) → (i ≡ k) ⊎ (i ≡ k → ⊥) → i < suc k → get_or (bits (set m.cells (k / 7) cell)) i false ≡ get_or b i false
      by i (inl q) l = ap (λ (n : ℕ). get_or (bits (set m.cells (k / 7) cell)) n false) q ∙ own ∙ sym (ap (λ (n : ℕ). get_or b n false) q ∙ e)
      by i (inr n) l = other i n ∙ m.same i (omega (arith, l, n))

  one_more : Built b (suc k)
  one_more = by (get_or b k false) refl
    where
      by : (x : Bool) → get_or b k false ≡ x → Built b (suc k)
      by true e = set_one e
      by false e = clear e

built_up_to : (b : List Bool) (k : ℕ) → k ≤ 1022 → Built b k
built_up_to b zero h = none_built b
built_up_to b (suc k) h = one_more b k (omega (arith, h)) (built_up_to b k (omega (arith, h)))

-- no more bits than a map can have
pub have_map : (b : List Bool) → length b ≤ 1022 → ¬ (HaveNoMap b)
have_map b h none = of (built_up_to b (length b) h)
  where
    of : Built b (length b) → ⊥
    of m = none (finished m.cells m.len m.built) (finished_map m.cells m.len m.built)
        (λ i. finished_bits m.cells m.len m.built i ∙ by i (cases_lt i (length b)))
      where
        by : (i : ℕ) → (i < length b) ⊎ (length b ≤ i) → get_or (bits m.cells) i false ≡ get_or b i false
        by i (inl l) = m.same i l
        by i (inr g) = m.past i g ∙ sym (get_or_past b i false g)

pub segment_has_map : (l : Limits) (body : Body) (d d' : Dictionary) (vs : Slots) (b : List Bool) (w : List ℕ)
    → EncodesBody l body d vs b w d' → bits_of body ≤ 1022 → ¬ (HaveNoMap b)
segment_has_map l body d d' vs b w h few = have_map b (omega (arith, few, body-length l body d vs b w d' h))

pub message_has_map : (l : Limits) (u : TemplateData) (id : ℕ) (d mid e d' : Dictionary) (vs : Slots) (b c : List Bool) (v w : List ℕ)
    → EncodesField l identifier d (Some (U id)) b v mid → EncodesBody l u.body e vs c w d' → message_bits u ≤ 1022
    → ¬ (HaveNoMap (b ++ c))
message_has_map l u id d mid e d' vs b c v w h i few =
    let one : length b ≤ 1 = field-length l identifier d (Some (U id)) b v mid h in
    let rest = body-length l u.body e vs c w d' i in
    have_map (b ++ c) (omega (arith, few, one, rest, length-append b c))
