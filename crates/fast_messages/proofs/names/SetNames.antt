-- No two templates of a set that was read have one name.
use Rattle.std.proofs.Common.{◌≡◌, ◌≢◌, ◌⊎◌, inl, inr, ℕ, zero, suc, ◌<◌, List, [], ◌∷◌, refl, sym, ap, ◌∙◌, arith}
use Rattle.std.specs.Prelude.{AllPairs, slice_get, Some}
use Rattle.std.proofs.lemmas.Option.{slice_get_within, get_or_from_slice_get}
use Rattle.toml.specs.Data.{Members}
use Rattle.fast_tree.specs.meaning.AsWritten.{DeclaredTemplate}
use Rattle.fast_tree.specs.meaning.Entries.{Entry}
use Rattle.fast_tree.specs.meaning.Tree.{TemplateData, Tree}
use Rattle.fast_notation.specs.meaning.Checked.{IsTree}
use Rattle.fast_notation.specs.meaning.InPlace.{AreInPlace}
use Rattle.fast_messages.specs.meaning.Lined.{HasDistinctNames}

two_of : (ts : List DeclaredTemplate) (i j : ℕ) (a b : DeclaredTemplate) → AllPairs (λ a b. a.name ≢ b.name) ts → i < j
    → slice_get ts i ≡ Some a → slice_get ts j ≡ Some b → a.name ≢ b.name
two_of ts i j a b apart below at_i at_j same =
    let inside = slice_get_within ts j b at_j in
    apart i j a below inside (ap (λ (v : DeclaredTemplate). v.name) (get_or_from_slice_get ts i a a at_i) ∙ same
    ∙ sym (ap (λ (v : DeclaredTemplate). v.name) (get_or_from_slice_get ts j b a at_j)))

first_is : (u w : TemplateData) → Some u ≡ Some w → u ≡ w
first_is u w h = cc (h)

pub written_as : (all : List DeclaredTemplate) (entries : List Entry) (k : ℕ) (ts : List DeclaredTemplate) (n : ℕ) (us : List TemplateData)
    (m j : ℕ) (u : TemplateData) → AreInPlace all entries k ts n us m → slice_get us j ≡ Some u
    → (d : DeclaredTemplate) × (slice_get ts j ≡ Some d) × (u.name ≡ d.name)
written_as all entries k [] n [] m j u h found = absurd (cc (found))
written_as all entries k [] n (w ∷ us) m j u h found = absurd h
written_as all entries k (d ∷ ts) n [] m j u h found = absurd h
written_as all entries k (d ∷ ts) n (w ∷ us) m zero u (mid, name, id, reset, inner, later) found =
    (d, refl, ap (λ (z : TemplateData). z.name) (sym (first_is w u found)) ∙ name)
written_as all entries k (d ∷ ts) n (w ∷ us) m (suc j) u (mid, name, id, reset, inner, later) found = written_as all entries (suc k) ts mid us m j u later found

order : (j k : ℕ) → (j < k) ⊎ ((j ≡ k) ⊎ (k < j))
order zero zero = inr (inl refl)
order zero (suc k) = inl (omega (arith))
order (suc j) zero = inr (inr (omega (arith)))
order (suc j) (suc k) = elim (order j k) [
  | inl h ↦ inl (omega (arith, h))
  | inr w ↦ elim w [
    | inl e ↦ inr (inl (ap suc e))
    | inr h ↦ inr (inr (omega (arith, h)))
  ]
]

pub distinct_names : (document : Members) (t : Tree) → IsTree document t → HasDistinctNames t
distinct_names document t is j k u w found other same =
    let (a, at_j, first) = written_as is.written is.entries 0 is.written 0 t.templates is.nodes j u is.in_place found in
    let (b, at_k, second) = written_as is.written is.entries 0 is.written 0 t.templates is.nodes k w is.in_place other in
    let one : a.name ≡ b.name = sym first ∙ same ∙ second in
    elim (order j k) [
      | inl h ↦ absurd (two_of is.written j k a b is.names h at_j at_k one)
      | inr v ↦ elim v [
        | inl e ↦ e
        | inr h ↦ absurd (two_of is.written k j b a is.names h at_k at_j (sym one))
      ]
    ]
