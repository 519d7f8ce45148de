use Rattle.std.proofs.Common.{◌≡◌, ◌≢◌, ◌⊎◌, inl, inr, ℕ, zero, suc, ◌<◌, List, [], ◌∷◌, ◌++◌, refl, ap, sym, subst, ◌∙◌, arith}
use Rattle.std.specs.Prelude.{Bool, false, nat_eq, All, Any, slice_get, codes, Some}
use Rattle.toml.specs.Data.{Data, string, array, table, Items, no_items, item, no_members, member}
use Rattle.toml.proofs.OnLiterals.{toml_on_literals}
use Rattle.fast_tree.specs.meaning.AsWritten.{reference, DeclaredTemplate, Use, all_uses, all_references, IsName}
use Rattle.fast_notation.specs.declared.codes.StaticCode.{StaticCode}
use Rattle.fast_notation.specs.declared.codes.StaticCode.TheVariants.{S1, S2, S3, S4, S5, D8, C1, C2, C3}
use Rattle.fast_notation.specs.meaning.Firsts.{pass_of, ComesBefore}
use Rattle.fast_notation.specs.meaning.Notation.{Writes, WritesSet}
use Rattle.fast_notation.specs.meaning.Refused.{StandsAt}
use Rattle.fast_notation.specs.meaning.Uses.{IsS2, IsS3, IsS4, IsS5}
use Rattle.fast_examples.specs.meaning.Texts.{template_of}
use Rattle.fast_examples.proofs.Documents.{capital, one_field, declared, writes_one, refused_text}
use Rattle.fast_examples.proofs.texts.circular_templates.Goals as goal

abbrev refers : List ℕ → Data
refers name = table (member (codes "kind") (string (codes "ref")) (member (codes "name") (string name) no_members))

writes_reference : (name : List ℕ) → IsName name → Writes (refers name) (reference name)
writes_reference name n = (
  member (codes "kind") (string (codes "ref")) (member (codes "name") (string name) no_members),
  refl,
  ((0, omega arith, refl), ((1, omega arith, refl), tt)),
  refl,
  (refl, n),
)

a_is : IsName (codes "A")
a_is = capital 0x41 (omega arith) (omega arith)

b_is : IsName (codes "B")
b_is = capital 0x42 (omega arith) (omega arith)

abbrev a : DeclaredTemplate
a = declared (codes "A") (reference (codes "B"))

abbrev b : DeclaredTemplate
b = declared (codes "B") (reference (codes "A"))

-- The set has these two templates, neither of which has a field or an identifier.
one_of : (j : ℕ) (t : DeclaredTemplate) → slice_get (a ∷ b ∷ []) j ≡ Some t → (t ≡ a) ⊎ (t ≡ b)
one_of zero t e = let k : a ≡ t = cc e in inl (sym k)
one_of (suc zero) t e = let k : b ≡ t = cc e in inr (sym k)
one_of (suc (suc j)) t e = absurd (cc e)

both_of : (i j : ℕ) (t u : DeclaredTemplate) → i < j → slice_get (a ∷ b ∷ []) i ≡ Some t → slice_get (a ∷ b ∷ []) j ≡ Some u → (t ≡ a) × (u ≡ b)
both_of i zero t u g e f = absurd (omega (arith, g))
both_of zero (suc zero) t u g e f = let k : a ≡ t = cc e in let m : b ≡ u = cc f in (sym k, sym m)
both_of (suc i) (suc zero) t u g e f = absurd (omega (arith, g))
both_of i (suc (suc j)) t u g e f = absurd (cc f)

no_uses : (j : ℕ) (t : DeclaredTemplate) → slice_get (a ∷ b ∷ []) j ≡ Some t → all_uses t.fields ≡ []
no_uses j t e = by (one_of j t e)
  where
    by : (t ≡ a) ⊎ (t ≡ b) → all_uses t.fields ≡ []
    by (inl q) = ap (λ (u : DeclaredTemplate). all_uses u.fields) q
    by (inr q) = ap (λ (u : DeclaredTemplate). all_uses u.fields) q

unused : (P : Use → Type 0) (j : ℕ) (t : DeclaredTemplate) → slice_get (a ∷ b ∷ []) j ≡ Some t → ¬ (Any P (all_uses t.fields))
unused P j t e h = let (k, x, g, _, _) = subst (Any P) (no_uses j t e) h in absurd (omega (arith, g))

-- each refers to a template of the set
abbrev IsUnknown : List ℕ → Type 0
IsUnknown name = All (λ u. u.name ≢ name) (a ∷ b ∷ [])

known_b : ¬ (Any IsUnknown (codes "B" ∷ []))
known_b (zero, x, g, i, p) = p 1 b (omega arith) i
known_b (suc k, x, g, i, p) = absurd (omega (arith, g))

known_a : ¬ (Any IsUnknown (codes "A" ∷ []))
known_a (zero, x, g, i, p) = p 0 a (omega arith) i
known_a (suc k, x, g, i, p) = absurd (omega (arith, g))

known : (j : ℕ) (t : DeclaredTemplate) → slice_get (a ∷ b ∷ []) j ≡ Some t → ¬ (Any IsUnknown (all_references t.fields))
known j t e h = by (one_of j t e)
  where
    by : (t ≡ a) ⊎ (t ≡ b) → ⊥
    by (inl q) = known_b (subst (λ (u : DeclaredTemplate). Any IsUnknown (all_references u.fields)) q h)
    by (inr q) = known_a (subst (λ (u : DeclaredTemplate). Any IsUnknown (all_references u.fields)) q h)

abbrev is_a : List ℕ → Bool
is_a [] = false
is_a (c ∷ cs) = nat_eq c 0x41

-- No condition that an earlier pass looks for is met.
first : (c : StaticCode) (j : ℕ) → ComesBefore (pass_of c) j 5 0 → ¬ (StandsAt (a ∷ b ∷ []) c j)
first S1 j h s = s
first S2 j h (t, e, s) = unused IsS2 j t e s
first S3 j h (t, e, s) = unused IsS3 j t e s
first S4 j h (t, e, s) = unused IsS4 j t e s
first S5 j h (t, e, s) = unused IsS5 j t e s
first D8 j h (t, e, s) = known j t e s
first C1 j h (i, t, u, g, e, f, n) =
    let (p, q) = both_of i j t u g e f in
    absurd (cc (sym (ap (λ (v : DeclaredTemplate). is_a v.name) p) ∙ ap is_a n ∙ ap (λ (v : DeclaredTemplate). is_a v.name) q))
first C2 j h (i, id, t, u, g, e, f, m, n) =
    let (p, q) = both_of i j t u g e f in
    absurd (cc (sym (ap (λ (v : DeclaredTemplate). v.id) p) ∙ m))
first c j (inl h) s = absurd (omega (arith, h))
first c j (inr h) s = absurd (omega (arith, h.1))

abbrev tables : Items
tables = item (table (one_field (codes "A") (refers (codes "B")))) (item (table (one_field (codes "B") (refers (codes "A")))) no_items)

written : WritesSet (member (codes "template") (array tables) no_members) (a ∷ b ∷ [])
written = (
  tables,
  refl,
  (
    one_field (codes "A") (refers (codes "B")),
    item (table (one_field (codes "B") (refers (codes "A")))) no_items,
    refl,
    writes_one (codes "A") (refers (codes "B")) (reference (codes "B")) a_is (writes_reference (codes "B") b_is),
    (
      one_field (codes "B") (refers (codes "A")),
      no_items,
      refl,
      writes_one (codes "B") (refers (codes "A")) (reference (codes "A")) b_is (writes_reference (codes "A") a_is),
      refl,
    ),
  ),
  omega arith,
  omega arith,
)

pub returns : goal.returns
unfolding toml_on_literals
returns c =
    refused_text (template_of (codes "{kind='ref', name='B'}") ++ codes "[[template]]\nname = 'B'\nfields = [{kind='ref', name='A'}]\n")
    (member (codes "template") (array tables) no_members) (a ∷ b ∷ []) C3 refl written
    (1, (1, a, b, refl, refl, (0, omega arith, refl), (0, b, a, refl, refl, (0, omega arith, refl), refl))) first
