-- In preorder the numbers of nodes rise.
use Rattle.std.proofs.Common.{◌≡◌, ℕ, zero, suc, ◌≤◌, List, [], ◌∷◌, ◌++◌, sym, arith}
use Rattle.std.specs.Prelude.{slice_get, Some}
use Rattle.fast_tree.specs.declared.instructions.Node.{Node}
use Rattle.fast_tree.specs.meaning.Tree.{Label, Instruction, field, parts, group, sequence, Body, end, step, TemplateData, Tree}
use Rattle.fast_notation.specs.meaning.Labels.{labels, body_labels, template_labels, labels_from}
use Rattle.fast_messages.specs.meaning.Distinct.{number, HasNone, IsDistinct, AreDistinct, HasDistinctBodies}

-- the numbers rise, from this one or a greater one on
abbrev Rise : ℕ → List Label → Type 0
Rise n [] = Unit {0}
Rise n (l ∷ ls) = (n ≤ l.node) × Rise (suc l.node) ls

lower : (m n : ℕ) (ls : List Label) → m ≤ n → Rise n ls → Rise m ls
lower m n [] le h = tt
lower m n (l ∷ ls) le h = let first : n ≤ l.node = h.0 in (omega (arith, le, first), h.1)

left : (n : ℕ) (xs ys : List Label) → Rise n (xs ++ ys) → Rise n xs
left n [] ys h = tt
left n (x ∷ xs) ys h = (h.0, left (suc x.node) xs ys h.1)

right : (n : ℕ) (xs ys : List Label) → Rise n (xs ++ ys) → Rise n ys
right n [] ys h = h
right n (x ∷ xs) ys h = let first : n ≤ x.node = h.0 in lower n (suc x.node) ys (omega (arith, first)) (right (suc x.node) xs ys h.1)

all_rise : (n : ℕ) (nodes : List Node) → Rise n (labels_from n nodes)
all_rise n [] = tt
all_rise n (v ∷ vs) = (omega (arith), all_rise (suc n) vs)

-- an instruction's own number comes first
own_first : (n : ℕ) (i : Instruction) (ls : List Label) → Rise n (labels i ++ ls) → (n ≤ number i) × Rise (suc (number i)) ls
own_first n (field l f) ls h = h
own_first n (parts l e m) ls h = h
own_first n (group l optional body) ls h = (h.0, right (suc l.node) (body_labels body) ls h.1)
own_first n (sequence l length body) ls h = (h.0, right (suc l.node) (body_labels body) ls h.1)

none_below : (n : ℕ) (b : Body) → Rise (suc n) (body_labels b) → HasNone n b
none_below n end h = tt
none_below n (step i is) h =
    let own : suc n ≤ number i = (own_first (suc n) i (body_labels is) h).0 in
    (λ (e : number i ≡ n). omega (arith, own, e), none_below n is (right (suc n) (labels i) (body_labels is) h))

mutual
  distinct_within : (n : ℕ) (i : Instruction) → Rise n (labels i) → IsDistinct i
  distinct_within n (field l f) h = tt
  distinct_within n (parts l e m) h = tt
  distinct_within n (group l optional body) h = distinct_body (suc l.node) body h.1
  distinct_within n (sequence l length body) h = distinct_body (suc l.node) body h.1

  distinct_body : (n : ℕ) (b : Body) → Rise n (body_labels b) → AreDistinct b
  distinct_body n end h = tt
  distinct_body n (step i is) h = (
    distinct_within n i (left n (labels i) (body_labels is) h),
    none_below (number i) is (own_first n i (body_labels is) h).1,
    distinct_body n is (right n (labels i) (body_labels is) h),
  )

distinct_templates : (n k : ℕ) (us : List TemplateData) (u : TemplateData) → Rise n (template_labels us) → slice_get us k ≡ Some u → AreDistinct u.body
distinct_templates n k [] u h found = absurd (cc found)
distinct_templates n zero (v ∷ vs) u h found = let e : v ≡ u = cc found in
    rw (sym e) (distinct_body n v.body (left n (body_labels v.body) (template_labels vs) h))
distinct_templates n (suc k) (v ∷ vs) u h found = distinct_templates n k vs u (right n (body_labels v.body) (template_labels vs) h) found

pub distinct_bodies : (t : Tree) (nodes : List Node) → template_labels t.templates ≡ labels_from 0 nodes → HasDistinctBodies t
distinct_bodies t nodes e k u found = distinct_templates 0 k t.templates u (rw (e) (all_rise 0 nodes)) found
