-- Bodies whose nodes are numbered in preorder: the nodes that they are spread into stand for them.
use Rattle.std.proofs.Common.{◌≡◌, ◌⊎◌, inl, inr, ℕ, ◌+◌, ◌-◌, ◌<◌, ◌≤◌, zero, suc, List, [], ◌∷◌, ◌++◌, length, get_or, slice_get, refl}
use Rattle.std.proofs.Common.{ap, sym, ◌∙◌, subst, arith, Some, append_assoc, length-append}
use Rattle.std.specs.Prelude.{slice_index_or}
use Rattle.std.proofs.Math.Seq.{get_or-append_seam}
use Rattle.fast_tree.specs.meaning.AsWritten.{DeclaredList, DeclaredTemplate}
use Rattle.fast_notation.specs.device.Built.{own_number, top_numbers, spread, spread_all}
use Rattle.fast_tree.specs.meaning.Entries.{Entry, Scope}
use Rattle.fast_notation.specs.meaning.InPlace.{◌then◌, InPlace, nothing, a_field, some_parts, a_group, a_sequence, a_reference}
use Rattle.fast_notation.specs.meaning.Labels.{labels, body_labels}
use Rattle.fast_tree.specs.meaning.NodeData.{ShapeData, a_field as a_field_data, a_decimal, a_group as a_group_data}
use Rattle.fast_tree.specs.meaning.NodeData.{a_sequence as a_sequence_data, NodeData, instructions_of}
use Rattle.fast_tree.specs.meaning.Nodes.{body_of, no_instruction}
use Rattle.fast_tree.specs.meaning.Tree.{Label, Instruction, field, parts, group, sequence, Body, end, step}
use Rattle.fast_notation.proofs.lists.NodeLists.{data_labels}

-- the nodes of an instruction, and of a body, have the numbers from one up to another, in preorder
abbrev mutual
  pub IsNumbered : ℕ → Instruction → ℕ → Type 0
  IsNumbered n (field l f) m = (l.node ≡ n) × (m ≡ suc n)
  IsNumbered n (parts l e f) m = (l.node ≡ n) × (m ≡ suc n)
  IsNumbered n (group l optional body) m = (l.node ≡ n) × AreNumbered (suc n) body m
  IsNumbered n (sequence l f body) m = (l.node ≡ n) × AreNumbered (suc n) body m

  pub AreNumbered : ℕ → Body → ℕ → Type 0
  AreNumbered n end m = n ≡ m
  AreNumbered n (step i is) m = (k : ℕ) × IsNumbered n i k × AreNumbered k is m

pub numbered-then : (b c : Body) (n k m : ℕ) → AreNumbered n b k → AreNumbered k c m → AreNumbered n (b then c) m
numbered-then end c n k m h i = subst (λ j. AreNumbered j c m) (sym h) i
numbered-then (step x is) c n k m (j, first, rest) i = (j, first, numbered-then is c j k m rest i)

-- references in place are numbered so
pub in_place-numbered : {ts : List DeclaredTemplate} {entries : List Entry} {chain : ℕ} {s : Scope} {ds : DeclaredList} {n m : ℕ}
    {b : Body} → InPlace ts entries chain s ds n b m → AreNumbered n b m
in_place-numbered nothing = refl
in_place-numbered (a_field {n = n} f rest) = (suc n, (refl, refl), in_place-numbered rest)
in_place-numbered (some_parts {n = n} e f rest) = (suc n, (refl, refl), in_place-numbered rest)
in_place-numbered (a_group {k = k} inner rest) = (k, (refl, in_place-numbered inner), in_place-numbered rest)
in_place-numbered (a_sequence {k = k} f inner rest) = (k, (refl, in_place-numbered inner), in_place-numbered rest)
in_place-numbered (a_reference {n = n} {k = k} {m = m} {body = body} {is = is} number t found same inner rest) =
    numbered-then body is n k m (in_place-numbered inner) (in_place-numbered rest)

-- numbers go up
mutual
  after_one : (i : Instruction) (n m : ℕ) → IsNumbered n i m → n < m
  after_one (field l f) n m h = let e = h.1 in omega (arith, e)
  after_one (parts l e f) n m h = let g = h.1 in omega (arith, g)
  after_one (group l optional body) n m h = let r = after_all body (suc n) m h.1 in omega (arith, r)
  after_one (sequence l f body) n m h = let r = after_all body (suc n) m h.1 in omega (arith, r)

  pub after_all : (b : Body) (n m : ℕ) → AreNumbered n b m → n ≤ m
  after_all end n m h = omega (arith, h)
  after_all (step i is) n m (k, first, rest) =
      let a = after_one i n k first in
      let r = after_all is k m rest in
      omega (arith, a, r)

own_first : (i : Instruction) (n m : ℕ) → IsNumbered n i m → own_number i ≡ n
own_first (field l f) n m h = h.0
own_first (parts l e f) n m h = h.0
own_first (group l optional body) n m h = h.0
own_first (sequence l f body) n m h = h.0

-- ---- instructions in preorder

abbrev mutual
  -- those inside an instruction
  pub inside : Instruction → List Instruction
  inside (field l f) = []
  inside (parts l e f) = []
  inside (group l optional body) = all_inside body
  inside (sequence l f body) = all_inside body

  pub all_inside : Body → List Instruction
  all_inside end = []
  all_inside (step i is) = (i ∷ inside i) ++ all_inside is

mutual
  long_one : (i : Instruction) (n m : ℕ) → IsNumbered n i m → m ≡ n + suc (length (inside i))
  long_one (field l f) n m h = let e = h.1 in omega (arith, e)
  long_one (parts l e f) n m h = let g = h.1 in omega (arith, g)
  long_one (group l optional body) n m h = let r = long_all body (suc n) m h.1 in omega (arith, r)
  long_one (sequence l f body) n m h = let r = long_all body (suc n) m h.1 in omega (arith, r)

  pub long_all : (b : Body) (n m : ℕ) → AreNumbered n b m → m ≡ n + length (all_inside b)
  long_all end n m h = omega (arith, h)
  long_all (step i is) n m (k, first, rest) =
      let a = long_one i n k first in
      let r = long_all is k m rest in
      let l = length-append (i ∷ inside i) (all_inside is) in
      omega (arith, a, r, l)

-- the body is found among its instructions
pub body_among : (b : Body) (n m first : ℕ) (front back : List Instruction) → AreNumbered n b m → n ≡ first + length front
    → body_of first (front ++ (all_inside b ++ back)) (top_numbers b) ≡ b
body_among end n m first front back h at = refl
body_among (step i is) n m first front back (k, one, rest) at =
    let own = own_first i n k one in
    let whole = front ++ (((i ∷ inside i) ++ all_inside is) ++ back) in
    let e : own_number i - first ≡ length front = omega (arith, own, at) in
    let split : whole ≡ front ++ i ∷ (inside i ++ (all_inside is ++ back)) = ap (λ is. front ++ i ∷ is) (append_assoc (inside i) (all_inside is) back) in
    let here : slice_index_or whole (own_number i - first) no_instruction ≡ i =
    ap (λ j. slice_index_or whole j no_instruction) e ∙ ap (λ js. slice_index_or js (length front) no_instruction) split
    ∙ get_or-append_seam front i (inside i ++ (all_inside is ++ back)) no_instruction in
    let again : whole ≡ (front ++ (i ∷ inside i)) ++ (all_inside is ++ back) = split ∙ sym (append_assoc front (i ∷ inside i) (all_inside is ++ back)) in
    let l = length-append front (i ∷ inside i) in
    let long = long_one i n k one in
    let others = body_among is k m first (front ++ (i ∷ inside i)) back rest (omega (arith, l, long, at)) in
    ap (λ j. step j (body_of first whole (top_numbers is))) here ∙ ap (λ js. step i (body_of first js (top_numbers is))) again ∙ ap (step i) others

-- a label with its number
label_is : (l : Label) (n : ℕ) → l.node ≡ n → record { node = n; name = l.name } ≡ l
label_is l n e = ap (λ k. record { node = k; name = l.name }) (sym e)

-- the nodes that are spread are these instructions
mutual
  spread_one : (i : Instruction) (n m : ℕ) (back : List NodeData) → IsNumbered n i m
      → instructions_of n (spread i ++ back) ≡ (i ∷ inside i) ++ instructions_of m back
  spread_one (field l f) n m back (own, last) = ap (λ at. field at f ∷ instructions_of (suc n) back) (label_is l n own)
      ∙ ap (λ k. field l f ∷ instructions_of k back) (sym last)
  spread_one (parts l e f) n m back (own, last) = ap (λ at. parts at e f ∷ instructions_of (suc n) back) (label_is l n own)
      ∙ ap (λ k. parts l e f ∷ instructions_of k back) (sym last)
  spread_one (group l optional body) n m back (own, inner) =
      let rest = spread_body body (suc n) m back inner in
      let found = body_among body (suc n) m (suc n) [] (instructions_of m back) inner (let e : suc n ≡ suc n + 0 = omega arith in e) in
      ap (λ is. group (record { node = n; name = l.name }) optional (body_of (suc n) is (top_numbers body)) ∷ is) rest
      ∙ ap (λ b. group (record { node = n; name = l.name }) optional b ∷ (all_inside body ++ instructions_of m back)) found
      ∙ ap (λ at. group at optional body ∷ (all_inside body ++ instructions_of m back)) (label_is l n own)
  spread_one (sequence l f body) n m back (own, inner) =
      let rest = spread_body body (suc n) m back inner in
      let found = body_among body (suc n) m (suc n) [] (instructions_of m back) inner (let e : suc n ≡ suc n + 0 = omega arith in e) in
      ap (λ is. sequence (record { node = n; name = l.name }) f (body_of (suc n) is (top_numbers body)) ∷ is) rest
      ∙ ap (λ b. sequence (record { node = n; name = l.name }) f b ∷ (all_inside body ++ instructions_of m back)) found
      ∙ ap (λ at. sequence at f body ∷ (all_inside body ++ instructions_of m back)) (label_is l n own)

  pub spread_body : (b : Body) (n m : ℕ) (back : List NodeData) → AreNumbered n b m
      → instructions_of n (spread_all b ++ back) ≡ all_inside b ++ instructions_of m back
  spread_body end n m back h = ap (λ k. instructions_of k back) h
  spread_body (step i is) n m back (k, first, rest) =
      ap (instructions_of n) (append_assoc (spread i) (spread_all is) back) ∙ spread_one i n k (spread_all is ++ back) first
      ∙ ap (λ js. (i ∷ inside i) ++ js) (spread_body is k m back rest) ∙ sym (append_assoc (i ∷ inside i) (all_inside is) (instructions_of m back))

-- ---- labels

mutual
  labels_one : (i : Instruction) (n m : ℕ) (back : List NodeData) → IsNumbered n i m → data_labels n (spread i ++ back) ≡ labels i ++ data_labels m back
  labels_one (field l f) n m back (own, last) = ap (λ at. at ∷ data_labels (suc n) back) (label_is l n own) ∙ ap (λ k. l ∷ data_labels k back) (sym last)
  labels_one (parts l e f) n m back (own, last) = ap (λ at. at ∷ data_labels (suc n) back) (label_is l n own) ∙ ap (λ k. l ∷ data_labels k back) (sym last)
  labels_one (group l optional body) n m back (own, inner) =
      ap (λ at. at ∷ data_labels (suc n) (spread_all body ++ back)) (label_is l n own)
      ∙ ap (λ ls. l ∷ ls) (labels_body body (suc n) m back inner)
  labels_one (sequence l f body) n m back (own, inner) = ap (λ at. at ∷ data_labels (suc n) (spread_all body ++ back)) (label_is l n own)
      ∙ ap (λ ls. l ∷ ls) (labels_body body (suc n) m back inner)

  pub labels_body : (b : Body) (n m : ℕ) (back : List NodeData) → AreNumbered n b m → data_labels n (spread_all b ++ back) ≡ body_labels b ++ data_labels m back
  labels_body end n m back h = ap (λ k. data_labels k back) h
  labels_body (step i is) n m back (k, first, rest) =
      ap (data_labels n) (append_assoc (spread i) (spread_all is) back) ∙ labels_one i n k (spread_all is ++ back) first
      ∙ ap (λ js. labels i ++ js) (labels_body is k m back rest) ∙ sym (append_assoc (labels i) (body_labels is) (data_labels m back))

-- ---- the numbers that nodes name

-- the nodes that a shape names
abbrev pub named_numbers : ShapeData → List ℕ
named_numbers (a_field_data f) = []
named_numbers (a_decimal e f) = []
named_numbers (a_group_data optional body) = body
named_numbers (a_sequence_data f body) = body

-- the numbers of a body's own nodes
pub tops_between : (b : Body) (n m : ℕ) → AreNumbered n b m → (k : ℕ) → k < length (top_numbers b)
    → (n ≤ get_or (top_numbers b) k 0) × (get_or (top_numbers b) k 0 < m)
tops_between end n m h k inside = absurd (omega arith)
tops_between (step i is) n m (j, first, rest) zero inside =
    let own = own_first i n j first in
    let a = after_one i n j first in
    let r = after_all is j m rest in
    (omega (arith, own), omega (arith, own, a, r))
tops_between (step i is) n m (j, first, rest) (suc k) inside =
    let a = after_one i n j first in
    let t = tops_between is j m rest k (omega (arith, inside)) in
    let low = t.0 in
    (omega (arith, a, low), t.1)

-- an element of two lists is one of the first or of the second
in_either : {A : Type 0} (xs ys : List A) (k : ℕ) (x : A) → slice_get (xs ++ ys) k ≡ Some x
    → (slice_get xs k ≡ Some x) ⊎ ((j : ℕ) × (k ≡ length xs + j) × (slice_get ys j ≡ Some x))
in_either [] ys k x h = inr (k, (let e : k ≡ 0 + k = omega arith in e), h)
in_either (y ∷ xs) ys zero x h = inl h
in_either (y ∷ xs) ys (suc k) x h = elim (in_either xs ys k x h) [ inl a ↦ inl a | inr b ↦ inr (b.0, (let e = b.1 in omega (arith, e)), b.2) ]

-- as many numbers as nodes
mutual
  spread_long : (i : Instruction) (n m : ℕ) → IsNumbered n i m → m ≡ n + length (spread i)
  spread_long (field l f) n m h = let e = h.1 in omega (arith, e)
  spread_long (parts l e f) n m h = let g = h.1 in omega (arith, g)
  spread_long (group l optional body) n m h = let r = all_long body (suc n) m h.1 in omega (arith, r)
  spread_long (sequence l f body) n m h = let r = all_long body (suc n) m h.1 in omega (arith, r)

  pub all_long : (b : Body) (n m : ℕ) → AreNumbered n b m → m ≡ n + length (spread_all b)
  all_long end n m h = omega (arith, h)
  all_long (step i is) n m (k, first, rest) =
      let a = spread_long i n k first in
      let r = all_long is k m rest in
      let l = length-append (spread i) (spread_all is) in
      omega (arith, a, r, l)

some_shape : {x d : NodeData} → Some x ≡ Some d → d.shape ≡ x.shape
some_shape h = cc

none : (d : NodeData) (s : ShapeData) (k : ℕ) → d.shape ≡ s → named_numbers s ≡ [] → k < length (named_numbers d.shape) → ⊥
none d s k is empty inside = let e = ap length (ap named_numbers is ∙ empty) in omega (arith, e, inside)

own_between : (body : Body) (n m : ℕ) (d : NodeData) (s : ShapeData) (k : ℕ) → d.shape ≡ s → named_numbers s ≡ top_numbers body
    → AreNumbered (suc n) body m → k < length (named_numbers d.shape)
    → (n + 0 < get_or (named_numbers d.shape) k 0) × (get_or (named_numbers d.shape) k 0 < m)
own_between body n m d s k is names h inside =
    let same = ap named_numbers is ∙ names in
    let l = ap length same in
    let t = tops_between body (suc n) m h k (omega (arith, l, inside)) in
    let g = ap (λ ns. get_or ns k 0) same in
    let low = t.0 in
    let high = t.1 in
    (omega (arith, g, low), omega (arith, g, high))

-- each node names later ones
mutual
  between_one : (i : Instruction) (n m : ℕ) → IsNumbered n i m → (at : ℕ) (d : NodeData) → slice_get (spread i) at ≡ Some d → (k : ℕ)
      → k < length (named_numbers d.shape)
      → (n + at < get_or (named_numbers d.shape) k 0) × (get_or (named_numbers d.shape) k 0 < m)
  between_one (field l f) n m h zero d found k inside = absurd (none d (a_field_data f) k (some_shape found) refl inside)
  between_one (field l f) n m h (suc at) d found k inside = absurd (cc)
  between_one (parts l e f) n m h zero d found k inside = absurd (none d (a_decimal e f) k (some_shape found) refl inside)
  between_one (parts l e f) n m h (suc at) d found k inside = absurd (cc)
  between_one (group l optional body) n m h zero d found k inside =
      own_between body n m d (a_group_data optional (top_numbers body)) k (some_shape found) refl h.1 inside
  between_one (group l optional body) n m h (suc at) d found k inside =
      let r = between_all body (suc n) m h.1 at d found k inside in
      let low = r.0 in
      (omega (arith, low), r.1)
  between_one (sequence l f body) n m h zero d found k inside =
      own_between body n m d (a_sequence_data f (top_numbers body)) k (some_shape found) refl h.1 inside
  between_one (sequence l f body) n m h (suc at) d found k inside =
      let r = between_all body (suc n) m h.1 at d found k inside in
      let low = r.0 in
      (omega (arith, low), r.1)

  pub between_all : (b : Body) (n m : ℕ) → AreNumbered n b m → (at : ℕ) (d : NodeData) → slice_get (spread_all b) at ≡ Some d → (k : ℕ)
      → k < length (named_numbers d.shape)
      → (n + at < get_or (named_numbers d.shape) k 0) × (get_or (named_numbers d.shape) k 0 < m)
  between_all end n m h at d found k inside = absurd (cc)
  between_all (step i is) n m (j, first, rest) at d found k inside = elim (in_either (spread i) (spread_all is) at d found) [
    | inl here ↦
        let r = between_one i n j first at d here k inside in
        let high = r.1 in
        let a = after_all is j m rest in
        (r.0, omega (arith, high, a))
    | inr there ↦
        let r = between_all is j m rest there.0 d there.2 k inside in
        let low = r.0 in
        let e = there.1 in
        let long = spread_long i n j first in
        (omega (arith, low, e, long), r.1)
  ]
