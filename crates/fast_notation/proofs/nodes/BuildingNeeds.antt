-- What building needs, of the parts of instructions for which it has it.
use Rattle.std.proofs.Common.{◌≡◌, ◌≢◌, ℕ, ◌+◌, ◌*◌, ◌<◌, ◌≤◌, zero, suc, Bool, List, [], ◌∷◌, ◌++◌, length, take, get_or, slice_get, refl}
use Rattle.std.proofs.Common.{ap, sym, ◌∙◌, subst, arith, Option, Some, append-nil, length-append}
use Rattle.std.specs.Prelude.{All, AllPairs, Contains, IsSome, sum_by}
use Rattle.std.proofs.Math.Nat.{suc-mul}
use Rattle.std.proofs.lemmas.List.Sums.{sum_by-cons}
use Rattle.std.proofs.lemmas.List.{get_or_append_left, get_or-append-add}
use Rattle.std.proofs.lemmas.List.Elements.{Contains-append_left, Contains-append_right, All-get_or}
use Rattle.std.proofs.lemmas.Option.{slice_get_within, get_or_from_slice_get}
use Rattle.fast_notation.specs.declared.written.WrittenInstruction.{WrittenInstruction}
use Rattle.fast_tree.specs.meaning.AsWritten.{Written, Declared, scalar, by_parts, group, sequence, reference, DeclaredList, no_more, more}
use Rattle.fast_tree.specs.meaning.AsWritten.{DeclaredTemplate, Use, scalar_use, exponent_use, mantissa_use, length_use, uses, all_uses}
use Rattle.fast_tree.specs.meaning.AsWritten.{references, all_references}
use Rattle.fast_notation.specs.device.Built.{IsReady, IsIndexed, CanBuild, IsBuilt}
use Rattle.fast_notation.specs.device.Chains.{Fits, nodes_by, nodes_in}
use Rattle.fast_tree.specs.meaning.Entries.{Entry, Scope, scope_of, in_scope, uses_from}
use Rattle.fast_notation.specs.device.EntryKeys.{HasEntry}
use Rattle.fast_tree.specs.meaning.NodeData.{NodeData}
use Rattle.fast_tree.specs.device.Places.{place_of_name}
use Rattle.fast_tree.specs.meaning.Sizes.{node_limit}
use Rattle.fast_notation.specs.device.Sound.{IsSound}
use Rattle.fast_notation.specs.device.WrittenSets.{instruction_data, fields_data}
use Rattle.fast_notation.proofs.references.ChainSizes.{nodes_named, nodes_in-by, nodes_named-suc, fields_of_name}
use Rattle.std.specs.Str.{bytes_eq}
use Rattle.fast_notation.proofs.lists.PlaceLists.{placed}
use Rattle.fast_notation.proofs.texts.ReadingPieces.{same_text}
use Rattle.fast_notation.proofs.lists.EntryLists.{collected_has}
use Rattle.fast_notation.proofs.references.InPlaceSizes.{in_place-nodes}
use Rattle.fast_value.specs.declared.kinds.Kind.{Kind}

-- ---- what holds of all of two lists

pub all_left : {A : Type 0} (P : A → Type 0) (xs ys : List A) → All P (xs ++ ys) → All P xs
all_left P xs ys h k d inside =
    let l = length-append xs ys in
    subst P (get_or_append_left xs ys d k inside) (h k d (omega (arith, inside, l)))

pub all_right : {A : Type 0} (P : A → Type 0) (xs ys : List A) → All P (xs ++ ys) → All P ys
all_right P xs ys h k d inside =
    let l = length-append xs ys in
    subst P (get_or-append-add xs ys k d) (h (length xs + k) d (omega (arith, inside, l)))

pub all_first : {A : Type 0} (P : A → Type 0) (x : A) (xs : List A) → All P (x ∷ xs) → P x
all_first P x xs h = h 0 x (omega arith)

pub all_but_first : {A : Type 0} (P : A → Type 0) (x : A) (xs : List A) → All P (x ∷ xs) → All P xs
all_but_first P x xs h k d inside = h (suc k) d (omega (arith, inside))

-- what holds of all uses holds of those of one instruction
uses_at : (P : Use → Type 0) (fs : List WrittenInstruction) (i : ℕ) (d : WrittenInstruction) → i < length fs
    → All P (all_uses (fields_data fs)) → All P (uses (instruction_data (get_or fs i d)))
uses_at P [] i d inside h = absurd (omega arith)
uses_at P (f ∷ fs) zero d inside h = all_left P (uses (instruction_data f)) (all_uses (fields_data fs)) h
uses_at P (f ∷ fs) (suc i) d inside h = uses_at P fs i d (omega (arith, inside)) (all_right P (uses (instruction_data f)) (all_uses (fields_data fs)) h)

references_at : (P : List ℕ → Type 0) (fs : List WrittenInstruction) (i : ℕ) (d : WrittenInstruction) → i < length fs → All P (all_references (fields_data fs))
    → All P (references (instruction_data (get_or fs i d)))
references_at P [] i d inside h = absurd (omega arith)
references_at P (f ∷ fs) zero d inside h = all_left P (references (instruction_data f)) (all_references (fields_data fs)) h
references_at P (f ∷ fs) (suc i) d inside h = references_at P fs i d (omega (arith, inside))
    (all_right P (references (instruction_data f)) (all_references (fields_data fs)) h)

-- the references of one instruction are some of all
reference_among : (fs : List WrittenInstruction) (i : ℕ) (d : WrittenInstruction) (name : List ℕ) → i < length fs
    → Contains (references (instruction_data (get_or fs i d))) name
    → Contains (all_references (fields_data fs)) name
reference_among [] i d name inside h = absurd (omega arith)
reference_among (f ∷ fs) zero d name inside h = Contains-append_left (references (instruction_data f)) (all_references (fields_data fs)) name h
reference_among (f ∷ fs) (suc i) d name inside h = Contains-append_right (references (instruction_data f))
    (all_references (fields_data fs)) name (reference_among fs i d name (omega (arith, inside)) h)

-- fewer references fit too
fits_among : (ts : List DeclaredTemplate) (chain : ℕ) (some all : DeclaredList)
    → ((name : List ℕ) → Contains (all_references some) name → Contains (all_references all) name) → Fits ts chain all → Fits ts chain some
unfolding Fits
fits_among ts zero some all among h = nothing (all_references some) (λ name there. none name (subst (λ names. Contains names name) h (among name there)))
  where
    none : (name : List ℕ) → Contains [] name → ⊥
    none name (k, inside, at) = omega (arith, inside)

    nothing : (names : List (List ℕ)) → ((name : List ℕ) → Contains names name → ⊥) → names ≡ []
    nothing [] h = refl
    nothing (name ∷ names) h = absurd (h name (0, omega arith, refl))
fits_among ts (suc n) some all among h = λ name k t there. h name k t (among name there)

-- a reference fits in no chain of none
pub chain_some : (ts : List DeclaredTemplate) (chain : ℕ) (name : List ℕ) (ds : DeclaredList) → Fits ts chain (more (reference name) ds) → 1 ≤ chain
unfolding Fits
chain_some ts zero name ds h = absurd (cc)
chain_some ts (suc n) name ds h = omega arith

-- what the chain leads to fits in the rest
fits_next : (ts : List DeclaredTemplate) (chain : ℕ) (name : List ℕ) (ds : DeclaredList) (k : ℕ) (t : DeclaredTemplate)
    → Fits ts (suc chain) (more (reference name) ds) → slice_get ts k ≡ Some t → t.name ≡ name → Fits ts chain t.fields
unfolding Fits
fits_next ts chain name ds k t h found same = h name k t (0, omega arith, refl) found same

-- ---- nodes

-- those of the first instructions and of the next are no more than all
nodes_up_to : (of : List ℕ → ℕ) (fs : List WrittenInstruction) (i : ℕ) (d : WrittenInstruction) → i < length fs
    → nodes_by of (fields_data (take i fs)) + nodes_by of (more (instruction_data (get_or fs i d)) no_more) ≤ nodes_by of (fields_data fs)
nodes_up_to of [] i d inside = absurd (omega arith)
nodes_up_to of (f ∷ fs) zero d inside = omega arith
nodes_up_to of (f ∷ fs) (suc i) d inside = let r = nodes_up_to of fs i d (omega (arith, inside)) in omega (arith, r)

module _ {ts : List DeclaredTemplate} {entries : List Entry} {chain : ℕ} {s : Scope} where
  -- one instruction behind those that are built
  pub can_build_next : (fs : List WrittenInstruction) (i : ℕ) (d : WrittenInstruction) (old mid : List NodeData) (before between : List ℕ)
      → AllPairs (λ a b. a.name ≢ b.name) ts → i < length fs
      → IsBuilt ts entries chain s (fields_data (take i fs)) old mid before between → CanBuild ts entries chain s (fields_data fs) (length old)
      → CanBuild ts entries chain s (more (instruction_data (get_or fs i d)) no_more) (length mid)
  can_build_next fs i d old mid before between apart inside b c =
      let one = instruction_data (get_or fs i d) in
      let so_far = in_place-nodes ts entries chain s (fields_data (take i fs)) (length old) (length mid) b.body apart b.in_place in
      let all = nodes_up_to (nodes_named ts chain) fs i d inside in
      let e = nodes_in-by ts chain (fields_data (take i fs)) in
      let f = nodes_in-by ts chain (more one no_more) in
      let g = nodes_in-by ts chain (fields_data fs) in
      let few = c.few in
      record {
        ready = subst (All (IsReady entries s)) (sym (append-nil (uses one))) (uses_at (IsReady entries s) fs i d inside c.ready);
        known = subst (All (λ name. IsSome (place_of_name name ts))) (sym (append-nil (references one)))
            (references_at (λ name. IsSome (place_of_name name ts)) fs i d inside c.known);
        fits = fits_among ts chain (more one no_more) (fields_data fs)
            (λ name there. reference_among fs i d name inside (subst (λ names. Contains names name) (append-nil (references one)) there)) c.fits;
        few = omega (arith, so_far, all, e, f, g, few);
      }

  -- the room for a node
  pub room_for : (d : Declared) (n : ℕ) → 1 ≤ nodes_by (nodes_named ts chain) (more d no_more) → CanBuild ts entries chain s (more d no_more) n → n < node_limit
  room_for d n some c =
      let f = nodes_in-by ts chain (more d no_more) in
      let few = c.few in
      omega (arith, f, few, some)

  -- the instructions of a group
  pub can_build_group : (name : List ℕ) (optional : Bool) (ds : DeclaredList) (n : ℕ)
      → CanBuild ts entries chain s (more (group name optional ds) no_more) n → CanBuild ts entries chain s ds (suc n)
  can_build_group name optional ds n c =
      let e = nodes_in-by ts chain (more (group name optional ds) no_more) in
      let f = nodes_in-by ts chain ds in
      let few = c.few in
      record {
        ready = subst (All (IsReady entries s)) (append-nil (all_uses ds)) c.ready;
        known = subst (All (λ name. IsSome (place_of_name name ts))) (append-nil (all_references ds)) c.known;
        fits = fits_among ts chain ds (more (group name optional ds) no_more)
            (λ q there. subst (λ names. Contains names q) (sym (append-nil (all_references ds))) there) c.fits;
        few = omega (arith, e, f, few);
      }

  -- the length of a sequence, and the instructions of an element
  pub length_ready : (name : List ℕ) (optional : Bool) (o : Option (List ℕ)) (w : Written) (ds : DeclaredList) (n : ℕ)
      → CanBuild ts entries chain s (more (sequence name optional o w ds) no_more) n
      → IsReady entries s (length_use name optional o w)
  length_ready name optional o w ds n c = all_first (IsReady entries s) (length_use name optional o w) (all_uses ds ++ []) c.ready

  pub can_build_sequence : (name : List ℕ) (optional : Bool) (o : Option (List ℕ)) (w : Written) (ds : DeclaredList) (n : ℕ)
      → CanBuild ts entries chain s (more (sequence name optional o w ds) no_more) n
      → CanBuild ts entries chain s ds (suc n)
  can_build_sequence name optional o w ds n c =
      let e = nodes_in-by ts chain (more (sequence name optional o w ds) no_more) in
      let f = nodes_in-by ts chain ds in
      let few = c.few in
      record {
        ready = subst (All (IsReady entries s)) (append-nil (all_uses ds))
            (all_but_first (IsReady entries s) (length_use name optional o w) (all_uses ds ++ []) c.ready);
        known = subst (All (λ name. IsSome (place_of_name name ts))) (append-nil (all_references ds)) c.known;
        fits = fits_among ts chain ds (more (sequence name optional o w ds) no_more)
            (λ q there. subst (λ names. Contains names q) (sym (append-nil (all_references ds))) there) c.fits;
        few = omega (arith, e, f, few);
      }

  -- the uses of fields and decimals
  pub scalar_ready : (name : List ℕ) (optional : Bool) (kind : Kind) (w : Written) (n : ℕ)
      → CanBuild ts entries chain s (more (scalar name optional kind w) no_more) n → IsReady entries s (scalar_use name optional kind w)
  scalar_ready name optional kind w n c = all_first (IsReady entries s) (scalar_use name optional kind w) [] c.ready

  pub exponent_ready : (name : List ℕ) (optional : Bool) (v w : Written) (n : ℕ)
      → CanBuild ts entries chain s (more (by_parts name optional v w) no_more) n → IsReady entries s (exponent_use name optional v)
  exponent_ready name optional v w n c = all_first (IsReady entries s) (exponent_use name optional v) (mantissa_use name w ∷ []) c.ready

  pub mantissa_ready : (name : List ℕ) (optional : Bool) (v w : Written) (n : ℕ)
      → CanBuild ts entries chain s (more (by_parts name optional v w) no_more) n → IsReady entries s (mantissa_use name w)
  mantissa_ready name optional v w n c = all_first (IsReady entries s) (mantissa_use name w) []
      (all_but_first (IsReady entries s) (exponent_use name optional v) (mantissa_use name w ∷ []) c.ready)

-- ---- templates

-- what holds of all uses holds of those of one template
pub uses_of_template : (P : Scope → Use → Type 0) (n k : ℕ) (ts : List DeclaredTemplate) (t : DeclaredTemplate)
    → All (λ p. P p.0 p.1) (uses_from n ts) → slice_get ts k ≡ Some t
    → All (P (scope_of (n + k) t)) (all_uses t.fields)
uses_of_template P n k [] t h found = absurd (cc)
uses_of_template P n zero (u ∷ ts) t h found =
    let is : u ≡ t = some_is found in
    subst (λ v. All (P (scope_of (n + 0) v)) (all_uses v.fields)) is
    (subst (λ m. All (P (scope_of m u)) (all_uses u.fields)) (let e : n ≡ n + 0 = omega arith in e)
    (out_of_scope (scope_of n u) (all_uses u.fields) (all_left (λ p. P p.0 p.1) (in_scope (scope_of n u) (all_uses u.fields)) (uses_from (suc n) ts) h)))
  where
    some_is : {A : Type 0} {a b : A} → Some a ≡ Some b → a ≡ b
    some_is h = cc

    out_of_scope : (s : Scope) (us : List Use) → All (λ p. P p.0 p.1) (in_scope s us) → All (P s) us
    out_of_scope s [] h k d inside = absurd (omega (arith, inside))
    out_of_scope s (u ∷ us) h zero d inside = all_first (λ p. P p.0 p.1) (s, u) (in_scope s us) h
    out_of_scope s (u ∷ us) h (suc k) d inside = out_of_scope s us (all_but_first (λ p. P p.0 p.1) (s, u) (in_scope s us) h) k d (omega (arith, inside))
uses_of_template P n (suc k) (u ∷ ts) t h found =
    subst (λ m. All (P (scope_of m t)) (all_uses t.fields)) (let e : suc n + k ≡ n + suc k = omega arith in e)
    (uses_of_template P (suc n) k ts t (all_right (λ p. P p.0 p.1) (in_scope (scope_of n u) (all_uses u.fields)) (uses_from (suc n) ts) h) found)

module _ {ts : List DeclaredTemplate} {entries : List Entry} {look : List ℕ → Option ℕ} where
  -- the uses of each template are ready
  template_ready : (k : ℕ) (t : DeclaredTemplate) → IsIndexed look ts entries → slice_get ts k ≡ Some t
      → All (IsReady entries (scope_of k t)) (all_uses t.fields)
  template_ready k t set found i d inside =
      let inside_ts = slice_get_within ts k t found in
      let is = get_or_from_slice_get ts k t t found in
      record {
        entry = subst (λ m. HasEntry entries (scope_of m t) (get_or (all_uses t.fields) i d)) (let e : 0 + k ≡ k = omega arith in e)
            (uses_of_template (HasEntry entries) 0 k ts t (collected_has [] entries (uses_from 0 ts) set.collected) found i d inside);
        sound = subst (λ (v : DeclaredTemplate). All IsSound (all_uses v.fields)) is
            (All-get_or (λ v. All IsSound (all_uses v.fields)) ts k t inside_ts set.sound) i d inside;
      }

  template_known : (k : ℕ) (t : DeclaredTemplate) → IsIndexed look ts entries → slice_get ts k ≡ Some t
      → All (λ name. IsSome (place_of_name name ts)) (all_references t.fields)
  template_known k t set found =
      subst (λ (v : DeclaredTemplate). All (λ name. IsSome (place_of_name name ts)) (all_references v.fields)) (get_or_from_slice_get ts k t t found)
      (All-get_or (λ v. All (λ name. IsSome (place_of_name name ts)) (all_references v.fields)) ts k t (slice_get_within ts k t found) set.known)

  -- a template's instructions, behind so many nodes
  pub can_build_template : (chain k n : ℕ) (t : DeclaredTemplate) → IsIndexed look ts entries → slice_get ts k ≡ Some t
      → Fits ts chain t.fields → n + nodes_in ts chain t.fields ≤ node_limit
      → CanBuild ts entries chain (scope_of k t) t.fields n
  can_build_template chain k n t set found fits few = record {
    ready = template_ready k t set found;
    known = template_known k t set found;
    fits = fits;
    few = few;
  }

  -- what a reference leads to
  pub can_build_reference : (chain k n : ℕ) (s : Scope) (name : List ℕ) (t : DeclaredTemplate) → IsIndexed look ts entries
      → slice_get ts k ≡ Some t → t.name ≡ name
      → CanBuild ts entries (suc chain) s (more (reference name) no_more) n → CanBuild ts entries chain (scope_of k t) t.fields n
  can_build_reference chain k n s name t set found same c =
      let e = nodes_in-by ts (suc chain) (more (reference name) no_more) in
      let named : nodes_named ts (suc chain) name ≡ nodes_in ts chain t.fields = nodes_named-suc ts chain name
      ∙ ap (nodes_in ts chain) (fields_of_name ts k t name set.names found same) in
      let few = c.few in
      can_build_template chain k n t set found (fits_next ts chain name no_more k t c.fits found same) (omega (arith, e, named, few))

  -- the template of a name
  pub looked_up : (name : List ℕ) (k : ℕ) → IsIndexed look ts entries → look name ≡ Some k
      → (t : DeclaredTemplate) × (slice_get ts k ≡ Some t) × (t.name ≡ name)
  looked_up name k set found =
      let p = placed (λ u. bytes_eq name u.name) 0 k ts (sym (set.index name) ∙ found) in
      let e = p.2 in
      let at : p.0 ≡ k = omega (arith, e) in
      (p.1, subst (λ j. slice_get ts j ≡ Some p.1) at p.3, sym (same_text name p.1.name p.4))

pub some_is : {A : Type 0} {a b : A} → Some a ≡ Some b → a ≡ b
some_is h = cc

-- ---- how much is left to build, where a reference counts as one instruction

abbrev pub weight : DeclaredList → ℕ
weight ds = nodes_by (λ name. 1) ds

-- what a chain of references can add, and what is left of one list
abbrev pub measure : List DeclaredTemplate → ℕ → ℕ → ℕ
measure ts chain own = chain * (3 * sum_by (λ (t : DeclaredTemplate). weight t.fields) ts) + own

-- an instruction weighs no more than its list
pub weight_at : (fs : List WrittenInstruction) (i : ℕ) (d : WrittenInstruction) → i < length fs
    → weight (more (instruction_data (get_or fs i d)) no_more) ≤ weight (fields_data fs)
weight_at fs i d inside = let r = nodes_up_to (λ name. 1) fs i d inside in omega (arith, r)

-- a template weighs no more than all
weight_of : (ts : List DeclaredTemplate) (k : ℕ) (t : DeclaredTemplate) → slice_get ts k ≡ Some t
    → weight t.fields ≤ sum_by (λ (u : DeclaredTemplate). weight u.fields) ts
weight_of [] k t found = absurd (cc)
weight_of (u ∷ ts) zero t found =
    let c = sum_by-cons (λ (v : DeclaredTemplate). weight v.fields) u ts in
    let is : weight u.fields ≡ weight t.fields = ap (λ (v : DeclaredTemplate). weight v.fields) (some_is found) in
    omega (arith, c, is)
  where
    some_is : {A : Type 0} {a b : A} → Some a ≡ Some b → a ≡ b
    some_is h = cc
weight_of (u ∷ ts) (suc k) t found =
    let c = sum_by-cons (λ (v : DeclaredTemplate). weight v.fields) u ts in
    let r = weight_of ts k t found in
    omega (arith, c, r)

-- with the next template less is left
pub next_smaller : (ts : List DeclaredTemplate) (k chain : ℕ) (t : DeclaredTemplate) → slice_get ts k ≡ Some t
    → measure ts chain (3 * weight t.fields + 1) < measure ts (suc chain) 2
next_smaller ts k chain t found =
    let w = weight_of ts k t found in
    let all = 3 * sum_by (λ (u : DeclaredTemplate). weight u.fields) ts in
    let m : suc chain * all ≡ chain * all + all = suc-mul chain all in
    omega (arith, w, m)
