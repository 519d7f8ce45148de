-- How many nodes a body in place has, and how deep it is.
use Rattle.std.proofs.Common.{◌≡◌, ◌≢◌, ℕ, suc, ◌+◌, List, refl, ap, sym, ◌∙◌, arith}
use Rattle.std.specs.Prelude.{max, AllPairs}
use Rattle.fast_tree.specs.meaning.AsWritten.{DeclaredList, DeclaredTemplate}
use Rattle.fast_tree.specs.meaning.Entries.{Entry, Scope}
use Rattle.fast_tree.specs.meaning.Tree.{Body, end, step}
use Rattle.fast_tree.specs.meaning.Sizes.{body_depth}
use Rattle.fast_notation.specs.meaning.InPlace.{◌then◌, InPlace, nothing, a_field, some_parts, a_group, a_sequence, a_reference}
use Rattle.fast_notation.specs.device.Chains.{nodes_in, nodes_by, depth_in, depth_by}
use Rattle.fast_notation.proofs.references.ChainSizes.{nodes_named, depth_named, nodes_in-by, depth_in-by, nodes_named-suc, depth_named-suc, fields_of_name}

-- the nodes, by those of what each reference names
numbers_by : {ts : List DeclaredTemplate} {entries : List Entry} {chain : ℕ} {s : Scope} {ds : DeclaredList} {n m : ℕ} {body : Body}
    → AllPairs (λ a b. a.name ≢ b.name) ts
    → InPlace ts entries chain s ds n body m → m ≡ n + nodes_by (nodes_named ts chain) ds
numbers_by apart (nothing {n = n}) = omega arith
numbers_by apart (a_field f rest) = let r = numbers_by apart rest in omega (arith, r)
numbers_by apart (some_parts e f rest) = let r = numbers_by apart rest in omega (arith, r)
numbers_by apart (a_group inner rest) =
    let i = numbers_by apart inner in
    let r = numbers_by apart rest in
    omega (arith, i, r)
numbers_by apart (a_sequence f inner rest) =
    let i = numbers_by apart inner in
    let r = numbers_by apart rest in
    omega (arith, i, r)
numbers_by {ts = ts} apart (a_reference {chain = chain} {name = name} number t at_number same inner rest) =
    let i = numbers_by apart inner in
    let r = numbers_by apart rest in
    let named : nodes_named ts (suc chain) name ≡ nodes_by (nodes_named ts chain) t.fields =
    nodes_named-suc ts chain name ∙ ap (nodes_in ts chain) (fields_of_name ts number t name apart at_number same) ∙ nodes_in-by ts chain t.fields in
    omega (arith, i, r, named)

-- the depth of one body behind another
depth-then : (is js : Body) → body_depth (is then js) ≡ max (body_depth is) (body_depth js)
depth-then end js = omega arith
depth-then (step i is) js =
    let e = depth-then is js in
    omega (arith, e)

-- the depth, by that of what each reference names
depths_by : {ts : List DeclaredTemplate} {entries : List Entry} {chain : ℕ} {s : Scope} {ds : DeclaredList} {n m : ℕ} {body : Body}
    → AllPairs (λ a b. a.name ≢ b.name) ts
    → InPlace ts entries chain s ds n body m → body_depth body ≡ depth_by (depth_named ts chain) ds
depths_by apart nothing = refl
depths_by apart (a_field f rest) = ap (max 0) (depths_by apart rest)
depths_by apart (some_parts e f rest) = ap (max 0) (depths_by apart rest)
depths_by apart (a_group inner rest) =
    let i = depths_by apart inner in
    let r = depths_by apart rest in
    rw (i, r) refl
depths_by apart (a_sequence f inner rest) =
    let i = depths_by apart inner in
    let r = depths_by apart rest in
    rw (i, r) refl
depths_by {ts = ts} apart (a_reference {chain = chain} {name = name} {body = body} {is = is} number t at_number same inner rest) =
    let i = depths_by apart inner in
    let r = depths_by apart rest in
    let named : depth_named ts (suc chain) name ≡ depth_by (depth_named ts chain) t.fields =
    depth_named-suc ts chain name ∙ ap (depth_in ts chain) (fields_of_name ts number t name apart at_number same) ∙ depth_in-by ts chain t.fields in
    depth-then body is ∙ rw (i, r, named) refl

-- A body in place has as many nodes as the chains of references come to.
pub in_place-nodes : (ts : List DeclaredTemplate) (entries : List Entry) (chain : ℕ) (s : Scope) (ds : DeclaredList) (n m : ℕ)
    (body : Body) → AllPairs (λ a b. a.name ≢ b.name) ts
    → InPlace ts entries chain s ds n body m → m ≡ n + nodes_in ts chain ds
in_place-nodes ts entries chain s ds n m body apart h = numbers_by apart h ∙ ap (λ c. n + c) (sym (nodes_in-by ts chain ds))

-- It is as deep as they are.
pub in_place-depth : (ts : List DeclaredTemplate) (entries : List Entry) (chain : ℕ) (s : Scope) (ds : DeclaredList) (n m : ℕ)
    (body : Body) → AllPairs (λ a b. a.name ≢ b.name) ts
    → InPlace ts entries chain s ds n body m → body_depth body ≡ depth_in ts chain ds
in_place-depth ts entries chain s ds n m body apart h = depths_by apart h ∙ sym (depth_in-by ts chain ds)
