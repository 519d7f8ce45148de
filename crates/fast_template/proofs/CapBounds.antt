-- How great the depth and the cap of a set can be: each node stands in the set once.
use Rattle.std.proofs.Common.{◌≡◌, ℕ, ◌+◌, ◌*◌, ◌<◌, ◌≤◌, suc, List, [], ◌∷◌, refl, ap, sym, ◌∙◌, subst, length, map, max, arith, length-append}
use Rattle.std.proofs.Math.Nat.{le_trans, max-le, mul-le-mul_left}
use Rattle.fast_tree.specs.declared.instructions.Node.{Node}
use Rattle.fast_template.specs.declared.sets.Templates.{Templates}
use Rattle.fast_tree.specs.meaning.Tree.{Instruction, field, parts, group, sequence, Body, end, step, TemplateData}
use Rattle.fast_template.specs.meaning.Flat.{tree_of, nodes_of}
use Rattle.fast_notation.specs.meaning.Labels.{labels, body_labels, template_labels, labels_from}
use Rattle.fast_tree.specs.meaning.Sizes.{depth, body_depth, set_depth, greatest, event_weights, outer, body_outer, widest, body_widest, sum_cap}
use Rattle.fast_value.specs.declared.settings.Limits.{Limits}

-- no more levels than nodes
mutual
  depth_within : (i : Instruction) → depth i ≤ length (labels i)
  depth_within (field l f) = omega arith
  depth_within (parts l e m) = omega arith
  depth_within (group l optional body) = let h = body_depth_within body in omega (arith, h)
  depth_within (sequence l f body) = let h = body_depth_within body in omega (arith, h)

  body_depth_within : (b : Body) → body_depth b ≤ length (body_labels b)
  body_depth_within end = omega arith
  body_depth_within (step i is) =
      let h = depth_within i in
      let r = body_depth_within is in
      let both : max (depth i) (body_depth is) ≤ length (labels i) + length (body_labels is) = max-le (omega (arith, h)) (omega (arith, r)) in
      subst (λ n. max (depth i) (body_depth is) ≤ n) (sym (length-append (labels i) (body_labels is))) both

-- no more events without elements than two a node
mutual
  outer_within : (i : Instruction) → outer event_weights i ≤ 2 * length (labels i)
  outer_within (field l f) = omega arith
  outer_within (parts l e m) = omega arith
  outer_within (group l optional body) = let h = body_outer_within body in omega (arith, h)
  outer_within (sequence l f body) = omega arith

  body_outer_within : (b : Body) → body_outer event_weights b ≤ 2 * length (body_labels b)
  body_outer_within end = omega arith
  body_outer_within (step i is) =
      let h = outer_within i in
      let r = body_outer_within is in
      let e = length-append (labels i) (body_labels is) in
      omega (arith, h, r, e)

-- no greater element than two events a node
mutual
  widest_within : (i : Instruction) → widest event_weights i ≤ 2 * length (labels i)
  widest_within (field l f) = omega arith
  widest_within (parts l e m) = omega arith
  widest_within (group l optional body) = let h = body_widest_within body in omega (arith, h)
  widest_within (sequence l f body) =
      let h = body_widest_within body in
      let o = body_outer_within body in
      max-le (omega (arith, o)) (omega (arith, h))

  body_widest_within : (b : Body) → body_widest event_weights b ≤ 2 * length (body_labels b)
  body_widest_within end = omega arith
  body_widest_within (step i is) =
      let h = widest_within i in
      let r = body_widest_within is in
      let e = length-append (labels i) (body_labels is) in
      max-le (omega (arith, h, e)) (omega (arith, r, e))

-- what holds of each template's nodes holds of the greatest
greatest_within : (f : TemplateData → ℕ) (limit nodes : ℕ) (us : List TemplateData)
    → ((u : TemplateData) → length (body_labels u.body) ≤ nodes → f u ≤ limit) → length (template_labels us) ≤ nodes
    → greatest (map f us) ≤ limit
greatest_within f limit nodes [] each few = omega arith
greatest_within f limit nodes (u ∷ us) each few =
    let e = length-append (body_labels u.body) (template_labels us) in
    max-le (each u (omega (arith, few, e))) (greatest_within f limit nodes us each (omega (arith, few, e)))

-- as many labels as nodes
labels_count : (own : ℕ) (ns : List Node) → length (labels_from own ns) ≡ length ns
labels_count own [] = refl
labels_count own (n ∷ ns) = ap suc (labels_count (suc own) ns)

-- a set has at most 65,536 nodes
few_labels : (s : Templates) → length (template_labels (tree_of s).templates) ≤ 65536
few_labels s =
    let e = ap length s.nodes_in_preorder ∙ labels_count 0 (nodes_of s) in
    subst (λ n. n ≤ 65536) (sym e) s.few_nodes

-- so it has at most as many levels
pub few_levels : (s : Templates) → set_depth (tree_of s) ≤ 65536
few_levels s = greatest_within (λ u. body_depth u.body) 65536 65536 (tree_of s).templates (λ u h. le_trans (body_depth_within u.body) h) (few_labels s)

-- the cap by the limit on the elements of a message has 64 bits
pub sum_cap_fits : (s : Templates) (l : Limits) → l.max_total < 4294967296 → sum_cap event_weights (tree_of s) l ≤ 18446744073709551615
sum_cap_fits s l small =
    greatest_within (λ u. 2 + body_outer event_weights u.body + l.max_total * body_widest event_weights u.body) 18446744073709551615 65536 (tree_of s).templates
    (λ u h. one_fits u h) (few_labels s)
  where
    one_fits : (u : TemplateData) → length (body_labels u.body) ≤ 65536
        → 2 + body_outer event_weights u.body + l.max_total * body_widest event_weights u.body ≤ 18446744073709551615
    one_fits u h =
        let o = body_outer_within u.body in
        let w = body_widest_within u.body in
        let wide : body_widest event_weights u.body ≤ 131072 = omega (arith, w, h) in
        let product : l.max_total * body_widest event_weights u.body ≤ l.max_total * 131072 = mul-le-mul_left l.max_total wide in
        omega (arith, o, product, small, h)
