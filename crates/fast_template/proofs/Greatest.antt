-- The greatest number of a list of templates, one template after the other.
use Rattle.std.proofs.Common.{◌≡◌, ℕ, ◌+◌, ◌*◌, ◌≤◌, suc, List, ap, sym, ◌∙◌, length, map, drop, max, min, arith, slice_get, get_or, Some}
use Rattle.std.proofs.Math.Seq.{drop-cons}
use Rattle.std.proofs.Math.Nat.{max-zero, min-eq_left}
use Rattle.std.proofs.lemmas.List.{drop_all}
use Rattle.std.proofs.lemmas.Option.{slice_get_within, get_or_from_slice_get}
use Rattle.fast_value.specs.declared.settings.Limits.{Limits}
use Rattle.fast_tree.specs.declared.instructions.Node.{Node}
use Rattle.fast_tree.specs.declared.instructions.Template.{Template}
use Rattle.fast_tree.specs.meaning.Tree.{TemplateData}
use Rattle.fast_tree.specs.meaning.Nodes.{template_data, instructions_from}
use Rattle.fast_tree.specs.meaning.Sizes.{greatest, body_depth, event_weights, body_size, body_outer, body_widest}
use Rattle.fast_template.proofs.Saturation.{stopped_max, max_assoc}

-- the greatest number of templates by their trees
abbrev pub greatest_of : (TemplateData → ℕ) → List Node → List Template → ℕ
greatest_of f ns ts = greatest (map f (map (template_data (instructions_from 0 ns)) ts))

-- how deep a template nests
abbrev pub depth_of : TemplateData → ℕ
depth_of u = body_depth u.body

-- the most events by the limit on each sequence, and by that on a message
abbrev pub product_of : Limits → TemplateData → ℕ
product_of l u = 2 + body_size event_weights l u.body

abbrev pub sum_of : Limits → TemplateData → ℕ
sum_of l u = 2 + body_outer event_weights u.body + l.max_total * body_widest event_weights u.body

-- the next template
greatest_next : (f : TemplateData → ℕ) (ns : List Node) (ts : List Template) (p : ℕ) (t : Template) → slice_get ts p ≡ Some t
    → greatest_of f ns (drop p ts) ≡ max (f (template_data (instructions_from 0 ns) t)) (greatest_of f ns (drop (p + 1) ts))
greatest_next f ns ts p t found =
    let inside = slice_get_within ts p t found in
    let read : get_or ts p t ≡ t = get_or_from_slice_get ts p t t found in
    ap (greatest_of f ns) (drop-cons ts p t inside)
    ∙ ap (λ x. max (f (template_data (instructions_from 0 ns) x)) (greatest_of f ns (drop (suc p) ts))) read
    ∙ ap (λ q. max (f (template_data (instructions_from 0 ns) t)) (greatest_of f ns (drop q ts))) (let e : suc p ≡ p + 1 = omega arith in e)

-- the greatest so far, with the next template
pub greatest_kept : (limit best : ℕ) (f : TemplateData → ℕ) (ns : List Node) (ts : List Template) (p : ℕ) (t : Template) → slice_get ts p ≡ Some t
    → max best (min (greatest_of f ns (drop p ts)) limit) ≡ min (greatest_of f ns ts) limit
    → max (max best (min (f (template_data (instructions_from 0 ns) t)) limit)) (min (greatest_of f ns (drop (p + 1) ts)) limit) ≡ min
    (greatest_of f ns ts) limit
greatest_kept limit best f ns ts p t found so_far =
    let x = f (template_data (instructions_from 0 ns) t) in
    let rest = greatest_of f ns (drop (p + 1) ts) in
    max_assoc best (min x limit) (min rest limit) ∙ ap (max best) (stopped_max limit x rest)
    ∙ ap (λ n. max best (min n limit)) (sym (greatest_next f ns ts p t found)) ∙ so_far

-- the greatest of all
pub greatest_whole : (limit best : ℕ) (f : TemplateData → ℕ) (ns : List Node) (ts : List Template) (p : ℕ) → length ts ≤ p
    → max best (min (greatest_of f ns (drop p ts)) limit) ≡ min (greatest_of f ns ts) limit → best ≡ min (greatest_of f ns ts) limit
greatest_whole limit best f ns ts p past so_far =
    sym (max-zero best) ∙ ap (max best) (let e : 0 ≡ min 0 limit = sym (min-eq_left (omega arith)) in e)
    ∙ ap (λ us. max best (min (greatest_of f ns us) limit)) (sym (drop_all p ts past)) ∙ so_far
