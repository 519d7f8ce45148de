use Rattle.std.proofs.Common.{sym, refl, subst, length, take, inl, inr}
use Rattle.std.specs.Prelude.{All}
use Rattle.std.proofs.lemmas.Bool.{cases_lt, false≢true}
use Rattle.std.proofs.lemmas.List.{take-map}
use Rattle.std.proofs.lemmas.List.Elements.{All-more, All-map}
use Rattle.std.proofs.lemmas.Option.{slice_get_read}
use Rattle.fast_tree.specs.meaning.Nodes.{template_data, instructions_from}
use Rattle.fast_notation.specs.device.Segments.{IsNarrow, IsWide}
use Rattle.fast_tree.specs.meaning.Sizes.{segment_limit}
use Rattle.fast_tree.specs.meaning.Tree.{message_bits}
use Rattle.fast_notation.proofs.lists.Lists.{all_taken, mapped_get}
use Rattle.fast_notation.proofs.segments.check_segments.Goals as goal

pub returns-then-not-is_narrow-clause-wide : goal.returns-then-not-is_narrow-clause-wide
returns-then-not-is_narrow-clause-wide c =
    let f = template_data (instructions_from 0 c.args.nodes.now) in
    let ts = c.args.templates.now in
    let t = c.index-templates-k.result in
    let found = slice_get_read ts (length ts) c.loop-k.k t refl c.loop-k-test.true c.index-templates-k.is in
    let wide : IsWide (f t) = elim (cases_lt segment_limit (message_bits (f t)))
    [ inl h ↦ inl h | inr h ↦ inr (λ inside. false≢true (c.if-not-is_narrow.ensures.1 (h, inside))) ] in
    (f t, mapped_get f ts c.loop-k.k t found, wide)

pub returns-then-not-is_narrow-clause-first : goal.returns-then-not-is_narrow-clause-first
returns-then-not-is_narrow-clause-first c =
    let f = template_data (instructions_from 0 c.args.nodes.now) in
    subst (All IsNarrow) (sym (take-map f c.loop-k.k c.args.templates.now)) (All-map IsNarrow f (take c.loop-k.k c.args.templates.now) c.loop-k.invariant)

pub loop-k-preserved : goal.loop-k-preserved
loop-k-preserved c =
    let f = template_data (instructions_from 0 c.args.nodes.now) in
    All-more (λ t. IsNarrow (f t)) c.args.templates.now c.loop-k.k c.index-templates-k.result c.loop-k-test.true c.loop-k.invariant
    (subst (λ t. IsNarrow (f t)) c.index-templates-k.is (c.if-not-is_narrow.ensures.0 refl))

pub returns-clause-narrow : goal.returns-clause-narrow
returns-clause-narrow c =
    let f = template_data (instructions_from 0 c.args.nodes.now) in
    All-map IsNarrow f c.args.templates.now (all_taken (λ t. IsNarrow (f t)) c.args.templates.now c.loop-k.k c.loop-k-test.false c.loop-k.invariant)
