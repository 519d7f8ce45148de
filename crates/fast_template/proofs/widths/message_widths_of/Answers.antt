-- The numbers of a template's body are of nodes, and each template has its bits once it has been looked at.
use Rattle.std.proofs.Common.{◌≡◌, ℕ, ◌+◌, List, [], ◌∷◌, Some, refl, sym, ap, subst, ◌∙◌, length, arith}
use Rattle.std.specs.Prelude.{slice_get}
use Rattle.std.proofs.lemmas.List.{length-append}
use Rattle.std.proofs.lemmas.Option.{slice_get_read}
use Rattle.std.proofs.lemmas.Result.{err_from_is_err_and}
use Rattle.fast_tree.specs.declared.instructions.Node.{Node}
use Rattle.fast_tree.specs.declared.instructions.Template.{Template}
use Rattle.fast_tree.specs.meaning.Tree.{bits_of, message_bits}
use Rattle.fast_tree.specs.meaning.Nodes.{instructions_from, template_data, body_among}
use Rattle.fast_tree.specs.meaning.Numbers.{AreBelow}
use Rattle.fast_template.proofs.Growing.{none_yet, one_more, all_there}
use Rattle.fast_template.proofs.widths.message_widths_of.Goals as goal

pub returns-in_err-widths : goal.returns-in_err-widths
returns-in_err-widths c = rw ((err_from_is_err_and c.from_residual.result c.from_residual.ensures.1).1) tt

pub loop-template-init : goal.loop-template-init
loop-template-init c =
    let ns : List Node = c.args.nodes.now in
    record {
      long = ap length c.in_ok-widths.ensures.items;
      each =
          none_yet (λ (t : Template). message_bits (template_data (instructions_from 0 ns) t)) c.args.templates.now
          c.in_ok-widths.widths.items;
    }

pub body_bits-requires-clause-within : goal.body_bits-requires-clause-within
body_bits-requires-clause-within c =
    let ts : List Template = c.args.templates.now in
    let i : ℕ = c.loop-template.template-index in
    let t : Template = c.template-item.result in
    let at : slice_get ts i ≡ Some t = slice_get_read ts (length ts) i t refl c.loop-template-test.true c.template-item.is in
    subst (λ body. AreBelow (length c.args.nodes.now) body) (sym c.deref.ensures.value) (c.requires i t at)

pub returns-in_err-push : goal.returns-in_err-push
returns-in_err-push c = rw ((err_from_is_err_and c.from_residual-in_err-push.result c.from_residual-in_err-push.ensures.1).1) tt

pub loop-template-preserved : goal.loop-template-preserved
loop-template-preserved c =
    let ns : List Node = c.args.nodes.now in
    let ts : List Template = c.args.templates.now in
    let i : ℕ = c.loop-template.template-index in
    let t : Template = c.template-item.result in
    let at : slice_get ts i ≡ Some t = slice_get_read ts (length ts) i t refl c.loop-template-test.true c.template-item.is in
    let before = c.loop-template.invariant in
    let more = c.in_ok-push.ensures.items in
    let w : ℕ = 1 + c.body_bits.result in
    let bits : Template → ℕ = λ (t : Template). message_bits (template_data (instructions_from 0 ns) t) in
    record {
      long = ap length more ∙ length-append c.loop-template.widths.items (w ∷ []) ∙ ap (λ len. len + 1) before.long;
      each = rw (more) (one_more bits ts c.loop-template.widths.items i w t before.long before.each at
          (ap (λ n. 1 + n) (c.body_bits.ensures.bits ∙ ap (λ body. bits_of (body_among ns body)) c.deref.ensures.value)));
    }

pub returns : goal.returns
returns c =
    let ns : List Node = c.args.nodes.now in
    let ts : List Template = c.args.templates.now in
    let before = c.loop-template.invariant in
    let end : c.loop-template.template-index ≡ length ts = omega arith in
    record {
      long = before.long ∙ end;
      each = all_there (λ (t : Template). message_bits (template_data (instructions_from 0 ns) t)) ts
          c.loop-template.widths.items c.loop-template.template-index end before.each;
    }
