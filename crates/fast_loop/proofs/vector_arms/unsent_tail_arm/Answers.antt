-- The text that the entry holds.
use Rattle.std.proofs.Common.{refl, sym, inr}
use Rattle.std.specs.Prelude.{false, []}
use Rattle.fast_tree.specs.declared.operators.Operator.TheVariants.{Tail}
use Rattle.fast_machine.specs.device.Positions.{set_of}
use Rattle.fast_loop.proofs.arms.Fields.{op_node, entry_there, as_coded, field_of, uses_as}
use Rattle.fast_loop.proofs.arms.Texts.{text_unsent}
use Rattle.fast_loop.proofs.vector_arms.unsent_tail_arm.Goals as goal

pub unsent_text-requires : goal.unsent_text-requires
unsent_text-requires g c =
    let m = c.args.machine.now in
    let p = c.args.spot.now.place in
    let (x, found) = op_node c.args.templates.now m p c.args.op.now c.requires.op in
    record {
      there = entry_there c.args.templates.now c.args.limits m p c.args.op.now c.args.kind Tail c.args.optional c.requires.spot
          c.requires.op x found refl;
    }

pub kept_at-value-requires-clause-there : goal.kept_at-value-requires-clause-there
kept_at-value-requires-clause-there g c =
    let m = c.args.machine.now in
    let p = c.args.spot.now.place in
    let (x, found) = op_node c.args.templates.now m p c.args.op.now c.requires.op in
    entry_there c.args.templates.now c.args.limits m p c.args.op.now c.args.kind Tail c.args.optional c.requires.spot c.requires.op
    x found refl

pub returns-in-Some : goal.returns-in-Some
returns-in-Some g c =
    let t = c.args.templates.now in
    let l = c.args.limits in
    let m = c.args.machine.now in
    let p = c.args.spot.now.place in
    let op = c.args.op.now in
    let kind = c.args.kind in
    let optional = c.args.optional in
    let (x, found) = op_node t m p op c.requires.op in
    let f = field_of t l m p op kind Tail optional c.requires.spot c.requires.op x found in
    record {
      went = c.hand_unsent.ensures.went (set_of t) l m m f false
          (sym (uses_as t l m p op kind Tail optional c.requires.spot c.requires.op x found)) refl
          (text_unsent t l m p op kind Tail optional c.requires.spot c.requires.op x found c.in-Some.source [] [] _
          (inr refl) refl c.requires.clear c.in-Some.ensures.decided
          (c.kept_at-value.ensures f optional Tail [] [] (as_coded t l m p op kind Tail optional c.requires.spot c.requires.op x found) refl));
    }
