-- The text that the entry holds.
use Rattle.std.proofs.Common.{refl, sym, ◌∙◌}
use Rattle.std.specs.Prelude.{false, []}
use Rattle.fast_value.specs.declared.kinds.Kind.TheVariants.{Ascii}
use Rattle.fast_machine.specs.device.Positions.{set_of}
use Rattle.fast_loop.proofs.arms.Fields.{op_node, entry_there, as_coded, field_of, uses_as}
use Rattle.fast_loop.proofs.arms.Texts.{keeps_text, text_unsent}
use Rattle.fast_loop.proofs.text_arms.unsent_ascii_arm.Goals as goal

pub unsent_ascii-requires : goal.unsent_ascii-requires
unsent_ascii-requires g c =
    let m = c.args.machine.now in
    let p = c.args.spot.now.place in
    let (x, found) = op_node c.args.templates.now m p c.args.op.now c.requires.op in
    record {
      within = entry_there c.args.templates.now c.args.limits m p c.args.op.now Ascii c.args.operator c.args.optional c.requires.spot
          c.requires.op x found (keeps_text c.args.operator c.in-Copy.is).0;
    }

pub returns-in-Some : goal.returns-in-Some
returns-in-Some g c =
    let t = c.args.templates.now in
    let l = c.args.limits in
    let m = c.args.machine.now in
    let p = c.args.spot.now.place in
    let op = c.args.op.now in
    let operator = c.args.operator in
    let optional = c.args.optional in
    let (x, found) = op_node t m p op c.requires.op in
    let f = field_of t l m p op Ascii operator optional c.requires.spot c.requires.op x found in
    record {
      went = c.hand_unsent.ensures.went (set_of t) l m m f false
          (sym (uses_as t l m p op Ascii operator optional c.requires.spot c.requires.op x found ∙ c.requires.uses)) refl
          (text_unsent t l m p op Ascii operator optional c.requires.spot c.requires.op x found c.in-Some.source _
          [] _ c.in-Copy.is c.requires.uses c.requires.clear c.in-Some.ensures.decided
          (c.ascii_at-value.ensures f optional operator [] (as_coded t l m p op Ascii operator optional c.requires.spot c.requires.op x found)
          (c.in-Some.ensures.source operator (keeps_text operator c.in-Copy.is).0)));
    }
