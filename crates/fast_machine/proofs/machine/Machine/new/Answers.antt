use Rattle.std.proofs.Common.{refl, sym, ap, ◌∙◌, arith, length}
use Rattle.std.proofs.lemmas.List.{length-replicate}
use Rattle.fast_template.specs.meaning.Flat.{tree_of}
use Rattle.fast_dict.specs.meaning.Dictionary.{undefined}
use Rattle.fast_dict.specs.meaning.Slots.{slots_sized}
use Rattle.fast_cursor.specs.device.Cursors.{CursorData}
use Rattle.fast_machine.proofs.machine.Machine.new.Goals as goal

pub returns-clause-supplied : goal.returns-clause-supplied
returns-clause-supplied c =
    record {
      entries = sym (slots_sized c.in_ok-make_slots.field-0) ∙ ap length c.in_ok-make_slots.ensures.fresh
          ∙ length-replicate (tree_of c.args.templates.now).entries undefined;
      serves = c.in_ok-make_slots.ensures.serves;
      some_entry = c.args.templates.now.has_identifier;
      max_text = c.in_ok-make_slots.ensures.max_text;
      least_text = c.requires.least;
      carry_room = c.in_ok-new-2.ensures;
      text_room = c.in_ok-new-3.ensures.capacity;
      depth = ap (λ (x : CursorData). x.depth) c.in_ok-new.ensures ∙ c.depth.ensures.greatest;
      program = ap (λ (x : CursorData). x.ops) c.in_ok-new.ensures ∙ c.program.ensures.is;
      identifier = refl;
      counted = omega arith;
      latest = tt;
    }
