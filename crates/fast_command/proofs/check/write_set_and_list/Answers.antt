use Rattle.fast_template.specs.meaning.Flat.{tree_of}
use Rattle.fast_command.specs.meaning.Checking.{set_lines}
use Rattle.fast_command.specs.meaning.Listing.{list_lines}
use Rattle.fast_command.proofs.Parts.{part_of_more, then_part, then_whole}
use Rattle.fast_command.proofs.check.write_set_and_list.Goals as goal

pub returns-in-Ok-clause-written : goal.returns-in-Ok-clause-written
returns-in-Ok-clause-written g c =
    let t = tree_of c.args.templates.now in
    then_whole _ _ _ (set_lines t c.args.limits) (list_lines t) c.write_list.result c.in-Ok.ensures.written c.write_list.ensures.written

pub returns-in-Ok-clause-part : goal.returns-in-Ok-clause-part
returns-in-Ok-clause-part g c =
    let t = tree_of c.args.templates.now in
    then_part _ _ _ (set_lines t c.args.limits) (list_lines t) c.write_list.result c.in-Ok.ensures.written c.write_list.ensures.part

pub returns-in-Err-clause-part : goal.returns-in-Err-clause-part
returns-in-Err-clause-part g c =
    let t = tree_of c.args.templates.now in
    part_of_more _ _ (set_lines t c.args.limits) (list_lines t) c.in-Err.ensures.part
