use Rattle.std.proofs.Common.{◌∙◌, sym, ap, arith}
use Rattle.std.specs.Prelude.{option_map}
use Rattle.std.proofs.lemmas.Option.{slice_get-map, slice_get_past}
use Rattle.fast_template.specs.meaning.Flat.{nodes_of, templates_of, instructions_from, template_data}
use Rattle.fast_json.specs.meaning.Json.{id_of}
use Rattle.fast_json.proofs.json_sink.template_id.Goals as goal

pub returns-then-template-count : goal.returns-then-template-count
returns-then-template-count c =
    let set = c.args.templates.now in
    let made = template_data (instructions_from 0 (nodes_of set)) in
    sym (ap id_of (slice_get-map made (templates_of set) c.args.template ∙ ap (option_map made) c.template.ensures.found))

pub returns-else-template-count : goal.returns-else-template-count
returns-else-template-count c =
    let set = c.args.templates.now in
    let made = template_data (instructions_from 0 (nodes_of set)) in
    let none = slice_get_past (templates_of set) c.args.template (omega (arith, c.if-template-count.false, c.count.ensures)) in
    sym (ap id_of (slice_get-map made (templates_of set) c.args.template ∙ ap (option_map made) none))
