use Rattle.std.proofs.Common.{◌<◌, ◌^◌, map, subst, sym, ◌∙◌, arith, inl, inr, Some}
use Rattle.fast_tree.specs.meaning.Numbers.{NameLaterNodes}
use Rattle.fast_notation.specs.device.WrittenSets.{written_data}
use Rattle.fast_notation.proofs.nodes.BuiltSets.{built_in_preorder, built_names_nodes, built_names_later_nodes, built_distinct_ids}
use Rattle.fast_notation.proofs.nodes.BuiltSets.{built_few_nodes, built_count}
use Rattle.fast_notation.proofs.nodes.BuiltUsable.{built_usable}
use Rattle.fast_tree.specs.meaning.NodeData.{node_data}
use Rattle.fast_tree.specs.device.Usable.{AreUsable}
use Rattle.fast_notation.proofs.references.Headings.{same_names, same_ids, built_headings}
use Rattle.std.proofs.lemmas.List.{length-map}
use Rattle.std.proofs.lemmas.Result.{err_from_is_err_and}
use Rattle.toml.specs.Parse.{parse_document}
use Rattle.fast_notation.specs.declared.codes.StaticCode.TheVariants.{C5}
use Rattle.fast_notation.proofs.outcomes.NoTrees.{no_tree}
use Rattle.fast_notation.proofs.outcomes.Firsts.{chains_first, first_width, written_first}
use Rattle.fast_notation.proofs.outcomes.ReadLaws.{tree_read, wide_stands}
use Rattle.fast_notation.proofs.texts.ReadingSteps.{no_ok, told_err}
use Rattle.fast_notation.proofs.sets.CheckedSet.read.Goals as goal

pub check_segments-requires-clause-later : goal.check_segments-requires-clause-later
check_segments-requires-clause-later c = subst NameLaterNodes (sym c.deref.ensures.value)
    (built_names_later_nodes c.in-Ok.built.nodes.items c.in-Ok.built.templates.items c.in-Ok.ensures.are_built)

pub check_segments-requires-clause-named : goal.check_segments-requires-clause-named
check_segments-requires-clause-named c = rw (c.deref.ensures.value, c.deref-2.ensures.value)
    (built_names_nodes c.in-Ok.built.nodes.items c.in-Ok.built.templates.items c.in-Ok.ensures.are_built)

pub check_segments-requires-clause-few : goal.check_segments-requires-clause-few
check_segments-requires-clause-few c =
    let n = built_count c.in-Ok.built.nodes.items c.in-Ok.built.templates.items c.in-Ok.ensures.are_built in
    let many = c.in_ok-set.ensures.set.shape.4 in
    rw c.deref-2.ensures.value (omega (arith, n, many))

pub returns-in-Err-clause-fault : goal.returns-in-Err-clause-fault
returns-in-Err-clause-fault c =
    let w = c.in_ok-set.ensures.set in
    let ts = map written_data c.in_ok-set.set.templates.items in
    let f = rw (c.deref.ensures.value, c.deref-2.ensures.value) at c.in-Err.ensures.wide in
    inr (record {
      document = w.document;
      written = ts;
      reads = w.reads;
      shape = w.shape;
      stands = wide_stands ts c.in-Ok.built c.in-Err.template f.0 c.in-Ok.ensures f.1 f.2;
    })

pub invariant_of-result : goal.invariant_of-result
invariant_of-result c =
    let w = c.in_ok-set.ensures.set in
    let ns = c.in-Ok.built.nodes.items in
    let us = c.in-Ok.built.templates.items in
    let built = c.in-Ok.ensures.are_built in
    let n = built_count ns us built in
    let many = w.shape.4 in
    let count = c.in-Ok.ensures.count in
    let ts = map written_data c.in_ok-set.set.templates.items in
    let headings = built_headings ts c.in-Ok.ensures.entries (map node_data ns) us built in
    record {
      few_templates = omega (arith, n, many);
      few_nodes = built_few_nodes ns us built w.names c.in_ok-check_chains.ensures.few_nodes;
      has_identifier = omega (arith, count);
      templates_name_nodes = built_names_nodes ns us built;
      nodes_name_later_nodes = built_names_later_nodes ns us built;
      nodes_usable = subst (λ k. AreUsable k ns) (sym count) (built_usable ts c.in-Ok.ensures.entries ns us w.sound built);
      nodes_in_preorder = built_in_preorder ns us built;
      distinct_ids = built_distinct_ids ns us built w.ids;
      names_index = λ q. c.in_ok-set.ensures.names q ∙ same_names us ts q headings;
      ids_index = λ q. c.in_ok-set.ensures.ids q ∙ same_ids us ts q headings;
    }

pub returns-clause-read : goal.returns-clause-read
returns-clause-read c =
    let w = c.in_ok-set.ensures.set in
    let ts = map written_data c.in_ok-set.set.templates.items in
    let narrow = rw (c.deref.ensures.value, c.deref-2.ensures.value) at c.in_default-check_segments.ensures.narrow in (
      w.document,
      w.reads,
      tree_read w.document ts c.in-Ok.built c.in-Ok.ensures w.names w.ids w.shape w.sound c.in_ok-check_chains.ensures.shallow
          c.in_ok-check_chains.ensures.few_nodes narrow,
    )

pub returns-in_err-set-clause-none : goal.returns-in_err-set-clause-none
returns-in_err-set-clause-none c =
    let r = err_from_is_err_and c.from_residual.result c.from_residual.ensures.1 in
    let e = c.in_err-set.field-0.0 in
    rw (r.1, r.2) (λ other document t is h. no_tree (parse_document c.args.text.now) e.code e.template c.in_err-set.ensures.fault other document t is h)

pub returns-in_err-check_chains-clause-none : goal.returns-in_err-check_chains-clause-none
returns-in_err-check_chains-clause-none c =
    let w = c.in_ok-set.ensures.set in
    let r = err_from_is_err_and c.from_residual-in_err-check_chains.result c.from_residual-in_err-check_chains.ensures.1 in
    let e = c.in_err-check_chains.field-0.0 in
    let ts = map written_data c.in_ok-set.set.templates.items in
    let fault = inr (record { document = w.document; written = ts; reads = w.reads; shape = w.shape; stands = c.in_err-check_chains.ensures.fault }) in
    rw (r.1, r.2) (λ other document t is h. no_tree (parse_document c.args.text.now) e.code e.template fault other document t is h)

pub returns-in-Err-clause-none : goal.returns-in-Err-clause-none
returns-in-Err-clause-none c other document t is h =
    let w = c.in_ok-set.ensures.set in
    let ts = map written_data c.in_ok-set.set.templates.items in
    let f = rw (c.deref.ensures.value, c.deref-2.ensures.value) at c.in-Err.ensures.wide in
    let fault = inr (record {
      document = w.document;
      written = ts;
      reads = w.reads;
      shape = w.shape;
      stands = wide_stands ts c.in-Ok.built c.in-Err.template f.0 c.in-Ok.ensures f.1 f.2;
    }) in
    no_tree (parse_document c.args.text.now) C5 (Some c.in-Err.template) fault other document t is h

pub returns-in_err-check_chains-clause-first : goal.returns-in_err-check_chains-clause-first
returns-in_err-check_chains-clause-first c =
    let w = c.in_ok-set.ensures.set in
    let ts = map written_data c.in_ok-set.set.templates.items in
    let e = c.in_err-check_chains.field-0.0 in
    let first = chains_first ts e.code e.template (record { names = w.names; ids = w.ids; sound = w.sound }) w.known c.in_err-check_chains.ensures.first in
    let r = err_from_is_err_and c.from_residual-in_err-check_chains.result c.from_residual-in_err-check_chains.ensures.1 in
    rw (r.1, r.2) (written_first (parse_document c.args.text.now) w.document ts e.code e.template w.reads w.shape c.in_err-check_chains.ensures.fault first)

pub returns-in-Err-clause-first : goal.returns-in-Err-clause-first
returns-in-Err-clause-first c =
    let w = c.in_ok-set.ensures.set in
    let ts = map written_data c.in_ok-set.set.templates.items in
    let k = c.in-Err.template in
    let f = rw (c.deref.ensures.value, c.deref-2.ensures.value) at c.in-Err.ensures.wide in
    let narrow = rw (c.deref.ensures.value, c.deref-2.ensures.value) at c.in-Err.ensures.first in
    let chains = c.in_ok-check_chains.ensures in
    let first =
    first_width ts c.in-Ok.built k (record {
      names = w.names;
      ids = w.ids;
      sound = w.sound;
    }) w.known (λ j d inside. (chains.fits j d inside, chains.shallow j d inside)) chains.few_nodes c.in-Ok.ensures narrow in
    written_first (parse_document c.args.text.now) w.document ts C5 (Some k) w.reads w.shape (wide_stands ts c.in-Ok.built k f.0 c.in-Ok.ensures f.1 f.2) first

pub returns-in_err-set-clause-read : goal.returns-in_err-set-clause-read
returns-in_err-set-clause-read c = no_ok c.from_residual.result _ _ c.from_residual.ensures.1

pub returns-in_err-set-clause-fault : goal.returns-in_err-set-clause-fault
returns-in_err-set-clause-fault c = told_err c.from_residual.result c.in_err-set.field-0.0 _ c.from_residual.ensures.1 c.in_err-set.ensures.fault

pub returns-in_err-set-clause-first : goal.returns-in_err-set-clause-first
returns-in_err-set-clause-first c = told_err c.from_residual.result c.in_err-set.field-0.0 _ c.from_residual.ensures.1 c.in_err-set.ensures.first

pub returns-in_err-check_chains-clause-read : goal.returns-in_err-check_chains-clause-read
returns-in_err-check_chains-clause-read c = no_ok c.from_residual-in_err-check_chains.result _ _ c.from_residual-in_err-check_chains.ensures.1

pub returns-in_err-check_chains-clause-fault : goal.returns-in_err-check_chains-clause-fault
returns-in_err-check_chains-clause-fault c =
    let w = c.in_ok-set.ensures.set in
    let ts = map written_data c.in_ok-set.set.templates.items in
    told_err c.from_residual-in_err-check_chains.result c.in_err-check_chains.field-0.0 _ c.from_residual-in_err-check_chains.ensures.1
    (inr (record { document = w.document; written = ts; reads = w.reads; shape = w.shape; stands = c.in_err-check_chains.ensures.fault }))

pub check_chains-requires-clause-names : goal.check_chains-requires-clause-names
check_chains-requires-clause-names c = c.in_ok-set.ensures.names

pub check_chains-requires-clause-apart : goal.check_chains-requires-clause-apart
check_chains-requires-clause-apart c = c.in_ok-set.ensures.set.names

pub check_chains-requires-clause-known : goal.check_chains-requires-clause-known
check_chains-requires-clause-known c = c.in_ok-set.ensures.set.known

pub check_chains-requires-clause-sound : goal.check_chains-requires-clause-sound
check_chains-requires-clause-sound c = c.in_ok-set.ensures.set.sound

pub check_chains-requires-clause-few : goal.check_chains-requires-clause-few
check_chains-requires-clause-few c = subst (λ n. n < 2 ^ 32) (length-map c.in_ok-set.set.templates.items written_data) c.in_ok-set.ensures.set.shape.4

pub build_set-requires : goal.build_set-requires
build_set-requires c =
    let w = c.in_ok-set.ensures.set in
    let chains = c.in_ok-check_chains.ensures in
    record {
      many = w.shape.4;
      index = c.in_ok-set.ensures.names;
      names = w.names;
      known = w.known;
      sound = w.sound;
      fits = chains.fits;
      few = chains.few_nodes;
    }

pub returns-in_default-clause-read : goal.returns-in_default-clause-read
returns-in_default-clause-read c = tt

pub returns-in_default-clause-fault : goal.returns-in_default-clause-fault
returns-in_default-clause-fault c = inl tt

pub returns-in_default-clause-first : goal.returns-in_default-clause-first
returns-in_default-clause-first c = ((λ document ts at w. tt), λ unread. tt)

pub returns-in-Err-clause-read : goal.returns-in-Err-clause-read
returns-in-Err-clause-read c = tt

pub returns-clause-fault : goal.returns-clause-fault
returns-clause-fault c = tt

pub returns-clause-first : goal.returns-clause-first
returns-clause-first c = tt

pub returns-clause-none : goal.returns-clause-none
returns-clause-none c = tt
