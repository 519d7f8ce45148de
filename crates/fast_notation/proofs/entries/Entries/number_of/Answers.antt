use Rattle.std.proofs.Common.{sym, arith}
use Rattle.std.proofs.lemmas.Option.{slice_get_within}
use Rattle.fast_notation.specs.device.EntryKeys.{scope_data, use_data, key_data, entries_of}
use Rattle.fast_notation.proofs.lists.EntryLists.{is_there}
use Rattle.fast_notation.proofs.entries.Entries.number_of.Goals as goal

pub returns : goal.returns
returns c = (c.in-Some.place, key_data c.in_ok-key.key, sym c.if-not-keeps_value.ensures, c.in_ok-key.ensures, c.in-Some.ensures.found, omega arith)

pub unreachable-requires : goal.unreachable-requires
unreachable-requires c =
    c.in-None.ensures.none
    (is_there (entries_of c.args.self.now) (scope_data c.args.scope) (use_data c.args.used) (key_data c.in_ok-key.key)
    (sym c.if-not-keeps_value.ensures) c.in_ok-key.ensures c.requires.there)

pub returns-then-not-keeps_value : goal.returns-then-not-keeps_value
returns-then-not-keeps_value c = sym c.if-not-keeps_value.ensures

pub overflow_cast-result : goal.overflow_cast-result
overflow_cast-result c =
    let inside = slice_get_within (entries_of c.args.self.now) c.in-Some.place (key_data c.in_ok-key.key) c.in-Some.ensures.found in
    let few = c.requires.few in
    omega (arith, inside, few)

pub overflow_add-result : goal.overflow_add-result
overflow_add-result c =
    let inside = slice_get_within (entries_of c.args.self.now) c.in-Some.place (key_data c.in_ok-key.key) c.in-Some.ensures.found in
    let few = c.requires.few in
    omega (arith, inside, few)
