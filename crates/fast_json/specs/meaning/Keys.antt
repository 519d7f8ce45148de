-- The keys of a template set.
use Rattle.std.specs.Prelude.{ℕ, List}
use Rattle.fast_template.specs.declared.sets.Templates.{Templates}
use Rattle.fast_json.specs.declared.keys.Keys.{Keys}

-- the set whose keys these are
abbrev pub set_of : Keys → Templates
set_of k = k.templates.now

-- for each node, how many instructions of its segment have its name, up to its own
abbrev pub repeats_in : Keys → List ℕ
repeats_in k = k.repeats.items
