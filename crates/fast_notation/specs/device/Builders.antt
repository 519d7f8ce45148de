-- The input of a builder, its position, and the nodes that it builds.
use Rattle.std.specs.Prelude.{ℕ, List, Vec}
use Rattle.std.specs.Global.{Global}
use Rattle.std.specs.HashMap.{get_by_text}
use Rattle.fast_tree.specs.declared.instructions.Node.{Node}
use Rattle.fast_tree.specs.meaning.AsWritten.{DeclaredList, DeclaredTemplate}
use Rattle.fast_tree.specs.meaning.Entries.{Entry}
use Rattle.fast_notation.specs.declared.building.Builder.{Builder}
use Rattle.fast_notation.specs.declared.building.BuildContext.{BuildContext}
use Rattle.fast_notation.specs.device.Built.{data_of, IsIndexed, CanBuild, IsBuilt}
use Rattle.fast_notation.specs.device.EntryKeys.{scope_data, entries_of}
use Rattle.fast_notation.specs.device.WrittenSets.{templates_data}

-- the templates of the set
abbrev pub templates_in : Builder → List DeclaredTemplate
templates_in b = templates_data b.set.now.templates.items

-- its entries
abbrev pub entries_in : Builder → List Entry
entries_in b = entries_of b.entries.now

-- The builder has the index, the templates and the entries of one set.
abbrev pub IsBuilder : Builder → Type 0
IsBuilder b = IsIndexed (get_by_text b.set.now.names) (templates_in b) (entries_in b)

-- The instructions can be built there, after n nodes.
abbrev pub CanBuildAt : Builder → BuildContext → DeclaredList → ℕ → Type 0
CanBuildAt b at ds n = CanBuild (templates_in b) (entries_in b) at.chain (scope_data at.scope) ds n

-- The instructions of the context are built after the old nodes, with their numbers after those that were there.
abbrev pub IsBuiltAt : Builder → BuildContext → DeclaredList → Vec Node Global → Vec Node Global → List ℕ → List ℕ → Type 0
IsBuiltAt b at ds old new before after =
    IsBuilt (templates_in b) (entries_in b) at.chain (scope_data at.scope) ds (data_of old) (data_of new) before after
