-- The names around a node.
use Rattle.std.specs.Prelude.{ℕ, List, [], ◌++◌, codes}
use Rattle.fast_command.specs.declared.list.Path.{Path, Top, Within'}

-- the names joined by points, with one behind the last
abbrev pub path_text : Path → List ℕ
path_text Top = []
path_text (Within' p outer name) = path_text outer ++ name.now ++ codes "."
