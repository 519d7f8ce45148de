-- What the brackets of a message say.
use Rattle.std.specs.Prelude.{drop}
use Rattle.fast_json.specs.declared.brackets.Brackets.{Brackets}
use Rattle.fast_json.specs.meaning.Json.{Nesting}

-- what is open
abbrev pub nesting_of : Brackets → Nesting
nesting_of b = record { is_first = b.is_first; brackets = drop b.start b.cells }
