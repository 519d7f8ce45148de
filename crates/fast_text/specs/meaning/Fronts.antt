-- The set whose fronts are made.
use Rattle.std.specs.Borrow.{Bor}
use Rattle.fast_template.specs.declared.sets.Templates.{Templates}
use Rattle.fast_text.specs.declared.fronts.Fronts.{Fronts}

-- the set whose fronts these are
abbrev pub set_of : Fronts → Bor Templates
set_of f = f.templates
