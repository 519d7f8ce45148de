-- The program of a set.
use Rattle.std.specs.Prelude.{List}
use Rattle.fast_program.specs.declared.ops.Op.{Op}
use Rattle.fast_template.specs.declared.sets.Templates.{Templates}

-- the runs of all its bodies
abbrev pub program_of : Templates → List Op
program_of t = t.program.ops.items
