-- Which instructions are optional.
use Rattle.std.specs.Prelude.{Bool}
use Rattle.fast_tree.specs.declared.instructions.Shape.{Shape}
use Rattle.fast_tree.specs.declared.instructions.Shape.TheVariants.{Field, Decimal, Group, Sequence}

-- A decimal by parts is optional if its exponent is, and a sequence if its length is.
abbrev pub may_be_absent : Shape → Bool
may_be_absent (Field f) = f.optional
may_be_absent (Decimal e m) = e.optional
may_be_absent (Group optional body) = optional
may_be_absent (Sequence length body) = length.optional
