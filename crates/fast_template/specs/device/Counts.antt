-- The events of a part of a message, counted in numbers of 64 bits that stop at the greatest.
use Rattle.std.specs.Prelude.{◌≡◌, ℕ}
use Rattle.fast_template.specs.declared.caps.Counts.{Counts}
use Rattle.fast_template.specs.device.Saturation.{in_64_bits}
use Rattle.fast_value.specs.declared.settings.Limits.{Limits}
use Rattle.fast_tree.specs.meaning.Tree.{Instruction, Body}
use Rattle.fast_tree.specs.meaning.Sizes.{event_weights, size, body_size, outer, body_outer, widest, body_widest}

-- The counts are these numbers: with the most elements, without elements, and the greatest element.
pub record AreCounts (c : Counts) (a o w : ℕ) : Type 0 where
  pub all : c.all ≡ in_64_bits a
  pub outer : c.outer ≡ in_64_bits o
  pub widest : c.widest ≡ in_64_bits w

-- the counts of an instruction, and of a body
abbrev pub AreCountsOf : Counts → Limits → Instruction → Type 0
AreCountsOf c l i = AreCounts c (size event_weights l i) (outer event_weights i) (widest event_weights i)

-- the counts of a body
abbrev pub AreCountsOfBody : Counts → Limits → Body → Type 0
AreCountsOfBody c l body = AreCounts c (body_size event_weights l body) (body_outer event_weights body) (body_widest event_weights body)
