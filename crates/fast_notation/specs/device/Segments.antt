-- Templates whose segments have no more bits than a presence map.
use Rattle.std.specs.Prelude.{◌⊎◌, ℕ, ◌<◌, ◌≤◌}
use Rattle.fast_tree.specs.meaning.Tree.{Body, bits_of, TemplateData, message_bits}
use Rattle.fast_tree.specs.meaning.Sizes.{segment_limit}
use Rattle.fast_notation.specs.meaning.Checked.{AreNarrowInside}

-- the segment has at most n bits, and those inside it at most those of a presence map
abbrev pub IsNarrowSegment : ℕ → Body → Type 0
IsNarrowSegment limit body = (bits_of body ≤ limit) × AreNarrowInside body

-- no segment has more bits
abbrev pub IsNarrow : TemplateData → Type 0
IsNarrow u = (message_bits u ≤ segment_limit) × AreNarrowInside u.body

-- the message's own segment has more bits, or one inside
abbrev pub IsWide : TemplateData → Type 0
IsWide u = (segment_limit < message_bits u) ⊎ ¬ (AreNarrowInside u.body)
