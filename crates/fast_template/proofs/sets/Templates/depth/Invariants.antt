use Rattle.std.proofs.Common.{◌≡◌, drop, max}
use Rattle.fast_template.specs.device.Saturation.{in_32_bits}
use Rattle.fast_template.proofs.Greatest.{greatest_of, depth_of}
use Rattle.fast_template.proofs.sets.Templates.depth.Given as goal

abbrev pub invariant-loop-template : goal.invariant-loop-template
invariant-loop-template l =
    max l.deepest (in_32_bits (greatest_of depth_of l.self.nodes.items (drop l.template-index l.self.templates.items))) ≡ in_32_bits
    (greatest_of depth_of l.self.nodes.items l.self.templates.items)
