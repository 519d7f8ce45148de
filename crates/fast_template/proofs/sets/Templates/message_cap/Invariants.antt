use Rattle.std.proofs.Common.{◌≡◌, drop, max}
use Rattle.fast_template.specs.device.Saturation.{in_64_bits}
use Rattle.fast_template.proofs.Greatest.{greatest_of, product_of, sum_of}
use Rattle.fast_template.proofs.sets.Templates.message_cap.Given as goal

abbrev pub invariant-loop-template : goal.invariant-loop-template
invariant-loop-template l =
    let ns = l.self.nodes.items in
    let ts = l.self.templates.items in
    record {
      by_sequence : max l.by_sequence (in_64_bits (greatest_of (product_of l.limits) ns (drop l.template-index ts))) ≡ in_64_bits
          (greatest_of (product_of l.limits) ns ts);
      by_message : max l.by_message (in_64_bits (greatest_of (sum_of l.limits) ns (drop l.template-index ts))) ≡ in_64_bits
          (greatest_of (sum_of l.limits) ns ts);
    }
