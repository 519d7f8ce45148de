-- A lane without its top bit is the rest by 128.
use Rattle.std.proofs.Common.{◌∙◌, take}
use Rattle.std.proofs.lemmas.List.{length-take-le}
use Rattle.std.proofs.lemmas.Nat.{and_mask}
use Rattle.std.proofs.lemmas.Simd.{zip2_splat}
use Rattle.fast_items.proofs.ShortTexts.{same_map}
use Rattle.fast_items.proofs.ascii_items.stripped.Goals as goal

pub returns : goal.returns
returns c = zip2_splat _ (take 16 c.args.rest.now) 16 127 (length-take-le 16 c.args.rest.now c.requires)
    ∙ same_map _ _ (λ x. and_mask x 7) (take 16 c.args.rest.now)
