-- Two texts are one together.
use Rattle.fast_items.proofs.JoinedTexts.{both_texts}
use Rattle.fast_items.proofs.joined_parts.are_texts_of.Goals as goal

pub returns-then-is_text_of : goal.returns-then-is_text_of
returns-then-is_text_of c e = both_texts c.args.kind c.args.kept.now c.args.part.now (c.is_text_of.ensures c.if-is_text_of.true)
    (c.is_text_of-then-is_text_of.ensures e)
