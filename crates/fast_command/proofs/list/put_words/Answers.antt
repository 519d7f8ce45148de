use Rattle.std.proofs.Common.{ap, sym, ◌∙◌}
use Rattle.fast_text.proofs.Writing.{writes_both, writes_same}
use Rattle.fast_tree.specs.meaning.Nodes.{instruction_of}
use Rattle.fast_command.specs.meaning.Listing.{instruction_words}
use Rattle.fast_command.proofs.list.put_words.Goals as goal

pub returns-in-Field : goal.returns-in-Field
returns-in-Field g c at first is =
    let kind = writes_same (c.as_bytes.ensures.value ∙ c.kind_text.ensures) c.put.ensures in
    let presence = writes_same (c.as_bytes-in-Field.ensures.value ∙ c.presence_text.ensures) c.put-in-Field.ensures in
    let all = writes_both (writes_both (writes_both kind presence) c.put-in-Field-2.ensures) c.put_operator.ensures in
    writes_same (ap (λ s. instruction_words (instruction_of at first is s)) (sym c.in-Field.is)) all

pub returns-in-Decimal : goal.returns-in-Decimal
returns-in-Decimal g c at first is =
    let presence = writes_same (c.as_bytes-in-Decimal.ensures.value ∙ c.presence_text-in-Decimal.ensures) c.put-in-Decimal-2.ensures in
    let exponent = writes_both (writes_both (writes_both c.put-in-Decimal.ensures presence) c.put-in-Decimal-3.ensures) c.put_operator-in-Decimal.ensures in
    let all = writes_both (writes_both exponent c.put-in-Decimal-4.ensures) c.put_operator-in-Decimal-2.ensures in
    writes_same (ap (λ s. instruction_words (instruction_of at first is s)) (sym c.in-Decimal.is)) all

pub returns-in-Group : goal.returns-in-Group
returns-in-Group g c at first is =
    let presence = writes_same (c.as_bytes-in-Group.ensures.value ∙ c.presence_text-in-Group.ensures) c.put-in-Group-2.ensures in
    writes_same (ap (λ s. instruction_words (instruction_of at first is s)) (sym c.in-Group.is)) (writes_both c.put-in-Group.ensures presence)

pub returns-in-Sequence : goal.returns-in-Sequence
returns-in-Sequence g c at first is =
    let presence = writes_same (c.as_bytes-in-Sequence.ensures.value ∙ c.presence_text-in-Sequence.ensures) c.put-in-Sequence-2.ensures in
    let all = writes_both (writes_both (writes_both c.put-in-Sequence.ensures presence) c.put-in-Sequence-3.ensures) c.put_operator-in-Sequence.ensures in
    writes_same (ap (λ s. instruction_words (instruction_of at first is s)) (sym c.in-Sequence.is)) all
