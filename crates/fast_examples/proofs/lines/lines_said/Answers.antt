use Rattle.std.proofs.Common.{◌≡◌, refl, arith}
use Rattle.std.proofs.lemmas.List.Elements.{All-cons, All-nil}
use Rattle.std.specs.Fmt.{digits}
use Rattle.std.specs.Prelude.{ℤ, true, false, [], codes, pos}
use Rattle.fast_value.specs.meaning.Kinds.{U, signed_range}
use Rattle.fast_stream.specs.device.GrammarReaders.{within}
use Rattle.fast_stream.specs.meaning.Events.{item_events, body_events}
use Rattle.fast_spelling.specs.meaning.Suiting.{SuitsBody, SuitsTemplate}
use Rattle.fast_tree.specs.meaning.Tree.{Body, field, step}
use Rattle.fast_value.specs.declared.kinds.Kind.TheVariants.{Int32, Ascii}
use Rattle.fast_tree.specs.declared.operators.Operator.TheVariants.{Copy, Delta}
use Rattle.fast_examples.specs.meaning.Vectors.{vectors, at, one_field, with_entry, t1, t15}
use Rattle.fast_examples.specs.meaning.Asked.{message, only}
use Rattle.fast_examples.specs.meaning.Encodings.{leg, nested}
use Rattle.fast_examples.proofs.Computed.{at_most}
use Rattle.fast_examples.proofs.Encoded.{fits}
use Rattle.fast_examples.proofs.lines.lines_said.Goals as goal

-- an element's body
abbrev leg_body : Body
leg_body = step (field (at 19 (codes "sym")) (with_entry Ascii false Copy 9)) (one_field 20 (codes "px") (with_entry Int32 false Delta 10))

leg_suits : (x : ℤ) → within (signed_range 31) x ≡ true → SuitsBody leg_body (leg x)
leg_suits x h = ((2, (omega arith, at_most 127 (codes "AB") refl)), ((0, fits (signed_range 31) x h), tt))

nested_suits : SuitsTemplate vectors nested
nested_suits = (t15, refl, ((0, omega arith), (((2, omega arith), tt), (((leg_suits (pos 100) refl, (leg_suits (pos 98) refl, tt)), omega arith), tt))))

one_suits : SuitsTemplate vectors (message 0 (only (U 942755)))
one_suits = (t1, refl, ((0, omega arith), tt))

pub returns : goal.returns
unfolding digits item_events body_events
returns c = (
  record { suit = All-cons (SuitsTemplate vectors) nested [] nested_suits (All-nil (SuitsTemplate vectors)); same = refl },
  record { suit = All-cons (SuitsTemplate vectors) (message 0 (only (U 942755))) [] one_suits (All-nil (SuitsTemplate vectors)); same = refl },
)
