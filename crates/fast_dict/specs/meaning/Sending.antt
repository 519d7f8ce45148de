-- The data of the Rust type of the content sent.
use Rattle.std.specs.Prelude.{ℕ, List, Bool, true}
use Rattle.fast_value.specs.declared.kinds.Kind.{Kind}
use Rattle.fast_value.specs.meaning.Kinds.{value_of_text}
use Rattle.fast_value.specs.meaning.Values.{scalar_data}
use Rattle.fast_tree.specs.declared.operators.Operator.{Operator}
use Rattle.fast_tree.specs.declared.operators.Operator.TheVariants.{Delta, Tail}
use Rattle.fast_dict.specs.meaning.Operators.{Sent, nothing, null, value, integer_delta, decimal_delta, text_delta}
use Rattle.fast_dict.specs.declared.operators.table.Sent.{Sent as LentSent}
use Rattle.fast_dict.specs.declared.operators.table.Sent.TheVariants.{Nothing, Null, Value, IntegerDelta, DecimalDelta, TextDelta}

-- the content of the stream, as in the table of the operators
abbrev pub sent_data : LentSent → Sent
sent_data Nothing = nothing
sent_data Null = null
sent_data (Value v) = value (scalar_data v)
sent_data (IntegerDelta k) = integer_delta k
sent_data (DecimalDelta k j) = decimal_delta k j
sent_data (TextDelta k part) = text_delta k part.now

-- No string has to be joined from the bytes kept of the base and the part that is sent.
abbrev pub NeedsNoJoin : Operator → Bool → Sent → Type 0
NeedsNoJoin Delta bit (text_delta k part) = ⊥
NeedsNoJoin Tail true (value v) = ⊥
NeedsNoJoin operator bit item = Unit {0}

-- a string of a type as the value that is sent
abbrev pub text_item : Kind → List ℕ → Sent
text_item kind v = value (value_of_text kind v)
