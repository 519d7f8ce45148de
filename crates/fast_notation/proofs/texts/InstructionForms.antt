-- What each form of an instruction holds.
use Rattle.std.proofs.Common.{◌≡◌, Bool, Option, String, Vec, Global, string_bytes, rules}
use Rattle.std.specs.Prelude.{option_map, OnOk, Result, Ok, Err}
use Rattle.fast_value.specs.declared.kinds.Kind.{Kind}
use Rattle.fast_notation.specs.declared.written.WrittenOperator.{WrittenOperator}
use Rattle.fast_notation.specs.declared.written.WrittenInstruction.{WrittenInstruction, the_lemmas}
use Rattle.fast_notation.specs.declared.written.WrittenInstruction.TheVariants as V
use Rattle.fast_tree.specs.meaning.AsWritten.{scalar, by_parts, group, sequence, reference}
use Rattle.fast_notation.specs.device.WrittenSets.{operator_data, instruction_data, fields_data}

pub scalar_form : (name : String Global) (optional : Bool) (kind : Kind) (w : WrittenOperator)
    → instruction_data (V.Scalar name optional kind w) ≡ scalar (string_bytes name) optional kind (operator_data w)
scalar_form name optional kind w = search (rules, the_lemmas)

pub parts_form : (name : String Global) (optional : Bool) (e m : WrittenOperator)
    → instruction_data (V.Parts name optional e m) ≡ by_parts (string_bytes name) optional (operator_data e) (operator_data m)
parts_form name optional e m = search (rules, the_lemmas)

pub group_form : (name : String Global) (optional : Bool) (fs : Vec WrittenInstruction Global)
    → instruction_data (V.Group name optional fs) ≡ group (string_bytes name) optional (fields_data fs.items)
group_form name optional fs = search (rules, the_lemmas)

pub sequence_form : (name : String Global) (optional : Bool) (own : Option (String Global)) (w : WrittenOperator) (fs : Vec WrittenInstruction Global)
    → instruction_data (V.Sequence name optional own w fs) ≡ sequence (string_bytes name) optional (option_map string_bytes own)
    (operator_data w) (fields_data fs.items)
sequence_form name optional own w fs = search (rules, the_lemmas)

pub reference_form : (name : String Global) → instruction_data (V.Reference name) ≡ reference (string_bytes name)
reference_form name = search (rules, the_lemmas)

-- what follows from two facts of one success
pub from_both : {T E P Q R : Type 0} (r : Result T E) → (P → Q → R) → OnOk r P → OnOk r Q → OnOk r R
from_both (Ok x) f p q = f p q
from_both (Err e) f p q = tt
