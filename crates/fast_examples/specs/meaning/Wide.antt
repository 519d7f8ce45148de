-- A message of many fields, as a statement.
use Rattle.std.specs.Prelude.{ℕ, zero, suc, true, [], ◌∷◌, ◌++◌, codes, decimal, replicate}
use Rattle.fast_value.specs.declared.kinds.Kind.TheVariants.{UInt32}
use Rattle.fast_value.specs.meaning.Kinds.{U}
use Rattle.fast_value.specs.meaning.Messages.{Slots, absent}
use Rattle.fast_tree.specs.declared.operators.Operator.TheVariants.{Copy}
use Rattle.fast_tree.specs.meaning.Tree.{field, Body, end, step, Tree}
use Rattle.fast_dict.specs.meaning.Dictionary.{fresh, empty, assigned}
use Rattle.fast_spelling.specs.meaning.Encoding.{EncodesMessage}
use Rattle.fast_examples.specs.meaning.Vectors.{lenient, at, with_entry, template}
use Rattle.fast_examples.specs.meaning.Asked.{message, only}

-- so many optional uInt32 under copy, with numbers from n on; the entry of each is one more than its number
abbrev pub copies : ℕ → ℕ → Body
copies n zero = end
copies n (suc more) = step (field (at n (codes "f" ++ decimal n)) (with_entry UInt32 true Copy (suc n))) (copies (suc n) more)

-- 300 of them
abbrev pub wide : Tree
wide = record { templates = template (codes "Wide") 1 (copies 0 300) ∷ []; entries = 301 }

-- so many absent fields, and then others
abbrev pub all_absent : ℕ → Slots → Slots
all_absent zero vs = vs
all_absent (suc n) vs = absent (all_absent n vs)

-- The last of 300 fields is there: its bit is the last of 43 bytes.
abbrev pub WideEncoded : Type 0
WideEncoded =
    EncodesMessage wide lenient (fresh 301) (message 0 (all_absent 299 (only (U 5))))
    (0x40 ∷ replicate 41 0x00 ++ 0x81 ∷ 0x81 ∷ 0x86 ∷ [])
    (assigned UInt32 (U 1) ∷ replicate 299 empty ++ assigned UInt32 (U 5) ∷ [])
