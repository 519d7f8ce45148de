-- The built-in template set as a tree, two more sets, and the limits of the examples.
use Rattle.std.specs.Prelude.{ℕ, Bool, true, false, List, [], ◌∷◌, codes, Some, None}
use Rattle.fast_value.specs.declared.kinds.Kind.{Kind}
use Rattle.fast_value.specs.declared.kinds.Kind.TheVariants.{UInt32, Int32, Int64, Decimal, Ascii, Unicode, Bytes}
use Rattle.fast_value.specs.meaning.Kinds.{U}
use Rattle.fast_value.specs.declared.settings.Limits.{Limits}
use Rattle.fast_tree.specs.declared.operators.Operator.{Operator}
use Rattle.fast_tree.specs.declared.operators.Operator.TheVariants.{None as no_operator, Constant, Copy, Increment, Delta, Tail}
use Rattle.fast_tree.specs.meaning.Tree.{FieldData, Label, field, parts, group, sequence, Body, end, step, TemplateData, Tree}

-- lenient mode, texts of at most 1024 bytes, at most 1000 elements
abbrev pub lenient : Limits
lenient = record { strict = false; max_text = 1024; max_elements = 1000; max_total = 1000 }

-- the same limits in strict mode
abbrev pub strict : Limits
strict = record lenient { strict = true }

-- the same limits with texts of at most 16 bytes
abbrev pub short_texts : Limits
short_texts = record lenient { max_text = 16 }

-- the same limits with at most five elements in a message
abbrev pub five_elements : Limits
five_elements = record lenient { max_total = 5 }

-- the same limits with no limit on elements but that of a count's type
abbrev pub widest_counts : Limits
widest_counts = record lenient { max_elements = 4294967295; max_total = 4294967295 }

-- a node's number and name
abbrev pub at : ℕ → List ℕ → Label
at n name = record { node = n; name = name }

-- a field without operator
abbrev pub plain : Kind → Bool → FieldData
plain kind optional = record { kind = kind; optional = optional; operator = no_operator; initial = None; entry = None }

-- a field with an operator and an entry
abbrev pub with_entry : Kind → Bool → Operator → ℕ → FieldData
with_entry kind optional o n = record { kind = kind; optional = optional; operator = o; initial = None; entry = Some n }

-- a constant of 7
abbrev pub constant_7 : FieldData
constant_7 = record { kind = UInt32; optional = false; operator = Constant; initial = Some (U 7); entry = None }

-- a template that does not reset
abbrev pub template : List ℕ → ℕ → Body → TemplateData
template name id body = record { name = name; id = Some id; reset = false; body = body }

-- a body of one field
abbrev pub one_field : ℕ → List ℕ → FieldData → Body
one_field n name f = step (field (at n name) f) end

-- a uInt32
abbrev pub t1 : TemplateData
t1 = template (codes "T1") 1 (one_field 0 (codes "x") (plain UInt32 false))

-- a sequence of elements that hold the constant 7
abbrev pub t2 : TemplateData
t2 = template (codes "T2") 2 (step (sequence (at 1 (codes "s")) (plain UInt32 false) (one_field 2 (codes "c") constant_7)) end)

-- an ASCII text under tail
abbrev pub t3 : TemplateData
t3 = template (codes "T3") 3 (one_field 3 (codes "t") (with_entry Ascii false Tail 1))

-- an ASCII text under delta
abbrev pub t4 : TemplateData
t4 = template (codes "T4") 4 (one_field 4 (codes "d") (with_entry Ascii false Delta 2))

-- a uInt32 under increment
abbrev pub t5 : TemplateData
t5 = template (codes "T5") 5 (one_field 5 (codes "n") (with_entry UInt32 false Increment 3))

-- an optional uInt32 under copy
abbrev pub t6 : TemplateData
t6 = template (codes "T6") 6 (one_field 6 (codes "x") (with_entry UInt32 true Copy 4))

-- an optional decimal by parts and a uInt32, each under copy
abbrev pub t7 : TemplateData
t7 = template (codes "T7") 7 (step (parts (at 7 (codes "p")) (with_entry Int32 true Copy 5) (with_entry Int64 false Copy 6))
    (one_field 8 (codes "y") (with_entry UInt32 false Copy 7)))

-- a Unicode text
abbrev pub t8 : TemplateData
t8 = template (codes "T8") 8 (one_field 9 (codes "u") (plain Unicode false))

-- no field, and it resets
abbrev pub t9 : TemplateData
t9 = record { name = codes "T9"; id = Some 9; reset = true; body = end }

-- a uInt32 under copy
abbrev pub t10 : TemplateData
t10 = template (codes "T10") 10 (one_field 10 (codes "z") (with_entry UInt32 false Copy 8))

-- an ASCII text under copy, with the entry of T6's field
abbrev pub t11 : TemplateData
t11 = template (codes "T11") 11 (one_field 11 (codes "w") (with_entry Ascii false Copy 4))

-- an int64
abbrev pub t12 : TemplateData
t12 = template (codes "T12") 12 (one_field 12 (codes "i") (plain Int64 false))

-- an optional uInt32
abbrev pub t13 : TemplateData
t13 = template (codes "T13") 13 (one_field 13 (codes "o") (plain UInt32 true))

-- an optional int64
abbrev pub t14 : TemplateData
t14 = template (codes "T14") 14 (one_field 14 (codes "q") (plain Int64 true))

-- the uInt32 of T1 by reference, an optional group and an optional sequence
abbrev pub t15 : TemplateData
t15 = template (codes "T15") 15
    (step (field (at 15 (codes "x")) (plain UInt32 false))
    (step (group (at 16 (codes "g")) true (one_field 17 (codes "b") (plain Bytes false)))
    (step (sequence (at 18 (codes "legs")) (plain UInt32 true)
    (step (field (at 19 (codes "sym")) (with_entry Ascii false Copy 9)) (one_field 20 (codes "px") (with_entry Int32 false Delta 10)))) end)))

-- an optional int32 under delta
abbrev pub t16 : TemplateData
t16 = template (codes "T16") 16 (one_field 21 (codes "v") (with_entry Int32 true Delta 11))

-- a Unicode text under delta
abbrev pub t17 : TemplateData
t17 = template (codes "T17") 17 (one_field 22 (codes "e") (with_entry Unicode false Delta 12))

-- a decimal, and an optional one
abbrev pub t18 : TemplateData
t18 = template (codes "T18") 18 (step (field (at 23 (codes "a")) (plain Decimal false)) (one_field 24 (codes "b") (plain Decimal true)))

-- an optional ASCII text
abbrev pub t19 : TemplateData
t19 = template (codes "T19") 19 (one_field 25 (codes "r") (plain Ascii true))

-- the whole set
abbrev pub vectors : Tree
vectors = record { templates = t1 ∷ t2 ∷ t3 ∷ t4 ∷ t5 ∷ t6 ∷ t7 ∷ t8 ∷ t9 ∷ t10 ∷ t11 ∷ t12 ∷ t13 ∷ t14 ∷ t15 ∷ t16 ∷ t17 ∷ t18 ∷ t19 ∷ []; entries = 13 }

-- the second template alone
abbrev pub only_t2 : Tree
only_t2 = record { templates = t2 ∷ []; entries = 1 }

-- a sequence of sequences of a constant
abbrev pub nested_sequences : Tree
nested_sequences = record {
  templates = template (codes "N") 1 (step (sequence (at 0 (codes "a")) (plain UInt32 false)
      (step (sequence (at 1 (codes "b")) (plain UInt32 false) (one_field 2 (codes "c") constant_7)) end)) end) ∷ [];
  entries = 1;
}
