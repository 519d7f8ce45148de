-- A template set as it is written, before references are expanded.
use Rattle.std.specs.Prelude.{◌≡◌, ◌⊎◌, ℕ, ◌≤◌, Bool, false, List, [], ◌∷◌, ◌++◌, length as list_length, All, Option, Some, None}
use Rattle.fast_value.specs.declared.kinds.Kind.{Kind}
use Rattle.fast_value.specs.declared.kinds.Kind.TheVariants.{UInt32, Int32, Int64}
use Rattle.fast_tree.specs.declared.operators.Operator.{Operator}
use Rattle.fast_tree.specs.declared.operators.Operator.TheVariants.{None as no_operator}

-- An operator with its initial value, key and dictionary, each as a string and only if it is written.
-- FAST 1.1: Template Definition, Field Operators.
pub record Written : Type 0 where
  pub operator : Operator
  pub value : Option (List ℕ)
  pub key : Option (List ℕ)
  pub dictionary : Option (List ℕ)

-- no operator
abbrev pub plain : Written
plain = record { operator = no_operator; value = None; key = None; dictionary = None }

mutual
  -- an instruction: first its name, and then, except for a reference, whether it is optional
  -- FAST 1.1: Template Definition, Field Instructions.
  pub data Declared : Type 0 where
    scalar : List ℕ → Bool → Kind → Written → Declared
    -- exponent, mantissa
    by_parts : List ℕ → Bool → Written → Written → Declared
    group : List ℕ → Bool → DeclaredList → Declared
    -- the length's name, if it has one, and its operator
    sequence : List ℕ → Bool → Option (List ℕ) → Written → DeclaredList → Declared
    reference : List ℕ → Declared

  -- the instructions of one list of fields
  pub data DeclaredList : Type 0 where
    no_more : DeclaredList
    more : Declared → DeclaredList → DeclaredList

-- a template as it is written
-- FAST 1.1: Template Definition, Templates.
pub record DeclaredTemplate : Type 0 where
  pub name : List ℕ
  pub id : Option ℕ
  pub reset : Bool
  -- for the instructions that name none
  pub dictionary : List ℕ
  pub fields : DeclaredList

-- The part that an entry belongs to, of those with one key: a scalar, or one that has no name of its own.
pub data Part : Type 0 where
  whole : Part
  exponent : Part
  mantissa : Part
  length : Part

-- A use of an operator: the type and presence of the part on which it is used, and the key and the part that it has if it names no key.
pub record Use : Type 0 where
  pub kind : Kind
  pub optional : Bool
  pub name : List ℕ
  pub part : Part
  pub written : Written

-- the use of an operator by a scalar
abbrev pub scalar_use : List ℕ → Bool → Kind → Written → Use
scalar_use name optional kind w = record { kind = kind; optional = optional; name = name; part = whole; written = w }

-- the use of an operator by an exponent
abbrev pub exponent_use : List ℕ → Bool → Written → Use
exponent_use name optional w = record { kind = Int32; optional = optional; name = name; part = exponent; written = w }

-- the use of an operator by a mantissa
abbrev pub mantissa_use : List ℕ → Written → Use
mantissa_use name w = record { kind = Int64; optional = false; name = name; part = mantissa; written = w }

-- A length with a name of its own is a scalar of that name.
abbrev pub length_use : List ℕ → Bool → Option (List ℕ) → Written → Use
length_use name optional None w = record { kind = UInt32; optional = optional; name = name; part = length; written = w }
length_use name optional (Some own) w = scalar_use own optional UInt32 w

-- all uses of operators in the order of the file, and all references
abbrev mutual
  pub uses : Declared → List Use
  uses (scalar name optional kind w) = scalar_use name optional kind w ∷ []
  uses (by_parts name optional e m) = exponent_use name optional e ∷ mantissa_use name m ∷ []
  uses (group name optional ds) = all_uses ds
  uses (sequence name optional own w ds) = length_use name optional own w ∷ all_uses ds
  uses (reference name) = []

  pub all_uses : DeclaredList → List Use
  all_uses no_more = []
  all_uses (more d ds) = uses d ++ all_uses ds

abbrev mutual
  pub references : Declared → List (List ℕ)
  references (scalar name optional kind w) = []
  references (by_parts name optional e m) = []
  references (group name optional ds) = all_references ds
  references (sequence name optional own w ds) = all_references ds
  references (reference name) = name ∷ []

  pub all_references : DeclaredList → List (List ℕ)
  all_references no_more = []
  all_references (more d ds) = references d ++ all_references ds

-- a letter, a digit, `_`, `-` or `.`
abbrev pub IsNameByte : ℕ → Type 0
IsNameByte c = (0x41 ≤ c) × (c ≤ 0x5A) ⊎ (0x61 ≤ c) × (c ≤ 0x7A) ⊎ (0x30 ≤ c) × (c ≤ 0x39) ⊎ (c ≡ 0x5F) ⊎ (c ≡ 0x2D) ⊎ (c ≡ 0x2E)

-- 1 to 64 letters, digits, underscores, hyphens and points
abbrev pub IsName : List ℕ → Type 0
IsName name = All IsNameByte name × (1 ≤ list_length name) × (list_length name ≤ 64)
