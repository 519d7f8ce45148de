use Rattle.std.proofs.Common.{◌≡◌, refl, ap, sym, subst, ◌∙◌, arith, inl, inr}
use Rattle.std.proofs.lemmas.Bool.Decides.{not_from_Decides}
use Rattle.fast_stream.specs.device.GrammarReaders.{within}
use Rattle.fast_stream.proofs.readers.Integers.{decides-within}
use Rattle.std.specs.Prelude.{ℕ, false, ℤ, pos, List, [], ◌∷◌, codes, Option, Some, None, zero, suc}
use Rattle.toml.specs.Data.{Data, string, no_members, member}
use Rattle.toml.proofs.OnLiterals.{toml_on_literals}
use Rattle.fast_value.specs.declared.kinds.Kind.TheVariants.{UInt32, Ascii}
use Rattle.fast_value.specs.meaning.Kinds.{ScalarData, Range, unsigned_range, IsWithin}
use Rattle.fast_value.specs.meaning.Initial.{digits_value, IsInteger}
use Rattle.fast_tree.specs.declared.operators.Operator.TheVariants.{Constant, Default, Copy, Increment}
use Rattle.fast_tree.specs.meaning.AsWritten.{Declared, scalar_use, DeclaredTemplate}
use Rattle.fast_notation.specs.declared.codes.StaticCode.{StaticCode}
use Rattle.fast_notation.specs.declared.codes.StaticCode.TheVariants.{S1, S2, S3, S4, S5, C1, C2}
use Rattle.fast_notation.specs.meaning.Firsts.{pass_of, ComesBefore}
use Rattle.fast_notation.specs.meaning.Refused.{StandsAt}
use Rattle.fast_notation.specs.meaning.Notation.{Writes, WritesSet}
use Rattle.fast_notation.specs.meaning.Uses.{IsInitialOf}
use Rattle.fast_examples.specs.meaning.Texts.{template_of, IsRefusedText}
use Rattle.fast_examples.proofs.Documents.{capital, table_of, scalar_of, writes_bare, writes_valued, declared, document_of, writes_set, refused_text}
use Rattle.fast_examples.proofs.texts.faulty_fields.Goals as goal

written : (field : Data) (d : Declared) → Writes field d → WritesSet (document_of (codes "A") field) (declared (codes "A") d ∷ [])
written field d w = writes_set (codes "A") field d (capital 0x41 (omega arith) (omega arith)) w

-- a text of digits is the integer of its digits, and of no other
no_integer : (range : Range) (text : List ℕ) (n : ℕ) → digits_value text ≡ n → ¬ (IsWithin range (pos n))
    → ((ds : List ℕ) → ¬ (text ≡ 0x2D ∷ ds)) → (x : ℤ) → ¬ (IsInteger range text x)
no_integer range text n v outside unsigned x (ds, numeral, inside, inl (e, i)) =
    outside (subst (IsWithin range) (i ∙ ap (λ (t : List ℕ). pos (digits_value t)) (sym e) ∙ ap pos v) inside)
no_integer range text n v outside unsigned x (ds, numeral, inside, inr (e, i)) = unsigned ds e

-- 4294967296 is no uInt32
outside : ¬ (IsWithin (unsigned_range 32) (pos 4294967296))
outside = not_from_Decides (within (unsigned_range 32) (pos 4294967296)) (decides-within (unsigned_range 32) (pos 4294967296)) refl

too_great : (x : ℤ) → ¬ (IsInteger (unsigned_range 32) (codes "4294967296") x)
too_great = no_integer (unsigned_range 32) (codes "4294967296") 4294967296 refl outside (λ ds e. absurd (cc e))

no_initial : (v : Option ScalarData) → ¬ (IsInitialOf (scalar_use (codes "x") false UInt32 (record {
  operator = Copy;
  value = Some (codes "4294967296");
  key = None;
  dictionary = None;
})) (Some (codes "4294967296")) v)
no_initial None h = h
no_initial (Some v) ((x, i, e), _) = too_great x i

-- In a set of one template no condition is met that an earlier pass looks for.
first_of_one : (t : DeclaredTemplate) (c : StaticCode) (j : ℕ) → ComesBefore (pass_of c) j 3 0 → ¬ (StandsAt (t ∷ []) c j)
first_of_one t S1 j h s = s
first_of_one t C1 zero h (i, u, v, g, e, f, n) = absurd (omega (arith, g))
first_of_one t C1 (suc j) h (i, u, v, g, e, f, n) = absurd (cc f)
first_of_one t C2 zero h (i, id, u, v, g, e, f, m, n) = absurd (omega (arith, g))
first_of_one t C2 (suc j) h (i, id, u, v, g, e, f, m, n) = absurd (cc f)
first_of_one t c j (inl h) s = absurd (omega (arith, h))
first_of_one t c j (inr h) s = absurd (omega (arith, h.1))

increment : IsRefusedText (template_of (codes "{kind='ascii', name='x', op='increment'}")) S2
unfolding toml_on_literals
increment =
    let t = declared (codes "A") (scalar_of Ascii Increment None) in
    refused_text (template_of (codes "{kind='ascii', name='x', op='increment'}"))
    (document_of (codes "A") (table_of Ascii Increment no_members)) (t ∷ []) S2 refl
    (written _ _ (writes_bare Ascii Increment (tt, tt))) (t, refl, (0, _, omega arith, refl, refl)) (first_of_one t)

initial : IsRefusedText (template_of (codes "{kind='uInt32', name='x', op='copy', value='4294967296'}")) S3
unfolding toml_on_literals
initial =
    let t = declared (codes "A") (scalar_of UInt32 Copy (Some (codes "4294967296"))) in
    refused_text (template_of (codes "{kind='uInt32', name='x', op='copy', value='4294967296'}"))
    (document_of (codes "A") (table_of UInt32 Copy (member (codes "value") (string (codes "4294967296")) no_members))) (t ∷ []) S3 refl
    (written _ _ (writes_valued UInt32 Copy (codes "4294967296") (tt, tt))) (t, refl, (0, _, omega arith, refl, no_initial)) (first_of_one t)

constant : IsRefusedText (template_of (codes "{kind='uInt32', name='x', op='constant'}")) S4
unfolding toml_on_literals
constant =
    let t = declared (codes "A") (scalar_of UInt32 Constant None) in
    refused_text (template_of (codes "{kind='uInt32', name='x', op='constant'}"))
    (document_of (codes "A") (table_of UInt32 Constant no_members)) (t ∷ []) S4 refl
    (written _ _ (writes_bare UInt32 Constant (refl, refl))) (t, refl, (0, _, omega arith, refl, (refl, refl))) (first_of_one t)

default : IsRefusedText (template_of (codes "{kind='uInt32', name='x', op='default'}")) S5
unfolding toml_on_literals
default =
    let t = declared (codes "A") (scalar_of UInt32 Default None) in
    refused_text (template_of (codes "{kind='uInt32', name='x', op='default'}")) (document_of (codes "A") (table_of UInt32 Default no_members)) (t ∷ []) S5 refl
    (written _ _ (writes_bare UInt32 Default (refl, refl))) (t, refl, (0, _, omega arith, refl, (refl, refl, refl))) (first_of_one t)

pub returns : goal.returns
returns c = (increment, initial, constant, default)
