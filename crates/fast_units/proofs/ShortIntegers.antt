-- Fields of integers, each a single unit.
use Rattle.std.proofs.Common.{refl, sym, ap, ◌∙◌, subst, inl, inr}
use Rattle.std.specs.Prelude.{◌≡◌, ◌≢◌, ◌⊎◌, ℕ, Bool, true, false, List, ℤ, Option, Result, Ok}
use Rattle.fast_fronts.specs.device.Fronts.{IsFirstInt}
use Rattle.fast_wire.specs.meaning.Integers.{delta_range}
use Rattle.fast_fronts.specs.declared.fronts.First.TheVariants as First
use Rattle.fast_value.specs.declared.codes.Code.{Code}
use Rattle.fast_value.specs.declared.codes.Code.TheVariants.{D2}
use Rattle.fast_value.specs.declared.kinds.Kind.{Kind}
use Rattle.fast_value.specs.meaning.Kinds.{family, integers, texts}
use Rattle.fast_value.specs.meaning.Limits.{Bounds}
use Rattle.fast_tree.specs.declared.operators.Operator.{Operator}
use Rattle.fast_tree.specs.declared.operators.Operator.TheVariants as Op
use Rattle.fast_tree.specs.meaning.Entries.{keeps_value}
use Rattle.fast_tree.specs.meaning.Tree.{FieldData}
use Rattle.fast_dict.specs.meaning.Dictionary.{Dictionary, previous_at}
use Rattle.fast_dict.specs.meaning.Operators.{decide, range_of, Outcome, Sent}
use Rattle.fast_stream.specs.meaning.Fields.{field_term, sent_integer, integer_change}
use Rattle.fast_stream.specs.meaning.Grammar.{of_result}
use Rattle.fast_stream.specs.device.GrammarReaders.{reader_of}
use Rattle.fast_units.specs.device.Settling.{IsLastUnit}
use Rattle.fast_units.specs.device.Deciding.{IsDecided}
use Rattle.fast_units.specs.declared.source.ValueSource.{ValueSource}
use Rattle.fast_units.specs.declared.progress.Progress.TheVariants.{Whole}
use Rattle.fast_units.proofs.LastUnits.{integer_here, integer_delta_field, last_unit}
use Rattle.fast_units.proofs.NextUnits.{first_whole}

-- A field of integers is none of texts.
pub no_texts : (f : FieldData) → family f.kind ≡ integers (range_of f.kind) → family f.kind ≢ texts
no_texts f e i = absurd (cc (e, i))

-- An integer, or NULL, that is whole in the piece is the last unit of its field.
pub item_unit : (k : Kind) (b strict : Bool) (l : Bounds) (f : FieldData) (rest : List ℕ) (old new : Dictionary) (scratch : List ℕ)
    (x : Option ℤ) (n : ℕ) (sent : Sent) (source : ValueSource)
    → k ≡ f.kind → b ≡ f.optional → family f.kind ≡ integers (range_of f.kind) → f.operator ≢ Op.Delta → f.operator ≢ Op.Constant
    → IsFirstInt (λ y. y) strict (range_of k) b (First.Whole x n) rest → sent ≡ sent_integer k x
    → IsDecided (decide f (previous_at f.entry old) true sent) f old new (Ok source)
    → IsLastUnit (reader_of strict (field_term l f (previous_at f.entry old) true)) f rest old new scratch (Whole source n)
item_unit k b strict l f rest old new scratch x n sent source ke be is no_delta no_constant given as_kind decided =
    let p = previous_at f.entry old in
    let first : IsFirstInt (λ y. y) strict (range_of f.kind) f.optional (First.Whole x n) rest =
    subst (λ (q : Kind). IsFirstInt (λ y. y) strict (range_of q) f.optional (First.Whole x n) rest) ke
    (subst (λ (q : Bool). IsFirstInt (λ y. y) strict (range_of k) q (First.Whole x n) rest) be given) in
    let same : sent ≡ sent_integer f.kind x = as_kind ∙ ap (λ q. sent_integer q x) ke in
    last_unit (integer_here strict l f p (range_of f.kind) refl is no_delta no_constant)
    f rest old new scratch x n (decide f p true sent) (Ok source)
    (ap (λ v. of_result (decide f p true v)) (sym same)) decided
    (first_whole (λ y. y) strict (range_of f.kind) f.optional D2 rest x n first)

-- So is a delta, or NULL.
pub delta_unit : (b strict : Bool) (l : Bounds) (f : FieldData) (rest : List ℕ) (old new : Dictionary) (scratch : List ℕ) (x : Option ℤ)
    (n : ℕ) (d : Result Outcome Code) (source : ValueSource)
    → b ≡ f.optional → family f.kind ≡ integers (range_of f.kind) → f.operator ≡ Op.Delta
    → IsFirstInt (λ y. y) strict delta_range b (First.Whole x n) rest → integer_change f (previous_at f.entry old) x ≡ of_result d
    → IsDecided d f old new (Ok source)
    → IsLastUnit (reader_of strict (field_term l f (previous_at f.entry old) true)) f rest old new scratch (Whole source n)
delta_unit b strict l f rest old new scratch x n d source be is delta given same decided =
    let p = previous_at f.entry old in
    let first : IsFirstInt (λ y. y) strict delta_range f.optional (First.Whole x n) rest =
    subst (λ (q : Bool). IsFirstInt (λ y. y) strict delta_range q (First.Whole x n) rest) be given in
    last_unit (integer_delta_field strict l f p (range_of f.kind) is delta)
    f rest old new scratch x n d (Ok source) same decided
    (first_whole (λ y. y) strict delta_range f.optional D2 rest x n first)

-- A field without an operator, or under default, keeps no value.
pub keeps_none : (o o' : Operator) → o ≡ o' → (o ≡ Op.None) ⊎ (o ≡ Op.Default) → keeps_value o' ≡ false
keeps_none o o' same (inl e) = ap keeps_value (sym same ∙ e)
keeps_none o o' same (inr e) = ap keeps_value (sym same ∙ e)
