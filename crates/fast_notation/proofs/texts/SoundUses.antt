-- Uses of operators: what the checks show of one, and of all uses of instructions.
use Rattle.std.proofs.Common.{◌≡◌, ℕ, ◌+◌, ◌<◌, ◌≤◌, List, [], ◌∷◌, ◌++◌, length, map, take, get_or, refl, ap, sym, ◌∙◌, subst, arith, suc}
use Rattle.std.proofs.Common.{zero, Option, Some, None, Bool, true, string_bytes, length-append, append_assoc, append-nil, rules, String}
use Rattle.std.proofs.Common.{Vec, Global}
use Rattle.fast_notation.specs.declared.written.WrittenInstruction.{the_lemmas}
use Rattle.fast_notation.specs.declared.written.WrittenInstruction.TheVariants as V
use Rattle.std.specs.Prelude.{Any, All, option_map}
use Rattle.std.proofs.lemmas.Bool.{false≢true}
use Rattle.std.proofs.lemmas.List.{map-append, take_more, take_all, get_or_append_left, get_or-append-add}
use Rattle.std.proofs.lemmas.List.Elements.{All-append, All-cons}
use Rattle.fast_value.specs.declared.kinds.Kind.{Kind}
use Rattle.fast_value.specs.declared.kinds.Kind.TheVariants.{UInt32}
use Rattle.fast_notation.specs.declared.uses.OperatorPart.TheVariants.{Whole}
use Rattle.fast_value.specs.meaning.Kinds.{ScalarData, family}
use Rattle.fast_notation.specs.declared.codes.StaticCode.{StaticCode}
use Rattle.fast_notation.specs.declared.codes.StaticCode.TheVariants.{S1, S2, S3, S4, S5, D8, C1, C2, C3, C4, C5, C6, Memory}
use Rattle.fast_notation.specs.declared.uses.OperatorPart.{OperatorPart}
use Rattle.fast_notation.specs.declared.written.WrittenOperator.{WrittenOperator}
use Rattle.fast_notation.specs.declared.written.WrittenInstruction.{WrittenInstruction}
use Rattle.fast_tree.specs.meaning.AsWritten.{scalar, by_parts, group, sequence, scalar_use, exponent_use, mantissa_use, Declared, Written}
use Rattle.fast_tree.specs.meaning.AsWritten.{Use, uses, all_uses, length_use}
use Rattle.fast_notation.specs.meaning.Uses.{suits, IsInitialOf, IsS2, IsS3, IsS4, IsS5}
use Rattle.fast_notation.specs.device.WrittenSets.{operator_data, list_of, instruction_data, fields_data}
use Rattle.fast_notation.specs.device.Sound.{bare_use, IsInitialAt, IsSound, IsUnsound, HasFault, uses_in}

-- a use whose initial value means something
pub sound_with : (part : OperatorPart) (kind : Kind) (optional : Bool) (w : Written) (text : List ℕ) (v : ScalarData)
    → suits w.operator (family kind) ≡ true → w.value ≡ Some text
    → IsInitialAt part kind text v → IsSound (bare_use part kind optional w)
sound_with part kind optional w text v suited some initial = record {
  suited = λ h. false≢true (sym h ∙ suited);
  constant = λ h. no_none (sym some ∙ h.1);
  default = λ h. no_none (sym some ∙ h.2);
  initial = (Some v, meant w.value some);
}
  where
    no_none : Some text ≡ None → ⊥
    no_none e = cc

    meant : (o : Option (List ℕ)) → o ≡ Some text → IsInitialOf (bare_use part kind optional w) o (Some v)
    meant None e = absurd (cc)
    meant (Some t) e = subst (λ s. IsInitialAt part kind s v) (let same : text ≡ t = cc in same) initial

-- a length's use is at fault as one without a name is
pub unsound_length : (code : StaticCode) (own : List ℕ) (optional : Bool) (w : Written) → IsUnsound code (bare_use Whole UInt32 optional w)
    → IsUnsound code (length_use [] optional (Some own) w)
unsound_length S2 own optional w h = h
unsound_length S3 own optional w h = h
unsound_length S4 own optional w h = h
unsound_length S5 own optional w h = h
unsound_length Memory own optional w h = h
unsound_length S1 own optional w h = h
unsound_length D8 own optional w h = h
unsound_length C1 own optional w h = h
unsound_length C2 own optional w h = h
unsound_length C3 own optional w h = h
unsound_length C4 own optional w h = h
unsound_length C5 own optional w h = h
unsound_length C6 own optional w h = h

-- ---- all uses

-- something holds of an element of the front, or of the back
any_left : {A : Type 0} (P : A → Type 0) (xs ys : List A) → Any P xs → Any P (xs ++ ys)
any_left P xs ys (k, x, inside, at, h) =
    let l = length-append xs ys in
    (k, x, omega (arith, inside, l), get_or_append_left xs ys x k inside ∙ at, h)

any_right : {A : Type 0} (P : A → Type 0) (xs ys : List A) → Any P ys → Any P (xs ++ ys)
any_right P xs ys (k, x, inside, at, h) =
    let l = length-append xs ys in
    (length xs + k, x, omega (arith, inside, l), get_or-append-add xs ys k x ∙ at, h)

pub fault_left : (code : StaticCode) (us vs : List Use) → HasFault code us → HasFault code (us ++ vs)
fault_left S2 us vs h = any_left IsS2 us vs h
fault_left S3 us vs h = any_left IsS3 us vs h
fault_left S4 us vs h = any_left IsS4 us vs h
fault_left S5 us vs h = any_left IsS5 us vs h
fault_left Memory us vs h = h
fault_left S1 us vs h = h
fault_left D8 us vs h = h
fault_left C1 us vs h = h
fault_left C2 us vs h = h
fault_left C3 us vs h = h
fault_left C4 us vs h = h
fault_left C5 us vs h = h
fault_left C6 us vs h = h

pub fault_right : (code : StaticCode) (us vs : List Use) → HasFault code vs → HasFault code (us ++ vs)
fault_right S2 us vs h = any_right IsS2 us vs h
fault_right S3 us vs h = any_right IsS3 us vs h
fault_right S4 us vs h = any_right IsS4 us vs h
fault_right S5 us vs h = any_right IsS5 us vs h
fault_right Memory us vs h = h
fault_right S1 us vs h = h
fault_right D8 us vs h = h
fault_right C1 us vs h = h
fault_right C2 us vs h = h
fault_right C3 us vs h = h
fault_right C4 us vs h = h
fault_right C5 us vs h = h
fault_right C6 us vs h = h

-- the one use at fault
pub fault_here : (code : StaticCode) (u v : Use) → u ≡ v → IsUnsound code u → HasFault code (v ∷ [])
fault_here S2 u v e h = (0, v, omega arith, refl, subst IsS2 e h)
fault_here S3 u v e h = (0, v, omega arith, refl, subst IsS3 e h)
fault_here S4 u v e h = (0, v, omega arith, refl, subst IsS4 e h)
fault_here S5 u v e h = (0, v, omega arith, refl, subst IsS5 e h)
fault_here Memory u v e h = h
fault_here S1 u v e h = h
fault_here D8 u v e h = h
fault_here C1 u v e h = h
fault_here C2 u v e h = h
fault_here C3 u v e h = h
fault_here C4 u v e h = h
fault_here C5 u v e h = h
fault_here C6 u v e h = h

-- the same use under a name
pub unsound_named : (code : StaticCode) (u : Use) (name : List ℕ) → IsUnsound code u → IsUnsound code (record u { name = name })
unsound_named S2 u name h = h
unsound_named S3 u name h = h
unsound_named S4 u name h = h
unsound_named S5 u name h = h
unsound_named Memory u name h = h
unsound_named S1 u name h = h
unsound_named D8 u name h = h
unsound_named C1 u name h = h
unsound_named C2 u name h = h
unsound_named C3 u name h = h
unsound_named C4 u name h = h
unsound_named C5 u name h = h
unsound_named C6 u name h = h

pub sound_named : (u : Use) (name : List ℕ) → IsSound u → IsSound (record u { name = name })
sound_named u name h = record { suited = h.suited; constant = h.constant; default = h.default; initial = h.initial }

-- one instruction more
list-append : (ds : List Declared) (d : Declared) → all_uses (list_of (ds ++ d ∷ [])) ≡ all_uses (list_of ds) ++ (uses d ++ [])
list-append [] d = refl
list-append (e ∷ ds) d = ap (λ us. uses e ++ us) (list-append ds d) ∙ sym (append_assoc (uses e) (all_uses (list_of ds)) (uses d ++ []))

pub uses_in-more : (fs : List WrittenInstruction) (i : ℕ) (d : WrittenInstruction) → i < length fs
    → uses_in (take (i + 1) fs) ≡ uses_in (take i fs) ++ uses (instruction_data (get_or fs i d))
uses_in-more fs i d inside =
    ap uses_in (take_more fs i d inside) ∙ ap (λ ds. all_uses (list_of ds)) (map-append instruction_data (take i fs) (get_or fs i d ∷ []))
    ∙ list-append (map instruction_data (take i fs)) (instruction_data (get_or fs i d))
    ∙ ap (λ us. uses_in (take i fs) ++ us) (append-nil (uses (instruction_data (get_or fs i d))))

pub sound_more : (fs : List WrittenInstruction) (i : ℕ) (d : WrittenInstruction) → i < length fs → All IsSound (uses_in (take i fs))
    → All IsSound (uses (instruction_data (get_or fs i d)))
    → All IsSound (uses_in (take (i + 1) fs))
sound_more fs i d inside before here =
    subst (All IsSound) (sym (uses_in-more fs i d inside)) (All-append IsSound (uses_in (take i fs)) (uses (instruction_data (get_or fs i d))) before here)

pub all_sound : (fs : List WrittenInstruction) (i : ℕ) → length fs ≤ i → All IsSound (uses_in (take i fs)) → All IsSound (uses_in fs)
all_sound fs i end h = subst (λ gs. All IsSound (uses_in gs)) (take_all i fs end) h

-- the fault of one instruction is one of all
pub fault_at : (code : StaticCode) (fs : List WrittenInstruction) (i : ℕ) (d : WrittenInstruction) → i < length fs
    → HasFault code (uses (instruction_data (get_or fs i d))) → HasFault code (uses_in fs)
fault_at code [] i d inside h = absurd (omega arith)
fault_at code (f ∷ fs) zero d inside h = fault_left code (uses (instruction_data f)) (uses_in fs) h
fault_at code (f ∷ fs) (suc i) d inside h = fault_right code (uses (instruction_data f)) (uses_in fs) (fault_at code fs i d (omega arith) h)

-- ---- the uses of each form of an instruction

pub uses_of_scalar : (name : String Global) (optional : Bool) (kind : Kind) (w : WrittenOperator)
    → uses (instruction_data (V.Scalar name optional kind w)) ≡ scalar_use (string_bytes name) optional kind (operator_data w) ∷ []
uses_of_scalar name optional kind w =
    let e : instruction_data (V.Scalar name optional kind w) ≡ scalar (string_bytes name) optional kind (operator_data w) =
    search (rules, the_lemmas) in ap uses e

pub uses_of_parts : (name : String Global) (optional : Bool) (e m : WrittenOperator)
    → uses (instruction_data (V.Parts name optional e m)) ≡ exponent_use (string_bytes name) optional (operator_data e) ∷ mantissa_use
    (string_bytes name) (operator_data m) ∷ []
uses_of_parts name optional x m =
    let e : instruction_data (V.Parts name optional x m) ≡ by_parts (string_bytes name) optional (operator_data x) (operator_data m) =
    search (rules, the_lemmas) in ap uses e

pub uses_of_group : (name : String Global) (optional : Bool) (fs : Vec WrittenInstruction Global)
    → uses (instruction_data (V.Group name optional fs)) ≡ uses_in fs.items
uses_of_group name optional fs =
    let e : instruction_data (V.Group name optional fs) ≡ group (string_bytes name) optional (fields_data fs.items) = search (rules, the_lemmas) in ap uses e

pub uses_of_sequence : (name : String Global) (optional : Bool) (own : Option (String Global)) (w : WrittenOperator) (fs : Vec WrittenInstruction Global)
    → uses (instruction_data (V.Sequence name optional own w fs)) ≡ length_use (string_bytes name) optional (option_map string_bytes own)
    (operator_data w) ∷ uses_in fs.items
uses_of_sequence name optional own w fs =
    let e : instruction_data (V.Sequence name optional own w fs) ≡ sequence (string_bytes name) optional (option_map string_bytes own)
    (operator_data w) (fields_data fs.items) = search (rules, the_lemmas) in ap uses e

-- the one use at fault, under its name
pub fault_named : (code : StaticCode) (u : Use) (name : List ℕ) → IsUnsound code u → HasFault code (record u { name = name } ∷ [])
fault_named code u name h = fault_here code (record u { name = name }) (record u { name = name }) refl (unsound_named code u name h)

-- a length at fault, under the name of its sequence
pub fault_of_length : (code : StaticCode) (name : List ℕ) (optional : Bool) (own : Option (List ℕ)) (w : Written)
    → IsUnsound code (length_use [] optional own w) → HasFault code (length_use name optional own w ∷ [])
fault_of_length code name optional None w h = fault_named code (length_use [] optional None w) name h
fault_of_length code name optional (Some own) w h = fault_here code (length_use [] optional (Some own) w) (length_use name optional (Some own) w) refl h

pub sound_length : (name : List ℕ) (optional : Bool) (own : Option (List ℕ)) (w : Written) → IsSound (length_use [] optional own w)
    → IsSound (length_use name optional own w)
sound_length name optional None w h = sound_named (length_use [] optional None w) name h
sound_length name optional (Some own) w h = h

-- one sound use in front of others
pub sound_cons : (u : Use) (us : List Use) → IsSound u → All IsSound us → All IsSound (u ∷ us)
sound_cons u us h hs = All-cons IsSound u us h hs
