-- What the form of a node says of it.
use Rattle.std.proofs.Common.{◌≡◌, ◌⊎◌, inl, inr, ℕ, ◌+◌, ◌<◌, ◌≤◌, ◌++◌, ◌∷◌, [], ◌∙◌, refl, ap, sym, subst, arith, List, take, length}
use Rattle.std.proofs.lemmas.List.{take_more, map-append, get_or-map, length-map}
use Rattle.std.proofs.lemmas.Option.{slice_get_cases, slice_get_read, slice_get_within}
use Rattle.std.specs.Prelude.{true, false, Option, None, Some, is_some, unwrap_or, map, option_map, slice_get, get_or, Result, Ok, Err, IfOk}
use Rattle.std.specs.declared.vec.Vec.{Vec}
use Rattle.std.specs.declared.alloc.Global.{Global}
use Rattle.std.specs.declared.alloc.AllocError.{AllocError}
use Rattle.std.proofs.lemmas.Option.{slice_get-map}
use Rattle.fast_value.specs.declared.kinds.Kind.{Kind}
use Rattle.fast_value.specs.declared.kinds.Kind.TheVariants.{UInt32, Int32, UInt64, Int64, Decimal as decimal, Ascii, Unicode, Bytes}
use Rattle.fast_tree.specs.declared.operators.Operator.{Operator}
use Rattle.fast_tree.specs.declared.operators.Operator.TheVariants.{None as no_operator, Constant, Default, Copy, Increment, Delta, Tail}
use Rattle.fast_tree.specs.declared.instructions.FieldInstruction.{FieldInstruction}
use Rattle.fast_tree.specs.declared.instructions.Node.{Node}
use Rattle.fast_tree.specs.declared.instructions.Shape.{Shape}
use Rattle.fast_tree.specs.declared.instructions.Shape.TheVariants.{Field, Decimal, Group, Sequence}
use Rattle.fast_tree.specs.meaning.Numbers.{AreBelow, numbers_of}
use Rattle.fast_spelling.specs.declared.forms.Step.{Step}
use Rattle.fast_spelling.specs.declared.forms.BodyStep.{BodyStep}
use Rattle.fast_spelling.specs.device.Forms.{IsFieldOf, IsPartsOf, form_by, parts_by, step_of, step_there, body_step, body_steps, IsIn, Says}
use Rattle.fast_spelling.specs.device.Places.{field_of}

-- a node that is a decimal by parts is one, and a node that is a field of some type and operator is a field
pub parts_told : (operator : Operator) (s : Shape) → IsPartsOf operator s → (e m : FieldInstruction) × (s ≡ Decimal e m)
parts_told operator (Decimal e m) h = (e, m, refl)
parts_told operator s h = absurd h

pub field_told : (kind : Kind) (operator : Operator) (s : Shape) → IsFieldOf kind operator s → s ≡ Field (field_of s)
field_told kind operator (Field f) h = refl
field_told kind operator s h = absurd h

says_by : (f : FieldInstruction) (k : Kind) (o : Operator) → f.kind ≡ k → f.operator ≡ o → Says (form_by k o) (Field f)
says_by f UInt32 no_operator a b = (a, b)
says_by f Int32 no_operator a b = (a, b)
says_by f UInt64 no_operator a b = (a, b)
says_by f Int64 no_operator a b = (a, b)
says_by f UInt32 Constant a b = (a, b)
says_by f Int32 Constant a b = (a, b)
says_by f UInt64 Constant a b = (a, b)
says_by f Int64 Constant a b = (a, b)
says_by f UInt32 Default a b = (a, b)
says_by f Int32 Default a b = (a, b)
says_by f UInt64 Default a b = (a, b)
says_by f Int64 Default a b = (a, b)
says_by f UInt32 Copy a b = (a, b)
says_by f Int32 Copy a b = (a, b)
says_by f UInt64 Copy a b = (a, b)
says_by f Int64 Copy a b = (a, b)
says_by f UInt32 Increment a b = (a, b)
says_by f Int32 Increment a b = (a, b)
says_by f UInt64 Increment a b = (a, b)
says_by f Int64 Increment a b = (a, b)
says_by f UInt32 Delta a b = (a, b)
says_by f Int32 Delta a b = (a, b)
says_by f UInt64 Delta a b = (a, b)
says_by f Int64 Delta a b = (a, b)
says_by f Ascii no_operator a b = (a, b)
says_by f Ascii Constant a b = (a, b)
says_by f Ascii Default a b = (a, b)
says_by f Ascii Copy a b = (a, b)
says_by f Ascii Tail a b = (a, b)
says_by f Ascii Delta a b = (a, b)
says_by f Unicode no_operator a b = (a, b)
says_by f Unicode Delta a b = (a, b)
says_by f Bytes no_operator a b = (a, b)
says_by f Bytes Tail a b = (a, b)
says_by f decimal no_operator a b = (a, b)
says_by f decimal Copy a b = (a, b)
says_by f decimal Delta a b = (a, b)
says_by f UInt32 Tail a b = tt
says_by f Int32 Tail a b = tt
says_by f UInt64 Tail a b = tt
says_by f Int64 Tail a b = tt
says_by f decimal Constant a b = tt
says_by f decimal Default a b = tt
says_by f decimal Increment a b = tt
says_by f decimal Tail a b = tt
says_by f Ascii Increment a b = tt
says_by f Unicode Constant a b = tt
says_by f Unicode Default a b = tt
says_by f Unicode Copy a b = tt
says_by f Unicode Increment a b = tt
says_by f Unicode Tail a b = tt
says_by f Bytes Constant a b = tt
says_by f Bytes Default a b = tt
says_by f Bytes Copy a b = tt
says_by f Bytes Increment a b = tt
says_by f Bytes Delta a b = tt

says_parts : (e m : FieldInstruction) (p q : Operator) → e.operator ≡ p → m.operator ≡ q → Says (parts_by p q) (Decimal e m)
says_parts e m Default Delta a b = (a, b)
says_parts e m Copy Delta a b = (a, b)
says_parts e m p q a b = tt

pub says : (x : Shape) → Says (step_of x).form x
says (Field f) = says_by f f.kind f.operator refl refl
says (Decimal e m) = says_parts e m e.operator m.operator refl refl
says (Group o b) = tt
says (Sequence l b) = tt

some_is : {A : Type 0} (x y : A) → Some x ≡ Some y → x ≡ y
some_is x y e = cc

-- The step of a body is that of a node.
pub step_here : (nodes : List Node) (s : BodyStep) → IsIn nodes s → (x : Node) × (slice_get nodes s.node ≡ Some x) × (step_of x.shape ≡ s.step)
step_here nodes s (within, is) =
    go (slice_get_cases nodes s.node).1
  where
    go : ((x : Node) × (s.node < length nodes) × (slice_get nodes s.node ≡ Some x) × (get_or nodes s.node x ≡ x))
        ⊎ ((length nodes ≤ s.node) × (slice_get nodes s.node ≡ None)) → (x : Node) × (slice_get nodes s.node ≡ Some x) × (step_of x.shape ≡ s.step)
    go (inl (x, inside, found, same)) = (x, found, sym (is ∙ ap step_there found))
    go (inr (past, none)) = absurd (omega (arith, within, past))

-- so its form says what that is
pub says_at : (nodes : List Node) (s : BodyStep) (x : Node) → IsIn nodes s → slice_get nodes s.node ≡ Some x → Says s.step.form x.shape
says_at nodes s x (within, is) found = subst (λ (c : Step). Says c.form x.shape) (sym (is ∙ ap step_there found)) (says x.shape)

-- the step at a place of a body
pub step_in : (nodes : List Node) (body : List ℕ) (steps : List BodyStep) (i : ℕ) (none : BodyStep) → steps ≡ body_steps nodes body
    → AreBelow (length nodes) body → i < length body → ((get_or steps i none).node ≡ get_or body i 0) × IsIn nodes (get_or steps i none)
step_in nodes body steps i none same below within =
    let s = get_or steps i none in
    let is : s ≡ body_step nodes (get_or body i 0) = ap (λ (z : List BodyStep). get_or z i none) same ∙ get_or-map (body_step nodes) body i 0 none within in
    let at : s.node ≡ get_or body i 0 = ap (λ (z : BodyStep). z.node) is in
    let inside : s.node < length nodes = subst (λ (n : ℕ). n < length nodes) (sym at) (below i within) in
    (at, (inside, ap (λ (z : BodyStep). z.step) is ∙ ap (λ (n : ℕ). step_there (slice_get nodes n)) (sym at)))

-- a node more
pub steps_more : (nodes : List Node) (body : List ℕ) (i : ℕ) (x : Node) → i < length body → slice_get nodes (get_or body i 0) ≡ Some x
    → body_steps nodes (take i body) ++ record { node = get_or body i 0; step = step_of x.shape } ∷ [] ≡ body_steps nodes (take (i + 1) body)
steps_more nodes body i x within found =
    let n : ℕ = get_or body i 0 in
    let here : record { node = n; step = step_of x.shape } ≡ body_step nodes n = ap (λ (o : Option Node). record { node = n; step = step_there o })
    (sym found) in
    ap (λ (z : BodyStep). body_steps nodes (take i body) ++ z ∷ []) here ∙ sym (map-append (body_step nodes) (take i body) (n ∷ []))
    ∙ ap (body_steps nodes) (sym (take_more body i 0 within))

-- an entry that is there, and one that is not
pub entry_there : (o : Option ℕ) → is_some o ≡ true → o ≡ Some (unwrap_or o 0)
entry_there None e = absurd (cc e)
entry_there (Some n) e = refl

pub entry_missing : (o : Option ℕ) → is_some o ≡ false → o ≡ None
entry_missing None e = refl
entry_missing (Some n) e = absurd (cc e)

-- what is made of one element more
pub mapped_more : {A B : Type 0} (f : A → B) (xs : List A) (n : ℕ) (ys : List B) (y : B) → n < length xs → ys ≡ map f (take n xs)
    → ((x : A) → slice_get xs n ≡ Some x → y ≡ f x) → ys ++ y ∷ [] ≡ map f (take (n + 1) xs)
mapped_more {A} {B} f xs n ys y within so_far next = go (slice_get_cases xs n).1
  where
    go : ((x : A) × (n < length xs) × (slice_get xs n ≡ Some x) × (get_or xs n x ≡ x)) ⊎ ((length xs ≤ n) × (slice_get xs n ≡ None))
        → ys ++ y ∷ [] ≡ map f (take (n + 1) xs)
    go (inl (x, inside, found, same)) =
        ap (λ (z : List B). z ++ y ∷ []) so_far ∙ ap (λ (z : B). map f (take n xs) ++ z ∷ []) (next x found)
        ∙ sym (ap (map f) (take_more xs n x inside) ∙ map-append f (take n xs) (get_or xs n x ∷ [])
        ∙ ap (λ (z : A). map f (take n xs) ++ f z ∷ []) same)
    go (inr (past, none)) = absurd (omega (arith, within, past))

-- what was made of the element at a place
pub mapped_at : {A B C : Type 0} (g : A → C) (f : B → C) (xs : List A) (ys : List B) (n : ℕ) (x : A) (y : B) → map g xs ≡ map f ys
    → x ≡ get_or xs n x → slice_get ys n ≡ Some y → g x ≡ f y
mapped_at {A} {B} {C} g f xs ys n x y same read found =
    let long : length xs ≡ length ys = sym (length-map xs g) ∙ ap length same ∙ length-map ys f in
    let within : n < length ys = slice_get_within ys n y found in
    let there : slice_get xs n ≡ Some x = slice_get_read xs (length xs) n x refl (omega (arith, within, long)) read in
    let both : Some (g x) ≡ Some (f y) = sym (ap (option_map g) there) ∙ sym (slice_get-map g xs n) ∙ ap (λ (z : List C). slice_get z n) same
    ∙ slice_get-map f ys n ∙ ap (option_map f) found in
    some_is (g x) (f y) both

-- the steps of the body that a node has
pub steps_found : (nodes : List Node) (n : ℕ) (x : Node) (body : List ℕ) (r : Result (Vec BodyStep Global) AllocError) → slice_get nodes n ≡ Some x
    → body ≡ numbers_of x.shape → IfOk r (λ v. v.items ≡ body_steps nodes body)
    → IfOk r (λ v. (y : Node) → slice_get nodes n ≡ Some y → v.items ≡ body_steps nodes (numbers_of y.shape))
steps_found nodes n x body (Ok v) found is h = λ y there.
    h ∙ ap (body_steps nodes) (is ∙ ap (λ (z : Node). numbers_of z.shape) (some_is x y (sym found ∙ there)))
steps_found nodes n x body (Err e) found is h = tt
