-- The choice of messages is a choice from a list of them.
use Rattle.std.proofs.Common.{◌≡◌, ℕ, ◌-◌, Bool, true, false, List, [], ◌∷◌, ◌++◌, Option, Some, None, refl, ap, sym, ◌∙◌, zero, suc, take}
use Rattle.std.proofs.Common.{drop, append_assoc, arith, rules}
use Rattle.std.specs.Prelude.{All, flat_map, filter, not, ◌&&◌, nat_eq, if◌then◌else◌}
use Rattle.std.specs.Borrow.{Bor}
use Rattle.std.proofs.Math.Dec.{eqb-suc-zero}
use Rattle.std.proofs.lemmas.List.Elements.{All-head, All-tail}
use Rattle.fast_stream.specs.meaning.Events.{EventData, MessageStart, FieldValue, GroupStart, GroupEnd, SequenceStart, ElementStart}
use Rattle.fast_stream.specs.meaning.Events.{ElementEnd, SequenceEnd, MessageEnd}
use Rattle.fast_select.specs.declared.selected.Chooser.{Chooser}
use Rattle.fast_select.specs.meaning.Choosing.{is_none_left, is_among, begins, less, is_chosen, after, chosen}
use Rattle.fast_select.specs.meaning.Messages.{Whole, is_inner, IsOne, whole_events, first_of, picked, ChoosesMessages}

-- some events, or none
abbrev these_if : Bool → List EventData → List EventData
these_if true es = es
these_if false es = []

-- one event inside a message more
one_inner : (c : Chooser) (b : Bool) (e : EventData) (es xs : List EventData) → c.is_in ≡ b → chosen c (es ++ xs) ≡ these_if b es ++ chosen c xs
    → (if c.is_in then e ∷ chosen c (es ++ xs) else chosen c (es ++ xs)) ≡ these_if b (e ∷ es) ++ chosen c xs
one_inner c true e es xs is h = ap (λ (v : Bool). if v then e ∷ chosen c (es ++ xs) else chosen c (es ++ xs)) is ∙ ap (λ (ys : List EventData). e ∷ ys) h
one_inner c false e es xs is h = ap (λ (v : Bool). if v then e ∷ chosen c (es ++ xs) else chosen c (es ++ xs)) is ∙ h

-- the events inside a message
inner_chosen : (c : Chooser) (b : Bool) (es xs : List EventData) → c.is_in ≡ b → All (λ e. is_inner e ≡ true) es
    → chosen c (es ++ xs) ≡ these_if b es ++ chosen c xs
inner_chosen c true [] xs is all = refl
inner_chosen c false [] xs is all = refl
inner_chosen c b (MessageStart n ∷ es) xs is all = absurd (let h = All-head (λ e. is_inner e ≡ true) (MessageStart n) es all in cc)
inner_chosen c b (MessageEnd ∷ es) xs is all = absurd (let h = All-head (λ e. is_inner e ≡ true) MessageEnd es all in cc)
inner_chosen c b (FieldValue n v ∷ es) xs is all = one_inner c b (FieldValue n v) es xs is
    (inner_chosen c b es xs is (All-tail (λ e. is_inner e ≡ true) (FieldValue n v) es all))
inner_chosen c b (GroupStart n ∷ es) xs is all = one_inner c b (GroupStart n) es xs is
    (inner_chosen c b es xs is (All-tail (λ e. is_inner e ≡ true) (GroupStart n) es all))
inner_chosen c b (GroupEnd ∷ es) xs is all = one_inner c b GroupEnd es xs is (inner_chosen c b es xs is (All-tail (λ e. is_inner e ≡ true) GroupEnd es all))
inner_chosen c b (SequenceStart n k ∷ es) xs is all = one_inner c b (SequenceStart n k) es xs is
    (inner_chosen c b es xs is (All-tail (λ e. is_inner e ≡ true) (SequenceStart n k) es all))
inner_chosen c b (ElementStart ∷ es) xs is all = one_inner c b ElementStart es xs is
    (inner_chosen c b es xs is (All-tail (λ e. is_inner e ≡ true) ElementStart es all))
inner_chosen c b (ElementEnd ∷ es) xs is all = one_inner c b ElementEnd es xs is
    (inner_chosen c b es xs is (All-tail (λ e. is_inner e ≡ true) ElementEnd es all))
inner_chosen c b (SequenceEnd ∷ es) xs is all = one_inner c b SequenceEnd es xs is
    (inner_chosen c b es xs is (All-tail (λ e. is_inner e ≡ true) SequenceEnd es all))

-- the chooser between two messages
abbrev between : ℕ → Option ℕ → Option (Bor (List ℕ)) → Chooser
between skip rest only = record { skip = skip; rest = rest; only = only; is_in = false }

-- the chooser inside a message
abbrev within : ℕ → Option ℕ → Option (Bor (List ℕ)) → Bool → Chooser
within skip rest only b = record { skip = skip; rest = rest; only = only; is_in = b }

-- from the start of a message on
from_start : (skip : ℕ) (rest : Option ℕ) (only : Option (Bor (List ℕ))) (m : Whole) (xs : List EventData) (b : Bool) → IsOne m
    → (if b then MessageStart m.template ∷ chosen (within skip rest only b) ((m.inner ++ MessageEnd ∷ []) ++ xs) else chosen
    (within skip rest only b) ((m.inner ++ MessageEnd ∷ []) ++ xs)) ≡ these_if b (whole_events m)
    ++ chosen (between skip (less b rest) only) xs
from_start skip rest only m xs true one =
    ap (λ (ys : List EventData). MessageStart m.template ∷ ys) (
    ap (λ (ys : List EventData). chosen (within skip rest only true) ys) (append_assoc m.inner (MessageEnd ∷ []) xs)
    ∙ inner_chosen (within skip rest only true) true m.inner (MessageEnd ∷ xs) refl one
    ∙ sym (append_assoc m.inner (MessageEnd ∷ []) (chosen (between skip (less true rest) only) xs))
    )
from_start skip rest only m xs false one =
    ap (λ (ys : List EventData). chosen (within skip rest only false) ys) (append_assoc m.inner (MessageEnd ∷ []) xs)
    ∙ inner_chosen (within skip rest only false) false m.inner (MessageEnd ∷ xs) refl one

-- a message, and others after it
message_chosen : (skip : ℕ) (rest : Option ℕ) (only : Option (Bor (List ℕ))) (m : Whole) (xs : List EventData) (b : Bool) → IsOne m
    → begins (between skip rest only) m.template ≡ b
    → chosen (between skip rest only) (whole_events m ++ xs) ≡ these_if b (whole_events m) ++ chosen (between (skip - 1) (less b rest) only) xs
message_chosen skip rest only m xs b one is = rw is (from_start (skip - 1) rest only m xs b one)

-- nothing is less
less_none : (rest : Option ℕ) → less false rest ≡ rest
less_none None = refl
less_none (Some n) = refl

-- those that have one of the templates
abbrev among : Option (Bor (List ℕ)) → Whole → Bool
among only m = is_among only m.template

-- one that has one, and one that has none
kept_in : (p : Whole → Bool) (m : Whole) (ms : List Whole) → p m ≡ true → filter p (m ∷ ms) ≡ m ∷ filter p ms
kept_in p m ms is = rw is refl

left_out : (p : Whole → Bool) (m : Whole) (ms : List Whole) → p m ≡ false → filter p (m ∷ ms) ≡ filter p ms
left_out p m ms is = rw is refl

-- a message may be chosen if one is left
begins_some : (n : ℕ) (only : Option (Bor (List ℕ))) (t : ℕ) → begins (between 0 (Some (suc n)) only) t ≡ is_among only t
begins_some n only t = ap (λ (v : Bool). (true && not v) && is_among only t) (eqb-suc-zero n)

-- no message is chosen while some are skipped
begins_later : (k : ℕ) (rest : Option ℕ) (only : Option (Bor (List ℕ))) (t : ℕ) → begins (between (suc k) rest only) t ≡ false
begins_later k rest only t = ap (λ (v : Bool). (v && not (is_none_left rest)) && is_among only t) (eqb-suc-zero k)

-- no messages
take_none : (n : ℕ) → ◌≡◌ {A = List Whole} (take n []) []
take_none zero = refl
take_none (suc n) = refl

none_picked : (skip : ℕ) (rest : Option ℕ) (only : Option (Bor (List ℕ))) → picked (between skip rest only) [] ≡ []
none_picked zero None only = refl
none_picked zero (Some n) only = take_none n
none_picked (suc k) None only = refl
none_picked (suc k) (Some n) only = take_none n

-- messages that may be chosen from the first on
chooses_now : (rest : Option ℕ) (only : Option (Bor (List ℕ))) (ms : List Whole) → All IsOne ms
    → chosen (between 0 rest only) (flat_map whole_events ms) ≡ flat_map whole_events (first_of rest (filter (among only) ms))
chooses_now None only [] all = refl
chooses_now (Some n) only [] all = ap (λ (ms : List Whole). flat_map whole_events ms) (sym (none_picked 0 (Some n) only))
chooses_now None only (m ∷ ms) all = by (among only m) refl (chooses_now None only ms (All-tail IsOne m ms all))
  where
    by : (b : Bool) → among only m ≡ b → chosen (between 0 None only) (flat_map whole_events ms) ≡ flat_map whole_events (filter (among only) ms)
        → chosen (between 0 None only) (whole_events m ++ flat_map whole_events ms) ≡ flat_map whole_events (filter (among only) (m ∷ ms))
    by true is h =
        message_chosen 0 None only m (flat_map whole_events ms) true (All-head IsOne m ms all) is
        ∙ ap (λ (ys : List EventData). whole_events m ++ ys) h
        ∙ ap (λ (xs : List Whole). flat_map whole_events xs) (sym (kept_in (among only) m ms is))
    by false is h =
        message_chosen 0 None only m (flat_map whole_events ms) false (All-head IsOne m ms all) is
        ∙ h
        ∙ ap (λ (xs : List Whole). flat_map whole_events xs) (sym (left_out (among only) m ms is))
chooses_now (Some zero) only (m ∷ ms) all =
    message_chosen 0 (Some 0) only m (flat_map whole_events ms) false (All-head IsOne m ms all) refl ∙ chooses_now (Some zero) only ms (All-tail IsOne m ms all)
chooses_now (Some (suc n)) only (m ∷ ms) all = by (among only m) refl (chooses_now (Some n) only ms (All-tail IsOne m ms all))
    (chooses_now (Some (suc n)) only ms (All-tail IsOne m ms all))
  where
    less_one : suc n - 1 ≡ n
    less_one = omega arith

    by : (b : Bool) → among only m ≡ b → chosen (between 0 (Some n) only) (flat_map whole_events ms) ≡ flat_map whole_events (take n (filter (among only) ms))
        → chosen (between 0 (Some (suc n)) only) (flat_map whole_events ms) ≡ flat_map whole_events (take (suc n) (filter (among only) ms))
        → chosen (between 0 (Some (suc n)) only) (whole_events m ++ flat_map whole_events ms) ≡ flat_map whole_events
        (take (suc n) (filter (among only) (m ∷ ms)))
    by true is h g =
        message_chosen 0 (Some (suc n)) only m (flat_map whole_events ms) true (All-head IsOne m ms all) (begins_some n only m.template ∙ is)
        ∙ ap (λ (j : ℕ). whole_events m ++ chosen (between 0 (Some j) only) (flat_map whole_events ms)) less_one
        ∙ ap (λ (ys : List EventData). whole_events m ++ ys) h
        ∙ ap (λ (xs : List Whole). flat_map whole_events (take (suc n) xs)) (sym (kept_in (among only) m ms is))
    by false is h g =
        message_chosen 0 (Some (suc n)) only m (flat_map whole_events ms) false (All-head IsOne m ms all) (begins_some n only m.template ∙ is)
        ∙ g
        ∙ ap (λ (xs : List Whole). flat_map whole_events (take (suc n) xs)) (sym (left_out (among only) m ms is))

-- messages of which the first ones are skipped
chooses : (skip : ℕ) (rest : Option ℕ) (only : Option (Bor (List ℕ))) (ms : List Whole) → All IsOne ms
    → chosen (between skip rest only) (flat_map whole_events ms) ≡ flat_map whole_events (picked (between skip rest only) ms)
chooses zero rest only ms all = chooses_now rest only ms all
chooses (suc k) rest only [] all = ap (λ (ms : List Whole). flat_map whole_events ms) (sym (none_picked (suc k) rest only))
chooses (suc k) rest only (m ∷ ms) all =
    message_chosen (suc k) rest only m (flat_map whole_events ms) false (All-head IsOne m ms all) (begins_later k rest only m.template)
    ∙ ap (λ (o : Option ℕ). chosen (between (suc k - 1) o only) (flat_map whole_events ms)) (less_none rest)
    ∙ ap (λ (j : ℕ). chosen (between j rest only) (flat_map whole_events ms)) less_one
    ∙ chooses k rest only ms (All-tail IsOne m ms all)
  where
    less_one : suc k - 1 ≡ k
    less_one = omega arith

-- the law
pub chooses_messages : ChoosesMessages
chooses_messages c ms out all = rw same (chooses c.skip c.rest c.only ms all)
  where
    same : c ≡ between c.skip c.rest c.only
    same = ap (λ (b : Bool). within c.skip c.rest c.only b) out
