-- Each turn of a machine is paid for by what it leaves of the message.
use Rattle.std.proofs.Common.{refl, sym, ap, ◌∙◌, subst, arith, inl, inr}
use Rattle.std.proofs.Math.Nat.{le_refl, le_trans, le-max_left, le-max_right, mul-le-mul_right, mul-le-mul_left, add-mul, suc-mul, mul-zero}
use Rattle.std.proofs.Math.Nat.{min-eq_left, min_comm}
use Rattle.std.proofs.lemmas.Bool.{leb-true, cases_lt}
use Rattle.std.specs.Prelude.{◌≡◌, ◌≢◌, ℕ, zero, suc, ◌+◌, ◌*◌, ◌-◌, ◌<◌, ◌≤◌, Bool, true, false, if◌then◌else◌, nat_le, List, [], ◌∷◌}
use Rattle.std.specs.Prelude.{drop, map, slice_get, min, Option, Some, None, Result, Ok, Err, OnOk, is_err}
use Rattle.fast_value.specs.declared.settings.Limits.{Limits}
use Rattle.fast_value.specs.meaning.Limits.{bounds}
use Rattle.fast_value.specs.declared.codes.Code.{Code}
use Rattle.fast_value.specs.declared.codes.Code.TheVariants.{L2, L5}
use Rattle.fast_tree.specs.meaning.Tree.{Tree, Label, FieldData, Instruction, field, parts, group, sequence, Body, step, TemplateData}
use Rattle.fast_tree.specs.meaning.Sizes.{turn_weights, size, body_size, outer, body_outer, widest, body_widest, greatest, product_cap, sum_cap, turn_cap}
use Rattle.fast_tree.specs.declared.instructions.Template.{Template}
use Rattle.fast_tree.specs.meaning.Nodes.{template_data, instructions_from}
use Rattle.fast_stream.specs.declared.faults.FaultCode.{FaultCode}
use Rattle.fast_machine.specs.declared.machine.Machine.{Machine}
use Rattle.fast_machine.specs.declared.machine.Turn.{Turn}
use Rattle.fast_machine.specs.declared.machine.Turn.TheVariants.{Silent, Handed, Waits}
use Rattle.fast_machine.specs.declared.turns.Turns.{Turns}
use Rattle.fast_machine.specs.device.Passing.{IsPast}
use Rattle.fast_machine.specs.declared.machine.Waiting.{Waiting}
use Rattle.fast_machine.specs.declared.machine.Waiting.TheVariants.{Map, Identifier, SegmentMap, Field, Mantissa}
use Rattle.fast_cursor.specs.device.Cursors.{ElementsData, FrameData, CursorData, entered, left_to}
use Rattle.fast_stream.specs.meaning.Messages.{within_limits}
use Rattle.fast_machine.specs.device.Positions.{Set, tree_in, body_in, IsFresh}
use Rattle.fast_machine.specs.device.Steps.{IsCountedBy}
use Rattle.fast_machine.specs.device.TurnsLeft.{Way, by_sequence, by_message, most_by, body_turns, AreWithin, elements_turns}
use Rattle.fast_machine.specs.device.TurnsLeft.{AreElementsWithin, frames_turns, AreFramesWithin, turns_left, IsWithinTurns, HasTurns}
use Rattle.fast_machine.specs.device.TurnsLeft.{HasTurnsInMap, HasTurnsAt, HasTurnsWaiting, HasTurnsBehind, HasTurnsAfter, turns_begun}
use Rattle.fast_machine.specs.device.TurnsLeft.{turns_begun_at, IsWithinMessage}
use Rattle.fast_machine.proofs.steps.SegmentTurns.{some_frame}

-- the turns of an instruction
abbrev pub turns_of : Way → Limits → Instruction → ℕ
turns_of by_sequence l i = size turn_weights l i
turns_of by_message l i = outer turn_weights i

abbrev pub IsWithin : Way → ℕ → Instruction → Type 0
IsWithin by_sequence w i = Unit {0}
IsWithin by_message w i = widest turn_weights i ≤ w

-- a body, instruction after instruction
pub body_next : (way : Way) (l : Limits) (i : Instruction) (is : Body) → body_turns way l (step i is) ≡ turns_of way l i + body_turns way l is
body_next by_sequence l i is = refl
body_next by_message l i is = refl

pub within_next : (way : Way) (w : ℕ) (i : Instruction) (is : Body) → AreWithin way w (step i is) → IsWithin way w i × AreWithin way w is
within_next by_sequence w i is h = (tt, tt)
within_next by_message w i is h = (
  le_trans (le-max_left (widest turn_weights i) (body_widest turn_weights is)) h,
  le_trans (le-max_right (widest turn_weights i) (body_widest turn_weights is)) h,
)

sequence_within : (way : Way) (w : ℕ) (at : Label) (f : FieldData) (body : Body) → IsWithin way w (sequence at f body) → AreWithin way w body
sequence_within by_sequence w at f body h = tt
sequence_within by_message w at f body h = le_trans (le-max_right (2 + body_outer turn_weights body) (body_widest turn_weights body)) h

-- So many elements are paid for by the sequence, or one by one.
sequence_turns : (way : Way) (l : Limits) (w : ℕ) (at : Label) (f : FieldData) (body : Body) (n : ℕ) → n ≤ l.max_elements → IsWithin way w (sequence at f body)
    → 3 + n * (2 + body_turns way l body) ≤ turns_of way l (sequence at f body) + n * w
sequence_turns by_sequence l w at f body n few h =
    wide (n * (2 + body_size turn_weights l body)) (l.max_elements * (2 + body_size turn_weights l body)) (n * w)
    (mul-le-mul_right (2 + body_size turn_weights l body) few)
  where
    wide : (x y z : ℕ) → x ≤ y → 3 + x ≤ (3 + y) + z
    wide x y z i = omega (arith, i)
sequence_turns by_message l w at f body n few h =
    wide (n * (2 + body_outer turn_weights body)) (n * w) (mul-le-mul_left n
    (le_trans (le-max_left (2 + body_outer turn_weights body) (body_widest turn_weights body)) h))
  where
    wide : (x z : ℕ) → x ≤ z → 3 + x ≤ 3 + z
    wide x z i = omega (arith, i)

-- The message ends at last.
some_end : (way : Way) (set : Set) (l : Limits) (fs : List FrameData) → 1 ≤ frames_turns way set l fs
some_end way set l [] = omega arith
some_end way set l (f ∷ fs) = omega arith

-- From one place to another that leaves fewer turns.
pub moved : (way : Way) (set : Set) (l : Limits) (k j n t t' counted counted' : ℕ) (c c' : CursorData)
    (h : IsWithinTurns way set l k n t counted c) → t' ≡ t → AreWithin way h.each (body_in set c'.left)
    → AreFramesWithin way set h.each c'.frames
    → turns_left way set l h.each counted' c' + k ≤ turns_left way set l h.each counted c + j → IsWithinTurns way set l j n t' counted' c'
moved way set l k j n t t' counted counted' c c' h same body frames less = let most = h.most in let all = h.all in record {
  each = h.each;
  body = body;
  frames = frames;
  most = omega (arith, less, most);
  all = rw same (omega (arith, less, all));
}

-- The same with a turn, for which the place leaves one fewer.
pub moved_on : (way : Way) (set : Set) (l : Limits) (k j n t t' counted counted' : ℕ) (c c' : CursorData)
    (h : IsWithinTurns way set l k n t counted c) → t' ≡ t + 1 → AreWithin way h.each (body_in set c'.left)
    → AreFramesWithin way set h.each c'.frames
    → turns_left way set l h.each counted' c' + k + 1 ≤ turns_left way set l h.each counted c + j → IsWithinTurns way set l j n t' counted' c'
moved_on way set l k j n t t' counted counted' c c' h same body frames less = let most = h.most in let all = h.all in record {
  each = h.each;
  body = body;
  frames = frames;
  most = omega (arith, less, most);
  all = rw same (omega (arith, less, all));
}

-- The turns taken are within the number.
pub turns_taken : (way : Way) (set : Set) (l : Limits) (n t counted : ℕ) (c : CursorData) → IsWithinTurns way set l 1 n t counted c → t ≤ n
turns_taken way set l n t counted c h =
    let some = some_end way set l c.frames in
    let all : t + (body_turns way l (body_in set c.left) + frames_turns way set l c.frames + (l.max_total - counted) * h.each) ≤ n + 1 = h.all in
    omega (arith, some, all)

pub none_taken : (way : Way) (set : Set) (l : Limits) (n t counted : ℕ) (c : CursorData) → IsWithinTurns way set l 0 n t counted c → t ≤ n
none_taken way set l n t counted c h = let all = h.all in omega (arith, all)

-- without instructions
nothing_left : (way : Way) (set : Set) (l : Limits) → body_turns way l (body_in set []) ≡ 0
nothing_left by_sequence set l = refl
nothing_left by_message set l = refl

nothing_within : (way : Way) (set : Set) (w : ℕ) → AreWithin way w (body_in set [])
nothing_within by_sequence set w = tt
nothing_within by_message set w = omega arith

-- A sequence of so many elements begins.
pub length_passed : (way : Way) (set : Set) (l : Limits) (n t t' counted counted' : ℕ) (c c' : CursorData) (at : Label) (f : FieldData)
    (body : List ℕ) (count : ℕ)
    → body_in set c.left ≡ step (sequence at f (body_in set body)) (body_in set (drop 1 c.left)) → t' ≡ t → counted' ≡ counted + count
    → counted + count ≤ l.max_total → count ≤ l.max_elements
    → c'.left ≡ drop 1 c.left → c'.frames ≡ c.frames → IsWithinTurns way set l 1 n t counted c
    → IsWithinTurns way set l 1 n t' counted' (entered c' (Some (record { more = count; body = body; width = 0 })) [])
length_passed way set l n t t' counted counted' c c' at f body count next turns more total few left frames h =
    let rest = body_in set (drop 1 c.left) in
    let i = sequence at f (body_in set body) in
    let within = within_next way h.each i rest (subst (AreWithin way h.each) next h.body) in
    let b = body_turns way l (body_in set body) in
    let fs = frames_turns way set l c.frames in
    let less : turns_left way set l h.each counted c ≡ (turns_of way l i + body_turns way l rest) + fs + (l.max_total - counted) * h.each
    = ap (λ x. body_turns way l x + fs + (l.max_total - counted) * h.each) next
    ∙ ap (λ x. x + fs + (l.max_total - counted) * h.each) (body_next way l i rest) in
    let now : turns_left way set l h.each counted' (entered c' (Some (record {
      more = count;
      body = body;
      width = 0;
    })) []) ≡ 0 + (1 + body_turns way l rest + count * (2 + b) + fs) + (l.max_total - (counted + count)) * h.each
    = ap (λ x. x + (1 + body_turns way l (body_in set c'.left) + count * (2 + b) + frames_turns way set l
    c'.frames) + (l.max_total - counted') * h.each) (nothing_left way set l)
    ∙ ap (λ x. 0 + (1 + body_turns way l (body_in set c'.left) + count * (2 + b) + frames_turns way set l c'.frames) + (l.max_total - x) * h.each) more
    ∙ ap (λ ns. 0 + (1 + body_turns way l (body_in set ns) + count * (2 + b) + frames_turns way set l
    c'.frames) + (l.max_total - (counted + count)) * h.each) left
    ∙ ap (λ gs. 0 + (1 + body_turns way l rest + count * (2 + b) + frames_turns way set l gs) + (l.max_total - (counted + count)) * h.each) frames in
    let still : l.max_total - counted ≡ (l.max_total - (counted + count)) + count = omega (arith, total) in
    let paid : (l.max_total - counted) * h.each ≡ (l.max_total - (counted + count)) * h.each + count * h.each = ap (λ x. x * h.each) still
    ∙ add-mul (l.max_total - (counted + count)) count h.each in
    moved way set l 1 1 n t t' counted counted' c (entered c' (Some (record {
      more = count;
      body = body;
      width = 0;
    })) []) h turns (nothing_within way set h.each) (
      subst (λ ns. AreWithin way h.each (body_in set ns)) (sym left) within.1,
      sequence_within way h.each at f (body_in set body) within.0,
      subst (AreFramesWithin way set h.each) (sym frames) h.frames,
    )
    (rw (less, now, paid) (fewer (turns_of way l i) (body_turns way l rest) (count * (2 + b)) fs
    ((l.max_total - (counted + count)) * h.each) (count * h.each)
    (sequence_turns way l h.each at f (body_in set body) count few within.0)))
  where
    fewer : (s r x f e w : ℕ) → 3 + x ≤ s + w → 0 + (1 + r + x + f) + e + 1 ≤ (s + r) + f + (e + w) + 1
    fewer s r x f e w h = omega (arith, h)

-- An element begins, behind which come others. It is a turn.
pub element_opened : (way : Way) (set : Set) (l : Limits) (n t t' counted counted' : ℕ) (c c' : CursorData) (body : List ℕ)
    (count width : ℕ) → 0 < count → t' ≡ t + 1 → counted' ≡ counted
    → c' ≡ entered c (Some (record { more = count - 1; body = body; width = width })) body
    → IsWithinTurns way set l 1 n t counted (entered c (Some (record { more = count; body = body; width = 0 })) []) → IsWithinTurns way set l 0 n t' counted' c'
element_opened way set l n t t' counted counted' c c' body zero width some turns same is h = absurd (omega (arith, some))
element_opened way set l n t t' counted counted' c c' body (suc m) width some turns same is h =
    let b = body_turns way l (body_in set body) in
    let r = body_turns way l (body_in set c.left) in
    let fs = frames_turns way set l c.frames in
    let e = (l.max_total - counted) * h.each in
    let less : turns_left way set l h.each counted (entered c (Some (record {
      more = suc m;
      body = body;
      width = 0;
    })) []) ≡ 0 + (1 + r + (m * (2 + b) + (2 + b)) + fs) + e
    = ap (λ x. x + (1 + r + suc m * (2 + b) + fs) + e) (nothing_left way set l) ∙ ap (λ x. 0 + (1 + r + x + fs) + e) (suc-mul m (2 + b)) in
    let one : suc m - 1 ≡ m = omega arith in
    let now : turns_left way set l h.each counted' c' ≡ b + (1 + r + m * (2 + b) + fs) + e
    = ap (turns_left way set l h.each counted') is ∙ ap (λ x. b + (1 + r + (suc m - 1) * (2 + b) + fs) + (l.max_total - x) * h.each) same
    ∙ ap (λ x. b + (1 + r + x * (2 + b) + fs) + e) one in
    moved_on way set l 1 0 n t t' counted counted' (entered c (Some (record { more = suc m; body = body; width = 0 })) []) c' h turns
    (subst (λ (x : CursorData). AreWithin way h.each (body_in set x.left)) (sym is) h.frames.1)
    (subst (λ (x : CursorData). AreFramesWithin way set h.each x.frames) (sym is) h.frames)
    (rw (less, now) (fewer b r (m * (2 + b)) fs e))
  where
    fewer : (b r x f e : ℕ) → b + (1 + r + x + f) + e + 1 + 1 ≤ 0 + (1 + r + (x + (2 + b)) + f) + e + 0
    fewer b r x f e = omega arith

-- A group ends.
pub group_closed : (way : Way) (set : Set) (l : Limits) (n t counted : ℕ) (c c' : CursorData) (f : FrameData) (fs : List FrameData)
    → c.left ≡ [] → c.frames ≡ f ∷ fs → f.elements ≡ None → c' ≡ left_to c f fs
    → IsWithinTurns way set l 1 n t counted c → IsWithinTurns way set l 0 n t counted c'
group_closed way set l n t counted c c' f fs ended frames none is h =
    let r = body_turns way l (body_in set f.after) in
    let rest = frames_turns way set l fs in
    let e = (l.max_total - counted) * h.each in
    let less : turns_left way set l h.each counted c ≡ 0 + (1 + r + 0 + rest) + e
    = ap (λ ns. body_turns way l (body_in set ns) + frames_turns way set l c.frames + e) ended
    ∙ ap (λ gs. body_turns way l (body_in set []) + frames_turns way set l gs + e) frames
    ∙ ap (λ x. x + (1 + r + elements_turns way set l f.elements + rest) + e) (nothing_left way set l)
    ∙ ap (λ x. 0 + (1 + r + elements_turns way set l x + rest) + e) none in
    let now : turns_left way set l h.each counted c' ≡ r + rest + e = ap (turns_left way set l h.each counted) is in
    let inside : AreFramesWithin way set h.each (f ∷ fs) = subst (AreFramesWithin way set h.each) frames h.frames in
    moved way set l 1 0 n t t counted counted c c' h refl
    (subst (λ (x : CursorData). AreWithin way h.each (body_in set x.left)) (sym is) inside.0)
    (subst (λ (x : CursorData). AreFramesWithin way set h.each x.frames) (sym is) inside.2)
    (rw (less, now) (fewer r rest e))
  where
    fewer : (r f e : ℕ) → r + f + e + 1 ≤ 0 + (1 + r + 0 + f) + e + 0
    fewer r f e = omega arith

-- An element ends.
pub element_closed : (way : Way) (set : Set) (l : Limits) (n t counted : ℕ) (c c' : CursorData) (f : FrameData) (fs : List FrameData)
    (e : ElementsData) → c.left ≡ [] → c.frames ≡ f ∷ fs → f.elements ≡ Some e → c' ≡ left_to c f fs
    → IsWithinTurns way set l 1 n t counted c → IsWithinTurns way set l 1 n t counted (entered c' (Some (record {
      more = e.more;
      body = e.body;
      width = 0;
    })) [])
element_closed way set l n t counted c c' f fs e ended frames some is h =
    let r = body_turns way l (body_in set f.after) in
    let x = e.more * (2 + body_turns way l (body_in set e.body)) in
    let rest = frames_turns way set l fs in
    let k = (l.max_total - counted) * h.each in
    let less : turns_left way set l h.each counted c ≡ body_turns way l (body_in set []) + (1 + r + x + rest) + k
    = ap (λ ns. body_turns way l (body_in set ns) + frames_turns way set l c.frames + k) ended
    ∙ ap (λ gs. body_turns way l (body_in set []) + frames_turns way set l gs + k) frames
    ∙ ap (λ y. body_turns way l (body_in set []) + (1 + r + elements_turns way set l y + rest) + k) some in
    let now : turns_left way set l h.each counted (entered c' (Some (record {
      more = e.more;
      body = e.body;
      width = 0;
    })) []) ≡ body_turns way l (body_in set []) + (1 + r + x + rest) + k
    = ap (λ (y : CursorData). turns_left way set l h.each counted (entered y (Some (record { more = e.more; body = e.body; width = 0 })) [])) is in
    let inside : AreFramesWithin way set h.each (f ∷ fs) = subst (AreFramesWithin way set h.each) frames h.frames in
    let elements : AreElementsWithin way set h.each (Some e) = subst (AreElementsWithin way set h.each) some inside.1 in
    moved way set l 1 1 n t t counted counted c (entered c' (Some (record {
      more = e.more;
      body = e.body;
      width = 0;
    })) []) h refl (nothing_within way set h.each) (
      subst (λ (y : CursorData). AreWithin way h.each (body_in set y.left)) (sym is) inside.0,
      elements,
      subst (λ (y : CursorData). AreFramesWithin way set h.each y.frames) (sym is) inside.2,
    )
    (rw (less, now) (le_refl (body_turns way l (body_in set []) + (1 + r + x + rest) + k + 1)))

-- one of a list is at most the greatest
most_at : (f : TemplateData → ℕ) (is : List Instruction) (ts : List Template) (i : ℕ) (u : Template) → slice_get ts i ≡ Some u
    → f (template_data is u) ≤ greatest (map f (map (template_data is) ts))
most_at f is [] i u e = absurd (cc e)
most_at f is (t ∷ ts) zero u e = let same : t ≡ u = cc e in rw (← same) (le-max_left (f (template_data is t)) (greatest (map f (map (template_data is) ts))))
most_at f is (t ∷ ts) (suc i) u e = le_trans (most_at f is ts i u e) (le-max_right (f (template_data is t)) (greatest (map f (map (template_data is) ts))))

-- A message begins.
pub message_begun : (way : Way) (set : Set) (l : Limits) (n t t' i : ℕ) (u : Template) (c : CursorData)
    → t + most_by way (tree_in set) l ≤ n → slice_get set.templates i ≡ Some u → t' ≡ t + 1 → c.left ≡ u.body.items → c.frames ≡ []
    → IsWithinTurns way set l 0 n t' 0 c
message_begun by_sequence set l n t t' i u c h found turns left frames =
    let most = most_at (λ v. 4 + body_size turn_weights l v.body) (instructions_from 0 set.nodes) set.templates i u found in
    let now : turns_left by_sequence set l 0 0 c ≡ body_size turn_weights l (body_in set u.body.items) + 1 + 0
    = ap (λ ns. body_size turn_weights l (body_in set ns) + frames_turns by_sequence set l c.frames + (l.max_total - 0) * 0) left
    ∙ ap (λ fs. body_size turn_weights l (body_in set u.body.items) + frames_turns by_sequence set l fs + (l.max_total - 0) * 0) frames
    ∙ ap (λ x. body_size turn_weights l (body_in set u.body.items) + 1 + x) (mul-zero (l.max_total - 0)) in
    record {
      each = 0;
      body = tt;
      frames = subst (AreFramesWithin by_sequence set 0) (sym frames) tt;
      most = rw now (fewer (body_size turn_weights l (body_in set u.body.items)) (most_by by_sequence (tree_in set) l) most);
      all = rw (now, turns) (all (body_size turn_weights l (body_in set u.body.items)) (most_by by_sequence (tree_in set) l) most h);
    }
  where
    fewer : (b m : ℕ) → 4 + b ≤ m → b + 1 + 0 ≤ m + 0
    fewer b m e = omega (arith, e)

    all : (b m : ℕ) → 4 + b ≤ m → t + m ≤ n → t + 1 + (b + 1 + 0) ≤ n + 0
    all b m e i = omega (arith, e, i)
message_begun by_message set l n t t' i u c h found turns left frames =
    let body = body_in set u.body.items in
    let most = most_at (λ v. 4 + body_outer turn_weights v.body + l.max_total * body_widest turn_weights v.body)
    (instructions_from 0 set.nodes) set.templates i u found in
    let w = body_widest turn_weights body in
    let full : l.max_total - 0 ≡ l.max_total = omega arith in
    let now : turns_left by_message set l w 0 c ≡ body_outer turn_weights body + 1 + l.max_total * w
    = ap (λ ns. body_outer turn_weights (body_in set ns) + frames_turns by_message set l c.frames + (l.max_total - 0) * w) left
    ∙ ap (λ fs. body_outer turn_weights body + frames_turns by_message set l fs + (l.max_total - 0) * w) frames
    ∙ ap (λ x. body_outer turn_weights body + 1 + x * w) full in
    record {
      each = w;
      body = rw left (le_refl w);
      frames = subst (AreFramesWithin by_message set w) (sym frames) tt;
      most = rw now (fewer (body_outer turn_weights body) (l.max_total * w) (most_by by_message (tree_in set) l) most);
      all = rw (now, turns) (all (body_outer turn_weights body) (l.max_total * w) (most_by by_message (tree_in set) l) most h);
    }
  where
    fewer : (b x m : ℕ) → 4 + b + x ≤ m → b + 1 + x ≤ m + 0
    fewer b x m e = omega (arith, e)

    all : (b x m : ℕ) → 4 + b + x ≤ m → t + m ≤ n → t + 1 + (b + 1 + x) ≤ n + 0
    all b x m e i = omega (arith, e, i)

-- the same of whatever comes behind the innermost segment
pub group_left : (way : Way) (set : Set) (l : Limits) (n t counted : ℕ) (c c' : CursorData) (elements : Option ElementsData) → c.left ≡ [] → ¬ (c.frames ≡ [])
    → ((f : FrameData) (fs : List FrameData) → c.frames ≡ f ∷ fs → (c' ≡ left_to c f fs) × (elements ≡ f.elements)) → elements ≡ None
    → IsWithinTurns way set l 1 n t counted c → IsWithinTurns way set l 0 n t counted c'
group_left way set l n t counted c c' elements ended inner left none h =
    let (f, fs, frames) = some_frame c.frames inner in
    let (is, same) = left f fs frames in
    group_closed way set l n t counted c c' f fs ended frames (sym same ∙ none) is h

pub element_left : (way : Way) (set : Set) (l : Limits) (n t counted : ℕ) (c c' : CursorData) (elements : Option ElementsData)
    (e : ElementsData) → c.left ≡ [] → ¬ (c.frames ≡ [])
    → ((f : FrameData) (fs : List FrameData) → c.frames ≡ f ∷ fs → (c' ≡ left_to c f fs) × (elements ≡ f.elements)) → elements ≡ Some e
    → IsWithinTurns way set l 1 n t counted c
    → IsWithinTurns way set l 1 n t counted (entered c' (Some (record { more = e.more; body = e.body; width = 0 })) [])
element_left way set l n t counted c c' elements e ended inner left some h =
    let (f, fs, frames) = some_frame c.frames inner in
    let (is, same) = left f fs frames in
    element_closed way set l n t counted c c' f fs e ended frames (sym same ∙ some) is h

-- A segment begins, with its map if it has one.
pub segment_turns : (way : Way) (set : Set) (l : Limits) (n : ℕ) (m m' : Machine) (turn : Turn) (width : ℕ)
    → (0 < width → (turn ≡ Waits) × (m' ≡ record m { waiting = SegmentMap width })) → (width ≡ 0 → (turn ≡ Handed) × (m' ≡ m))
    → HasTurns way set l 0 n m → HasTurnsBehind (Ok turn) way set l n m'
segment_turns way set l n m m' turn zero waits goes h = let (is, same) = goes refl in rw (is, same) h
segment_turns way set l n m m' turn (suc width) waits goes h = let (is, same) = waits (omega arith) in rw (is, same) h

-- an instruction has at least a turn
some_turn : (way : Way) (l : Limits) (i : Instruction) → 1 ≤ turns_of way l i
some_turn by_sequence l (field at f) = omega arith
some_turn by_sequence l (parts at e m) = omega arith
some_turn by_sequence l (group at b body) = omega arith
some_turn by_sequence l (sequence at f body) = omega arith
some_turn by_message l (field at f) = omega arith
some_turn by_message l (parts at e m) = omega arith
some_turn by_message l (group at b body) = omega arith
some_turn by_message l (sequence at f body) = omega arith

-- The turns that are left are the same, and those made are others, by what is said of any number left.
abbrev AreTurned : Way → Set → Limits → (n n' t t' : ℕ) → Type 0
AreTurned way set l n n' t t' = (x k : ℕ) → x ≤ most_by way (tree_in set) l + k → t + x ≤ n + k → t' + x ≤ n' + k

turned : (way : Way) (set : Set) (l : Limits) (k n n' t t' counted : ℕ) (c : CursorData) → AreTurned way set l n n' t t'
    → IsWithinTurns way set l k n t counted c → IsWithinTurns way set l k n' t' counted c
turned way set l k n n' t t' counted c so h = record {
  each = h.each;
  body = h.body;
  frames = h.frames;
  most = h.most;
  all = so (turns_left way set l h.each counted c) k h.most h.all;
}

turned_map : (way : Way) (set : Set) (l : Limits) (n n' t t' : ℕ) (map : List ℕ) → AreTurned way set l n n' t t' → HasTurnsInMap map way set l n t
    → HasTurnsInMap map way set l n' t'
turned_map way set l n n' t t' [] so h = let i = so 0 0 (omega arith) (omega (arith, h)) in omega (arith, i)
turned_map way set l n n' t t' (b ∷ w) so h = let i = so (most_by way (tree_in set) l) 0 (omega arith) (omega (arith, h)) in omega (arith, i)

turned_at : (w : Waiting) (way : Way) (set : Set) (l : Limits) (n n' : ℕ) (m : Machine) (t : Turns) → AreTurned way set l n n' m.turns.count t.count
    → HasTurnsAt w way set l n m → HasTurnsAt w way set l n' (record m { turns = t })
turned_at Map way set l n n' m t so h = turned_map way set l n n' m.turns.count t.count m.cursor.map so h
turned_at Identifier way set l n n' m t so h = turned_map way set l n n' m.turns.count t.count (0 ∷ []) so h
turned_at (SegmentMap width) way set l n n' m t so h = turned way set l 0 n n' m.turns.count t.count m.counted m.cursor so h
turned_at Field way set l n n' m t so h = turned way set l 1 n n' m.turns.count t.count m.counted m.cursor so h
turned_at (Mantissa x) way set l n n' m t so h = turned way set l 1 n n' m.turns.count t.count m.counted m.cursor so h

-- a unit more, with a turn that it pays for itself
pub one_unit : (way : Way) (set : Set) (l : Limits) (k n t t' counted : ℕ) (c : CursorData) → t' ≡ t + 1
    → IsWithinTurns way set l k n t counted c → IsWithinTurns way set l k (1 + n) t' counted c
one_unit way set l k n t t' counted c same h = turned way set l k n (1 + n) t t' counted c (λ x j most all. omega (arith, same, all)) h

-- The next instruction is passed.
pub passed : (way : Way) (set : Set) (l : Limits) (n t t' counted counted' : ℕ) (c c' : CursorData) (i : Instruction)
    → body_in set c.left ≡ step i (body_in set (drop 1 c.left)) → t' ≡ t → counted' ≡ counted
    → c'.left ≡ drop 1 c.left → c'.frames ≡ c.frames → IsWithinTurns way set l 1 n t counted c → IsWithinTurns way set l 0 n t' counted' c'
passed way set l n t t' counted counted' c c' i next turns same left frames h =
    let rest = body_in set (drop 1 c.left) in
    let within = within_next way h.each i rest (subst (AreWithin way h.each) next h.body) in
    let less : turns_left way set l h.each counted c ≡ (turns_of way l i + body_turns way l rest) + frames_turns way set l
    c.frames + (l.max_total - counted) * h.each
    = ap (λ b. body_turns way l b + frames_turns way set l c.frames + (l.max_total - counted) * h.each) next
    ∙ ap (λ x. x + frames_turns way set l c.frames + (l.max_total - counted) * h.each) (body_next way l i rest) in
    let now : turns_left way set l h.each counted' c' ≡ body_turns way l rest + frames_turns way set l c.frames + (l.max_total - counted) * h.each
    = ap (λ x. body_turns way l (body_in set c'.left) + frames_turns way set l c'.frames + (l.max_total - x) * h.each) same
    ∙ ap (λ ns. body_turns way l (body_in set ns) + frames_turns way set l c'.frames + (l.max_total - counted) * h.each) left
    ∙ ap (λ fs. body_turns way l rest + frames_turns way set l fs + (l.max_total - counted) * h.each) frames in
    moved way set l 1 0 n t t' counted counted' c c' h turns (subst (λ ns. AreWithin way h.each (body_in set ns)) (sym left) within.1)
    (subst (AreFramesWithin way set h.each) (sym frames) h.frames)
    (rw (less, now) (fewer (turns_of way l i) (body_turns way l rest) (frames_turns way set l c.frames) ((l.max_total - counted) * h.each) (some_turn way l i)))
  where
    fewer : (i b f e : ℕ) → 1 ≤ i → b + f + e + 1 ≤ i + b + f + e + 0
    fewer i b f e h = omega (arith, h)

-- A fault ends a turn that is counted.
pub fault_turns : (way : Way) (set : Set) (l : Limits) (n : ℕ) (m m' : Machine) (result : Result Turn FaultCode) (code : FaultCode)
    → result ≡ Err code → m'.turns.count ≡ m.turns.count → HasTurns way set l 1 n m → HasTurnsBehind result way set l n m'
fault_turns way set l n m m' result code is same h = rw (is, same) (turns_taken way set l n m.turns.count m.counted m.cursor h)

-- A field's value, or that of a decimal, is known, and the machine is past it.
pub finished : (way : Way) (set : Set) (l : Limits) (n : ℕ) (m m' : Machine) (i : Instruction) (result : Result Turn FaultCode)
    → body_in set m.cursor.left ≡ step i (body_in set (drop 1 m.cursor.left)) → m' ≡ record m { cursor = m'.cursor }
    → OnOk result (IsPast m.cursor m'.cursor) → result ≢ Ok Waits → HasTurns way set l 1 n m → HasTurnsBehind result way set l n m'
finished way set l n m m' i (Ok Waits) next same past on h = absurd (on refl)
finished way set l n m m' i (Err code) next same past on h = fault_turns way set l n m m' (Err code) code refl (ap (λ (x : Machine). x.turns.count) same) h
finished way set l n m m' i (Ok Silent) next same past on h =
    passed way set l n m.turns.count m'.turns.count m.counted m'.counted m.cursor m'.cursor i next
    (ap (λ (x : Machine). x.turns.count) same) (ap (λ (x : Machine). x.counted) same) (ap (λ (x : CursorData). x.left) past.same)
    (ap (λ (x : CursorData). x.frames) past.same) h
finished way set l n m m' i (Ok Handed) next same past on h =
    passed way set l n m.turns.count m'.turns.count m.counted m'.counted m.cursor m'.cursor i next
    (ap (λ (x : Machine). x.turns.count) same) (ap (λ (x : Machine). x.counted) same) (ap (λ (x : CursorData). x.left) past.same)
    (ap (λ (x : CursorData). x.frames) past.same) h

-- The elements that a length claims are within the limit of a sequence.
pub claim_within : (l : Limits) (before k m : ℕ) → within_limits (bounds l) before k ≡ Ok m → m ≤ l.max_elements
claim_within l before k m e = by (nat_le k l.max_elements) refl (nat_le (before + k) l.max_total) e
  where
    by : (a : Bool) → nat_le k l.max_elements ≡ a → (b : Bool)
        → ◌≡◌ {A = Result ℕ Code} (if a then (if b then Ok k else Err L5) else Err L2) (Ok m) → m ≤ l.max_elements
    by true f true g = let i : k ≡ m = cc g in subst (λ x. x ≤ l.max_elements) i (leb-true k l.max_elements f)
    by true f false g = absurd (cc g)
    by false f b g = absurd (cc g)

-- Of a machine that counts anew what is left is within the most turns of a message.
pub counted_anew : (way : Way) (set : Set) (l : Limits) (n : ℕ) (m : Machine) (t : Turns) → t.count ≡ 0 → HasTurnsWaiting way set l n m
    → HasTurnsWaiting way set l (most_by way (tree_in set) l) (record m { turns = t })
counted_anew way set l n m t none h =
    turned_at m.waiting way set l n (most_by way (tree_in set) l) m t (λ x k most all. omega (arith, none, most)) h

-- The turns of a machine that waits are within the number.
taken_map : (way : Way) (set : Set) (l : Limits) (n t : ℕ) (map : List ℕ) → HasTurnsInMap map way set l n t → t ≤ n
taken_map way set l n t [] h = h
taken_map way set l n t (b ∷ w) h = omega (arith, h)

taken_at : (w : Waiting) (way : Way) (set : Set) (l : Limits) (n : ℕ) (m : Machine) → HasTurnsAt w way set l n m → m.turns.count ≤ n
taken_at Map way set l n m h = taken_map way set l n m.turns.count m.cursor.map h
taken_at Identifier way set l n m h = omega (arith, h)
taken_at (SegmentMap width) way set l n m h = none_taken way set l n m.turns.count m.counted m.cursor h
taken_at Field way set l n m h = turns_taken way set l n m.turns.count m.counted m.cursor h
taken_at (Mantissa x) way set l n m h = turns_taken way set l n m.turns.count m.counted m.cursor h

pub waiting_taken : (way : Way) (set : Set) (l : Limits) (n : ℕ) (m : Machine) → HasTurnsWaiting way set l n m → m.turns.count ≤ n
waiting_taken way set l n m h = taken_at m.waiting way set l n m h

-- More turns are allowed.
more : (way : Way) (set : Set) (l : Limits) (n n' t : ℕ) → n ≤ n' → AreTurned way set l n n' t t
more way set l n n' t less x k most all = omega (arith, less, all)

more_at : (w : Waiting) (way : Way) (set : Set) (l : Limits) (n n' : ℕ) (m : Machine) → n ≤ n' → HasTurnsAt w way set l n m → HasTurnsAt w way set l n' m
more_at w way set l n n' m less h = turned_at w way set l n n' m m.turns (more way set l n n' m.turns.count less) h

-- So they are behind a turn, however it ends.
pub more_behind : (result : Result Turn FaultCode) (way : Way) (set : Set) (l : Limits) (n n' : ℕ) (m : Machine) → n ≤ n'
    → HasTurnsBehind result way set l n m → HasTurnsBehind result way set l n' m
more_behind (Ok Silent) way set l n n' m less h = more_at (SegmentMap 0) way set l n n' m less h
more_behind (Ok Handed) way set l n n' m less h = more_at (SegmentMap 0) way set l n n' m less h
more_behind (Ok Waits) way set l n n' m less h = more_at m.waiting way set l n n' m less h
more_behind (Err c) way set l n n' m less h = le_trans h less

-- Of an instruction that is next a turn may be taken already.
pub one_taken : (way : Way) (set : Set) (l : Limits) (n t counted : ℕ) (c : CursorData) → IsWithinTurns way set l 0 n t counted c
    → IsWithinTurns way set l 1 n t counted c
one_taken way set l n t counted c h = let most = h.most in let all = h.all in record {
  each = h.each;
  body = h.body;
  frames = h.frames;
  most = omega (arith, most);
  all = omega (arith, all);
}

-- The same where it is counted.
pub one_turn : (way : Way) (set : Set) (l : Limits) (n t t' counted : ℕ) (c : CursorData) → t' ≡ t + 1
    → IsWithinTurns way set l 0 n t counted c → IsWithinTurns way set l 1 n t' counted c
one_turn way set l n t t' counted c same h = let most = h.most in let all = h.all in record {
  each = h.each;
  body = h.body;
  frames = h.frames;
  most = omega (arith, most);
  all = omega (arith, same, all);
}

-- A unit more, with a turn that it pays for itself.
pub unit_paid : (way : Way) (set : Set) (l : Limits) (n : ℕ) (m : Machine) (t : Turns) → t.count ≡ m.turns.count + 1
    → HasTurnsWaiting way set l n m → HasTurnsWaiting way set l (1 + n) (record m { turns = t })
unit_paid way set l n m t e h = turned_at m.waiting way set l n (1 + n) m t (λ x k most all. omega (arith, e, all)) h

-- So many bytes of a call were taken. With the first of them a message goes on, or one begins.
abbrev pub IsSpent : Way → Set → Limits → ℕ → Machine → Type 0
IsSpent way set l zero m = (m.turns.count ≡ 0) × HasTurnsWaiting way set l (most_by way (tree_in set) l) m
IsSpent way set l (suc k) m = HasTurnsWaiting way set l (suc k * (1 + most_by way (tree_in set) l)) m

-- what may be spent before the next unit
record CanSpend (way : Way) (set : Set) (l : Limits) (k : ℕ) (m : Machine) : Type 0 where
  upto : ℕ
  has : HasTurnsWaiting way set l upto m
  within : upto + turns_begun_at m.waiting m.cursor.map way (tree_in set) l ≤ k * (1 + most_by way (tree_in set) l) + most_by way (tree_in set) l

begun_map : (way : Way) (t : Tree) (l : Limits) (map : List ℕ) → turns_begun map way t l ≤ most_by way t l
begun_map way t l [] = le_refl (most_by way t l)
begun_map way t l (b ∷ w) = omega arith

begun_within : (way : Way) (t : Tree) (l : Limits) (w : Waiting) (map : List ℕ) → turns_begun_at w map way t l ≤ most_by way t l
begun_within way t l Map map = begun_map way t l map
begun_within way t l Identifier map = omega arith
begun_within way t l (SegmentMap width) map = omega arith
begun_within way t l Field map = omega arith
begun_within way t l (Mantissa x) map = omega arith

-- Bytes of a unit pay for its own turn, and for those of a message that it begins.
pub unit_covers : (way : Way) (set : Set) (l : Limits) (n bytes : ℕ) (m : Machine) → 0 < bytes
    → 1 + n + turns_begun_at m.waiting m.cursor.map way (tree_in set) l ≤ n + bytes * (1 + most_by way (tree_in set) l)
unit_covers way set l n bytes m some =
    up n (turns_begun_at m.waiting m.cursor.map way (tree_in set) l) (most_by way (tree_in set) l)
    (bytes * (1 + most_by way (tree_in set) l)) (begun_within way (tree_in set) l m.waiting m.cursor.map)
    (mul-le-mul_right (1 + most_by way (tree_in set) l) some)
  where
    up : (n b m x : ℕ) → b ≤ m → 1 * (1 + m) ≤ x → 1 + n + b ≤ n + x
    up n b m x i j = omega (arith, i, j)

-- at the first unit of a call
first_map : (way : Way) (set : Set) (l : Limits) (t : ℕ) (map : List ℕ) → t ≡ 0
    → (n : ℕ) × HasTurnsInMap map way set l n t × (n + turns_begun map way
    (tree_in set) l ≤ 0 * (1 + most_by way (tree_in set) l) + most_by way (tree_in set) l)
first_map way set l t [] e = (0, omega (arith, e), omega arith)
first_map way set l t (b ∷ w) e = (most_by way (tree_in set) l, omega (arith, e), omega arith)

first_at : (w : Waiting) (way : Way) (set : Set) (l : Limits) (m : Machine) → m.turns.count ≡ 0 → HasTurnsAt w way set l (most_by way (tree_in set) l) m
    → (n : ℕ) × HasTurnsAt w way set l n m × (n + turns_begun_at w m.cursor.map way
    (tree_in set) l ≤ 0 * (1 + most_by way (tree_in set) l) + most_by way (tree_in set) l)
first_at Map way set l m e h = first_map way set l m.turns.count m.cursor.map e
first_at Identifier way set l m e h = (most_by way (tree_in set) l, h, omega arith)
first_at (SegmentMap width) way set l m e h = (most_by way (tree_in set) l, h, omega arith)
first_at Field way set l m e h = (most_by way (tree_in set) l, h, omega arith)
first_at (Mantissa x) way set l m e h = (most_by way (tree_in set) l, h, omega arith)

can_spend : (way : Way) (set : Set) (l : Limits) (k : ℕ) (m : Machine) → IsSpent way set l k m → CanSpend way set l k m
can_spend way set l zero m h = let (n, has, within) = first_at m.waiting way set l m h.0 h.1 in record { upto = n; has = has; within = within }
can_spend way set l (suc k) m h = let begun = begun_within way (tree_in set) l m.waiting m.cursor.map in record {
  upto = suc k * (1 + most_by way (tree_in set) l);
  has = h;
  within = omega (arith, begun);
}

-- A unit pays for its own turn, and for those of the message that it begins, and units behind it pay for theirs.
some_pay : (k n more x b m : ℕ) → more < n → x + b ≤ k * (1 + m) + m → 1 + x + b + more * (1 + m) ≤ (k + n) * (1 + m)
some_pay k n more x b m some h = rw (add-mul k n (1 + m))
    (up (k * (1 + m)) (n * (1 + m)) (more * (1 + m)) x b m
    (subst (λ y. y ≤ n * (1 + m)) (suc-mul more (1 + m)) (mul-le-mul_right (1 + m) some)) h)
  where
    up : (p q r x b m : ℕ) → r + (1 + m) ≤ q → x + b ≤ p + m → 1 + x + b + r ≤ p + q
    up p q r x b m i j = omega (arith, i, j)

pub after_some : (way : Way) (set : Set) (l : Limits) (k n : ℕ) (m m' : Machine) (r : Result Unit FaultCode) → IsSpent way set l k m
    → IsCountedBy r way set l n m m' → HasTurnsAfter r way set l ((k + n) * (1 + most_by way (tree_in set) l)) m'
after_some way set l k n m m' (Ok u) h (more, some, counted) =
    let s = can_spend way set l k m h in
    let t = turns_begun_at m.waiting m.cursor.map way (tree_in set) l in
    more_at m'.waiting way set l (1 + s.upto + t + more * (1 + most_by way (tree_in set) l))
    ((k + n) * (1 + most_by way (tree_in set) l)) m' (some_pay k n more s.upto t (most_by way (tree_in set) l) some s.within)
    (counted s.upto s.has)
after_some way set l k n m m' (Err code) h (more, some, counted) =
    let s = can_spend way set l k m h in
    let t = turns_begun_at m.waiting m.cursor.map way (tree_in set) l in
    le_trans (counted s.upto s.has) (some_pay k n more s.upto t (most_by way (tree_in set) l) some s.within)

spent_of : (way : Way) (set : Set) (l : Limits) (k : ℕ) (m : Machine) → 0 < k
    → HasTurnsWaiting way set l (k * (1 + most_by way (tree_in set) l)) m → IsSpent way set l k m
spent_of way set l zero m some h = absurd (omega (arith, some))
spent_of way set l (suc k) m some h = h

pub still_spent : (way : Way) (set : Set) (l : Limits) (k n : ℕ) (m m' : Machine) (r : Result Unit FaultCode) → is_err r ≡ false → 0 < n
    → IsSpent way set l k m → IsCountedBy r way set l n m m' → IsSpent way set l (k + n) m'
still_spent way set l k n m m' (Ok u) ok some h counted = spent_of way set l (k + n) m' (omega (arith, some)) (after_some way set l k n m m' (Ok u) h counted)
still_spent way set l k n m m' (Err code) ok some h counted = absurd (cc ok)

-- At the end of a call its bytes have paid.
pub all_paid : (way : Way) (set : Set) (l : Limits) (k : ℕ) (m : Machine) (r : Result Unit FaultCode)
    → HasTurnsAfter r way set l (k * (1 + most_by way (tree_in set) l)) m
    → (m.turns.count ≤ k * (1 + most_by way (tree_in set) l)) × OnOk r ((n : ℕ) × HasTurnsWaiting way set l n m)
all_paid way set l k m (Ok u) h = (waiting_taken way set l (k * (1 + most_by way (tree_in set) l)) m h, (k * (1 + most_by way (tree_in set) l), h))
all_paid way set l k m (Err code) h = (h, tt)

pub spent_paid : (way : Way) (set : Set) (l : Limits) (k : ℕ) (m : Machine) → IsSpent way set l k m
    → (m.turns.count ≤ k * (1 + most_by way (tree_in set) l)) × ((n : ℕ) × HasTurnsWaiting way set l n m)
spent_paid way set l zero m h = (let e = h.0 in omega (arith, e), (most_by way (tree_in set) l, h.1))
spent_paid way set l (suc k) m h = (waiting_taken way set l (suc k * (1 + most_by way (tree_in set) l)) m h, (suc k * (1 + most_by way (tree_in set) l), h))

-- Whatever bounds the elements, they have: so the turns are within the bytes times one more than W.
pub turns_bounded : (t : Tree) (l : Limits) (k turns : ℕ) → ((way : Way) → turns ≤ k * (1 + most_by way t l)) → turns ≤ k * (1 + turn_cap t l)
turns_bounded t l k turns h = least (product_cap turn_weights t l) (sum_cap turn_weights t l) (h by_sequence) (h by_message)
  where
    lt-le : (a b : ℕ) → a < b → a ≤ b
    lt-le a b h = omega (arith, h)

    least : (a b : ℕ) → turns ≤ k * (1 + a) → turns ≤ k * (1 + b) → turns ≤ k * (1 + min a b)
    least a b i j = elim (cases_lt a b) [
      | inl less ↦ rw (min-eq_left (lt-le a b less)) i
      | inr more ↦ rw (min_comm a b, min-eq_left more) j
    ]

-- A machine of which nothing was read.
pub fresh_turns : (set : Set) (l : Limits) (m : Machine) → IsFresh set m → IsWithinMessage set l m
fresh_turns set l m f way =
    let map : m.cursor.map ≡ [] = ap (λ (c : CursorData). c.map) f.cursor in (
      0,
      subst (λ (w : Waiting). HasTurnsAt w way set l 0 m) (sym f.waiting)
          (subst (λ w. HasTurnsInMap w way set l 0 m.turns.count) (sym map) (let e = f.turns in omega (arith, e))),
    )

-- A unit of a message that is begun: no other turns are begun with it.
none_more : (k x : ℕ) → x ≡ 0 → k ≡ k + x
none_more k x e = omega (arith, e)

pub paid_awaited : (way : Way) (set : Set) (l : Limits) (n : ℕ) (m a : Machine) (turn : Result Turn FaultCode) (w : Waiting)
    → m.waiting ≡ w → turns_begun_at w m.cursor.map way (tree_in set) l ≡ 0
    → (HasTurnsAt w way set l n m → HasTurnsBehind turn way set l n a) → HasTurnsWaiting way set l n m
    → HasTurnsBehind turn way set l (n + turns_begun_at m.waiting m.cursor.map way (tree_in set) l) a
paid_awaited way set l n m a turn w is none f h =
    subst (λ (k : ℕ). HasTurnsBehind turn way set l k a)
    (none_more n (turns_begun_at m.waiting m.cursor.map way (tree_in set) l)
    (ap (λ (v : Waiting). turns_begun_at v m.cursor.map way (tree_in set) l) is ∙ none))
    (f (subst (λ (v : Waiting). HasTurnsAt v way set l n m) is h))
