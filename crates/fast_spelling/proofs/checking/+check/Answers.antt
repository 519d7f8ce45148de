-- Slots, groups and sequences are written as they are encoded, and suit and fit.
use Rattle.std.proofs.Common.{◌≡◌, ◌<◌, ◌≤◌, ◌+◌, ◌*◌, ◌++◌, ◌∷◌, [], ℕ, List, Bool, length, refl, ap, sym, subst, ◌∙◌, arith}
use Rattle.std.specs.Prelude.{◌^◌, true, false, if◌then◌else◌, vec_len, Option, Some, None, option_map, Result, Ok, Err, OnOk, is_ok}
use Rattle.std.proofs.lemmas.List.{length-append, length-map}
use Rattle.fast_value.specs.declared.messages.Item.{Item}
use Rattle.fast_value.specs.declared.settings.Limits.{Limits}
use Rattle.fast_value.specs.meaning.Kinds.{ScalarData, U, text_of}
use Rattle.fast_value.specs.meaning.Messages.{ItemData, one, group as group_item, sequence as sequence_item, count, total, rows_total}
use Rattle.fast_value.specs.meaning.Values.{value_data}
use Rattle.fast_value.specs.meaning.Views.{item_data, slots_data, elements_data}
use Rattle.fast_value.proofs.ItemViews.{item_data-One, item_data-Group, item_data-Sequence, count-elements_data}
use Rattle.fast_tree.specs.declared.instructions.Shape.TheVariants.{Group, Sequence}
use Rattle.fast_tree.specs.declared.instructions.Shape.{Shape}
use Rattle.fast_tree.specs.meaning.Nodes.{label_of, body_among}
use Rattle.fast_tree.specs.meaning.Tree.{FieldData}
use Rattle.fast_tree.specs.meaning.Numbers.{numbers_of, AreBetween}
use Rattle.fast_template.specs.meaning.Flat.{nodes_of, tree_of, field_data}
use Rattle.fast_tree.specs.device.Bodies.{instruction_among}
use Rattle.std.specs.declared.vec.Vec.{Vec}
use Rattle.std.specs.declared.alloc.Global.{Global}
use Rattle.fast_spelling.specs.device.Nodes.{instruction_in, Keeps}
use Rattle.fast_spelling.specs.meaning.Encoding.{EncodesField, EncodesBody, EncodesSegment, EncodesElements}
use Rattle.fast_spelling.specs.device.Fields.{Wrote}
use Rattle.fast_spelling.specs.meaning.Suiting.{SuitsBody}
use Rattle.fast_spelling.proofs.encodings.Instructions.{at_shape, usable_at, short_at, served, encodes_as, group_encodes, sequence_encodes}
use Rattle.fast_spelling.proofs.limits.Depths.{item_depth, option_depth, slots_depth, rows_depth, option_depth_at, row_depth}
use Rattle.fast_spelling.proofs.encodings.Progress.{written_start, more_at, all_written, IsClosed, ready_kept, keeps_on, keeps_all}
use Rattle.fast_spelling.proofs.encodings.Progress.{row_more, rows_start, rows_done, has_bits, slots_last, on_handed_on, mark_inside}
use Rattle.fast_spelling.proofs.limits.Suited.{one_suits, no_slot_suits, no_row_suits}
use Rattle.fast_spelling.proofs.limits.Checked.{accepted_as, one_fits, one_total, one_row_right, one_row_fits, one_row_total, no_row_fits, no_row_total, on_any}
use Rattle.fast_spelling.proofs.encodings.Sealed.{sealed}
use Rattle.fast_spelling.specs.declared.forms.BodyStep.{BodyStep}
use Rattle.fast_spelling.specs.device.Forms.{body_step, body_steps}
use Rattle.fast_spelling.specs.declared.forms.Form.TheVariants.{PlainUInt32}
use Rattle.fast_spelling.specs.declared.forms.Absence.TheVariants.{Refused}
use Rattle.fast_spelling.proofs.rules.FormsTold.{step_in}
use Rattle.fast_spelling.specs.declared.faults.EncodeFault.{EncodeFault}
use Rattle.fast_spelling.specs.declared.plan.Work.{Work}
use Rattle.fast_spelling.specs.device.Checked.{IsAccepted}
use Rattle.fast_spelling.specs.meaning.Encoding.{Encodes}
use Rattle.fast_spelling.specs.meaning.Suiting.{Suits}
use Rattle.fast_tree.specs.meaning.Tree.{Instruction}
use Rattle.std.specs.Prelude.{get_or}
use mathlib.Core.List.{not-mem-nil}
use Rattle.fast_spelling.proofs.checking.+check.Goals as goal
use Rattle.fast_spelling.proofs.checking.+check.Goals.{try_body-in-PlainUInt32, try_body-in-PlainInt32, try_body-in-PlainUInt64}
use Rattle.fast_spelling.proofs.checking.+check.Goals.{try_body-in-PlainInt64, try_body-in-ConstantUInt32, try_body-in-ConstantInt32}
use Rattle.fast_spelling.proofs.checking.+check.Goals.{try_body-in-ConstantUInt64, try_body-in-ConstantInt64, try_body-in-DefaultUInt32}
use Rattle.fast_spelling.proofs.checking.+check.Goals.{try_body-in-DefaultInt32, try_body-in-DefaultUInt64, try_body-in-DefaultInt64}
use Rattle.fast_spelling.proofs.checking.+check.Goals.{try_body-in-CopyUInt32, try_body-in-CopyInt32, try_body-in-CopyUInt64}
use Rattle.fast_spelling.proofs.checking.+check.Goals.{try_body-in-CopyInt64, try_body-in-IncrementUInt32, try_body-in-IncrementInt32}
use Rattle.fast_spelling.proofs.checking.+check.Goals.{try_body-in-IncrementUInt64, try_body-in-IncrementInt64, try_body-in-DeltaUInt32}
use Rattle.fast_spelling.proofs.checking.+check.Goals.{try_body-in-DeltaInt32, try_body-in-DeltaUInt64, try_body-in-DeltaInt64}
use Rattle.fast_spelling.proofs.checking.+check.Goals.{try_body-in-PlainAscii, try_body-in-ConstantAscii, try_body-in-DefaultAscii}
use Rattle.fast_spelling.proofs.checking.+check.Goals.{try_body-in-CopyAscii, try_body-in-TailAscii, try_body-in-DeltaAscii}
use Rattle.fast_spelling.proofs.checking.+check.Goals.{try_body-in-PlainUnicode, try_body-in-DeltaUnicode, try_body-in-PlainBytes}
use Rattle.fast_spelling.proofs.checking.+check.Goals.{try_body-in-TailBytes, try_body-in-PlainDecimal, try_body-in-CopyDecimal}
use Rattle.fast_spelling.proofs.checking.+check.Goals.{try_body-in-DeltaDecimal, try_body-in-DefaultParts, try_body-in-CopyParts}
use Rattle.fast_spelling.proofs.checking.+check.Goals.{try_body-in-Other}

-- what an index past the end would read
abbrev no_step : BodyStep
no_step = record { node = 0; step = record { form = PlainUInt32; absence = Refused; nullable = false; entry = 0 } }

pub try_body-loop-i-init : goal.try_body-loop-i-init
try_body-loop-i-init t c =
    record {
      written = written_start c.args.plan.now.limits (body_among (nodes_of c.args.plan.now.templates.now) c.args.body.now)
          (slots_data c.args.slots.now) c.args.work.now.ledger.now c.args.work.now.draft;
      suits = λ h. h;
      fits = λ h. h;
      sum = refl;
      ready = c.requires.ready;
      keeps = keeps_all c.args.work.now.ledger;
    }

pub try_body-try_item-requires : goal.try_body-try_item-requires
try_body-try_item-requires t c =
    let i = c.loop-i.i in
    let x = c.index-slots-i.result in
    let inside : i < length c.args.body.now = omega (arith, c.if-not-has_slot_for_each.ensures.0 refl, c.loop-i-test.true) in
    let d : 4 * slots_depth (slots_data c.args.slots.now) + 2 ≡ t = c.decreases in
    let deep : item_depth (item_data c.in-Some.item) ≤ slots_depth (slots_data c.args.slots.now) =
    subst (λ (z : Option Item). option_depth (option_map item_data z) ≤ slots_depth (slots_data c.args.slots.now)) c.in-Some.is
    (option_depth_at c.args.slots.now i x c.loop-i-test.true c.index-slots-i.is) in
    let smaller : 4 * item_depth (item_data c.in-Some.item) < t = omega (arith, d, deep) in
    let stands = step_in (nodes_of c.args.plan.now.templates.now) c.args.body.now c.args.steps.now i no_step c.requires.steps
    c.requires.nodes inside in
    (smaller, (stands.1, c.loop-i.invariant.ready))

on_both : {R E : Type 0} {P Q S : Type 0} (r : Result R E) → OnOk r P → OnOk r Q → (P → Q → S) → OnOk r S
on_both (Ok x) p q f = f p q
on_both (Err x) p q f = tt

of_ok : {R E : Type 0} {P : Type 0} (r : Result R E) → OnOk r P → is_ok r ≡ true → P
of_ok (Ok x) h e = h
of_ok (Err x) h e = absurd (cc e)

-- What is so where a value was tried.
record Tried (l : Limits) (i : Instruction) (old : Work) (v : ScalarData) (new : Work) (r : Result (Unit {0}) EncodeFault) : Type 0 where
  pub suits : OnOk r (Suits i (Some (one v)))
  pub fits : OnOk r (length (text_of v) ≤ l.max_text)
  pub ok : OnOk r (Wrote (Encodes l i old.ledger.now (Some (one v))) old.draft new.draft new.ledger.now)
  pub keeps : Keeps old.ledger new.ledger
  pub room : new.room ≡ old.room

moved : (l : Limits) (i : Instruction) (old : Work) (v : ScalarData) (new new' : Work) (r r' : Result (Unit {0}) EncodeFault) → new' ≡ new
    → r' ≡ r → Tried l i old v new r → Tried l i old v new' r'
moved l i old v new new' r r' e f h = subst (λ (z : Work). Tried l i old v z r') (sym e)
    (subst (λ (z : Result (Unit {0}) EncodeFault). Tried l i old v new z) (sym f) h)

pub try_body-loop-i-preserved-in_default : goal.try_body-loop-i-preserved-in_default
try_body-loop-i-preserved-in_default t c =
    let l = c.args.plan.now.limits in
    let nodes = nodes_of c.args.plan.now.templates.now in
    let i = c.loop-i.i in
    let here = instruction_in nodes (get_or c.args.body.now i 0) in
    let old = c.loop-i.work in
    let new = c.try_none.new.work in
    let x = c.index-slots-i.result in
    let inv = c.loop-i.invariant in
    let inside : i < length c.args.body.now = omega (arith, c.if-not-has_slot_for_each.ensures.0 refl, c.loop-i-test.true) in
    let good : is_ok c.try_none.result ≡ true = c.if-is_err.ensures.negation in
    let keeps : Keeps old.ledger new.ledger = c.try_none.ensures.keeps in
    let item : option_map item_data x ≡ None = ap (option_map item_data) c.in_default.is in
    let stands = step_in nodes c.args.body.now c.args.steps.now i no_step c.requires.steps c.requires.nodes inside in
    let accepted = subst (λ (n : ℕ). IsAccepted l (instruction_in nodes n) None old.room new.room) stands.0
    (of_ok c.try_none.result c.try_none.ensures.suits good, c.try_none.ensures.room) in
    let wrote = subst (λ (n : ℕ). Wrote (Encodes l (instruction_in nodes n) old.ledger.now None) old.draft new.draft new.ledger.now) stands.0
    (of_ok c.try_none.result c.try_none.ensures.ok good) in
    let a : IsAccepted l here (option_map item_data x) old.room new.room =
    subst (λ (y : Option ItemData). IsAccepted l here y old.room new.room) (sym item) accepted in
    let ok : Wrote (Encodes l here old.ledger.now (option_map item_data x)) old.draft new.draft new.ledger.now =
    subst (λ (y : Option ItemData). Wrote (Encodes l here old.ledger.now y) old.draft new.draft new.ledger.now) (sym item) wrote in
    let count = one_total l c.args.slots.now i x c.loop-i-test.true c.index-slots-i.is old.room new.room a.1 in
    record {
      written = more_at l nodes c.args.body.now c.args.slots.now i x inside c.loop-i-test.true c.index-slots-i.is
          c.args.work.now.ledger.now c.args.work.now.draft old.ledger.now new.ledger.now old.draft new.draft inv.written ok;
      suits = λ h. inv.suits (one_suits nodes c.args.body.now c.args.slots.now i x inside c.loop-i-test.true c.index-slots-i.is a.0 h);
      fits = λ h. inv.fits (one_fits l c.args.slots.now i x c.loop-i-test.true c.index-slots-i.is old.room new.room a.1 h);
      sum = let before = inv.sum in omega (arith, count, before);
      ready = ready_kept c.args.plan.now.templates.now l old.ledger new.ledger inv.ready keeps;
      keeps = keeps_on c.args.work.now.ledger old.ledger new.ledger inv.keeps keeps;
    }

pub try_body-loop-i-preserved-in_default-item : goal.try_body-loop-i-preserved-in_default-item
try_body-loop-i-preserved-in_default-item t c =
    let l = c.args.plan.now.limits in
    let nodes = nodes_of c.args.plan.now.templates.now in
    let i = c.loop-i.i in
    let here = instruction_in nodes (get_or c.args.body.now i 0) in
    let old = c.loop-i.work in
    let new = c.try_item.new.work in
    let x = c.index-slots-i.result in
    let inv = c.loop-i.invariant in
    let inside : i < length c.args.body.now = omega (arith, c.if-not-has_slot_for_each.ensures.0 refl, c.loop-i-test.true) in
    let k = c.if-not-try_item.ensures in
    let keeps : Keeps old.ledger new.ledger = c.try_item.ensures.keeps in
    let item : option_map item_data x ≡ Some (item_data c.in-Some.item) = ap (option_map item_data) c.in-Some.is in
    let stands = step_in nodes c.args.body.now c.args.steps.now i no_step c.requires.steps c.requires.nodes inside in
    let y = Some (item_data c.in-Some.item) in
    let accepted = subst (λ (n : ℕ). IsAccepted l (instruction_in nodes n) y old.room new.room) stands.0 (k.accepted refl) in
    let wrote = subst (λ (n : ℕ). Wrote (Encodes l (instruction_in nodes n) old.ledger.now y) old.draft new.draft new.ledger.now) stands.0 (k.ok refl) in
    let a : IsAccepted l here (option_map item_data x) old.room new.room =
    subst (λ (y : Option ItemData). IsAccepted l here y old.room new.room) (sym item) accepted in
    let ok : Wrote (Encodes l here old.ledger.now (option_map item_data x)) old.draft new.draft new.ledger.now =
    subst (λ (y : Option ItemData). Wrote (Encodes l here old.ledger.now y) old.draft new.draft new.ledger.now) (sym item) wrote in
    let count = one_total l c.args.slots.now i x c.loop-i-test.true c.index-slots-i.is old.room new.room a.1 in
    record {
      written = more_at l nodes c.args.body.now c.args.slots.now i x inside c.loop-i-test.true c.index-slots-i.is
          c.args.work.now.ledger.now c.args.work.now.draft old.ledger.now new.ledger.now old.draft new.draft inv.written ok;
      suits = λ h. inv.suits (one_suits nodes c.args.body.now c.args.slots.now i x inside c.loop-i-test.true c.index-slots-i.is a.0 h);
      fits = λ h. inv.fits (one_fits l c.args.slots.now i x c.loop-i-test.true c.index-slots-i.is old.room new.room a.1 h);
      sum = let before = inv.sum in omega (arith, count, before);
      ready = ready_kept c.args.plan.now.templates.now l old.ledger new.ledger inv.ready keeps;
      keeps = keeps_on c.args.work.now.ledger old.ledger new.ledger inv.keeps keeps;
    }

-- Each arm is asked what the invariant, and the form that it is, say.
pub try_body-try_plain_unsigned-done-requires-clause-node : goal.try_body-try_plain_unsigned-done-requires-clause-node
try_body-try_plain_unsigned-done-requires-clause-node t c =
    (step_in (nodes_of c.args.plan.now.templates.now) c.args.body.now c.args.steps.now c.loop-i.i no_step c.requires.steps
    c.requires.nodes (omega (arith, c.if-not-has_slot_for_each.ensures.0 refl, c.loop-i-test.true))).1

pub try_body-try_plain_unsigned-done-requires-clause-form : goal.try_body-try_plain_unsigned-done-requires-clause-form
try_body-try_plain_unsigned-done-requires-clause-form t c = c.in-PlainUInt32.ensures

pub try_body-try_plain_unsigned-done-requires-clause-ready : goal.try_body-try_plain_unsigned-done-requires-clause-ready
try_body-try_plain_unsigned-done-requires-clause-ready t c = c.loop-i.invariant.ready

pub try_body-try_plain-done-requires-clause-node : goal.try_body-try_plain-done-requires-clause-node
try_body-try_plain-done-requires-clause-node t c = (step_in (nodes_of c.args.plan.now.templates.now) c.args.body.now c.args.steps.now
    c.loop-i.i no_step c.requires.steps
    c.requires.nodes (omega (arith, c.if-not-has_slot_for_each.ensures.0 refl, c.loop-i-test.true))).1

pub try_body-try_plain-done-requires-clause-form : goal.try_body-try_plain-done-requires-clause-form
try_body-try_plain-done-requires-clause-form t c = c.in-PlainInt32.ensures

pub try_body-try_plain-done-requires-clause-ready : goal.try_body-try_plain-done-requires-clause-ready
try_body-try_plain-done-requires-clause-ready t c = c.loop-i.invariant.ready

pub try_body-try_plain_unsigned-done-requires-in-PlainUInt64-clause-node : goal.try_body-try_plain_unsigned-done-requires-in-PlainUInt64-clause-node
try_body-try_plain_unsigned-done-requires-in-PlainUInt64-clause-node t c =
    (step_in (nodes_of c.args.plan.now.templates.now) c.args.body.now c.args.steps.now c.loop-i.i no_step c.requires.steps
    c.requires.nodes (omega (arith, c.if-not-has_slot_for_each.ensures.0 refl, c.loop-i-test.true))).1

pub try_body-try_plain_unsigned-done-requires-in-PlainUInt64-clause-form : goal.try_body-try_plain_unsigned-done-requires-in-PlainUInt64-clause-form
try_body-try_plain_unsigned-done-requires-in-PlainUInt64-clause-form t c = c.in-PlainUInt64.ensures

pub try_body-try_plain_unsigned-done-requires-in-PlainUInt64-clause-ready : goal.try_body-try_plain_unsigned-done-requires-in-PlainUInt64-clause-ready
try_body-try_plain_unsigned-done-requires-in-PlainUInt64-clause-ready t c = c.loop-i.invariant.ready

pub try_body-try_plain-done-requires-in-PlainInt64-clause-node : goal.try_body-try_plain-done-requires-in-PlainInt64-clause-node
try_body-try_plain-done-requires-in-PlainInt64-clause-node t c =
    (step_in (nodes_of c.args.plan.now.templates.now) c.args.body.now c.args.steps.now c.loop-i.i no_step c.requires.steps
    c.requires.nodes (omega (arith, c.if-not-has_slot_for_each.ensures.0 refl, c.loop-i-test.true))).1

pub try_body-try_plain-done-requires-in-PlainInt64-clause-form : goal.try_body-try_plain-done-requires-in-PlainInt64-clause-form
try_body-try_plain-done-requires-in-PlainInt64-clause-form t c = c.in-PlainInt64.ensures

pub try_body-try_plain-done-requires-in-PlainInt64-clause-ready : goal.try_body-try_plain-done-requires-in-PlainInt64-clause-ready
try_body-try_plain-done-requires-in-PlainInt64-clause-ready t c = c.loop-i.invariant.ready

pub try_body-try_constant-done-requires-clause-node : goal.try_body-try_constant-done-requires-clause-node
try_body-try_constant-done-requires-clause-node t c = (step_in (nodes_of c.args.plan.now.templates.now) c.args.body.now c.args.steps.now
    c.loop-i.i no_step c.requires.steps
    c.requires.nodes (omega (arith, c.if-not-has_slot_for_each.ensures.0 refl, c.loop-i-test.true))).1

pub try_body-try_constant-done-requires-clause-form : goal.try_body-try_constant-done-requires-clause-form
try_body-try_constant-done-requires-clause-form t c = c.in-ConstantUInt32.ensures

pub try_body-try_constant-done-requires-clause-ready : goal.try_body-try_constant-done-requires-clause-ready
try_body-try_constant-done-requires-clause-ready t c = c.loop-i.invariant.ready

pub try_body-try_constant-done-requires-in-ConstantInt32-clause-node : goal.try_body-try_constant-done-requires-in-ConstantInt32-clause-node
try_body-try_constant-done-requires-in-ConstantInt32-clause-node t c =
    (step_in (nodes_of c.args.plan.now.templates.now) c.args.body.now c.args.steps.now c.loop-i.i no_step c.requires.steps
    c.requires.nodes (omega (arith, c.if-not-has_slot_for_each.ensures.0 refl, c.loop-i-test.true))).1

pub try_body-try_constant-done-requires-in-ConstantInt32-clause-form : goal.try_body-try_constant-done-requires-in-ConstantInt32-clause-form
try_body-try_constant-done-requires-in-ConstantInt32-clause-form t c = c.in-ConstantInt32.ensures

pub try_body-try_constant-done-requires-in-ConstantInt32-clause-ready : goal.try_body-try_constant-done-requires-in-ConstantInt32-clause-ready
try_body-try_constant-done-requires-in-ConstantInt32-clause-ready t c = c.loop-i.invariant.ready

pub try_body-try_constant-done-requires-in-ConstantUInt64-clause-node : goal.try_body-try_constant-done-requires-in-ConstantUInt64-clause-node
try_body-try_constant-done-requires-in-ConstantUInt64-clause-node t c =
    (step_in (nodes_of c.args.plan.now.templates.now) c.args.body.now c.args.steps.now c.loop-i.i no_step c.requires.steps
    c.requires.nodes (omega (arith, c.if-not-has_slot_for_each.ensures.0 refl, c.loop-i-test.true))).1

pub try_body-try_constant-done-requires-in-ConstantUInt64-clause-form : goal.try_body-try_constant-done-requires-in-ConstantUInt64-clause-form
try_body-try_constant-done-requires-in-ConstantUInt64-clause-form t c = c.in-ConstantUInt64.ensures

pub try_body-try_constant-done-requires-in-ConstantUInt64-clause-ready : goal.try_body-try_constant-done-requires-in-ConstantUInt64-clause-ready
try_body-try_constant-done-requires-in-ConstantUInt64-clause-ready t c = c.loop-i.invariant.ready

pub try_body-try_constant-done-requires-in-ConstantInt64-clause-node : goal.try_body-try_constant-done-requires-in-ConstantInt64-clause-node
try_body-try_constant-done-requires-in-ConstantInt64-clause-node t c =
    (step_in (nodes_of c.args.plan.now.templates.now) c.args.body.now c.args.steps.now c.loop-i.i no_step c.requires.steps
    c.requires.nodes (omega (arith, c.if-not-has_slot_for_each.ensures.0 refl, c.loop-i-test.true))).1

pub try_body-try_constant-done-requires-in-ConstantInt64-clause-form : goal.try_body-try_constant-done-requires-in-ConstantInt64-clause-form
try_body-try_constant-done-requires-in-ConstantInt64-clause-form t c = c.in-ConstantInt64.ensures

pub try_body-try_constant-done-requires-in-ConstantInt64-clause-ready : goal.try_body-try_constant-done-requires-in-ConstantInt64-clause-ready
try_body-try_constant-done-requires-in-ConstantInt64-clause-ready t c = c.loop-i.invariant.ready

pub try_body-try_default-done-requires-clause-node : goal.try_body-try_default-done-requires-clause-node
try_body-try_default-done-requires-clause-node t c = (step_in (nodes_of c.args.plan.now.templates.now) c.args.body.now c.args.steps.now
    c.loop-i.i no_step c.requires.steps
    c.requires.nodes (omega (arith, c.if-not-has_slot_for_each.ensures.0 refl, c.loop-i-test.true))).1

pub try_body-try_default-done-requires-clause-form : goal.try_body-try_default-done-requires-clause-form
try_body-try_default-done-requires-clause-form t c = c.in-DefaultUInt32.ensures

pub try_body-try_default-done-requires-clause-ready : goal.try_body-try_default-done-requires-clause-ready
try_body-try_default-done-requires-clause-ready t c = c.loop-i.invariant.ready

pub try_body-try_default-done-requires-in-DefaultInt32-clause-node : goal.try_body-try_default-done-requires-in-DefaultInt32-clause-node
try_body-try_default-done-requires-in-DefaultInt32-clause-node t c =
    (step_in (nodes_of c.args.plan.now.templates.now) c.args.body.now c.args.steps.now c.loop-i.i no_step c.requires.steps
    c.requires.nodes (omega (arith, c.if-not-has_slot_for_each.ensures.0 refl, c.loop-i-test.true))).1

pub try_body-try_default-done-requires-in-DefaultInt32-clause-form : goal.try_body-try_default-done-requires-in-DefaultInt32-clause-form
try_body-try_default-done-requires-in-DefaultInt32-clause-form t c = c.in-DefaultInt32.ensures

pub try_body-try_default-done-requires-in-DefaultInt32-clause-ready : goal.try_body-try_default-done-requires-in-DefaultInt32-clause-ready
try_body-try_default-done-requires-in-DefaultInt32-clause-ready t c = c.loop-i.invariant.ready

pub try_body-try_default-done-requires-in-DefaultUInt64-clause-node : goal.try_body-try_default-done-requires-in-DefaultUInt64-clause-node
try_body-try_default-done-requires-in-DefaultUInt64-clause-node t c =
    (step_in (nodes_of c.args.plan.now.templates.now) c.args.body.now c.args.steps.now c.loop-i.i no_step c.requires.steps
    c.requires.nodes (omega (arith, c.if-not-has_slot_for_each.ensures.0 refl, c.loop-i-test.true))).1

pub try_body-try_default-done-requires-in-DefaultUInt64-clause-form : goal.try_body-try_default-done-requires-in-DefaultUInt64-clause-form
try_body-try_default-done-requires-in-DefaultUInt64-clause-form t c = c.in-DefaultUInt64.ensures

pub try_body-try_default-done-requires-in-DefaultUInt64-clause-ready : goal.try_body-try_default-done-requires-in-DefaultUInt64-clause-ready
try_body-try_default-done-requires-in-DefaultUInt64-clause-ready t c = c.loop-i.invariant.ready

pub try_body-try_default-done-requires-in-DefaultInt64-clause-node : goal.try_body-try_default-done-requires-in-DefaultInt64-clause-node
try_body-try_default-done-requires-in-DefaultInt64-clause-node t c =
    (step_in (nodes_of c.args.plan.now.templates.now) c.args.body.now c.args.steps.now c.loop-i.i no_step c.requires.steps
    c.requires.nodes (omega (arith, c.if-not-has_slot_for_each.ensures.0 refl, c.loop-i-test.true))).1

pub try_body-try_default-done-requires-in-DefaultInt64-clause-form : goal.try_body-try_default-done-requires-in-DefaultInt64-clause-form
try_body-try_default-done-requires-in-DefaultInt64-clause-form t c = c.in-DefaultInt64.ensures

pub try_body-try_default-done-requires-in-DefaultInt64-clause-ready : goal.try_body-try_default-done-requires-in-DefaultInt64-clause-ready
try_body-try_default-done-requires-in-DefaultInt64-clause-ready t c = c.loop-i.invariant.ready

pub try_body-try_copied-done-requires-clause-node : goal.try_body-try_copied-done-requires-clause-node
try_body-try_copied-done-requires-clause-node t c = (step_in (nodes_of c.args.plan.now.templates.now) c.args.body.now c.args.steps.now
    c.loop-i.i no_step c.requires.steps
    c.requires.nodes (omega (arith, c.if-not-has_slot_for_each.ensures.0 refl, c.loop-i-test.true))).1

pub try_body-try_copied-done-requires-clause-form : goal.try_body-try_copied-done-requires-clause-form
try_body-try_copied-done-requires-clause-form t c = c.in-CopyUInt32.ensures

pub try_body-try_copied-done-requires-clause-ready : goal.try_body-try_copied-done-requires-clause-ready
try_body-try_copied-done-requires-clause-ready t c = c.loop-i.invariant.ready

pub try_body-try_copied-done-requires-clause-numbers : goal.try_body-try_copied-done-requires-clause-numbers
try_body-try_copied-done-requires-clause-numbers t c = tt

pub try_body-try_copied-done-requires-in-CopyInt32-clause-node : goal.try_body-try_copied-done-requires-in-CopyInt32-clause-node
try_body-try_copied-done-requires-in-CopyInt32-clause-node t c =
    (step_in (nodes_of c.args.plan.now.templates.now) c.args.body.now c.args.steps.now c.loop-i.i no_step c.requires.steps
    c.requires.nodes (omega (arith, c.if-not-has_slot_for_each.ensures.0 refl, c.loop-i-test.true))).1

pub try_body-try_copied-done-requires-in-CopyInt32-clause-form : goal.try_body-try_copied-done-requires-in-CopyInt32-clause-form
try_body-try_copied-done-requires-in-CopyInt32-clause-form t c = c.in-CopyInt32.ensures

pub try_body-try_copied-done-requires-in-CopyInt32-clause-ready : goal.try_body-try_copied-done-requires-in-CopyInt32-clause-ready
try_body-try_copied-done-requires-in-CopyInt32-clause-ready t c = c.loop-i.invariant.ready

pub try_body-try_copied-done-requires-in-CopyInt32-clause-numbers : goal.try_body-try_copied-done-requires-in-CopyInt32-clause-numbers
try_body-try_copied-done-requires-in-CopyInt32-clause-numbers t c = tt

pub try_body-try_copied-done-requires-in-CopyUInt64-clause-node : goal.try_body-try_copied-done-requires-in-CopyUInt64-clause-node
try_body-try_copied-done-requires-in-CopyUInt64-clause-node t c =
    (step_in (nodes_of c.args.plan.now.templates.now) c.args.body.now c.args.steps.now c.loop-i.i no_step c.requires.steps
    c.requires.nodes (omega (arith, c.if-not-has_slot_for_each.ensures.0 refl, c.loop-i-test.true))).1

pub try_body-try_copied-done-requires-in-CopyUInt64-clause-form : goal.try_body-try_copied-done-requires-in-CopyUInt64-clause-form
try_body-try_copied-done-requires-in-CopyUInt64-clause-form t c = c.in-CopyUInt64.ensures

pub try_body-try_copied-done-requires-in-CopyUInt64-clause-ready : goal.try_body-try_copied-done-requires-in-CopyUInt64-clause-ready
try_body-try_copied-done-requires-in-CopyUInt64-clause-ready t c = c.loop-i.invariant.ready

pub try_body-try_copied-done-requires-in-CopyUInt64-clause-numbers : goal.try_body-try_copied-done-requires-in-CopyUInt64-clause-numbers
try_body-try_copied-done-requires-in-CopyUInt64-clause-numbers t c = tt

pub try_body-try_copied-done-requires-in-CopyInt64-clause-node : goal.try_body-try_copied-done-requires-in-CopyInt64-clause-node
try_body-try_copied-done-requires-in-CopyInt64-clause-node t c =
    (step_in (nodes_of c.args.plan.now.templates.now) c.args.body.now c.args.steps.now c.loop-i.i no_step c.requires.steps
    c.requires.nodes (omega (arith, c.if-not-has_slot_for_each.ensures.0 refl, c.loop-i-test.true))).1

pub try_body-try_copied-done-requires-in-CopyInt64-clause-form : goal.try_body-try_copied-done-requires-in-CopyInt64-clause-form
try_body-try_copied-done-requires-in-CopyInt64-clause-form t c = c.in-CopyInt64.ensures

pub try_body-try_copied-done-requires-in-CopyInt64-clause-ready : goal.try_body-try_copied-done-requires-in-CopyInt64-clause-ready
try_body-try_copied-done-requires-in-CopyInt64-clause-ready t c = c.loop-i.invariant.ready

pub try_body-try_copied-done-requires-in-CopyInt64-clause-numbers : goal.try_body-try_copied-done-requires-in-CopyInt64-clause-numbers
try_body-try_copied-done-requires-in-CopyInt64-clause-numbers t c = tt

pub try_body-try_next-done-requires-clause-node : goal.try_body-try_next-done-requires-clause-node
try_body-try_next-done-requires-clause-node t c = (step_in (nodes_of c.args.plan.now.templates.now) c.args.body.now c.args.steps.now
    c.loop-i.i no_step c.requires.steps
    c.requires.nodes (omega (arith, c.if-not-has_slot_for_each.ensures.0 refl, c.loop-i-test.true))).1

pub try_body-try_next-done-requires-clause-form : goal.try_body-try_next-done-requires-clause-form
try_body-try_next-done-requires-clause-form t c = c.in-IncrementUInt32.ensures

pub try_body-try_next-done-requires-clause-ready : goal.try_body-try_next-done-requires-clause-ready
try_body-try_next-done-requires-clause-ready t c = c.loop-i.invariant.ready

pub try_body-try_next-done-requires-clause-numbers : goal.try_body-try_next-done-requires-clause-numbers
try_body-try_next-done-requires-clause-numbers t c = tt

pub try_body-try_next-done-requires-in-IncrementInt32-clause-node : goal.try_body-try_next-done-requires-in-IncrementInt32-clause-node
try_body-try_next-done-requires-in-IncrementInt32-clause-node t c =
    (step_in (nodes_of c.args.plan.now.templates.now) c.args.body.now c.args.steps.now c.loop-i.i no_step c.requires.steps
    c.requires.nodes (omega (arith, c.if-not-has_slot_for_each.ensures.0 refl, c.loop-i-test.true))).1

pub try_body-try_next-done-requires-in-IncrementInt32-clause-form : goal.try_body-try_next-done-requires-in-IncrementInt32-clause-form
try_body-try_next-done-requires-in-IncrementInt32-clause-form t c = c.in-IncrementInt32.ensures

pub try_body-try_next-done-requires-in-IncrementInt32-clause-ready : goal.try_body-try_next-done-requires-in-IncrementInt32-clause-ready
try_body-try_next-done-requires-in-IncrementInt32-clause-ready t c = c.loop-i.invariant.ready

pub try_body-try_next-done-requires-in-IncrementInt32-clause-numbers : goal.try_body-try_next-done-requires-in-IncrementInt32-clause-numbers
try_body-try_next-done-requires-in-IncrementInt32-clause-numbers t c = tt

pub try_body-try_next-done-requires-in-IncrementUInt64-clause-node : goal.try_body-try_next-done-requires-in-IncrementUInt64-clause-node
try_body-try_next-done-requires-in-IncrementUInt64-clause-node t c =
    (step_in (nodes_of c.args.plan.now.templates.now) c.args.body.now c.args.steps.now c.loop-i.i no_step c.requires.steps
    c.requires.nodes (omega (arith, c.if-not-has_slot_for_each.ensures.0 refl, c.loop-i-test.true))).1

pub try_body-try_next-done-requires-in-IncrementUInt64-clause-form : goal.try_body-try_next-done-requires-in-IncrementUInt64-clause-form
try_body-try_next-done-requires-in-IncrementUInt64-clause-form t c = c.in-IncrementUInt64.ensures

pub try_body-try_next-done-requires-in-IncrementUInt64-clause-ready : goal.try_body-try_next-done-requires-in-IncrementUInt64-clause-ready
try_body-try_next-done-requires-in-IncrementUInt64-clause-ready t c = c.loop-i.invariant.ready

pub try_body-try_next-done-requires-in-IncrementUInt64-clause-numbers : goal.try_body-try_next-done-requires-in-IncrementUInt64-clause-numbers
try_body-try_next-done-requires-in-IncrementUInt64-clause-numbers t c = tt

pub try_body-try_next-done-requires-in-IncrementInt64-clause-node : goal.try_body-try_next-done-requires-in-IncrementInt64-clause-node
try_body-try_next-done-requires-in-IncrementInt64-clause-node t c =
    (step_in (nodes_of c.args.plan.now.templates.now) c.args.body.now c.args.steps.now c.loop-i.i no_step c.requires.steps
    c.requires.nodes (omega (arith, c.if-not-has_slot_for_each.ensures.0 refl, c.loop-i-test.true))).1

pub try_body-try_next-done-requires-in-IncrementInt64-clause-form : goal.try_body-try_next-done-requires-in-IncrementInt64-clause-form
try_body-try_next-done-requires-in-IncrementInt64-clause-form t c = c.in-IncrementInt64.ensures

pub try_body-try_next-done-requires-in-IncrementInt64-clause-ready : goal.try_body-try_next-done-requires-in-IncrementInt64-clause-ready
try_body-try_next-done-requires-in-IncrementInt64-clause-ready t c = c.loop-i.invariant.ready

pub try_body-try_next-done-requires-in-IncrementInt64-clause-numbers : goal.try_body-try_next-done-requires-in-IncrementInt64-clause-numbers
try_body-try_next-done-requires-in-IncrementInt64-clause-numbers t c = tt

pub try_body-try_difference-done-requires-clause-node : goal.try_body-try_difference-done-requires-clause-node
try_body-try_difference-done-requires-clause-node t c =
    (step_in (nodes_of c.args.plan.now.templates.now) c.args.body.now c.args.steps.now c.loop-i.i no_step c.requires.steps
    c.requires.nodes (omega (arith, c.if-not-has_slot_for_each.ensures.0 refl, c.loop-i-test.true))).1

pub try_body-try_difference-done-requires-clause-form : goal.try_body-try_difference-done-requires-clause-form
try_body-try_difference-done-requires-clause-form t c = c.in-DeltaUInt32.ensures

pub try_body-try_difference-done-requires-clause-ready : goal.try_body-try_difference-done-requires-clause-ready
try_body-try_difference-done-requires-clause-ready t c = c.loop-i.invariant.ready

pub try_body-try_difference-done-requires-clause-numbers : goal.try_body-try_difference-done-requires-clause-numbers
try_body-try_difference-done-requires-clause-numbers t c = tt

pub try_body-try_difference-done-requires-in-DeltaInt32-clause-node : goal.try_body-try_difference-done-requires-in-DeltaInt32-clause-node
try_body-try_difference-done-requires-in-DeltaInt32-clause-node t c =
    (step_in (nodes_of c.args.plan.now.templates.now) c.args.body.now c.args.steps.now c.loop-i.i no_step c.requires.steps
    c.requires.nodes (omega (arith, c.if-not-has_slot_for_each.ensures.0 refl, c.loop-i-test.true))).1

pub try_body-try_difference-done-requires-in-DeltaInt32-clause-form : goal.try_body-try_difference-done-requires-in-DeltaInt32-clause-form
try_body-try_difference-done-requires-in-DeltaInt32-clause-form t c = c.in-DeltaInt32.ensures

pub try_body-try_difference-done-requires-in-DeltaInt32-clause-ready : goal.try_body-try_difference-done-requires-in-DeltaInt32-clause-ready
try_body-try_difference-done-requires-in-DeltaInt32-clause-ready t c = c.loop-i.invariant.ready

pub try_body-try_difference-done-requires-in-DeltaInt32-clause-numbers : goal.try_body-try_difference-done-requires-in-DeltaInt32-clause-numbers
try_body-try_difference-done-requires-in-DeltaInt32-clause-numbers t c = tt

pub try_body-try_difference-done-requires-in-DeltaUInt64-clause-node : goal.try_body-try_difference-done-requires-in-DeltaUInt64-clause-node
try_body-try_difference-done-requires-in-DeltaUInt64-clause-node t c =
    (step_in (nodes_of c.args.plan.now.templates.now) c.args.body.now c.args.steps.now c.loop-i.i no_step c.requires.steps
    c.requires.nodes (omega (arith, c.if-not-has_slot_for_each.ensures.0 refl, c.loop-i-test.true))).1

pub try_body-try_difference-done-requires-in-DeltaUInt64-clause-form : goal.try_body-try_difference-done-requires-in-DeltaUInt64-clause-form
try_body-try_difference-done-requires-in-DeltaUInt64-clause-form t c = c.in-DeltaUInt64.ensures

pub try_body-try_difference-done-requires-in-DeltaUInt64-clause-ready : goal.try_body-try_difference-done-requires-in-DeltaUInt64-clause-ready
try_body-try_difference-done-requires-in-DeltaUInt64-clause-ready t c = c.loop-i.invariant.ready

pub try_body-try_difference-done-requires-in-DeltaUInt64-clause-numbers : goal.try_body-try_difference-done-requires-in-DeltaUInt64-clause-numbers
try_body-try_difference-done-requires-in-DeltaUInt64-clause-numbers t c = tt

pub try_body-try_difference-done-requires-in-DeltaInt64-clause-node : goal.try_body-try_difference-done-requires-in-DeltaInt64-clause-node
try_body-try_difference-done-requires-in-DeltaInt64-clause-node t c =
    (step_in (nodes_of c.args.plan.now.templates.now) c.args.body.now c.args.steps.now c.loop-i.i no_step c.requires.steps
    c.requires.nodes (omega (arith, c.if-not-has_slot_for_each.ensures.0 refl, c.loop-i-test.true))).1

pub try_body-try_difference-done-requires-in-DeltaInt64-clause-form : goal.try_body-try_difference-done-requires-in-DeltaInt64-clause-form
try_body-try_difference-done-requires-in-DeltaInt64-clause-form t c = c.in-DeltaInt64.ensures

pub try_body-try_difference-done-requires-in-DeltaInt64-clause-ready : goal.try_body-try_difference-done-requires-in-DeltaInt64-clause-ready
try_body-try_difference-done-requires-in-DeltaInt64-clause-ready t c = c.loop-i.invariant.ready

pub try_body-try_difference-done-requires-in-DeltaInt64-clause-numbers : goal.try_body-try_difference-done-requires-in-DeltaInt64-clause-numbers
try_body-try_difference-done-requires-in-DeltaInt64-clause-numbers t c = tt

pub try_body-try_plain-done-requires-in-PlainAscii-clause-node : goal.try_body-try_plain-done-requires-in-PlainAscii-clause-node
try_body-try_plain-done-requires-in-PlainAscii-clause-node t c =
    (step_in (nodes_of c.args.plan.now.templates.now) c.args.body.now c.args.steps.now c.loop-i.i no_step c.requires.steps
    c.requires.nodes (omega (arith, c.if-not-has_slot_for_each.ensures.0 refl, c.loop-i-test.true))).1

pub try_body-try_plain-done-requires-in-PlainAscii-clause-form : goal.try_body-try_plain-done-requires-in-PlainAscii-clause-form
try_body-try_plain-done-requires-in-PlainAscii-clause-form t c = c.in-PlainAscii.ensures

pub try_body-try_plain-done-requires-in-PlainAscii-clause-ready : goal.try_body-try_plain-done-requires-in-PlainAscii-clause-ready
try_body-try_plain-done-requires-in-PlainAscii-clause-ready t c = c.loop-i.invariant.ready

pub try_body-try_constant-done-requires-in-ConstantAscii-clause-node : goal.try_body-try_constant-done-requires-in-ConstantAscii-clause-node
try_body-try_constant-done-requires-in-ConstantAscii-clause-node t c =
    (step_in (nodes_of c.args.plan.now.templates.now) c.args.body.now c.args.steps.now c.loop-i.i no_step c.requires.steps
    c.requires.nodes (omega (arith, c.if-not-has_slot_for_each.ensures.0 refl, c.loop-i-test.true))).1

pub try_body-try_constant-done-requires-in-ConstantAscii-clause-form : goal.try_body-try_constant-done-requires-in-ConstantAscii-clause-form
try_body-try_constant-done-requires-in-ConstantAscii-clause-form t c = c.in-ConstantAscii.ensures

pub try_body-try_constant-done-requires-in-ConstantAscii-clause-ready : goal.try_body-try_constant-done-requires-in-ConstantAscii-clause-ready
try_body-try_constant-done-requires-in-ConstantAscii-clause-ready t c = c.loop-i.invariant.ready

pub try_body-try_default-done-requires-in-DefaultAscii-clause-node : goal.try_body-try_default-done-requires-in-DefaultAscii-clause-node
try_body-try_default-done-requires-in-DefaultAscii-clause-node t c =
    (step_in (nodes_of c.args.plan.now.templates.now) c.args.body.now c.args.steps.now c.loop-i.i no_step c.requires.steps
    c.requires.nodes (omega (arith, c.if-not-has_slot_for_each.ensures.0 refl, c.loop-i-test.true))).1

pub try_body-try_default-done-requires-in-DefaultAscii-clause-form : goal.try_body-try_default-done-requires-in-DefaultAscii-clause-form
try_body-try_default-done-requires-in-DefaultAscii-clause-form t c = c.in-DefaultAscii.ensures

pub try_body-try_default-done-requires-in-DefaultAscii-clause-ready : goal.try_body-try_default-done-requires-in-DefaultAscii-clause-ready
try_body-try_default-done-requires-in-DefaultAscii-clause-ready t c = c.loop-i.invariant.ready

pub try_body-try_copied_other-done-requires-clause-node : goal.try_body-try_copied_other-done-requires-clause-node
try_body-try_copied_other-done-requires-clause-node t c =
    (step_in (nodes_of c.args.plan.now.templates.now) c.args.body.now c.args.steps.now c.loop-i.i no_step c.requires.steps
    c.requires.nodes (omega (arith, c.if-not-has_slot_for_each.ensures.0 refl, c.loop-i-test.true))).1

pub try_body-try_copied_other-done-requires-clause-form : goal.try_body-try_copied_other-done-requires-clause-form
try_body-try_copied_other-done-requires-clause-form t c = c.in-CopyAscii.ensures

pub try_body-try_copied_other-done-requires-clause-ready : goal.try_body-try_copied_other-done-requires-clause-ready
try_body-try_copied_other-done-requires-clause-ready t c = c.loop-i.invariant.ready

pub try_body-try_chosen-done-requires-clause-node : goal.try_body-try_chosen-done-requires-clause-node
try_body-try_chosen-done-requires-clause-node t c = (step_in (nodes_of c.args.plan.now.templates.now) c.args.body.now c.args.steps.now
    c.loop-i.i no_step c.requires.steps
    c.requires.nodes (omega (arith, c.if-not-has_slot_for_each.ensures.0 refl, c.loop-i-test.true))).1

pub try_body-try_chosen-done-requires-clause-form : goal.try_body-try_chosen-done-requires-clause-form
try_body-try_chosen-done-requires-clause-form t c = c.in-TailAscii.ensures

pub try_body-try_chosen-done-requires-clause-ready : goal.try_body-try_chosen-done-requires-clause-ready
try_body-try_chosen-done-requires-clause-ready t c = c.loop-i.invariant.ready

pub try_body-try_chosen-done-requires-in-DeltaAscii-clause-node : goal.try_body-try_chosen-done-requires-in-DeltaAscii-clause-node
try_body-try_chosen-done-requires-in-DeltaAscii-clause-node t c =
    (step_in (nodes_of c.args.plan.now.templates.now) c.args.body.now c.args.steps.now c.loop-i.i no_step c.requires.steps
    c.requires.nodes (omega (arith, c.if-not-has_slot_for_each.ensures.0 refl, c.loop-i-test.true))).1

pub try_body-try_chosen-done-requires-in-DeltaAscii-clause-form : goal.try_body-try_chosen-done-requires-in-DeltaAscii-clause-form
try_body-try_chosen-done-requires-in-DeltaAscii-clause-form t c = c.in-DeltaAscii.ensures

pub try_body-try_chosen-done-requires-in-DeltaAscii-clause-ready : goal.try_body-try_chosen-done-requires-in-DeltaAscii-clause-ready
try_body-try_chosen-done-requires-in-DeltaAscii-clause-ready t c = c.loop-i.invariant.ready

pub try_body-try_plain-done-requires-in-PlainUnicode-clause-node : goal.try_body-try_plain-done-requires-in-PlainUnicode-clause-node
try_body-try_plain-done-requires-in-PlainUnicode-clause-node t c =
    (step_in (nodes_of c.args.plan.now.templates.now) c.args.body.now c.args.steps.now c.loop-i.i no_step c.requires.steps
    c.requires.nodes (omega (arith, c.if-not-has_slot_for_each.ensures.0 refl, c.loop-i-test.true))).1

pub try_body-try_plain-done-requires-in-PlainUnicode-clause-form : goal.try_body-try_plain-done-requires-in-PlainUnicode-clause-form
try_body-try_plain-done-requires-in-PlainUnicode-clause-form t c = c.in-PlainUnicode.ensures

pub try_body-try_plain-done-requires-in-PlainUnicode-clause-ready : goal.try_body-try_plain-done-requires-in-PlainUnicode-clause-ready
try_body-try_plain-done-requires-in-PlainUnicode-clause-ready t c = c.loop-i.invariant.ready

pub try_body-try_chosen-done-requires-in-DeltaUnicode-clause-node : goal.try_body-try_chosen-done-requires-in-DeltaUnicode-clause-node
try_body-try_chosen-done-requires-in-DeltaUnicode-clause-node t c =
    (step_in (nodes_of c.args.plan.now.templates.now) c.args.body.now c.args.steps.now c.loop-i.i no_step c.requires.steps
    c.requires.nodes (omega (arith, c.if-not-has_slot_for_each.ensures.0 refl, c.loop-i-test.true))).1

pub try_body-try_chosen-done-requires-in-DeltaUnicode-clause-form : goal.try_body-try_chosen-done-requires-in-DeltaUnicode-clause-form
try_body-try_chosen-done-requires-in-DeltaUnicode-clause-form t c = c.in-DeltaUnicode.ensures

pub try_body-try_chosen-done-requires-in-DeltaUnicode-clause-ready : goal.try_body-try_chosen-done-requires-in-DeltaUnicode-clause-ready
try_body-try_chosen-done-requires-in-DeltaUnicode-clause-ready t c = c.loop-i.invariant.ready

pub try_body-try_plain-done-requires-in-PlainBytes-clause-node : goal.try_body-try_plain-done-requires-in-PlainBytes-clause-node
try_body-try_plain-done-requires-in-PlainBytes-clause-node t c =
    (step_in (nodes_of c.args.plan.now.templates.now) c.args.body.now c.args.steps.now c.loop-i.i no_step c.requires.steps
    c.requires.nodes (omega (arith, c.if-not-has_slot_for_each.ensures.0 refl, c.loop-i-test.true))).1

pub try_body-try_plain-done-requires-in-PlainBytes-clause-form : goal.try_body-try_plain-done-requires-in-PlainBytes-clause-form
try_body-try_plain-done-requires-in-PlainBytes-clause-form t c = c.in-PlainBytes.ensures

pub try_body-try_plain-done-requires-in-PlainBytes-clause-ready : goal.try_body-try_plain-done-requires-in-PlainBytes-clause-ready
try_body-try_plain-done-requires-in-PlainBytes-clause-ready t c = c.loop-i.invariant.ready

pub try_body-try_chosen-done-requires-in-TailBytes-clause-node : goal.try_body-try_chosen-done-requires-in-TailBytes-clause-node
try_body-try_chosen-done-requires-in-TailBytes-clause-node t c =
    (step_in (nodes_of c.args.plan.now.templates.now) c.args.body.now c.args.steps.now c.loop-i.i no_step c.requires.steps
    c.requires.nodes (omega (arith, c.if-not-has_slot_for_each.ensures.0 refl, c.loop-i-test.true))).1

pub try_body-try_chosen-done-requires-in-TailBytes-clause-form : goal.try_body-try_chosen-done-requires-in-TailBytes-clause-form
try_body-try_chosen-done-requires-in-TailBytes-clause-form t c = c.in-TailBytes.ensures

pub try_body-try_chosen-done-requires-in-TailBytes-clause-ready : goal.try_body-try_chosen-done-requires-in-TailBytes-clause-ready
try_body-try_chosen-done-requires-in-TailBytes-clause-ready t c = c.loop-i.invariant.ready

pub try_body-try_plain-done-requires-in-PlainDecimal-clause-node : goal.try_body-try_plain-done-requires-in-PlainDecimal-clause-node
try_body-try_plain-done-requires-in-PlainDecimal-clause-node t c =
    (step_in (nodes_of c.args.plan.now.templates.now) c.args.body.now c.args.steps.now c.loop-i.i no_step c.requires.steps
    c.requires.nodes (omega (arith, c.if-not-has_slot_for_each.ensures.0 refl, c.loop-i-test.true))).1

pub try_body-try_plain-done-requires-in-PlainDecimal-clause-form : goal.try_body-try_plain-done-requires-in-PlainDecimal-clause-form
try_body-try_plain-done-requires-in-PlainDecimal-clause-form t c = c.in-PlainDecimal.ensures

pub try_body-try_plain-done-requires-in-PlainDecimal-clause-ready : goal.try_body-try_plain-done-requires-in-PlainDecimal-clause-ready
try_body-try_plain-done-requires-in-PlainDecimal-clause-ready t c = c.loop-i.invariant.ready

pub try_body-try_copied_other-done-requires-in-CopyDecimal-clause-node : goal.try_body-try_copied_other-done-requires-in-CopyDecimal-clause-node
try_body-try_copied_other-done-requires-in-CopyDecimal-clause-node t c =
    (step_in (nodes_of c.args.plan.now.templates.now) c.args.body.now c.args.steps.now c.loop-i.i no_step c.requires.steps
    c.requires.nodes (omega (arith, c.if-not-has_slot_for_each.ensures.0 refl, c.loop-i-test.true))).1

pub try_body-try_copied_other-done-requires-in-CopyDecimal-clause-form : goal.try_body-try_copied_other-done-requires-in-CopyDecimal-clause-form
try_body-try_copied_other-done-requires-in-CopyDecimal-clause-form t c = c.in-CopyDecimal.ensures

pub try_body-try_copied_other-done-requires-in-CopyDecimal-clause-ready : goal.try_body-try_copied_other-done-requires-in-CopyDecimal-clause-ready
try_body-try_copied_other-done-requires-in-CopyDecimal-clause-ready t c = c.loop-i.invariant.ready

pub try_body-try_chosen-done-requires-in-DeltaDecimal-clause-node : goal.try_body-try_chosen-done-requires-in-DeltaDecimal-clause-node
try_body-try_chosen-done-requires-in-DeltaDecimal-clause-node t c =
    (step_in (nodes_of c.args.plan.now.templates.now) c.args.body.now c.args.steps.now c.loop-i.i no_step c.requires.steps
    c.requires.nodes (omega (arith, c.if-not-has_slot_for_each.ensures.0 refl, c.loop-i-test.true))).1

pub try_body-try_chosen-done-requires-in-DeltaDecimal-clause-form : goal.try_body-try_chosen-done-requires-in-DeltaDecimal-clause-form
try_body-try_chosen-done-requires-in-DeltaDecimal-clause-form t c = c.in-DeltaDecimal.ensures

pub try_body-try_chosen-done-requires-in-DeltaDecimal-clause-ready : goal.try_body-try_chosen-done-requires-in-DeltaDecimal-clause-ready
try_body-try_chosen-done-requires-in-DeltaDecimal-clause-ready t c = c.loop-i.invariant.ready

pub try_body-try_parts-done-requires-clause-node : goal.try_body-try_parts-done-requires-clause-node
try_body-try_parts-done-requires-clause-node t c =
    (step_in (nodes_of c.args.plan.now.templates.now) c.args.body.now c.args.steps.now c.loop-i.i no_step c.requires.steps
    c.requires.nodes (omega (arith, c.if-not-has_slot_for_each.ensures.0 refl, c.loop-i-test.true))).1

pub try_body-try_parts-done-requires-clause-form : goal.try_body-try_parts-done-requires-clause-form
try_body-try_parts-done-requires-clause-form t c = c.in-DefaultParts.ensures

pub try_body-try_parts-done-requires-clause-ready : goal.try_body-try_parts-done-requires-clause-ready
try_body-try_parts-done-requires-clause-ready t c = c.loop-i.invariant.ready

pub try_body-try_parts-done-requires-in-CopyParts-clause-node : goal.try_body-try_parts-done-requires-in-CopyParts-clause-node
try_body-try_parts-done-requires-in-CopyParts-clause-node t c =
    (step_in (nodes_of c.args.plan.now.templates.now) c.args.body.now c.args.steps.now c.loop-i.i no_step c.requires.steps
    c.requires.nodes (omega (arith, c.if-not-has_slot_for_each.ensures.0 refl, c.loop-i-test.true))).1

pub try_body-try_parts-done-requires-in-CopyParts-clause-form : goal.try_body-try_parts-done-requires-in-CopyParts-clause-form
try_body-try_parts-done-requires-in-CopyParts-clause-form t c = c.in-CopyParts.ensures

pub try_body-try_parts-done-requires-in-CopyParts-clause-ready : goal.try_body-try_parts-done-requires-in-CopyParts-clause-ready
try_body-try_parts-done-requires-in-CopyParts-clause-ready t c = c.loop-i.invariant.ready

pub try_body-try_other-done-requires-clause-node : goal.try_body-try_other-done-requires-clause-node
try_body-try_other-done-requires-clause-node t c = (step_in (nodes_of c.args.plan.now.templates.now) c.args.body.now c.args.steps.now
    c.loop-i.i no_step c.requires.steps
    c.requires.nodes (omega (arith, c.if-not-has_slot_for_each.ensures.0 refl, c.loop-i-test.true))).1

pub try_body-try_other-done-requires-clause-ready : goal.try_body-try_other-done-requires-clause-ready
try_body-try_other-done-requires-clause-ready t c = c.loop-i.invariant.ready

pub try_body-returns-then-is_err-2-clause-keeps : goal.try_body-returns-then-is_err-2-clause-keeps
try_body-returns-then-is_err-2-clause-keeps t c =
    let l = c.args.plan.now.limits in
    let i = c.loop-i.i in
    let here = instruction_in (nodes_of c.args.plan.now.templates.now) (get_or c.args.body.now i 0) in
    let old = c.loop-i.work in
    let new = c.match-form_at.work in
    let done = c.match-form_at.done in
    let v = value_data c.in-One.value in
    let there = instruction_in (nodes_of c.args.plan.now.templates.now) (get_or c.args.steps.now c.loop-i.i no_step).node in
    let tried_there : Tried l there old v new done = elim c.match-form_at.branch [
      | try_body-in-PlainUInt32 w ↦ moved l there old v w.try_plain_unsigned-done.new.work new w.try_plain_unsigned-done.result done
          w.work-is w.done-is (record {
            suits = w.try_plain_unsigned-done.ensures.suits;
            fits = w.try_plain_unsigned-done.ensures.fits;
            ok = w.try_plain_unsigned-done.ensures.ok;
            keeps = w.try_plain_unsigned-done.ensures.keeps;
            room = w.try_plain_unsigned-done.ensures.room;
          })
      | try_body-in-PlainInt32 w ↦ moved l there old v w.try_plain-done.new.work new w.try_plain-done.result done w.work-is w.done-is (record {
        suits = w.try_plain-done.ensures.suits;
        fits = w.try_plain-done.ensures.fits;
        ok = w.try_plain-done.ensures.ok;
        keeps = w.try_plain-done.ensures.keeps;
        room = w.try_plain-done.ensures.room;
      })
      | try_body-in-PlainUInt64 w ↦ moved l there old v w.try_plain_unsigned-done-in-PlainUInt64.new.work new
          w.try_plain_unsigned-done-in-PlainUInt64.result done w.work-is w.done-is (record {
            suits = w.try_plain_unsigned-done-in-PlainUInt64.ensures.suits;
            fits = w.try_plain_unsigned-done-in-PlainUInt64.ensures.fits;
            ok = w.try_plain_unsigned-done-in-PlainUInt64.ensures.ok;
            keeps = w.try_plain_unsigned-done-in-PlainUInt64.ensures.keeps;
            room = w.try_plain_unsigned-done-in-PlainUInt64.ensures.room;
          })
      | try_body-in-PlainInt64 w ↦ moved l there old v w.try_plain-done-in-PlainInt64.new.work new w.try_plain-done-in-PlainInt64.result
          done w.work-is w.done-is (record {
            suits = w.try_plain-done-in-PlainInt64.ensures.suits;
            fits = w.try_plain-done-in-PlainInt64.ensures.fits;
            ok = w.try_plain-done-in-PlainInt64.ensures.ok;
            keeps = w.try_plain-done-in-PlainInt64.ensures.keeps;
            room = w.try_plain-done-in-PlainInt64.ensures.room;
          })
      | try_body-in-ConstantUInt32 w ↦ moved l there old v w.try_constant-done.new.work new w.try_constant-done.result done w.work-is w.done-is (record {
        suits = w.try_constant-done.ensures.suits;
        fits = w.try_constant-done.ensures.fits;
        ok = w.try_constant-done.ensures.ok;
        keeps = w.try_constant-done.ensures.keeps;
        room = w.try_constant-done.ensures.room;
      })
      | try_body-in-ConstantInt32 w ↦ moved l there old v w.try_constant-done-in-ConstantInt32.new.work new
          w.try_constant-done-in-ConstantInt32.result done w.work-is w.done-is (record {
            suits = w.try_constant-done-in-ConstantInt32.ensures.suits;
            fits = w.try_constant-done-in-ConstantInt32.ensures.fits;
            ok = w.try_constant-done-in-ConstantInt32.ensures.ok;
            keeps = w.try_constant-done-in-ConstantInt32.ensures.keeps;
            room = w.try_constant-done-in-ConstantInt32.ensures.room;
          })
      | try_body-in-ConstantUInt64 w ↦ moved l there old v w.try_constant-done-in-ConstantUInt64.new.work new
          w.try_constant-done-in-ConstantUInt64.result done w.work-is w.done-is (record {
            suits = w.try_constant-done-in-ConstantUInt64.ensures.suits;
            fits = w.try_constant-done-in-ConstantUInt64.ensures.fits;
            ok = w.try_constant-done-in-ConstantUInt64.ensures.ok;
            keeps = w.try_constant-done-in-ConstantUInt64.ensures.keeps;
            room = w.try_constant-done-in-ConstantUInt64.ensures.room;
          })
      | try_body-in-ConstantInt64 w ↦ moved l there old v w.try_constant-done-in-ConstantInt64.new.work new
          w.try_constant-done-in-ConstantInt64.result done w.work-is w.done-is (record {
            suits = w.try_constant-done-in-ConstantInt64.ensures.suits;
            fits = w.try_constant-done-in-ConstantInt64.ensures.fits;
            ok = w.try_constant-done-in-ConstantInt64.ensures.ok;
            keeps = w.try_constant-done-in-ConstantInt64.ensures.keeps;
            room = w.try_constant-done-in-ConstantInt64.ensures.room;
          })
      | try_body-in-DefaultUInt32 w ↦ moved l there old v w.try_default-done.new.work new w.try_default-done.result done w.work-is w.done-is (record {
        suits = w.try_default-done.ensures.suits;
        fits = w.try_default-done.ensures.fits;
        ok = w.try_default-done.ensures.ok;
        keeps = w.try_default-done.ensures.keeps;
        room = w.try_default-done.ensures.room;
      })
      | try_body-in-DefaultInt32 w ↦ moved l there old v w.try_default-done-in-DefaultInt32.new.work new
          w.try_default-done-in-DefaultInt32.result done w.work-is w.done-is (record {
            suits = w.try_default-done-in-DefaultInt32.ensures.suits;
            fits = w.try_default-done-in-DefaultInt32.ensures.fits;
            ok = w.try_default-done-in-DefaultInt32.ensures.ok;
            keeps = w.try_default-done-in-DefaultInt32.ensures.keeps;
            room = w.try_default-done-in-DefaultInt32.ensures.room;
          })
      | try_body-in-DefaultUInt64 w ↦ moved l there old v w.try_default-done-in-DefaultUInt64.new.work new
          w.try_default-done-in-DefaultUInt64.result done w.work-is w.done-is (record {
            suits = w.try_default-done-in-DefaultUInt64.ensures.suits;
            fits = w.try_default-done-in-DefaultUInt64.ensures.fits;
            ok = w.try_default-done-in-DefaultUInt64.ensures.ok;
            keeps = w.try_default-done-in-DefaultUInt64.ensures.keeps;
            room = w.try_default-done-in-DefaultUInt64.ensures.room;
          })
      | try_body-in-DefaultInt64 w ↦ moved l there old v w.try_default-done-in-DefaultInt64.new.work new
          w.try_default-done-in-DefaultInt64.result done w.work-is w.done-is (record {
            suits = w.try_default-done-in-DefaultInt64.ensures.suits;
            fits = w.try_default-done-in-DefaultInt64.ensures.fits;
            ok = w.try_default-done-in-DefaultInt64.ensures.ok;
            keeps = w.try_default-done-in-DefaultInt64.ensures.keeps;
            room = w.try_default-done-in-DefaultInt64.ensures.room;
          })
      | try_body-in-CopyUInt32 w ↦ moved l there old v w.try_copied-done.new.work new w.try_copied-done.result done w.work-is w.done-is (record {
        suits = w.try_copied-done.ensures.suits;
        fits = w.try_copied-done.ensures.fits;
        ok = w.try_copied-done.ensures.ok;
        keeps = w.try_copied-done.ensures.keeps;
        room = w.try_copied-done.ensures.room;
      })
      | try_body-in-CopyInt32 w ↦ moved l there old v w.try_copied-done-in-CopyInt32.new.work new w.try_copied-done-in-CopyInt32.result done
          w.work-is w.done-is (record {
            suits = w.try_copied-done-in-CopyInt32.ensures.suits;
            fits = w.try_copied-done-in-CopyInt32.ensures.fits;
            ok = w.try_copied-done-in-CopyInt32.ensures.ok;
            keeps = w.try_copied-done-in-CopyInt32.ensures.keeps;
            room = w.try_copied-done-in-CopyInt32.ensures.room;
          })
      | try_body-in-CopyUInt64 w ↦ moved l there old v w.try_copied-done-in-CopyUInt64.new.work new w.try_copied-done-in-CopyUInt64.result
          done w.work-is w.done-is (record {
            suits = w.try_copied-done-in-CopyUInt64.ensures.suits;
            fits = w.try_copied-done-in-CopyUInt64.ensures.fits;
            ok = w.try_copied-done-in-CopyUInt64.ensures.ok;
            keeps = w.try_copied-done-in-CopyUInt64.ensures.keeps;
            room = w.try_copied-done-in-CopyUInt64.ensures.room;
          })
      | try_body-in-CopyInt64 w ↦ moved l there old v w.try_copied-done-in-CopyInt64.new.work new w.try_copied-done-in-CopyInt64.result done
          w.work-is w.done-is (record {
            suits = w.try_copied-done-in-CopyInt64.ensures.suits;
            fits = w.try_copied-done-in-CopyInt64.ensures.fits;
            ok = w.try_copied-done-in-CopyInt64.ensures.ok;
            keeps = w.try_copied-done-in-CopyInt64.ensures.keeps;
            room = w.try_copied-done-in-CopyInt64.ensures.room;
          })
      | try_body-in-IncrementUInt32 w ↦ moved l there old v w.try_next-done.new.work new w.try_next-done.result done w.work-is w.done-is (record {
        suits = w.try_next-done.ensures.suits;
        fits = w.try_next-done.ensures.fits;
        ok = w.try_next-done.ensures.ok;
        keeps = w.try_next-done.ensures.keeps;
        room = w.try_next-done.ensures.room;
      })
      | try_body-in-IncrementInt32 w ↦ moved l there old v w.try_next-done-in-IncrementInt32.new.work new
          w.try_next-done-in-IncrementInt32.result done w.work-is w.done-is (record {
            suits = w.try_next-done-in-IncrementInt32.ensures.suits;
            fits = w.try_next-done-in-IncrementInt32.ensures.fits;
            ok = w.try_next-done-in-IncrementInt32.ensures.ok;
            keeps = w.try_next-done-in-IncrementInt32.ensures.keeps;
            room = w.try_next-done-in-IncrementInt32.ensures.room;
          })
      | try_body-in-IncrementUInt64 w ↦ moved l there old v w.try_next-done-in-IncrementUInt64.new.work new
          w.try_next-done-in-IncrementUInt64.result done w.work-is w.done-is (record {
            suits = w.try_next-done-in-IncrementUInt64.ensures.suits;
            fits = w.try_next-done-in-IncrementUInt64.ensures.fits;
            ok = w.try_next-done-in-IncrementUInt64.ensures.ok;
            keeps = w.try_next-done-in-IncrementUInt64.ensures.keeps;
            room = w.try_next-done-in-IncrementUInt64.ensures.room;
          })
      | try_body-in-IncrementInt64 w ↦ moved l there old v w.try_next-done-in-IncrementInt64.new.work new
          w.try_next-done-in-IncrementInt64.result done w.work-is w.done-is (record {
            suits = w.try_next-done-in-IncrementInt64.ensures.suits;
            fits = w.try_next-done-in-IncrementInt64.ensures.fits;
            ok = w.try_next-done-in-IncrementInt64.ensures.ok;
            keeps = w.try_next-done-in-IncrementInt64.ensures.keeps;
            room = w.try_next-done-in-IncrementInt64.ensures.room;
          })
      | try_body-in-DeltaUInt32 w ↦ moved l there old v w.try_difference-done.new.work new w.try_difference-done.result done w.work-is w.done-is (record {
        suits = w.try_difference-done.ensures.suits;
        fits = w.try_difference-done.ensures.fits;
        ok = w.try_difference-done.ensures.ok;
        keeps = w.try_difference-done.ensures.keeps;
        room = w.try_difference-done.ensures.room;
      })
      | try_body-in-DeltaInt32 w ↦ moved l there old v w.try_difference-done-in-DeltaInt32.new.work new
          w.try_difference-done-in-DeltaInt32.result done w.work-is w.done-is (record {
            suits = w.try_difference-done-in-DeltaInt32.ensures.suits;
            fits = w.try_difference-done-in-DeltaInt32.ensures.fits;
            ok = w.try_difference-done-in-DeltaInt32.ensures.ok;
            keeps = w.try_difference-done-in-DeltaInt32.ensures.keeps;
            room = w.try_difference-done-in-DeltaInt32.ensures.room;
          })
      | try_body-in-DeltaUInt64 w ↦ moved l there old v w.try_difference-done-in-DeltaUInt64.new.work new
          w.try_difference-done-in-DeltaUInt64.result done w.work-is w.done-is (record {
            suits = w.try_difference-done-in-DeltaUInt64.ensures.suits;
            fits = w.try_difference-done-in-DeltaUInt64.ensures.fits;
            ok = w.try_difference-done-in-DeltaUInt64.ensures.ok;
            keeps = w.try_difference-done-in-DeltaUInt64.ensures.keeps;
            room = w.try_difference-done-in-DeltaUInt64.ensures.room;
          })
      | try_body-in-DeltaInt64 w ↦ moved l there old v w.try_difference-done-in-DeltaInt64.new.work new
          w.try_difference-done-in-DeltaInt64.result done w.work-is w.done-is (record {
            suits = w.try_difference-done-in-DeltaInt64.ensures.suits;
            fits = w.try_difference-done-in-DeltaInt64.ensures.fits;
            ok = w.try_difference-done-in-DeltaInt64.ensures.ok;
            keeps = w.try_difference-done-in-DeltaInt64.ensures.keeps;
            room = w.try_difference-done-in-DeltaInt64.ensures.room;
          })
      | try_body-in-PlainAscii w ↦ moved l there old v w.try_plain-done-in-PlainAscii.new.work new w.try_plain-done-in-PlainAscii.result
          done w.work-is w.done-is (record {
            suits = w.try_plain-done-in-PlainAscii.ensures.suits;
            fits = w.try_plain-done-in-PlainAscii.ensures.fits;
            ok = w.try_plain-done-in-PlainAscii.ensures.ok;
            keeps = w.try_plain-done-in-PlainAscii.ensures.keeps;
            room = w.try_plain-done-in-PlainAscii.ensures.room;
          })
      | try_body-in-ConstantAscii w ↦ moved l there old v w.try_constant-done-in-ConstantAscii.new.work new
          w.try_constant-done-in-ConstantAscii.result done w.work-is w.done-is (record {
            suits = w.try_constant-done-in-ConstantAscii.ensures.suits;
            fits = w.try_constant-done-in-ConstantAscii.ensures.fits;
            ok = w.try_constant-done-in-ConstantAscii.ensures.ok;
            keeps = w.try_constant-done-in-ConstantAscii.ensures.keeps;
            room = w.try_constant-done-in-ConstantAscii.ensures.room;
          })
      | try_body-in-DefaultAscii w ↦ moved l there old v w.try_default-done-in-DefaultAscii.new.work new
          w.try_default-done-in-DefaultAscii.result done w.work-is w.done-is (record {
            suits = w.try_default-done-in-DefaultAscii.ensures.suits;
            fits = w.try_default-done-in-DefaultAscii.ensures.fits;
            ok = w.try_default-done-in-DefaultAscii.ensures.ok;
            keeps = w.try_default-done-in-DefaultAscii.ensures.keeps;
            room = w.try_default-done-in-DefaultAscii.ensures.room;
          })
      | try_body-in-CopyAscii w ↦ moved l there old v w.try_copied_other-done.new.work new w.try_copied_other-done.result done w.work-is w.done-is (record {
        suits = w.try_copied_other-done.ensures.suits;
        fits = w.try_copied_other-done.ensures.fits;
        ok = w.try_copied_other-done.ensures.ok;
        keeps = w.try_copied_other-done.ensures.keeps;
        room = w.try_copied_other-done.ensures.room;
      })
      | try_body-in-TailAscii w ↦ moved l there old v w.try_chosen-done.new.work new w.try_chosen-done.result done w.work-is w.done-is (record {
        suits = w.try_chosen-done.ensures.suits;
        fits = w.try_chosen-done.ensures.fits;
        ok = w.try_chosen-done.ensures.ok;
        keeps = w.try_chosen-done.ensures.keeps;
        room = w.try_chosen-done.ensures.room;
      })
      | try_body-in-DeltaAscii w ↦ moved l there old v w.try_chosen-done-in-DeltaAscii.new.work new w.try_chosen-done-in-DeltaAscii.result
          done w.work-is w.done-is (record {
            suits = w.try_chosen-done-in-DeltaAscii.ensures.suits;
            fits = w.try_chosen-done-in-DeltaAscii.ensures.fits;
            ok = w.try_chosen-done-in-DeltaAscii.ensures.ok;
            keeps = w.try_chosen-done-in-DeltaAscii.ensures.keeps;
            room = w.try_chosen-done-in-DeltaAscii.ensures.room;
          })
      | try_body-in-PlainUnicode w ↦ moved l there old v w.try_plain-done-in-PlainUnicode.new.work new
          w.try_plain-done-in-PlainUnicode.result done w.work-is w.done-is (record {
            suits = w.try_plain-done-in-PlainUnicode.ensures.suits;
            fits = w.try_plain-done-in-PlainUnicode.ensures.fits;
            ok = w.try_plain-done-in-PlainUnicode.ensures.ok;
            keeps = w.try_plain-done-in-PlainUnicode.ensures.keeps;
            room = w.try_plain-done-in-PlainUnicode.ensures.room;
          })
      | try_body-in-DeltaUnicode w ↦ moved l there old v w.try_chosen-done-in-DeltaUnicode.new.work new
          w.try_chosen-done-in-DeltaUnicode.result done w.work-is w.done-is (record {
            suits = w.try_chosen-done-in-DeltaUnicode.ensures.suits;
            fits = w.try_chosen-done-in-DeltaUnicode.ensures.fits;
            ok = w.try_chosen-done-in-DeltaUnicode.ensures.ok;
            keeps = w.try_chosen-done-in-DeltaUnicode.ensures.keeps;
            room = w.try_chosen-done-in-DeltaUnicode.ensures.room;
          })
      | try_body-in-PlainBytes w ↦ moved l there old v w.try_plain-done-in-PlainBytes.new.work new w.try_plain-done-in-PlainBytes.result
          done w.work-is w.done-is (record {
            suits = w.try_plain-done-in-PlainBytes.ensures.suits;
            fits = w.try_plain-done-in-PlainBytes.ensures.fits;
            ok = w.try_plain-done-in-PlainBytes.ensures.ok;
            keeps = w.try_plain-done-in-PlainBytes.ensures.keeps;
            room = w.try_plain-done-in-PlainBytes.ensures.room;
          })
      | try_body-in-TailBytes w ↦ moved l there old v w.try_chosen-done-in-TailBytes.new.work new w.try_chosen-done-in-TailBytes.result done
          w.work-is w.done-is (record {
            suits = w.try_chosen-done-in-TailBytes.ensures.suits;
            fits = w.try_chosen-done-in-TailBytes.ensures.fits;
            ok = w.try_chosen-done-in-TailBytes.ensures.ok;
            keeps = w.try_chosen-done-in-TailBytes.ensures.keeps;
            room = w.try_chosen-done-in-TailBytes.ensures.room;
          })
      | try_body-in-PlainDecimal w ↦ moved l there old v w.try_plain-done-in-PlainDecimal.new.work new
          w.try_plain-done-in-PlainDecimal.result done w.work-is w.done-is (record {
            suits = w.try_plain-done-in-PlainDecimal.ensures.suits;
            fits = w.try_plain-done-in-PlainDecimal.ensures.fits;
            ok = w.try_plain-done-in-PlainDecimal.ensures.ok;
            keeps = w.try_plain-done-in-PlainDecimal.ensures.keeps;
            room = w.try_plain-done-in-PlainDecimal.ensures.room;
          })
      | try_body-in-CopyDecimal w ↦ moved l there old v w.try_copied_other-done-in-CopyDecimal.new.work new
          w.try_copied_other-done-in-CopyDecimal.result done w.work-is w.done-is (record {
            suits = w.try_copied_other-done-in-CopyDecimal.ensures.suits;
            fits = w.try_copied_other-done-in-CopyDecimal.ensures.fits;
            ok = w.try_copied_other-done-in-CopyDecimal.ensures.ok;
            keeps = w.try_copied_other-done-in-CopyDecimal.ensures.keeps;
            room = w.try_copied_other-done-in-CopyDecimal.ensures.room;
          })
      | try_body-in-DeltaDecimal w ↦ moved l there old v w.try_chosen-done-in-DeltaDecimal.new.work new
          w.try_chosen-done-in-DeltaDecimal.result done w.work-is w.done-is (record {
            suits = w.try_chosen-done-in-DeltaDecimal.ensures.suits;
            fits = w.try_chosen-done-in-DeltaDecimal.ensures.fits;
            ok = w.try_chosen-done-in-DeltaDecimal.ensures.ok;
            keeps = w.try_chosen-done-in-DeltaDecimal.ensures.keeps;
            room = w.try_chosen-done-in-DeltaDecimal.ensures.room;
          })
      | try_body-in-DefaultParts w ↦ moved l there old v w.try_parts-done.new.work new
          w.try_parts-done.result done w.work-is w.done-is (record {
            suits = w.try_parts-done.ensures.suits;
            fits = w.try_parts-done.ensures.fits;
            ok = w.try_parts-done.ensures.ok;
            keeps = w.try_parts-done.ensures.keeps;
            room = w.try_parts-done.ensures.room;
          })
      | try_body-in-CopyParts w ↦ moved l there old v w.try_parts-done-in-CopyParts.new.work new
          w.try_parts-done-in-CopyParts.result done w.work-is w.done-is (record {
            suits = w.try_parts-done-in-CopyParts.ensures.suits;
            fits = w.try_parts-done-in-CopyParts.ensures.fits;
            ok = w.try_parts-done-in-CopyParts.ensures.ok;
            keeps = w.try_parts-done-in-CopyParts.ensures.keeps;
            room = w.try_parts-done-in-CopyParts.ensures.room;
          })
      | try_body-in-Other w ↦ moved l there old v w.try_other-done.new.work new w.try_other-done.result done w.work-is w.done-is (record {
        suits = w.try_other-done.ensures.suits;
        fits = w.try_other-done.ensures.fits;
        ok = w.try_other-done.ensures.ok;
        keeps = w.try_other-done.ensures.keeps;
        room = w.try_other-done.ensures.room;
      })
    ] in
    let stands = step_in (nodes_of c.args.plan.now.templates.now) c.args.body.now c.args.steps.now c.loop-i.i no_step c.requires.steps
    c.requires.nodes (omega (arith, c.if-not-has_slot_for_each.ensures.0 refl, c.loop-i-test.true)) in
    let tried : Tried l here old v new done = subst (λ (n : ℕ). Tried l (instruction_in (nodes_of c.args.plan.now.templates.now) n) old v new done)
    stands.0 tried_there in
    keeps_on c.args.work.now.ledger old.ledger new.ledger c.loop-i.invariant.keeps tried.keeps

pub try_body-loop-i-preserved : goal.try_body-loop-i-preserved
try_body-loop-i-preserved t c =
    let l = c.args.plan.now.limits in
    let nodes = nodes_of c.args.plan.now.templates.now in
    let i = c.loop-i.i in
    let here = instruction_in nodes (get_or c.args.body.now i 0) in
    let old = c.loop-i.work in
    let new = c.match-form_at.work in
    let x = c.index-slots-i.result in
    let inv = c.loop-i.invariant in
    let inside : i < length c.args.body.now = omega (arith, c.if-not-has_slot_for_each.ensures.0 refl, c.loop-i-test.true) in
    let done = c.match-form_at.done in
    let v = value_data c.in-One.value in
    let there = instruction_in (nodes_of c.args.plan.now.templates.now) (get_or c.args.steps.now c.loop-i.i no_step).node in
    let tried_there : Tried l there old v new done = elim c.match-form_at.branch [
      | try_body-in-PlainUInt32 w ↦ moved l there old v w.try_plain_unsigned-done.new.work new w.try_plain_unsigned-done.result done
          w.work-is w.done-is (record {
            suits = w.try_plain_unsigned-done.ensures.suits;
            fits = w.try_plain_unsigned-done.ensures.fits;
            ok = w.try_plain_unsigned-done.ensures.ok;
            keeps = w.try_plain_unsigned-done.ensures.keeps;
            room = w.try_plain_unsigned-done.ensures.room;
          })
      | try_body-in-PlainInt32 w ↦ moved l there old v w.try_plain-done.new.work new w.try_plain-done.result done w.work-is w.done-is (record {
        suits = w.try_plain-done.ensures.suits;
        fits = w.try_plain-done.ensures.fits;
        ok = w.try_plain-done.ensures.ok;
        keeps = w.try_plain-done.ensures.keeps;
        room = w.try_plain-done.ensures.room;
      })
      | try_body-in-PlainUInt64 w ↦ moved l there old v w.try_plain_unsigned-done-in-PlainUInt64.new.work new
          w.try_plain_unsigned-done-in-PlainUInt64.result done w.work-is w.done-is (record {
            suits = w.try_plain_unsigned-done-in-PlainUInt64.ensures.suits;
            fits = w.try_plain_unsigned-done-in-PlainUInt64.ensures.fits;
            ok = w.try_plain_unsigned-done-in-PlainUInt64.ensures.ok;
            keeps = w.try_plain_unsigned-done-in-PlainUInt64.ensures.keeps;
            room = w.try_plain_unsigned-done-in-PlainUInt64.ensures.room;
          })
      | try_body-in-PlainInt64 w ↦ moved l there old v w.try_plain-done-in-PlainInt64.new.work new w.try_plain-done-in-PlainInt64.result
          done w.work-is w.done-is (record {
            suits = w.try_plain-done-in-PlainInt64.ensures.suits;
            fits = w.try_plain-done-in-PlainInt64.ensures.fits;
            ok = w.try_plain-done-in-PlainInt64.ensures.ok;
            keeps = w.try_plain-done-in-PlainInt64.ensures.keeps;
            room = w.try_plain-done-in-PlainInt64.ensures.room;
          })
      | try_body-in-ConstantUInt32 w ↦ moved l there old v w.try_constant-done.new.work new w.try_constant-done.result done w.work-is w.done-is (record {
        suits = w.try_constant-done.ensures.suits;
        fits = w.try_constant-done.ensures.fits;
        ok = w.try_constant-done.ensures.ok;
        keeps = w.try_constant-done.ensures.keeps;
        room = w.try_constant-done.ensures.room;
      })
      | try_body-in-ConstantInt32 w ↦ moved l there old v w.try_constant-done-in-ConstantInt32.new.work new
          w.try_constant-done-in-ConstantInt32.result done w.work-is w.done-is (record {
            suits = w.try_constant-done-in-ConstantInt32.ensures.suits;
            fits = w.try_constant-done-in-ConstantInt32.ensures.fits;
            ok = w.try_constant-done-in-ConstantInt32.ensures.ok;
            keeps = w.try_constant-done-in-ConstantInt32.ensures.keeps;
            room = w.try_constant-done-in-ConstantInt32.ensures.room;
          })
      | try_body-in-ConstantUInt64 w ↦ moved l there old v w.try_constant-done-in-ConstantUInt64.new.work new
          w.try_constant-done-in-ConstantUInt64.result done w.work-is w.done-is (record {
            suits = w.try_constant-done-in-ConstantUInt64.ensures.suits;
            fits = w.try_constant-done-in-ConstantUInt64.ensures.fits;
            ok = w.try_constant-done-in-ConstantUInt64.ensures.ok;
            keeps = w.try_constant-done-in-ConstantUInt64.ensures.keeps;
            room = w.try_constant-done-in-ConstantUInt64.ensures.room;
          })
      | try_body-in-ConstantInt64 w ↦ moved l there old v w.try_constant-done-in-ConstantInt64.new.work new
          w.try_constant-done-in-ConstantInt64.result done w.work-is w.done-is (record {
            suits = w.try_constant-done-in-ConstantInt64.ensures.suits;
            fits = w.try_constant-done-in-ConstantInt64.ensures.fits;
            ok = w.try_constant-done-in-ConstantInt64.ensures.ok;
            keeps = w.try_constant-done-in-ConstantInt64.ensures.keeps;
            room = w.try_constant-done-in-ConstantInt64.ensures.room;
          })
      | try_body-in-DefaultUInt32 w ↦ moved l there old v w.try_default-done.new.work new w.try_default-done.result done w.work-is w.done-is (record {
        suits = w.try_default-done.ensures.suits;
        fits = w.try_default-done.ensures.fits;
        ok = w.try_default-done.ensures.ok;
        keeps = w.try_default-done.ensures.keeps;
        room = w.try_default-done.ensures.room;
      })
      | try_body-in-DefaultInt32 w ↦ moved l there old v w.try_default-done-in-DefaultInt32.new.work new
          w.try_default-done-in-DefaultInt32.result done w.work-is w.done-is (record {
            suits = w.try_default-done-in-DefaultInt32.ensures.suits;
            fits = w.try_default-done-in-DefaultInt32.ensures.fits;
            ok = w.try_default-done-in-DefaultInt32.ensures.ok;
            keeps = w.try_default-done-in-DefaultInt32.ensures.keeps;
            room = w.try_default-done-in-DefaultInt32.ensures.room;
          })
      | try_body-in-DefaultUInt64 w ↦ moved l there old v w.try_default-done-in-DefaultUInt64.new.work new
          w.try_default-done-in-DefaultUInt64.result done w.work-is w.done-is (record {
            suits = w.try_default-done-in-DefaultUInt64.ensures.suits;
            fits = w.try_default-done-in-DefaultUInt64.ensures.fits;
            ok = w.try_default-done-in-DefaultUInt64.ensures.ok;
            keeps = w.try_default-done-in-DefaultUInt64.ensures.keeps;
            room = w.try_default-done-in-DefaultUInt64.ensures.room;
          })
      | try_body-in-DefaultInt64 w ↦ moved l there old v w.try_default-done-in-DefaultInt64.new.work new
          w.try_default-done-in-DefaultInt64.result done w.work-is w.done-is (record {
            suits = w.try_default-done-in-DefaultInt64.ensures.suits;
            fits = w.try_default-done-in-DefaultInt64.ensures.fits;
            ok = w.try_default-done-in-DefaultInt64.ensures.ok;
            keeps = w.try_default-done-in-DefaultInt64.ensures.keeps;
            room = w.try_default-done-in-DefaultInt64.ensures.room;
          })
      | try_body-in-CopyUInt32 w ↦ moved l there old v w.try_copied-done.new.work new w.try_copied-done.result done w.work-is w.done-is (record {
        suits = w.try_copied-done.ensures.suits;
        fits = w.try_copied-done.ensures.fits;
        ok = w.try_copied-done.ensures.ok;
        keeps = w.try_copied-done.ensures.keeps;
        room = w.try_copied-done.ensures.room;
      })
      | try_body-in-CopyInt32 w ↦ moved l there old v w.try_copied-done-in-CopyInt32.new.work new w.try_copied-done-in-CopyInt32.result done
          w.work-is w.done-is (record {
            suits = w.try_copied-done-in-CopyInt32.ensures.suits;
            fits = w.try_copied-done-in-CopyInt32.ensures.fits;
            ok = w.try_copied-done-in-CopyInt32.ensures.ok;
            keeps = w.try_copied-done-in-CopyInt32.ensures.keeps;
            room = w.try_copied-done-in-CopyInt32.ensures.room;
          })
      | try_body-in-CopyUInt64 w ↦ moved l there old v w.try_copied-done-in-CopyUInt64.new.work new w.try_copied-done-in-CopyUInt64.result
          done w.work-is w.done-is (record {
            suits = w.try_copied-done-in-CopyUInt64.ensures.suits;
            fits = w.try_copied-done-in-CopyUInt64.ensures.fits;
            ok = w.try_copied-done-in-CopyUInt64.ensures.ok;
            keeps = w.try_copied-done-in-CopyUInt64.ensures.keeps;
            room = w.try_copied-done-in-CopyUInt64.ensures.room;
          })
      | try_body-in-CopyInt64 w ↦ moved l there old v w.try_copied-done-in-CopyInt64.new.work new w.try_copied-done-in-CopyInt64.result done
          w.work-is w.done-is (record {
            suits = w.try_copied-done-in-CopyInt64.ensures.suits;
            fits = w.try_copied-done-in-CopyInt64.ensures.fits;
            ok = w.try_copied-done-in-CopyInt64.ensures.ok;
            keeps = w.try_copied-done-in-CopyInt64.ensures.keeps;
            room = w.try_copied-done-in-CopyInt64.ensures.room;
          })
      | try_body-in-IncrementUInt32 w ↦ moved l there old v w.try_next-done.new.work new w.try_next-done.result done w.work-is w.done-is (record {
        suits = w.try_next-done.ensures.suits;
        fits = w.try_next-done.ensures.fits;
        ok = w.try_next-done.ensures.ok;
        keeps = w.try_next-done.ensures.keeps;
        room = w.try_next-done.ensures.room;
      })
      | try_body-in-IncrementInt32 w ↦ moved l there old v w.try_next-done-in-IncrementInt32.new.work new
          w.try_next-done-in-IncrementInt32.result done w.work-is w.done-is (record {
            suits = w.try_next-done-in-IncrementInt32.ensures.suits;
            fits = w.try_next-done-in-IncrementInt32.ensures.fits;
            ok = w.try_next-done-in-IncrementInt32.ensures.ok;
            keeps = w.try_next-done-in-IncrementInt32.ensures.keeps;
            room = w.try_next-done-in-IncrementInt32.ensures.room;
          })
      | try_body-in-IncrementUInt64 w ↦ moved l there old v w.try_next-done-in-IncrementUInt64.new.work new
          w.try_next-done-in-IncrementUInt64.result done w.work-is w.done-is (record {
            suits = w.try_next-done-in-IncrementUInt64.ensures.suits;
            fits = w.try_next-done-in-IncrementUInt64.ensures.fits;
            ok = w.try_next-done-in-IncrementUInt64.ensures.ok;
            keeps = w.try_next-done-in-IncrementUInt64.ensures.keeps;
            room = w.try_next-done-in-IncrementUInt64.ensures.room;
          })
      | try_body-in-IncrementInt64 w ↦ moved l there old v w.try_next-done-in-IncrementInt64.new.work new
          w.try_next-done-in-IncrementInt64.result done w.work-is w.done-is (record {
            suits = w.try_next-done-in-IncrementInt64.ensures.suits;
            fits = w.try_next-done-in-IncrementInt64.ensures.fits;
            ok = w.try_next-done-in-IncrementInt64.ensures.ok;
            keeps = w.try_next-done-in-IncrementInt64.ensures.keeps;
            room = w.try_next-done-in-IncrementInt64.ensures.room;
          })
      | try_body-in-DeltaUInt32 w ↦ moved l there old v w.try_difference-done.new.work new w.try_difference-done.result done w.work-is w.done-is (record {
        suits = w.try_difference-done.ensures.suits;
        fits = w.try_difference-done.ensures.fits;
        ok = w.try_difference-done.ensures.ok;
        keeps = w.try_difference-done.ensures.keeps;
        room = w.try_difference-done.ensures.room;
      })
      | try_body-in-DeltaInt32 w ↦ moved l there old v w.try_difference-done-in-DeltaInt32.new.work new
          w.try_difference-done-in-DeltaInt32.result done w.work-is w.done-is (record {
            suits = w.try_difference-done-in-DeltaInt32.ensures.suits;
            fits = w.try_difference-done-in-DeltaInt32.ensures.fits;
            ok = w.try_difference-done-in-DeltaInt32.ensures.ok;
            keeps = w.try_difference-done-in-DeltaInt32.ensures.keeps;
            room = w.try_difference-done-in-DeltaInt32.ensures.room;
          })
      | try_body-in-DeltaUInt64 w ↦ moved l there old v w.try_difference-done-in-DeltaUInt64.new.work new
          w.try_difference-done-in-DeltaUInt64.result done w.work-is w.done-is (record {
            suits = w.try_difference-done-in-DeltaUInt64.ensures.suits;
            fits = w.try_difference-done-in-DeltaUInt64.ensures.fits;
            ok = w.try_difference-done-in-DeltaUInt64.ensures.ok;
            keeps = w.try_difference-done-in-DeltaUInt64.ensures.keeps;
            room = w.try_difference-done-in-DeltaUInt64.ensures.room;
          })
      | try_body-in-DeltaInt64 w ↦ moved l there old v w.try_difference-done-in-DeltaInt64.new.work new
          w.try_difference-done-in-DeltaInt64.result done w.work-is w.done-is (record {
            suits = w.try_difference-done-in-DeltaInt64.ensures.suits;
            fits = w.try_difference-done-in-DeltaInt64.ensures.fits;
            ok = w.try_difference-done-in-DeltaInt64.ensures.ok;
            keeps = w.try_difference-done-in-DeltaInt64.ensures.keeps;
            room = w.try_difference-done-in-DeltaInt64.ensures.room;
          })
      | try_body-in-PlainAscii w ↦ moved l there old v w.try_plain-done-in-PlainAscii.new.work new w.try_plain-done-in-PlainAscii.result
          done w.work-is w.done-is (record {
            suits = w.try_plain-done-in-PlainAscii.ensures.suits;
            fits = w.try_plain-done-in-PlainAscii.ensures.fits;
            ok = w.try_plain-done-in-PlainAscii.ensures.ok;
            keeps = w.try_plain-done-in-PlainAscii.ensures.keeps;
            room = w.try_plain-done-in-PlainAscii.ensures.room;
          })
      | try_body-in-ConstantAscii w ↦ moved l there old v w.try_constant-done-in-ConstantAscii.new.work new
          w.try_constant-done-in-ConstantAscii.result done w.work-is w.done-is (record {
            suits = w.try_constant-done-in-ConstantAscii.ensures.suits;
            fits = w.try_constant-done-in-ConstantAscii.ensures.fits;
            ok = w.try_constant-done-in-ConstantAscii.ensures.ok;
            keeps = w.try_constant-done-in-ConstantAscii.ensures.keeps;
            room = w.try_constant-done-in-ConstantAscii.ensures.room;
          })
      | try_body-in-DefaultAscii w ↦ moved l there old v w.try_default-done-in-DefaultAscii.new.work new
          w.try_default-done-in-DefaultAscii.result done w.work-is w.done-is (record {
            suits = w.try_default-done-in-DefaultAscii.ensures.suits;
            fits = w.try_default-done-in-DefaultAscii.ensures.fits;
            ok = w.try_default-done-in-DefaultAscii.ensures.ok;
            keeps = w.try_default-done-in-DefaultAscii.ensures.keeps;
            room = w.try_default-done-in-DefaultAscii.ensures.room;
          })
      | try_body-in-CopyAscii w ↦ moved l there old v w.try_copied_other-done.new.work new w.try_copied_other-done.result done w.work-is w.done-is (record {
        suits = w.try_copied_other-done.ensures.suits;
        fits = w.try_copied_other-done.ensures.fits;
        ok = w.try_copied_other-done.ensures.ok;
        keeps = w.try_copied_other-done.ensures.keeps;
        room = w.try_copied_other-done.ensures.room;
      })
      | try_body-in-TailAscii w ↦ moved l there old v w.try_chosen-done.new.work new w.try_chosen-done.result done w.work-is w.done-is (record {
        suits = w.try_chosen-done.ensures.suits;
        fits = w.try_chosen-done.ensures.fits;
        ok = w.try_chosen-done.ensures.ok;
        keeps = w.try_chosen-done.ensures.keeps;
        room = w.try_chosen-done.ensures.room;
      })
      | try_body-in-DeltaAscii w ↦ moved l there old v w.try_chosen-done-in-DeltaAscii.new.work new w.try_chosen-done-in-DeltaAscii.result
          done w.work-is w.done-is (record {
            suits = w.try_chosen-done-in-DeltaAscii.ensures.suits;
            fits = w.try_chosen-done-in-DeltaAscii.ensures.fits;
            ok = w.try_chosen-done-in-DeltaAscii.ensures.ok;
            keeps = w.try_chosen-done-in-DeltaAscii.ensures.keeps;
            room = w.try_chosen-done-in-DeltaAscii.ensures.room;
          })
      | try_body-in-PlainUnicode w ↦ moved l there old v w.try_plain-done-in-PlainUnicode.new.work new
          w.try_plain-done-in-PlainUnicode.result done w.work-is w.done-is (record {
            suits = w.try_plain-done-in-PlainUnicode.ensures.suits;
            fits = w.try_plain-done-in-PlainUnicode.ensures.fits;
            ok = w.try_plain-done-in-PlainUnicode.ensures.ok;
            keeps = w.try_plain-done-in-PlainUnicode.ensures.keeps;
            room = w.try_plain-done-in-PlainUnicode.ensures.room;
          })
      | try_body-in-DeltaUnicode w ↦ moved l there old v w.try_chosen-done-in-DeltaUnicode.new.work new
          w.try_chosen-done-in-DeltaUnicode.result done w.work-is w.done-is (record {
            suits = w.try_chosen-done-in-DeltaUnicode.ensures.suits;
            fits = w.try_chosen-done-in-DeltaUnicode.ensures.fits;
            ok = w.try_chosen-done-in-DeltaUnicode.ensures.ok;
            keeps = w.try_chosen-done-in-DeltaUnicode.ensures.keeps;
            room = w.try_chosen-done-in-DeltaUnicode.ensures.room;
          })
      | try_body-in-PlainBytes w ↦ moved l there old v w.try_plain-done-in-PlainBytes.new.work new w.try_plain-done-in-PlainBytes.result
          done w.work-is w.done-is (record {
            suits = w.try_plain-done-in-PlainBytes.ensures.suits;
            fits = w.try_plain-done-in-PlainBytes.ensures.fits;
            ok = w.try_plain-done-in-PlainBytes.ensures.ok;
            keeps = w.try_plain-done-in-PlainBytes.ensures.keeps;
            room = w.try_plain-done-in-PlainBytes.ensures.room;
          })
      | try_body-in-TailBytes w ↦ moved l there old v w.try_chosen-done-in-TailBytes.new.work new w.try_chosen-done-in-TailBytes.result done
          w.work-is w.done-is (record {
            suits = w.try_chosen-done-in-TailBytes.ensures.suits;
            fits = w.try_chosen-done-in-TailBytes.ensures.fits;
            ok = w.try_chosen-done-in-TailBytes.ensures.ok;
            keeps = w.try_chosen-done-in-TailBytes.ensures.keeps;
            room = w.try_chosen-done-in-TailBytes.ensures.room;
          })
      | try_body-in-PlainDecimal w ↦ moved l there old v w.try_plain-done-in-PlainDecimal.new.work new
          w.try_plain-done-in-PlainDecimal.result done w.work-is w.done-is (record {
            suits = w.try_plain-done-in-PlainDecimal.ensures.suits;
            fits = w.try_plain-done-in-PlainDecimal.ensures.fits;
            ok = w.try_plain-done-in-PlainDecimal.ensures.ok;
            keeps = w.try_plain-done-in-PlainDecimal.ensures.keeps;
            room = w.try_plain-done-in-PlainDecimal.ensures.room;
          })
      | try_body-in-CopyDecimal w ↦ moved l there old v w.try_copied_other-done-in-CopyDecimal.new.work new
          w.try_copied_other-done-in-CopyDecimal.result done w.work-is w.done-is (record {
            suits = w.try_copied_other-done-in-CopyDecimal.ensures.suits;
            fits = w.try_copied_other-done-in-CopyDecimal.ensures.fits;
            ok = w.try_copied_other-done-in-CopyDecimal.ensures.ok;
            keeps = w.try_copied_other-done-in-CopyDecimal.ensures.keeps;
            room = w.try_copied_other-done-in-CopyDecimal.ensures.room;
          })
      | try_body-in-DeltaDecimal w ↦ moved l there old v w.try_chosen-done-in-DeltaDecimal.new.work new
          w.try_chosen-done-in-DeltaDecimal.result done w.work-is w.done-is (record {
            suits = w.try_chosen-done-in-DeltaDecimal.ensures.suits;
            fits = w.try_chosen-done-in-DeltaDecimal.ensures.fits;
            ok = w.try_chosen-done-in-DeltaDecimal.ensures.ok;
            keeps = w.try_chosen-done-in-DeltaDecimal.ensures.keeps;
            room = w.try_chosen-done-in-DeltaDecimal.ensures.room;
          })
      | try_body-in-DefaultParts w ↦ moved l there old v w.try_parts-done.new.work new
          w.try_parts-done.result done w.work-is w.done-is (record {
            suits = w.try_parts-done.ensures.suits;
            fits = w.try_parts-done.ensures.fits;
            ok = w.try_parts-done.ensures.ok;
            keeps = w.try_parts-done.ensures.keeps;
            room = w.try_parts-done.ensures.room;
          })
      | try_body-in-CopyParts w ↦ moved l there old v w.try_parts-done-in-CopyParts.new.work new
          w.try_parts-done-in-CopyParts.result done w.work-is w.done-is (record {
            suits = w.try_parts-done-in-CopyParts.ensures.suits;
            fits = w.try_parts-done-in-CopyParts.ensures.fits;
            ok = w.try_parts-done-in-CopyParts.ensures.ok;
            keeps = w.try_parts-done-in-CopyParts.ensures.keeps;
            room = w.try_parts-done-in-CopyParts.ensures.room;
          })
      | try_body-in-Other w ↦ moved l there old v w.try_other-done.new.work new w.try_other-done.result done w.work-is w.done-is (record {
        suits = w.try_other-done.ensures.suits;
        fits = w.try_other-done.ensures.fits;
        ok = w.try_other-done.ensures.ok;
        keeps = w.try_other-done.ensures.keeps;
        room = w.try_other-done.ensures.room;
      })
    ] in
    let stands = step_in (nodes_of c.args.plan.now.templates.now) c.args.body.now c.args.steps.now c.loop-i.i no_step c.requires.steps
    c.requires.nodes (omega (arith, c.if-not-has_slot_for_each.ensures.0 refl, c.loop-i-test.true)) in
    let tried : Tried l here old v new done = subst (λ (n : ℕ). Tried l (instruction_in (nodes_of c.args.plan.now.templates.now) n) old v new done)
    stands.0 tried_there in
    let good : is_ok done ≡ true = c.if-is_err-2.ensures.negation in
    let keeps = tried.keeps in
    let item : option_map item_data x ≡ Some (one v) = ap (option_map item_data) c.in-Some.is
    ∙ ap (λ (z : Item). Some (item_data z)) c.in-One.is ∙ ap Some (item_data-One c.in-One.value) in
    let accepted : IsAccepted l here (Some (one v)) old.room new.room =
    (of_ok done tried.suits good, (of_ok done tried.fits good, let same = tried.room in omega (arith, same))) in
    let wrote = of_ok done tried.ok good in
    let a : IsAccepted l here (option_map item_data x) old.room new.room =
    subst (λ (y : Option ItemData). IsAccepted l here y old.room new.room) (sym item) accepted in
    let ok : Wrote (Encodes l here old.ledger.now (option_map item_data x)) old.draft new.draft new.ledger.now =
    subst (λ (y : Option ItemData). Wrote (Encodes l here old.ledger.now y) old.draft new.draft new.ledger.now) (sym item) wrote in
    let count = one_total l c.args.slots.now i x c.loop-i-test.true c.index-slots-i.is old.room new.room a.1 in
    record {
      written = more_at l nodes c.args.body.now c.args.slots.now i x inside c.loop-i-test.true c.index-slots-i.is
          c.args.work.now.ledger.now c.args.work.now.draft old.ledger.now new.ledger.now old.draft new.draft inv.written ok;
      suits = λ h. inv.suits (one_suits nodes c.args.body.now c.args.slots.now i x inside c.loop-i-test.true c.index-slots-i.is a.0 h);
      fits = λ h. inv.fits (one_fits l c.args.slots.now i x c.loop-i-test.true c.index-slots-i.is old.room new.room a.1 h);
      sum = let before = inv.sum in omega (arith, count, before);
      ready = ready_kept c.args.plan.now.templates.now l old.ledger new.ledger inv.ready keeps;
      keeps = keeps_on c.args.work.now.ledger old.ledger new.ledger inv.keeps keeps;
    }

pub try_body-returns-clause-ok : goal.try_body-returns-clause-ok
try_body-returns-clause-ok t c = λ _.
    let past : length c.args.body.now ≤ c.loop-i.i = omega (arith, c.if-not-has_slot_for_each.ensures.0 refl, c.loop-i-test.false) in
    all_written c.args.plan.now.limits (nodes_of c.args.plan.now.templates.now) c.args.body.now c.args.slots.now c.loop-i.i
    c.args.work.now.ledger.now c.args.work.now.draft c.loop-i.work.ledger.now c.loop-i.work.draft c.loop-i-test.false
    (no_slot_suits (nodes_of c.args.plan.now.templates.now) c.args.body.now c.args.slots.now c.loop-i.i past c.loop-i-test.false) c.loop-i.invariant.written

pub try_item-try_segment-requires : goal.try_item-try_segment-requires
try_item-try_segment-requires t c =
    let nodes = nodes_of c.args.plan.now.templates.now in
    let shape = Group c.in-Group-Group.optional c.in-Group-Group.body in
    let later = subst (λ (z : Shape). AreBetween c.args.here.now.node (length nodes) (numbers_of z)) c.in-Group-Group.is-0 c.node.ensures.body in
    let has = has_bits nodes c.segment_bits-has_map.result c.node.result.now shape
    (c.segment_bits-has_map.ensures c.node.result.now c.node.ensures.found) c.in-Group-Group.is-0 in
    let d : 4 * item_depth (item_data c.args.item.now) ≡ t = c.decreases in
    let deep : item_depth (item_data c.args.item.now) ≡ item_depth (group_item (slots_data c.in-Group-Group.slots.items)) =
    ap item_depth (ap item_data c.in-Group-Group.is-1 ∙ item_data-Group c.in-Group-Group.slots) in
    let smaller : 4 * slots_depth (slots_data c.deref-in-Group-Group.result.now) + 3 < t = rw c.deref-in-Group-Group.ensures.value (omega (arith, d, deep)) in
    let steps = c.body.ensures c.node.result.now c.node.ensures.found ∙ ap (body_steps nodes) (ap numbers_of c.in-Group-Group.is-0) in
    (smaller, (rw c.deref.ensures.value has, (rw c.deref.ensures.value (λ k h. (later k h).1), (rw c.deref.ensures.value steps, c.requires.ready))))

pub try_item-returns-else-is_err-clause-accepted : goal.try_item-returns-else-is_err-clause-accepted
try_item-returns-else-is_err-clause-accepted t c = λ e.
    let nodes = nodes_of c.args.plan.now.templates.now in
    let l = c.args.plan.now.limits in
    let v = c.node.result.now in
    let at = label_of c.args.here.now.node v in
    let i = instruction_in nodes c.args.here.now.node in
    let shape = Group c.in-Group-Group.optional c.in-Group-Group.body in
    let j = instruction_among nodes at shape in
    let y : Option ItemData = Some (group_item (slots_data c.in-Group-Group.slots.items)) in
    let here : i ≡ j = at_shape nodes c.args.here.now.node v shape c.node.ensures.found c.node.ensures.body c.in-Group-Group.is-0 in
    let item : Some (item_data c.args.item.now) ≡ y = ap (λ (z : Item). Some (item_data z)) c.in-Group-Group.is-1
    ∙ ap Some (item_data-Group c.in-Group-Group.slots) in
    let good : is_ok c.try_segment.result ≡ true = sym c.is_ok.ensures.value ∙ e in
    let suits = rw (c.deref.ensures.value, c.deref-in-Group-Group.ensures.value) at (of_ok c.try_segment.result c.try_segment.ensures.suits good) in
    let fits = rw c.deref-in-Group-Group.ensures.value at (of_ok c.try_segment.result c.try_segment.ensures.fits good) in
    accepted_as l i j (Some (item_data c.args.item.now)) y c.args.work.now.room c.try_segment.new.work.room here item (suits, fits)

pub try_item-returns-else-is_err-clause-ok : goal.try_item-returns-else-is_err-clause-ok
try_item-returns-else-is_err-clause-ok t c = λ e.
    let nodes = nodes_of c.args.plan.now.templates.now in
    let l = c.args.plan.now.limits in
    let v = c.node.result.now in
    let at = label_of c.args.here.now.node v in
    let i = instruction_in nodes c.args.here.now.node in
    let shape = Group c.in-Group-Group.optional c.in-Group-Group.body in
    let j = instruction_among nodes at shape in
    let y : Option ItemData = Some (group_item (slots_data c.in-Group-Group.slots.items)) in
    let here : i ≡ j = at_shape nodes c.args.here.now.node v shape c.node.ensures.found c.node.ensures.body c.in-Group-Group.is-0 in
    let item : Some (item_data c.args.item.now) ≡ y = ap (λ (z : Item). Some (item_data z)) c.in-Group-Group.is-1
    ∙ ap Some (item_data-Group c.in-Group-Group.slots) in
    let good : is_ok c.try_segment.result ≡ true = sym c.is_ok.ensures.value ∙ e in
    let body = body_among nodes c.in-Group-Group.body.items in
    let vs = slots_data c.in-Group-Group.slots.items in
    let z = rw (c.deref.ensures.value, c.deref-in-Group-Group.ensures.value) at (of_ok c.try_segment.result c.try_segment.ensures.ok good) in
    let d = c.args.work.now.ledger.now in
    let a = c.args.work.now.draft in
    let pushed = c.push_bit_if.new.self in
    let bits = of_ok c.push_bit_if.result c.push_bit_if.ensures.bits c.if-is_err.ensures.negation in
    encodes_as l i j (Some (item_data c.args.item.now)) y d a c.try_segment.new.work.draft c.try_segment.new.work.ledger.now here item
    (group_encodes l at c.in-Group-Group.optional body vs d a pushed c.try_segment.new.work.draft z.0 c.try_segment.new.work.ledger.now
    bits c.push_bit_if.ensures.bytes z.1 z.2 z.3)

pub try_item-write_field-requires-clause-served : goal.try_item-write_field-requires-clause-served
try_item-write_field-requires-clause-served t c =
    let shape = Sequence c.in-Sequence-Sequence.length c.in-Sequence-Sequence.body in
    served c.args.plan.now.templates.now c.args.plan.now.limits c.args.work.now.ledger
    (field_data c.in-Sequence-Sequence.length) c.requires.ready
    (usable_at (tree_of c.args.plan.now.templates.now).entries c.node.result.now shape c.in-Sequence-Sequence.is-0
    c.node.ensures.usable).0
    (λ m none long. short_at (nodes_of c.args.plan.now.templates.now) c.args.here.now.node c.node.result.now shape m c.node.ensures.found
    c.in-Sequence-Sequence.is-0 none long)

pub try_item-loop-row-init : goal.try_item-loop-row-init
try_item-loop-row-init t c =
    let nodes = nodes_of c.args.plan.now.templates.now in
    let body = body_among nodes c.in-Sequence-Sequence.body.items in
    let after = c.write_field.new in
    let kept : Keeps c.args.work.now.ledger after.ledger = record {
      before = c.write_field.ensures.before;
      room = c.write_field.ensures.max_text;
      count = c.write_field.ensures.length;
    } in
    let all : length c.deref-row-items.result.now ≡ length c.in-Sequence-Sequence.rows.items = ap length c.deref-row-items.ensures.value in
    let tested : c.len-else-len-plan.result ≡ length c.in-Sequence-Sequence.rows.items = c.len-else-len-plan.ensures ∙ c.in-Sequence-Sequence.rows.ok.0 in
    let taken : c.len-in-Sequence-Sequence-2.result ≡ length c.in-Sequence-Sequence.rows.items = c.len-in-Sequence-Sequence-2.ensures
    ∙ c.in-Sequence-Sequence.rows.ok.0 in
    let few = c.if-len-work.false in
    let counted = count-elements_data c.deref-row-items.result.now in
    record {
      written = rows_start c.args.plan.now.limits body (elements_data c.deref-row-items.result.now) after.ledger.now after.draft;
      right = λ h. h;
      fits = λ h. h;
      sum = omega (arith, all, tested, taken, few, counted);
      ready = ready_kept c.args.plan.now.templates.now c.args.plan.now.limits c.args.work.now.ledger after.ledger c.requires.ready kept;
      keeps = kept;
    }

pub try_item-try_segment-requires-in-loop-row : goal.try_item-try_segment-requires-in-loop-row
try_item-try_segment-requires-in-loop-row t c =
    let nodes = nodes_of c.args.plan.now.templates.now in
    let shape = Sequence c.in-Sequence-Sequence.length c.in-Sequence-Sequence.body in
    let later = subst (λ (z : Shape). AreBetween c.args.here.now.node (length nodes) (numbers_of z)) c.in-Sequence-Sequence.is-0 c.node.ensures.body in
    let has = has_bits nodes c.segment_bits-has_map-in-Sequence-Sequence.result c.node.result.now shape
    (c.segment_bits-has_map-in-Sequence-Sequence.ensures c.node.result.now c.node.ensures.found) c.in-Sequence-Sequence.is-0 in
    let d : 4 * item_depth (item_data c.args.item.now) ≡ t = c.decreases in
    let deep : item_depth (item_data c.args.item.now) ≡ item_depth (sequence_item (elements_data c.in-Sequence-Sequence.rows.items)) =
    ap item_depth (ap item_data c.in-Sequence-Sequence.is-1 ∙ item_data-Sequence c.in-Sequence-Sequence.rows) in
    let own : slots_depth (slots_data c.row-item.result.items) ≤ rows_depth (elements_data c.in-Sequence-Sequence.rows.items) =
    rw c.deref-row-items.ensures.value at (row_depth c.deref-row-items.result.now c.loop-row.row-index c.row-item.result
    c.loop-row-test.true c.row-item.is) in
    let smaller : 4 * slots_depth (slots_data c.deref-in-loop-row-2.result.now) + 3 < t =
    rw c.deref-in-loop-row-2.ensures.value (omega (arith, d, deep, own)) in
    let steps = c.body-steps.ensures c.node.result.now c.node.ensures.found ∙ ap (body_steps nodes) (ap numbers_of c.in-Sequence-Sequence.is-0) in (
      smaller,
      (
        rw c.deref-in-loop-row.ensures.value has,
        (
          rw c.deref-in-loop-row.ensures.value (λ k h. (later k h).1),
          (rw c.deref-in-loop-row.ensures.value steps, c.loop-row.invariant.ready),
        ),
      ),
    )

pub try_item-loop-row-preserved : goal.try_item-loop-row-preserved
try_item-loop-row-preserved t c =
    let nodes = nodes_of c.args.plan.now.templates.now in
    let l = c.args.plan.now.limits in
    let body = body_among nodes c.in-Sequence-Sequence.body.items in
    let inv = c.loop-row.invariant in
    let rs = c.deref-row-items.result.now in
    let k = c.loop-row.row-index in
    let r = c.row-item.result in
    let after = c.write_field.new in
    let good = c.if-is_err-3.ensures.negation in
    let one = c.try_segment-in-loop-row in
    let z = rw (c.deref-in-loop-row.ensures.value, c.deref-in-loop-row-2.ensures.value) at (of_ok one.result one.ensures.ok good) in
    let suits = rw (c.deref-in-loop-row.ensures.value, c.deref-in-loop-row-2.ensures.value) at (of_ok one.result one.ensures.suits good) in
    let fits = rw c.deref-in-loop-row-2.ensures.value at (of_ok one.result one.ensures.fits good) in
    let own = one_row_total l (SuitsBody body) rs k r c.loop-row-test.true c.row-item.is in
    let before = inv.sum in
    let left = fits.1 in
    let closed : IsClosed l body (slots_data r.items) c.loop-row.work.ledger.now one.new.work.ledger.now c.loop-row.work.draft one.new.work.draft = record {
      bytes = z.0;
      bits_are = z.1;
      bytes_are = z.2;
      says = z.3;
    } in
    record {
      written = row_more l body rs k r c.loop-row-test.true c.row-item.is after.ledger.now after.draft c.loop-row.work.ledger.now
          one.new.work.ledger.now c.loop-row.work.draft one.new.work.draft inv.written closed;
      right = λ h. inv.right (one_row_right l (SuitsBody body) rs k r c.loop-row-test.true c.row-item.is suits h);
      fits = λ h. inv.fits (one_row_fits l (SuitsBody body) rs k r c.loop-row-test.true c.row-item.is fits.0 h);
      sum = omega (arith, own, before, left);
      ready = ready_kept c.args.plan.now.templates.now l c.loop-row.work.ledger one.new.work.ledger inv.ready one.ensures.keeps;
      keeps = keeps_on c.args.work.now.ledger c.loop-row.work.ledger one.new.work.ledger inv.keeps one.ensures.keeps;
    }

pub try_item-returns-after-loop-row-clause-accepted : goal.try_item-returns-after-loop-row-clause-accepted
try_item-returns-after-loop-row-clause-accepted t c = λ _.
    let nodes = nodes_of c.args.plan.now.templates.now in
    let l = c.args.plan.now.limits in
    let v = c.node.result.now in
    let at = label_of c.args.here.now.node v in
    let i = instruction_in nodes c.args.here.now.node in
    let shape = Sequence c.in-Sequence-Sequence.length c.in-Sequence-Sequence.body in
    let j = instruction_among nodes at shape in
    let y : Option ItemData = Some (sequence_item (elements_data c.in-Sequence-Sequence.rows.items)) in
    let here : i ≡ j = at_shape nodes c.args.here.now.node v shape c.node.ensures.found c.node.ensures.body c.in-Sequence-Sequence.is-0 in
    let item : Some (item_data c.args.item.now) ≡ y = ap (λ (z : Item). Some (item_data z)) c.in-Sequence-Sequence.is-1
    ∙ ap Some (item_data-Sequence c.in-Sequence-Sequence.rows) in
    let body = body_among nodes c.in-Sequence-Sequence.body.items in
    let whole = c.deref-row-items.ensures.value in
    let inv = c.loop-row.invariant in
    let rs = c.deref-row-items.result.now in
    let k = c.loop-row.row-index in
    let right = rw whole at (inv.right (no_row_suits (SuitsBody body) rs k c.loop-row-test.false)) in
    let fits = rw whole at (inv.fits (no_row_fits l rs k c.loop-row-test.false)) in
    let none = no_row_total rs k c.loop-row-test.false in
    let before = inv.sum in
    let sum : c.loop-row.work.room + (count (elements_data rs) + rows_total (elements_data rs)) ≡ c.args.work.now.room = omega (arith, none, before) in
    let sum_here = rw whole at sum in
    let counted = count-elements_data c.in-Sequence-Sequence.rows.items in
    let tested : c.len.result ≡ length c.in-Sequence-Sequence.rows.items = c.len.ensures ∙ c.in-Sequence-Sequence.rows.ok.0 in
    let again : c.len-else-len-plan.result ≡ length c.in-Sequence-Sequence.rows.items = c.len-else-len-plan.ensures ∙ c.in-Sequence-Sequence.rows.ok.0 in
    let few = c.if-len-plan.false in
    let room = c.if-len-work.false in
    let short : count (elements_data c.in-Sequence-Sequence.rows.items) ≤ l.max_elements = omega (arith, counted, tested, few) in
    let countable : count (elements_data c.in-Sequence-Sequence.rows.items) < 2 ^ 32 = omega (arith, counted, again, room) in
    accepted_as l i j (Some (item_data c.args.item.now)) y c.args.work.now.room c.loop-row.work.room here item ((right, countable), ((short, fits), sum_here))

pub try_item-returns-after-loop-row-clause-ok : goal.try_item-returns-after-loop-row-clause-ok
try_item-returns-after-loop-row-clause-ok t c = λ _.
    let nodes = nodes_of c.args.plan.now.templates.now in
    let l = c.args.plan.now.limits in
    let v = c.node.result.now in
    let at = label_of c.args.here.now.node v in
    let i = instruction_in nodes c.args.here.now.node in
    let shape = Sequence c.in-Sequence-Sequence.length c.in-Sequence-Sequence.body in
    let j = instruction_among nodes at shape in
    let y : Option ItemData = Some (sequence_item (elements_data c.in-Sequence-Sequence.rows.items)) in
    let here : i ≡ j = at_shape nodes c.args.here.now.node v shape c.node.ensures.found c.node.ensures.body c.in-Sequence-Sequence.is-0 in
    let item : Some (item_data c.args.item.now) ≡ y = ap (λ (z : Item). Some (item_data z)) c.in-Sequence-Sequence.is-1
    ∙ ap Some (item_data-Sequence c.in-Sequence-Sequence.rows) in
    let long : c.len-in-Sequence-Sequence.result ≡ count (elements_data c.in-Sequence-Sequence.rows.items) =
    c.len-in-Sequence-Sequence.ensures ∙ c.in-Sequence-Sequence.rows.ok.0
    ∙ sym (count-elements_data c.in-Sequence-Sequence.rows.items) in
    let f : FieldData = field_data c.in-Sequence-Sequence.length in
    let body = body_among nodes c.in-Sequence-Sequence.body.items in
    let rows = elements_data c.in-Sequence-Sequence.rows.items in
    let d = c.args.work.now.ledger.now in
    let a = c.args.work.now.draft in
    let after = c.write_field.new in
    let good = c.if-is_err-2.ensures.negation in
    let first = subst (λ (z : ℕ). Wrote (EncodesField l f d (Some (U z))) a after.draft after.ledger.now) long
    (of_ok c.write_field.result c.write_field.ensures.ok good l c.requires.ready.room) in
    let whole = c.deref-row-items.ensures.value in
    let inv = c.loop-row.invariant in
    let z = rows_done l body c.deref-row-items.result.now c.loop-row.row-index after.ledger.now after.draft c.loop-row.work.ledger.now
    c.loop-row.work.draft c.loop-row-test.false inv.written in
    encodes_as l i j (Some (item_data c.args.item.now)) y d a c.loop-row.work.draft c.loop-row.work.ledger.now here item
    (sequence_encodes l at f body rows d after.ledger.now a after.draft c.loop-row.work.draft z.0 c.loop-row.work.ledger.now first z.1 z.2
    (subst (λ (rs : List (Vec (Option Item) Global)). EncodesElements (EncodesSegment body (EncodesBody l body)) after.ledger.now
    (elements_data rs) z.0 c.loop-row.work.ledger.now) whole z.3))

pub try_segment-returns-clause-ok : goal.try_segment-returns-clause-ok
try_segment-returns-clause-ok t c =
    let l = c.args.plan.now.limits in
    let body = body_among (nodes_of c.args.plan.now.templates.now) c.args.body.now in
    let kept = c.in_ok-mark.ensures in
    let a = c.args.work.now.draft in
    let m = kept.mark.0 ∙ a.bytes.ok.0 in
    let wrote = c.if-not-try_body.ensures.ok refl in
    let new = c.try_body.new.work in
    on_both c.seal.result c.seal.ensures.ok c.seal.ensures.bits (λ closes same.
    let z = sealed l body (slots_data c.args.slots.now) c.args.work.now.ledger.now new.ledger.now a c.open.new.self new.draft
    c.seal.new.self c.args.has_map _ _ kept.bytes c.open.ensures.bits wrote c.requires.map m kept.mark.1 closes same in
    (z.bytes, z.bits_are, z.bytes_are, z.says))

pub try_segment-returns-in_err-mark-clause-suits : goal.try_segment-returns-in_err-mark-clause-suits
try_segment-returns-in_err-mark-clause-suits t c = on_handed_on _ _ c.from_residual.result c.from_residual.ensures.1

pub try_segment-returns-in_err-mark-clause-fits : goal.try_segment-returns-in_err-mark-clause-fits
try_segment-returns-in_err-mark-clause-fits t c = on_handed_on _ _ c.from_residual.result c.from_residual.ensures.1

pub try_segment-returns-in_err-mark-clause-ok : goal.try_segment-returns-in_err-mark-clause-ok
try_segment-returns-in_err-mark-clause-ok t c = on_handed_on _ _ c.from_residual.result c.from_residual.ensures.1

pub try_body-returns-then-not-has_slot_for_each-clause-ok : goal.try_body-returns-then-not-has_slot_for_each-clause-ok
try_body-returns-then-not-has_slot_for_each-clause-ok t c = λ h. absurd (cc h)

pub try_body-bounds-slots-i : goal.try_body-bounds-slots-i
try_body-bounds-slots-i t c = c.loop-i-test.true

pub try_body-bounds-steps-i : goal.try_body-bounds-steps-i
try_body-bounds-steps-i t c =
    let long = ap length c.requires.steps ∙ length-map c.args.body.now (body_step (nodes_of c.args.plan.now.templates.now)) in
    omega (arith, long, c.if-not-has_slot_for_each.ensures.0 refl, c.loop-i-test.true)

pub try_body-try_none-requires-clause-node : goal.try_body-try_none-requires-clause-node
try_body-try_none-requires-clause-node t c = (step_in (nodes_of c.args.plan.now.templates.now) c.args.body.now c.args.steps.now c.loop-i.i no_step
    c.requires.steps
    c.requires.nodes (omega (arith, c.if-not-has_slot_for_each.ensures.0 refl, c.loop-i-test.true))).1

pub try_body-try_none-requires-clause-ready : goal.try_body-try_none-requires-clause-ready
try_body-try_none-requires-clause-ready t c = c.loop-i.invariant.ready

pub try_body-returns-then-is_err-clause-suits : goal.try_body-returns-then-is_err-clause-suits
try_body-returns-then-is_err-clause-suits t c = λ h. absurd (cc h)

pub try_body-returns-then-is_err-clause-fits : goal.try_body-returns-then-is_err-clause-fits
try_body-returns-then-is_err-clause-fits t c = λ h. absurd (cc h)

pub try_body-returns-then-is_err-clause-ok : goal.try_body-returns-then-is_err-clause-ok
try_body-returns-then-is_err-clause-ok t c = λ h. absurd (cc h)

pub try_body-returns-then-is_err-clause-keeps : goal.try_body-returns-then-is_err-clause-keeps
try_body-returns-then-is_err-clause-keeps t c = keeps_on c.args.work.now.ledger c.loop-i.work.ledger c.try_none.new.work.ledger
    c.loop-i.invariant.keeps c.try_none.ensures.keeps

pub try_body-returns-then-not-try_item : goal.try_body-returns-then-not-try_item
try_body-returns-then-not-try_item t c =
    record {
      suits = λ h. absurd (cc h);
      fits = λ h. absurd (cc h);
      ok = λ h. absurd (cc h);
      keeps = keeps_on c.args.work.now.ledger c.loop-i.work.ledger c.try_item.new.work.ledger c.loop-i.invariant.keeps c.try_item.ensures.keeps;
    }

pub try_body-form_at-requires : goal.try_body-form_at-requires
try_body-form_at-requires t c = (step_in (nodes_of c.args.plan.now.templates.now) c.args.body.now c.args.steps.now c.loop-i.i no_step c.requires.steps
    c.requires.nodes (omega (arith, c.if-not-has_slot_for_each.ensures.0 refl, c.loop-i-test.true))).1

pub try_body-returns-then-is_err-2-clause-suits : goal.try_body-returns-then-is_err-2-clause-suits
try_body-returns-then-is_err-2-clause-suits t c = λ h. absurd (cc h)

pub try_body-returns-then-is_err-2-clause-fits : goal.try_body-returns-then-is_err-2-clause-fits
try_body-returns-then-is_err-2-clause-fits t c = λ h. absurd (cc h)

pub try_body-returns-then-is_err-2-clause-ok : goal.try_body-returns-then-is_err-2-clause-ok
try_body-returns-then-is_err-2-clause-ok t c = λ h. absurd (cc h)

pub try_body-returns-clause-suits : goal.try_body-returns-clause-suits
try_body-returns-clause-suits t c = λ _.
    let past : length c.args.body.now ≤ c.loop-i.i = omega (arith, c.if-not-has_slot_for_each.ensures.0 refl, c.loop-i-test.false) in
    c.loop-i.invariant.suits (no_slot_suits (nodes_of c.args.plan.now.templates.now) c.args.body.now c.args.slots.now c.loop-i.i past c.loop-i-test.false)

pub try_body-returns-clause-fits : goal.try_body-returns-clause-fits
try_body-returns-clause-fits t c = λ _.
    let none = slots_last c.args.slots.now c.loop-i.i c.loop-i-test.false in
    let left = ap total none in
    let sum = c.loop-i.invariant.sum in
    (c.loop-i.invariant.fits (rw none tt), omega (arith, left, sum))

pub try_body-returns-clause-keeps : goal.try_body-returns-clause-keeps
try_body-returns-clause-keeps t c = c.loop-i.invariant.keeps

pub try_item-node-requires : goal.try_item-node-requires
try_item-node-requires t c = c.requires.node.0

pub try_item-push_bit_if-requires : goal.try_item-push_bit_if-requires
try_item-push_bit_if-requires t c = tt

pub try_item-returns-then-is_err-clause-ok : goal.try_item-returns-then-is_err-clause-ok
try_item-returns-then-is_err-clause-ok t c = λ h. absurd (cc h)

pub try_item-returns-then-is_err-clause-keeps : goal.try_item-returns-then-is_err-clause-keeps
try_item-returns-then-is_err-clause-keeps t c = keeps_all c.args.work.now.ledger

pub try_item-segment_bits-has_map-requires : goal.try_item-segment_bits-has_map-requires
try_item-segment_bits-has_map-requires t c = c.requires.node.0

pub try_item-returns-then-len-plan-clause-ok : goal.try_item-returns-then-len-plan-clause-ok
try_item-returns-then-len-plan-clause-ok t c = λ h. absurd (cc h)

pub try_item-returns-then-len-plan-clause-keeps : goal.try_item-returns-then-len-plan-clause-keeps
try_item-returns-then-len-plan-clause-keeps t c = keeps_all c.args.work.now.ledger

pub try_item-returns-then-is_err-2-clause-ok : goal.try_item-returns-then-is_err-2-clause-ok
try_item-returns-then-is_err-2-clause-ok t c = λ h. absurd (cc h)

pub try_item-returns-then-is_err-2-clause-keeps : goal.try_item-returns-then-is_err-2-clause-keeps
try_item-returns-then-is_err-2-clause-keeps t c = record {
  before = c.write_field.ensures.before;
  room = c.write_field.ensures.max_text;
  count = c.write_field.ensures.length;
}

pub try_item-overflow_sub-work : goal.try_item-overflow_sub-work
try_item-overflow_sub-work t c = omega (arith, c.len-in-Sequence-Sequence-2.ensures, c.len-else-len-plan.ensures, c.if-len-work.false)

pub try_item-bounds-row-items-row-index : goal.try_item-bounds-row-items-row-index
try_item-bounds-row-items-row-index t c = c.loop-row-test.true

pub try_item-returns-then-is_err-3-clause-ok : goal.try_item-returns-then-is_err-3-clause-ok
try_item-returns-then-is_err-3-clause-ok t c = λ h. absurd (cc h)

pub try_item-returns-then-is_err-3-clause-keeps : goal.try_item-returns-then-is_err-3-clause-keeps
try_item-returns-then-is_err-3-clause-keeps t c = keeps_on c.args.work.now.ledger c.loop-row.work.ledger
    c.try_segment-in-loop-row.new.work.ledger c.loop-row.invariant.keeps c.try_segment-in-loop-row.ensures.keeps

pub try_item-returns-else-is_err-clause-keeps : goal.try_item-returns-else-is_err-clause-keeps
try_item-returns-else-is_err-clause-keeps t c = c.try_segment.ensures.keeps

pub try_item-returns-in_default : goal.try_item-returns-in_default
try_item-returns-in_default t c = record { accepted = λ h. absurd (cc h); ok = λ h. absurd (cc h); keeps = keeps_all c.args.work.now.ledger }

pub try_item-returns-in_default-3-clause-ok : goal.try_item-returns-in_default-3-clause-ok
try_item-returns-in_default-3-clause-ok t c = λ h. absurd (cc h)

pub try_item-returns-in_default-3-clause-keeps : goal.try_item-returns-in_default-3-clause-keeps
try_item-returns-in_default-3-clause-keeps t c = keeps_all c.args.work.now.ledger

pub try_segment-open-requires : goal.try_segment-open-requires
try_segment-open-requires t c = tt

pub try_segment-try_body-requires : goal.try_segment-try_body-requires
try_segment-try_body-requires t c =
    let d : 4 * slots_depth (slots_data c.args.slots.now) + 3 ≡ t = c.decreases in
    let smaller : 4 * slots_depth (slots_data c.args.slots.now) + 2 < t = omega (arith, d) in
    (smaller, (c.requires.nodes, (c.requires.steps, c.requires.ready)))

map_has_room : (has : Bool) (m : ℕ) (old mid new more : List ℕ) → m ≡ length old → mid ≡ old ++ (if has then 0 ∷ [] else [])
    → new ≡ mid ++ more → m + (if has then 1 else 0) ≤ length new
map_has_room true m old mid new more at e f =
    let kept = ap length e ∙ length-append old (0 ∷ []) in
    let all = ap length f ∙ length-append mid more in
    omega (arith, at, kept, all)
map_has_room false m old mid new more at e f =
    let kept = ap length e ∙ length-append old [] in
    let all = ap length f ∙ length-append mid more in
    omega (arith, at, kept, all)

pub try_segment-seal-requires-clause-bits : goal.try_segment-seal-requires-clause-bits
try_segment-seal-requires-clause-bits t c =
    let (bits, bytes, p, q, says) = c.if-not-try_body.ensures.ok refl in
    mark_inside c.args.work.now.draft.bits bits c.try_body.new.work.draft.bits c.in_ok-mark.mark.bits
    (p ∙ ap (λ (z : List Bool). z ++ bits) c.open.ensures.bits) c.in_ok-mark.ensures.mark.1

pub try_segment-seal-requires-clause-bytes : goal.try_segment-seal-requires-clause-bytes
try_segment-seal-requires-clause-bytes t c =
    let kept = c.in_ok-mark.ensures in
    let a = c.args.work.now.draft.bytes in
    let b = c.try_body.new.work.draft.bytes in
    let wrote = c.if-not-try_body.ensures.ok refl in
    let long : vec_len b ≡ length b.items = b.ok.0 in
    let has_room = map_has_room c.args.has_map c.in_ok-mark.mark.bytes a.items c.open.new.self.bytes.items b.items wrote.1
    (kept.mark.0 ∙ a.ok.0) kept.bytes wrote.3 in
    omega (arith, has_room, long)

pub try_segment-returns-clause-suits : goal.try_segment-returns-clause-suits
try_segment-returns-clause-suits t c = on_any c.seal.result (c.if-not-try_body.ensures.suits refl)

pub try_segment-returns-clause-fits : goal.try_segment-returns-clause-fits
try_segment-returns-clause-fits t c = on_any c.seal.result (c.if-not-try_body.ensures.fits refl)

pub try_segment-returns-clause-keeps : goal.try_segment-returns-clause-keeps
try_segment-returns-clause-keeps t c = c.try_body.ensures.keeps

pub try_body-returns-then-not-has_slot_for_each-clause-suits : goal.try_body-returns-then-not-has_slot_for_each-clause-suits
try_body-returns-then-not-has_slot_for_each-clause-suits t c = λ h. absurd (cc h)

pub try_body-returns-then-not-has_slot_for_each-clause-fits : goal.try_body-returns-then-not-has_slot_for_each-clause-fits
try_body-returns-then-not-has_slot_for_each-clause-fits t c = λ h. absurd (cc h)

pub try_body-returns-then-not-has_slot_for_each-clause-keeps : goal.try_body-returns-then-not-has_slot_for_each-clause-keeps
try_body-returns-then-not-has_slot_for_each-clause-keeps t c = keeps_all c.args.work.now.ledger

pub try_item-returns-then-is_err-clause-accepted : goal.try_item-returns-then-is_err-clause-accepted
try_item-returns-then-is_err-clause-accepted t c = λ h. absurd (cc h)

pub try_item-returns-then-len-plan-clause-accepted : goal.try_item-returns-then-len-plan-clause-accepted
try_item-returns-then-len-plan-clause-accepted t c = λ h. absurd (cc h)

pub try_item-returns-then-is_err-2-clause-accepted : goal.try_item-returns-then-is_err-2-clause-accepted
try_item-returns-then-is_err-2-clause-accepted t c = λ h. absurd (cc h)

pub try_item-segment_bits-has_map-requires-in-Sequence-Sequence : goal.try_item-segment_bits-has_map-requires-in-Sequence-Sequence
try_item-segment_bits-has_map-requires-in-Sequence-Sequence t c = c.requires.node.0

pub try_item-returns-then-is_err-3-clause-accepted : goal.try_item-returns-then-is_err-3-clause-accepted
try_item-returns-then-is_err-3-clause-accepted t c = λ h. absurd (cc h)

pub try_item-returns-after-loop-row-clause-keeps : goal.try_item-returns-after-loop-row-clause-keeps
try_item-returns-after-loop-row-clause-keeps t c = c.loop-row.invariant.keeps

pub try_item-returns-in_default-3-clause-accepted : goal.try_item-returns-in_default-3-clause-accepted
try_item-returns-in_default-3-clause-accepted t c = λ h. absurd (cc h)

pub try_segment-returns-in_err-mark-clause-keeps : goal.try_segment-returns-in_err-mark-clause-keeps
try_segment-returns-in_err-mark-clause-keeps t c = keeps_all c.args.work.now.ledger

pub try_segment-returns-then-not-try_body-clause-suits : goal.try_segment-returns-then-not-try_body-clause-suits
try_segment-returns-then-not-try_body-clause-suits t c = tt

pub try_segment-returns-then-not-try_body-clause-fits : goal.try_segment-returns-then-not-try_body-clause-fits
try_segment-returns-then-not-try_body-clause-fits t c = tt

pub try_segment-returns-then-not-try_body-clause-ok : goal.try_segment-returns-then-not-try_body-clause-ok
try_segment-returns-then-not-try_body-clause-ok t c = tt

pub try_segment-returns-then-not-try_body-clause-keeps : goal.try_segment-returns-then-not-try_body-clause-keeps
try_segment-returns-then-not-try_body-clause-keeps t c = c.try_body.ensures.keeps

pub try_body-is_err-requires : goal.try_body-is_err-requires
try_body-is_err-requires t c κs = (λ a m. absurd (not-mem-nil m), λ a m. absurd (not-mem-nil m))

pub try_body-is_err-requires-in-loop-i : goal.try_body-is_err-requires-in-loop-i
try_body-is_err-requires-in-loop-i t c κs = (λ a m. absurd (not-mem-nil m), λ a m. absurd (not-mem-nil m))

pub try_item-is_err-requires : goal.try_item-is_err-requires
try_item-is_err-requires t c κs = (λ a m. absurd (not-mem-nil m), λ a m. absurd (not-mem-nil m))

pub try_item-deref-requires : goal.try_item-deref-requires
try_item-deref-requires t c κs = (λ a m. absurd (not-mem-nil m), λ a m. absurd (not-mem-nil m))

pub try_item-deref-requires-in-Group-Group : goal.try_item-deref-requires-in-Group-Group
try_item-deref-requires-in-Group-Group t c κs = (λ a m. absurd (not-mem-nil m), λ a m. absurd (not-mem-nil m))

pub try_item-is_ok-requires : goal.try_item-is_ok-requires
try_item-is_ok-requires t c κs = (λ a m. absurd (not-mem-nil m), λ a m. absurd (not-mem-nil m))

pub try_item-len-requires : goal.try_item-len-requires
try_item-len-requires t c κs = (λ a m. absurd (not-mem-nil m), λ a m. absurd (not-mem-nil m))

pub try_item-len-requires-else-len-plan : goal.try_item-len-requires-else-len-plan
try_item-len-requires-else-len-plan t c κs = (λ a m. absurd (not-mem-nil m), λ a m. absurd (not-mem-nil m))

pub try_item-len-requires-in-Sequence-Sequence : goal.try_item-len-requires-in-Sequence-Sequence
try_item-len-requires-in-Sequence-Sequence t c κs = (λ a m. absurd (not-mem-nil m), λ a m. absurd (not-mem-nil m))

pub try_item-is_err-requires-in-Sequence-Sequence : goal.try_item-is_err-requires-in-Sequence-Sequence
try_item-is_err-requires-in-Sequence-Sequence t c κs = (λ a m. absurd (not-mem-nil m), λ a m. absurd (not-mem-nil m))

pub try_item-len-requires-in-Sequence-Sequence-2 : goal.try_item-len-requires-in-Sequence-Sequence-2
try_item-len-requires-in-Sequence-Sequence-2 t c κs = (λ a m. absurd (not-mem-nil m), λ a m. absurd (not-mem-nil m))

pub try_item-deref-row-items-requires : goal.try_item-deref-row-items-requires
try_item-deref-row-items-requires t c κs = (λ a m. absurd (not-mem-nil m), λ a m. absurd (not-mem-nil m))

pub try_item-deref-requires-in-loop-row : goal.try_item-deref-requires-in-loop-row
try_item-deref-requires-in-loop-row t c κs = (λ a m. absurd (not-mem-nil m), λ a m. absurd (not-mem-nil m))

pub try_item-deref-requires-in-loop-row-2 : goal.try_item-deref-requires-in-loop-row-2
try_item-deref-requires-in-loop-row-2 t c κs = (λ a m. absurd (not-mem-nil m), λ a m. absurd (not-mem-nil m))

pub try_item-is_err-requires-in-loop-row : goal.try_item-is_err-requires-in-loop-row
try_item-is_err-requires-in-loop-row t c κs = (λ a m. absurd (not-mem-nil m), λ a m. absurd (not-mem-nil m))

pub try_segment-branch-mark-requires : goal.try_segment-branch-mark-requires
try_segment-branch-mark-requires t c κs = (λ a m. absurd (not-mem-nil m), λ a m. absurd (not-mem-nil m))

pub try_segment-from_residual-requires : goal.try_segment-from_residual-requires
try_segment-from_residual-requires t c κs = (λ a m. absurd (not-mem-nil m), (λ a m. absurd (not-mem-nil m), λ a m. absurd (not-mem-nil m)))
