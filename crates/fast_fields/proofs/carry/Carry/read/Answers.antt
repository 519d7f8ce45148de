-- The bytes that are carried decide nothing, so what is decided has some of the rest; and if nothing is, all of the rest has room.
use Rattle.std.proofs.Common.{refl, sym, ap, ◌∙◌, subst, arith}
use Rattle.std.specs.Prelude.{◌≡◌, ℕ, ◌+◌, ◌-◌, ◌≤◌, List, ◌++◌, length, take}
use Rattle.fast_tree.specs.meaning.Nodes.{field_data}
use Rattle.fast_dict.specs.meaning.Slots.{slots_dictionary}
use Rattle.fast_units.specs.device.TextDecisions.{first_reader}
use Rattle.fast_units.specs.device.Taking.{Stays}
use Rattle.fast_fields.specs.declared.carry.Carry.{Carry}
use Rattle.fast_fields.specs.declared.reading.Missing.{Missing}
use Rattle.fast_fields.specs.declared.reading.WholeField.{WholeField}
use Rattle.fast_units.specs.declared.progress.Progress.TheVariants.{Whole, Wrong}
use Rattle.fast_fields.specs.device.Carries.{IsCarriedUnit, at_hand}
use Rattle.fast_fields.specs.device.Readings.{IsUndecided}
use Rattle.fast_fields.proofs.Carries.{all_taken, stays_now, whole_after, whole_carried, whole_bytes, wrong_after, wrong_carried}
use Rattle.fast_fields.proofs.carry.Carry.read.Goals as goal

pub overflow_sub-result : goal.overflow_sub-result
overflow_sub-result c =
    let f = field_data c.args.field.now in
    let old = slots_dictionary c.args.slots.now in
    let r = first_reader c.args.limits.now f old in
    let same = c.if-carries_string.ensures.same refl in
    let carry = c.carries_string.new.self in
    let waits = stays_now r carry.bytes.text carry.missing
    (subst (λ (x : Carry). IsUndecided r x.bytes.text x.missing) (sym same) c.requires.carried.0) in
    let (count, all, least) = c.take_up.ensures.joined in
    let w = c.at_hand.ensures ∙ all in
    let more = whole_after r f old (slots_dictionary c.read_field.new.slots) c.read_field.new.scratch.text carry.bytes.text c.args.rest.now
    c.at_hand.result.now c.len-held.result count c.len-held.ensures.len w waits c.in-Whole.found c.in-Whole.ensures.reading in
    omega (arith, more)

pub overflow_sub-result-in-Wrong : goal.overflow_sub-result-in-Wrong
overflow_sub-result-in-Wrong c =
    let f = field_data c.args.field.now in
    let old = slots_dictionary c.args.slots.now in
    let r = first_reader c.args.limits.now f old in
    let same = c.if-carries_string.ensures.same refl in
    let carry = c.carries_string.new.self in
    let waits = stays_now r carry.bytes.text carry.missing
    (subst (λ (x : Carry). IsUndecided r x.bytes.text x.missing) (sym same) c.requires.carried.0) in
    let (count, all, least) = c.take_up.ensures.joined in
    let w = c.at_hand.ensures ∙ all in
    let more = wrong_after r f old (slots_dictionary c.read_field.new.slots) c.read_field.new.scratch.text carry.bytes.text c.args.rest.now
    c.at_hand.result.now c.len-held.result count c.len-held.ensures.len w waits c.in-Wrong.code c.in-Wrong.bytes c.in-Wrong.ensures.reading in
    omega (arith, more)

pub returns-in-Whole-clause-unit : goal.returns-in-Whole-clause-unit
returns-in-Whole-clause-unit c =
    let f = field_data c.args.field.now in
    let old = slots_dictionary c.args.slots.now in
    let r = first_reader c.args.limits.now f old in
    let same = c.if-carries_string.ensures.same refl in
    let carry = c.carries_string.new.self in
    let waits = stays_now r carry.bytes.text carry.missing
    (subst (λ (x : Carry). IsUndecided r x.bytes.text x.missing) (sym same) c.requires.carried.0) in
    let (count, all, least) = c.take_up.ensures.joined in
    let w = c.at_hand.ensures ∙ all in
    subst (λ (x : Carry). IsCarriedUnit r f x.bytes.text c.args.rest.now old (slots_dictionary c.read_field.new.slots) c.read_field.new.scratch.text
    (Whole c.in-Whole.found (c.in-Whole.found.bytes - c.len-held.result))) same
    (whole_carried r f old (slots_dictionary c.read_field.new.slots) c.read_field.new.scratch.text carry.bytes.text c.args.rest.now
    c.at_hand.result.now c.len-held.result count c.len-held.ensures.len w waits c.in-Whole.found c.in-Whole.ensures.reading)

pub returns-in-Whole-clause-held : goal.returns-in-Whole-clause-held
returns-in-Whole-clause-held c found n e =
    let f = field_data c.args.field.now in
    let old = slots_dictionary c.args.slots.now in
    let r = first_reader c.args.limits.now f old in
    let same = c.if-carries_string.ensures.same refl in
    let carry = c.carries_string.new.self in
    let waits = stays_now r carry.bytes.text carry.missing
    (subst (λ (x : Carry). IsUndecided r x.bytes.text x.missing) (sym same) c.requires.carried.0) in
    let (count, all, least) = c.take_up.ensures.joined in
    let w = c.at_hand.ensures ∙ all in
    let is : c.in-Whole.found ≡ found = cc e in
    let number : c.in-Whole.found.bytes - c.len-held.result ≡ n = cc e in
    ap (λ (x : WholeField). take x.bytes (at_hand c.take_up.new.self.bytes.text c.args.rest.now)) (sym is)
    ∙ ap (take c.in-Whole.found.bytes) (sym c.at_hand.ensures)
    ∙ whole_bytes r f old (slots_dictionary c.read_field.new.slots) c.read_field.new.scratch.text carry.bytes.text c.args.rest.now
    c.at_hand.result.now c.len-held.result count c.len-held.ensures.len w waits c.in-Whole.found c.in-Whole.ensures.reading
    ∙ ap (λ (x : Carry). x.bytes.text ++ take (c.in-Whole.found.bytes - c.len-held.result) c.args.rest.now) same
    ∙ ap (λ (k : ℕ). c.args.self.now.bytes.text ++ take k c.args.rest.now) number

pub returns-in-Wrong-clause-unit : goal.returns-in-Wrong-clause-unit
returns-in-Wrong-clause-unit c =
    let f = field_data c.args.field.now in
    let old = slots_dictionary c.args.slots.now in
    let r = first_reader c.args.limits.now f old in
    let same = c.if-carries_string.ensures.same refl in
    let carry = c.carries_string.new.self in
    let waits = stays_now r carry.bytes.text carry.missing
    (subst (λ (x : Carry). IsUndecided r x.bytes.text x.missing) (sym same) c.requires.carried.0) in
    let (count, all, least) = c.take_up.ensures.joined in
    let w = c.at_hand.ensures ∙ all in
    subst (λ (x : Carry). IsCarriedUnit r f x.bytes.text c.args.rest.now old (slots_dictionary c.read_field.new.slots) c.read_field.new.scratch.text
    (Wrong c.in-Wrong.code (c.in-Wrong.bytes - c.len-held.result))) same
    (wrong_carried r f old (slots_dictionary c.read_field.new.slots) c.read_field.new.scratch.text carry.bytes.text c.args.rest.now
    c.at_hand.result.now c.len-held.result count c.len-held.ensures.len w waits c.in-Wrong.code c.in-Wrong.bytes c.in-Wrong.ensures.reading)

pub returns-in-More-clause-unit : goal.returns-in-More-clause-unit
returns-in-More-clause-unit c =
    let f = field_data c.args.field.now in
    let old = slots_dictionary c.args.slots.now in
    let r = first_reader c.args.limits.now f old in
    let same = c.if-carries_string.ensures.same refl in
    let carry = c.carries_string.new.self in
    let waits = stays_now r carry.bytes.text carry.missing
    (subst (λ (x : Carry). IsUndecided r x.bytes.text x.missing) (sym same) c.requires.carried.0) in
    let (count, all, least) = c.take_up.ensures.joined in
    let w = c.at_hand.ensures ∙ all in
    let (undecided, kept) = c.in-More.ensures.reading in
    let hand = c.at_hand.result.now in
    let fits = subst (λ (n : ℕ). length hand + c.in-More.missing.bytes ≤ n) (sym (c.carries_string.ensures.capacity ∙ c.requires.capacity))
    c.in-More.ensures.bounded in
    let whole = all_taken carry.bytes.text c.args.rest.now hand count carry.bytes.capacity c.in-More.missing.bytes w least fits undecided.0
    ∙ ap (λ (x : Carry). x.bytes.text ++ c.args.rest.now) same in
    (subst (λ (u : List ℕ). Stays r u) whole (stays_now r hand c.in-More.missing undecided), kept)

pub returns-in-More-clause-cut : goal.returns-in-More-clause-cut
returns-in-More-clause-cut c _ =
    let f = field_data c.args.field.now in
    let old = slots_dictionary c.args.slots.now in
    let r = first_reader c.args.limits.now f old in
    let same = c.if-carries_string.ensures.same refl in
    let carry = c.carries_string.new.self in
    let waits = stays_now r carry.bytes.text carry.missing
    (subst (λ (x : Carry). IsUndecided r x.bytes.text x.missing) (sym same) c.requires.carried.0) in
    let (count, all, least) = c.take_up.ensures.joined in
    let w = c.at_hand.ensures ∙ all in
    let (undecided, kept) = c.in-More.ensures.reading in
    let hand = c.at_hand.result.now in
    let fits = subst (λ (n : ℕ). length hand + c.in-More.missing.bytes ≤ n) (sym (c.carries_string.ensures.capacity ∙ c.requires.capacity))
    c.in-More.ensures.bounded in
    let whole = all_taken carry.bytes.text c.args.rest.now hand count carry.bytes.capacity c.in-More.missing.bytes w least fits undecided.0
    ∙ ap (λ (x : Carry). x.bytes.text ++ c.args.rest.now) same in
    let bytes = c.go_on.ensures.bytes ∙ sym c.at_hand.ensures in (
      bytes ∙ whole,
      subst (λ (m : Missing). IsUndecided r c.go_on.new.self.bytes.text m × (length c.go_on.new.self.bytes.text + m.bytes ≤ 22 + c.args.limits.now.max_text))
          (sym c.go_on.ensures.missing)
          (subst (λ (u : List ℕ). IsUndecided r u c.in-More.missing × (length u + c.in-More.missing.bytes ≤ 22 + c.args.limits.now.max_text)) (sym bytes)
          (undecided, c.in-More.ensures.bounded)),
    )
