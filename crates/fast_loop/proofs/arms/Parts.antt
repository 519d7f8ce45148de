-- Decimals by parts: the reader of the exponent, then the reader of the mantissa.
use Rattle.std.proofs.Common.{refl, sym, ap, ◌∙◌, subst, inl, inr, arith}
use Rattle.std.specs.Prelude.{◌≡◌, ◌⊎◌, ℕ, zero, suc, ◌+◌, ◌-◌, ◌<◌, ◌≤◌, Bool, true, false, List, [], length, take, drop, slice_get, ℤ}
use Rattle.std.specs.Prelude.{Option, Some, None, Ok, option_map, if◌then◌else◌}
use Rattle.std.proofs.lemmas.List.{length-drop}
use Rattle.std.proofs.Math.Seq.{take-add}
use Rattle.fast_wire.specs.meaning.Integers.{IsWithin, exponent_range}
use Rattle.fast_wire.specs.meaning.Maps.{first_bit, later_bits}
use Rattle.fast_value.specs.declared.codes.Code.TheVariants.{R1}
use Rattle.fast_value.specs.declared.settings.Limits.{Limits}
use Rattle.fast_value.specs.meaning.Kinds.{I, Dec}
use Rattle.fast_value.specs.meaning.Limits.{Bounds, bounds}
use Rattle.fast_tree.specs.declared.instructions.FieldInstruction.{FieldInstruction}
use Rattle.fast_tree.specs.declared.instructions.Node.{Node}
use Rattle.fast_tree.specs.declared.instructions.Shape.TheVariants.{Decimal}
use Rattle.fast_tree.specs.meaning.Nodes.{field_data}
use Rattle.fast_template.specs.declared.sets.Templates.{Templates}
use Rattle.fast_program.specs.declared.ops.Op.{Op}
use Rattle.fast_program.specs.device.Codes.{Claim}
use Rattle.fast_tree.specs.declared.instructions.Shape.{Shape}
use Rattle.fast_tree.specs.declared.operators.Operator.{Operator}
use Rattle.fast_tree.specs.declared.operators.Operator.TheVariants.{Default, Copy, Delta}
use Rattle.fast_program.specs.device.Codes.{IsChangedPartsCoded}
use Rattle.fast_tree.specs.meaning.Tree.{FieldData, operator_uses_bit, uses_bit, parts}
use Rattle.fast_dict.specs.declared.slots.Slots.{Slots}
use Rattle.fast_dict.specs.meaning.Dictionary.{Dictionary, PreviousData, previous_at, write_at}
use Rattle.fast_dict.specs.meaning.Operators.{Outcome, decide, nothing, ranged}
use Rattle.fast_dict.specs.meaning.Slots.{slots_dictionary, slots_terms}
use Rattle.fast_stream.specs.meaning.Fields.{field_term}
use Rattle.fast_stream.specs.meaning.Grammar.{Grammar, ◌>>=◌, of_result}
use Rattle.fast_stream.specs.meaning.Messages.{State, Found, found, field_in, decimal_with}
use Rattle.fast_stream.specs.device.Continuations.{handed_then, mantissa_after_then}
use Rattle.fast_stream.specs.device.Frames.{resume}
use Rattle.fast_stream.specs.device.GrammarReaders.{reader_of}
use Rattle.fast_units.specs.device.Deciding.{needs_bytes, number_data, source_of}
use Rattle.fast_items.specs.device.DecimalParts.{part_item, KeepsPart, IsAsSeen, IsPartBy, IsPart, IsUsualExponent}
use Rattle.fast_units.specs.device.Settling.{IsSettled, Serves}
use Rattle.fast_units.specs.device.Taking.{Turns}
use Rattle.fast_units.specs.device.UnitFronts.{IsSent}
use Rattle.fast_units.specs.device.Words.{ServesField}
use Rattle.fast_units.proofs.Deciding.{item_value, needs_some, stands_sent, stands_unsent}
use Rattle.fast_items.proofs.DecimalItems.{ranged_within}
use Rattle.fast_units.proofs.Turning.{turns_as, turns_done, turns_none, turns_run, result_done}
use Rattle.fast_cursor.specs.declared.place.Place.{Place}
use Rattle.fast_cursor.specs.device.Cursors.{bits_left}
use Rattle.fast_cursor.specs.device.Places.{place_left, at_place, IsPlaceOf}
use Rattle.fast_machine.specs.declared.machine.Machine.{Machine}
use Rattle.fast_loop.specs.declared.spot.Spot.{Spot}
use Rattle.fast_machine.specs.device.Positions.{placed, Set, body_in, frames_in, bit_of, set_of, turning}
use Rattle.fast_loop.specs.device.Arms.{IsAtSpot, IsArmOp}
use Rattle.fast_loop.specs.device.Parts.{bit_at_place, IsAtDecimal, IsLedTo}
use Rattle.fast_machine.specs.device.Passing.{value_then}
use Rattle.fast_machine.proofs.fields.Heads.{parts_head}
use Rattle.fast_machine.proofs.fields.FieldNodes.{served_node}
use Rattle.fast_machine.proofs.fields.SentFields.{field_sent, field_unsent}
use Rattle.fast_machine.proofs.steps.FieldTurns.{serves_here, serves_known, can_turn_slots, behind, parts_next}

-- The op's node is a decimal by these parts.
pub at_decimal : (t : Templates) (l : Limits) (m : Machine) (p : Place) (op : Op) {claim : Claim} → IsAtSpot (set_of t) l m p → IsArmOp (set_of t) p op claim
    → (x : Node) → slice_get t.nodes.items op.node ≡ Some x → (e f : FieldInstruction) → x.shape ≡ Decimal e f
    → IsAtDecimal (set_of t) l m p op.node e f
at_decimal t l m p op spot at x found e f is =
    let served = served_node (set_of t) l (placed m p) op.node x (Decimal e f) spot.can.supplied found is in
    record {
      spot = spot;
      next = parts_head t (at_place m.cursor p) op.node x at.first found e f is;
      exponent = served.0;
      mantissa = served.1;
      exponent_kind = served.2;
      mantissa_kind = served.3;
    }

-- no bytes, or some
some_or : (n : ℕ) → (n ≡ 0) ⊎ (0 < n)
some_or zero = inl refl
some_or (suc n) = inr (omega arith)

module _ (s : Bool) (l : Bounds) (field : FieldInstruction) (bit : Bool) (rest : List ℕ) (seen old new : Slots) (counted : ℕ)
    (b : List Bool) (k : Found → Grammar Dictionary) (x : Option ℤ) (n : ℕ) where
  abbrev f : FieldData
  f = field_data field

  -- the state at the part, and behind it
  abbrev here : State
  here = record { context = record { dictionary = slots_dictionary old; counted = counted }; bits = b }

  abbrev past : State
  past = record { context = record { dictionary = slots_dictionary new; counted = counted }; bits = if uses_bit f then later_bits b else b }

  abbrev Leads : Type 0
  Leads = Turns (reader_of s (field_in l f here >>= k)) (take n rest) (reader_of s (k (option_map number_data (part_item x), past)))

  module _ (is_bit : bit ≡ bit_of f here) (same : IsAsSeen field seen old) where
    settled_as : (d : Dictionary) (o : Outcome) (piece : List ℕ)
        → IsSettled o f (source_of (part_item x)) (slots_dictionary old) d [] piece → d ≡ slots_dictionary new
        → k (found f here o) ≡ k (option_map number_data (part_item x), past)
    settled_as d o piece h e =
        ap k (λ i. (
          (h.value ∙ item_value (part_item x) f d [] piece) i,
          record {
            context = record { dictionary = (sym h.dictionary ∙ e) i; counted = counted };
            bits = past.bits;
          },
        ))

    leads_by : (needs : Bool) → needs_bytes field.operator bit ≡ needs → IsPartBy needs field bit s rest seen x n
        → (0 < n → KeepsPart field old new x) → (n ≡ 0 → slots_dictionary old ≡ slots_dictionary new) → Leads
    leads_by true needs (some, within, sent) kept left =
        let (has, inside, gives) = sent old new l [] same (kept some) in
        let stands : IsSent f (bit_of f here) = record {
          varies = needs_some f.operator bit needs;
          as_sent = λ m p. ap (field_term m f p) (sym is_bit) ∙ stands_sent f bit m p needs;
        } in
        turns_as (field_sent s l f here k stands) (sym (ap (reader_of s) (settled_as (slots_dictionary new) gives.outcome (take n rest) gives.settled refl)))
        (turns_done (λ o. reader_of s (k (found f here o))) gives.turns)
    leads_by false needs (none, known) kept left =
        let (o, decided, settled) = known old same in
        let p = previous_at f.entry (slots_dictionary old) in
        let is : reader_of s (field_in l f here >>= k) ≡ reader_of s (k (option_map number_data (part_item x), past)) =
        field_unsent s l f here k o
        (subst (λ (c : Bool). field_term l f p c ≡ of_result (decide f p c nothing)) is_bit (stands_unsent f bit l p needs))
        (subst (λ (c : Bool). decide f p c nothing ≡ Ok o) is_bit decided)
        ∙ ap (reader_of s) (settled_as (slots_dictionary old) o [] (settled [] []) (left none)) in
        subst (λ (j : ℕ). Turns (reader_of s (field_in l f here >>= k)) (take j rest) (reader_of s (k (option_map number_data (part_item x), past)))) (sym none)
        (turns_as is refl (turns_none (reader_of s (k (option_map number_data (part_item x), past)))))

    -- The reader of a part, in front of what follows it.
    pub part_leads : IsPart field bit s rest seen x n → (0 < n → KeepsPart field old new x) → (n ≡ 0 → slots_dictionary old ≡ slots_dictionary new) → Leads
    part_leads h kept left = leads_by (needs_bytes field.operator bit) refl h kept left

-- The bytes of a part are within the piece.
within_by : (needs : Bool) (field : FieldInstruction) (bit s : Bool) (rest : List ℕ) (seen : Slots) (x : Option ℤ) (n : ℕ)
    → IsPartBy needs field bit s rest seen x n → n ≤ length rest
within_by true field bit s rest seen x n h = h.1
within_by false field bit s rest seen x n h = let none = h.0 in omega (arith, none)

pub part_within : (field : FieldInstruction) (bit s : Bool) (rest : List ℕ) (seen : Slots) (x : Option ℤ) (n : ℕ)
    → IsPart field bit s rest seen x n → n ≤ length rest
part_within field bit s rest seen x n h = within_by (needs_bytes field.operator bit) field bit s rest seen x n h

-- So are those of both, of which the second stands behind the first.
pub both_within : (e f : FieldInstruction) (bit set_bit s : Bool) (rest behind : List ℕ) (seen : Slots) (x y : ℤ) (used n : ℕ)
    → behind ≡ drop used rest → IsPart e bit s rest seen (Some x) used → IsPart f set_bit s behind seen (Some y) n → used + n ≤ length rest
both_within e f bit set_bit s rest behind seen x y used n is first second =
    let u = part_within e bit s rest seen (Some x) used first in
    let v = part_within f set_bit s behind seen (Some y) n second in
    let size : length behind ≡ length rest - used = ap length is ∙ length-drop used rest in
    omega (arith, u, v, size)

module _ (set : Set) (l : Limits) (m : Machine) (from : Spot) (node : ℕ) (e f : FieldInstruction) (at : IsAtDecimal set l m from.place node e f) where
  abbrev before : Machine
  before = placed m from.place

  -- What serves the machine's slots serves others of the same terms.
  pub serves_as : (slots : Slots) (field : FieldInstruction) → slots_terms slots ≡ slots_terms m.slots
      → Serves set.entries (slots_terms m.slots) (field_data field) → ServesField slots field
  serves_as slots field terms serves =
      serves_here set l (record before { slots = slots }) (field_data field) (can_turn_slots set l before slots at.spot.can terms).supplied
      (serves_known set before slots (field_data field) terms serves)

  -- The parts are served here.
  pub exponent_serves : ServesField m.slots e
  exponent_serves = serves_as m.slots e refl at.exponent

  pub mantissa_serves : ServesField m.slots f
  mantissa_serves = serves_as m.slots f refl at.mantissa

  -- the parts
  abbrev exponent : FieldData
  exponent = field_data e

  abbrev mantissa : FieldData
  mantissa = field_data f

  abbrev bits : List Bool
  bits = bits_left before.cursor

  -- what follows the exponent
  abbrev behind_exponent : Found → Grammar Dictionary
  behind_exponent = mantissa_after_then (bounds l) node mantissa (behind set l before)

  module _ (mid : Slots) (bit : Bool) (is_bit : bit ≡ bit_at_place m.cursor from.place exponent)
      (terms : slots_terms mid ≡ slots_terms m.slots) (used : ℕ) where
    -- the state behind the exponent
    abbrev state_between : State
    state_between = record {
      context = record { dictionary = slots_dictionary mid; counted = m.counted };
      bits = if uses_bit exponent then later_bits bits else bits;
    }

    exponent_leads : (x : Option ℤ) → IsPart e bit l.strict from.rest.bytes.now m.slots x used
        → (0 < used → KeepsPart e m.slots mid x) → (used ≡ 0 → mid ≡ m.slots)
        → Turns (turning set l before) (take used from.rest.bytes.now)
        (reader_of l.strict (behind_exponent (option_map number_data (part_item x), state_between)))
    exponent_leads x part kept left =
        turns_as (parts_next set l before node exponent mantissa at.next) refl
        (part_leads l.strict (bounds l) e bit from.rest.bytes.now m.slots m.slots mid m.counted bits behind_exponent x used is_bit (record {
          serves = exponent_serves;
          same = refl;
        }) part kept
        (λ none. sym (ap slots_dictionary (left none))))

    -- Without an exponent there is no decimal.
    pub absent_led : IsPart e bit l.strict from.rest.bytes.now m.slots None used → (0 < used → KeepsPart e m.slots mid None)
        → (used ≡ 0 → mid ≡ m.slots) → IsLedTo set l m (record m { slots = mid }) from from.place node exponent None used
    absent_led part kept left = record {
      spot = at.spot;
      kept = refl;
      terms = terms;
      some = at.next.2;
      instruction = parts at.next.0 exponent mantissa;
      next = at.next.3;
      left = refl;
      place = at.spot.place;
      within = part_within e bit l.strict from.rest.bytes.now m.slots None used part;
      turns = exponent_leads None part kept left;
    }

    module _ (x y : ℤ) (new : Slots) (p : Place) (set_bit : Bool) (n : ℕ) where
      -- what follows the mantissa
      abbrev behind_mantissa : Found → Grammar Dictionary
      behind_mantissa = λ r. handed_then node (behind set l before) (decimal_with x r.0) r.1

      -- the state behind it
      abbrev state_behind : State
      state_behind = record {
        context = record { dictionary = slots_dictionary new; counted = m.counted };
        bits = if uses_bit mantissa then later_bits state_between.bits else state_between.bits;
      }

      mantissa_leads : set_bit ≡ bit_of mantissa state_between → IsAsSeen f m.slots mid
          → IsPart f set_bit l.strict (drop used from.rest.bytes.now) m.slots (Some y) n → (0 < n → KeepsPart f mid new (Some y))
          → (n ≡ 0 → new ≡ mid)
          → Turns (reader_of l.strict (field_in (bounds l) mantissa state_between >>= behind_mantissa)) (take n (drop used from.rest.bytes.now))
          (reader_of l.strict (handed_then node (behind set l before) (Some (Dec x y)) state_behind))
      mantissa_leads is_set seen part kept left =
          part_leads l.strict (bounds l) f set_bit (drop used from.rest.bytes.now) m.slots mid new m.counted state_between.bits behind_mantissa
          (Some y) n is_set seen part kept
          (λ none. sym (ap slots_dictionary (left none)))

      -- An exponent in its range is followed by the mantissa.
      mantissa_next : IsWithin exponent_range x → reader_of l.strict (behind_exponent (Some (I x), state_between)) ≡ reader_of l.strict
          (field_in (bounds l) mantissa state_between >>= behind_mantissa)
      mantissa_next inside =
          result_done l.strict (ranged exponent_range R1 x) (λ z. field_in (bounds l) mantissa state_between >>=
          (λ r. handed_then node (behind set l before) (decimal_with z r.0) r.1)) (ranged_within exponent_range R1 x inside)

      module _ (behind_bit : bits_left (at_place m.cursor p) ≡ state_between.bits) (same : place_left p ≡ place_left from.place) where
        -- The mantissa's bit stands behind the exponent's.
        bit_behind : set_bit ≡ bit_at_place m.cursor p mantissa → set_bit ≡ bit_of mantissa state_between
        bit_behind is = is ∙ ap (λ (b : List Bool). if uses_bit mantissa then first_bit b else true) behind_bit

        -- What is to be read behind the decimal.
        decimal_behind : reader_of l.strict (handed_then node (behind set l before) (Some (Dec x y)) state_behind) ≡ reader_of l.strict
            (value_then set (bounds l) node (Some (Dec x y)) mantissa (slots_dictionary new) m.counted (at_place m.cursor p))
        decimal_behind =
            ap (λ (ns : List ℕ). reader_of l.strict (handed_then node
            (resume (bounds l) (frames_in set m.cursor.frames) (body_in set (drop 1 ns))) (Some (Dec x y)) state_behind)) (sym same)
            ∙ ap (λ (b : List Bool). reader_of l.strict (handed_then node
            (resume (bounds l) (frames_in set m.cursor.frames) (body_in set (drop 1 (place_left p)))) (Some (Dec x y))
            (record {
              context = record { dictionary = slots_dictionary new; counted = m.counted };
              bits = if uses_bit mantissa then later_bits b else b;
            }))) (sym behind_bit)

        -- The decimal.
        pub decimal_led : IsWithin exponent_range x → IsPart e bit l.strict from.rest.bytes.now m.slots (Some x) used
            → (0 < used → KeepsPart e m.slots mid (Some x)) → (used ≡ 0 → mid ≡ m.slots)
            → set_bit ≡ bit_at_place m.cursor p mantissa → (0 < used → (q : PreviousData) (d : Dictionary)
            → previous_at mantissa.entry (write_at exponent.entry q d) ≡ previous_at mantissa.entry d)
            → IsPart f set_bit l.strict (drop used from.rest.bytes.now) m.slots (Some y) n → (0 < n → KeepsPart f mid new (Some y))
            → (n ≡ 0 → new ≡ mid) → slots_terms new ≡ slots_terms mid → IsPlaceOf m.cursor p
            → IsLedTo set l m (record m { slots = new }) from p node mantissa (Some (Dec x y)) (used + n)
        decimal_led inside first kept left is_set own second kept_too left_too terms_too place = record {
          spot = at.spot;
          kept = refl;
          terms = terms_too ∙ terms;
          some = at.next.2;
          instruction = parts at.next.0 exponent mantissa;
          next = at.next.3;
          left = same;
          place = place;
          within =
              let u = part_within e bit l.strict from.rest.bytes.now m.slots (Some x) used first in
              let v = part_within f set_bit l.strict (drop used from.rest.bytes.now) m.slots (Some y) n second in
              let size = length-drop used from.rest.bytes.now in
              omega (arith, u, v, size);
          turns =
              subst (λ (w : List ℕ). Turns (turning set l before) w
              (reader_of l.strict (value_then set (bounds l) node (Some (Dec x y)) mantissa (slots_dictionary new) m.counted
              (at_place m.cursor p)))) (sym (take-add used n from.rest.bytes.now))
              (turns_run (turns_as refl (sym (mantissa_next inside)) (exponent_leads (Some x) first kept left))
              (turns_as refl (sym decimal_behind) (mantissa_leads (bit_behind is_set) (record {
                serves = serves_as mid f terms at.mantissa;
                same = still (some_or used);
              }) second kept_too left_too)));
        }
          where
            still : (used ≡ 0) ⊎ (0 < used) → previous_at mantissa.entry (slots_dictionary mid) ≡ previous_at mantissa.entry (slots_dictionary m.slots)
            still (inl none) = ap (λ (d : Slots). previous_at mantissa.entry (slots_dictionary d)) (left none)
            still (inr some) = ap (previous_at mantissa.entry) (kept some) ∙ own some _ (slots_dictionary m.slots)

-- An exponent under default or copy uses a bit, and a mantissa under delta none.
pub usual_uses : (e : FieldInstruction) → IsUsualExponent e → uses_bit (field_data e) ≡ true
usual_uses e (inl is) = ap (λ o. operator_uses_bit o e.optional) is
usual_uses e (inr is) = ap (λ o. operator_uses_bit o e.optional) is

pub delta_uses : (f : FieldInstruction) → f.operator ≡ Delta → uses_bit (field_data f) ≡ false
delta_uses f is = ap (λ o. operator_uses_bit o f.optional) is

-- So it always stands in the stream.
pub delta_part : (f : FieldInstruction) (s : Bool) (rest : List ℕ) (seen : Slots) (x : Option ℤ) (n : ℕ) → f.operator ≡ Delta
    → IsPartBy true f true s rest seen x n → IsPart f true s rest seen x n
delta_part f s rest seen x n is h = subst (λ (b : Bool). IsPartBy b f true s rest seen x n) (sym (ap (λ o. needs_bytes o true) is)) h

-- what a code says of the parts, of the parts themselves
pub told_parts : (operator : Operator) (optional : Bool) (entry : ℕ) (e m : FieldInstruction) (shape : Shape) → shape ≡ Decimal e m
    → IsChangedPartsCoded operator optional entry shape
    → (e.operator ≡ operator) × (e.optional ≡ optional) × (m.operator ≡ Delta) × (m.optional ≡ false) × (m.entry ≡ Some entry)
told_parts operator optional entry e m shape same (own, its, is, under, may, by_delta, there, kept) =
    let both : Decimal own its ≡ Decimal e m = sym is ∙ same in
    let first : own ≡ e = cc in
    let second : its ≡ m = cc in
    rw (sym first) (rw (sym second) (under, may, by_delta, there, kept))

pub usual_by : (e : FieldInstruction) (operator : Operator) → e.operator ≡ operator → (operator ≡ Default) ⊎ (operator ≡ Copy) → IsUsualExponent e
usual_by e operator is (inl by) = inl (is ∙ by)
usual_by e operator is (inr by) = inr (is ∙ by)
