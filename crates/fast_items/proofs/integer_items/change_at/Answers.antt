-- The sum is kept.
use Rattle.std.proofs.Common.{◌≡◌, ◌∙◌, ◌+ℤ◌, rules, sym, ap, subst, Some, Ok, FitsSigned}
use Rattle.std.specs.Int.{w64}
use Rattle.fast_value.specs.meaning.Kinds.{value_of_integer, integer_of}
use Rattle.fast_value.specs.declared.codes.Code.TheVariants.{D2}
use Rattle.fast_dict.specs.meaning.Dictionary.{previous_at, assigned, write_at}
use Rattle.fast_dict.specs.meaning.Operators.{◌>>=◌, keeps, ranged, range_of, integer_step}
use Rattle.fast_dict.specs.meaning.Slots.{slots_dictionary}
use Rattle.fast_units.specs.device.Deciding.{number_data, source_of}
use Rattle.fast_units.proofs.Deciding.{decided_as, keep_decided, base_stepped, base_own, item_value}
use Rattle.fast_items.proofs.IntegerItems.{held_at}
use Rattle.fast_units.proofs.LastUnits.{again}
use Rattle.fast_items.proofs.integer_items.change_at.Goals as goal

pub returns-clause-decided : goal.returns-clause-decided
returns-clause-decided c f kind entry =
    let old = slots_dictionary c.args.slots.now in
    let new = slots_dictionary c.keep_changed_at.new.slots in
    let p = previous_at f.entry old in
    let v = number_data c.in_ok-number.number in
    let n = c.in_ok-sum.sum in
    let held : p ≡ assigned f.kind v = held_at f old c.held.result c.args.entry
    (assigned c.args.kind v) entry c.held.ensures c.in_ok-number.ensures ∙ ap (λ k. assigned k v) (sym kind) in
    let fits : FitsSigned w64 c.args.delta = search rules in
    let (x, summed, kept) = c.in_ok-sum.ensures in
    let inside : ranged (range_of c.args.kind) D2 (integer_of v +ℤ c.args.delta) ≡ Ok x =
    subst (λ d. ranged (range_of c.args.kind) D2 (integer_of v +ℤ d) ≡ Ok x) (again w64 c.args.delta fits) summed in
    let step : integer_step f p c.args.delta ≡ keeps f.kind (number_data n) =
    base_stepped f p c.args.delta
    ∙ ap (λ b. b >>= (λ x. ranged (range_of f.kind) D2 (x +ℤ c.args.delta) >>= (λ y. keeps f.kind (value_of_integer f.kind y)))) (base_own f p v held)
    ∙ ap (λ k. ranged (range_of k) D2 (integer_of v +ℤ c.args.delta) >>= (λ y. keeps k (value_of_integer k y))) kind
    ∙ ap (λ r. r >>= (λ y. keeps c.args.kind (value_of_integer c.args.kind y))) inside
    ∙ ap (keeps c.args.kind) (sym kept)
    ∙ ap (λ k. keeps k (number_data n)) (sym kind) in
    let there : new ≡ write_at f.entry (assigned f.kind (number_data n)) old =
    c.keep_changed_at.ensures.entry ∙ ap (λ e. write_at e (assigned c.args.kind (number_data n)) old) (sym entry)
    ∙ ap (λ k. write_at f.entry (assigned k (number_data n)) old) (sym kind) in
    decided_as f old new (Ok (source_of (Some n))) step (keep_decided f old new (number_data n) (source_of (Some n)) there (item_value (Some n) f))
