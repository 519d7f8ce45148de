-- Where the messages of a template start that has an identifier.
use Rattle.std.proofs.Common.{sym, ap, ◌∙◌, subst, arith}
use Rattle.std.specs.Prelude.{◌≡◌, ◌≢◌, ℕ, ◌<◌, slice_get, Option, Some, IfSome}
use Rattle.std.specs.Borrow.{Bor}
use Rattle.fast_value.specs.declared.settings.Limits.{Limits}
use Rattle.fast_tree.specs.declared.instructions.Template.{Template}
use Rattle.fast_program.specs.declared.starts.Start.{Start}
use Rattle.fast_program.specs.device.Starts.{id_number, IsStartOf}
use Rattle.fast_template.specs.declared.sets.Templates.{Templates}
use Rattle.fast_machine.specs.declared.machine.Machine.{Machine}
use Rattle.fast_machine.specs.device.Positions.{Set, set_of, IsStartIn, IsSupplied}
use Rattle.fast_machine.specs.device.Starts.{IsStartWith}

-- The latest start, if there is one, is one of the set.
pub latest_in : (set : Set) (latest : Option (Bor Start)) (s : Bor Start) → latest ≡ Some s → IfSome latest (λ r. IsStartIn set r.now) → IsStartIn set s.now
latest_in set latest s is h = subst (λ (o : Option (Bor Start)). IfSome o (λ r. IsStartIn set r.now)) is h

-- The identifiers of a set are distinct, so a start that tells the identifier is that of the first template with it.
pub start_with : (ts : Templates) (s : Start) (id : ℕ) → IsStartIn (set_of ts) s → s.id ≡ id → IsStartWith (set_of ts) id s
start_with ts s id (t, found, is, named, its) same =
    let own : t.id ≡ Some id = its ∙ ap Some (ap id_number (sym its) ∙ sym is.id ∙ same) in
    record {
      template = t;
      found = found;
      is = is;
      own = own;
      first = λ j u before there its. (let again : j ≡ s.number = ts.distinct_ids j s.number id u t there found its own in omega (arith, before, again));
    }

-- The start of the first template with the identifier, by its number.
pub start_numbered : (set : Set) (id i : ℕ) (s : Start) (t u : Template) → s.number ≡ i → slice_get set.templates i ≡ Some u
    → IsStartOf set.program s u → slice_get set.templates i ≡ Some t → t.id ≡ Some id
    → ((j : ℕ) (v : Template) → j < i → slice_get set.templates j ≡ Some v → v.id ≢ Some id) → IsStartWith set id s
start_numbered set id i s t u number there is found own first =
    let both : Some u ≡ Some t = sym there ∙ found in
    let same : u ≡ t = cc both in
    record {
      template = t;
      found = rw number found;
      is = subst (IsStartOf set.program s) same is;
      own = own;
      first = rw number first;
    }

-- A start with an identifier is one of the set.
pub start_in : (set : Set) (id : ℕ) (s : Start) → IsStartWith set id s → IsStartIn set s
start_in set id s w = (w.template, w.found, w.is, id, w.own)

-- With another start that it knows a machine has all that it needs.
pub supplied_latest : (set : Set) (l : Limits) (m : Machine) (latest : Option (Bor Start)) → IsSupplied set l m
    → IfSome latest (λ s. IsStartIn set s.now) → IsSupplied set l (record m { latest = latest })
supplied_latest set l m latest h known = record {
  entries = h.entries;
  serves = h.serves;
  some_entry = h.some_entry;
  max_text = h.max_text;
  least_text = h.least_text;
  text_room = h.text_room;
  carry_room = h.carry_room;
  depth = h.depth;
  program = h.program;
  identifier = h.identifier;
  counted = h.counted;
  latest = known;
}
