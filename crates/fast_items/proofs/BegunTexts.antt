-- Deltas of texts that begin in the piece and go on after it.
use Rattle.std.proofs.Common.{refl, sym, ap, ◌∙◌, subst, arith, to_z, of_z}
use Rattle.std.specs.Int.{w32, w64}
use Rattle.std.specs.Prelude.{◌≡◌, ◌≢◌, ℕ, ◌+◌, ◌-◌, ◌<◌, ◌≤◌, Bool, true, false, List, [], length, take, drop, ℤ, pos, negsuc, ◌≤ℤ◌, ◌<ℤ◌}
use Rattle.std.specs.Prelude.{Some, option_map, Ok}
use Rattle.std.proofs.lemmas.Int.{ints}
use Rattle.std.proofs.lemmas.List.{length-take-le, length-drop}
use Rattle.fast_fronts.specs.device.Fronts.{IsFirstInt}
use Rattle.fast_fronts.specs.declared.fronts.First.TheVariants as First
use Rattle.fast_wire.specs.meaning.Integers.{IsWithin, unsigned_range, signed_range}
use Rattle.fast_value.specs.declared.kinds.Kind.{Kind}
use Rattle.fast_value.specs.declared.kinds.Kind.TheVariants as K
use Rattle.fast_value.specs.meaning.Kinds.{texts, family, value_of_text}
use Rattle.fast_value.specs.meaning.Limits.{Bounds}
use Rattle.fast_tree.specs.declared.operators.Operator.TheVariants as Op
use Rattle.fast_tree.specs.meaning.Tree.{FieldData}
use Rattle.fast_dict.specs.meaning.Dictionary.{Dictionary, assigned, previous_at}
use Rattle.fast_dict.specs.meaning.Operators.{append_to, prepend_to, kept_of, kept_length, subtraction_step}
use Rattle.fast_stream.specs.meaning.Phrases.{cut}
use Rattle.fast_stream.specs.meaning.Units.{ascii_text}
use Rattle.fast_stream.specs.meaning.Fields.{field_term}
use Rattle.fast_stream.specs.device.GrammarReaders.{reader_of}
use Rattle.fast_units.specs.device.Taking.{Turns}
use Rattle.fast_units.specs.device.Stages.{term_behind}
use Rattle.fast_items.specs.device.FieldsAs.{IsFieldAs}
use Rattle.fast_items.specs.device.TextsAs.{LeavesRoom, HasBegun}
use Rattle.fast_units.specs.declared.stages.Stage.TheVariants.{Part, PartVector}
use Rattle.fast_items.proofs.JoinedTexts.{keeps_front, keeps_back}
use Rattle.fast_units.proofs.Turning.{turns_run}
use Rattle.fast_units.proofs.LastUnits.{again}
use Rattle.fast_items.proofs.WholeTexts.{in_runs, both_within}
use Rattle.fast_items.proofs.WholeDeltas.{keeps_step, part_size_turns, subtraction_turns}

-- The room beside what is kept of a text, on whichever side the bytes are dropped.
module _ (kind : Kind) (entry room : ℕ) (d : Dictionary) (base : List ℕ) (dropped : ℕ)
    (held : previous_at (Some entry) d ≡ assigned kind (value_of_text kind base)) (within : dropped ≤ length base) where
  pub leaves_room : (k : ℤ) → (pos 0 ≤ℤ k → k ≡ pos dropped) → (k <ℤ pos 0 → k ≡ negsuc dropped)
      → LeavesRoom kind entry k room (room - (length base - dropped)) d
  leaves_room (pos n) end front = record {
    base = base;
    held = held;
    kept = append_to (take (length base - dropped) base);
    keeps = ap (kept_of base) (end (omega (arith, ints))) ∙ keeps_front base dropped within;
    leaves = ap (λ m. room - m) (sym (length-take-le (length base - dropped) base (omega arith)));
  }
  leaves_room (negsuc n) end front = record {
    base = base;
    held = held;
    kept = prepend_to (drop dropped base);
    keeps = ap (kept_of base) (front (omega (arith, ints))) ∙ keeps_back base dropped within;
    leaves = ap (λ m. room - m) (sym (length-drop dropped base));
  }

-- The subtraction length stands whole, and leaves room for the part. It is passed on in fewer bits.
module _ (s : Bool) (l : Bounds) (f : FieldData) (rest : List ℕ) (d : Dictionary) (kind : Kind) (optional : Bool) (entry : ℕ) (k : ℤ)
    (room left a : ℕ) (same : l.max_text ≡ room) (is : IsFieldAs f kind optional Op.Delta entry) (is_text : family kind ≡ texts)
    (sent : IsFirstInt (λ y. y) s (signed_range 31) optional (First.Whole (Some k) a) rest)
    (told : LeavesRoom kind entry (to_z w64 (of_z w64 k)) room left d) where
  given : IsFirstInt (λ y. y) s (signed_range 31) f.optional (First.Whole (Some k) a) rest
  given = subst (λ (b : Bool). IsFirstInt (λ y. y) s (signed_range 31) b (First.Whole (Some k) a) rest) (sym is.optional) sent

  within : IsWithin (signed_range 31) k
  within = sent.1.fits

  long : to_z w64 (of_z w64 k) ≡ k
  long = let h = within in again w64 k (omega (arith, ints, h))

  passed : k ≡ to_z w32 (of_z w32 (to_z w64 (of_z w64 k)))
  passed = let h = within in sym (ap (λ (x : ℤ). to_z w32 (of_z w32 x)) long ∙ again w32 k (omega (arith, ints, h)))

  j : LeavesRoom kind entry k l.max_text left d
  j = rw same (subst (λ (x : ℤ). LeavesRoom kind entry x room left d) long told)

  step : subtraction_step f (previous_at f.entry d) k ≡ Ok j.kept
  step = keeps_step f d kind entry k j.base j.kept is.kind (is.entry refl) j.held j.keeps

  goes : (0 < a) × (a ≤ length rest) × Turns (reader_of s (field_term l f (previous_at f.entry d) true)) (take a rest)
      (reader_of s (term_behind l f (previous_at f.entry d) (Part k)))
  goes = subtraction_turns s l f (previous_at f.entry d) rest k a (ap family is.kind ∙ is_text) is.operator given

  pub ascii_begun : kind ≡ K.Ascii → ascii_text false left (drop a rest) [] cut
      → HasBegun s l f (previous_at f.entry d) rest (Part (to_z w32 (of_z w32 (to_z w64 (of_z w64 k))))) a
  ascii_begun e h = subst (λ (x : ℤ). HasBegun s l f (previous_at f.entry d) rest (Part x) a) passed (record {
    some = goes.0;
    within = goes.1;
    stage = (ap family is.kind ∙ is_text, is.operator, (j.kept, step));
    bytes = (is.kind ∙ e, (j.kept, step, subst (λ most. ascii_text false most (drop a rest) [] cut) j.leaves h));
    turns = goes.2;
  })

  -- The part's size stands whole too.
  pub vector_begun : (size b : ℕ) → kind ≢ K.Ascii → IsFirstInt (λ y. option_map pos y) s (unsigned_range 32) false
      (First.Whole (Some size) b) (drop a rest) → size ≤ left → length (drop a rest) - b < size
      → HasBegun s l f (previous_at f.entry d) rest (PartVector (to_z w32 (of_z w32 (to_z w64 (of_z w64 k)))) size) (a + b)
  vector_begun size b no_ascii sized fits short =
      let p = previous_at f.entry d in
      let no_ascii_field : f.kind ≢ K.Ascii = λ e. no_ascii (sym is.kind ∙ e) in
      let has_room : size ≤ l.max_text - kept_length j.kept = subst (λ most. size ≤ most) j.leaves fits in
      let (some, here, sizes) = part_size_turns s l f p k j.kept (drop a rest) size b step no_ascii_field sized has_room in
      let first = goes.0 in
      let both : length (drop (a + b) rest) ≡ length rest - (a + b) = length-drop (a + b) rest in
      let behind : length (drop a rest) ≡ length rest - a = length-drop a rest in
      subst (λ (x : ℤ). HasBegun s l f p rest (PartVector x size) (a + b)) passed (record {
        some = omega (arith, first);
        within = both_within rest a b goes.1 here;
        stage = (ap family is.kind ∙ is_text, no_ascii_field, is.operator, omega (arith, short), (j.kept, step, has_room));
        bytes = omega (arith, both, behind, short);
        turns = subst (λ w. Turns (reader_of s (field_term l f p true)) w (reader_of s (term_behind l f p (PartVector k size))))
            (in_runs rest a b) (turns_run goes.2 sizes);
      })
