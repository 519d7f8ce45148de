-- What the entry holds decides.
use Rattle.std.proofs.Common.{◌<◌, ◌++◌, ◌∷◌, [], ℕ, List, length, ap, sym, subst, ◌∙◌}
use Rattle.std.specs.Prelude.{true, false, None, Some}
use Rattle.std.proofs.lemmas.List.{append-nil}
use Rattle.fast_value.specs.meaning.Values.{scalar_data}
use Rattle.fast_template.specs.meaning.Flat.{nodes_of}
use Rattle.fast_dict.specs.meaning.Dictionary.{Dictionary, empty, previous_at, write_at}
use Rattle.fast_dict.specs.meaning.Previous.{previous_data}
use Rattle.fast_spelling.specs.declared.forms.Absence.TheVariants.{ByEntry}
use Rattle.fast_spelling.specs.device.Forms.{step_of}
use Rattle.fast_spelling.specs.device.Nodes.{instruction_in}
use Rattle.fast_spelling.specs.meaning.Encoding.{Encodes}
use Rattle.fast_spelling.proofs.rules.Heads.{entry_step, node_known, absence_suits, absent_empty, absent_kept, entry_inside, entry_not}
use Rattle.fast_spelling.proofs.checking.absences.try_by_entry.Goals as goal

pub get-requires : goal.get-requires
get-requires c =
    let h = entry_step (nodes_of c.args.plan.now.templates.now) c.args.here.now c.requires.node c.requires.by_entry in
    let t = c.args.plan.now.templates.now in
    let inside = entry_inside t c.args.here.now.node h.0.shape (node_known t c.args.here.now.node h.0 h.1) h.2 in
    subst (λ (e : ℕ). e < length c.args.work.now.ledger.now) h.3
    (subst (λ (k : ℕ). (step_of h.0.shape).entry < k) (sym c.requires.ready.entries) inside)

pub set_empty-requires : goal.set_empty-requires
set_empty-requires c =
    let h = entry_step (nodes_of c.args.plan.now.templates.now) c.args.here.now c.requires.node c.requires.by_entry in
    let t = c.args.plan.now.templates.now in
    let inside = entry_inside t c.args.here.now.node h.0.shape (node_known t c.args.here.now.node h.0 h.1) h.2 in
    record {
      there = subst (λ (e : ℕ). e < length c.args.work.now.ledger.now) h.3
          (subst (λ (k : ℕ). (step_of h.0.shape).entry < k) (sym c.requires.ready.entries) inside);
    }

pub returns-in_ok-push_bit-in-Empty-clause-suits : goal.returns-in_ok-push_bit-in-Empty-clause-suits
returns-in_ok-push_bit-in-Empty-clause-suits c =
    let h = entry_step (nodes_of c.args.plan.now.templates.now) c.args.here.now c.requires.node c.requires.by_entry in
    let t = c.args.plan.now.templates.now in
    absence_suits t c.args.here.now.node h.0.shape ByEntry (node_known t c.args.here.now.node h.0 h.1) h.2 entry_not

pub returns-in_ok-push_bit-in-Empty-clause-ok : goal.returns-in_ok-push_bit-in-Empty-clause-ok
returns-in_ok-push_bit-in-Empty-clause-ok c =
    let h = entry_step (nodes_of c.args.plan.now.templates.now) c.args.here.now c.requires.node c.requires.by_entry in
    let t = c.args.plan.now.templates.now in
    let d = c.args.work.now.ledger.now in (
      false ∷ [],
      [],
      c.in_ok-push_bit-in-Empty.ensures.bits,
      c.push_bit.ensures.bytes ∙ sym (append-nil c.args.work.now.draft.bytes.items),
      absent_empty t c.args.plan.now.limits c.args.here.now.node h.0.shape d (node_known t c.args.here.now.node h.0 h.1) h.2
          (ap (λ (e : ℕ). previous_at (Some e) d) h.3 ∙ sym c.get.ensures.value ∙ ap previous_data c.in-Empty.is),
    )

pub returns-in_ok-push_byte-in-Assigned-clause-suits : goal.returns-in_ok-push_byte-in-Assigned-clause-suits
returns-in_ok-push_byte-in-Assigned-clause-suits c =
    let h = entry_step (nodes_of c.args.plan.now.templates.now) c.args.here.now c.requires.node c.requires.by_entry in
    let t = c.args.plan.now.templates.now in
    absence_suits t c.args.here.now.node h.0.shape ByEntry (node_known t c.args.here.now.node h.0 h.1) h.2 entry_not

pub returns-in_ok-push_byte-in-Assigned-clause-ok : goal.returns-in_ok-push_byte-in-Assigned-clause-ok
returns-in_ok-push_byte-in-Assigned-clause-ok c =
    let h = entry_step (nodes_of c.args.plan.now.templates.now) c.args.here.now c.requires.node c.requires.by_entry in
    let t = c.args.plan.now.templates.now in
    let l = c.args.plan.now.limits in
    let d = c.args.work.now.ledger.now in
    let i = instruction_in (nodes_of t) c.args.here.now.node in (
      true ∷ [],
      0x80 ∷ [],
      c.in_ok-push_bit-in-Assigned.ensures.bits,
      c.in_ok-push_byte-in-Assigned.ensures ∙ ap (λ (w : List ℕ). w ++ 0x80 ∷ []) c.push_bit-in-Assigned.ensures.bytes,
      subst (λ (z : Dictionary). Encodes l i d None (true ∷ []) (0x80 ∷ []) z)
          (ap (λ (e : ℕ). write_at (Some e) empty d) h.3 ∙ sym c.set_empty.ensures.now)
          (absent_kept t l c.args.here.now.node h.0.shape d c.in-Assigned.field-0 (scalar_data c.in-Assigned.field-1) (node_known t
          c.args.here.now.node h.0 h.1) h.2
          (ap (λ (e : ℕ). previous_at (Some e) d) h.3 ∙ sym c.get.ensures.value ∙ ap previous_data c.in-Assigned.is)),
    )
