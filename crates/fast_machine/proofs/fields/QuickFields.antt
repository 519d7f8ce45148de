-- Fields by their nodes, where they stand in the stream.
use Rattle.std.proofs.Common.{ap, ◌∙◌, inl, inr, arith}
use Rattle.std.specs.Prelude.{◌≡◌, ◌≢◌, ◌⊎◌, ℕ, ◌<◌, ◌≤◌, Bool, true, false, length, slice_get, get_or, Some, None, if◌then◌else◌}
use Rattle.std.proofs.lemmas.Option.{slice_get_cases}
use Rattle.fast_wire.specs.meaning.Maps.{first_bit}
use Rattle.fast_tree.specs.declared.instructions.Node.{Node}
use Rattle.fast_tree.specs.declared.operators.Operator.TheVariants.{Constant}
use Rattle.fast_template.specs.declared.sets.Templates.{Templates}
use Rattle.fast_tree.specs.meaning.Tree.{FieldData, uses_bit}
use Rattle.fast_cursor.specs.device.Cursors.{CursorData}
use Rattle.fast_stream.specs.meaning.Fields.{field_term}
use Rattle.fast_stream.specs.meaning.Messages.{State}
use Rattle.fast_cursor.specs.device.Segments.{first_node}
use Rattle.fast_units.specs.device.UnitFronts.{IsSent}
use Rattle.fast_machine.specs.device.Positions.{bit_of}

-- Its presence bit is set, or it has none.
pub sent_by_bit : (f : FieldData) (st : State) (b : Bool) → f.operator ≢ Constant → uses_bit f ≡ b
    → (b ≡ false) ⊎ (first_bit st.bits ≡ true) → IsSent f (bit_of f st)
sent_by_bit f st b varies is h = record {
  varies = varies;
  as_sent = λ l p. ap (field_term l f p) (set_by b is h);
}
  where
    set_by : (c : Bool) → uses_bit f ≡ c → (c ≡ false) ⊎ (first_bit st.bits ≡ true) → bit_of f st ≡ true
    set_by false e i = ap (λ x. if x then first_bit st.bits else true) e
    set_by true e (inl i) = absurd (cc i)
    set_by true e (inr i) = ap (λ x. if x then first_bit st.bits else true) e ∙ i

module _ (t : Templates) (c : CursorData) (n : ℕ) (first : first_node c.left ≡ Some n) (within : n < length t.nodes.items) where
  -- the node
  pub node_here : (v : Node) × (slice_get t.nodes.items n ≡ Some v)
  node_here = by (slice_get_cases t.nodes.items n).1
    where
      by : ((x : Node) × (n < length t.nodes.items) × (slice_get t.nodes.items n ≡ Some x) × (get_or t.nodes.items n x ≡ x))
          ⊎ ((length t.nodes.items ≤ n) × (slice_get t.nodes.items n ≡ None)) → (v : Node) × (slice_get t.nodes.items n ≡ Some v)
      by (inl (x, below, found, same)) = (x, found)
      by (inr (past, none)) = absurd (omega (arith, within, past))
